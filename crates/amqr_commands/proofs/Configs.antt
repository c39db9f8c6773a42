-- A configuration's fault as it is reported.
use Rattle.std.proofs.Common.{◌≡◌, ◌≢◌, ℕ, List, inr}
use Rattle.std.specs.Prelude.{Some}
use Rattle.std.specs.Str.{IsUtf8}
use Rattle.route_table.specs.File.{first_fault}
use Rattle.route_table.specs.declared.faults.ConfigFault.{ConfigFault}
use Rattle.route_table.specs.declared.faults.FaultKind.{FaultKind}
use Rattle.route_table.specs.declared.faults.FaultKind.TheVariants.{Syntax, UnknownSection, UnknownAttribute, BadValue, DuplicatePrefix, Memory}
use Rattle.amqr_commands.specs.Config.{IsRefused, config_refusal, told}

by_kind : (text : List ℕ) (line : ℕ) (kind : FaultKind) → IsUtf8 text → (kind ≢ Memory → first_fault text ≡ Some (line, kind)) → IsRefused text (told line kind)
by_kind text line Syntax utf h = inr (utf, h (λ e. absurd cc))
by_kind text line UnknownSection utf h = inr (utf, h (λ e. absurd cc))
by_kind text line UnknownAttribute utf h = inr (utf, h (λ e. absurd cc))
by_kind text line BadValue utf h = inr (utf, h (λ e. absurd cc))
by_kind text line DuplicatePrefix utf h = inr (utf, h (λ e. absurd cc))
by_kind text line Memory utf h = tt

pub refused : (text : List ℕ) (fault : ConfigFault) → IsUtf8 text → (fault.kind ≢ Memory → first_fault text ≡ Some (fault.line, fault.kind)) → IsRefused text (config_refusal fault)
refused text fault utf h = by_kind text fault.line fault.kind utf h
