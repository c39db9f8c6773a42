-- What the bytes of a configuration mean: its sections, or its first faulty line.
use Rattle.std.specs.Prelude.{◌≡◌, ℕ, None, Some, ⊤, ◌⊎◌}
use Rattle.std.specs.Str.{IsUtf8}
use Rattle.amqr_files.specs.declared.status.Refusal.{Refusal}
use Rattle.amqr_files.specs.declared.status.Refusal.TheVariants as refusal
use Rattle.route_table.specs.File.{first_fault, sections}
use Rattle.route_table.specs.Said.{settings_of}
use Rattle.route_table.specs.Settings.{Settings}
use Rattle.route_table.specs.declared.faults.ConfigFault.{ConfigFault}
use Rattle.route_table.specs.declared.faults.FaultKind.{FaultKind}
use Rattle.route_table.specs.declared.faults.FaultKind.TheVariants.{Syntax, Memory}
use Rattle.amqr_commands.specs.Script.{IsFirstBroken}
use Rattle.amqr_commands.specs.Words.{Text}

-- the text is a configuration that says this
abbrev pub IsConfig : Text → Settings → Type 0
IsConfig text config = IsUtf8 text × (first_fault text ≡ None) × (config ≡ settings_of (sections text))

-- how a fault is reported
abbrev pub told : ℕ → FaultKind → Refusal
told line Memory = refusal.Memory
told line kind = refusal.Config line kind

abbrev pub config_refusal : ConfigFault → Refusal
config_refusal fault = told fault.line fault.kind

-- the refusal of a text: text that isn't UTF-8 is a syntax fault, and comes before any other fault
abbrev pub IsRefused : Text → Refusal → Type 0
IsRefused text (refusal.Config line kind) =
    ((IsUtf8 text → ⊥) × IsFirstBroken text line × (kind ≡ Syntax)) ⊎ (IsUtf8 text × (first_fault text ≡ Some (line, kind)))
IsRefused text refusal.Memory = ⊤
IsRefused text _ = ⊥

-- the same for an input whose bytes are this text; `file` is reported where they can't be read to their end
abbrev pub IsRefusedInput : Text → Refusal → Type 0
IsRefusedInput text refusal.File = ⊤
IsRefusedInput text r = IsRefused text r
