-- Durable links: those whose terminus at the router's side outlives its connections (AMQP 1.0 part 3, sections 3.5.3 to 3.5.5).
use Rattle.std.specs.Prelude.{ℕ, Bool, false, ◌==◌, Option, Some}
use Rattle.amqp_model.specs.declared.perf.Attach.{Attach}
use Rattle.amqp_model.specs.declared.perf.Role.{Role}
use Rattle.amqp_model.specs.declared.perf.Role.TheVariants.{Sender, Receiver}
use Rattle.amqp_model.specs.declared.terminus.SourceTerminus.{SourceTerminus}
use Rattle.amqp_model.specs.declared.terminus.SourceTerminus.TheVariants as source
use Rattle.amqp_model.specs.declared.terminus.TargetTerminus.{TargetTerminus}
use Rattle.amqp_model.specs.declared.terminus.TargetTerminus.TheVariants as target

-- a terminus keeps its unsettled deliveries (unsettled-state)
abbrev pub outlives : ℕ → Bool
outlives durable = durable == 2

abbrev pub is_lasting_source : Option SourceTerminus → Bool
is_lasting_source (Some (source.Source s)) = outlives s.durable
is_lasting_source _ = false

abbrev pub is_lasting_target : Option TargetTerminus → Bool
is_lasting_target (Some (target.Target x)) = outlives x.durable
is_lasting_target _ = false

-- the router's terminus does, in this role of the router: the source if it is the sender, the target if it is the receiver
abbrev pub is_durable : Role → Attach → Bool
is_durable Sender a = is_lasting_source a.source
is_durable Receiver a = is_lasting_target a.target
