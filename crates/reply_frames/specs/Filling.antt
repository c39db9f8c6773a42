-- What a delivery's frame carries, and whether it says that more is to come (AMQP 1.0 part 2, section 2.7.5).
use Rattle.std.specs.Prelude.{◌≡◌, ℕ, Bool, false, List, [], ◌++◌}
use Rattle.amqp_model.specs.declared.perf.Perf.{Perf}
use Rattle.amqp_model.specs.declared.perf.Perf.TheVariants as perf
use Rattle.amqp_model.specs.declared.item.Item.{Item}
use Rattle.amqp_model.specs.declared.item.Item.TheVariants as item

abbrev pub payload_in : Item → List ℕ
payload_in (item.Frame sasl channel body payload) = payload
payload_in _ = []

abbrev pub more_in : Perf → Bool
more_in (perf.Transfer x) = x.more
more_in _ = false

abbrev pub has_more : Item → Bool
has_more (item.Frame sasl channel body payload) = more_in body
has_more _ = false

abbrev pub IsBeginning : List ℕ → List ℕ → Type 0
IsBeginning front all = (behind : List ℕ) × (front ++ behind ≡ all)
