use Rattle.std.proofs.Common.{◌≡◌, ◌<◌, ◌^◌, ℕ, true}
use Rattle.std.specs.Prelude.{Some}
use Rattle.amqp_session.specs.Ranges.{has}
use Rattle.amqp_session.specs.Serials.{distance}
use Rattle.state_collections.specs.NumberMap.{at_number}
use Rattle.state_deliveries.proofs.by_id.append_span.Given as goal

-- none is lost, and the numbers at the ids so far are there
abbrev pub invariant-loop-step : goal.invariant-loop-step
invariant-loop-step l = ((n : ℕ) → has n l.fn.numbers.items ≡ true → has n l.numbers.items ≡ true)
    × ((id n : ℕ) → id < 2 ^ 32 → distance l.first id < l.step → at_number l.row id ≡ Some n → has n l.numbers.items ≡ true)
