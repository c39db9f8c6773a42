use Rattle.std.proofs.Common.{◌≡◌, ◌∙◌, sym, ap, option_map, None, Some}
use Rattle.route_credit.specs.Granting.{choice}
use Rattle.route_credit.specs.declared.ids.ConsumerId.{ConsumerId}
use Rattle.state_pools.specs.Fits.{is_due, is_touched, place_of, pool_at, table_of}
use Rattle.state_pools.proofs.Listed.{choice_is}
use Rattle.state_pools.proofs.Seats.{has_seat, seat_has, seat_is}
use Rattle.state_pools.proofs.pools.Pools.peek.Goals as goal

pub returns-in_default : goal.returns-in_default
returns-in_default c share known actual last count address fits none numbered is = absurd (has_seat c.args.self.now share known actual last fits none c.args.number address is c.in_default.ensures)

pub returns-in-None : goal.returns-in-None
returns-in-None c share known actual last count address fits none numbered is =
    let old = c.args.self.now in
    let ids : option_map (λ (k : ConsumerId). k.0) c.peek.result ≡ None = ap (option_map (λ (k : ConsumerId). k.0)) c.in-None.is in
    let at = sym (ap (option_map (λ p. p.address.items)) c.in-Some.ensures) ∙ ap Some (sym c.as_slice-place.ensures.value) in
    let same = c.as_slice-place.ensures.value ∙ seat_is old share known actual last fits none c.args.number address is c.in-Some.seat.now c.in-Some.ensures in
    sym ids ∙ c.peek.ensures (seat_has old (is_touched old) share (is_due old) known actual last fits c.args.number c.as_slice-place.result.now at) (table_of old)
    ∙ ap (λ a. choice (pool_at old a)) same
    ∙ choice_is (is_touched old) (table_of old) share (pool_at old) (place_of old) (is_due old) known actual last count address fits none numbered

pub returns-in-Some-peek : goal.returns-in-Some-peek
returns-in-Some-peek c share known actual last count address fits none numbered is =
    let old = c.args.self.now in
    let ids : option_map (λ (k : ConsumerId). k.0) c.peek.result ≡ Some c.in-Some-peek.consumer.0 = ap (option_map (λ (k : ConsumerId). k.0)) c.in-Some-peek.is in
    let at = sym (ap (option_map (λ p. p.address.items)) c.in-Some.ensures) ∙ ap Some (sym c.as_slice-place.ensures.value) in
    let same = c.as_slice-place.ensures.value ∙ seat_is old share known actual last fits none c.args.number address is c.in-Some.seat.now c.in-Some.ensures in
    sym ids ∙ c.peek.ensures (seat_has old (is_touched old) share (is_due old) known actual last fits c.args.number c.as_slice-place.result.now at) (table_of old)
    ∙ ap (λ a. choice (pool_at old a)) same
    ∙ choice_is (is_touched old) (table_of old) share (pool_at old) (place_of old) (is_due old) known actual last count address fits none numbered
