use Rattle.std.proofs.Common.{◌≡◌, ◌∙◌, sym, ap, subst, ℕ, List, option_map, Some}
use Rattle.route_credit.specs.Pool.{chose}
use Rattle.state_pools.specs.Addresses.{with_pool}
use Rattle.state_pools.specs.Fits.{is_due, is_touched, place_of, pool_at, pool_in, table_of}
use Rattle.state_pools.proofs.Fitting.{chosen_fits}
use Rattle.state_pools.proofs.Seats.{has_seat, seat_has, seat_is}
use Rattle.state_pools.proofs.pools.Pools.note.Goals as goal

pub returns-in_default-clause-fits : goal.returns-in_default-clause-fits
returns-in_default-clause-fits c share known last address fits none is = absurd (has_seat c.args.self.now share known known last fits none c.args.number address is c.in_default.ensures)

pub returns-in-Some-clause-fits : goal.returns-in-Some-clause-fits
returns-in-Some-clause-fits c share known last address fits none is =
    let old = c.args.self.now in
    let at = sym (ap (option_map (λ p. p.address.items)) c.in-Some.ensures) ∙ ap Some (sym c.as_slice-place.ensures.value) in
    let same = c.as_slice-place.ensures.value ∙ seat_is old share known known last fits none c.args.number address is c.in-Some.seat.now c.in-Some.ensures in
    chosen_fits (is_touched old) (table_of old) share (pool_at old) (place_of old) (is_due old) known known last fits _ address (Some c.args.consumer.0)
    (subst (λ (b : List ℕ). (a : List ℕ) → pool_in (table_of old) c.note.new.self a ≡ with_pool (pool_at old) b (λ pool. chose pool (Some c.args.consumer.0)) a) same
    (c.note.ensures (seat_has old (is_touched old) share (is_due old) known known last fits c.args.number c.as_slice-place.result.now at) (table_of old)))
    (λ n a. fits.consumers n a (none n))
