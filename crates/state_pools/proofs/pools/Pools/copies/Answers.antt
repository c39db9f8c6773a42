use Rattle.std.proofs.Common.{◌∙◌, sym, ap, option_map, Some}
use Rattle.route_credit.specs.Pool.{copies}
use Rattle.state_pools.specs.Fits.{is_due, is_touched, place_of, pool_at, table_of}
use Rattle.state_pools.proofs.Listed.{copies_are}
use Rattle.state_pools.proofs.Seats.{has_seat, seat_has, seat_is}
use Rattle.state_pools.proofs.Written.{on_told}
use Rattle.state_pools.proofs.pools.Pools.copies.Goals as goal

pub returns-in-None : goal.returns-in-None
returns-in-None c share known actual last count address fits none numbered is = absurd (has_seat c.args.self.now share known actual last fits none c.args.number address is c.in-None.ensures)

pub returns-in-Some : goal.returns-in-Some
returns-in-Some c = on_told c.copies.result _ _ c.copies.ensures (λ to told share known actual last count address fits none numbered is.
    let old = c.args.self.now in
    let at = sym (ap (option_map (λ p. p.address.items)) c.in-Some.ensures) ∙ ap Some (sym c.as_slice-place.ensures.value) in
    let same = c.as_slice-place.ensures.value ∙ seat_is old share known actual last fits none c.args.number address is c.in-Some.seat.now c.in-Some.ensures in
    told (seat_has old (is_touched old) share (is_due old) known actual last fits c.args.number c.as_slice-place.result.now at) (table_of old)
    ∙ ap (λ a. copies (pool_at old a)) same
    ∙ copies_are (is_touched old) (table_of old) share (pool_at old) (place_of old) (is_due old) known actual last count address fits none numbered)
