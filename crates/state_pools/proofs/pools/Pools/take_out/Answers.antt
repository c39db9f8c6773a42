use Rattle.std.proofs.Common.{◌==◌, ◌||◌, ◌∙◌, sym, ap, refl, ℕ, Bool, List, Option, option_map, None, Some}
use Rattle.std.specs.Prelude.{if◌then◌else◌}
use Rattle.state_collections.specs.NumberMap.{at_number}
use Rattle.state_pools.specs.Addresses.{without}
use Rattle.state_pools.specs.Due.{is_copied, is_in, is_place, link_place}
use Rattle.state_pools.specs.Fits.{is_touched, place_of, places_of, pool_at, pool_in, table_of}
use Rattle.state_pools.specs.declared.seat.Seat.{Seat}
use Rattle.state_pools.proofs.Among.{either_right}
use Rattle.state_pools.proofs.AtAddress.{equal_bytes}
use Rattle.state_pools.proofs.Fitting.{itself, places_moved, rested_fits, taken}
use Rattle.state_pools.proofs.Seats.{left_still, moved_due, moved_places, none_removed}
use Rattle.state_pools.proofs.pools.Pools.take_out.Goals as goal

pub returns-in-None-clause-fits : goal.returns-in-None-clause-fits
returns-in-None-clause-fits c share known actual last fits nowhere =
    let old = c.args.self.now in
    moved_places (λ m. c.args.number == m || is_touched old m) (table_of old) share (pool_at old) old.due known actual last (place_of old) (places_of c.remove.new.self)
    (λ m. ap (option_map (λ (seat : Seat). seat.address.items)) (none_removed (at_number old.seats) (at_number c.remove.new.self) c.args.number c.in-None.ensures.before c.in-None.ensures.gone m)) fits

pub returns-in-None-clause-due : goal.returns-in-None-clause-due
returns-in-None-clause-due c =
    let old = c.args.self.now in
    moved_due old.due (place_of old) (places_of c.remove.new.self)
    (λ m. ap (option_map (λ (seat : Seat). seat.address.items)) (none_removed (at_number old.seats) (at_number c.remove.new.self) c.args.number c.in-None.ensures.before c.in-None.ensures.gone m))

pub returns-in_ok-add_left-in-Some-clause-fits : goal.returns-in_ok-add_left-in-Some-clause-fits
returns-in_ok-add_left-in-Some-clause-fits c share known actual last fits nowhere =
    let old = c.args.self.now in
    let q = c.as_slice-address.result.now in
    let place' : ℕ → Option (List ℕ) = places_of c.remove.new.self in
    let due' : List ℕ → Bool = is_in c.add_left.new.self place' in
    let at = sym (ap (option_map (λ p. p.address.items)) c.in-Some.ensures.before) ∙ ap Some (sym c.as_slice-address.ensures.value) in
    let moves = places_moved (λ p. p.address.items) (at_number old.seats) (at_number c.remove.new.self) c.args.number None c.in-Some.ensures.gone in
    let left = taken (λ m. c.args.number == m || is_touched old m) (table_of old) share (pool_at old) (place_of old) (is_in old.due (place_of old)) known actual last fits
    (pool_in (table_of old) c.leave.new.self) q (λ pool. without pool c.args.number) (c.leave.ensures (table_of old)) c.args.number (λ pool. refl)
    at (itself c.args.number (is_touched old c.args.number))
    place' moves
    due' (either_right (is_place (link_place c.add_left.new.self.link place') q) (is_copied c.add_left.new.self q) c.in_ok-add_left-in-Some.ensures.added)
    (left_still old.due c.add_left.new.self (place_of old) place' c.args.number q at c.in_ok-add_left-in-Some.ensures.added c.in_ok-add_left-in-Some.ensures.others old.due.link refl c.in_ok-add_left-in-Some.ensures.left
    (λ m e. moves m ∙ ap (λ b. if b then None else place_of old m) e))
    (nowhere q (ap (λ p. is_place p q) at ∙ equal_bytes q q refl)) in
    rested_fits (λ m. c.args.number == m || is_touched old m) (table_of old) share (pool_in (table_of old) c.leave.new.self) place' due' known actual last left
    (pool_in (table_of old) c.forget.new.self) q (c.forget.ensures.rested (table_of old) (left.distribution q ∙ sym (fits.same q)))

pub returns-in_ok-add_left-in-Some-clause-due : goal.returns-in_ok-add_left-in-Some-clause-due
returns-in_ok-add_left-in-Some-clause-due c =
    let old = c.args.self.now in
    let at = sym (ap (option_map (λ p. p.address.items)) c.in-Some.ensures.before) ∙ ap Some (sym c.as_slice-address.ensures.value) in
    left_still old.due c.add_left.new.self (place_of old) (places_of c.remove.new.self) c.args.number c.as_slice-address.result.now at c.in_ok-add_left-in-Some.ensures.added c.in_ok-add_left-in-Some.ensures.others old.due.link refl c.in_ok-add_left-in-Some.ensures.left
    (λ m e. places_moved (λ p. p.address.items) (at_number old.seats) (at_number c.remove.new.self) c.args.number None c.in-Some.ensures.gone m ∙ ap (λ b. if b then None else place_of old m) e)
