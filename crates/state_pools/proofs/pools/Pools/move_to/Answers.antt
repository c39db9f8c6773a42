use Rattle.std.proofs.Common.{◌≡◌, ◌==◌, ◌||◌, ◌∙◌, ap, refl, ℕ, None, Some}
use Rattle.std.specs.Prelude.{if◌then◌else◌}
use Rattle.state_collections.specs.NumberMap.{at_number}
use Rattle.state_pools.specs.Due.{is_copied, is_in, is_place, link_place}
use Rattle.state_pools.specs.Fits.{is_due, is_touched, place_of, places_of, pool_at, table_of}
use Rattle.state_pools.proofs.Among.{left_false, neither, right_false}
use Rattle.state_pools.proofs.Fitting.{elsewhere_is, placed_as, places_moved, widened}
use Rattle.state_pools.proofs.Seats.{comes_due, left_out}
use Rattle.state_pools.proofs.pools.Pools.move_to.Goals as goal

pub returns-clause-fits : goal.returns-clause-fits
returns-clause-fits c share known actual last fits not_here others =
    let old = c.args.self.now in
    let mid = c.take_out.new.self in
    let n = c.args.number in
    let place' = places_of c.insert.new.self in
    let moves : (m : ℕ) → place' m ≡ (if n == m then Some c.args.address.now else place_of mid m) =
    (λ m. places_moved (λ p. p.address.items) (at_number mid.seats) (at_number c.insert.new.self) n (Some c.in_ok-seat.seat) c.in_ok-insert.ensures.set m ∙ ap (λ q. if n == m then Some q else place_of mid m) c.in_ok-seat.ensures) in
    let came = c.in_ok-take_out.ensures.fits share known actual last fits (λ a at. others a (elsewhere_is (place_of old n) c.args.address.now not_here a at)) in
    let wide = widened (λ m. n == m || is_touched mid m) (table_of mid) share (pool_at mid) (place_of mid) (is_due mid) known actual last came
    (λ m. n == m || is_touched mid m) (is_in mid.due place') known (λ m is. (is, refl))
    (λ a none. neither (is_place (link_place mid.due.link (place_of mid)) a) (is_copied mid.due a)
    (comes_due (place_of mid) place' n (Some c.args.address.now) c.in_ok-take_out.ensures.nowhere moves mid.due.link a (left_false (is_place (link_place mid.due.link place') a) (is_copied mid.due a) none))
    (right_false (is_place (link_place mid.due.link place') a) (is_copied mid.due a) none)) in
    placed_as (λ m. n == m || is_touched mid m) (table_of mid) share (pool_at mid) (place_of mid) (is_in mid.due place') known actual last wide
    (λ m. if n == m then None else place' m) (left_out (place_of mid) place' n (Some c.args.address.now) c.in_ok-take_out.ensures.nowhere moves)

pub returns-clause-due : goal.returns-clause-due
returns-clause-due c a none =
    let mid = c.take_out.new.self in
    let n = c.args.number in
    let place' = places_of c.insert.new.self in
    c.in_ok-take_out.ensures.due a (neither (is_place (link_place mid.due.link (place_of mid)) a) (is_copied mid.due a)
    (comes_due (place_of mid) place' n (Some c.in_ok-seat.seat.address.items) c.in_ok-take_out.ensures.nowhere
    (places_moved (λ p. p.address.items) (at_number mid.seats) (at_number c.insert.new.self) n (Some c.in_ok-seat.seat) c.in_ok-insert.ensures.set)
    mid.due.link a (left_false (is_place (link_place mid.due.link place') a) (is_copied mid.due a) none))
    (right_false (is_place (link_place mid.due.link place') a) (is_copied mid.due a) none))
