use Rattle.std.proofs.Common.{◌∙◌, sym, ap, option_map, Some}
use Rattle.route_credit.specs.Links.{link_at}
use Rattle.route_credit.specs.Pool.{by_id}
use Rattle.state_pools.specs.Due.{is_place}
use Rattle.state_pools.specs.Fits.{is_due, is_touched, place_of, pool_at, table_of}
use Rattle.state_pools.specs.declared.seat.Seat.{Seat}
use Rattle.state_pools.proofs.Among.{not_it}
use Rattle.state_pools.proofs.Fitting.{granted_fits, more_apart}
use Rattle.state_pools.proofs.Granting.{first_is, none_granted, not_due}
use Rattle.state_pools.proofs.Seats.{seat_has}
use Rattle.state_pools.proofs.pools.Pools.next_grants.Goals as goal

pub returns-in_default-get-clause-none : goal.returns-in_default-get-clause-none
returns-in_default-get-clause-none c share known actual last count fits none numbered a =
    let old = c.args.self.now in
    none_granted old share known actual last count fits none numbered a (not_due old.due (place_of old) (Some c.in-Some.number) a c.in-Some.ensures.link
    (ap (λ x. is_place (option_map (λ (seat : Seat). seat.address.items) x) a) (sym c.in_default-get.ensures)) (c.in-Some.ensures.alone a))

pub returns-clause-first : goal.returns-clause-first
returns-clause-first c =
    let old = c.args.self.now in
    let q = c.as_slice-place.result.now in
    let at = sym (ap (option_map (λ (seat : Seat). seat.address.items)) c.in-Some-get.ensures) ∙ ap Some (sym c.as_slice-place.ensures.value) in
    first_is old q (by_id c.in_ok-sums.sums.items)
    (λ share known actual last fits. c.in_ok-sums.ensures.sums (seat_has old (is_touched old) share (is_due old) known actual last fits c.in-Some.number q at) (table_of old))
    (λ a less. not_due old.due (place_of old) (Some c.in-Some.number) a c.in-Some.ensures.link (ap (λ p. is_place p a) at ∙ not_it q a less) (c.in-Some.ensures.alone a))

pub returns-clause-fits : goal.returns-clause-fits
returns-clause-fits c share known actual last fits =
    let old = c.args.self.now in
    let q = c.as_slice-place.result.now in
    let at = sym (ap (option_map (λ (seat : Seat). seat.address.items)) c.in-Some-get.ensures) ∙ ap Some (sym c.as_slice-place.ensures.value) in
    let has = seat_has old (is_touched old) share (is_due old) known actual last fits c.in-Some.number q at in
    let sums_are = ap by_id c.as_slice-granted.ensures.value ∙ c.in_ok-sums.ensures.sums has (table_of old) in
    granted_fits (is_touched old) (table_of old) share (pool_at old) (place_of old) (is_due old) known actual last fits
    _ q (c.in_ok-sums.ensures.filled has (table_of old))
    _ (λ n is. let both = more_apart _ (is_touched old n) (link_at (by_id c.as_slice-granted.result.now) n) (c.in_ok-touch_all.ensures n) is in
    (both.0, ap (λ sums. link_at sums n) (sym sums_are) ∙ both.1))
    _ (λ a other none. not_due old.due (place_of old) (Some c.in-Some.number) a c.in-Some.ensures.link (ap (λ p. is_place p a) at ∙ other) (c.in-Some.ensures.alone a))
