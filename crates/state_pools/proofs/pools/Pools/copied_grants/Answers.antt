use Rattle.std.proofs.Common.{◌≡◌, ◌∙◌, sym, ap, refl, subst, List, ℕ, None}
use Rattle.route_credit.specs.Granting.{all_granted, grants_of}
use Rattle.route_credit.specs.Links.{link_at}
use Rattle.route_credit.specs.Pool.{by_id}
use Rattle.state_pools.specs.Addresses.{with_pool}
use Rattle.state_pools.specs.Due.{is_copied}
use Rattle.state_pools.specs.Fits.{is_due, is_touched, place_of, pool_at, pool_in, table_of}
use Rattle.state_pools.proofs.Fitting.{granted_fits, more_apart}
use Rattle.state_pools.proofs.Granting.{first_is, none_granted, not_due}
use Rattle.state_pools.proofs.Among.{right_false}
use Rattle.state_pools.proofs.pools.Pools.copied_grants.Goals as goal

pub returns-in_default-clause-none : goal.returns-in_default-clause-none
returns-in_default-clause-none c share known actual last count fits none numbered a =
    let old = c.args.self.now in
    none_granted old share known actual last count fits none numbered a (c.in_ok-copy_place.ensures.kept a (not_due c.copy_place.new.due (place_of old) None a c.in_ok-copy_place.ensures.copied refl (c.in_default.ensures.none a)))

pub returns-clause-first : goal.returns-clause-first
returns-clause-first c =
    let old = c.args.self.now in
    first_is old c.in-Some.address.items (by_id c.in_ok-sums.sums.items)
    (λ share known actual last fits. c.in_ok-sums.ensures.sums (table_of old) ∙ ap (λ a. grants_of (pool_at old a)) c.as_slice-place.ensures.value)
    (λ a less. c.in_ok-copy_place.ensures.kept a (not_due c.copy_place.new.due (place_of old) None a c.in_ok-copy_place.ensures.copied refl (c.in-Some.ensures.first a less)))

pub returns-clause-fits : goal.returns-clause-fits
returns-clause-fits c share known actual last fits =
    let old = c.args.self.now in
    let sums_are = ap by_id c.as_slice-granted.ensures.value ∙ c.in_ok-sums.ensures.sums (table_of old) ∙ ap (λ a. grants_of (pool_at old a)) c.as_slice-place.ensures.value in
    granted_fits (is_touched old) (table_of old) share (pool_at old) (place_of old) (is_due old) known actual last fits
    _ c.in-Some.address.items (subst (λ (b : List ℕ). (a : List ℕ) → pool_in (table_of old) c.grants.new.self a ≡ with_pool (pool_in (table_of old) old.pools) b all_granted a) c.as_slice-place.ensures.value (c.in_ok-sums.ensures.filled (table_of old)))
    _ (λ n is. let both = more_apart _ (is_touched old n) (link_at (by_id c.as_slice-granted.result.now) n) (c.in_ok-touch_all.ensures n) is in
    (both.0, ap (λ sums. link_at sums n) (sym sums_are) ∙ both.1))
    _ (λ a other none. c.in_ok-copy_place.ensures.kept a (not_due c.copy_place.new.due (place_of old) None a c.in_ok-copy_place.ensures.copied refl (c.in-Some.ensures.others a other (right_false _ (is_copied c.pop.new.self a) none))))
