use Rattle.std.proofs.Common.{◌≡◌, ◌==◌, ◌||◌, ◌∙◌, sym, ap, refl, subst, Some, None, []}
use Rattle.std.specs.Prelude.{if◌then◌else◌}
use Rattle.route_credit.specs.Granting.{grants_of}
use Rattle.route_credit.specs.Pool.{offered, without_producer}
use Rattle.state_pools.specs.Sharing.Figure.{consumer}
use Rattle.state_pools.specs.Addresses.{with_pool}
use Rattle.state_pools.specs.Due.{is_in, is_place}
use Rattle.state_pools.specs.Fits.{is_due, is_touched, place_of, pool_at, pool_in, table_of}
use Rattle.state_pools.proofs.Fitting.{but_one, comes_to, offered_fits, offers_elsewhere, stays_at, untouched, widened, without_it}
use Rattle.state_pools.proofs.Seats.{seat_has}
use Rattle.state_pools.proofs.Told.{Told}
use Rattle.state_pools.proofs.pools.Pools.offer.Goals as goal
use Rattle.state_pools.proofs.pools.Pools.offer.Goals.{in-Some+in_ok-may-in-Some, in-None+in_ok-digest-in-None+in_ok-may-in-None}

pub returns-clause-fits : goal.returns-clause-fits
returns-clause-fits c share known other actual last fits is really others =
    let old = c.args.self.now in
    let n = c.args.number in
    let q = c.as_bytes-place.result.now in
    let now = is ∙ ap (λ a. Some (consumer a c.args.free c.args.undecided)) (sym c.as_bytes-place.ensures.value) in
    let wide = widened (is_touched old) (table_of old) share (pool_at old) (place_of old) (is_due old) known actual last fits (λ m. n == m || is_touched old m) (is_due old) known (but_one n (is_touched old) known) (λ a e. e) in
    let told : Told c.match-digest_at.self n q c.match-digest_at.may share other actual last = elim c.match-digest_at.branch [
      | in-Some+in_ok-may-in-Some w ↦
          let at = w.in-Some.ensures.there in
          let has = seat_has old (λ m. n == m || is_touched old m) share (is_due old) known actual last wide n q at in
          subst (λ m. Told m n q c.match-digest_at.may share other actual last) (sym w.self-is) (record {
            there = at;
            fits = λ due still quiet apart less.
                offered_fits (λ m. n == m || is_touched old m) (table_of old) share (pool_at old) (place_of old) (is_due old) known actual last wide
                (pool_in (table_of old) w.offer_there.new.self) q n (place_of old) (stays_at (place_of old) n q at) (λ a away. ap (λ p. is_place p a) at ∙ away)
                due still (λ none. w.in_ok-may-in-Some.ensures.quiet (sym w.may-is ∙ quiet none) has (table_of old))
                apart less other others really c.args.free c.args.undecided (w.in_ok-may-in-Some.ensures.changed has (table_of old)) now;
          })
      | in-None+in_ok-digest-in-None+in_ok-may-in-None w ↦
          let mid = w.move_to.new.self in
          let at = w.in_ok-digest-in-None.ensures.there in
          subst (λ m. Told m n q c.match-digest_at.may share other actual last) (sym w.self-is) (record {
            there = at;
            fits = λ due still quiet apart less.
                offered_fits (λ m. n == m || is_touched mid m) (table_of mid) share (pool_at mid) (λ m. if n == m then None else place_of mid m) (is_due mid) known actual last
                (w.in_ok-digest-in-None.ensures.fits share known actual last wide w.in-None.ensures.elsewhere (λ a. offers_elsewhere (actual n) q a c.args.free c.args.undecided (really ∙ now)))
                (pool_in (table_of mid) w.offer.new.self) q n (place_of mid) (comes_to (place_of mid) n q at) (λ a away. without_it (place_of mid) n a)
                due still
                (λ none. subst (λ b. grants_of (pool_in (table_of mid) w.offer.new.self b) ≡ []) (sym c.as_bytes-place.ensures.value) (w.in_ok-may-in-None.ensures.quiet (sym w.may-is ∙ quiet none) (table_of mid)))
                apart less other others really c.args.free c.args.undecided
                (λ a. w.in_ok-may-in-None.ensures.changed (table_of mid) refl a
                ∙ ap (λ b. with_pool (pool_at mid) b (λ pool. offered (without_producer pool n) n c.args.free c.args.undecided) a) (sym c.as_bytes-place.ensures.value))
                now;
          })
    ] in
    told.fits (is_in c.note.new.due (place_of c.match-digest_at.self)) c.in_ok-note.ensures.others (c.in_ok-note.ensures.without told.there) _ (untouched (is_touched c.match-digest_at.self) _ n c.remove.ensures.gone)
