use Rattle.std.proofs.Common.{rules, ◌≡◌, ℕ, refl, subst, Some}
use Rattle.std.specs.Prelude.{◌==◌, if◌then◌else◌}
use Rattle.std.specs.Option.{option_map}
use Rattle.state_collections.specs.Ids.{in_ids}
use Rattle.state_collections.specs.NumberMap.{at_number}
use Rattle.state_collections.proofs.Placed.{placed, unplaced}
use Rattle.state_collections.proofs.by_session.BySession.get_mut.Goals as goal

pub returns : goal.returns
returns g c =
    let rows = at_number c.args.self.now.rows in
    let sessions = c.in_ok-sessions.sessions.now in
    let ids = c.in_ok-ids.ids.now in
    let in_conn : rows c.args.conn ≡ Some sessions = search rules in
    let in_session : in_ids (Some sessions) c.args.own ≡ Some ids = search rules in
    let after = c.get_mut-3.follows.lender in
    let none = c.get_mut-3.follows.lender-at-none in (
      (
        refl,
        (λ w. placed in_ids in_ids rows (at_number (c.get_mut.follows.lender (c.get_mut-2.follows.lender (after w)))) sessions (c.get_mut-2.follows.lender (after w)) ids (after w) c.args.conn c.args.own in_conn in_session
            (c.get_mut.follows.holds (c.get_mut-2.follows.lender (after w))) (subst (λ k. (q : ℕ) → at_number (c.get_mut-2.follows.lender (after w)) q ≡ (if k == q then option_map (λ _. (after w)) (at_number sessions q) else at_number sessions q)) c.from.ensures (c.get_mut-2.follows.holds (after w)))
            c.args.id w (subst (λ k. (q : ℕ) → at_number (after w) q ≡ (if k == q then option_map (λ _. w) (at_number ids q) else at_number ids q)) c.from-2.ensures (c.get_mut-3.follows.holds w))),
        unplaced in_ids in_ids rows (at_number (c.get_mut.follows.lender (c.get_mut-2.follows.lender none))) sessions (c.get_mut-2.follows.lender none) ids none c.args.conn c.args.own in_conn in_session
            (c.get_mut.follows.holds (c.get_mut-2.follows.lender none)) (subst (λ k. (q : ℕ) → at_number (c.get_mut-2.follows.lender none) q ≡ (if k == q then option_map (λ _. none) (at_number sessions q) else at_number sessions q)) c.from.ensures (c.get_mut-2.follows.holds none)) c.get_mut-3.follows.holds-at-none,
      ),
      search rules,
    )
