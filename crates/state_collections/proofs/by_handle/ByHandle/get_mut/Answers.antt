use Rattle.std.proofs.Common.{rules, ◌≡◌, refl, ap, Some}
use Rattle.std.specs.Ordering.{nat_cmp}
use Rattle.std.specs.BTreeMap.{get}
use Rattle.state_collections.specs.Places.{in_map}
use Rattle.state_collections.specs.NumberMap.{at_number}
use Rattle.state_collections.proofs.Placed.{placed, unplaced, written}
use Rattle.state_collections.proofs.by_handle.ByHandle.get_mut.Goals as goal

pub returns : goal.returns
returns g c =
    let rows = at_number c.args.self.now.rows in
    let sessions = c.in_ok-sessions.sessions.now in
    let handles = c.in_ok-handles.handles.now in
    let in_conn : rows c.args.conn ≡ Some sessions = search rules in
    let in_session : in_map (Some sessions) c.args.own ≡ Some handles = search rules in
    let after = c.get_mut-3.follows.lender in
    let none = c.get_mut-3.follows.lender-at-none in (
      (
        refl,
        (λ w. placed in_map in_map rows (at_number (c.get_mut.follows.lender (c.get_mut-2.follows.lender (after w)))) sessions (c.get_mut-2.follows.lender (after w)) handles (after w) c.args.conn c.args.own in_conn in_session
            (c.get_mut.follows.holds (c.get_mut-2.follows.lender (after w))) (written sessions (c.get_mut-2.follows.lender (after w)) c.args.own (after w) (c.get_mut-2.follows.holds (after w)))
            c.args.handle w (written handles (after w) c.args.handle w (c.get_mut-3.follows.holds w))),
        unplaced in_map in_map rows (at_number (c.get_mut.follows.lender (c.get_mut-2.follows.lender none))) sessions (c.get_mut-2.follows.lender none) handles none c.args.conn c.args.own in_conn in_session
            (c.get_mut.follows.holds (c.get_mut-2.follows.lender none)) (written sessions (c.get_mut-2.follows.lender none) c.args.own none (c.get_mut-2.follows.holds none)) (λ h. ap (λ m. get nat_cmp m h) c.get_mut-3.follows.holds-at-none),
      ),
      search rules,
    )
