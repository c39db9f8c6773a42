use Rattle.std.proofs.Common.{◌≡◌, ◌++◌, sym, ap, Some}
use Rattle.std.specs.List.{flat_map}
use Rattle.std.specs.Map.{keys_of}
use Rattle.std.specs.Map.Iter.{deref_pair}
use Rattle.std.specs.Ordering.{nat_cmp}
use Rattle.std.specs.BTreeMap.{get}
use Rattle.std.proofs.lemmas.Map.Iter.{rest_more, rest_all}
use Rattle.std.proofs.lemmas.Map.Views.{All-turn}
use Rattle.state_links.specs.Owed.{owed_at}
use Rattle.state_links.proofs.Owing.{turn, done}
use Rattle.state_links.proofs.owed.append_session.Goals as goal

pub loop-handle-init : goal.loop-handle-init
loop-handle-init c = ap (λ es. c.args.owed.now.items ++ flat_map (λ h. owed_at c.args.conn c.args.own h (get nat_cmp c.args.handles.now h)) (keys_of es)) c.into_iter-handle-iterator.ensures.into_iter_gives.0

pub loop-handle-preserved : goal.loop-handle-preserved
loop-handle-preserved c =
    let found : get nat_cmp c.args.handles.now c.in-Some.handle.now ≡ Some c.in-Some.link.now =
    All-turn deref_pair (λ e. get nat_cmp c.args.handles.now e.0 ≡ Some e.1) c.args.handles.now.entries _ _ _ _ _ _ c.into_iter-handle-iterator.ensures.into_iter_gives.6
    c.into_iter-handle-iterator.ensures.into_iter_gives.0 c.loop-handle.yielded_by c.in-Some.is c.next.ensures.steps in
    turn c.loop-handle.owed.items _ _ _ (λ h. owed_at c.args.conn c.args.own h (get nat_cmp c.args.handles.now h)) (keys_of c.loop-handle.handle-iterator) (keys_of c.next.new.self) c.in-Some.handle.now
    c.in_ok-append_link.ensures (ap (owed_at c.args.conn c.args.own c.in-Some.handle.now) (sym found)) (ap keys_of (rest_more deref_pair _ _ _ _ c.in-Some.is c.next.ensures.steps)) c.loop-handle.invariant

pub returns : goal.returns
returns c = done _ _ (λ h. owed_at c.args.conn c.args.own h (get nat_cmp c.args.handles.now h)) (keys_of c.loop-handle.handle-iterator) (ap keys_of (rest_all deref_pair _ _ _ c.in-None.is c.next.ensures.steps)) c.loop-handle.invariant
