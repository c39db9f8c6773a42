use Rattle.std.proofs.Common.{◌≡◌, ◌++◌, sym, ap, Some}
use Rattle.std.specs.List.{flat_map}
use Rattle.std.specs.Map.{keys_of}
use Rattle.std.specs.Map.Iter.{deref_pair}
use Rattle.std.specs.Ordering.{nat_cmp}
use Rattle.std.specs.BTreeMap.{get}
use Rattle.std.proofs.lemmas.Map.Iter.{rest_more, rest_all}
use Rattle.std.proofs.lemmas.Map.Views.{All-turn}
use Rattle.state_links.specs.Owed.{owed_of_session}
use Rattle.state_links.proofs.Owing.{turn, done}
use Rattle.state_links.proofs.owed.append_connection.Goals as goal

pub loop-own-init : goal.loop-own-init
loop-own-init c = ap (λ es. c.args.owed.now.items ++ flat_map (λ o. owed_of_session c.args.conn o (get nat_cmp c.args.sessions.now o)) (keys_of es)) c.into_iter-own-iterator.ensures.into_iter_gives.0

pub loop-own-preserved : goal.loop-own-preserved
loop-own-preserved c =
    let found : get nat_cmp c.args.sessions.now c.in-Some.own.now ≡ Some c.in-Some.handles.now =
    All-turn deref_pair (λ e. get nat_cmp c.args.sessions.now e.0 ≡ Some e.1) c.args.sessions.now.entries _ _ _ _ _ _ c.into_iter-own-iterator.ensures.into_iter_gives.6
    c.into_iter-own-iterator.ensures.into_iter_gives.0 c.loop-own.yielded_by c.in-Some.is c.next.ensures.steps in
    turn c.loop-own.owed.items _ _ _ (λ o. owed_of_session c.args.conn o (get nat_cmp c.args.sessions.now o)) (keys_of c.loop-own.own-iterator) (keys_of c.next.new.self) c.in-Some.own.now
    c.in_ok-append_session.ensures (ap (owed_of_session c.args.conn c.in-Some.own.now) (sym found)) (ap keys_of (rest_more deref_pair _ _ _ _ c.in-Some.is c.next.ensures.steps)) c.loop-own.invariant

pub returns : goal.returns
returns c = done _ _ (λ o. owed_of_session c.args.conn o (get nat_cmp c.args.sessions.now o)) (keys_of c.loop-own.own-iterator) (ap keys_of (rest_all deref_pair _ _ _ c.in-None.is c.next.ensures.steps)) c.loop-own.invariant
