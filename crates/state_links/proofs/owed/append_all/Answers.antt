use Rattle.std.proofs.Common.{◌++◌, refl, ap}
use Rattle.std.specs.Map.Iter.{deref}
use Rattle.std.specs.Ordering.{nat_cmp}
use Rattle.std.specs.BTreeMap.{get}
use Rattle.std.proofs.lemmas.Map.Iter.{rest_more, rest_all}
use Rattle.state_links.specs.Owed.{owed_of_connection, owed_of}
use Rattle.state_links.proofs.Owing.{turn, done}
use Rattle.state_collections.specs.NumberMap.{at_number}
use Rattle.state_links.proofs.owed.append_all.Goals as goal

pub loop-conn-init : goal.loop-conn-init
loop-conn-init c = ap (λ ks. c.args.owed.now.items ++ owed_of (at_number c.args.links.now.rows) ks) c.into_iter-conn-iterator.ensures.into_iter_gives.0

pub loop-conn-preserved : goal.loop-conn-preserved
loop-conn-preserved c =
    turn c.loop-conn.owed.items _ _ _ (λ k. owed_of_connection k (at_number c.args.links.now.rows k)) c.loop-conn.conn-iterator c.next.new.self c.in-Some.conn.now
    c.in_ok-append_of.ensures refl (rest_more deref _ _ _ _ c.in-Some.is c.next.ensures.steps) c.loop-conn.invariant

pub returns : goal.returns
returns c = done _ _ (λ k. owed_of_connection k (at_number c.args.links.now.rows k)) c.loop-conn.conn-iterator (rest_all deref _ _ _ c.in-None.is c.next.ensures.steps) c.loop-conn.invariant
