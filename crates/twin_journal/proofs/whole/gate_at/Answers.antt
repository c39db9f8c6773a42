use Rattle.std.proofs.Common.{subst, List, ℕ, replicate}
use Rattle.twin_journal.specs.Sides.{IsNoSide, Says}
use Rattle.twin_journal.proofs.Firsts.{first_bytes, says_whole, no_side_whole}
use Rattle.twin_journal.proofs.whole.gate_at.Goals as goal

pub returns-in-Some-clause-says : goal.returns-in-Some-clause-says
returns-in-Some-clause-says g c =
    let file = g.T.Twin.seen c.args.twin.now c.args.side in
    let first = first_bytes file c.read_at.new.buffer (replicate 17 0) c.in_ok-count.count c.in_ok-count.ensures.count c.in_ok-count.ensures.bytes in
    says_whole file c.in-Some.gate (subst (λ (l : List ℕ). Says l c.in-Some.gate) first c.in-Some.ensures.says)

pub returns-in-None-clause-fault : goal.returns-in-None-clause-fault
returns-in-None-clause-fault g c =
    let file = g.T.Twin.seen c.args.twin.now c.args.side in
    let first = first_bytes file c.read_at.new.buffer (replicate 17 0) c.in_ok-count.count c.in_ok-count.ensures.count c.in_ok-count.ensures.bytes in
    no_side_whole file (subst (λ (l : List ℕ). IsNoSide l) first c.in-None.ensures.none)
