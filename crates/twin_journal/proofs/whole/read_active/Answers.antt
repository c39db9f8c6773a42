use Rattle.std.proofs.Common.{◌∙◌, subst}
use Rattle.disk_core.specs.declared.side.Side.TheVariants.{First, Second}
use Rattle.disk_core.specs.Twin.{Contents}
use Rattle.twin_journal.specs.Sides.{Says}
use Rattle.twin_journal.proofs.Firsts.{undecided}
use Rattle.twin_journal.proofs.whole.read_active.Goals as goal

pub returns-in_default-clause-fault : goal.returns-in_default-clause-fault
returns-in_default-clause-fault g c =
    let T = g.T.Twin in
    let one = subst (λ (d : Contents). Says (d First) c.in_ok-first.first) c.in_ok-sync_both.ensures.seen c.in_ok-first.ensures.says in
    let two = subst (λ (d : Contents). Says (d Second) c.in_ok-second.second) (c.gate_at.ensures.seen ∙ c.in_ok-sync_both.ensures.seen) c.in_ok-second.ensures.says in
    undecided (T.seen c.args.twin.now) c.in_ok-first.first c.in_ok-second.second one two (c.in_default.ensures.none (T.seen c.args.twin.now) one two)
