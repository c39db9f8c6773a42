use Rattle.std.proofs.Common.{sym, ◌∙◌}
use Rattle.amqp_perf.proofs.Loops.{has_more, among_from_contains}
use Rattle.amqp_perf.proofs.read_states.note_tag.Goals as goal

pub returns-then-branch-clause-noted : goal.returns-then-branch-clause-noted
returns-then-branch-clause-noted c = λ ds d has same. has_more _ _ _ ds d (c.in_ok-insert.ensures.updates) has (same ∙ sym (c.in_ok-copy_of.ensures))

pub returns-else-branch-clause-found : goal.returns-else-branch-clause-found
returns-else-branch-clause-found c = λ ds has other. among_from_contains _ _ _ ds c.in_ok-insert.field-0 (c.in_ok-insert.ensures.added) c.if-branch.false c.in_ok-copy_of.ensures has
