use Rattle.resume_core.proofs.Plans as plans
use Rattle.resume_core.proofs.laws.other_entries_change_nothing.Goals as goal

pub returns : goal.returns
returns c = record {
  forgotten = plans.forgotten_among;
  kept = plans.kept_among;
  due = plans.due_among;
  decided = plans.decided_among;
  listed = plans.listed_among;
  sent = plans.sent_among;
}
