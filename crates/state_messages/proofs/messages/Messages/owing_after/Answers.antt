use Rattle.std.proofs.Common.{◌∙◌, ap, None}
use Rattle.state_messages.specs.Asking.{lowest_of}
use Rattle.state_messages.proofs.Owed.{first_result, lowest_owing}
use Rattle.state_messages.proofs.messages.Messages.owing_after.Goals as goal

pub returns : goal.returns
returns c = λ t fit.
    first_result _ _ _ (c.lowest_above.ensures ∙ ap (lowest_of c.args.number None) c.as_slice.ensures.value)
    (lowest_owing t c.args.number c.in_ok-owed.owed.items (c.in_ok-owed.ensures.owes t fit.links) (c.in_ok-owed.ensures.stands t fit.links))
