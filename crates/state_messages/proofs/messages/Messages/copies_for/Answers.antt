use Rattle.state_messages.proofs.messages.Messages.copies_for.Goals as goal

pub returns-clause-copies : goal.returns-clause-copies
returns-clause-copies c = λ t old.
    c.in_ok-to.ensures t c.in_ok-tell_all.ensures.exact (c.in_ok-tell_all.ensures.fits t old)
