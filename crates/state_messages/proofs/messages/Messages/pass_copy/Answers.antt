use Rattle.std.proofs.lemmas.Result.{on_ok_weaker}
use Rattle.state_messages.proofs.messages.Messages.pass_copy.Goals as goal

pub returns : goal.returns
returns c =
    on_ok_weaker c.bind.result
    (λ bound t old. bound t (c.note.ensures t c.in_ok-tell_all.ensures.exact (c.in_ok-tell_all.ensures.fits t old)))
    c.bind.ensures
