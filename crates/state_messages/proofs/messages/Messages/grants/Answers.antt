use Rattle.state_messages.specs.Messages.{last_chosen}
use Rattle.state_messages.proofs.Known.{all_known}
use Rattle.state_messages.proofs.messages.Messages.grants.Goals as goal

pub returns-clause-due : goal.returns-clause-due
returns-clause-due c = λ t old.
    c.in_ok-due.ensures.due t (c.in_ok-tell_all.ensures.fits t old).links c.in_ok-tell_all.ensures.exact.pools
    (all_known c.tell_all.new.self t (last_chosen t) c.in_ok-tell_all.ensures.exact (c.in_ok-tell_all.ensures.fits t old).pools)
