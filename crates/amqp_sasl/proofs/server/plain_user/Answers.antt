use Rattle.amqp_sasl.proofs.LoginLemmas.{acts_as_another, of_no_user, of_user}
use Rattle.amqp_sasl.proofs.server.plain_user.Goals as goal

pub returns-then-not-acts_as_itself : goal.returns-then-not-acts_as_itself
returns-then-not-acts_as_itself c =
    let other = c.acts_as_itself.ensures.another (c.if-not-acts_as_itself.true) in
    acts_as_another _ _ _ _ _ c.in-Some.ensures.read other.0 other.1

pub returns-in_ok-clone-in-Some-known : goal.returns-in_ok-clone-in-Some-known
returns-in_ok-clone-in-Some-known c =
    of_user _ _ _ _ _ c.in-Some-known.place _ c.in-Some.ensures.read (c.acts_as_itself.ensures.itself c.if-not-acts_as_itself.false) c.in-Some-known.ensures.found _ c.in_ok-clone-in-Some-known.ensures.cases

pub returns-in-None : goal.returns-in-None
returns-in-None c = of_no_user _ _ _ _ _ c.in-Some.ensures.read c.in-None.ensures.missed
