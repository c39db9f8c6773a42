use Rattle.std.proofs.Common.{◌∙◌, sym}
use Rattle.state_collections.specs.NumberMap.{at_number}
use Rattle.state_deliveries.proofs.Given.{gives_all, gives_nothing}
use Rattle.state_deliveries.proofs.giving.give.Goals as goal

pub returns-then-not-attached-clause-deliveries : goal.returns-then-not-attached-clause-deliveries
returns-then-not-attached-clause-deliveries c = λ keeps before n.
    gives_nothing c.args.item.now c.args.acts.now (at_number c.args.store.now.deliveries n) (sym c.attaches-attached.ensures ∙ c.if-not-attached.true) (keeps n)

pub returns-clause-deliveries : goal.returns-clause-deliveries
returns-clause-deliveries c = λ keeps before n.
    c.in_ok-give_all.ensures.deliveries keeps before n
    ∙ gives_all c.args.item.now c.args.acts.now (at_number c.args.store.now.deliveries n) (sym c.attaches-attached.ensures ∙ c.if-not-attached.false)
