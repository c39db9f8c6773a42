use Rattle.std.proofs.Common.{◌∙◌, sym, ap, [], ◌∷◌}
use Rattle.state_collections.specs.NumberMap.{at_number}
use Rattle.state_deliveries.specs.Giving.{after_acts}
use Rattle.state_deliveries.proofs.Given.{other_act}
use Rattle.state_deliveries.proofs.giving.give_one.Goals as goal

pub returns-in_ok-note-in-Decide-clause-deliveries : goal.returns-in_ok-note-in-Decide-clause-deliveries
returns-in_ok-note-in-Decide-clause-deliveries c = λ keeps before n.
    c.in_ok-place-in-Decide.ensures.deliveries keeps before n ∙ ap (λ act. after_acts (act ∷ []) (at_number c.args.store.now.deliveries n)) (sym c.in-Decide.is)

pub returns-in_default-clause-deliveries : goal.returns-in_default-clause-deliveries
returns-in_default-clause-deliveries c = λ keeps before n. sym (other_act c.args.act.now (at_number c.args.store.now.deliveries n) c.in_default.not-Decide (keeps n))
