use Rattle.std.proofs.Common.{sym, ◌∙◌}
use Rattle.route_table.proofs.Runs.{finished, left_open, stopped}
use Rattle.route_table.proofs.files.read_sections.Goals as goal

pub returns-in-Err-clause-fault : goal.returns-in-Err-clause-fault
returns-in-Err-clause-fault c = λ other.
    stopped c.args.text.now c.loop-rest.rest.now c.first_line.result.0.now c.first_line.result.1.now _ c.loop-rest.number c.loop-rest.current c.loop-rest.ended.items c.in-Err.kind
    c.first_line.ensures.lines c.read_line.ensures (c.in-Err.ensures.fault other) c.loop-rest.invariant.same

pub returns-in-None-clause-sections : goal.returns-in-None-clause-sections
returns-in-None-clause-sections c = (finished c.args.text.now c.loop-rest.rest.now c.loop-rest.number c.loop-rest.current c.loop-rest.ended.items (sym c.is_empty.ensures ∙ c.loop-rest-test.false) c.in-None.is c.loop-rest.invariant.same).0

pub returns-in-None-clause-faultless : goal.returns-in-None-clause-faultless
returns-in-None-clause-faultless c = (finished c.args.text.now c.loop-rest.rest.now c.loop-rest.number c.loop-rest.current c.loop-rest.ended.items (sym c.is_empty.ensures ∙ c.loop-rest-test.false) c.in-None.is c.loop-rest.invariant.same).1

pub returns-clause-fault : goal.returns-clause-fault
returns-clause-fault c = λ _. left_open c.args.text.now c.loop-rest.rest.now c.loop-rest.number c.loop-rest.current c.loop-rest.ended.items c.in-Some.field-0 (sym c.is_empty.ensures ∙ c.loop-rest-test.false) c.in-Some.is c.loop-rest.invariant.same
