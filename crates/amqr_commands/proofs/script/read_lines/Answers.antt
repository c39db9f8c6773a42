use Rattle.std.proofs.Common.{rules, ◌≡◌, ◌<◌, length, ◌^◌, [], ◌∷◌, ◌++◌}
use Rattle.amqr_commands.specs.Cut.{behind}
use Rattle.amqr_commands.specs.Script.{lines_of}
use Rattle.amqr_commands.proofs.Reading.{read_nothing, read_silent, read_instruction, line_fits}
use Rattle.amqr_commands.proofs.script.read_lines.Goals as goal

pub loop-rest-init : goal.loop-rest-init
loop-rest-init c = rw c.new-steps.ensures.items (read_nothing (lines_of c.args.text.now))

pub overflow_add-line : goal.overflow_add-line
overflow_add-line c =
    let cut : behind 10 c.loop-rest.rest ≡ c.cut.result.0.now ∷ behind 10 c.cut.result.1 = search rules in
    let short : length c.args.text.now < 2 ^ 63 = search rules in
    let fits = line_fits 10 c.args.text.now (behind 10 c.loop-rest.rest) c.loop-rest.line c.loop-rest.steps.items c.cut.result.0.now (behind 10 c.cut.result.1) c.loop-rest.invariant cut short in
    search (rules, fits)

pub loop-rest-preserved-in-Ok-None : goal.loop-rest-preserved-in-Ok-None
loop-rest-preserved-in-Ok-None c =
    let cut : behind 10 c.loop-rest.rest ≡ c.cut.result.0.now ∷ behind 10 c.cut.result.1 = search rules in
    read_silent (lines_of c.args.text.now) (behind 10 c.loop-rest.rest) (behind 10 c.cut.result.1) c.loop-rest.line c.loop-rest.steps.items c.cut.result.0.now c.loop-rest.invariant cut (search rules)

pub loop-rest-preserved : goal.loop-rest-preserved
loop-rest-preserved c =
    let cut : behind 10 c.loop-rest.rest ≡ c.cut.result.0.now ∷ behind 10 c.cut.result.1 = search rules in
    let pushed : c.push.new.self.items ≡ c.loop-rest.steps.items ++ c.in-Ok-Some.step ∷ [] = search rules in
    rw pushed (read_instruction (lines_of c.args.text.now) (behind 10 c.loop-rest.rest) (behind 10 c.cut.result.1) c.loop-rest.line c.loop-rest.steps.items c.cut.result.0.now c.in-Ok-Some.step c.loop-rest.invariant cut (search rules))
