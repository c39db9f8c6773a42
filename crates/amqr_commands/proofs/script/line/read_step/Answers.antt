use Rattle.std.proofs.Common.{rules, ◌≡◌, ◌∷◌, sym}
use Rattle.amqr_commands.specs.Words.{cut_at}
use Rattle.amqr_commands.proofs.Cuts.{many_words, cut_is_some}
use Rattle.amqr_commands.proofs.script.line.read_step.Goals as goal

pub returns-in_default-Some-cut-2 : goal.returns-in_default-Some-cut-2
returns-in_default-Some-cut-2 c =
    let words : cut_at 32 c.args.line.now ≡ c.cut.result.0.now ∷ c.cut-2.result.0.now ∷ c.cut-in_default-Some-cut.result.0.now ∷ cut_at 32 c.in_default-Some-cut-2.field-0-1.now = search rules in
    rw words (sym (many_words c.cut.result.0.now c.cut-2.result.0.now c.cut-in_default-Some-cut.result.0.now (cut_at 32 c.in_default-Some-cut-2.field-0-1.now) (cut_is_some 32 c.in_default-Some-cut-2.field-0-1.now)))
