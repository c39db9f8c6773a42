use Rattle.std.proofs.Common.{rules, ◌≡◌, ◌==◌, slice_index, ◌∙◌, sym}
use Rattle.std.proofs.lemmas.Bool.{eqb-false}
use Rattle.amqr_commands.proofs.Numbers.{number_parsed}
use Rattle.amqr_commands.proofs.script.word.number.Goals as goal

pub returns : goal.returns
returns c =
    let plus : c.starts_with.result ≡ (slice_index c.args.word.now 0 == 43) = search rules in
    c.ok.ensures.value ∙ number_parsed c.args.word.now c.parse.result c.parse.ensures.value.0 (eqb-false (slice_index c.args.word.now 0) 43 (sym plus ∙ c.if-starts_with.false))
