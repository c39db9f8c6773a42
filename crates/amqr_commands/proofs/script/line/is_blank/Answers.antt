use Rattle.std.proofs.Common.{rules, tests, ◌==◌, ◌||◌}
use Rattle.std.proofs.lemmas.Iterator.Adapters.{YieldsList-from_bytes}
use Rattle.std.proofs.lemmas.Iterator.Search.{all_from_yields_List}
use Rattle.amqr_commands.proofs.script.line.is_blank.Goals as goal

pub returns : goal.returns
returns c =
    all_from_yields_List (λ byte. byte == 32 || byte == 9) _ _ _ c.all.ensures.ran
    (YieldsList-from_bytes c.args.line.now c.bytes.ensures.rest) (λ x b q k. search (rules, tests))
