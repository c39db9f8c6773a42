use Rattle.std.proofs.Common.{rules, tests, ◌==◌}
use Rattle.std.proofs.lemmas.Iterator.Adapters.{YieldsList-from_bytes}
use Rattle.std.proofs.lemmas.Iterator.Search.{any_from_yields_List}
use Rattle.amqr_files.proofs.endpoint.has_colon.Goals as goal

pub returns : goal.returns
returns c =
    any_from_yields_List (λ byte. byte == 58) _ _ _ c.any.ensures.ran
    (YieldsList-from_bytes c.args.text.now c.bytes.ensures.rest) (λ x b q k. search (rules, tests))
