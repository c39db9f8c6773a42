use Rattle.std.proofs.Common.{lit<, ◌++◌, ◌∷◌, []}
use Rattle.std.specs.Prelude.{None, Some}
use Rattle.std.proofs.lemmas.Str.Pattern.{strip_prefix_char, strip_suffix_char}
use Rattle.amqr_files.proofs.Hosts.{between}
use Rattle.amqr_files.proofs.endpoint.between_brackets.Goals as goal

pub returns-in-None : goal.returns-in-None
returns-in-None c = λ inner. strip_prefix_char 91 c.args.text.now None c.in-None.ensures.cases (lit< tt) (inner ++ (93 ∷ []))

pub returns-in-Some : goal.returns-in-Some
returns-in-Some c =
    between c.args.text.now c.in-Some.rest.now c.strip_suffix.result
    (strip_prefix_char 91 c.args.text.now (Some c.in-Some.rest) c.in-Some.ensures.cases (lit< tt))
    (strip_suffix_char 93 c.in-Some.rest.now c.strip_suffix.result c.strip_suffix.ensures.cases (lit< tt))
