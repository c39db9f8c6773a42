use Rattle.std.proofs.Common.{lit<}
use Rattle.std.specs.Prelude.{None}
use Rattle.std.proofs.lemmas.Str.Pattern.{strip_suffix_char}
use Rattle.route_table.proofs.Cuts.{wrong_form}
use Rattle.route_table.proofs.lines.without_colon.Goals as goal

pub returns-in-None : goal.returns-in-None
returns-in-None c = wrong_form c.args.text.now c.requires (strip_suffix_char 123 c.args.text.now None c.in-None.ensures.cases (lit< tt))
