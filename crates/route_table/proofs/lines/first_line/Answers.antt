use Rattle.std.proofs.Common.{lit<}
use Rattle.std.proofs.lemmas.Str.Pattern.{split_once_first}
use Rattle.std.specs.Prelude.{None, Some}
use Rattle.route_table.proofs.Cuts.{lines_cut, lines_last}
use Rattle.route_table.proofs.lines.first_line.Goals as goal

pub returns-in-Some-clause-lines : goal.returns-in-Some-clause-lines
returns-in-Some-clause-lines c =
    let cut = split_once_first 10 c.args.text.now (Some (c.in-Some.line, c.in-Some.rest)) c.in-Some.ensures.cases (lit< tt) in
    rw (cut.1, cut.2) (lines_cut c.args.text.now cut.0)

pub returns-in-None-clause-lines : goal.returns-in-None-clause-lines
returns-in-None-clause-lines c = lines_last c.args.text.now c.requires (split_once_first 10 c.args.text.now None c.in-None.ensures.cases (lit< tt))
