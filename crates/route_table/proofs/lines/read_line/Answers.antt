use Rattle.std.proofs.Common.{refl}
use Rattle.route_table.specs.Lines.{form_of}
use Rattle.route_table.proofs.lines.read_line.Goals as goal

pub returns : goal.returns
unfolding form_of
returns c = rw (c.trimmed_line.ensures, c.trim_back.ensures, c.trim_front.ensures) refl
