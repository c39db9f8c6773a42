use Rattle.route_links.proofs.Cuts.{cut_parts}
use Rattle.route_links.proofs.laws.a_cut_changes_no_part.Goals as goal

pub returns : goal.returns
returns c = cut_parts
