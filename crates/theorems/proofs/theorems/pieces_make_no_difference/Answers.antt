use Rattle.theorems.proofs.Pieces.{pieces_alike}
use Rattle.theorems.proofs.theorems.pieces_make_no_difference.Goals as goal

pub returns : goal.returns
returns c = pieces_alike
