use Rattle.std.proofs.Common.{◌<◌, length}
use Rattle.router_serve.proofs.Reading.{IsFar}
use Rattle.router_serve.proofs.reader.hand_in_all.Given as goal

abbrev pub invariant-loop-turn : goal.invariant-loop-turn
invariant-loop-turn g l =
    (0 < l.piece.len) × (0 < length l.piece.items) × IsFar l.fn.seat l.fn.left.items l.fn.frames (g.I.Read.remaining l.fn.input) l.seat l.frames (g.I.Read.remaining l.input)
