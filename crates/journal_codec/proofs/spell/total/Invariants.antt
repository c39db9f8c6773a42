use Rattle.std.proofs.Common.{◌≡◌, take, sum}
use Rattle.journal_codec.proofs.spell.total.Given as goal

abbrev pub invariant-loop-part : goal.invariant-loop-part
invariant-loop-part l = l.total ≡ sum (take l.part-index l.parts)
