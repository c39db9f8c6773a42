use Rattle.std.proofs.Common.{◌≡◌, map, take}
use Rattle.core_door.specs.Door.{mechanism_of}
use Rattle.core_door.proofs.door.mechanisms_of.Given as goal

abbrev pub invariant-loop-word : goal.invariant-loop-word
invariant-loop-word l = l.found.items ≡ map mechanism_of (take l.word-index l.words)
