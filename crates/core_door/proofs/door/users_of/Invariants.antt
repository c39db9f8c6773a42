use Rattle.std.proofs.Common.{◌≡◌, map, take}
use Rattle.core_door.specs.Door.{user_of}
use Rattle.core_door.proofs.door.users_of.Given as goal

abbrev pub invariant-loop-user : goal.invariant-loop-user
invariant-loop-user l = l.found.items ≡ map user_of (take l.user-index l.users)
