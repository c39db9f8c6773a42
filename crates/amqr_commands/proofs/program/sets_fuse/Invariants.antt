use Rattle.std.proofs.Common.{◌≡◌, drop}
use Rattle.std.specs.Prelude.{map}
use Rattle.amqr_commands.specs.Running.{as_run, sets_fuse}
use Rattle.amqr_commands.proofs.program.sets_fuse.Given as goal

-- the rest decides as the whole does
abbrev pub invariant-loop-run : goal.invariant-loop-run
invariant-loop-run l = sets_fuse (map as_run (drop l.run-index l.runs)) ≡ sets_fuse (map as_run l.runs)
