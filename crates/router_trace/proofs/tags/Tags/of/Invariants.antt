use Rattle.std.proofs.Common.{◌≡◌, ◌++◌, drop, Some}
use Rattle.std.specs.Option.{option_copied}
use Rattle.router_trace.specs.Tags.{tags_of}
use Rattle.router_trace.proofs.tags.Tags.of.Given as goal

-- the tags added and those still to come are all
abbrev pub invariant-loop-entry : goal.invariant-loop-entry
invariant-loop-entry l = l.tags.items ++ tags_of (Some (drop l.entry-index l.entry-items)) ≡ tags_of (option_copied l.map)
