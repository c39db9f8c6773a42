use Rattle.std.proofs.Common.{◌≡◌, ◌++◌, drop, Some}
use Rattle.std.specs.Option.{option_copied}
use Rattle.router_trace.specs.Tags.{tags_of, common}
use Rattle.router_trace.proofs.tags.Tags.common.Given as goal

-- the tags added and those still to come are all
abbrev pub invariant-loop-entry : goal.invariant-loop-entry
invariant-loop-entry l = l.tags.items ++ common l.self (tags_of (Some (drop l.entry-index l.entry-items))) ≡ common l.self (tags_of (option_copied l.map))
