use Rattle.std.proofs.Common.{◌≡◌, drop}
use Rattle.router_trace.specs.Tags.{has_tag}
use Rattle.router_trace.proofs.tags.Tags.has.Given as goal

-- whether the tag is among the rest is whether it is among all
abbrev pub invariant-loop-own : goal.invariant-loop-own
invariant-loop-own l = has_tag (drop l.own-index l.own-items) l.tag.items ≡ has_tag l.self l.tag.items
