use Rattle.std.proofs.Common.{◌≡◌, ◌++◌, drop}
use Rattle.serve_streams.specs.Spelled.{spelled}
use Rattle.serve_streams.proofs.writing.spell.Given as goal

-- once the rest is encoded too, all are
abbrev pub invariant-loop-item : goal.invariant-loop-item
invariant-loop-item l = l.buffer.items ++ spelled (drop l.item-index l.items) ≡ spelled l.items
