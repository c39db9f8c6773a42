use Rattle.std.proofs.Common.{◌≡◌, ◌∷◌, map, take}
use Rattle.amqr_files.specs.Journals.{checkpoint_line, act_line}
use Rattle.amqr_files.proofs.journal.lines_of.Given as goal

abbrev pub invariant-loop-entry : goal.invariant-loop-entry
invariant-loop-entry l = l.lines.items ≡ checkpoint_line l.listing.checkpoint ∷ map act_line (take l.entry-index l.listing.entries.items)
