use Rattle.std.proofs.Common.{◌≡◌, ◌++◌, take}
use Rattle.amqr_files.specs.Listing.{lines_of_items}
use Rattle.amqr_files.proofs.listing.list_items.Given as goal

abbrev pub invariant-loop-item : goal.invariant-loop-item
invariant-loop-item l = l.lines.items ≡ l.fn.lines.items ++ lines_of_items (take l.item-index l.items)
