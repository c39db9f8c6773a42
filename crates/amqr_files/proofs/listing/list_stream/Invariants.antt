use Rattle.std.proofs.Common.{length}
use Rattle.amqr_files.proofs.Listings.{ListedSoFar}
use Rattle.amqr_files.proofs.listing.list_stream.Given as goal

abbrev pub invariant-loop-piece : goal.invariant-loop-piece
invariant-loop-piece l = ListedSoFar l.stream l.behind l.reader.failed l.reader.rest l.lines.items

abbrev pub decreases-loop-piece : goal.decreases-loop-piece
decreases-loop-piece l = length l.behind
