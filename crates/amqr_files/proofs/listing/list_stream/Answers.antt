use Rattle.std.proofs.Common.{rules, ◌≡◌, ◌++◌, true, false}
use Rattle.amqr_files.specs.Listing.{lines_of_items}
use Rattle.amqr_files.proofs.Listings.{listed_by, listed_failed, listed_more, awake_if_ok}
use Rattle.amqr_files.proofs.listing.list_stream.Goals as goal

pub returns-in-Err-Failed : goal.returns-in-Err-Failed
returns-in-Err-Failed c =
    let ended : c.loop-piece.reader.failed ≡ true = c.feed.ensures.failed.0 (search rules) in
    let same : c.feed.new.self.rest ≡ c.loop-piece.reader.rest = search rules in
    listed_by c.finish.result (λ v. v.items) c.args.stream.now _ c.finish.ensures
    (listed_failed c.args.stream.now c.loop-piece.behind.now c.loop-piece.reader.failed c.loop-piece.reader.rest c.feed.new.self.rest c.loop-piece.lines.items c.loop-piece.invariant ended same)

pub loop-piece-preserved : goal.loop-piece-preserved
loop-piece-preserved c =
    let awake : c.loop-piece.reader.failed ≡ false = awake_if_ok c.loop-piece.reader.failed c.feed.result c.in-Ok.items _ c.feed.ensures.failed c.in-Ok.is in
    let cut : c.loop-piece.behind.now ≡ c.split_at.result.0.now ++ c.split_at.result.1.now = search rules in
    let is : c.list_items.new.lines.items ≡ c.loop-piece.lines.items ++ lines_of_items c.in-Ok.items.items = search rules in
    listed_more c.args.stream.now c.loop-piece.behind.now c.split_at.result.1.now c.split_at.result.0.now c.loop-piece.reader.failed c.feed.new.self.failed c.loop-piece.reader.rest c.feed.new.self.rest c.loop-piece.lines.items c.list_items.new.lines.items c.in-Ok.items.items c.loop-piece.invariant awake cut (search rules) is
