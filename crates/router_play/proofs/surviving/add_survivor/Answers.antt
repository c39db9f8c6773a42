use Rattle.std.proofs.Common.{◌≡◌, ◌∙◌, ◌++◌, ◌∷◌, [], List, true, false, ap, sym, append-nil, arith}
use Rattle.std.specs.Prelude.{nat_lt}
use Rattle.std.proofs.lemmas.Bool.Decides.{nat_tests}
use Rattle.book_model.specs.declared.act.Act.{Act}
use Rattle.core_player.specs.declared.entry.Entry.{Entry}
use Rattle.core_player.specs.declared.entry.Entry.TheVariants as shown
use Rattle.router_play.proofs.Grouped.{left_over}
use Rattle.router_play.proofs.surviving.add_survivor.Goals as goal

pub returns-then-last-batches-clause-added : goal.returns-then-last-batches-clause-added
returns-then-last-batches-clause-added g c =
    let cut = c.args.cut in
    let list = c.in_ok-listing.listing in
    let last = c.in_ok-last.last in
    let not_more : nat_lt cut.batches last.number ≡ false = grind (arith, nat_tests, c.if-last-batches.true) in (
      [],
      left_over (g.T.Twin.seen c.args.twin.now) list.checkpoint list.entries.items list.place list.book last.number last.acts.items c.in_ok-listing.ensures.listed c.in_ok-last.ensures cut false not_more,
      sym (append-nil c.args.entries.now.items),
    )

pub returns-clause-added : goal.returns-clause-added
returns-clause-added g c =
    let cut = c.args.cut in
    let list = c.in_ok-listing.listing in
    let last = c.in_ok-last.last in
    let more : nat_lt cut.batches last.number ≡ true = grind (arith, nat_tests, c.if-last-batches.false) in (
      shown.Event cut.came last.acts.items ∷ [],
      left_over (g.T.Twin.seen c.args.twin.now) list.checkpoint list.entries.items list.place list.book last.number last.acts.items c.in_ok-listing.ensures.listed c.in_ok-last.ensures cut true more,
      c.in_ok-add.ensures ∙ ap (λ (acts : List Act). c.args.entries.now.items ++ shown.Event cut.came acts ∷ []) c.new-acts.ensures,
    )
