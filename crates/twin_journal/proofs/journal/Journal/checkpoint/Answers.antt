use Rattle.std.proofs.Common.{◌⊎◌, [], ap, refl, sym, subst, ◌∙◌}
use Rattle.std.proofs.lemmas.List.{append-nil}
use Rattle.disk_core.specs.DiskLaws.{widened}
use Rattle.disk_core.specs.Twin.{Contents}
use Rattle.journal_codec.specs.Batches.{book_after}
use Rattle.twin_journal.specs.Holding.{TwinHolds, OpensTo}
use Rattle.twin_journal.specs.Keeping.{keeps_holds}
use Rattle.twin_journal.specs.Room.{Suits}
use Rattle.twin_journal.proofs.Keeping.{renewed_suits, either_side}
use Rattle.twin_journal.proofs.Kept.{opens_either}
use Rattle.twin_journal.proofs.journal.Journal.checkpoint.Goals as goal

pub returns-in-Ok-clause-done : goal.returns-in-Ok-clause-done
returns-in-Ok-clause-done g c base start bs keeps leaves =
    let T = g.T.Twin in
    let old = c.args.self.now in
    let h = keeps_holds T.seen T.may_leave old base start bs keeps in
    let s = c.in-Ok.ensures.renewed h.stamp start bs [] h.ahead (ap (book_after start) (append-nil bs) ∙ leaves) refl in
    record {
      stamp = s.stamp;
      at = s.at;
      none_held = c.clear.ensures.bytes old.figures [] h.ahead.are_held;
      level = c.clear.ensures.ahead;
      base_is = c.in-Ok.ensures.base;
      suits = renewed_suits old.needs c.in-Ok.figures.size c.args.book.now (subst (Suits old.needs) leaves keeps.suits) (c.in-Ok.ensures.size refl);
    }

pub returns-in-Ok-clause-any_moment : goal.returns-in-Ok-clause-any_moment
returns-in-Ok-clause-any_moment g c base start bs keeps leaves =
    let T = g.T.Twin in
    let old = c.args.self.now in
    let h = keeps_holds T.seen T.may_leave old base start bs keeps in
    either_side T.moment T.left_since old.figures.base base old.held.ahead.last start c.args.book.now bs old.twin c.make_room.new.twin keeps.base_is
    (c.make_room.ensures.any_moment h.stamp start bs [] h.ahead (ap (book_after start) (append-nil bs) ∙ leaves))

pub returns-in-Err-clause-any_moment : goal.returns-in-Err-clause-any_moment
returns-in-Err-clause-any_moment g c base start bs keeps leaves =
    let T = g.T.Twin in
    let old = c.args.self.now in
    let h = keeps_holds T.seen T.may_leave old base start bs keeps in
    either_side T.moment T.left_since old.figures.base base old.held.ahead.last start c.args.book.now bs old.twin c.make_room.new.twin keeps.base_is
    (c.make_room.ensures.any_moment h.stamp start bs [] h.ahead (ap (book_after start) (append-nil bs) ∙ leaves))

pub returns-in-Ok-clause-same_book : goal.returns-in-Ok-clause-same_book
returns-in-Ok-clause-same_book g c k =
    let T = g.T.Twin in
    let old = c.args.self.now in
    let book = c.args.book.now in
    let h = keeps_holds T.seen T.may_leave old k.base k.start k.batches k.keeps in
    widened T.moment T.left_since old.twin c.make_room.new.twin (λ (d : Contents). TwinHolds d k.base k.start k.batches ⊎ TwinHolds d old.held.ahead.last book []) (λ (d : Contents). OpensTo d book)
    (either_side T.moment T.left_since old.figures.base k.base old.held.ahead.last k.start book k.batches old.twin c.make_room.new.twin k.keeps.base_is
    (c.make_room.ensures.any_moment h.stamp k.start k.batches [] h.ahead (ap (book_after k.start) (append-nil k.batches) ∙ sym k.leaves)))
    (λ d either. opens_either d k.base old.held.ahead.last k.start book k.batches (sym k.leaves) either)

pub returns-in-Err-clause-same_book : goal.returns-in-Err-clause-same_book
returns-in-Err-clause-same_book g c k =
    let T = g.T.Twin in
    let old = c.args.self.now in
    let book = c.args.book.now in
    let h = keeps_holds T.seen T.may_leave old k.base k.start k.batches k.keeps in
    widened T.moment T.left_since old.twin c.make_room.new.twin (λ (d : Contents). TwinHolds d k.base k.start k.batches ⊎ TwinHolds d old.held.ahead.last book []) (λ (d : Contents). OpensTo d book)
    (either_side T.moment T.left_since old.figures.base k.base old.held.ahead.last k.start book k.batches old.twin c.make_room.new.twin k.keeps.base_is
    (c.make_room.ensures.any_moment h.stamp k.start k.batches [] h.ahead (ap (book_after k.start) (append-nil k.batches) ∙ sym k.leaves)))
    (λ d either. opens_either d k.base old.held.ahead.last k.start book k.batches (sym k.leaves) either)
