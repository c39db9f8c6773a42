use Rattle.std.proofs.Common.{ℕ, ◌≡◌, ◌<◌, ◌∙◌, sym, arith}
use Rattle.book_model.specs.Book.{empty_book}
use Rattle.book_model.specs.Restoring.{restored}
use Rattle.book_laws.proofs.ReadBack.{read_back_sound}
use Rattle.book_core.proofs.Reading.{finished, no_fault}
use Rattle.book_core.proofs.Steps.{shown_is, whole}
use Rattle.book_core.proofs.book.Book.restore.Goals as goal

above : (n : ℕ) → (n ≡ 0 → ⊥) → 0 < n
above n h = omega (arith, h)

pub invariant_of-result : goal.invariant_of-result
invariant_of-result c =
    let nt = c.args.next_terminus.0 in
    let nr = c.args.next_row.0 in
    let read = c.in_ok-read_all.ensures empty_book c.new-tables.ensures.shows in
    let shows = finished c.read_all.new.self nt nr c.args.acts.now read.0 (above _ c.if-next_terminus-eq0.false)
    (above _ c.if-next_row-eq0.false) read.1 in
    let closes = sym (c.why_not_close.ensures _ read.1) ∙ c.in_default.is in
    whole c.commit.new.self (restored nt nr c.args.acts.now) (c.commit.ensures.shows _ shows) c.commit.ensures.settled
    (read_back_sound nt nr c.args.acts.now
    (no_fault nt nr c.args.acts.now c.if-next_terminus-eq0.false c.if-next_row-eq0.false read.0 closes))

pub returns-clause-book : goal.returns-clause-book
returns-clause-book c =
    let nt = c.args.next_terminus.0 in
    let nr = c.args.next_row.0 in
    let read = c.in_ok-read_all.ensures empty_book c.new-tables.ensures.shows in
    let shows = finished c.read_all.new.self nt nr c.args.acts.now read.0 (above _ c.if-next_terminus-eq0.false)
    (above _ c.if-next_row-eq0.false) read.1 in
    shown_is c.commit.new.self (restored nt nr c.args.acts.now) (c.commit.ensures.shows _ shows)
