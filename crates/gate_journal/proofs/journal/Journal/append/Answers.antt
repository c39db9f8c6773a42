use Rattle.std.proofs.Common.{◌≡◌, None, ◌∷◌, [], sym, subst, arith, length-append}
use Rattle.book_model.specs.Book.{BookView, empty_book, first_fault}
use Rattle.journal_codec.specs.Batches.{IsNext}
use Rattle.gate_journal.proofs.Ordered.{empty_ordered}
use Rattle.gate_journal.proofs.Nexts.{next_reserve, reserve_behind}
use Rattle.gate_journal.proofs.journal.Journal.append.Goals as goal

pub returns-in-Ok-clause-done : goal.returns-in-Ok-clause-done
returns-in-Ok-clause-done g c bs keeps is_book =
    let P : BookView → Type 0 = λ b. first_fault b c.args.acts.now ≡ None in
    let next : IsNext bs c.args.acts.now = record { some = c.requires.some; small = c.requires.small; outcomes = c.requires.outcomes; applies = subst P (sym is_book) c.requires.applies } in
    record {
      at = c.in-Ok.ensures.done bs keeps.at next;
      kept = next_reserve empty_book empty_ordered bs c.args.acts.now keeps.at.file.valid next _ _ keeps.kept c.in-Ok.ensures.reserve;
      count = omega (arith, c.in-Ok.ensures.count, keeps.count, length-append bs (c.args.acts.now ∷ []));
    }

pub returns-in-Ok-clause-kept : goal.returns-in-Ok-clause-kept
returns-in-Ok-clause-kept g c ordered was = reserve_behind _ c.args.acts.now _ _ ordered c.requires.applies was c.in-Ok.ensures.reserve
