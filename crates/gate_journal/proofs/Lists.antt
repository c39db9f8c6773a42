-- The acts of a walk.
use Rattle.std.proofs.Common.{◌≡◌, ◌≢◌, ℕ, ◌+◌, ◌-◌, List, [], ◌∷◌, ◌++◌, length, None, refl, sym, ap, ◌∙◌, arith, append_assoc, length-append}
use Rattle.std.proofs.lemmas.List.{append-nil}
use Rattle.book_model.specs.declared.act.Act.{Act}
use Rattle.book_model.specs.Book.{BookView, first_fault, effects}
use Rattle.gate_journal.specs.declared.listing.Entry.{Entry}
use Rattle.journal_codec.specs.Format.{batch, blocks, front_from}
use Rattle.journal_codec.specs.Batches.{IsBatch, AllApply, book_after}
use Rattle.gate_journal.specs.Listing.{placed, entries_from}
use Rattle.gate_journal.specs.Listed.{IsListedFrom}
use Rattle.gate_journal.specs.Walking.{ListedFrom}
use Rattle.gate_journal.proofs.Fronts.{front_none}
use Rattle.gate_journal.proofs.Walks.{over_more, place_of, by_rest}

length_blocks : (acts : List Act) (bs : List (List Act)) → length (blocks (acts ∷ bs)) ≡ 1 + length (batch acts) + length (blocks bs)
unfolding blocks
length_blocks acts bs = omega (arith, length-append (batch acts) (blocks bs))

no_blocks : length (blocks []) ≡ 0
unfolding blocks
no_blocks = refl

entries_more : (place : ℕ) (bs : List (List Act)) (acts : List Act) → entries_from place (bs ++ acts ∷ []) ≡ entries_from place bs ++ placed (place + length (blocks bs)) acts
unfolding entries_from
entries_more place [] acts = append-nil (placed place acts) ∙ ap (λ (n : ℕ). placed n acts) (let same : place ≡ place + length (blocks []) = omega (arith, no_blocks) in same)
entries_more place (b ∷ bs) acts =
    ap (λ (l : List Entry). placed place b ++ l)
    (entries_more (place + 1 + length (batch b)) bs acts
    ∙ ap (λ (n : ℕ). entries_from (place + 1 + length (batch b)) bs ++ placed n acts) (let same : place + 1 + length (batch b) + length (blocks bs) ≡ place + length (blocks (b ∷ bs)) = omega (arith, length_blocks b bs) in same))
    ∙ sym (append_assoc (placed place b) (entries_from (place + 1 + length (batch b)) bs) (placed (place + length (blocks (b ∷ bs))) acts))

length_front : (head : List ℕ) (bs : List (List Act)) → length (front_from head bs) ≡ length head + length (blocks bs)
length_front head bs = length-append head (blocks bs)

-- A file with a head, above a book.
module _ (head : List ℕ) (start : BookView) where
  pub list_none : (bytes behind : List ℕ) → bytes ≡ head ++ behind → behind ≢ [] → ListedFrom head start bytes behind start []
  unfolding AllApply book_after entries_from
  list_none bytes behind e some = record {
    count = 0;
    walked = record { batches = []; is = e ∙ front_none head behind; some = some; valid = tt; book_is = refl; count_is = refl };
    entries_are = refl;
  }

  pub list_more : (bytes rest inside behind : List ℕ) (book new : BookView) (old entries : List Entry) (acts : List Act) → ListedFrom head start bytes rest book old → rest ≡ 1 ∷ inside → inside ≡ batch acts ++ behind
      → IsBatch acts → behind ≢ [] → first_fault book acts ≡ None → new ≡ effects book acts → entries ≡ old ++ placed (length bytes - length rest) acts → ListedFrom head start bytes behind new entries
  list_more bytes rest inside behind book new old entries acts l gate spelled is some applies effect added =
      let w = l.walked in
      let o = over_more head start bytes rest inside behind book new l.count (l.count + 1) acts w gate spelled is applies effect refl in
      let place : length bytes - length rest ≡ length head + length (blocks w.batches) = place_of bytes (front_from head w.batches) rest w.is ∙ length_front head w.batches in
      record {
        count = l.count + 1;
        walked = record { batches = w.batches ++ acts ∷ []; is = o.is; some = some; valid = o.valid; book_is = o.book_is; count_is = o.count_is };
        entries_are =
            added
            ∙ ap (λ (n : ℕ). old ++ placed n acts) place
            ∙ ap (λ (m : List Entry). m ++ placed (length head + length (blocks w.batches)) acts) l.entries_are
            ∙ sym (entries_more (length head) w.batches acts);
      }

  pub list_ends : (bytes rest : List ℕ) (book : BookView) (entries : List Entry) → ListedFrom head start bytes rest book entries → ((gate : ℕ) (behind : List ℕ) → rest ≡ gate ∷ behind → gate ≢ 1)
      → IsListedFrom head start bytes entries (length bytes - length rest) book
  list_ends bytes rest book entries l shut =
      let w = l.walked in
      let r = by_rest rest w.some in
      record {
        batches = w.batches;
        holds = record { gate = r.0; rest = r.1; shut = shut r.0 r.1 r.2; is = w.is ∙ ap (λ (l : List ℕ). front_from head w.batches ++ l) r.2; valid = w.valid };
        entries_are = l.entries_are;
        is_place = place_of bytes (front_from head w.batches) rest w.is;
        book_is = w.book_is;
      }
