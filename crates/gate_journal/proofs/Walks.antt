-- The walk over the batches of a file.
use Rattle.std.proofs.Common.{◌≡◌, ◌≢◌, ℕ, ◌+◌, ◌-◌, ◌≤◌, Bool, true, false, List, [], ◌∷◌, ◌++◌, length, None, Some, Result, Ok, Err, refl, sym, ap, ◌∙◌, subst, arith, append_assoc, length-append}
use Rattle.book_model.specs.declared.act.Act.{Act}
use Rattle.book_model.specs.declared.fault.BookFault.{BookFault}
use Rattle.book_model.specs.declared.fault.BookFault.TheVariants as books
use Rattle.gate_journal.specs.declared.fault.OpenFault.{OpenFault}
use Rattle.gate_journal.specs.declared.fault.OpenFault.TheVariants as opening
use Rattle.std.specs.Prelude.{not, ◌==◌, IfErr}
use Rattle.std.specs.Cmp.Lexicographic.{pointwise, bytes_decides}
use Rattle.book_model.specs.Book.{BookView, empty_book, first_fault, effects}
use Rattle.journal_codec.specs.Format.{magic, batch, front_from}
use Rattle.journal_codec.specs.Batches.{IsBatch, NoneBegins, AllApply, book_after}
use Rattle.gate_journal.specs.Opening.{NoBatch, IsDamagedFrom, IsFoundFrom, Explains}
use Rattle.gate_journal.specs.Scanning.{WalkedFrom, StopsFrom, IsNoNext, refused_as}
use Rattle.gate_journal.proofs.Fronts.{front_none, front_more, all_more, book_more}
use Rattle.journal_codec.proofs.Unique.{batch_unique}

pub place_of : (bytes front rest : List ℕ) → bytes ≡ front ++ rest → length bytes - length rest ≡ length front
place_of bytes front rest e = omega (arith, ap length e, length-append front rest)

pub by_rest : (rest : List ℕ) → rest ≢ [] → (gate : ℕ) × (behind : List ℕ) × (rest ≡ gate ∷ behind)
by_rest [] some = absurd (some refl)
by_rest (g ∷ r) some = (g, r, refl)

-- A file with a head, above a book.
module _ (head : List ℕ) (start : BookView) where
  -- before the first batch
  pub walk_none : (bytes behind : List ℕ) → bytes ≡ head ++ behind → behind ≢ [] → WalkedFrom head start bytes behind start 0
  unfolding AllApply book_after
  walk_none bytes behind e some = record {
    batches = [];
    is = e ∙ front_none head behind;
    some = some;
    valid = tt;
    book_is = refl;
    count_is = refl;
  }

  -- one more batch, after these batches
  pub record Over (batches : List (List Act)) (bytes rest : List ℕ) (book : BookView) (count : ℕ) : Type 0 where
    pub is : bytes ≡ front_from head batches ++ rest
    pub valid : AllApply start batches
    pub book_is : book ≡ book_after start batches
    pub count_is : count ≡ length batches

  pub over_more : (bytes rest inside behind : List ℕ) (book new : BookView) (count next : ℕ) (acts : List Act) (w : WalkedFrom head start bytes rest book count) → rest ≡ 1 ∷ inside → inside ≡ batch acts ++ behind
      → IsBatch acts → first_fault book acts ≡ None → new ≡ effects book acts → next ≡ count + 1 → Over (w.batches ++ acts ∷ []) bytes behind new next
  over_more bytes rest inside behind book new count next acts w gate spelled is applies effect counted =
      let P : BookView → Type 0 = λ b. first_fault b acts ≡ None in
      record {
        is =
            w.is
            ∙ ap (λ (l : List ℕ). front_from head w.batches ++ l) (gate ∙ ap (λ (l : List ℕ). 1 ∷ l) spelled)
            ∙ sym (append_assoc (front_from head w.batches) (1 ∷ batch acts) behind)
            ∙ ap (λ (l : List ℕ). l ++ behind) (sym (front_more head w.batches acts));
        valid = all_more start w.batches acts w.valid is (subst P w.book_is applies);
        book_is = effect ∙ ap (λ (b : BookView). effects b acts) w.book_is ∙ sym (book_more start w.batches acts);
        count_is = omega (arith, counted, w.count_is, length-append w.batches (acts ∷ []));
      }

  pub walk_more : (bytes rest inside behind : List ℕ) (book new : BookView) (count next : ℕ) (acts : List Act) → WalkedFrom head start bytes rest book count → rest ≡ 1 ∷ inside → inside ≡ batch acts ++ behind
      → IsBatch acts → behind ≢ [] → first_fault book acts ≡ None → new ≡ effects book acts → next ≡ count + 1 → WalkedFrom head start bytes behind new next
  walk_more bytes rest inside behind book new count next acts w gate spelled is some applies effect counted =
      let o = over_more bytes rest inside behind book new count next acts w gate spelled is applies effect counted in
      record { batches = w.batches ++ acts ∷ []; is = o.is; some = some; valid = o.valid; book_is = o.book_is; count_is = o.count_is }

  -- no batch
  pub walk_damaged : (bytes rest inside : List ℕ) (book : BookView) (count : ℕ) → WalkedFrom head start bytes rest book count → rest ≡ 1 ∷ inside → NoBatch book inside
      → IsDamagedFrom head start bytes (length bytes - length rest)
  walk_damaged bytes rest inside book count w gate none =
      let P : BookView → Type 0 = λ b. NoBatch b inside in
      record {
        batches = w.batches;
        rest = inside;
        is = w.is ∙ ap (λ (l : List ℕ). front_from head w.batches ++ l) gate;
        valid = w.valid;
        is_place = place_of bytes (front_from head w.batches) rest w.is;
        no_batch = subst P w.book_is none;
      }

  -- the end
  pub walk_ends : (bytes rest : List ℕ) (book : BookView) (count : ℕ) → WalkedFrom head start bytes rest book count → ((gate : ℕ) (behind : List ℕ) → rest ≡ gate ∷ behind → gate ≢ 1)
      → IsFoundFrom head start bytes book (length bytes - length rest) count
  walk_ends bytes rest book count w shut =
      let r = by_rest rest w.some in
      record {
        batches = w.batches;
        holds = record { gate = r.0; rest = r.1; shut = shut r.0 r.1 r.2; is = w.is ∙ ap (λ (l : List ℕ). front_from head w.batches ++ l) r.2; valid = w.valid };
        book_is = w.book_is;
        is_place = place_of bytes (front_from head w.batches) rest w.is;
        count_is = w.count_is;
      }

pub none_reads : (book : BookView) (inside : List ℕ) → NoneBegins inside → NoBatch book inside
none_reads book inside none acts b = none acts b.gate b.rest b.is_batch b.is

pub none_applies : (book : BookView) (inside behind : List ℕ) (acts : List Act) (fault : BookFault) → inside ≡ batch acts ++ behind → IsBatch acts → first_fault book acts ≡ Some fault → NoBatch book inside
none_applies book inside behind acts fault e is refused others b =
    let same = batch_unique acts others behind (b.gate ∷ b.rest) is b.is_batch (sym e ∙ b.is) in
    let applies : first_fault book acts ≡ None = ap (first_fault book) same.acts ∙ b.applies in
    absurd cc

pub refused_next : (inside behind : List ℕ) (book : BookView) (at : ℕ) (acts : List Act) (fault : BookFault) → ((fault ≡ books.Memory → ⊥) → first_fault book acts ≡ Some fault)
    → inside ≡ batch acts ++ behind → IsBatch acts → IsNoNext book inside at (refused_as fault at)
refused_next inside behind book at acts books.Memory first e is = tt
refused_next inside behind book at acts books.NoTerminus first e is = (refl, none_applies book inside behind acts books.NoTerminus e is (first (λ m. absurd cc)))
refused_next inside behind book at acts books.NoRow first e is = (refl, none_applies book inside behind acts books.NoRow e is (first (λ m. absurd cc)))
refused_next inside behind book at acts books.AlreadyDecided first e is = (refl, none_applies book inside behind acts books.AlreadyDecided e is (first (λ m. absurd cc)))
refused_next inside behind book at acts books.TagInUse first e is = (refl, none_applies book inside behind acts books.TagInUse e is (first (λ m. absurd cc)))
refused_next inside behind book at acts books.Limit first e is = (refl, none_applies book inside behind acts books.Limit e is (first (λ m. absurd cc)))

pub next_stops : (head : List ℕ) (start : BookView) (file rest inside : List ℕ) (book : BookView) (count : ℕ) (fault : OpenFault) → WalkedFrom head start file rest book count → rest ≡ 1 ∷ inside
    → IsNoNext book inside (length file - length rest) fault → StopsFrom head start file fault
next_stops head start file rest inside book count opening.Memory w e none = tt
next_stops head start file rest inside book count (opening.Damaged place) w e none =
    let P : ℕ → Type 0 = λ n. IsDamagedFrom head start file n in subst P (sym none.0) (walk_damaged head start file rest inside book count w e none.1)
next_stops head start file rest inside book count opening.NotAJournal w e none = none
next_stops head start file rest inside book count opening.Disk w e none = none

pub if_err : {T E : Type 0} (P Q : E → Type 0) (r : Result T E) → ((e : E) → P e → Q e) → IfErr r P → IfErr r Q
if_err P Q (Ok x) f p = p
if_err P Q (Err e) f p = f e p

-- why a journal's file gives no batches
pub stops_explain : (file : List ℕ) (fault : OpenFault) → StopsFrom magic empty_book file fault → Explains file fault
stops_explain file opening.Memory stops = tt
stops_explain file (opening.Damaged place) stops = stops
stops_explain file opening.NotAJournal stops = absurd stops
stops_explain file opening.Disk stops = absurd stops

pub next_never_disk : (book : BookView) (inside : List ℕ) (at : ℕ) (fault : OpenFault) → IsNoNext book inside at fault → fault ≡ opening.Disk → ⊥
next_never_disk book inside at opening.Memory none e = absurd cc
next_never_disk book inside at (opening.Damaged place) none e = absurd cc
next_never_disk book inside at opening.NotAJournal none e = none
next_never_disk book inside at opening.Disk none e = none

-- the head of the file
pub head_is : (head other : List ℕ) → other ≡ magic → not (pointwise ◌==◌ head other) ≡ false → head ≡ magic
head_is head other is e = (bytes_decides head other).0 (by_bool (pointwise ◌==◌ head other) e) ∙ is
  where
    by_bool : (b : Bool) → not b ≡ false → b ≡ true
    by_bool true f = refl
    by_bool false f = absurd cc

pub some_behind : (behind : List ℕ) (n : ℕ) → length behind + 8 ≡ n → 9 ≤ n → behind ≢ []
some_behind behind n e l none = omega (arith, ap length none)
