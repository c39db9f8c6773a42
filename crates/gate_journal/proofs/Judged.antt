-- For a file one thing is true: it holds batches, it is damaged at a place, or it is no journal.
use Rattle.std.proofs.Common.{◌≡◌, ◌≢◌, ◌⊎◌, ⊎_elim, ℕ, ◌<◌, List, [], ◌∷◌, ◌++◌, length, take, refl, sym, ap, ◌∙◌, subst, arith, append_assoc, length-append}
use Rattle.std.proofs.lemmas.List.{append_cancel_left}
use Rattle.book_model.specs.declared.act.Act.{Act}
use Rattle.book_model.specs.Book.{BookView, empty_book, effects}
use Rattle.gate_journal.specs.declared.fault.OpenFault.TheVariants.{NotAJournal}
use Rattle.journal_codec.specs.Format.{magic, batch, blocks, front_from, front}
use Rattle.journal_codec.specs.Batches.{AllApply, HoldsFrom, Holds, book_after}
use Rattle.gate_journal.specs.Opening.{Begins, NoBatch, IsDamagedFrom, IsDamagedAt, Explains}
use Rattle.journal_codec.proofs.Unique.{batch_unique}

byte_same : (a b : ℕ) (r s : List ℕ) → a ∷ r ≡ b ∷ s → a ≡ b
byte_same a b r s e = cc

rest_same : (a b : ℕ) (r s : List ℕ) → a ∷ r ≡ b ∷ s → r ≡ s
rest_same a b r s e = cc

-- Something follows batches and a gate.
record Parts (bytes : List ℕ) : Type 0 where
  gate : ℕ
  rest : List ℕ
  is : bytes ≡ gate ∷ rest

some_gate : (bs : List (List Act)) (gate : ℕ) (rest : List ℕ) → Parts (blocks bs ++ gate ∷ rest)
unfolding blocks
some_gate [] gate rest = record { gate = gate; rest = rest; is = refl }
some_gate (acts ∷ bs) gate rest = record { gate = 1; rest = batch acts ++ blocks bs ++ gate ∷ rest; is = refl }

begins : (b : BookView) (acts : List Act) (bs : List (List Act)) (gate : ℕ) (rest bytes : List ℕ) → AllApply b (acts ∷ bs) → bytes ≡ batch acts ++ blocks bs ++ gate ∷ rest → Begins b bytes acts
unfolding AllApply
begins b acts bs gate rest bytes all e =
    let parts = some_gate bs gate rest in
    record {
      gate = parts.gate;
      rest = parts.rest;
      is = e ∙ append_assoc (batch acts) (blocks bs) (gate ∷ rest) ∙ ap (λ (l : List ℕ). batch acts ++ l) parts.is;
      is_batch = all.0;
      applies = all.1;
    }

-- One batch that both have.
record Behind (x y : List Act) (r s : List ℕ) : Type 0 where
  acts : x ≡ y
  rests : r ≡ s

behind : (b : BookView) (x y : List Act) (xs ys : List (List Act)) (g h : ℕ) (r s : List ℕ) → AllApply b (x ∷ xs) → AllApply b (y ∷ ys)
    → blocks (x ∷ xs) ++ g ∷ r ≡ blocks (y ∷ ys) ++ h ∷ s → Behind x y (blocks xs ++ g ∷ r) (blocks ys ++ h ∷ s)
unfolding blocks AllApply
behind b x y xs ys g h r s all all' e =
    let same = batch_unique x y (blocks xs ++ g ∷ r) (blocks ys ++ h ∷ s) all.0 all'.0
    (sym (append_assoc (batch x) (blocks xs) (g ∷ r)) ∙ rest_same 1 1 (batch x ++ blocks xs ++ g ∷ r) (batch y ++ blocks ys ++ h ∷ s) e ∙ append_assoc (batch y) (blocks ys) (h ∷ s)) in
    record { acts = same.acts; rests = same.rests }

ends_or_breaks : (b : BookView) (xs ys : List (List Act)) (g : ℕ) (r s : List ℕ) → g ≢ 1 → AllApply b xs → AllApply b ys → NoBatch (book_after b ys) s → blocks xs ++ g ∷ r ≡ blocks ys ++ 1 ∷ s → ⊥
unfolding blocks AllApply book_after
ends_or_breaks b [] [] g r s shut all all' none e = shut (byte_same g 1 r s e)
ends_or_breaks b [] (y ∷ ys) g r s shut all all' none e = shut (byte_same g 1 r (batch y ++ blocks ys ++ 1 ∷ s) e)
ends_or_breaks b (x ∷ xs) [] g r s shut all all' none e = none x (begins b x xs g r s all (sym (rest_same 1 1 (batch x ++ blocks xs ++ g ∷ r) s e)))
ends_or_breaks b (x ∷ xs) (y ∷ ys) g r s shut all all' none e =
    let same = behind b x y xs ys g 1 r s all all' e in
    let P : List Act → Type 0 = λ z. AllApply (effects b z) xs in
    ends_or_breaks (effects b y) xs ys g r s shut (subst P same.acts all.2) all'.2 none same.rests

breaks_once : (b : BookView) (xs ys : List (List Act)) (r s : List ℕ) → AllApply b xs → AllApply b ys → NoBatch (book_after b xs) r → NoBatch (book_after b ys) s → blocks xs ++ 1 ∷ r ≡ blocks ys ++ 1 ∷ s → xs ≡ ys
unfolding blocks AllApply book_after
breaks_once b [] [] r s all all' none none' e = refl
breaks_once b [] (y ∷ ys) r s all all' none none' e = absurd (none y (begins b y ys 1 s r all' (rest_same 1 1 r (batch y ++ blocks ys ++ 1 ∷ s) e)))
breaks_once b (x ∷ xs) [] r s all all' none none' e = absurd (none' x (begins b x xs 1 r s all (sym (rest_same 1 1 (batch x ++ blocks xs ++ 1 ∷ r) s e))))
breaks_once b (x ∷ xs) (y ∷ ys) r s all all' none none' e =
    let same = behind b x y xs ys 1 1 r s all all' e in
    let P : List Act → Type 0 = λ z. AllApply (effects b z) xs in
    let Q : List Act → Type 0 = λ z. NoBatch (book_after (effects b z) xs) r in
    let rest = breaks_once (effects b y) xs ys r s (subst P same.acts all.2) all'.2 (subst Q same.acts none) none' same.rests in
    ap (λ (l : List (List Act)). x ∷ l) rest ∙ ap (λ (z : List Act). z ∷ ys) same.acts

behind_head : (head : List ℕ) (xs ys : List (List Act)) (g h : ℕ) (r s file : List ℕ) → file ≡ front_from head xs ++ g ∷ r → file ≡ front_from head ys ++ h ∷ s → blocks xs ++ g ∷ r ≡ blocks ys ++ h ∷ s
behind_head head xs ys g h r s file e f =
    append_cancel_left head (blocks xs ++ g ∷ r) (blocks ys ++ h ∷ s)
    (sym (append_assoc head (blocks xs) (g ∷ r)) ∙ sym e ∙ f ∙ append_assoc head (blocks ys) (h ∷ s))

-- A file with a head, above a book.
module _ (head : List ℕ) (start : BookView) where
  pub whole_or_damaged : (file : List ℕ) (bs : List (List Act)) (place : ℕ) → HoldsFrom head start file bs → IsDamagedFrom head start file place → ⊥
  whole_or_damaged file bs place h d =
      ends_or_breaks start bs d.batches h.gate h.rest d.rest h.shut h.valid d.valid d.no_batch (behind_head head bs d.batches h.gate 1 h.rest d.rest file h.is d.is)

  pub one_damage : (file : List ℕ) (first second : ℕ) → IsDamagedFrom head start file first → IsDamagedFrom head start file second → first ≡ second
  one_damage file first second d e =
      let same = breaks_once start d.batches e.batches d.rest e.rest d.valid e.valid d.no_batch e.no_batch (behind_head head d.batches e.batches 1 1 d.rest e.rest file d.is e.is) in
      d.is_place ∙ ap (λ (bs : List (List Act)). length (front_from head bs)) same ∙ sym e.is_place

-- a journal
pub holds_or_damaged : (file : List ℕ) (bs : List (List Act)) (place : ℕ) → Holds file bs → IsDamagedAt file place → ⊥
holds_or_damaged = whole_or_damaged magic empty_book

pub one_place : (file : List ℕ) (first second : ℕ) → IsDamagedAt file first → IsDamagedAt file second → first ≡ second
one_place = one_damage magic empty_book

has_magic : (file : List ℕ) (bs : List (List Act)) (gate : ℕ) (rest : List ℕ) → file ≡ front bs ++ gate ∷ rest → (length file < 9) ⊎ (take 8 file ≢ magic) → ⊥
has_magic file bs gate rest e none =
    ⊎_elim
    (λ short. omega (arith, short, ap length e, length-append (front bs) (gate ∷ rest), length-append magic (blocks bs)))
    (λ other. other (ap (take 8) e))
    none

pub holds_or_none : (file : List ℕ) (bs : List (List Act)) → Holds file bs → Explains file NotAJournal → ⊥
holds_or_none file bs h none = has_magic file bs h.gate h.rest h.is none

pub damaged_or_none : (file : List ℕ) (place : ℕ) → IsDamagedAt file place → Explains file NotAJournal → ⊥
damaged_or_none file place d none = has_magic file d.batches 1 d.rest d.is none
