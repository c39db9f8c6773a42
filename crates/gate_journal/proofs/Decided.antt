-- For each file one thing is true: it holds batches, it is damaged at a place, or it is no journal.
use Rattle.std.proofs.Common.{◌≡◌, ◌≢◌, ◌⊎◌, inl, inr, ⊎_elim, ℕ, zero, suc, ◌+◌, ◌-◌, ◌<◌, ◌≤◌, List, [], ◌∷◌, ◌++◌, length, take, drop, get_or, Result, Ok, Err, Option, Some, None, refl, sym, ap, ◌∙◌, subst, arith, length-append, length-drop, take-append-drop}
use Rattle.std.specs.Prelude.{nat_lt, ◌==◌}
use Rattle.std.specs.Cmp.Lexicographic.{pointwise, bytes_decides}
use Rattle.std.proofs.lemmas.Bool.Decides.{nat_tests}
use Rattle.std.proofs.lemmas.List.{append-nil, take_at}
use Rattle.book_model.specs.declared.act.Act.{Act}
use Rattle.book_model.specs.declared.fault.BookFault.{BookFault}
use Rattle.book_model.specs.Book.{BookView, empty_book, first_fault, effects}
use Rattle.gate_journal.specs.declared.fault.OpenFault.TheVariants.{NotAJournal}
use Rattle.journal_codec.specs.declared.read.ReadFault.{ReadFault}
use Rattle.journal_codec.specs.Format.{magic, in_4, acts_bytes, batch, front_from}
use Rattle.journal_codec.specs.Batches.{AreWritable, IsBatch, NoActs, HoldsFrom, Holds}
use Rattle.gate_journal.specs.Opening.{NoBatch, IsDamagedFrom, IsDamagedAt, Explains}
use Rattle.journal_codec.specs.Reading.{act_at, inside_at}
use Rattle.gate_journal.specs.Scanning.{WalkedFrom}
use Rattle.journal_codec.proofs.Tools.{AreBytes, bytes_behind, bytes_take, by_test, is_less, is_not_less}
use Rattle.journal_codec.proofs.Scans.{no_more, none_fails, read_more, read_shorter, none_of_acts, inside_forth, batch_is, is_batch}
use Rattle.gate_journal.proofs.Walks.{walk_none, walk_more, walk_damaged, walk_ends, none_reads, none_applies, by_rest}

by_result : {A P : Type 0} (r : Result A ReadFault) → ((x : A) → r ≡ Ok x → P) → ((fault : ReadFault) → r ≡ Err fault → P) → P
by_result (Ok x) f g = f x refl
by_result (Err fault) f g = g fault refl

pub by_option : {P : Type 0} (o : Option BookFault) → (o ≡ None → P) → ((fault : BookFault) → o ≡ Some fault → P) → P
by_option None f g = f refl
by_option (Some fault) f g = g fault refl

by_list : {P : Type 0} (l : List ℕ) → (l ≡ [] → P) → (0 < length l → P) → P
by_list [] f g = f refl
by_list (x ∷ l) f g = g (omega arith)

pub by_number : {P : Type 0} (m n : ℕ) → (m ≡ n → P) → (m ≢ n → P) → P
by_number m n f g = by_test (m == n) (λ t. f (grind (arith, nat_tests))) (λ t. g (λ same. absurd (grind (arith, nat_tests))))

pub are_front : (front rest : List ℕ) → AreBytes (front ++ rest) → AreBytes front
are_front front rest h = let P : List ℕ → Type 0 = λ l. AreBytes l in subst P (take_at front rest (length front) refl) (bytes_take (length front) (front ++ rest) h)

pub are_back : (bytes front rest : List ℕ) → bytes ≡ front ++ rest → AreBytes bytes → AreBytes rest
are_back bytes front rest e h = let P : List ℕ → Type 0 = λ l. AreBytes l in bytes_behind front rest (subst P e h)

-- Acts, or none.
pub record IsActs (bytes : List ℕ) : Type 0 where
  pub acts : List Act
  pub writable : AreWritable acts
  pub is : bytes ≡ acts_bytes acts

pub decide_acts : (fuel : ℕ) (bytes : List ℕ) (acts : List Act) (rest : List ℕ) → AreBytes bytes → length rest ≤ fuel → bytes ≡ acts_bytes acts ++ rest → AreWritable acts → IsActs bytes ⊎ NoActs bytes
decide_acts zero bytes acts rest are short e h =
    by_list rest
    (λ none. inl (record { acts = acts; writable = h; is = e ∙ ap (λ (l : List ℕ). acts_bytes acts ++ l) none ∙ append-nil (acts_bytes acts) }))
    (λ some. absurd (omega (arith, some, short)))
decide_acts (suc fuel) bytes acts rest are short e h =
    by_list rest
    (λ none. inl (record { acts = acts; writable = h; is = e ∙ ap (λ (l : List ℕ). acts_bytes acts ++ l) none ∙ append-nil (acts_bytes acts) }))
    (λ some.
    by_result (act_at rest)
    (λ x read.
    let step = read_more bytes acts rest x.0 x.1 are e h read in
    decide_acts fuel bytes (acts ++ x.0 ∷ []) x.1 are (omega (arith, short, read_shorter bytes acts rest x.0 x.1 are e read)) step.spelled step.writable)
    (λ fault read. inr (no_more bytes acts rest fault some e h read)))

-- A batch, or none.
record IsNextBatch (b : BookView) (bytes : List ℕ) : Type 0 where
  acts : List Act
  behind : List ℕ
  is : bytes ≡ batch acts ++ behind
  some : behind ≢ []
  is_batch : IsBatch acts
  applies : first_fault b acts ≡ None

decide_batch : (b : BookView) (bytes : List ℕ) → AreBytes bytes → IsNextBatch b bytes ⊎ NoBatch b bytes
decide_batch b bytes are =
    by_result (inside_at bytes)
    (λ x read.
    let inside = x.0 in
    let behind = x.1 in
    let forth = inside_forth bytes inside behind are read in
    let are_inside = are_front inside behind (are_back bytes (in_4 (length inside)) (inside ++ behind) forth.is are) in
    ⊎_elim
    (λ found.
    let spelled = batch_is bytes inside behind found.acts forth found.is in
    let is = is_batch bytes inside behind found.acts forth found.is found.writable in
    by_option (first_fault b found.acts)
    (λ applies. inl (record { acts = found.acts; behind = behind; is = spelled; some = forth.gate; is_batch = is; applies = applies }))
    (λ fault refused. inr (none_applies b bytes behind found.acts fault spelled is refused)))
    (λ none. inr (none_reads b bytes (none_of_acts bytes inside behind read none)))
    (decide_acts (length inside) inside [] inside are_inside (omega arith) refl tt))
    (λ fault read. inr (none_reads b bytes (none_fails bytes fault read)))

-- A file with a head, above a book.
module _ (head : List ℕ) (start : BookView) where
  -- Batches up to a closed gate, or up to no batch.
  abbrev pub IsJudged : List ℕ → Type 0
  IsJudged file = ((bs : List (List Act)) × HoldsFrom head start file bs) ⊎ ((place : ℕ) × IsDamagedFrom head start file place)

  decide_rest : (fuel : ℕ) (file rest : List ℕ) (b : BookView) (count : ℕ) → AreBytes file → length rest ≤ fuel → WalkedFrom head start file rest b count → IsJudged file
  decide_rest zero file rest b count are short w = by_list rest (λ none. absurd (w.some none)) (λ some. absurd (omega (arith, some, short)))
  decide_rest (suc fuel) file rest b count are short w =
      let parts = by_rest rest w.some in
      let gate = parts.0 in
      let behind = parts.1 in
      by_number gate 1
      (λ is_open.
      let e : rest ≡ 1 ∷ behind = parts.2 ∙ ap (λ (g : ℕ). g ∷ behind) is_open in
      let are_behind = are_back rest (1 ∷ []) behind e (are_back file (front_from head w.batches) rest w.is are) in
      ⊎_elim
      (λ next.
      decide_rest fuel file next.behind (effects b next.acts) (count + 1) are
      (omega (arith, short, ap length e, ap length next.is, length-append (batch next.acts) next.behind))
      (walk_more head start file rest behind next.behind b (effects b next.acts) count (count + 1) next.acts w e next.is next.is_batch next.some next.applies refl refl))
      (λ none. inr (length file - length rest, walk_damaged head start file rest behind b count w e none))
      (decide_batch b behind are_behind))
      (λ is_shut.
      let found = walk_ends head start file rest b count w (λ g r e. let same : gate ≡ g = gates gate g behind r (sym parts.2 ∙ e) in (λ one. is_shut (same ∙ one))) in
      inl (found.batches, found.holds))
    where
      gates : (a b : ℕ) (r s : List ℕ) → a ∷ r ≡ b ∷ s → a ≡ b
      gates a b r s e = cc

  -- a file with that head, and a gate at least
  pub judged_from : (file behind : List ℕ) → ((place : ℕ) → get_or file place 0 < 256) → file ≡ head ++ behind → behind ≢ [] → IsJudged file
  judged_from file behind are e some =
      decide_rest (length behind) file behind start 0 (record { each = are }) (omega arith) (walk_none head start file behind e some)

pub judged : (file : List ℕ) → ((place : ℕ) → get_or file place 0 < 256) → ((bs : List (List Act)) × Holds file bs) ⊎ (((place : ℕ) × IsDamagedAt file place) ⊎ Explains file NotAJournal)
judged file are =
    by_test (nat_lt (length file) 9)
    (λ t. inr (inr (inl (is_less (length file) 9 t))))
    (λ t.
    let long = is_not_less (length file) 9 t in
    by_test (pointwise ◌==◌ (take 8 file) magic)
    (λ u.
    let head : take 8 file ≡ magic = (bytes_decides (take 8 file) magic).0 u in
    let e : file ≡ magic ++ drop 8 file = sym (take-append-drop 8 file) ∙ ap (λ (l : List ℕ). l ++ drop 8 file) head in
    let some : drop 8 file ≢ [] = λ none. absurd (omega (arith, long, ap length none, length-drop 8 file)) in
    ⊎_elim (λ holds. inl holds) (λ damaged. inr (inl damaged)) (judged_from magic empty_book file (drop 8 file) are e some))
    (λ u. inr (inr (inr (λ head. absurd (let yes = (bytes_decides (take 8 file) magic).1 head in cc))))))
