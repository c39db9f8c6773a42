-- What a crash leaves of a batch that is being written.
use Rattle.std.proofs.Common.{◌≡◌, ◌≢◌, ◌⊎◌, inl, inr, ℕ, zero, suc, ◌+◌, ◌<◌, List, [], ◌∷◌, ◌++◌, length, take, drop, None, refl, sym, ap, ◌∙◌, append_assoc, length-append, arith}
use Rattle.std.proofs.lemmas.List.{take_at, drop_at}
use Rattle.disk_core.specs.Disk.{Spoilt, between, Agrees, overwritten, Only}
use Rattle.disk_core.specs.SpoiltLaws.{spoilt_of}
use Rattle.disk_core.specs.DiskLaws.{overwritten_inside}
use Rattle.book_model.specs.declared.act.Act.{Act}
use Rattle.book_model.specs.Book.{BookView, first_fault}
use Rattle.journal_codec.specs.Format.{batch, front_from}
use Rattle.journal_codec.specs.Batches.{HoldsFrom, IsBatch, AllApply, book_after}
use Rattle.gate_journal.specs.Stands.{IsAtFrom}
use Rattle.gate_journal.proofs.Fronts.{front_more, all_more}

-- a file up to the gate after a front, the gate included
up_to_gate : (front rest : List ℕ) (gate place : ℕ) → place ≡ length front → take (place + 1) (front ++ gate ∷ rest) ≡ front ++ gate ∷ []
up_to_gate front rest gate place e =
    ap (take (place + 1)) (sym (append_assoc front (gate ∷ []) rest)) ∙ take_at (front ++ gate ∷ []) rest (place + 1) (omega (arith, e, length-append front (gate ∷ [])))

behind_gate : (front rest : List ℕ) (gate place : ℕ) → place ≡ length front → drop (place + 1) (front ++ gate ∷ rest) ≡ rest
behind_gate front rest gate place e =
    ap (drop (place + 1)) (sym (append_assoc front (gate ∷ []) rest)) ∙ drop_at (front ++ gate ∷ []) rest (place + 1) (omega (arith, e, length-append front (gate ∷ [])))

-- a file with the batch after a gate behind batches, and a closed gate after the batch
pub record IsStaged (head file : List ℕ) (bs : List (List Act)) (acts : List Act) : Type 0 where
  pub gate : ℕ
  pub rest : List ℕ
  pub shut : gate ≢ 1
  pub is : file ≡ front_from head bs ++ gate ∷ (batch acts ++ 0 ∷ rest)

one_byte : (l : List ℕ) → length l ≡ 1 → (n : ℕ) × (l ≡ n ∷ [])
one_byte [] e = absurd (omega (arith, e))
one_byte (n ∷ []) e = (n, refl)
one_byte (n ∷ m ∷ l) e = absurd (omega (arith, e))

-- A file with a head, above a book.
module _ (head : List ℕ) (start : BookView) where
  -- Anything may follow the gate.
  spoilt_behind : (bs : List (List Act)) (seen c : List ℕ) (place end : ℕ) → HoldsFrom head start seen bs → place ≡ length (front_from head bs) → Spoilt (place + 1) end seen c → HoldsFrom head start c bs
  spoilt_behind bs seen c place end h e s = record {
    gate = h.gate;
    rest = s.middle ++ (drop end seen ++ s.past);
    shut = h.shut;
    is =
        s.is
        ∙ ap (λ (l : List ℕ). l ++ s.middle ++ drop end seen ++ s.past) (ap (take (place + 1)) h.is ∙ up_to_gate (front_from head bs) h.rest h.gate place e)
        ∙ append_assoc (front_from head bs ++ h.gate ∷ [] ++ s.middle) (drop end seen) s.past
        ∙ append_assoc (front_from head bs ++ h.gate ∷ []) s.middle (drop end seen ++ s.past)
        ∙ append_assoc (front_from head bs) (h.gate ∷ []) (s.middle ++ (drop end seen ++ s.past));
    valid = h.valid;
  }

  staged : (bs : List (List Act)) (acts : List Act) (seen file block : List ℕ) (place : ℕ) → HoldsFrom head start seen bs → place ≡ length (front_from head bs) → block ≡ batch acts ++ 0 ∷ []
      → file ≡ overwritten (place + 1) block seen → IsStaged head file bs acts
  staged bs acts seen file block place h e is written = record {
    gate = h.gate;
    rest = drop (place + 1 + length block) seen;
    shut = h.shut;
    is =
        written
        ∙ overwritten_inside (place + 1) block seen (omega (arith, e, ap length h.is, length-append (front_from head bs) (h.gate ∷ h.rest)))
        ∙ ap (λ (l : List ℕ). l ++ block ++ drop (place + 1 + length block) seen) (ap (take (place + 1)) h.is ∙ up_to_gate (front_from head bs) h.rest h.gate place e)
        ∙ ap (λ (l : List ℕ). front_from head bs ++ h.gate ∷ [] ++ l ++ drop (place + 1 + length block) seen) is
        ∙ append_assoc (front_from head bs ++ h.gate ∷ []) (batch acts ++ 0 ∷ []) (drop (place + 1 + length block) seen)
        ∙ append_assoc (front_from head bs) (h.gate ∷ []) (batch acts ++ 0 ∷ [] ++ drop (place + 1 + length block) seen)
        ∙ ap (λ (l : List ℕ). front_from head bs ++ h.gate ∷ l) (append_assoc (batch acts) (0 ∷ []) (drop (place + 1 + length block) seen));
  }

  -- The gate of a staged batch: whatever byte is there, the file has the batch or it hasn't.
  by_gate : (bs : List (List Act)) (acts : List Act) (c rest : List ℕ) (gate : ℕ) → AllApply start bs → IsBatch acts → first_fault (book_after start bs) acts ≡ None
      → c ≡ front_from head bs ++ gate ∷ (batch acts ++ 0 ∷ rest) → HoldsFrom head start c bs ⊎ HoldsFrom head start c (bs ++ acts ∷ [])
  by_gate bs acts c rest zero valid is applies e = inl (record { gate = 0; rest = batch acts ++ 0 ∷ rest; shut = λ i. absurd (omega (arith, i)); is = e; valid = valid })
  by_gate bs acts c rest (suc zero) valid is applies e = inr (record {
    gate = 0;
    rest = rest;
    shut = λ i. absurd (omega (arith, i));
    is = e ∙ sym (append_assoc (front_from head bs) (1 ∷ batch acts) (0 ∷ rest)) ∙ ap (λ (l : List ℕ). l ++ 0 ∷ rest) (sym (front_more head bs acts));
    valid = all_more start bs acts valid is applies;
  })
  by_gate bs acts c rest (suc (suc gate)) valid is applies e = inl (record { gate = suc (suc gate); rest = batch acts ++ 0 ∷ rest; shut = λ i. absurd (omega (arith, i)); is = e; valid = valid })

  spoilt_gate : (bs : List (List Act)) (acts : List Act) (file c : List ℕ) (place : ℕ) → AllApply start bs → IsBatch acts → first_fault (book_after start bs) acts ≡ None
      → IsStaged head file bs acts → place ≡ length (front_from head bs) → Spoilt place (place + 1) file c → HoldsFrom head start c bs ⊎ HoldsFrom head start c (bs ++ acts ∷ [])
  spoilt_gate bs acts file c place valid is applies st e s =
      let long : place + 1 < length file = omega (arith, e, ap length st.is, length-append (front_from head bs) (st.gate ∷ (batch acts ++ 0 ∷ st.rest)), length-append (batch acts) (0 ∷ st.rest)) in
      let byte = one_byte s.middle (omega (arith, s.fits long)) in
      by_gate bs acts c (st.rest ++ s.past) byte.0 valid is applies
      (
      s.is
      ∙ ap (λ (l : List ℕ). l ++ s.middle ++ drop (place + 1) file ++ s.past) (ap (take place) st.is ∙ take_at (front_from head bs) (st.gate ∷ (batch acts ++ 0 ∷ st.rest)) place (sym e))
      ∙ ap (λ (l : List ℕ). front_from head bs ++ l ++ drop (place + 1) file ++ s.past) byte.1
      ∙ ap (λ (l : List ℕ). front_from head bs ++ byte.0 ∷ [] ++ l ++ s.past) (ap (drop (place + 1)) st.is ∙ behind_gate (front_from head bs) (batch acts ++ 0 ∷ st.rest) st.gate place e)
      ∙ append_assoc (front_from head bs ++ byte.0 ∷ []) (batch acts ++ 0 ∷ st.rest) s.past
      ∙ append_assoc (front_from head bs) (byte.0 ∷ []) (batch acts ++ 0 ∷ st.rest ++ s.past)
      ∙ ap (λ (l : List ℕ). front_from head bs ++ byte.0 ∷ l) (append_assoc (batch acts) (0 ∷ st.rest) s.past)
      )

  opened : (bs : List (List Act)) (acts : List Act) (file new : List ℕ) (place : ℕ) → AllApply start bs → IsBatch acts → first_fault (book_after start bs) acts ≡ None
      → IsStaged head file bs acts → place ≡ length (front_from head bs) → new ≡ overwritten place (1 ∷ []) file → HoldsFrom head start new (bs ++ acts ∷ [])
  opened bs acts file new place valid is applies st e written = record {
    gate = 0;
    rest = st.rest;
    shut = λ i. absurd (omega (arith, i));
    is =
        written
        ∙ overwritten_inside place (1 ∷ []) file (omega (arith, e, ap length st.is, length-append (front_from head bs) (st.gate ∷ (batch acts ++ 0 ∷ st.rest))))
        ∙ ap (λ (l : List ℕ). l ++ 1 ∷ [] ++ drop (place + 1) file) (ap (take place) st.is ∙ take_at (front_from head bs) (st.gate ∷ (batch acts ++ 0 ∷ st.rest)) place (sym e))
        ∙ ap (λ (l : List ℕ). front_from head bs ++ 1 ∷ [] ++ l) (ap (drop (place + 1)) st.is ∙ behind_gate (front_from head bs) (batch acts ++ 0 ∷ st.rest) st.gate place e)
        ∙ append_assoc (front_from head bs) (1 ∷ []) (batch acts ++ 0 ∷ st.rest)
        ∙ sym (append_assoc (front_from head bs) (1 ∷ batch acts) (0 ∷ st.rest))
        ∙ ap (λ (l : List ℕ). l ++ 0 ∷ st.rest) (sym (front_more head bs acts));
    valid = all_more start bs acts valid is applies;
  }

-- The four calls, and what a crash may leave after them.
module _ (head : List ℕ) (start : BookView) (seen : List ℕ) (may_leave : List ℕ → Type 0) (place : ℕ) (bs : List (List Act)) (acts : List Act) (block : List ℕ)
    (at : IsAtFrom head start seen may_leave place bs) (is_block : block ≡ batch acts ++ 0 ∷ []) (is : IsBatch acts) (applies : first_fault (book_after start bs) acts ≡ None) where
  pub first_leaves : (c : List ℕ) → Agrees (between (place + 1) (place + 1 + length block)) seen c → HoldsFrom head start c bs
  first_leaves c left =
      spoilt_behind head start bs seen c place (place + 1 + length block) at.file at.is_place (spoilt_of (place + 1) (place + 1 + length block) seen c (omega arith) left)

  pub is_staged : (file : List ℕ) → file ≡ overwritten (place + 1) block seen → IsStaged head file bs acts
  is_staged file written = staged head start bs acts seen file block place at.file at.is_place is_block written

  pub second_leaves : (file : List ℕ) → file ≡ overwritten (place + 1) block seen
      → (c : List ℕ) → Agrees (between place (place + 1)) file c → HoldsFrom head start c bs ⊎ HoldsFrom head start c (bs ++ acts ∷ [])
  second_leaves file written c left =
      spoilt_gate head start bs acts file c place at.file.valid is applies (is_staged file written) at.is_place (spoilt_of place (place + 1) file c (omega arith) left)

  pub stored : (file new : List ℕ) (leaves : List ℕ → Type 0) → file ≡ overwritten (place + 1) block seen → new ≡ overwritten place (1 ∷ []) file → Only new leaves
      → IsAtFrom head start new leaves (place + length block) (bs ++ acts ∷ [])
  stored file new leaves written gated only = record {
    file = opened head start bs acts file new place at.file.valid is applies (is_staged file written) at.is_place gated;
    is_place = omega (arith, at.is_place, ap length is_block, length-append (batch acts) (0 ∷ []), ap length (front_more head bs acts), length-append (front_from head bs) (1 ∷ batch acts));
    durable = only;
  }
