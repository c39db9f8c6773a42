-- What a crash leaves of batches that are being written together.
use Rattle.std.proofs.Common.{◌≡◌, ◌≢◌, ◌⊎◌, inl, inr, ℕ, zero, suc, ◌+◌, ◌<◌, List, [], ◌∷◌, ◌++◌, length, take, drop, refl, sym, ap, ◌∙◌, append_assoc, length-append, arith}
use Rattle.std.proofs.lemmas.List.{take_at, drop_at}
use Rattle.disk_core.specs.Disk.{Spoilt, between, Agrees, overwritten, Only}
use Rattle.disk_core.specs.SpoiltLaws.{spoilt_of}
use Rattle.disk_core.specs.DiskLaws.{overwritten_inside}
use Rattle.book_model.specs.declared.act.Act.{Act}
use Rattle.book_model.specs.Book.{BookView, effects}
use Rattle.journal_codec.specs.Format.{batch, blocks, front_from}
use Rattle.journal_codec.specs.Batches.{HoldsFrom, AllApply, book_after}
use Rattle.gate_journal.specs.Stands.{IsAtFrom}
use Rattle.twin_journal.specs.Held.{IsFillOf}

-- lists of batches, one behind another

pub blocks_append : (xs ys : List (List Act)) → blocks (xs ++ ys) ≡ blocks xs ++ blocks ys
unfolding blocks
blocks_append [] ys = refl
blocks_append (x ∷ xs) ys = ap (λ (l : List ℕ). 1 ∷ l) (ap (λ (l : List ℕ). batch x ++ l) (blocks_append xs ys) ∙ sym (append_assoc (batch x) (blocks xs) (blocks ys)))

pub all_append : (b : BookView) (xs ys : List (List Act)) → AllApply b xs → AllApply (book_after b xs) ys → AllApply b (xs ++ ys)
unfolding AllApply book_after
all_append b [] ys front back = back
all_append b (x ∷ xs) ys front back = (front.0, front.1, all_append (effects b x) xs ys front.2 back)

pub book_append : (b : BookView) (xs ys : List (List Act)) → book_after b (xs ++ ys) ≡ book_after (book_after b xs) ys
unfolding book_after
book_append b [] ys = refl
book_append b (x ∷ xs) ys = book_append (effects b x) xs ys

pub front_append : (head : List ℕ) (bs lists : List (List Act)) → front_from head (bs ++ lists) ≡ front_from head bs ++ blocks lists
front_append head bs lists = ap (λ (l : List ℕ). head ++ l) (blocks_append bs lists) ∙ sym (append_assoc head (blocks bs) (blocks lists))

-- a file up to the gate after a front, the gate included
up_to_gate : (front rest : List ℕ) (gate place : ℕ) → place ≡ length front → take (place + 1) (front ++ gate ∷ rest) ≡ front ++ gate ∷ []
up_to_gate front rest gate place e =
    ap (take (place + 1)) (sym (append_assoc front (gate ∷ []) rest)) ∙ take_at (front ++ gate ∷ []) rest (place + 1) (omega (arith, e, length-append front (gate ∷ [])))

behind_gate : (front rest : List ℕ) (gate place : ℕ) → place ≡ length front → drop (place + 1) (front ++ gate ∷ rest) ≡ rest
behind_gate front rest gate place e =
    ap (drop (place + 1)) (sym (append_assoc front (gate ∷ []) rest)) ∙ drop_at (front ++ gate ∷ []) rest (place + 1) (omega (arith, e, length-append front (gate ∷ [])))

-- a file with a fill after a gate behind batches, and a closed gate after the fill
record IsStaged (head file : List ℕ) (bs : List (List Act)) (fill : List ℕ) : Type 0 where
  gate : ℕ
  rest : List ℕ
  shut : gate ≢ 1
  is : file ≡ front_from head bs ++ gate ∷ (fill ++ 0 ∷ rest)

one_byte : (l : List ℕ) → length l ≡ 1 → (n : ℕ) × (l ≡ n ∷ [])
one_byte [] e = absurd (omega (arith, e))
one_byte (n ∷ []) e = (n, refl)
one_byte (n ∷ m ∷ l) e = absurd (omega (arith, e))

-- A file with a head, above a book.
module _ (head : List ℕ) (start : BookView) where
  -- Anything may follow the gate.
  spoilt_behind : (bs : List (List Act)) (seen c : List ℕ) (place end : ℕ) → HoldsFrom head start seen bs → place ≡ length (front_from head bs) → Spoilt (place + 1) end seen c → HoldsFrom head start c bs
  spoilt_behind bs seen c place end h e s = record {
    gate = h.gate;
    rest = s.middle ++ (drop end seen ++ s.past);
    shut = h.shut;
    is =
        s.is
        ∙ ap (λ (l : List ℕ). l ++ s.middle ++ drop end seen ++ s.past) (ap (take (place + 1)) h.is ∙ up_to_gate (front_from head bs) h.rest h.gate place e)
        ∙ append_assoc (front_from head bs ++ h.gate ∷ [] ++ s.middle) (drop end seen) s.past
        ∙ append_assoc (front_from head bs ++ h.gate ∷ []) s.middle (drop end seen ++ s.past)
        ∙ append_assoc (front_from head bs) (h.gate ∷ []) (s.middle ++ (drop end seen ++ s.past));
    valid = h.valid;
  }

  staged : (bs : List (List Act)) (fill seen file block : List ℕ) (place : ℕ) → HoldsFrom head start seen bs → place ≡ length (front_from head bs) → block ≡ fill ++ 0 ∷ []
      → file ≡ overwritten (place + 1) block seen → IsStaged head file bs fill
  staged bs fill seen file block place h e is written = record {
    gate = h.gate;
    rest = drop (place + 1 + length block) seen;
    shut = h.shut;
    is =
        written
        ∙ overwritten_inside (place + 1) block seen (omega (arith, e, ap length h.is, length-append (front_from head bs) (h.gate ∷ h.rest)))
        ∙ ap (λ (l : List ℕ). l ++ block ++ drop (place + 1 + length block) seen) (ap (take (place + 1)) h.is ∙ up_to_gate (front_from head bs) h.rest h.gate place e)
        ∙ ap (λ (l : List ℕ). front_from head bs ++ h.gate ∷ [] ++ l ++ drop (place + 1 + length block) seen) is
        ∙ append_assoc (front_from head bs ++ h.gate ∷ []) (fill ++ 0 ∷ []) (drop (place + 1 + length block) seen)
        ∙ append_assoc (front_from head bs) (h.gate ∷ []) (fill ++ 0 ∷ [] ++ drop (place + 1 + length block) seen)
        ∙ ap (λ (l : List ℕ). front_from head bs ++ h.gate ∷ l) (append_assoc fill (0 ∷ []) (drop (place + 1 + length block) seen));
  }

  -- all bytes up to the gate after the fill, once the gate before it is open
  opened_front : (bs lists : List (List Act)) (fill rest : List ℕ) → blocks lists ≡ 1 ∷ fill → front_from head bs ++ 1 ∷ (fill ++ 0 ∷ rest) ≡ front_from head (bs ++ lists) ++ 0 ∷ rest
  opened_front bs lists fill rest are =
      sym (append_assoc (front_from head bs) (1 ∷ fill) (0 ∷ rest)) ∙ ap (λ (l : List ℕ). front_from head bs ++ l ++ 0 ∷ rest) (sym are) ∙ ap (λ (l : List ℕ). l ++ 0 ∷ rest) (sym (front_append head bs lists))

  -- The gate before a staged fill: whatever byte is there, the file has all batches of the fill or none.
  by_gate : (bs lists : List (List Act)) (fill c rest : List ℕ) (gate : ℕ) → AllApply start bs → AllApply (book_after start bs) lists → blocks lists ≡ 1 ∷ fill
      → c ≡ front_from head bs ++ gate ∷ (fill ++ 0 ∷ rest) → HoldsFrom head start c bs ⊎ HoldsFrom head start c (bs ++ lists)
  by_gate bs lists fill c rest zero valid apply are e = inl (record { gate = 0; rest = fill ++ 0 ∷ rest; shut = λ i. absurd (omega (arith, i)); is = e; valid = valid })
  by_gate bs lists fill c rest (suc zero) valid apply are e = inr (record { gate = 0; rest = rest; shut = λ i. absurd (omega (arith, i)); is = e ∙ opened_front bs lists fill rest are; valid = all_append start bs lists valid apply })
  by_gate bs lists fill c rest (suc (suc gate)) valid apply are e = inl (record { gate = suc (suc gate); rest = fill ++ 0 ∷ rest; shut = λ i. absurd (omega (arith, i)); is = e; valid = valid })

  spoilt_gate : (bs lists : List (List Act)) (fill file c : List ℕ) (place : ℕ) → AllApply start bs → AllApply (book_after start bs) lists → blocks lists ≡ 1 ∷ fill
      → IsStaged head file bs fill → place ≡ length (front_from head bs) → Spoilt place (place + 1) file c → HoldsFrom head start c bs ⊎ HoldsFrom head start c (bs ++ lists)
  spoilt_gate bs lists fill file c place valid apply are st e s =
      let long : place + 1 < length file = omega (arith, e, ap length st.is, length-append (front_from head bs) (st.gate ∷ (fill ++ 0 ∷ st.rest)), length-append fill (0 ∷ st.rest)) in
      let byte = one_byte s.middle (omega (arith, s.fits long)) in
      by_gate bs lists fill c (st.rest ++ s.past) byte.0 valid apply are
      (
      s.is
      ∙ ap (λ (l : List ℕ). l ++ s.middle ++ drop (place + 1) file ++ s.past) (ap (take place) st.is ∙ take_at (front_from head bs) (st.gate ∷ (fill ++ 0 ∷ st.rest)) place (sym e))
      ∙ ap (λ (l : List ℕ). front_from head bs ++ l ++ drop (place + 1) file ++ s.past) byte.1
      ∙ ap (λ (l : List ℕ). front_from head bs ++ byte.0 ∷ [] ++ l ++ s.past) (ap (drop (place + 1)) st.is ∙ behind_gate (front_from head bs) (fill ++ 0 ∷ st.rest) st.gate place e)
      ∙ append_assoc (front_from head bs ++ byte.0 ∷ []) (fill ++ 0 ∷ st.rest) s.past
      ∙ append_assoc (front_from head bs) (byte.0 ∷ []) (fill ++ 0 ∷ st.rest ++ s.past)
      ∙ ap (λ (l : List ℕ). front_from head bs ++ byte.0 ∷ l) (append_assoc fill (0 ∷ st.rest) s.past)
      )

  opened : (bs lists : List (List Act)) (fill file new : List ℕ) (place : ℕ) → AllApply start bs → AllApply (book_after start bs) lists → blocks lists ≡ 1 ∷ fill
      → IsStaged head file bs fill → place ≡ length (front_from head bs) → new ≡ overwritten place (1 ∷ []) file → HoldsFrom head start new (bs ++ lists)
  opened bs lists fill file new place valid apply are st e written = record {
    gate = 0;
    rest = st.rest;
    shut = λ i. absurd (omega (arith, i));
    is =
        written
        ∙ overwritten_inside place (1 ∷ []) file (omega (arith, e, ap length st.is, length-append (front_from head bs) (st.gate ∷ (fill ++ 0 ∷ st.rest))))
        ∙ ap (λ (l : List ℕ). l ++ 1 ∷ [] ++ drop (place + 1) file) (ap (take place) st.is ∙ take_at (front_from head bs) (st.gate ∷ (fill ++ 0 ∷ st.rest)) place (sym e))
        ∙ ap (λ (l : List ℕ). front_from head bs ++ 1 ∷ [] ++ l) (ap (drop (place + 1)) st.is ∙ behind_gate (front_from head bs) (fill ++ 0 ∷ st.rest) st.gate place e)
        ∙ append_assoc (front_from head bs) (1 ∷ []) (fill ++ 0 ∷ st.rest)
        ∙ opened_front bs lists fill st.rest are;
    valid = all_append start bs lists valid apply;
  }

-- The four calls, and what a crash may leave after them.
module _ (head : List ℕ) (start : BookView) (seen : List ℕ) (may_leave : List ℕ → Type 0) (place : ℕ) (bs lists : List (List Act)) (block : List ℕ)
    (at : IsAtFrom head start seen may_leave place bs) (fill : IsFillOf lists block) (apply : AllApply (book_after start bs) lists) where
  pub first_leaves : (c : List ℕ) → Agrees (between (place + 1) (place + 1 + length block)) seen c → HoldsFrom head start c bs
  first_leaves c left =
      spoilt_behind head start bs seen c place (place + 1 + length block) at.file at.is_place (spoilt_of (place + 1) (place + 1 + length block) seen c (omega arith) left)

  is_staged : (file : List ℕ) → file ≡ overwritten (place + 1) block seen → IsStaged head file bs fill.batches
  is_staged file written = staged head start bs fill.batches seen file block place at.file at.is_place fill.is written

  pub second_leaves : (file : List ℕ) → file ≡ overwritten (place + 1) block seen
      → (c : List ℕ) → Agrees (between place (place + 1)) file c → HoldsFrom head start c bs ⊎ HoldsFrom head start c (bs ++ lists)
  second_leaves file written c left =
      spoilt_gate head start bs lists fill.batches file c place at.file.valid apply fill.are (is_staged file written) at.is_place (spoilt_of place (place + 1) file c (omega arith) left)

  pub stored : (file new : List ℕ) (leaves : List ℕ → Type 0) → file ≡ overwritten (place + 1) block seen → new ≡ overwritten place (1 ∷ []) file → Only new leaves
      → IsAtFrom head start new leaves (place + length block) (bs ++ lists)
  stored file new leaves written gated only = record {
    file = opened head start bs lists fill.batches file new place at.file.valid apply fill.are (is_staged file written) at.is_place gated;
    is_place = omega (arith, at.is_place, ap length fill.is, length-append fill.batches (0 ∷ []), ap length fill.are, ap length (front_append head bs lists), length-append (front_from head bs) (blocks lists));
    durable = only;
  }
