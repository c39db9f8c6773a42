-- One encoding: a file holds only one list of batches.
use Rattle.std.proofs.Common.{◌≡◌, ◌≢◌, ℕ, ◌+◌, List, [], ◌∷◌, ◌++◌, length, refl, sym, ap, ◌∙◌, subst, append_assoc}
use Rattle.std.proofs.lemmas.List.{append_cancel_left}
use Rattle.book_model.specs.declared.act.Act.{Act}
use Rattle.book_model.specs.Book.{BookView, empty_book, effects}
use Rattle.journal_codec.specs.Format.{magic, batch, blocks, front_from}
use Rattle.journal_codec.specs.Batches.{AllApply, HoldsFrom, Holds}
use Rattle.gate_journal.specs.Opening.{IsFoundFrom}
use Rattle.journal_codec.proofs.Unique.{batch_unique}

-- Batches up to a gate that isn't open.
blocks_unique : (b : BookView) (xs ys : List (List Act)) (g h : ℕ) (r s : List ℕ) → g ≢ 1 → h ≢ 1 → AllApply b xs → AllApply b ys → blocks xs ++ g ∷ r ≡ blocks ys ++ h ∷ s → xs ≡ ys
unfolding blocks AllApply
blocks_unique b [] [] g h r s shut shut' all all' e = refl
blocks_unique b [] (y ∷ ys) g h r s shut shut' all all' e = absurd (shut (let same : g ≡ 1 = cc in same))
blocks_unique b (x ∷ xs) [] g h r s shut shut' all all' e = absurd (shut' (let same : 1 ≡ h = cc in sym same))
blocks_unique b (x ∷ xs) (y ∷ ys) g h r s shut shut' all all' e =
    let behind : batch x ++ blocks xs ++ g ∷ r ≡ batch y ++ blocks ys ++ h ∷ s = cc in
    let same = batch_unique x y (blocks xs ++ g ∷ r) (blocks ys ++ h ∷ s) all.0 all'.0 (sym (append_assoc (batch x) (blocks xs) (g ∷ r)) ∙ behind ∙ append_assoc (batch y) (blocks ys) (h ∷ s)) in
    let P : List Act → Type 0 = λ z. AllApply (effects b z) ys in
    let rest = blocks_unique (effects b x) xs ys g h r s shut shut' all.2 (subst P (sym same.acts) all'.2) same.rests in
    ap (λ (l : List (List Act)). x ∷ l) rest ∙ ap (λ (z : List Act). z ∷ ys) same.acts

-- A file with a head, above a book.
module _ (head : List ℕ) (start : BookView) where
  pub one_list_from : (file : List ℕ) (xs ys : List (List Act)) → HoldsFrom head start file xs → HoldsFrom head start file ys → xs ≡ ys
  one_list_from file xs ys h i =
      blocks_unique start xs ys h.gate i.gate h.rest i.rest h.shut i.shut h.valid i.valid
      (append_cancel_left head (blocks xs ++ h.gate ∷ h.rest) (blocks ys ++ i.gate ∷ i.rest)
      (sym (append_assoc head (blocks xs) (h.gate ∷ h.rest)) ∙ sym h.is ∙ i.is ∙ append_assoc head (blocks ys) (i.gate ∷ i.rest)))

  -- the length of what was found in a file, by whichever batches it holds
  pub found_length : (bytes file : List ℕ) (book : BookView) (place count : ℕ) (bs : List (List Act)) → IsFoundFrom head start bytes book place count → bytes ≡ file → HoldsFrom head start file bs
      → place + 1 ≡ length (front_from head bs) + 1
  found_length bytes file book place count bs found same holds =
      let one = one_list_from file found.batches bs (subst (λ (f : List ℕ). HoldsFrom head start f found.batches) same found.holds) holds in
      ap (λ (n : ℕ). n + 1) (found.is_place ∙ ap (λ (b : List (List Act)). length (front_from head b)) one)

-- a journal
pub holds_unique : (file : List ℕ) (xs ys : List (List Act)) → Holds file xs → Holds file ys → xs ≡ ys
holds_unique = one_list_from magic empty_book
