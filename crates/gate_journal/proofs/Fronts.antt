-- One more batch.
use Rattle.std.proofs.Common.{◌≡◌, ℕ, List, [], ◌∷◌, ◌++◌, None, refl, sym, ap, ◌∙◌, append_assoc, arith}
use Rattle.std.proofs.lemmas.List.{append-nil}
use Rattle.book_model.specs.declared.act.Act.{Act}
use Rattle.book_model.specs.Book.{BookView, first_fault, effects}
use Rattle.journal_codec.specs.Format.{magic, batch, blocks, front_from}
use Rattle.journal_codec.specs.Batches.{IsBatch, AllApply, HoldsFrom, book_after}
use Rattle.disk_core.specs.Disk.{overwritten}

pub blocks_more : (bs : List (List Act)) (acts : List Act) → blocks (bs ++ acts ∷ []) ≡ blocks bs ++ 1 ∷ batch acts
unfolding blocks
blocks_more [] acts = ap (λ (l : List ℕ). 1 ∷ l) (append-nil (batch acts))
blocks_more (b ∷ bs) acts = ap (λ (l : List ℕ). 1 ∷ l) (ap (λ (l : List ℕ). batch b ++ l) (blocks_more bs acts) ∙ sym (append_assoc (batch b) (blocks bs) (1 ∷ batch acts)))

pub front_none : (head behind : List ℕ) → head ++ behind ≡ front_from head [] ++ behind
unfolding blocks
front_none head behind = ap (λ (l : List ℕ). l ++ behind) (sym (append-nil head))

pub front_more : (head : List ℕ) (bs : List (List Act)) (acts : List Act) → front_from head (bs ++ acts ∷ []) ≡ front_from head bs ++ 1 ∷ batch acts
front_more head bs acts = ap (λ (l : List ℕ). head ++ l) (blocks_more bs acts) ∙ sym (append_assoc head (blocks bs) (1 ∷ batch acts))

pub all_more : (b : BookView) (bs : List (List Act)) (acts : List Act) → AllApply b bs → IsBatch acts → first_fault (book_after b bs) acts ≡ None → AllApply b (bs ++ acts ∷ [])
unfolding AllApply book_after
all_more b [] acts h is applies = (is, applies, tt)
all_more b (a ∷ bs) acts h is applies = (h.0, h.1, all_more (effects b a) bs acts h.2 is applies)

pub book_more : (b : BookView) (bs : List (List Act)) (acts : List Act) → book_after b (bs ++ acts ∷ []) ≡ effects (book_after b bs) acts
unfolding book_after
book_more b [] acts = refl
book_more b (a ∷ bs) acts = book_more (effects b a) bs acts

-- a file of nine bytes
pub fresh_file : (old : List ℕ) → old ≡ [] → overwritten 0 (magic ++ 0 ∷ []) old ≡ magic ++ 0 ∷ []
fresh_file old e = ap (overwritten 0 (magic ++ 0 ∷ [])) e

-- A head and a closed gate hold no batches.
pub fresh_holds : (head : List ℕ) (start : BookView) (file : List ℕ) → file ≡ head ++ 0 ∷ [] → HoldsFrom head start file []
unfolding AllApply
fresh_holds head start file e = record { gate = 0; rest = []; shut = λ i. absurd (omega (arith, i)); is = e ∙ front_none head (0 ∷ []); valid = tt }
