-- One encoding: bytes are those of one batch only.
use Rattle.std.proofs.Common.{◌≡◌, ℕ, ◌<◌, ◌≤◌, ◌^◌, List, [], ◌∷◌, ◌++◌, length, Err, refl, sym, ap, ◌∙◌, arith, append_assoc}
use Rattle.std.specs.Int.{w32}
use Rattle.std.proofs.lemmas.List.{append-nil}
use Rattle.book_model.specs.declared.act.Act.{Act}
use Rattle.journal_codec.specs.declared.read.ReadFault.TheVariants.{Misspelt}
use Rattle.journal_codec.specs.Format.{in_4, act_bytes, acts_bytes, batch}
use Rattle.journal_codec.specs.Batches.{IsWritable, AreWritable, IsBatch}
use Rattle.journal_codec.specs.Reading.{number_at, chunk_at, act_at}
use Rattle.journal_codec.proofs.Back.{act_back}
use Rattle.journal_codec.proofs.Tools.{done, same_read, same_rest, back_4, chunk_back}

pub none_at_all : act_at [] ≡ Err Misspelt
unfolding act_at
none_at_all = refl

act_same : (a b : Act) (r s : List ℕ) → IsWritable a → IsWritable b → act_bytes a ++ r ≡ act_bytes b ++ s → done a r ≡ done b s
act_same a b r s h i e = sym (act_back a r h) ∙ ap act_at e ∙ act_back b s i

-- The acts that some bytes begin with.
pub record Begins (whole front : List Act) (rest : List ℕ) : Type 0 where
  pub others : List Act
  pub is : whole ≡ front ++ others
  pub spelled : acts_bytes others ≡ rest
  pub writable : AreWritable others

pub acts_prefix : (whole front : List Act) (rest : List ℕ) → AreWritable whole → AreWritable front → acts_bytes whole ≡ acts_bytes front ++ rest → Begins whole front rest
acts_prefix whole [] rest h i e = record { others = whole; is = refl; spelled = e; writable = h }
acts_prefix [] (x ∷ xs) rest h i e =
    absurd (let no : act_at [] ≡ done x (acts_bytes xs ++ rest) = ap act_at (e ∙ append_assoc (act_bytes x) (acts_bytes xs) rest) ∙ act_back x (acts_bytes xs ++ rest) i.0 in let none = none_at_all in cc)
acts_prefix (a ∷ as') (x ∷ xs) rest h i e =
    let same = act_same a x (acts_bytes as') (acts_bytes xs ++ rest) h.0 i.0 (e ∙ append_assoc (act_bytes x) (acts_bytes xs) rest) in
    let first = same_read a x (acts_bytes as') (acts_bytes xs ++ rest) same in
    let behind = acts_prefix as' xs rest h.1 i.1 (same_rest a x (acts_bytes as') (acts_bytes xs ++ rest) same) in
    record {
      others = behind.others;
      is = ap (λ (b : Act). b ∷ as') first ∙ ap (λ (l : List Act). x ∷ l) behind.is;
      spelled = behind.spelled;
      writable = behind.writable;
    }

no_acts : (acts : List Act) → AreWritable acts → acts_bytes acts ≡ [] → acts ≡ []
no_acts [] h e = refl
no_acts (a ∷ acts) h e = absurd (let no : act_at [] ≡ done a (acts_bytes acts) = ap act_at (sym e) ∙ act_back a (acts_bytes acts) h.0 in let none = none_at_all in cc)

pub acts_unique : (xs ys : List Act) → AreWritable xs → AreWritable ys → acts_bytes xs ≡ acts_bytes ys → xs ≡ ys
acts_unique xs ys h i e =
    let p = acts_prefix xs ys [] h i (e ∙ sym (append-nil (acts_bytes ys))) in
    p.is ∙ ap (λ (l : List Act). ys ++ l) (no_acts p.others p.writable p.spelled) ∙ append-nil ys

-- Bytes after their length.
pub record SameBatch (a b : List Act) (r s : List ℕ) : Type 0 where
  pub acts : a ≡ b
  pub rests : r ≡ s

small : (n : ℕ) → n ≤ 4194304 → n < 2 ^ 32
small n l = omega arith

pub batch_unique : (a b : List Act) (r s : List ℕ) → IsBatch a → IsBatch b → batch a ++ r ≡ batch b ++ s → SameBatch a b r s
unfolding batch
batch_unique a b r s h i e =
    let split = sym (append_assoc (in_4 (length (acts_bytes a))) (acts_bytes a) r) ∙ e ∙ append_assoc (in_4 (length (acts_bytes b))) (acts_bytes b) s in
    let numbers : done (length (acts_bytes a)) (acts_bytes a ++ r) ≡ done (length (acts_bytes b)) (acts_bytes b ++ s) =
    sym (back_4 (length (acts_bytes a)) (acts_bytes a ++ r) (small (length (acts_bytes a)) h.small)) ∙ ap (number_at w32) split ∙ back_4 (length (acts_bytes b)) (acts_bytes b ++ s) (small (length (acts_bytes b)) i.small) in
    let sizes = same_read (length (acts_bytes a)) (length (acts_bytes b)) (acts_bytes a ++ r) (acts_bytes b ++ s) numbers in
    let bytes = same_rest (length (acts_bytes a)) (length (acts_bytes b)) (acts_bytes a ++ r) (acts_bytes b ++ s) numbers in
    let chunks : done (acts_bytes a) r ≡ done (acts_bytes b) s =
    sym (chunk_back (acts_bytes a) r) ∙ ap (chunk_at (length (acts_bytes a))) bytes ∙ ap (λ (n : ℕ). chunk_at n (acts_bytes b ++ s)) sizes ∙ chunk_back (acts_bytes b) s in
    record {
      acts = acts_unique a b h.writable i.writable (same_read (acts_bytes a) (acts_bytes b) r s chunks);
      rests = same_rest (acts_bytes a) (acts_bytes b) r s chunks;
    }
