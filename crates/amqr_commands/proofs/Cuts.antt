-- A text cut at the first mark.
use Rattle.std.proofs.Common.{◌≡◌, ℕ, ◌<◌, ◌==◌, List, [], ◌∷◌, length, get_or, refl, ◌∙◌, Some, None, Bor, false, ne_eqb, arith}
use Rattle.std.proofs.lemmas.List.Elements.{All-from_get_or}
use Rattle.std.proofs.lemmas.List.Splits.{slice_split_none, slice_split_first, length-slice_split}
use Rattle.std.proofs.lemmas.Str.Pattern.{IsSplitOnceResult, split_once_first, split_parts}
use Rattle.amqr_commands.specs.Words.{Text, cut_at}
use Rattle.amqr_commands.specs.Lines.{step_by}

-- where the text doesn't have the mark, it stays whole
pub cut_none : (mark : ℕ) (text : Text) → mark < 128 → IsSplitOnceResult mark text None → cut_at mark text ≡ text ∷ []
cut_none mark text small h =
    let absent = split_parts mark text None h small in
    slice_split_none (λ byte. byte == mark) text (All-from_get_or (λ byte. (byte == mark) ≡ false) text 0 (λ i inside. ne_eqb (get_or text i 0) mark (absent i inside)))

-- where it has the mark, it is cut there
pub cut_some : (mark : ℕ) (text : Text) (x : Bor Text × Bor Text) → mark < 128 → IsSplitOnceResult mark text (Some x) → cut_at mark text ≡ x.0.now ∷ cut_at mark x.1.now
cut_some mark text x small h =
    let first = split_once_first mark text (Some x) h small in
    slice_split_first (λ byte. byte == mark) text 0 first.0 ∙ rw (← first.1, ← first.2) refl

-- a text gives at least one piece
pub cut_is_some : (mark : ℕ) (text : Text) → 0 < length (cut_at mark text)
cut_is_some mark text = let e = length-slice_split (λ byte. byte == mark) text in omega (arith, e)

-- more than three words are no step
pub many_words : (a b c : Text) (others : List Text) → 0 < length others → step_by (a ∷ b ∷ c ∷ others) ≡ None
many_words a b c [] h = absurd (omega (arith, h))
many_words a b c (d ∷ ds) h = refl
