-- A walk over a list of acts.
use Rattle.std.proofs.Common.{◌≡◌, ℕ, ◌+◌, ◌<◌, ◌≤◌, List, [], ◌∷◌, length, drop, get_or, Some, None, refl, ap, ◌∙◌, sym}
use Rattle.std.proofs.lemmas.List.{at_drop_more, at_drop_all}
use Rattle.book_model.specs.declared.act.Act.{Act}
use Rattle.book_model.specs.declared.fault.BookFault.{BookFault}
use Rattle.book_model.specs.Book.{BookView, refusal, effect, first_fault, effects, or_else}

first_more : (m : BookView) (act : Act) (acts : List Act) → first_fault m (act ∷ acts) ≡ or_else (refusal m act) (first_fault (effect m act) acts)
unfolding first_fault
first_more m act acts = refl

effects_more : (m : BookView) (act : Act) (acts : List Act) → effects m (act ∷ acts) ≡ effects (effect m act) acts
unfolding effects
effects_more m act acts = refl

first_none : (m : BookView) → first_fault m [] ≡ None
unfolding first_fault
first_none m = refl

effects_none : (m : BookView) → effects m [] ≡ m
unfolding effects
effects_none m = refl

-- the acts from this one on
first_from : (m : BookView) (acts : List Act) (i : ℕ) (item : Act) → i < length acts → item ≡ get_or acts i item
    → first_fault m (drop i acts) ≡ or_else (refusal m item) (first_fault (effect m item) (drop (i + 1) acts))
first_from m acts i item l e = at_drop_more (first_fault m) acts i item l ∙ ap (λ a. first_fault m (a ∷ drop (i + 1) acts)) (sym e) ∙ first_more m item (drop (i + 1) acts)

effects_from : (m : BookView) (acts : List Act) (i : ℕ) (item : Act) → i < length acts → item ≡ get_or acts i item
    → effects m (drop i acts) ≡ effects (effect m item) (drop (i + 1) acts)
effects_from m acts i item l e = at_drop_more (effects m) acts i item l ∙ ap (λ a. effects m (a ∷ drop (i + 1) acts)) (sym e) ∙ effects_more m item (drop (i + 1) acts)

pub fault_here : (b m : BookView) (acts : List Act) (i : ℕ) (item : Act) (fault : BookFault) → i < length acts → item ≡ get_or acts i item
    → first_fault m (drop i acts) ≡ first_fault b acts → refusal m item ≡ Some fault → first_fault b acts ≡ Some fault
fault_here b m acts i item fault l e so_far r =
    sym so_far ∙ first_from m acts i item l e ∙ ap (λ o. or_else o (first_fault (effect m item) (drop (i + 1) acts))) r

pub first_on : (b m : BookView) (acts : List Act) (i : ℕ) (item : Act) → i < length acts → item ≡ get_or acts i item
    → first_fault m (drop i acts) ≡ first_fault b acts → refusal m item ≡ None → first_fault (effect m item) (drop (i + 1) acts) ≡ first_fault b acts
first_on b m acts i item l e so_far r =
    sym (ap (λ o. or_else o (first_fault (effect m item) (drop (i + 1) acts))) r) ∙ sym (first_from m acts i item l e) ∙ so_far

pub effects_on : (b m : BookView) (acts : List Act) (i : ℕ) (item : Act) → i < length acts → item ≡ get_or acts i item
    → effects m (drop i acts) ≡ effects b acts → effects (effect m item) (drop (i + 1) acts) ≡ effects b acts
effects_on b m acts i item l e so_far = sym (effects_from m acts i item l e) ∙ so_far

pub first_done : (b m : BookView) (acts : List Act) (i : ℕ) → length acts ≤ i → first_fault m (drop i acts) ≡ first_fault b acts → first_fault b acts ≡ None
first_done b m acts i l so_far = sym so_far ∙ at_drop_all (first_fault m) acts i l ∙ first_none m

pub effects_done : (b m : BookView) (acts : List Act) (i : ℕ) → length acts ≤ i → effects m (drop i acts) ≡ effects b acts → m ≡ effects b acts
effects_done b m acts i l so_far = sym (effects_none m) ∙ sym (at_drop_all (effects m) acts i l) ∙ so_far
