-- A file that agrees with another except between two places, in parts.
use Rattle.std.proofs.Common.{◌≡◌, inl, inr, ℕ, zero, suc, ◌<◌, ◌≤◌, ◌⊎◌, ⊎_elim, Bool, true, false, List, [], ◌∷◌, ◌++◌, length, take, drop, refl, sym, ◌∙◌, ap, arith}
use Rattle.std.specs.Prelude.{slice_get, nat_lt}
use Rattle.std.proofs.lemmas.Bool.Decides.{nat_tests}
use Rattle.std.proofs.lemmas.Option.{slice_get-get_or}
use Rattle.std.proofs.lemmas.List.{append-nil, drop_all}
use Rattle.disk_core.specs.Disk.{between, Agrees, Spoilt}

by_test : {P : Type 0} (b : Bool) → ((b ≡ true) → P) → ((b ≡ false) → P) → P
by_test true f g = f refl
by_test false f g = g refl

-- each byte outside is the same
abbrev Same : ℕ → ℕ → List ℕ → List ℕ → Type 0
Same at end old c = (place : ℕ) → place < length old → (place < at) ⊎ (end ≤ place) → slice_get c place ≡ slice_get old place

record Ends (old c : List ℕ) : Type 0 where
  past : List ℕ
  is : c ≡ old ++ past

whole : (old c : List ℕ) → ((place : ℕ) → place < length old → slice_get c place ≡ slice_get old place) → Ends old c
whole [] c same = record { past = c; is = refl }
whole (x ∷ old) [] same = absurd (let no = same 0 (omega arith) in cc)
whole (x ∷ old) (y ∷ c) same =
    let rest = whole old c (λ place l. same (suc place) (omega (arith, l))) in
    let first = same 0 (omega arith) in
    let byte : y ≡ x = cc in
    record { past = rest.past; is = ap (λ (l : List ℕ). y ∷ l) rest.is ∙ ap (λ (z : ℕ). z ∷ (old ++ rest.past)) byte }

take_none : (n : ℕ) → take {A = ℕ} n [] ≡ []
take_none zero = refl
take_none (suc n) = refl

drop_none : (n : ℕ) → drop {A = ℕ} n [] ≡ []
drop_none zero = refl
drop_none (suc n) = refl

short : (end : ℕ) (old : List ℕ) → ((place : ℕ) → place < length old → end ≤ place → slice_get [] place ≡ slice_get old place) → length old ≤ end
short end old same =
    by_test (nat_lt end (length old))
    (λ less. let l : end < length old = grind (arith, nat_tests) in absurd (let none = same end l (omega arith) in let some = slice_get-get_or old end 0 l in cc))
    (λ not_less. grind (arith, nat_tests))

parts : (at end : ℕ) (old c : List ℕ) → at ≤ end → Same at end old c → Spoilt at end old c
parts at end [] c le same = record {
  middle = c;
  past = [];
  is = sym (ap (λ (l : List ℕ). l ++ c ++ drop end [] ++ []) (take_none at) ∙ ap (λ (l : List ℕ). c ++ l ++ []) (drop_none end) ∙ append-nil (c ++ []) ∙ append-nil c);
  fits = λ less. absurd (omega (arith, less));
}
parts zero zero (x ∷ old) c le same =
    let all = whole (x ∷ old) c (λ place l. same place l (inr (omega arith))) in
    record { middle = []; past = all.past; is = all.is; fits = λ less. refl }
parts zero (suc end) (x ∷ old) [] le same =
    let all : length old ≤ end = short end old (λ place l from. same (suc place) (omega (arith, l)) (inr (omega (arith, from)))) in
    record {
      middle = [];
      past = [];
      is = sym (append-nil (drop end old) ∙ drop_all end old all);
      fits = λ less. absurd (omega (arith, less, all));
    }
parts zero (suc end) (x ∷ old) (y ∷ c) le same =
    let rest = parts zero end old c (omega arith) (λ place l out. same (suc place) (omega (arith, l)) (⊎_elim (λ before. absurd (omega (arith, before))) (λ behind. inr (omega (arith, behind))) out)) in
    record { middle = y ∷ rest.middle; past = rest.past; is = ap (λ (l : List ℕ). y ∷ l) rest.is; fits = λ less. omega (arith, rest.fits (omega (arith, less))) }
parts (suc at) zero (x ∷ old) c le same = absurd (omega (arith, le))
parts (suc at) (suc end) (x ∷ old) [] le same = absurd (let no = same 0 (omega arith) (inl (omega arith)) in cc)
parts (suc at) (suc end) (x ∷ old) (y ∷ c) le same =
    let rest = parts at end old c (omega (arith, le)) (λ place l out. same (suc place) (omega (arith, l)) (⊎_elim (λ before. inl (omega (arith, before))) (λ behind. inr (omega (arith, behind))) out)) in
    let first = same 0 (omega arith) (inl (omega arith)) in
    let byte : y ≡ x = cc in
    record {
      middle = rest.middle;
      past = rest.past;
      is = ap (λ (l : List ℕ). y ∷ l) rest.is ∙ ap (λ (z : ℕ). z ∷ (take at old ++ rest.middle ++ drop end old ++ rest.past)) byte;
      fits = λ less. omega (arith, rest.fits (omega (arith, less)));
    }

left_of : (at end place : ℕ) → place < at → between at end place ≡ false
left_of at end place l = grind (arith, nat_tests)

right_of : (at end place : ℕ) → end ≤ place → between at end place ≡ false
right_of at end place l = grind (arith, nat_tests)

pub spoilt_of : (at end : ℕ) (old c : List ℕ) → at ≤ end → Agrees (between at end) old c → Spoilt at end old c
spoilt_of at end old c le agrees = parts at end old c le (λ place l out. agrees place l (⊎_elim (left_of at end place) (right_of at end place) out))
