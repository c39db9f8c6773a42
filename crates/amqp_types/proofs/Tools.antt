-- What follows from a step that did not fail.
use Rattle.std.proofs.Common.{◌≡◌, ℕ, Bool, true, false, cond, List, [], length, Result, Ok, Err, refl, sym, ap, ◌∙◌, ◌==◌}
use Rattle.std.proofs.lemmas.Bool.{eqb-true}
use Rattle.std.proofs.lemmas.List.{nil_from_length}
use Rattle.amqp_model.specs.declared.type_fault.TypeFault.{TypeFault}
use Rattle.amqp_model.specs.declared.type_fault.TypeFault.TheVariants as fault
use Rattle.amqp_types.specs.Reading.{◌>>=◌, to, made, whole}

abbrev pub done : {A : Type 0} → A → Result A TypeFault
done x = Ok x

pub bind_ok : {A B : Type 0} (r : Result A TypeFault) (f : A → Result B TypeFault) (y : B) → (r >>= f) ≡ Ok y → (x : A) × (r ≡ Ok x) × (f x ≡ Ok y)
bind_ok (Ok x) f y e = (x, refl, e)
bind_ok (Err d) f y e = absurd cc

-- a test that did not fail
pub guard_ok : {A : Type 0} (b : Bool) (d : TypeFault) (r : Result A TypeFault) (y : A) → cond b (Err d) r ≡ Ok y → (b ≡ false) × (r ≡ Ok y)
guard_ok true d r y e = absurd cc
guard_ok false d r y e = (refl, e)

pub choice_ok : {A : Type 0} (b : Bool) (x : A) (d : TypeFault) (y : A) → cond b (Ok x) (Err d) ≡ Ok y → (b ≡ true) × (x ≡ y)
choice_ok true x d y e = (refl, cc)
choice_ok false x d y e = absurd cc

pub ok_is : {A : Type 0} (x y : A) → done x ≡ done y → x ≡ y
ok_is x y e = cc

pub to_ok : {A B : Type 0} (f : A → B) (r : Result (A × List ℕ) TypeFault) (y : B) (rest : List ℕ) → to f r ≡ Ok (y, rest) → (x : A) × (r ≡ Ok (x, rest)) × (f x ≡ y)
to_ok f (Ok x) y rest e =
    let p = ok_is (f x.0, x.1) (y, rest) e in
    (x.0, ap (λ t. done (x.0, t)) (ap (λ q. q.1) p), ap (λ q. q.0) p)
to_ok f (Err d) y rest e = absurd cc

abbrev made_of : {B : Type 0} → List ℕ → Result B TypeFault → Result (B × List ℕ) TypeFault
made_of rest (Ok z) = Ok (z, rest)
made_of rest (Err e) = Err e

pub made_ok : {A B : Type 0} (f : A → Result B TypeFault) (r : Result (A × List ℕ) TypeFault) (y : B) (rest : List ℕ) → made f r ≡ Ok (y, rest) → (x : A) × (r ≡ Ok (x, rest)) × (f x ≡ Ok y)
made_ok {A = A} {B = B} f (Ok x) y rest e = inside (f x.0) refl (sym (same (f x.0)) ∙ e)
  where
    same : (q : Result B TypeFault) → ◌>>=◌ {B = B × List ℕ} q (λ z. Ok (z, x.1)) ≡ made_of x.1 q
    same (Ok z) = refl
    same (Err d) = refl

    inside : (q : Result B TypeFault) → f x.0 ≡ q → made_of x.1 q ≡ Ok (y, rest) → (w : A) × (done x ≡ Ok (w, rest)) × (f w ≡ Ok y)
    inside (Ok z) is e =
        let p = ok_is (z, x.1) (y, rest) e in
        (x.0, ap (λ t. done (x.0, t)) (ap (λ q. q.1) p), is ∙ ap (λ q. done q.0) p)
    inside (Err d) is e = absurd cc
made_ok f (Err d) y rest e = absurd cc

pub whole_ok : {A : Type 0} (r : Result (A × List ℕ) TypeFault) (y : A) → whole r ≡ Ok y → r ≡ Ok (y, [])
unfolding whole
whole_ok (Ok x) y e =
    let p = choice_ok (length x.1 == 0) x.0 fault.SizeMismatch y e in
    let none : x.1 ≡ [] = nil_from_length x.1 (eqb-true _ _ p.0) in
    ap (λ t. done (x.0, t)) none ∙ ap (λ v. done (v, [])) p.1
whole_ok (Err d) y e = absurd cc

pub whole-all : {A : Type 0} (x : A) → whole (done (x, [])) ≡ Ok x
unfolding whole
whole-all x = refl
