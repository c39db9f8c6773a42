-- Fields that were written, read again: the places among them.
use Rattle.std.proofs.Common.{◌≡◌, ℕ, suc, ◌-◌, cond, ◌==◌, List, [], ◌∷◌, ◌++◌, length, Option, Some, None, Result, Ok, refl, ap, ◌∙◌, arith}
use Rattle.std.proofs.Math.Dec.{eqb-suc-zero}
use Rattle.amqp_model.specs.Data as d
use Rattle.amqp_model.specs.Data.{Data}
use Rattle.amqp_model.specs.View.{plain_part}
use Rattle.amqp_types.specs.Reading.{to}
use Rattle.amqp_model.specs.ValueSpelling.{spelling}
use Rattle.amqp_types.specs.Fitting.{FitsIn}
use Rattle.amqp_types.proofs.RoundTrip.{value_at-spelling}
use Rattle.amqp_model.specs.declared.perf_fault.PerfFault.{PerfFault}
use Rattle.amqp_perf.specs.Faults.{inner, within, by_fault, ◌>>=◌}
use Rattle.amqp_perf.specs.Fields.{At, ended, next, value, plain, plain_only, unless_null, in_place}
use Rattle.amqp_model.specs.Texts.{FieldText, given, given_by, joined, spelt}

abbrev pub found : {A : Type 0} → A → Result A PerfFault
found x = Ok x

-- the place before fields that were written
unfoldable pub place : ℕ → List FieldText → At
place depth fs = record { depth = depth; left = length (given fs); bytes = joined (given fs) }

abbrev before : ℕ → List FieldText → At
before depth gs = record { depth = depth; left = length gs; bytes = joined gs }

less_one : (n : ℕ) → suc n - 1 ≡ n
less_one n = omega arith

pub place_ended : (depth : ℕ) → ended (place depth []) ≡ found tt
unfolding place given ended
place_ended depth = refl

behind_item : (depth : ℕ) (g : FieldText) (gs : List FieldText) → next (before depth (g ∷ gs)) (joined gs) ≡ before depth gs
behind_item depth g gs = ap (λ n. record { depth = depth; left = n; bytes = joined gs }) (less_one (length gs))

-- where something is left
not_empty : {A : Type 0} (n : ℕ) (x y : A) → cond (suc n == 0) x y ≡ y
not_empty n x y = ap (λ b. cond b x y) (eqb-suc-zero n)

-- a value
pub value-some : (depth : ℕ) (v : Data) (fs : List FieldText) → FitsIn depth v → value (place depth (spelt v ∷ fs)) ≡ Ok (unless_null v, place depth fs)
unfolding place given value
value-some depth v fs fits =
    not_empty (length (given fs)) _ _ ∙
    ap (λ r. by_fault inner r >>= λ x. found (unless_null x.0, next (before depth (spelt v ∷ given fs)) x.1)) (value_at-spelling depth v (joined (given fs)) fits)
    ∙ ap (λ p. found (unless_null v, p)) (behind_item depth (spelt v) (given fs))

pub value-none : (depth : ℕ) (fs : List FieldText) → value (place (suc depth) (None ∷ fs)) ≡ Ok (None, place (suc depth) fs)
unfolding place given value ended FitsIn spelling
value-none depth fs = by_case (given fs)
  where
    by_case : (gs : List FieldText) → value (before (suc depth) (given_by None gs)) ≡ Ok (None, before (suc depth) gs)
    by_case [] = refl
    by_case (g ∷ gs) =
        not_empty (suc (length gs)) _ _ ∙
        ap (λ r. by_fault inner r >>= λ x. found (unless_null x.0, next (before (suc depth) (None ∷ g ∷ gs)) x.1)) (value_at-spelling (suc depth) d.null (joined (g ∷ gs)) tt)
        ∙ ap (λ p. found (None, p)) (behind_item (suc depth) None (g ∷ gs))

-- a value that holds no others
pub plain-some : (depth : ℕ) (v : Data) (fs : List FieldText) → plain_part v ≡ Some v → FitsIn depth v → plain (place depth (spelt v ∷ fs)) ≡ Ok (unless_null v, place depth fs)
unfolding place given plain
plain-some depth v fs part fits =
    not_empty (length (given fs)) _ _ ∙
    ap (λ r. by_fault inner (to plain_part r) >>= plain_only (before depth (spelt v ∷ given fs))) (value_at-spelling depth v (joined (given fs)) fits)
    ∙ ap (λ o. plain_only (before depth (spelt v ∷ given fs)) (o, joined (given fs))) part
    ∙ ap (λ p. found (unless_null v, p)) (behind_item depth (spelt v) (given fs))

pub plain-none : (depth : ℕ) (fs : List FieldText) → plain (place (suc depth) (None ∷ fs)) ≡ Ok (None, place (suc depth) fs)
unfolding place given plain ended FitsIn spelling
plain-none depth fs = by_case (given fs)
  where
    by_case : (gs : List FieldText) → plain (before (suc depth) (given_by None gs)) ≡ Ok (None, before (suc depth) gs)
    by_case [] = refl
    by_case (g ∷ gs) =
        not_empty (suc (length gs)) _ _ ∙
        ap (λ r. by_fault inner (to plain_part r) >>= plain_only (before (suc depth) (None ∷ g ∷ gs))) (value_at-spelling (suc depth) d.null (joined (g ∷ gs)) tt)
        ∙ ap (λ p. found (None, p)) (behind_item (suc depth) None (g ∷ gs))

abbrev pub Reader : Type 0 → Type 0
Reader A = ℕ → List ℕ → Result (Option A × List ℕ) PerfFault

-- a value that a reader of its own reads
pub in_place-text : {A : Type 0} (read : Reader A) (depth : ℕ) (text : List ℕ) (x : Option A) (fs : List FieldText)
    → ((rest : List ℕ) → read depth (text ++ rest) ≡ Ok (x, rest)) → in_place read (place depth (Some text ∷ fs)) ≡ Ok (x, place depth fs)
unfolding place given
in_place-text read depth text x fs reads =
    not_empty (length (given fs)) _ _ ∙
    ap (λ r. within r >>= λ y. found (y.0, next (before depth (Some text ∷ given fs)) y.1)) (reads (joined (given fs)))
    ∙ ap (λ p. found (x, p)) (behind_item depth (Some text) (given fs))

pub in_place-some : {A : Type 0} (read : Reader A) (depth : ℕ) (text : List ℕ) (x : A) (fs : List FieldText)
    → ((rest : List ℕ) → read depth (text ++ rest) ≡ Ok (Some x, rest)) → in_place read (place depth (Some text ∷ fs)) ≡ Ok (Some x, place depth fs)
in_place-some read depth text x fs reads = in_place-text read depth text (Some x) fs reads

pub in_place-none : {A : Type 0} (read : Reader A) (depth : ℕ) (fs : List FieldText)
    → ((rest : List ℕ) → read depth (0x40 ∷ rest) ≡ Ok (None, rest)) → in_place read (place depth (None ∷ fs)) ≡ Ok (None, place depth fs)
unfolding place given ended
in_place-none {A = A} read depth fs reads = by_case (given fs)
  where
    by_case : (gs : List FieldText) → in_place read (before depth (given_by None gs)) ≡ Ok (None, before depth gs)
    by_case [] = refl
    by_case (g ∷ gs) =
        not_empty (suc (length gs)) _ _ ∙
        ap (λ r. within r >>= λ y. found (y.0, next (before depth (None ∷ g ∷ gs)) y.1)) (reads (joined (g ∷ gs)))
        ∙ ap (λ p. found (None, p)) (behind_item depth None (g ∷ gs))
