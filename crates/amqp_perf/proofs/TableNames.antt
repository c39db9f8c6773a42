-- The descriptor that is read is the one that the tables name.
use Rattle.std.proofs.Common.{◌≡◌, ℕ, Bool, true, false, cond, ◌==◌, inl, inr, List, Option, Some, refl, ap, ◌∙◌}
use Rattle.std.specs.Cmp.Lexicographic.{pointwise, pointwise_decides}
use Rattle.std.proofs.lemmas.Bool.{eqb-true}
use Rattle.std.proofs.lemmas.Bool.Decides.{Decides-eqb}
use Rattle.amqp_model.specs.Data as d
use Rattle.amqp_model.specs.Data.{Data}
use Rattle.amqp_model.specs.declared.descriptor.Descriptor.{Descriptor}
use Rattle.amqp_model.specs.declared.descriptor.Descriptor.TheVariants as is
use Rattle.amqp_model.specs.Descriptors.{code_of, named, symbol_named}
use Rattle.amqp_perf.specs.Fields.{name_of}
use Rattle.amqp_perf.specs.Tables.{symbol_of, Names}

some_is : (x y : Descriptor) → Some x ≡ Some y → x ≡ y
some_is x y e = cc

-- one test of a number, and of a symbol
number_test : (n : ℕ) (x name : Descriptor) (other : Option Descriptor) → cond (n == code_of x) (Some x) other ≡ Some name → (other ≡ Some name → n ≡ code_of name) → n ≡ code_of name
number_test n x name other e go = by_test (n == code_of x) refl e
  where
    by_test : (b : Bool) → (n == code_of x) ≡ b → cond b (Some x) other ≡ Some name → n ≡ code_of name
    by_test true is e = eqb-true n (code_of x) is ∙ ap code_of (some_is x name e)
    by_test false is e = go e

symbol_test : (s : List ℕ) (x name : Descriptor) (other : Option Descriptor) → cond (pointwise ◌==◌ s (symbol_of x)) (Some x) other ≡ Some name → (other ≡ Some name → s ≡ symbol_of name) → s ≡ symbol_of name
symbol_test s x name other e go = by_test (pointwise ◌==◌ s (symbol_of x)) refl e
  where
    by_test : (b : Bool) → pointwise ◌==◌ s (symbol_of x) ≡ b → cond b (Some x) other ≡ Some name → s ≡ symbol_of name
    by_test true is e = (pointwise_decides Decides-eqb s (symbol_of x)).0 is ∙ ap symbol_of (some_is x name e)
    by_test false is e = go e

number_is : (n : ℕ) (name : Descriptor) → named n ≡ Some name → n ≡ code_of name
number_is n name e0 =
    number_test n is.Open name _ e0 (λ e1.
    number_test n is.Begin name _ e1 (λ e2.
    number_test n is.Attach name _ e2 (λ e3.
    number_test n is.Flow name _ e3 (λ e4.
    number_test n is.Transfer name _ e4 (λ e5.
    number_test n is.Disposition name _ e5 (λ e6.
    number_test n is.Detach name _ e6 (λ e7.
    number_test n is.End name _ e7 (λ e8.
    number_test n is.Close name _ e8 (λ e9.
    number_test n is.Error name _ e9 (λ e10.
    number_test n is.Received name _ e10 (λ e11.
    number_test n is.Accepted name _ e11 (λ e12.
    number_test n is.Rejected name _ e12 (λ e13.
    number_test n is.Released name _ e13 (λ e14.
    number_test n is.Modified name _ e14 (λ e15.
    number_test n is.Source name _ e15 (λ e16.
    number_test n is.Target name _ e16 (λ e17.
    number_test n is.SaslMechanisms name _ e17 (λ e18.
    number_test n is.SaslInit name _ e18 (λ e19.
    number_test n is.SaslChallenge name _ e19 (λ e20.
    number_test n is.SaslResponse name _ e20 (λ e21.
    number_test n is.SaslOutcome name _ e21 (λ e22.
    absurd cc))))))))))))))))))))))

symbol_is : (s : List ℕ) (name : Descriptor) → symbol_named s ≡ Some name → s ≡ symbol_of name
symbol_is s name e0 =
    symbol_test s is.Open name _ e0 (λ e1.
    symbol_test s is.Begin name _ e1 (λ e2.
    symbol_test s is.Attach name _ e2 (λ e3.
    symbol_test s is.Flow name _ e3 (λ e4.
    symbol_test s is.Transfer name _ e4 (λ e5.
    symbol_test s is.Disposition name _ e5 (λ e6.
    symbol_test s is.Detach name _ e6 (λ e7.
    symbol_test s is.End name _ e7 (λ e8.
    symbol_test s is.Close name _ e8 (λ e9.
    symbol_test s is.Error name _ e9 (λ e10.
    symbol_test s is.Received name _ e10 (λ e11.
    symbol_test s is.Accepted name _ e11 (λ e12.
    symbol_test s is.Rejected name _ e12 (λ e13.
    symbol_test s is.Released name _ e13 (λ e14.
    symbol_test s is.Modified name _ e14 (λ e15.
    symbol_test s is.Source name _ e15 (λ e16.
    symbol_test s is.Target name _ e16 (λ e17.
    symbol_test s is.SaslMechanisms name _ e17 (λ e18.
    symbol_test s is.SaslInit name _ e18 (λ e19.
    symbol_test s is.SaslChallenge name _ e19 (λ e20.
    symbol_test s is.SaslResponse name _ e20 (λ e21.
    symbol_test s is.SaslOutcome name _ e21 (λ e22.
    absurd cc))))))))))))))))))))))

number_again : (name : Descriptor) → named (code_of name) ≡ Some name
number_again is.Open = refl
number_again is.Begin = refl
number_again is.Attach = refl
number_again is.Flow = refl
number_again is.Transfer = refl
number_again is.Disposition = refl
number_again is.Detach = refl
number_again is.End = refl
number_again is.Close = refl
number_again is.Error = refl
number_again is.Received = refl
number_again is.Accepted = refl
number_again is.Rejected = refl
number_again is.Released = refl
number_again is.Modified = refl
number_again is.Source = refl
number_again is.Target = refl
number_again is.SaslMechanisms = refl
number_again is.SaslInit = refl
number_again is.SaslChallenge = refl
number_again is.SaslResponse = refl
number_again is.SaslOutcome = refl

symbol_again : (name : Descriptor) → symbol_named (symbol_of name) ≡ Some name
symbol_again is.Open = refl
symbol_again is.Begin = refl
symbol_again is.Attach = refl
symbol_again is.Flow = refl
symbol_again is.Transfer = refl
symbol_again is.Disposition = refl
symbol_again is.Detach = refl
symbol_again is.End = refl
symbol_again is.Close = refl
symbol_again is.Error = refl
symbol_again is.Received = refl
symbol_again is.Accepted = refl
symbol_again is.Rejected = refl
symbol_again is.Released = refl
symbol_again is.Modified = refl
symbol_again is.Source = refl
symbol_again is.Target = refl
symbol_again is.SaslMechanisms = refl
symbol_again is.SaslInit = refl
symbol_again is.SaslChallenge = refl
symbol_again is.SaslResponse = refl
symbol_again is.SaslOutcome = refl

pub name_sound : (v : Data) (name : Descriptor) → name_of (Some v) ≡ Some name → Names name v
name_sound (d.ulong n) name e = inl (ap d.ulong (number_is n name e))
name_sound (d.symbol s) name e = inr (ap d.symbol (symbol_is s name e))
name_sound v name e = absurd cc

pub name_complete : (v : Data) (name : Descriptor) → Names name v → name_of (Some v) ≡ Some name
name_complete v name (inl e) = ap (λ w. name_of (Some w)) e ∙ number_again name
name_complete v name (inr e) = ap (λ w. name_of (Some w)) e ∙ symbol_again name
