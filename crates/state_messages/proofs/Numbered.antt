-- The numbers of attachments: from 1 to the number of attachments.
use Rattle.std.proofs.Common.{◌≡◌, ◌∙◌, ◌+◌, ◌<◌, ◌≤◌, ℕ, Bool, true, false, refl, sym, ap, [], ◌∷◌, Option, Some, None, arith}
use Rattle.std.specs.Prelude.{◌&&◌, ◌==◌, if◌then◌else◌, is_some}
use Rattle.std.proofs.lemmas.Bool.{eqb-true}
use Rattle.std.proofs.lemmas.Bool.Decides.{nat_tests}
use Rattle.amqp_model.specs.declared.perf.Perf.{Perf}
use Rattle.amqp_model.specs.declared.perf.Perf.TheVariants as perf
use Rattle.amqp_model.specs.declared.item.Item.{Item}
use Rattle.amqp_model.specs.declared.item.Item.TheVariants as item
use Rattle.router_trace.specs.declared.handle.Attachment.{Attachment}
use Rattle.router_trace.specs.Trace.{Trace, Did, Out, Took, Bound, Booked, Routed, Began}
use Rattle.router_trace.specs.Links.{address_by, attachments, newest_in, newest_by, numbered}
use Rattle.state_links.proofs.Numbered.{old_number}

-- the attachment with a number has that number
is_if : (taken pass : Bool) (new : Attachment) (n : ℕ) (v : Option Attachment) (a : Attachment)
    → (pass ≡ true → new.number ≡ n) → (v ≡ Some a → a.number ≡ n) → (if taken && pass then Some new else v) ≡ Some a → a.number ≡ n
is_if true true new n v a fresh old e = sym (ap number e) ∙ fresh refl
  where
    number : Option Attachment → ℕ
    number None = 0
    number (Some b) = b.number
is_if true false new n v a fresh old e = old e
is_if false pass new n v a fresh old e = old e

is_in : (body : Perf) (own c m n : ℕ) (v : Option Attachment) (a : Attachment)
    → (v ≡ Some a → a.number ≡ n) → newest_in body own c m (λ x. m == n) v ≡ Some a → a.number ≡ n
is_in (perf.Attach x) own c m n v a old e = is_if (is_some (address_by x.role x)) (m == n) _ n v a (λ f. eqb-true m n f) old e
is_in _ own c m n v a old e = old e

is_by : (i : Item) (c m n : ℕ) (v : Option Attachment) (a : Attachment)
    → (v ≡ Some a → a.number ≡ n) → newest_by i c m (λ x. m == n) v ≡ Some a → a.number ≡ n
is_by (item.Frame sasl own body payload) c m n v a old e = is_in body own c m n v a old e
is_by _ c m n v a old e = old e

pub number_is : (t : Trace) (n : ℕ) (a : Attachment) → numbered t n ≡ Some a → a.number ≡ n
number_is [] n a e = absurd cc
number_is (Did s ∷ t) n a e = number_is t n a e
number_is (Out d i ∷ t) n a e = is_by i d (attachments t + 1) n (numbered t n) a (number_is t n a) e
number_is (Took d k ∷ t) n a e = number_is t n a e
number_is (Bound b ∷ t) n a e = number_is t n a e
number_is (Booked acts full ∷ t) n a e = number_is t n a e
number_is (Routed passage ∷ t) n a e = number_is t n a e
number_is (Began g ∷ t) n a e = absurd cc

-- no attachment has the number 0
none_if : (taken pass : Bool) (new : Attachment) (v : Option Attachment) → pass ≡ false → v ≡ None → (if taken && pass then Some new else v) ≡ None
none_if true true new v e f = absurd cc
none_if true false new v e f = f
none_if false pass new v e f = f

none_in : (body : Perf) (own c m n : ℕ) (v : Option Attachment) → (m == n) ≡ false → v ≡ None → newest_in body own c m (λ x. m == n) v ≡ None
none_in (perf.Attach x) own c m n v e f = none_if (is_some (address_by x.role x)) (m == n) _ v e f
none_in _ own c m n v e f = f

none_by : (i : Item) (c m n : ℕ) (v : Option Attachment) → (m == n) ≡ false → v ≡ None → newest_by i c m (λ x. m == n) v ≡ None
none_by (item.Frame sasl own body payload) c m n v e f = none_in body own c m n v e f
none_by _ c m n v e f = f

not_zero : (n : ℕ) → (n + 1 == 0) ≡ false
not_zero n = grind (arith, nat_tests)

pub none_first : (t : Trace) → numbered t 0 ≡ None
none_first [] = refl
none_first (Did s ∷ t) = none_first t
none_first (Out d i ∷ t) = none_by i d (attachments t + 1) 0 (numbered t 0) (not_zero (attachments t)) (none_first t)
none_first (Took d k ∷ t) = none_first t
none_first (Bound b ∷ t) = none_first t
none_first (Booked acts full ∷ t) = none_first t
none_first (Routed passage ∷ t) = none_first t
none_first (Began g ∷ t) = refl

-- or one above the count
pub none_beyond : (t : Trace) (n : ℕ) → attachments t < n → numbered t n ≡ None
none_beyond t n above = by_case (numbered t n) refl
  where
    by_case : (v : Option Attachment) → numbered t n ≡ v → numbered t n ≡ None
    by_case None e = e
    by_case (Some a) e = let low : a.number ≤ attachments t = old_number t n a e in let is : a.number ≡ n = number_is t n a e in absurd (omega (arith, above, low, is))
