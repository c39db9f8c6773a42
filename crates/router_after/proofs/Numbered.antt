-- The places of attachments: the attachment with a number has that number.
use Rattle.std.proofs.Common.{◌≡◌, ◌∙◌, ◌+◌, ◌<◌, ℕ, Bool, true, false, refl, sym, ap, [], ◌∷◌, Option, Some, None, arith}
use Rattle.std.specs.Prelude.{◌&&◌, ◌==◌, if◌then◌else◌, is_some}
use Rattle.std.proofs.lemmas.Bool.{eqb-true, and_parts}
use Rattle.amqp_model.specs.declared.perf.Perf.{Perf}
use Rattle.amqp_model.specs.declared.perf.Perf.TheVariants as perf
use Rattle.amqp_model.specs.declared.item.Item.{Item}
use Rattle.amqp_model.specs.declared.item.Item.TheVariants as item
use Rattle.router_trace.specs.declared.handle.Attachment.{Attachment}
use Rattle.router_trace.specs.Trace.{Trace, Did, Out, Took, Bound, Booked, Routed, Began}
use Rattle.router_trace.specs.Links.{address_by, attachments, is_attached, if_attached, numbered, newest_in, newest_by, place_of}
use Rattle.state_links.proofs.Numbered.{old_number}

abbrev number : ℕ → Option Attachment → ℕ
number n None = n
number n (Some b) = b.number

has_if : (taken : Bool) (n m : ℕ) (new : Attachment) (v : Option Attachment) (a : Attachment) → new.number ≡ n
    → ((b : Attachment) → v ≡ Some b → b.number ≡ m) → (if taken && (n == m) then Some new else v) ≡ Some a → a.number ≡ m
has_if taken n m new v a is old e = by_test (taken && (n == m)) refl e
  where
    by_test : (t : Bool) → (taken && (n == m)) ≡ t → (if t then Some new else v) ≡ Some a → a.number ≡ m
    by_test true f e = sym (ap (number m) e) ∙ is ∙ eqb-true n m (and_parts taken (n == m) f).1
    by_test false f e = old a e

has_in : (body : Perf) (own c n m : ℕ) (v : Option Attachment) (a : Attachment)
    → ((b : Attachment) → v ≡ Some b → b.number ≡ m) → newest_in body own c n (λ x. n == m) v ≡ Some a → a.number ≡ m
has_in (perf.Attach x) own c n m v a old e = has_if (is_some (address_by x.role x)) n m _ v a refl old e
has_in _ own c n m v a old e = old a e

has_by : (i : Item) (c n m : ℕ) (v : Option Attachment) (a : Attachment)
    → ((b : Attachment) → v ≡ Some b → b.number ≡ m) → newest_by i c n (λ x. n == m) v ≡ Some a → a.number ≡ m
has_by (item.Frame sasl own body payload) c n m v a old e = has_in body own c n m v a old e
has_by _ c n m v a old e = old a e

pub number_is : (t : Trace) (m : ℕ) (a : Attachment) → numbered t m ≡ Some a → a.number ≡ m
number_is [] m a e = absurd cc
number_is (Did s ∷ t) m a e = number_is t m a e
number_is (Out d i ∷ t) m a e = has_by i d (attachments t + 1) m (numbered t m) a (number_is t m) e
number_is (Took d n ∷ t) m a e = number_is t m a e
number_is (Bound b ∷ t) m a e = number_is t m a e
number_is (Booked acts full ∷ t) m a e = number_is t m a e
number_is (Routed passage ∷ t) m a e = number_is t m a e
number_is (Began g ∷ t) m a e = absurd cc

pub is_low : (t : Trace) (m : ℕ) (a : Attachment) → numbered t m ≡ Some a → m < attachments t + 1
is_low t m a e =
    let is = number_is t m a e in
    let le = old_number t m a e in
    omega (arith, is, le)

-- an attached link was numbered so
pub place_is : (t : Trace) (m : ℕ) (a : Attachment) → place_of t m ≡ Some a → (numbered t m ≡ Some a) × (a.number ≡ m) × (is_attached t a ≡ true)
place_is t m a e = by_number (numbered t m) refl e
  where
    by_test : (b : Attachment) (held : Bool) → is_attached t b ≡ held → numbered t m ≡ Some b → (if held then Some b else None) ≡ Some a
        → (numbered t m ≡ Some a) × (a.number ≡ m) × (is_attached t a ≡ true)
    by_test b true f is e =
        let there : numbered t m ≡ Some a = is ∙ e in
        (there, number_is t m a there, held b a f e)
      where
        attached : Option Attachment → Bool
        attached None = true
        attached (Some x) = is_attached t x

        held : (b a : Attachment) → is_attached t b ≡ true → Some b ≡ Some a → is_attached t a ≡ true
        held b a f e = sym (ap attached e) ∙ f
    by_test b false f is e = absurd cc

    by_number : (v : Option Attachment) → numbered t m ≡ v → if_attached t v ≡ Some a → (numbered t m ≡ Some a) × (a.number ≡ m) × (is_attached t a ≡ true)
    by_number None is e = absurd cc
    by_number (Some b) is e = by_test b (is_attached t b) refl is e

pub stands_there : (t : Trace) (m : ℕ) (a : Attachment) → numbered t m ≡ Some a → is_attached t a ≡ true → place_of t m ≡ Some a
stands_there t m a is held = ap (if_attached t) is ∙ ap (λ b. if b then Some a else None) held
