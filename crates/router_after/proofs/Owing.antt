-- Which links' drains are due.
use Rattle.std.proofs.Common.{◌≡◌, ◌∙◌, ◌<◌, ◌+◌, ℕ, Bool, true, false, refl, sym, ap, subst, arith, Option, Some, None}
use Rattle.std.specs.Prelude.{◌==◌, if◌then◌else◌, is_none, is_some}
use Rattle.std.proofs.lemmas.Bool.{and_parts, and_from}
use Rattle.router_trace.specs.declared.handle.Attachment.{Attachment}
use Rattle.router_trace.specs.Trace.{Trace}
use Rattle.router_trace.specs.Numbers.{no_rank}
use Rattle.router_trace.specs.Links.{Link, has_number, is_attached, numbered, place_of, attachments}
use Rattle.router_trace.specs.Following.{link_of, is_drained, place_drained, owes_one, first_delivery, is_unsent_on}
use Rattle.state_messages.specs.Asking.{has_unsent, owes_on, owes_drain}
use Rattle.router_after.specs.Soonest.{IsSoonestOn, beats, candidate}
use Rattle.router_after.specs.Draining.{drains_at}
use Rattle.router_after.proofs.Numbered.{number_is, is_low, place_is, stands_there}
use Rattle.router_after.proofs.Orders.{nor_itself, not_sooner_here}

-- the link with a number whose drain is due is there
pub there : (t : Trace) (n : ℕ) (a : Attachment) → drains_at t n ≡ Some a → (numbered t n ≡ Some a) × (is_drained t n a ≡ true)
there t n a e = by_number (numbered t n) refl e
  where
    or_true : Option Attachment → Bool
    or_true None = true
    or_true (Some b) = is_drained t n b

    by_test : (b : Attachment) (due : Bool) → is_drained t n b ≡ due → numbered t n ≡ Some b → (if due then Some b else None) ≡ Some a
        → (numbered t n ≡ Some a) × (is_drained t n a ≡ true)
    by_test b true f is e = (is ∙ e, sym (ap or_true e) ∙ f)
    by_test b false f is e = absurd cc

    by_number : (v : Option Attachment) → numbered t n ≡ v → place_drained t n v ≡ Some a → (numbered t n ≡ Some a) × (is_drained t n a ≡ true)
    by_number None is e = absurd cc
    by_number (Some b) is e = by_test b (is_drained t n b) refl is e

pub below : (t : Trace) (n : ℕ) (a : Attachment) → drains_at t n ≡ Some a → n < attachments t + 1
below t n a e = is_low t n a (there t n a e).0

owing : (t : Trace) (n : ℕ) (a : Attachment) → drains_at t n ≡ Some a → owes_one (link_of t a) n ≡ true
owing t n a e = (and_parts (owes_one (link_of t a) n) _ (there t n a e).1).0

pub owes : (t : Trace) (n : ℕ) (a : Attachment) → drains_at t n ≡ Some a → owes_drain t a.number ≡ true
owes t n a e =
    let is = number_is t n a (there t n a e).0 in
    ap (owes_drain t) is ∙ ap (owes_on t n) (there t n a e).0 ∙ owing t n a e

-- its number is that of the attachment
same_number : (t : Trace) (n link : ℕ) (a : Attachment) → drains_at t n ≡ Some a → a.number ≡ link → n ≡ link
same_number t n link a e is = sym (number_is t n a (there t n a e).0) ∙ is

none_some : (v : Option ℕ) → is_none v ≡ true → is_some v ≡ true → true ≡ false
none_some None e f = absurd cc
none_some (Some k) e f = absurd cc

not_some : (v : Option ℕ) → is_some v ≡ false → is_none v ≡ true
not_some None e = refl
not_some (Some k) e = absurd cc

pub waits : (t : Trace) (link : ℕ) → has_unsent t link ≡ true → IsSoonestOn no_rank (drains_at t) link None
waits t link unsent = record {
  stands = tt;
  first = λ n a e is.
      let same = same_number t n link a e is in
      let gone = (and_parts (owes_one (link_of t a) n) (is_none (first_delivery t (is_unsent_on n))) (there t n a e).1).1 in
      none_some (first_delivery t (is_unsent_on n)) gone (ap (has_unsent t) same ∙ unsent);
}

owing_has : (v : Option Link) (n : ℕ) → owes_one v n ≡ true → has_number n v ≡ true
owing_has None n e = e
owing_has (Some l) n e = (and_parts (l.number == n) _ e).0

attached_there : (t : Trace) (n : ℕ) (a : Attachment) → drains_at t n ≡ Some a → is_attached t a ≡ true
attached_there t n a e =
    let is = number_is t n a (there t n a e).0 in
    ap (λ k. has_number k (link_of t a)) is ∙ owing_has (link_of t a) n (owing t n a e)

placed_there : (t : Trace) (n : ℕ) (a : Attachment) → drains_at t n ≡ Some a → place_of t n ≡ Some a
placed_there t n a e = stands_there t n a (there t n a e).0 (attached_there t n a e)

pub nowhere : (t : Trace) (link : ℕ) → place_of t link ≡ None → IsSoonestOn no_rank (drains_at t) link None
nowhere t link gone = record {
  stands = tt;
  first = λ n a e is.
      let wrong : Some a ≡ None = sym (placed_there t n a e) ∙ ap (place_of t) (same_number t n link a e is) ∙ gone in
      absurd cc;
}

pub due : (t : Trace) (link : ℕ) (p : Attachment) → place_of t link ≡ Some p → has_unsent t link ≡ false → owes_drain t link ≡ true
    → IsSoonestOn no_rank (drains_at t) link (Some (candidate no_rank link p))
due t link p place gone owed =
    let at = place_is t link p place in
    record {
      stands = (
        ap (place_drained t link) at.0
            ∙ ap (λ b. if b then Some p else None)
            (and_from (owes_one (link_of t p) link) _ (sym (ap (owes_on t link) at.0) ∙ owed) (not_some (first_delivery t (is_unsent_on link)) gone)),
        refl,
      );
      first = λ n a e is.
          let same = same_number t n link a e is in
          let one = inside p a (sym place ∙ ap (place_of t) (sym same) ∙ placed_there t n a e) in
          subst (λ (b : Attachment). beats no_rank n b (Some (candidate no_rank link p)) ≡ false) one
          (not_sooner_here no_rank n link p (nor_itself (no_rank n) n link (let k : n ≡ link = same in omega (arith, k))));
    }
  where
    or_p : Attachment → Option Attachment → Attachment
    or_p p None = p
    or_p p (Some a) = a

    inside : (p a : Attachment) → Some p ≡ Some a → p ≡ a
    inside p a e = ap (or_p p) e
