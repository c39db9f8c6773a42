-- The numbers that a table keeps agreeing with the trace, but for deliveries that are gone.
use Rattle.std.proofs.Common.{◌≡◌, ◌∙◌, ◌≤◌, ◌+◌, ℕ, Bool, true, false, refl, sym, ap, subst, arith, List, ◌∷◌, Option, Some, None}
use Rattle.std.specs.Prelude.{◌==◌, ◌&&◌, if◌then◌else◌}
use Rattle.std.specs.Option.{option_and_then}
use Rattle.std.proofs.lemmas.Bool.{eqb-true}
use Rattle.std.proofs.lemmas.Bool.Decides.{nat_tests}
use Rattle.amqp_model.specs.declared.perf.Perf.{Perf}
use Rattle.amqp_model.specs.declared.perf.Perf.TheVariants as perf
use Rattle.amqp_model.specs.declared.perf.Transfer.{Transfer}
use Rattle.amqp_model.specs.declared.perf.Detach.{Detach}
use Rattle.amqp_model.specs.declared.perf.End.{End}
use Rattle.amqp_model.specs.declared.perf.Close.{Close}
use Rattle.amqp_model.specs.declared.item.Item.{Item}
use Rattle.amqp_model.specs.declared.item.Item.TheVariants as item
use Rattle.router_trace.specs.declared.binding.DeliveryName.{DeliveryName}
use Rattle.router_trace.specs.declared.binding.Holding.{Holding}
use Rattle.router_trace.specs.Trace.{Entry, Trace, Did, Out, Took, Bound, Booked, Routed, Began}
use Rattle.router_trace.specs.Deliveries.{Delivery, delivery, bindings, bound, holds_standing, joined, with_binding, name_in, number_named, unless_over, unless_called, after_event, after_put, is_number, tagged, number_tagged, carried, tag_in, sending, sending_in, sending_by, named, channels_found, acts_found, rank_in}
use Rattle.state_deliveries.specs.Calling.{IsGone, Knows}
use Rattle.state_deliveries.specs.Fits.{carried_in, carried_by}
use Rattle.state_deliveries.proofs.Low.{IsLow}

-- a delivery that is gone stays so
gone_after : (f : Delivery → Option Delivery) (v : Option Delivery) → v ≡ None → option_and_then f v ≡ None
gone_after f v e = ap (option_and_then f) e

pub gone_stays : (e : Entry) (t : Trace) (n : ℕ) → n ≤ bindings t → delivery t n ≡ None → delivery (e ∷ t) n ≡ None
gone_stays (Did s) t n low gone = gone_after (λ d. unless_over (after_event s.event (channels_found t) (named t) (acts_found t) n d)) (delivery t n) gone
gone_stays (Out c i) t n low gone = gone_after (λ d. unless_over (after_put (number_named t) i c n (sending t c) d)) (delivery t n) gone
gone_stays (Took c k) t n low gone = gone
gone_stays (Booked acts full) t n low gone = gone
gone_stays (Routed passage) t n low gone = gone
gone_stays (Began g) t n low gone = refl
gone_stays (Bound b) t n low gone = by_kind (holds_standing b.kind)
  where
    apart : (k n : ℕ) → n ≤ k → (k + 1 == n) ≡ false
    apart k n low = grind (arith, nat_tests)

    by_kind : (j : Option Holding) → with_binding j (name_in t b) (rank_in t b) b (bindings t + 1 == n) (delivery t n) ≡ None
    by_kind None =
        ap (λ x. if x then Some (bound (name_in t b) (rank_in t b) b) else unless_called (name_in t b) (delivery t n)) (apart (bindings t) n low) ∙ ap (unless_called (name_in t b)) gone
    by_kind (Some q) = ap (joined (name_in t b) q) gone

pub still_known : (e : Entry) (t : Trace) (a b : Option ℕ) → IsLow (bindings t) b → Knows (delivery t) a b → Knows (delivery (e ∷ t)) a b
still_known e t (Some n) b low x = x
still_known e t None None low x = tt
still_known e t None (Some n) low x = gone_stays e t n low x

-- of a delivery that is there the numbers agree
pub same_number : (known : ℕ → Option Delivery) (a b : Option ℕ) (n : ℕ) (d : Delivery) → Knows known a b → known n ≡ Some d → is_number a n ≡ is_number b n
same_number known (Some m) b n d x there = ap (λ v. is_number v n) (sym x)
same_number known None None n d x there = refl
same_number known None (Some m) n d x there = by_test (m == n) refl
  where
    by_test : (q : Bool) → (m == n) ≡ q → false ≡ (m == n)
    by_test true e = let wrong : None ≡ Some d = sym x ∙ ap known (eqb-true m n e) ∙ there in absurd cc
    by_test false e = sym e

pub known_there : (known : ℕ → Option Delivery) (a b : Option ℕ) (n : ℕ) (d : Delivery) → Knows known a b → known n ≡ Some d → b ≡ Some n → a ≡ Some n
known_there known (Some m) b n d x there e = sym x ∙ e
known_there known None b n d x there e =
    let gone : known n ≡ None = subst (IsGone known) e x in
    let wrong : None ≡ Some d = sym gone ∙ there in
    absurd cc

-- what a frame carries
pub known_tagged : (known : ℕ → Option Delivery) (f g : DeliveryName → Option ℕ) → ((name : DeliveryName) → Knows known (f name) (g name))
    → (tag : Option (List ℕ)) → Knows known (option_and_then (number_tagged f) tag) (option_and_then (number_tagged g) tag)
known_tagged known f g fit None = tt
known_tagged known f g fit (Some tag) = by_name (tagged tag)
  where
    by_name : (v : Option DeliveryName) → Knows known (option_and_then f v) (option_and_then g v)
    by_name None = tt
    by_name (Some name) = fit name

pub known_carried : (known : ℕ → Option Delivery) (f g : DeliveryName → Option ℕ) → ((name : DeliveryName) → Knows known (f name) (g name))
    → (tag : Option (List ℕ)) (a b : Option ℕ) → Knows known a b → Knows known (carried f tag a) (carried g tag b)
known_carried known f g fit None a b x = x
known_carried known f g fit (Some tag) a b x = known_tagged known f g fit (Some tag)

pub known_carried_by : (known : ℕ → Option Delivery) (f g : DeliveryName → Option ℕ) → ((name : DeliveryName) → Knows known (f name) (g name))
    → (i : Item) (a b : ℕ → ℕ → Option ℕ) → ((o h : ℕ) → Knows known (a o h) (b o h)) → Knows known (carried_by f i a) (carried_by g i b)
known_carried_by known f g fit (item.Frame sasl own body payload) a b x = by body
  where
    by : (body : Perf) → Knows known (carried_in f body (a own)) (carried_in g body (b own))
    by (perf.Transfer y) = known_carried known f g fit (tag_in y) (a own y.handle) (b own y.handle) (x own y.handle)
    by _ = tt
known_carried_by known f g fit _ a b x = tt

-- what remains to be sent on handles, after the end of links and after any other frame of the router
pub known_ended : (known : ℕ → Option Delivery) (here own on : Bool) (new old view : Option ℕ)
    → new ≡ (if here then (if own then (if on then None else old) else old) else old)
    → Knows known old view → Knows known new (if here then (if own && on then None else view) else view)
known_ended known true true true new old view e x = rw e tt
known_ended known true true false new old view e x = rw e x
known_ended known true false on new old view e x = rw e x
known_ended known false own on new old view e x = rw e x

pub known_session : (known : ℕ → Option Delivery) (here own : Bool) (new old view : Option ℕ) → new ≡ (if here then (if own then None else old) else old)
    → Knows known old view → Knows known new (if here then (if own then None else view) else view)
known_session known true true new old view e x = rw e tt
known_session known true false new old view e x = rw e x
known_session known false own new old view e x = rw e x

pub unsent_in : (numbers : DeliveryName → Option ℕ) (body : Perf) (own o h : ℕ) (v : Option ℕ) → ((x : Transfer) → body ≡ perf.Transfer x → ⊥) → ((x : Detach) → body ≡ perf.Detach x → ⊥)
    → ((x : End) → body ≡ perf.End x → ⊥) → ((x : Close) → body ≡ perf.Close x → ⊥) → sending_in numbers body own o h v ≡ v
unsent_in numbers (perf.Transfer x) own o h v a b c d = absurd (a x refl)
unsent_in numbers (perf.Detach x) own o h v a b c d = absurd (b x refl)
unsent_in numbers (perf.End x) own o h v a b c d = absurd (c x refl)
unsent_in numbers (perf.Close x) own o h v a b c d = absurd (d x refl)
unsent_in numbers _ own o h v a b c d = refl

pub unsent_by : (numbers : DeliveryName → Option ℕ) (i : Item) (o h : ℕ) (v : Option ℕ) → ((sasl : Bool) (own : ℕ) (body : Perf) (payload : List ℕ) → i ≡ item.Frame sasl own body payload → ⊥)
    → sending_by numbers i o h v ≡ v
unsent_by numbers (item.Frame sasl own body payload) o h v other = absurd (other sasl own body payload refl)
unsent_by numbers _ o h v other = refl

pub known_quiet : (known : ℕ → Option Delivery) (here : Bool) (old next view : Option ℕ) → next ≡ view → Knows known old view → Knows known old (if here then next else view)
known_quiet known true old next view e x = subst (Knows known old) (sym e) x
known_quiet known false old next view e x = x
