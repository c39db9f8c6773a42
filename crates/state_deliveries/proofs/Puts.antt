-- How an entry changes a delivery, by how a table changes it.
use Rattle.std.proofs.Common.{◌≡◌, ◌∙◌, ℕ, Bool, true, false, refl, sym, ap, List, [], ◌∷◌, length, ◌+◌, Option, Some, None, Result, Ok, Err}
use Rattle.std.specs.Prelude.{◌&&◌, ◌==◌, if◌then◌else◌}
use Rattle.std.specs.Option.{option_and_then}
use Rattle.std.specs.Result.{OnOk}
use Rattle.amqp_session.specs.Ranges.{in_range}
use Rattle.amqp_model.specs.declared.perf.Disposition.{Disposition}
use Rattle.amqp_model.specs.declared.perf.Perf.{Perf}
use Rattle.amqp_model.specs.declared.perf.Perf.TheVariants as perf
use Rattle.amqp_model.specs.declared.perf.Role.{Role}
use Rattle.amqp_model.specs.declared.perf.Role.TheVariants.{Sender, Receiver}
use Rattle.amqp_model.specs.declared.perf.Transfer.{Transfer}
use Rattle.amqp_model.specs.declared.item.Item.{Item}
use Rattle.amqp_model.specs.declared.item.Item.TheVariants as item
use Rattle.router_trace.specs.declared.binding.DeliveryName.{DeliveryName}
use Rattle.router_trace.specs.declared.binding.Holding.{Holding}
use Rattle.router_trace.specs.declared.binding.Origin.{Origin}
use Rattle.router_trace.specs.declared.handle.Attachment.{Attachment}
use Rattle.router_trace.specs.Trace.{Trace, Did, Out, Took, Bound, Booked, Routed, Began}
use Rattle.router_trace.specs.Deliveries.{Delivery, source, delivery, named, after_event, bindings, bound, held_by, holds_standing, joined, with_binding, name_in, same_name, number_named, unless_called, unless_over, is_over, after_ends, after_put, after_frame, put_in, ended_by, is_number, carried, tag_in, told, is_meant, origin_id, stands_on, untold, unsettled, last_of, sending, sender, channels_found, acts_found, rank_in}
use Rattle.state_deliveries.specs.declared.change.Change.{Change}
use Rattle.state_deliveries.specs.declared.change.Change.TheVariants as change
use Rattle.state_deliveries.specs.declared.change.Gone.TheVariants as gone
use Rattle.state_deliveries.specs.declared.store.Store.{Store}
use Rattle.state_deliveries.specs.Fits.{StoreFit}
use Rattle.state_deliveries.specs.Indexing.{is_by_place, are_by_place}
use Rattle.state_deliveries.specs.Stepping.{is_gone, comes_with_id, changed, after_change, after_any, put_change, put_by, IsKept}
use Rattle.state_deliveries.proofs.Joined.{bound_kept}

-- a delivery in a trace isn't over
kept_once : (d : Delivery) → IsKept (unless_over d)
kept_once d = by_test (is_over d) refl
  where
    by_test : (b : Bool) → is_over d ≡ b → IsKept (unless_over d)
    by_test true e = rw e refl
    by_test false e = rw (e, e) refl

pub kept_after : (f : Delivery → Delivery) (v : Option Delivery) → IsKept (option_and_then (λ d. unless_over (f d)) v)
kept_after f None = refl
kept_after f (Some d) = kept_once (f d)

pub kept : (t : Trace) (n : ℕ) → IsKept (delivery t n)
kept [] n = refl
kept (Did s ∷ t) n = kept_after (after_event s.event (channels_found t) (named t) (acts_found t) n) (delivery t n)
kept (Out c i ∷ t) n = kept_after (after_put (number_named t) i c n (sending t c)) (delivery t n)
kept (Took c k ∷ t) n = kept t n
kept (Began g ∷ t) n = refl
kept (Booked acts full ∷ t) n = kept t n
kept (Routed passage ∷ t) n = kept t n
kept (Bound b ∷ t) n = by_kind (holds_standing b.kind) (kept t n)
  where
    uncalled : (v : Option Delivery) → IsKept v → IsKept (unless_called (name_in t b) v)
    uncalled None keeps = keeps
    uncalled (Some d) keeps = by_test (same_name d.name (name_in t b))
      where
        by_test : (q : Bool) → IsKept (if q then None else Some d)
        by_test true = refl
        by_test false = keeps

    fresh : (new : Bool) → IsKept (delivery t n) → IsKept (if new then Some (bound (name_in t b) (rank_in t b) b) else unless_called (name_in t b) (delivery t n))
    fresh true keeps = bound_kept (name_in t b) (rank_in t b) b
    fresh false keeps = uncalled (delivery t n) keeps

    rejoined : (q : Holding) (v : Option Delivery) → IsKept v → IsKept (joined (name_in t b) q v)
    rejoined q None keeps = refl
    rejoined q (Some d) keeps = by_test (same_name d.name (name_in t b))
      where
        by_test : (is : Bool) → IsKept (if is then unless_over (held_by q d) else Some d)
        by_test true = kept_once (held_by q d)
        by_test false = keeps

    by_kind : (j : Option Holding) → IsKept (delivery t n) → IsKept (with_binding j (name_in t b) (rank_in t b) b (bindings t + 1 == n) (delivery t n))
    by_kind None keeps = fresh (bindings t + 1 == n) keeps
    by_kind (Some q) keeps = rejoined q (delivery t n) keeps

-- links that end, by an equal test
pub same_ends : (closed : Bool) (p q : Attachment → Bool) → ((a : Attachment) → p a ≡ q a) → (d : Delivery) → after_ends closed p d ≡ after_ends closed q d
same_ends closed p q same d = ap (λ gone. after_ends closed gone d) (λ i a. same a i)

pub no_ends : (closed : Bool) (p : Attachment → Bool) → ((a : Attachment) → p a ≡ false) → (d : Delivery) → after_ends closed p d ≡ d
no_ends closed p none d = same_ends closed p (λ a. false) none d ∙ never (sender d) refl
  where
    never : (o : Option Origin) → sender d ≡ o → after_ends closed (λ a. false) d ≡ d
    never None e = rw e refl
    never (Some p) e = rw e refl

and_false : (b : Bool) → (b && false) ≡ false
and_false true = refl
and_false false = refl

and_true : (b : Bool) → (b && true) ≡ b
and_true true = refl
and_true false = refl

-- a transfer of the router
abbrev pub frame_of : ℕ → Bool → Perf → List ℕ → Item
frame_of own sasl body payload = item.Frame sasl own body payload

-- how it changes a delivery, and a delivery that may exist
abbrev pub put_after : (DeliveryName → Option ℕ) → ℕ → Item → ℕ → (ℕ → ℕ → Option ℕ) → Option Delivery → Option Delivery
put_after numbers c i n known v = option_and_then (λ d. unless_over (after_put numbers i c n known d)) v

still : (d : Delivery) → IsKept (Some d) → Some d ≡ unless_over d
still d keeps = sym keeps

none_either : (b : Bool) (f : Delivery → Option Delivery) → (if b then option_and_then f None else None) ≡ option_and_then f None
none_either true f = refl
none_either false f = refl

pub one_frame : (numbers : DeliveryName → Option ℕ) (c own n : ℕ) (sasl : Bool) (x : Transfer) (payload : List ℕ) (known : ℕ → ℕ → Option ℕ) (number : Option ℕ)
    → (v : Option Delivery) → ((d : Delivery) → v ≡ Some d → is_number number n ≡ is_number (carried numbers (tag_in x) (known own x.handle)) n) → IsKept v
    → (if is_number number n then option_and_then (λ d. unless_over (after_frame x (length payload) d)) v else v)
    ≡ put_after numbers c (item.Frame sasl own (perf.Transfer x) payload) n known v
one_frame numbers c own n sasl x payload known number None is keeps = none_either (is_number number n) (λ d. unless_over (after_frame x (length payload) d))
one_frame numbers c own n sasl x payload known number (Some d) is keeps =
    rw (is d refl) (by_test (is_number (carried numbers (tag_in x) (known own x.handle)) n)
    ∙ sym (ap unless_over (no_ends false (ended_by (item.Frame sasl own (perf.Transfer x) payload) c) (λ a. and_false (a.conn.0 == c)) (put_in numbers (perf.Transfer x) c own n known (length payload) d))))
  where
    by_test : (b : Bool) → (if b then unless_over (after_frame x (length payload) d) else Some d) ≡ unless_over (if b then after_frame x (length payload) d else d)
    by_test true = refl
    by_test false = still d keeps

-- any other performative of the router
quiet : (numbers : DeliveryName → Option ℕ) (c n : ℕ) (i : Item) (known : ℕ → ℕ → Option ℕ) → ((d : Delivery) → after_put numbers i c n known d ≡ d) → (v : Option Delivery) → IsKept v
    → v ≡ put_after numbers c i n known v
quiet numbers c n i known same None keeps = refl
quiet numbers c n i known same (Some d) keeps = still d keeps ∙ ap unless_over (sym (same d))

does : (numbers : DeliveryName → Option ℕ) (c n : ℕ) (i : Item) (x : Change) (known : ℕ → ℕ → Option ℕ) → ((d : Delivery) → after_put numbers i c n known d ≡ changed x d)
    → (v : Option Delivery) → after_change x v ≡ put_after numbers c i n known v
does numbers c n i x known same None = refl
does numbers c n i x known same (Some d) = ap unless_over (sym (same d))

never : (c : ℕ) (d : Delivery) → after_ends false (λ a. (a.conn.0 == c) && false) d ≡ d
never c d = no_ends false (λ a. (a.conn.0 == c) && false) (λ a. and_false (a.conn.0 == c)) d

meant : (x : Disposition) (o : Option Origin) (c own : ℕ) → is_meant x (origin_id o c own) ≡ comes_with_id o c own x.first (last_of x)
meant x None c own = refl
meant x (Some p) c own = by_test (stands_on p.link c own)
  where
    by_test : (b : Bool) → is_meant x (if b then Some p.id else None) ≡ (b && in_range x.first (last_of x) p.id)
    by_test true = refl
    by_test false = refl

disposes : (numbers : DeliveryName → Option ℕ) (c own n : ℕ) (sasl : Bool) (x : Disposition) (payload : List ℕ) (known : ℕ → ℕ → Option ℕ) (r : Role) → x.role ≡ r → (v : Option Delivery) → IsKept v
    → after_any (put_by r c own x) v ≡ put_after numbers c (item.Frame sasl own (perf.Disposition x) payload) n known v
disposes numbers c own n sasl x payload known Sender is v keeps =
    quiet numbers c n (item.Frame sasl own (perf.Disposition x) payload) known (λ d. never c (told x.role x c own d) ∙ ap (λ r. told r x c own d) is) v keeps
disposes numbers c own n sasl x payload known Receiver is v keeps = by_settled x.settled refl
  where
    by_settled : (b : Bool) → x.settled ≡ b → after_change (if b then change.Untold c own x.first (last_of x) else change.Told c own x.first (last_of x)) v ≡ put_after numbers c (item.Frame sasl own (perf.Disposition x) payload) n known v
    by_settled true s = does numbers c n (item.Frame sasl own (perf.Disposition x) payload) (change.Untold c own x.first (last_of x)) known
        (λ d. never c (told x.role x c own d) ∙ ap (λ r. told r x c own d) is
        ∙ ap (λ b. if is_meant x (origin_id (source d) c own) then (if b then untold d else unsettled d) else d) s
        ∙ ap (λ b. if b then untold d else d) (meant x (source d) c own)) v
    by_settled false s = does numbers c n (item.Frame sasl own (perf.Disposition x) payload) (change.Told c own x.first (last_of x)) known
        (λ d. never c (told x.role x c own d) ∙ ap (λ r. told r x c own d) is
        ∙ ap (λ b. if is_meant x (origin_id (source d) c own) then (if b then untold d else unsettled d) else d) s
        ∙ ap (λ b. if b then unsettled d else d) (meant x (source d) c own)) v

pub other_frame : (numbers : DeliveryName → Option ℕ) (c own n : ℕ) (sasl : Bool) (body : Perf) (payload : List ℕ) (known : ℕ → ℕ → Option ℕ) → ((x : Transfer) → body ≡ perf.Transfer x → ⊥)
    → (v : Option Delivery) → IsKept v → after_any (put_change c own body) v ≡ put_after numbers c (item.Frame sasl own body payload) n known v
other_frame numbers c own n sasl (perf.Transfer x) payload known other v keeps = absurd (other x refl)
other_frame numbers c own n sasl (perf.Disposition x) payload known other v keeps = disposes numbers c own n sasl x payload known x.role refl v keeps
other_frame numbers c own n sasl (perf.Detach x) payload known other v keeps =
    does numbers c n (item.Frame sasl own (perf.Detach x) payload) (change.Ends (gone.Link c own x.handle) x.closed) known (λ d. refl) v
other_frame numbers c own n sasl (perf.End x) payload known other v keeps =
    does numbers c n (item.Frame sasl own (perf.End x) payload) (change.Ends (gone.Session c own) false) known (λ d. refl) v
other_frame numbers c own n sasl (perf.Close x) payload known other v keeps =
    does numbers c n (item.Frame sasl own (perf.Close x) payload) (change.Ends (gone.Connection c) false) known
    (λ d. same_ends false (λ a. (a.conn.0 == c) && true) (is_gone (gone.Connection c)) (λ a. and_true (a.conn.0 == c)) d) v
other_frame numbers c own n sasl body payload known other v keeps = quiet numbers c n (item.Frame sasl own body payload) known (λ d. never c d) v keeps

-- what the router puts out is no consumer's disposition
pub put_by_place : (c own : ℕ) (body : Perf) → are_by_place (put_change c own body) ≡ true
put_by_place c own (perf.Disposition x) = by_role x.role
  where
    told_there : (b : Bool) → is_by_place (if b then change.Untold c own x.first (last_of x) else change.Told c own x.first (last_of x)) ≡ true
    told_there true = refl
    told_there false = refl

    by_role : (r : Role) → are_by_place (put_by r c own x) ≡ true
    by_role Sender = refl
    by_role Receiver = told_there x.settled
put_by_place c own (perf.Detach x) = refl
put_by_place c own (perf.End x) = refl
put_by_place c own (perf.Close x) = refl
put_by_place c own body = refl

-- an item without a body
pub unframed : (s : Store) (c : ℕ) (i : Item) (t : Trace) → ((sasl : Bool) (own : ℕ) (body : Perf) (payload : List ℕ) → i ≡ item.Frame sasl own body payload → ⊥)
    → StoreFit s t → StoreFit s (Out c i ∷ t)
unframed s c (item.Frame sasl own body payload) t other fit = absurd (other sasl own body payload refl)
unframed s c i t other fit = record { deliveries = λ n. fit.deliveries n ∙ quiet (number_named t) c n i (sending t c) (λ d. refl) (delivery t n) (kept t n); indexed = fit.indexed }

pub on_ok_both : {T E P Q R : Type 0} (r : Result T E) → (P → Q → R) → OnOk r P → OnOk r Q → OnOk r R
on_ok_both (Ok x) f p q = f p q
on_ok_both (Err e) f p q = tt
