-- A delivery without a row comes on a link that isn't durable, and that link claims its id, as long as the producer
-- isn't done with it: so its outcome is told under no id of a durable link.
use Rattle.std.proofs.Common.{◌≡◌, ◌∙◌, sym, ap, refl, ℕ, List, [], ◌∷◌}
use Rattle.std.specs.Prelude.{Option, Some, None}
use Rattle.amqp_model.specs.declared.perf.Disposition.{Disposition}
use Rattle.amqp_model.specs.declared.perf.Perf.{Perf}
use Rattle.amqp_model.specs.declared.perf.Perf.TheVariants as perf
use Rattle.amqp_model.specs.declared.perf.Role.{Role}
use Rattle.amqp_model.specs.declared.perf.Role.TheVariants.{Sender, Receiver}
use Rattle.amqp_model.specs.declared.item.Item.{Item}
use Rattle.amqp_model.specs.declared.item.Item.TheVariants as item
use Rattle.book_model.specs.declared.row.RowNumber.{RowNumber}
use Rattle.router_trace.specs.declared.binding.Binding.{Binding}
use Rattle.router_trace.specs.declared.binding.DeliveryName.TheVariants.{Counter}
use Rattle.router_trace.specs.declared.binding.Holding.{Holding}
use Rattle.router_trace.specs.declared.binding.Origin.{Origin}
use Rattle.router_trace.specs.Claims.{Claim, claims}
use Rattle.router_trace.specs.Deliveries.{Delivery, acts_found, after_event, after_put, bound, channels_found, delivery, either_origin, holds_standing, name_in, name_of, named, number_named, rank_in, sending, source}
use Rattle.router_trace.specs.Following.{link_of}
use Rattle.router_trace.specs.Links.{durable_key, link}
use Rattle.router_trace.specs.Trace.{Trace, Entry, Did, Out, Took, Bound, Step}
use Rattle.state_deliveries.specs.declared.change.Change.{Change}
use Rattle.state_deliveries.specs.Deciding.{changed_by}
use Rattle.theorems.specs.Told.{TellsOutcome}
use Rattle.theorems.proofs.Bindings.{of_what}
use Rattle.theorems.proofs.Changing.{Alike, leaves_by}
use Rattle.theorems.proofs.Claimed.{HasClaim}
use Rattle.theorems.proofs.Facts.{DidClaims, bound_claims, out_claims, took_claims}
use Rattle.theorems.proofs.Rebound.{AfterBound, after_bound, held_name}
use Rattle.theorems.proofs.Rebound.AfterBound.{is_new, is_joined, is_old}
use Rattle.theorems.proofs.Standing.{IsFresh, Standing, did_volatile, out_volatile}
use Rattle.theorems.proofs.Tests.{some_same}
use Rattle.theorems.proofs.Undecided.{was_did, was_out}

-- a producer's link isn't durable, and claims the delivery's id
pub record IsVolatile (t : Trace) (p : Origin) : Type 0 where
  pub volatile : durable_key (link_of t p.link) ≡ None
  pub tag : List ℕ
  pub claimed : HasClaim t p tag

-- each delivery without a row, with which its producer won't be done after these changes
abbrev pub Volatile : Trace → List Change → Type 0
Volatile t xs = (n : ℕ) (d : Delivery) (k : ℕ) (p : Origin) → delivery t n ≡ Some d → d.name ≡ Counter k → source (changed_by xs d) ≡ Some p → IsVolatile t p

-- the same where the event's entry gives it an outcome first
abbrev pub VolatileOf : Trace → (Delivery → Delivery) → List Change → Type 0
VolatileOf t g xs = (n : ℕ) (d : Delivery) (k : ℕ) (p : Origin) → delivery t n ≡ Some d → d.name ≡ Counter k → source (changed_by xs (g d)) ≡ Some p → IsVolatile t p

-- entries

pub did_all_volatile : (s : Step) (t : List Entry) (g : Delivery → Delivery) (xs ys : List Change)
    → ((n : ℕ) (d : Delivery) → delivery t n ≡ Some d → Alike (changed_by xs (g d)) (changed_by ys (after_event s.event (channels_found t) (named t) (acts_found t) n d)))
    → DidClaims s t ys → VolatileOf t g xs → Volatile (Did s ∷ t) ys
did_all_volatile s t g xs ys alike claims was n e k p now name from =
    let before = of_what (after_event s.event (channels_found t) (named t) (acts_found t) n) (delivery t n) e now in
    let w = was_did s t n e now in
    let d : Delivery = before.0 in
    let same : d ≡ w.before = some_same (sym before.1 ∙ w.there) in
    let called : d.name ≡ Counter k = ap (λ (x : Delivery). x.name) same ∙ sym w.follows.name ∙ name in
    let came : source (changed_by xs (g d)) ≡ Some p = (alike n d before.1).comes p (ap (λ (x : Delivery). source (changed_by ys x)) (sym before.2) ∙ from) in
    let old : IsVolatile t p = was n d k p before.1 called came in
    record { volatile = did_volatile s t p.link old.volatile; tag = old.tag; claimed = claims n e p old.tag now from old.claimed }

-- what an item leaves of a delivery's producer
abbrev pub ItemComes : ℕ → Item → List Entry → List Change → List Change → Type 0
ItemComes c i t xs ys = (n : ℕ) (d : Delivery) (p : Origin) → source (changed_by ys (after_put (number_named t) i c n (sending t c) d)) ≡ Some p → source (changed_by xs d) ≡ Some p

pub out_all_volatile : (c : ℕ) (i : Item) (t : List Entry) (xs ys : List Change) → Standing t → IsFresh t c i → ItemComes c i t xs ys → Volatile t xs → Volatile (Out c i ∷ t) ys
out_all_volatile c i t xs ys standing fresh comes was n e k p now name from =
    let before = of_what (after_put (number_named t) i c n (sending t c)) (delivery t n) e now in
    let w = was_out c i t n e now in
    let d : Delivery = before.0 in
    let same : d ≡ w.before = some_same (sym before.1 ∙ w.there) in
    let called : d.name ≡ Counter k = ap (λ (x : Delivery). x.name) same ∙ sym w.follows.name ∙ name in
    let old : IsVolatile t p = was n d k p before.1 called (comes n d p (ap (λ (x : Delivery). source (changed_by ys x)) (sym before.2) ∙ from)) in
    let still : source e ≡ Some p = (leaves_by ys e).comes p from in
    record {
      volatile = out_volatile c i t fresh standing p.link (standing.producers n w.before p w.there (w.comes p still)) old.volatile;
      tag = old.tag;
      claimed = out_claims c i t n e p old.tag now still old.claimed;
    }

pub took_all_volatile : (c k : ℕ) (t : List Entry) (xs : List Change) → Volatile t xs → Volatile (Took c k ∷ t) xs
took_all_volatile c k t xs was n d j p there name from =
    let old : IsVolatile t p = was n d j p there name from in
    record { volatile = old.volatile; tag = old.tag; claimed = took_claims c k t p old.tag old.claimed }

-- bindings

no_row : (row : Option RowNumber) (j k : ℕ) → name_of row j ≡ Counter k → row ≡ None
no_row None j k is = refl
no_row (Some r) j k is = absurd cc

pub bound_all_volatile : (b : Binding) (t : List Entry) → (b.row ≡ None → (p : Origin) → source (bound (name_in t b) (rank_in t b) b) ≡ Some p → IsVolatile t p)
    → ((q : Holding) → holds_standing b.kind ≡ Some q → b.row ≡ None → ⊥) → Volatile t [] → Volatile (Bound b ∷ t) []
bound_all_volatile b t new rowed was n d k p now name from = moved (by (after_bound b t n d now))
  where
    moved : IsVolatile t p → IsVolatile (Bound b ∷ t) p
    moved old = record { volatile = old.volatile; tag = old.tag; claimed = bound_claims b t p old.tag old.claimed }

    by : AfterBound b t n d → IsVolatile t p
    by (is_new made) = new (no_row b.row _ k (ap (λ (x : Delivery). x.name) made.is ∙ name)) p (ap source made.is ∙ from)
    by (is_joined joins) =
        absurd (rowed joins.holding joins.joins (no_row b.row _ k (sym joins.named ∙ sym (held_name joins.holding joins.before) ∙ ap (λ (x : Delivery). x.name) joins.is ∙ name)))
    by (is_old there) = was n d k p there name from

-- what is told of one

abbrev pub role_tells_volatile : Role → Trace → ℕ → ℕ → Disposition → Type 0
role_tells_volatile Receiver t c own x =
    (report : TellsOutcome t c own x) (k : ℕ) → report.of.name ≡ Counter k → (v : Claim) → claims t c own x.first ≡ Some v → durable_key (link t c own v.handle) ≡ None
role_tells_volatile Sender t c own x = Unit {0}

abbrev pub perf_tells_volatile : Perf → Trace → ℕ → ℕ → Type 0
perf_tells_volatile (perf.Disposition x) t c own = role_tells_volatile x.role t c own x
perf_tells_volatile _ t c own = Unit {0}

abbrev pub TellsVolatile : Trace → ℕ → Item → Type 0
TellsVolatile t c (item.Frame sasl own body payload) = perf_tells_volatile body t c own
TellsVolatile t c _ = Unit {0}

told_volatile : (t : Trace) (c own : ℕ) (x : Disposition) → Volatile t [] → (report : TellsOutcome t c own x) (k : ℕ) → report.of.name ≡ Counter k → (v : Claim) → claims t c own x.first ≡ Some v
    → durable_key (link t c own v.handle) ≡ None
told_volatile t c own x all report k name v claimed =
    ap (λ (h : ℕ). durable_key (link t c own h)) handle
    ∙ ap (λ (m : ℕ). durable_key (link t m own p.link.handle)) (sym report.on_connection)
    ∙ ap (λ (m : ℕ). durable_key (link t p.link.conn.0 m p.link.handle)) (sym report.on_session)
    ∙ is.volatile
  where
    p : Origin
    p = report.origin

    is : IsVolatile t p
    is = all report.number report.of k p report.there name (ap (λ (o : Option Origin). either_origin o report.of.told) report.producer)

    there : claims t c own x.first ≡ Some is.claimed.claim
    there =
        ap (λ (m : ℕ). claims t m own x.first) (sym report.on_connection)
        ∙ ap (λ (m : ℕ). claims t p.link.conn.0 m x.first) (sym report.on_session)
        ∙ ap (claims t p.link.conn.0 p.link.channel) (sym report.its_id)
        ∙ is.claimed.there

    handle : v.handle ≡ p.link.handle
    handle = ap (λ (w : Claim). w.handle) (some_same (sym claimed ∙ there)) ∙ is.claimed.on_link

role_volatile : (role : Role) (t : Trace) (c own : ℕ) (x : Disposition) → Volatile t [] → role_tells_volatile role t c own x
role_volatile Receiver t c own x all = λ report k name v claimed. told_volatile t c own x all report k name v claimed
role_volatile Sender t c own x all = tt

perf_volatile : (body : Perf) (t : Trace) (c own : ℕ) → Volatile t [] → perf_tells_volatile body t c own
perf_volatile (perf.Disposition x) t c own all = role_volatile x.role t c own x all
perf_volatile _ t c own all = tt

pub item_volatile : (i : Item) (t : Trace) (c : ℕ) → Volatile t [] → TellsVolatile t c i
item_volatile (item.Frame sasl own body payload) t c all = perf_volatile body t c own all
item_volatile _ t c all = tt
