-- A table's names keep agreeing with the trace.
use Rattle.std.proofs.Common.{◌≡◌, ◌∙◌, ℕ, Bool, true, false, refl, sym, ap, subst, List, ◌∷◌, Option, Some, None}
use Rattle.std.specs.Prelude.{if◌then◌else◌}
use Rattle.amqp_model.specs.declared.perf.Perf.{Perf}
use Rattle.amqp_model.specs.declared.perf.Perf.TheVariants as perf
use Rattle.amqp_model.specs.declared.perf.Transfer.{Transfer}
use Rattle.amqp_model.specs.declared.perf.End.{End}
use Rattle.amqp_model.specs.declared.perf.Close.{Close}
use Rattle.amqp_model.specs.declared.item.Item.{Item}
use Rattle.amqp_model.specs.declared.item.Item.TheVariants as item
use Rattle.router_trace.specs.declared.binding.DeliveryName.{DeliveryName}
use Rattle.router_trace.specs.Trace.{Entry, Trace}
use Rattle.router_trace.specs.Deliveries.{Delivery, delivery, bindings, named, named_in, named_by}
use Rattle.state_deliveries.specs.Calling.{Knows}
use Rattle.state_deliveries.specs.Naming.{is_open, MayBeForgotten, Remembers, IsSmall, kept_name}
use Rattle.state_deliveries.proofs.Closed.{stays_closed}
use Rattle.state_deliveries.proofs.Low.{IsLow}

pub still : (e : Entry) (t : Trace) (stored view : Option ℕ) → IsLow (bindings t) view → Remembers t stored view → Remembers (e ∷ t) stored view
still e t (Some n) view low x = x
still e t None None low x = tt
still e t None (Some n) low x = stays_closed e t n low x

pub same_row : (t : Trace) (new old view next : Option ℕ) → new ≡ old → next ≡ view → Remembers t old view → Remembers t new next
same_row t new old view next e f x = rw (e, f) x

-- a row that a transfer may set
pub set_row : (t : Trace) (here own named : Bool) (new name old next view : Option ℕ)
    → new ≡ (if here then (if own then (if named then name else old) else old) else old)
    → Remembers t name next → Remembers t old view
    → Remembers t new (if here then (if own then (if named then next else view) else view) else view)
set_row t true true true new name old next view e x y = rw e x
set_row t true true false new name old next view e x y = rw e y
set_row t true false named new name old next view e x y = rw e y
set_row t false own named new name old next view e x y = rw e y

-- the number that is kept for a transfer's delivery
pub remembers_kept : (t : Trace) (found name : Option ℕ) (known : ℕ → Option Delivery) → ((n : ℕ) → known n ≡ delivery t n) → Knows (delivery t) found name → Remembers t (kept_name found known) name
remembers_kept t None None known same x = tt
remembers_kept t None (Some n) known same x = ap is_open x
remembers_kept t (Some n) name known same x = by_test (is_open (known n)) refl
  where
    by_test : (y : Bool) → is_open (known n) ≡ y → Remembers t (if y then Some n else None) name
    by_test true g = x
    by_test false g = subst (MayBeForgotten t) (sym x) (sym (ap is_open (same n)) ∙ g)

-- items that name nothing
pub unnamed : (numbers : DeliveryName → Option ℕ) (body : Perf) (own o id : ℕ) (v : Option ℕ) → ((x : Transfer) → body ≡ perf.Transfer x → ⊥) → ((x : End) → body ≡ perf.End x → ⊥) → ((x : Close) → body ≡ perf.Close x → ⊥)
    → named_in numbers body own o id v ≡ v
unnamed numbers (perf.Transfer x) own o id v a b c = absurd (a x refl)
unnamed numbers (perf.End x) own o id v a b c = absurd (b x refl)
unnamed numbers (perf.Close x) own o id v a b c = absurd (c x refl)
unnamed numbers _ own o id v a b c = refl

pub unframed : (numbers : DeliveryName → Option ℕ) (i : Item) (o id : ℕ) (v : Option ℕ) → ((sasl : Bool) (own : ℕ) (body : Perf) (payload : List ℕ) → i ≡ item.Frame sasl own body payload → ⊥)
    → named_by numbers i o id v ≡ v
unframed numbers (item.Frame sasl own body payload) o id v other = absurd (other sasl own body payload refl)
unframed numbers _ o id v other = refl

pub quiet_row : (here : Bool) (next view : Option ℕ) → next ≡ view → (if here then next else view) ≡ view
quiet_row true next view e = e
quiet_row false next view e = refl

pub small_end : (here own : Bool) (id : ℕ) (new old : Option ℕ) → new ≡ (if here then (if own then None else old) else old) → IsSmall id old → IsSmall id new
small_end true true id new old e x = rw e tt
small_end true false id new old e x = rw e x
small_end false own id new old e x = rw e x

-- a name that is forgotten once its delivery isn't undecided
pub settled_row : (t : Trace) (here own same : Bool) (new old view name : Option ℕ) (known : ℕ → Option Delivery) → ((n : ℕ) → known n ≡ delivery t n)
    → (here ≡ true → own ≡ true → same ≡ true → name ≡ kept_name old known)
    → new ≡ (if here then (if own then (if same then name else old) else old) else old)
    → Remembers t old view → Remembers t new view
settled_row t true true true new old view name known all is x y = rw (x, is refl refl refl) (settled old y)
  where
    settled : (o : Option ℕ) → Remembers t o view → Remembers t (kept_name o known) view
    settled None y = y
    settled (Some n) y = remembers_kept t (Some n) view known all y
settled_row t true true false new old view name known all is x y = rw x y
settled_row t true false same new old view name known all is x y = rw x y
settled_row t false own same new old view name known all is x y = rw x y

-- the names of a connection that is lost
pub lost_row : (e : Entry) (t : Trace) (here : Bool) (new old view : Option ℕ) → new ≡ (if here then None else old) → IsLow (bindings t) view → Remembers t old view
    → Remembers (e ∷ t) new (if here then None else view)
lost_row e t true new old view is low x = rw is tt
lost_row e t false new old view is low x = rw is (still e t old view low x)
