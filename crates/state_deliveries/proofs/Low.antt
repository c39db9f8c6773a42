-- Numbers of deliveries in a trace are those of bindings.
use Rattle.std.proofs.Common.{◌≡◌, ◌≤◌, ◌+◌, ℕ, Bool, true, false, subst, arith, List, [], ◌∷◌, Option, Some, None}
use Rattle.std.specs.Prelude.{◌==◌, ◌&&◌, if◌then◌else◌, is_none}
use Rattle.std.specs.Option.{option_and_then}
use Rattle.amqp_model.specs.declared.perf.Perf.{Perf}
use Rattle.amqp_model.specs.declared.perf.Perf.TheVariants as perf
use Rattle.amqp_model.specs.declared.item.Item.{Item}
use Rattle.amqp_model.specs.declared.item.Item.TheVariants as item
use Rattle.router_trace.specs.declared.binding.DeliveryName.{DeliveryName}
use Rattle.router_trace.specs.Trace.{Trace, Did, Out, Took, Bound, Booked, Routed, Began}
use Rattle.router_trace.specs.Links.{ends_handle_in, is_lost}
use Rattle.router_trace.specs.Deliveries.{bindings, holds_standing, same_name, name_in, number_named, tagged, number_tagged, carried, tag_in, sending, sending_in, sending_by, named, named_in, named_by, is_id}

abbrev pub IsLow : ℕ → Option ℕ → Type 0
IsLow k None = Unit {0}
IsLow k (Some n) = n ≤ k

pub low_is : (k n : ℕ) (v : Option ℕ) → IsLow k v → v ≡ Some n → n ≤ k
low_is k n v low e = subst (IsLow k) e low

more : (k : ℕ) (v : Option ℕ) → IsLow k v → IsLow (k + 1) v
more k None low = tt
more k (Some n) low = omega (arith, low)

-- after a binding, which may get a number
grown : (new : Bool) (k : ℕ) (v : Option ℕ) → IsLow k v → IsLow (if new then k + 1 else k) v
grown true k v low = more k v low
grown false k v low = low

itself : (k : ℕ) → k ≤ k
itself k = omega arith

either : (k : ℕ) (b : Bool) (v w : Option ℕ) → IsLow k v → IsLow k w → IsLow k (if b then v else w)
either k true v w low other = low
either k false v w low other = other

pub low_number : (t : Trace) (name : DeliveryName) → IsLow (bindings t) (number_named t name)
low_number [] name = tt
low_number (Did s ∷ t) name = low_number t name
low_number (Out c i ∷ t) name = low_number t name
low_number (Took c k ∷ t) name = low_number t name
low_number (Bound b ∷ t) name = by_kind (is_none (holds_standing b.kind)) (low_number t name)
  where
    by_kind : (new : Bool) → IsLow (bindings t) (number_named t name)
        → IsLow (if new then bindings t + 1 else bindings t) (if new && same_name (name_in t b) name then Some (bindings t + 1) else number_named t name)
    by_kind true low =
        either (bindings t + 1) (same_name (name_in t b) name) (Some (bindings t + 1)) (number_named t name) (itself (bindings t + 1)) (more (bindings t) (number_named t name) low)
    by_kind false low = low
low_number (Booked acts full ∷ t) name = low_number t name
low_number (Routed passage ∷ t) name = low_number t name
low_number (Began g ∷ t) name = tt

-- what frames carry and begin
abbrev AreLow : ℕ → (DeliveryName → Option ℕ) → Type 0
AreLow k numbers = (name : DeliveryName) → IsLow k (numbers name)

low_tagged : (k : ℕ) (numbers : DeliveryName → Option ℕ) → AreLow k numbers → (tag : List ℕ) → IsLow k (number_tagged numbers tag)
low_tagged k numbers low tag = by_name (tagged tag)
  where
    by_name : (v : Option DeliveryName) → IsLow k (option_and_then numbers v)
    by_name None = tt
    by_name (Some name) = low name

low_carried : (k : ℕ) (numbers : DeliveryName → Option ℕ) → AreLow k numbers → (tag : Option (List ℕ)) (v : Option ℕ) → IsLow k v → IsLow k (carried numbers tag v)
low_carried k numbers low None v was = was
low_carried k numbers low (Some tag) v was = low_tagged k numbers low tag

low_begun : (k : ℕ) (numbers : DeliveryName → Option ℕ) → AreLow k numbers → (tag : Option (List ℕ)) → IsLow k (option_and_then (number_tagged numbers) tag)
low_begun k numbers low None = tt
low_begun k numbers low (Some tag) = low_tagged k numbers low tag

low_sending_in : (k : ℕ) (numbers : DeliveryName → Option ℕ) → AreLow k numbers → (body : Perf) (own o h : ℕ) (v : Option ℕ) → IsLow k v
    → IsLow k (sending_in numbers body own o h v)
low_sending_in k numbers low (perf.Transfer x) own o h v was =
    either k ((own == o) && (x.handle == h)) (if x.more then carried numbers (tag_in x) v else None) v
    (either k x.more (carried numbers (tag_in x) v) None (low_carried k numbers low (tag_in x) v was) tt) was
low_sending_in k numbers low body own o h v was = either k (ends_handle_in body own o h) None v tt was

low_sending_by : (k : ℕ) (numbers : DeliveryName → Option ℕ) → AreLow k numbers → (i : Item) (o h : ℕ) (v : Option ℕ) → IsLow k v
    → IsLow k (sending_by numbers i o h v)
low_sending_by k numbers low (item.Frame sasl own body payload) o h v was = low_sending_in k numbers low body own o h v was
low_sending_by k numbers low _ o h v was = was

pub low_sending : (t : Trace) (c o h : ℕ) → IsLow (bindings t) (sending t c o h)
low_sending [] c o h = tt
low_sending (Did s ∷ t) c o h = either (bindings t) (is_lost s.event c) None (sending t c o h) tt (low_sending t c o h)
low_sending (Out d i ∷ t) c o h =
    either (bindings t) (d == c) (sending_by (number_named t) i o h (sending t c o h)) (sending t c o h)
    (low_sending_by (bindings t) (number_named t) (low_number t) i o h (sending t c o h) (low_sending t c o h)) (low_sending t c o h)
low_sending (Took d n ∷ t) c o h = low_sending t c o h
low_sending (Bound b ∷ t) c o h = grown (is_none (holds_standing b.kind)) (bindings t) (sending t c o h) (low_sending t c o h)
low_sending (Booked acts full ∷ t) c o h = low_sending t c o h
low_sending (Routed passage ∷ t) c o h = low_sending t c o h
low_sending (Began g ∷ t) c o h = tt

low_named_in : (k : ℕ) (numbers : DeliveryName → Option ℕ) → AreLow k numbers → (body : Perf) (own o id : ℕ) (v : Option ℕ) → IsLow k v
    → IsLow k (named_in numbers body own o id v)
low_named_in k numbers low (perf.Transfer x) own o id v was =
    either k (own == o) (if is_id x.delivery_id id then option_and_then (number_tagged numbers) (tag_in x) else v) v
    (either k (is_id x.delivery_id id) (option_and_then (number_tagged numbers) (tag_in x)) v (low_begun k numbers low (tag_in x)) was) was
low_named_in k numbers low (perf.End x) own o id v was = either k (own == o) None v tt was
low_named_in k numbers low (perf.Close x) own o id v was = tt
low_named_in k numbers low _ own o id v was = was

low_named_by : (k : ℕ) (numbers : DeliveryName → Option ℕ) → AreLow k numbers → (i : Item) (o id : ℕ) (v : Option ℕ) → IsLow k v
    → IsLow k (named_by numbers i o id v)
low_named_by k numbers low (item.Frame sasl own body payload) o id v was = low_named_in k numbers low body own o id v was
low_named_by k numbers low _ o id v was = was

pub low_named : (t : Trace) (c o id : ℕ) → IsLow (bindings t) (named t c o id)
low_named [] c o id = tt
low_named (Did s ∷ t) c o id = either (bindings t) (is_lost s.event c) None (named t c o id) tt (low_named t c o id)
low_named (Out d i ∷ t) c o id =
    either (bindings t) (d == c) (named_by (number_named t) i o id (named t c o id)) (named t c o id)
    (low_named_by (bindings t) (number_named t) (low_number t) i o id (named t c o id) (low_named t c o id)) (low_named t c o id)
low_named (Took d n ∷ t) c o id = low_named t c o id
low_named (Bound b ∷ t) c o id = grown (is_none (holds_standing b.kind)) (bindings t) (named t c o id) (low_named t c o id)
low_named (Booked acts full ∷ t) c o id = low_named t c o id
low_named (Routed passage ∷ t) c o id = low_named t c o id
low_named (Began g ∷ t) c o id = tt
