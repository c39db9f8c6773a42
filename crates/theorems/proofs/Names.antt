-- The tag of each delivery tells its name.
use Rattle.std.proofs.Common.{◌≡◌, sym, ap, refl, subst, ℕ, ◌+◌, ◌≤◌, ◌<◌, ◌^◌, Bool, true, false, List, [], ◌∷◌, ◌++◌, arith}
use Rattle.std.specs.Prelude.{Option, Some, None, IfSome, is_none, if◌then◌else◌}
use Rattle.book_model.specs.declared.row.RowNumber.{RowNumber}
use Rattle.router_trace.specs.declared.binding.DeliveryName.{DeliveryName}
use Rattle.router_trace.specs.Trace.{Entry, Did, Out, Took, Bound, Booked, Routed, Began, is_opening, IsOneRun}
use Rattle.router_trace.specs.Deliveries.{Delivery, counters, name_of, delivery, tag_of, tagged}
use Rattle.theorems.specs.Each.{EachBound}
use Rattle.theorems.specs.Carried.{HasSmallRow, HasSmallNumbers}
use Rattle.theorems.proofs.Bindings.{of_messages, each_bound}
use Rattle.theorems.proofs.Tags.{tag_tells, row_tells}

-- counters rise in a run
more_counters : (e : Entry) (t : List Entry) → is_opening e ≡ false → counters t ≤ counters (e ∷ t)
more_counters (Did s) t one = omega arith
more_counters (Out c i) t one = omega arith
more_counters (Took c k) t one = omega arith
more_counters (Booked acts full) t one = omega arith
more_counters (Routed passage) t one = omega arith
more_counters (Began g) t one = absurd cc
more_counters (Bound b) t one = by (is_none b.row)
  where
    by : (q : Bool) → counters t ≤ (if q then counters t + 1 else counters t)
    by true = omega arith
    by false = omega arith

few_counters : (later t : List Entry) → IsOneRun later → counters t ≤ counters (later ++ t)
few_counters [] t one = omega arith
few_counters (e ∷ later) t one = on (few_counters later t one.1) (more_counters e (later ++ t) one.0)
  where
    on : {j k n : ℕ} → j ≤ k → k ≤ n → j ≤ n
    on h g = omega (arith, h, g)

abbrev pub NamesTold : List Entry → Type 0
NamesTold t = (n : ℕ) (d : Delivery) → delivery t n ≡ Some d → HasSmallNumbers t → tagged (tag_of d.name) ≡ Some d.name

-- the tag of a small number tells it, be it a row's or a counter
name_told : (row : Option RowNumber) (k : ℕ) → IfSome row (λ r. r.0 < 2 ^ 64) → (is_none row ≡ true → k < 2 ^ 64) → tagged (tag_of (name_of row k)) ≡ Some (name_of row k)
name_told None k small few = tag_tells k (few refl)
name_told (Some r) k small few = row_tells r small

pub names_told : (t : List Entry) → NamesTold t
names_told t n d there small =
    let message = of_messages t n d there in
    let k : ℕ = counters message.before + 1 in
    let row : HasSmallRow message.before message.binding =
    each_bound HasSmallRow message.later message.before message.binding (subst (λ (u : List Entry). EachBound HasSmallRow u) message.trace small.1) in
    subst (λ (x : DeliveryName). tagged (tag_of x) ≡ Some x) (sym message.name)
    (name_told message.binding.row k row
    (λ none. below (counted none) (few_counters message.later (Bound message.binding ∷ message.before) message.one_run) (subst (λ (u : List Entry). counters u < 2 ^ 64) message.trace small.0)))
  where
    below : {j n m : ℕ} → n ≡ j → n ≤ m → m < 2 ^ 64 → j < 2 ^ 64
    below is low small = omega (arith, is, low, small)

    counted : is_none (of_messages t n d there).binding.row ≡ true → counters (Bound (of_messages t n d there).binding ∷ (of_messages t n d there).before) ≡ counters (of_messages t n d there).before + 1
    counted none = let message = of_messages t n d there in ap (λ (q : Bool). if q then counters message.before + 1 else counters message.before) none
