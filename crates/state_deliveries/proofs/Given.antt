-- Outcomes that acts give deliveries.
use Rattle.std.proofs.Common.{◌≡◌, ◌∙◌, ◌<◌, ◌≤◌, ◌+◌, ℕ, Bool, true, false, refl, sym, ap, List, [], ◌∷◌, drop, length, get_or, Option, Some, None}
use Rattle.std.specs.Prelude.{◌&&◌, ◌||◌, ◌==◌, if◌then◌else◌, is_none, is_some, not}
use Rattle.std.proofs.lemmas.List.{at_drop_more, at_drop_all}
use Rattle.amqp_model.specs.declared.state.DeliveryState.{DeliveryState}
use Rattle.amqp_model.specs.declared.perf.Perf.TheVariants as perf
use Rattle.amqp_model.specs.declared.item.Item.{Item}
use Rattle.amqp_model.specs.declared.item.Item.TheVariants as item
use Rattle.book_model.specs.declared.act.Act.{Act}
use Rattle.book_model.specs.declared.act.Act.TheVariants.{Decide}
use Rattle.book_model.specs.declared.act.Decision.{Decision}
use Rattle.router_trace.specs.declared.binding.DeliveryName.{DeliveryName}
use Rattle.router_trace.specs.declared.binding.DeliveryName.TheVariants.{Row, Counter}
use Rattle.router_trace.specs.declared.binding.Origin.{Origin}
use Rattle.router_trace.specs.Deliveries.{Delivery, unforgotten, sender, either_origin, is_over, unless_over, given, giving, outcome_by, outcome_or, outcome_among, outcome_named, same_name}
use Rattle.router_trace.proofs.Numbers.{equal_back}
use Rattle.state_deliveries.specs.Calling.{is_called}
use Rattle.state_deliveries.specs.Giving.{after_acts, attaches, with_outcome}
use Rattle.state_deliveries.specs.Stepping.{IsKept}
use Rattle.state_deliveries.proofs.Puts.{kept_after}
use Rattle.state_deliveries.specs.Indexing.{stepped}

-- what gives a delivery no outcome leaves it
or_none : (o : Option DeliveryState) → outcome_or o None ≡ o
or_none None = refl
or_none (Some s) = refl

given_none : (acts : List Act) (d : Delivery) → outcome_named acts d.name ≡ None → given acts d ≡ d
given_none acts d e = ap (λ o. record d { outcome = o }) (ap (outcome_or d.outcome) e ∙ or_none d.outcome)

left : (acts : List Act) (v : Option Delivery) → ((name : DeliveryName) → outcome_named acts name ≡ None) → IsKept v → after_acts acts v ≡ v
left acts None none keeps = refl
left acts (Some d) none keeps = ap unless_over (given_none acts d (none d.name)) ∙ keeps

pub no_acts : (v : Option Delivery) → IsKept v → after_acts [] v ≡ v
no_acts v keeps = left [] v none keeps
  where
    none : (name : DeliveryName) → outcome_named [] name ≡ None
    none (Row r) = refl
    none (Counter k) = refl

pub other_act : (act : Act) (v : Option Delivery) → ((x : Decision) → act ≡ Decide x → ⊥) → IsKept v → after_acts (act ∷ []) v ≡ v
other_act (Decide x) v other keeps = absurd (other x refl)
other_act act v other keeps = left (act ∷ []) v (λ name. none name) keeps
  where
    none : (name : DeliveryName) → outcome_named (act ∷ []) name ≡ None
    none (Row r) = refl
    none (Counter k) = refl

-- a delivery that is over stays over when it is given an outcome
abbrev over_with : Delivery → Option DeliveryState → Bool
over_with d o = not d.going_on && ((is_some o || d.suspended) && is_none (if is_none o then sender d else unforgotten d))

holder_gone : (g s : Bool) (p early : Option Origin) → (not g && ((false || s) && is_none (either_origin p early))) ≡ true → (not g && (true && is_none p)) ≡ true
holder_gone true s p early e = e
holder_gone false false p early e = absurd cc
holder_gone false true None early e = refl
holder_gone false true (Some q) early e = e

over_given : (d : Delivery) (o made : Option DeliveryState) → over_with d o ≡ true → over_with d (outcome_or o made) ≡ true
over_given d (Some s) made e = e
over_given d None None e = e
over_given d None (Some s) e = holder_gone d.going_on d.suspended (unforgotten d) d.early e

over_stays : (acts : List Act) (d : Delivery) → is_over d ≡ true → is_over (given acts d) ≡ true
over_stays acts d e = over_given d d.outcome (outcome_named acts d.name) e

-- one act, and then the others
among : (act : Act) (acts : List Act) (name : DeliveryName) → outcome_or (outcome_named (act ∷ []) name) (outcome_named acts name) ≡ outcome_named (act ∷ acts) name
among act acts (Row r) = ap (λ o. outcome_or o (outcome_among acts r)) (or_none (outcome_by r act))
among act acts (Counter k) = refl

or_or : (o a b : Option DeliveryState) → outcome_or (outcome_or o a) b ≡ outcome_or o (outcome_or a b)
or_or None a b = refl
or_or (Some s) a b = refl

given_then : (act : Act) (acts : List Act) (d : Delivery) → given acts (given (act ∷ []) d) ≡ given (act ∷ acts) d
given_then act acts d = ap (λ o. record d { outcome = o })
    (or_or d.outcome (outcome_named (act ∷ []) d.name) (outcome_named acts d.name) ∙ ap (outcome_or d.outcome) (among act acts d.name))

pub one_act_more : (act : Act) (acts : List Act) (v : Option Delivery) → after_acts acts (after_acts (act ∷ []) v) ≡ after_acts (act ∷ acts) v
one_act_more act acts None = refl
one_act_more act acts (Some d) = by_test (is_over (given (act ∷ []) d)) refl
  where
    by_test : (b : Bool) → is_over (given (act ∷ []) d) ≡ b → after_acts acts (unless_over (given (act ∷ []) d)) ≡ unless_over (given (act ∷ acts) d)
    by_test true e = ap (λ b. after_acts acts (if b then None else Some (given (act ∷ []) d))) e
        ∙ sym (ap (λ b. if b then None else Some (given acts (given (act ∷ []) d))) (over_stays acts (given (act ∷ []) d) e))
        ∙ ap unless_over (given_then act acts d)
    by_test false e = ap (λ b. after_acts acts (if b then None else Some (given (act ∷ []) d))) e ∙ ap unless_over (given_then act acts d)

-- one act of a list, before those behind it
pub act_done : (acts : List Act) (i : ℕ) (act : Act) (before after : Option Delivery) → i < length acts → act ≡ get_or acts i act
    → after ≡ after_acts (act ∷ []) before → after_acts (drop (i + 1) acts) after ≡ after_acts (drop i acts) before
act_done acts i act before after low is done = ap (after_acts (drop (i + 1) acts)) done ∙ one_act_more act (drop (i + 1) acts) before
    ∙ sym (at_drop_more (λ xs. after_acts xs before) acts i act low ∙ ap (λ x. after_acts (x ∷ drop (i + 1) acts) before) (sym is))

pub all_done : (acts : List Act) (i : ℕ) (v : Option Delivery) → length acts ≤ i → IsKept v → after_acts (drop i acts) v ≡ v
all_done acts i v high keeps = at_drop_all (λ xs. after_acts xs v) acts i high ∙ no_acts v keeps

pub kept_acts : (acts : List Act) (v : Option Delivery) → IsKept (after_acts acts v)
kept_acts acts v = kept_after (given acts) v

-- a decision gives the delivery of its row an outcome, and no other
decision_named : (x : Decision) (name : DeliveryName) → outcome_named (Decide x ∷ []) name ≡ (if same_name name (Row x.row) then Some x.outcome else None)
decision_named x (Row r) = or_none (if x.row.0 == r.0 then Some x.outcome else None) ∙ ap (λ b. if b then Some x.outcome else None) (equal_back r.0 x.row.0)
decision_named x (Counter k) = refl

pub decided_at : (x : Decision) (b : Bool) (v : Option Delivery) → b ≡ is_called (Row x.row) v → IsKept v
    → (if b then stepped (with_outcome x.outcome) v else v) ≡ after_acts (Decide x ∷ []) v
decided_at x true None e keeps = refl
decided_at x false None e keeps = refl
decided_at x true (Some d) e keeps = ap (λ o. unless_over (record d { outcome = outcome_or d.outcome o }))
    (ap (λ b. if b then Some x.outcome else None) e ∙ sym (decision_named x d.name))
decided_at x false (Some d) e keeps = sym keeps
    ∙ sym (ap unless_over (given_none (Decide x ∷ []) d (decision_named x d.name ∙ sym (ap (λ b. if b then Some x.outcome else None) e))))

-- an attach gives what its acts give, and any other item nothing
gives : (i : Item) (acts : List Act) → giving i acts ≡ (if attaches i then acts else [])
gives (item.Frame true channel body payload) acts = refl
gives (item.Frame false channel (perf.Attach x) payload) acts = refl
gives (item.Frame false channel body payload) acts = refl
gives i acts = refl

pub gives_all : (i : Item) (acts : List Act) (v : Option Delivery) → attaches i ≡ true → after_acts acts v ≡ after_acts (giving i acts) v
gives_all i acts v e = sym (ap (λ a. after_acts a v) (gives i acts ∙ ap (λ b. if b then acts else []) e))

pub gives_nothing : (i : Item) (acts : List Act) (v : Option Delivery) → attaches i ≡ false → IsKept v → v ≡ after_acts (giving i acts) v
gives_nothing i acts v e keeps = sym (ap (λ a. after_acts a v) (gives i acts ∙ ap (λ b. if b then acts else []) e) ∙ no_acts v keeps)

-- a name that a table doesn't have
pub none_of : (v : Option ℕ) → ((n : ℕ) → v ≡ Some n → ⊥) → v ≡ None
none_of None other = refl
none_of (Some n) other = absurd (other n refl)
