-- The acts of an event, as they are planned and written.
use Rattle.std.proofs.Common.{◌≡◌, ◌∙◌, ap, refl, sym, subst, ℕ, List, [], ◌∷◌, Bool, true, false, ◌⊎◌, inl, inr}
use Rattle.std.specs.Prelude.{Option, Some, None, IfSome, IfNone, Result, Ok, Err}
use Rattle.amqp_model.specs.declared.perf.Perf.TheVariants as perf
use Rattle.amqp_model.specs.declared.item.Item.{Item}
use Rattle.amqp_model.specs.declared.item.Item.TheVariants as item
use Rattle.amqp_conn.specs.declared.conn.Conn.{Conn}
use Rattle.book_model.specs.declared.act.Act.{Act}
use Rattle.book_model.specs.Book.{BookView}
use Rattle.journal_store.specs.Store.{exceeds}
use Rattle.core_machine.specs.declared.fault.CoreFault.{CoreFault}
use Rattle.router_trace.specs.declared.condition.Condition.{Condition}
use Rattle.router_trace.specs.declared.event.Event.{Event}
use Rattle.router_trace.specs.declared.event.Event.TheVariants as event
use Rattle.router_trace.specs.Trace.{Entry}
use Rattle.router_trace.specs.Connection.{due, standing, found}
use Rattle.reply_rows.specs.declared.answer.Answer.{Answer}
use Rattle.reply_rows.specs.declared.answer.Answer.TheVariants.{Taken, Attach}
use Rattle.reply_rows.specs.Booking.{attach_unless, booked_attach, booked as answer_booked}
use Rattle.reply_rows.specs.Finding.{finds}
use Rattle.reply_rows.specs.Rows.{item_reply}
use Rattle.reply_rows.specs.Acts.{event_answer, live_answer, answer_acts, planned_acts, admitted_acts, or_admits, event_acts}
use Rattle.reply_rows.specs.Admitting.{taken_admission, unless_ends, event_admission, admits, without_acts}
use Rattle.router_core.specs.Handling.{within, or_within, with_admission, or_exceeds, full_with}

-- what holds of what is there, if it is
pub some_weaker : {X : Type 0} (P Q : X → Type 0) (o : Option X) → ((x : X) → P x → Q x) → IfSome o P → IfSome o Q
some_weaker P Q None wider is = tt
some_weaker P Q (Some x) wider is = wider x is

-- the acts of what was written, or of nothing
pub acts_in : {V : Type 0} (o : Option (ℕ × V)) (items : V → List Act) (given acts : List Act) (n : ℕ) → IfSome o (λ batch. given ≡ items batch.1) → IfNone o (given ≡ [])
    → IfSome o (λ batch. (batch.0 ≡ n) × (items batch.1 ≡ acts)) → IfNone o (acts ≡ []) → given ≡ acts
acts_in None items given acts n some none written silent = none ∙ sym silent
acts_in (Some batch) items given acts n some none written silent = some ∙ written.1

-- none are none, by the other name
pub acts_none : {X : Type 0} (o : Option X) (xs ys : List Act) → xs ≡ ys → IfNone o (xs ≡ []) → IfNone o (ys ≡ [])
acts_none None xs ys same is = sym same ∙ is
acts_none (Some x) xs ys same is = tt

-- the fault that is answered
abbrev pub fault_of : {W : Type 0} → CoreFault → Result W CoreFault → CoreFault
fault_of f (Ok w) = f
fault_of f (Err x) = x

-- an answer that takes no transfer admits nothing
abbrev NotTaken : Answer → Type 0
NotTaken a = (own handle : ℕ) → a ≡ Taken own handle → ⊥

none_taken : (b : BookView) (t after : List Entry) (c : ℕ) (i : Item) (a : Answer) → NotTaken a → taken_admission b t after c i a ≡ None
none_taken b t after c i (Taken own handle) none = absurd (none own handle refl)
none_taken b t after c i _ none = refl

pub none_kept : (cs : List ℕ) → unless_ends cs None ≡ None
none_kept [] = refl
none_kept (c ∷ cs) = refl

-- only the answer to an attach depends on whether the journal is full
refused_takes_none : (own : ℕ) (free : Option ℕ) (x : Option Condition) → NotTaken (attach_unless own free x)
refused_takes_none own free None = λ o h e. absurd cc
refused_takes_none own None (Some x) = λ o h e. absurd cc
refused_takes_none own (Some handle) (Some x) = λ o h e. absurd cc

attach_alike : (free : ℕ → Option ℕ) (x y : Option Condition) (a : Answer) → (booked_attach free x a ≡ booked_attach free y a) ⊎ NotTaken (booked_attach free y a)
attach_alike free x y (Attach own) = inr (refused_takes_none own (free own) y)
attach_alike free x y _ = inl refl

booked_alike : (b : BookView) (t : List Entry) (c : ℕ) (i : Item) (a : Answer) → (answer_booked true b t c i a ≡ answer_booked false b t c i a) ⊎ NotTaken (answer_booked false b t c i a)
booked_alike b t c (item.Frame sasl channel (perf.Attach x) payload) a = attach_alike _ _ _ a
booked_alike b t c (item.Frame sasl channel (perf.Transfer x) payload) a = inl refl
booked_alike b t c (item.Frame sasl channel _ payload) a = inl refl
booked_alike b t c _ a = inl refl

live_alike : (b : BookView) (t : List Entry) (c : ℕ) (i : Item) (v : Option Conn) → (live_answer true b t c i v ≡ live_answer false b t c i v) ⊎ NotTaken (live_answer false b t c i v)
live_alike b t c i None = inl refl
live_alike b t c i (Some p) = booked_alike b t c i (item_reply p (finds t c) i)

-- so an event that admits something is answered alike
answer_alike : (b : BookView) (t : List Entry) (e : Event) → (event_answer true b t e ≡ event_answer false b t e) ⊎ (event_admission b t e (event_answer false b t e) ≡ None)
answer_alike b t (event.Item c i) = by (live_alike b t c.0 i (standing (found t (event.Item c i) c.0)))
  where
    e : Event
    e = event.Item c i

    by : (event_answer true b t e ≡ event_answer false b t e) ⊎ NotTaken (event_answer false b t e)
        → (event_answer true b t e ≡ event_answer false b t e) ⊎ (event_admission b t e (event_answer false b t e) ≡ None)
    by (inl same) = inl same
    by (inr none) = inr (ap (unless_ends (due t e)) (none_taken b t (without_acts t e) c.0 i (event_answer false b t e) none) ∙ none_kept (due t e))
answer_alike b t (event.Up c p) = inl refl
answer_alike b t (event.Down c) = inl refl
answer_alike b t (event.Tick ms) = inl refl
answer_alike b t event.Start = inl refl

-- what is planned, where the answer is the same
planned_alike : (b : BookView) (t : List Entry) (e : Event) → event_answer true b t e ≡ event_answer false b t e → planned_acts true b t e ≡ planned_acts false b t e
planned_alike b t event.Start same = refl
planned_alike b t (event.Up c p) same = ap (answer_acts b t (event.Up c p)) same
planned_alike b t (event.Item c i) same = ap (answer_acts b t (event.Item c i)) same
planned_alike b t (event.Down c) same = ap (answer_acts b t (event.Down c)) same
planned_alike b t (event.Tick ms) same = ap (answer_acts b t (event.Tick ms)) same

nothing_admitted : (acts : List Act) → or_admits acts [] ≡ acts
nothing_admitted [] = refl
nothing_admitted (act ∷ acts) = refl

-- An event's answer and acts, as they are chosen: by what is planned, and what would be admitted if nothing is.
module _ (b : BookView) (t : List Entry) (e : Event) where
  abbrev pub early : Bool
  early = exceeds b (planned_acts false b t e)

  abbrev pub whole : Bool
  whole = exceeds b (event_acts false b t e)

  abbrev pub admitted : Bool → List Act
  admitted full = admits b (event_admission b t e (event_answer full b t e))

  pub record Chosen : Type 0 where
    pub answer : event_answer early b t e ≡ event_answer whole b t e
    pub acts : with_admission early b (planned_acts early b t e) (admitted early) ≡ event_acts whole b t e
    pub full : full_with early b (planned_acts early b t e) (admitted early) ≡ whole

  -- something is planned
  some_planned : (act : Act) (acts : List Act) → planned_acts false b t e ≡ act ∷ acts → Chosen
  some_planned act acts are = by early refl
    where
      only : event_acts false b t e ≡ act ∷ acts
      only = ap (λ (xs : List Act). or_admits xs (admitted_acts false b t e)) are

      alike : early ≡ whole
      alike = ap (exceeds b) are ∙ sym (ap (exceeds b) only)

      by_full : (full : Bool) → (full ≡ true) ⊎ (full ≡ false) → with_admission full b (planned_acts full b t e) (admitted full) ≡ event_acts full b t e
      by_full full (inl is) =
          subst (λ (f : Bool). with_admission f b (planned_acts f b t e) (admitted f) ≡ event_acts f b t e) (sym is) (sym (nothing_admitted (planned_acts true b t e)))
      by_full full (inr is) =
          subst (λ (f : Bool). with_admission f b (planned_acts f b t e) (admitted f) ≡ event_acts f b t e) (sym is)
          (ap (λ (xs : List Act). or_within b xs (admitted false)) are ∙ sym only)

      -- it is full by what is planned, or not at all
      told : (full : Bool) → (full ≡ true) ⊎ (full ≡ false) → full_with full b (planned_acts full b t e) (admitted full) ≡ full
      told full (inl is) = subst (λ (f : Bool). full_with f b (planned_acts f b t e) (admitted f) ≡ f) (sym is) refl
      told full (inr is) =
          subst (λ (f : Bool). full_with f b (planned_acts f b t e) (admitted f) ≡ f) (sym is) (ap (λ (xs : List Act). or_exceeds b xs (admitted false)) are)

      made : (early ≡ true) ⊎ (early ≡ false) → Chosen
      made is = record {
        answer = ap (λ (f : Bool). event_answer f b t e) alike;
        acts = by_full early is ∙ ap (λ (f : Bool). event_acts f b t e) alike;
        full = told early is ∙ alike;
      }

      by : (full : Bool) → early ≡ full → Chosen
      by true is = made (inl is)
      by false is = made (inr is)

  -- nothing is planned
  none_planned : planned_acts false b t e ≡ [] → Chosen
  none_planned none = by whole refl
    where
      only : event_acts false b t e ≡ admitted false
      only = ap (λ (xs : List Act). or_admits xs (admitted_acts false b t e)) none

      not_early : early ≡ false
      not_early = ap (exceeds b) none

      -- what is admitted exceeds the room
      over : whole ≡ true → (event_answer true b t e ≡ event_answer false b t e) ⊎ (event_admission b t e (event_answer false b t e) ≡ None)
          → (event_answer false b t e ≡ event_answer true b t e) × (within (exceeds b (admitted false)) (admitted false) ≡ event_acts true b t e)
      over is (inl same) = (
        sym same,
        ap (λ (f : Bool). within f (admitted false)) (sym (ap (exceeds b) only) ∙ is)
            ∙ sym (nothing_admitted (planned_acts true b t e) ∙ planned_alike b t e same ∙ none),
      )
      over is (inr gone) =
          let nothing : admitted false ≡ [] = ap (admits b) gone in
          let room : whole ≡ false = ap (exceeds b) only ∙ ap (exceeds b) nothing in
          absurd (true_false (sym is ∙ room))
        where
          true_false : true ≡ false → ⊥
          true_false h = absurd cc

      at_early : (full : Bool) → whole ≡ full
          → (event_answer false b t e ≡ event_answer full b t e) × (within (exceeds b (admitted false)) (admitted false) ≡ event_acts full b t e) → Chosen
      at_early full is both = record {
        answer = ap (λ (f : Bool). event_answer f b t e) not_early ∙ both.0 ∙ ap (λ (f : Bool). event_answer f b t e) (sym is);
        acts =
            ap (λ (f : Bool). with_admission f b (planned_acts f b t e) (admitted f)) not_early
            ∙ ap (λ (xs : List Act). or_within b xs (admitted false)) none ∙ both.1 ∙ ap (λ (f : Bool). event_acts f b t e) (sym is);
        full =
            ap (λ (f : Bool). full_with f b (planned_acts f b t e) (admitted f)) not_early
            ∙ ap (λ (xs : List Act). or_exceeds b xs (admitted false)) none ∙ sym (ap (exceeds b) only);
      }

      by : (full : Bool) → whole ≡ full → Chosen
      by true is = at_early true is (over is (answer_alike b t e))
      by false is = at_early false is (refl, ap (λ (f : Bool). within f (admitted false)) (sym (ap (exceeds b) only) ∙ is) ∙ sym only)

  pub chosen : Chosen
  chosen = by (planned_acts false b t e) refl
    where
      by : (acts : List Act) → planned_acts false b t e ≡ acts → Chosen
      by [] is = none_planned is
      by (act ∷ acts) is = some_planned act acts is
