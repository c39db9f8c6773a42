-- The book of a trace and its start depend on the events only, not on what is put out.
use Rattle.std.proofs.Common.{◌≡◌, ◌∙◌, sym, ap, refl, subst, ℕ, List, [], ◌∷◌, Bool, true, false, ◌⊎◌, inl, inr}
use Rattle.std.specs.Prelude.{Option, Some, None, not, ◌||◌}
use Rattle.amqp_model.specs.declared.item.Item.{Item}
use Rattle.amqp_conn.specs.declared.conn.Conn.{Conn}
use Rattle.book_model.specs.declared.act.Act.{Act}
use Rattle.book_model.specs.Book.{BookView, effects}
use Rattle.disk_core.specs.Twin.{Contents}
use Rattle.journal_store.specs.declared.store.Store.{Store}
use Rattle.journal_store.specs.Store.{OpensTo, IsSuited, book_of, count_of, batches_after, exceeds}
use Rattle.router_trace.specs.declared.binding.Binding.{Binding}
use Rattle.router_trace.specs.declared.event.Event.{Event}
use Rattle.router_trace.specs.declared.event.Event.TheVariants as event
use Rattle.router_trace.specs.Trace.{Entry, Out, Bound, Put, did, goes, each_to, puts, step_of}
use Rattle.router_trace.specs.Connection.{conn, due, standing, found}
use Rattle.router_trace.specs.Links.{free_handle, first_free_below}
use Rattle.router_trace.specs.Sessions.{free_channel}
use Rattle.router_trace.specs.Refusing.{refuses}
use Rattle.router_trace.specs.declared.condition.Condition.TheVariants.{ResourceLimitExceeded}
use Rattle.reply_rows.specs.Booking.{answer_at}
use Rattle.reply_rows.specs.Acts.{Journaled, live_answer, planned_acts, event_answer, finds_full, journaled, book_in, acts_of, booked, answer_by, answer_to_event}
use Rattle.reply_rows.specs.Admitting.{admits, event_admission}
use Rattle.router_reply.specs.Resuming.{resumed}
use Rattle.router_reply.specs.Replies.{closing_of, ends, heard, bound_by, own_row, replied}
use Rattle.state_messages.specs.Messages.{with_bound}
use Rattle.router_state.specs.declared.tables.State.{State}
use Rattle.router_state.specs.Tables.{TablesFit}
use Rattle.router_core.specs.Replies.{answered, handled}
use Rattle.core_machine.specs.Turns.{is_start, is_started, is_out_of_turn, declines}
use Rattle.router_core.specs.Handling.{Journals, Fits, with_admission, full_with, BeforeOrAfterEvent, kept_book, state_of}
use Rattle.router_core.specs.declared.router.Core.{Core}
use Rattle.router_core.proofs.Booking.{booked_same}
use Rattle.router_core.proofs.Committing.{chosen}
use Rattle.router_core.proofs.Copied.{copied_same}
use Rattle.router_core.proofs.Following.{all_keep}
use Rattle.router_core.proofs.Resuming.{resumed_same}

-- what doesn't look at items and bindings is after an event and its replies as it is after the event
module _ {A : Type 0} (view : List Entry → A) (out : (c : ℕ) (i : Item) (t : List Entry) → view (Out c i ∷ t) ≡ view t) (bound : (b : Binding) (t : List Entry) → view (Bound b ∷ t) ≡ view t) where
  view_goes : (ps : List Put) (t : List Entry) → view (goes ps t) ≡ view t
  view_goes [] t = refl
  view_goes (p ∷ ps) t = view_goes ps (Out p.conn p.item ∷ t) ∙ out p.conn p.item t

  view_ends : (id : List ℕ) (cs : List ℕ) (t : List Entry) → view (ends id cs t) ≡ view t
  view_ends id [] t = refl
  view_ends id (d ∷ ds) t =
      view_ends id ds (puts d (closing_of id (conn t d) ResourceLimitExceeded) t) ∙ view_goes (each_to d (closing_of id (conn t d) ResourceLimitExceeded)) t

  view_bound : (b : Option Binding) (t : List Entry) → view (with_bound b t) ≡ view t
  view_bound None t = refl
  view_bound (Some b) t = bound b t

  view_replied : (id : List ℕ) (t : List Entry) (e : Event) → view (replied id t (step_of e)) ≡ view (did e ∷ t)
  view_replied id t e =
      let u : List Entry = heard id t (step_of e)
      in copied_same view bound t u e (goes (own_row id t u e) (with_bound (bound_by t u e) u))
      ∙ view_goes (own_row id t u e) (with_bound (bound_by t u e) u) ∙ view_bound (bound_by t u e) u ∙ view_ends id (due t e) (did e ∷ t)

  pub view_answered : (id : List ℕ) (t : List Entry) (e : Event) → view (answered id t (step_of e)) ≡ view (did e ∷ t)
  view_answered id t e =
      all_keep (λ (u : List Entry). view u ≡ view (did e ∷ t)) (λ ps u h. view_goes ps u ∙ h) (resumed t e (replied id t (step_of e)))
      (resumed_same view bound t e (replied id t (step_of e)) ∙ view_replied id t e)

-- the journal after an event and its replies is that after its acts
journal_handled : (id : List ℕ) (t : List Entry) (e : Event) → journaled (booked t e) ≡ journaled (handled id t (step_of e))
journal_handled id t e = sym (view_answered journaled (λ c i u. refl) (λ x u. refl) id (booked t e) e)

pub journals_handled : {T : Type 0} (core : Core T) (id : List ℕ) (t : List Entry) (e : Event) → Journals core (booked t e) → Journals core (handled id t (step_of e))
journals_handled core id t e j = record {
  book = j.book ∙ ap (λ (x : Journaled). x.book) (journal_handled id t e);
  batches = j.batches ∙ ap (λ (x : Journaled). x.batches) (journal_handled id t e);
  suits = j.suits;
}

-- so does a router with the same store
pub journals_stored : {T : Type 0} (old new : Core T) (t : List Entry) → new.store ≡ old.store → Journals old t → Journals new t
journals_stored {T} old new t same j = record {
  book = ap (λ s. book_of s) same ∙ j.book;
  batches = ap (λ s. count_of s) same ∙ j.batches;
  suits = subst (λ (s : Store T). IsSuited s) (sym same) j.suits;
}

-- so does one of which the store alone is another one, with the same book and as many batches
pub fits_stored : {T : Type 0} (old new : Core T) (t : List Entry) → new ≡ record old { store = new.store } → kept_book new ≡ kept_book old → count_of new.store ≡ count_of old.store
    → (IsSuited old.store → IsSuited new.store) → Fits old t → Fits new t
fits_stored {T} old new t rest book count suits f = record {
  tables = subst (λ (s : State). TablesFit s t) (sym (ap (λ (core : Core T). core.state) rest)) f.tables;
  started = ap (λ (core : Core T). core.started) rest ∙ f.started;
  journal = record { book = book ∙ f.journal.book; batches = count ∙ f.journal.batches; suits = suits f.journal.suits };
}

-- tests of two things
or_first : (x y : Bool) → (x || y) ≡ false → x ≡ false
or_first false y is = refl
or_first true y is = is

or_second : (x y : Bool) → (x || y) ≡ false → y ≡ false
or_second false y is = is
or_second true y is = absurd cc

not_false : (x : Bool) → not x ≡ false → x ≡ true
not_false true is = refl
not_false false is = sym is

-- an event that isn't declined isn't refused
pub not_refused : (t : List Entry) (e : Event) → declines t e ≡ false → refuses t e ≡ false
not_refused t e taken = or_second (is_out_of_turn t e) (refuses t e) taken

-- after an event that isn't declined the router is started
in_turn : (t : List Entry) (e : Event) → is_out_of_turn t e ≡ false → (is_start e || is_started t) ≡ true
in_turn t (event.Up c p) is = not_false (is_started t) is
in_turn t (event.Item c i) is = not_false (is_started t) is
in_turn t (event.Down c) is = not_false (is_started t) is
in_turn t (event.Tick ms) is = not_false (is_started t) is
in_turn t event.Start is = refl

started_booked : (t : List Entry) (e : Event) → is_started (did e ∷ booked t e) ≡ is_started (did e ∷ t)
started_booked t e = ap (λ (b : Bool). is_start e || b) (booked_same is_started t e (λ acts. refl))

pub started_handled : (id : List ℕ) (t : List Entry) (e : Event) → declines t e ≡ false → is_started (handled id t (step_of e)) ≡ true
started_handled id t e taken =
    view_answered is_started (λ c i u. refl) (λ x u. refl) id (booked t e) e ∙ started_booked t e ∙ in_turn t e (or_first (is_out_of_turn t e) (refuses t e) taken)

-- the router agrees with the trace after an event
pub fits_handled : {T : Type 0} (new : Core T) (id : List ℕ) (t : List Entry) (e : Event) → declines t e ≡ false
    → TablesFit (state_of new) (handled id t (step_of e)) → new.started ≡ true → Journals new (booked t e) → Fits new (handled id t (step_of e))
fits_handled new id t e taken tables started journal = record {
  tables = tables;
  started = started ∙ sym (started_handled id t e taken);
  journal = journals_handled new id t e journal;
}

-- What is planned and admitted, by the journal that the router has, is the event's: its acts, and the answer to its item.
abbrev pub early_of : {T : Type 0} → Core T → List Entry → Event → Bool
early_of core t e = exceeds (kept_book core) (planned_acts false (kept_book core) t e)

pub acts_are : {T : Type 0} (core : Core T) (t : List Entry) (e : Event) → Journals core t
    → with_admission (early_of core t e) (kept_book core) (planned_acts (early_of core t e) (kept_book core) t e)
    (admits (kept_book core) (event_admission (kept_book core) t e (event_answer (early_of core t e) (kept_book core) t e))) ≡ acts_of t e
acts_are core t e f =
    ap (λ (x : BookView). with_admission (exceeds x (planned_acts false x t e)) x (planned_acts (exceeds x (planned_acts false x t e)) x t e)
    (admits x (event_admission x t e (event_answer (exceeds x (planned_acts false x t e)) x t e)))) f.book
    ∙ (chosen (book_in t) t e).acts

-- whether it finds the journal full
pub full_is : {T : Type 0} (core : Core T) (t : List Entry) (e : Event) → Journals core t
    → full_with (early_of core t e) (kept_book core) (planned_acts (early_of core t e) (kept_book core) t e)
    (admits (kept_book core) (event_admission (kept_book core) t e (event_answer (early_of core t e) (kept_book core) t e))) ≡ finds_full (journaled t) t e
full_is core t e f =
    ap (λ (x : BookView). full_with (exceeds x (planned_acts false x t e)) x (planned_acts (exceeds x (planned_acts false x t e)) x t e)
    (admits x (event_admission x t e (event_answer (exceeds x (planned_acts false x t e)) x t e)))) f.book
    ∙ (chosen (book_in t) t e).full

-- the answer to its item: it is the same after its acts
answer_after : (full : Bool) (b : BookView) (t : List Entry) (e : Event) (c : ℕ) (p : Conn) (i : Item) → answer_at full b t c p i ≡ answer_at full b (booked t e) c p i
unfolding free_handle first_free_below free_channel
answer_after full b t e c p i = sym (booked_same (λ (u : List Entry). answer_at full b u c p i) t e (λ acts. refl))

answer_found : (t : List Entry) (e : Event) → event_answer (finds_full (journaled t) t e) (book_in t) t e ≡ answer_to_event (booked t e) e
answer_found t (event.Item c i) =
    by (standing (found t e c.0)) ∙ ap (answer_by (booked t e) c.0 i) (sym (booked_same (λ (u : List Entry). standing (found u e c.0)) t e (λ acts. refl)))
  where
    e : Event
    e = event.Item c i

    by : (v : Option Conn) → live_answer (finds_full (journaled t) t e) (book_in t) t c.0 i v ≡ answer_by (booked t e) c.0 i v
    by None = refl
    by (Some p) = answer_after (finds_full (journaled t) t e) (book_in t) t e c.0 p i
answer_found t (event.Up c p) = refl
answer_found t (event.Down c) = refl
answer_found t (event.Tick ms) = refl
answer_found t event.Start = refl

pub answer_is : {T : Type 0} (core : Core T) (t : List Entry) (e : Event) → Journals core t → event_answer (early_of core t e) (kept_book core) t e ≡ answer_to_event (booked t e) e
answer_is core t e f =
    ap (λ (x : BookView). event_answer (exceeds x (planned_acts false x t e)) x t e) f.book
    ∙ (chosen (book_in t) t e).answer
    ∙ answer_found t e

-- the journal after an event's acts are written
pub journals_after : {T : Type 0} (old new : Core T) (t : List Entry) (e : Event) (acts : List Act) → Journals old t → acts ≡ acts_of t e
    → kept_book new ≡ effects (kept_book old) acts → count_of new.store ≡ batches_after (count_of old.store) acts → (IsSuited old.store → IsSuited new.store)
    → Journals new (booked t e)
journals_after old new t e acts j are book count suits = record {
  book = book ∙ ap (λ (x : BookView). effects x acts) j.book ∙ ap (effects (book_in t)) are;
  batches = count ∙ ap (λ (n : ℕ). batches_after n acts) j.batches ∙ ap (batches_after (journaled t).batches) are;
  suits = suits j.suits;
}

-- two files open to the book before the event or after it
pub before_or_after_event : {T : Type 0} (core : Core T) (t : List Entry) (e : Event) (acts : List Act) (contents : Contents) → Fits core t → acts ≡ acts_of t e
    → OpensTo contents (kept_book core) ⊎ OpensTo contents (effects (kept_book core) acts) → BeforeOrAfterEvent t e contents
before_or_after_event core t e acts contents f are (inl opens) = inl (subst (λ (b : BookView). OpensTo contents b) f.journal.book opens)
before_or_after_event core t e acts contents f are (inr opens) =
    inr (subst (λ (b : BookView). OpensTo contents b) (ap (λ (x : BookView). effects x acts) f.journal.book ∙ ap (effects (book_in t)) are) opens)
