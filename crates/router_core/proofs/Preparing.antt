-- What is planned and admitted for an event is what its acts are.
use Rattle.std.proofs.Common.{◌≡◌, ◌∙◌, ap, refl, sym, subst, ℕ, List, [], ◌∷◌, length, Bool, true, false, arith}
use Rattle.std.specs.Prelude.{Option, Some, None, ◌==◌}
use Rattle.std.proofs.lemmas.Bool.Decides.{nat_tests}
use Rattle.amqp_model.specs.declared.item.Item.{Item}
use Rattle.amqp_model.specs.declared.item.Item.TheVariants as item
use Rattle.amqp_model.specs.declared.perf.Attach.{Attach as AnAttach}
use Rattle.amqp_model.specs.declared.perf.Perf.TheVariants as perf
use Rattle.amqp_conn.specs.declared.conn.Conn.{Conn}
use Rattle.book_model.specs.declared.act.Act.{Act}
use Rattle.book_model.specs.declared.act.Admission.{Admission}
use Rattle.book_model.specs.Book.{BookView}
use Rattle.journal_store.specs.Store.{exceeds}
use Rattle.router_trace.specs.declared.event.ConnectionId.{ConnectionId}
use Rattle.router_trace.specs.declared.event.Event.{Event}
use Rattle.router_trace.specs.declared.event.Event.TheVariants as event
use Rattle.router_trace.specs.Trace.{Entry, Booked, did}
use Rattle.router_trace.specs.Connection.{due, standing, found}
use Rattle.router_trace.specs.Deliveries.{giving, giving_of}
use Rattle.router_trace.specs.Sessions.{theirs, maps}
use Rattle.state_links.specs.Fits.{channel_of}
use Rattle.reply_rows.specs.declared.answer.Answer.{Answer}
use Rattle.reply_rows.specs.declared.answer.Answer.TheVariants.{Taken}
use Rattle.reply_rows.specs.Booking.{answer_at}
use Rattle.reply_rows.proofs.Mapped.{IsHere, answer_here}
use Rattle.router_reply.specs.declared.heard.Heard.{Heard}
use Rattle.reply_rows.specs.Acts.{event_answer, live_answer, planned_acts, acts_of, book_found, finds_full, journaled}
use Rattle.reply_rows.specs.Admitting.{answer_admission, taken_admission, part_admission, unless_ends, event_admission, admits, without_acts, ChoseUnlessEnds}
use Rattle.router_reply.specs.Heard.{ItemHeard, IsHeard}
use Rattle.reply_rows.specs.Planning.{IsSession}
use Rattle.router_core.specs.declared.router.Core.{Core}
use Rattle.router_state.specs.declared.tables.State.{State}
use Rattle.reply_rows.specs.declared.plan.Plan.{Plan}
use Rattle.reply_rows.specs.Resuming.{Resumes}
use Rattle.router_core.specs.Handling.{IsReady, Journals, TakenHere, TakenIn, within, with_admission, full_with, kept_book}
use Rattle.router_core.proofs.Books.{early_of, acts_are, full_is}
use Rattle.router_core.proofs.Committing.{none_kept}

pub none_ended : (ends : List ℕ) → (length ends == 0) ≡ true → ends ≡ []
none_ended [] is = refl
none_ended (c ∷ cs) is = absurd (grind (arith, nat_tests, is))

-- what an item admits, by what was heard of it
taken_here : (here : ℕ → Bool) (a : Answer) → IsHere here a → TakenHere here a
taken_here here (Taken own handle) is = is
taken_here here _ is = tt

pub taken_in : (full : Bool) (b : BookView) (t : List Entry) (e : Event) → TakenIn t e (event_answer full b t e)
taken_in full b t (event.Item d i) = by (standing (found t (event.Item d i) d.0))
  where
    by : (v : Option Conn) → TakenHere (maps (theirs t d.0 (channel_of i))) (live_answer full b t d.0 i v)
    by None = tt
    by (Some p) = taken_here (maps (theirs t d.0 (channel_of i))) (answer_at full b t d.0 p i) (answer_here full b p t d.0 i)
taken_in full b t (event.Up c p) = tt
taken_in full b t (event.Down c) = tt
taken_in full b t (event.Tick ms) = tt
taken_in full b t event.Start = tt

item_part : (b : BookView) (t after : List Entry) (d : ConnectionId) (i : Item) (a : Answer) (h : Heard) → ItemHeard t d i a h → TakenHere (maps (theirs t d.0 (channel_of i))) a
    → answer_admission b after d.0 a h.part ≡ taken_admission b t after d.0 i a
item_part b t after d i (Taken own handle) h heard here = ap (part_admission b after d.0 own handle) (heard.part own here)
item_part b t after d i _ h heard here = refl

pub item_admits : (b given : BookView) (t : List Entry) (e : Event) (d : ConnectionId) (i : Item) (a : Answer) (h : Heard) (ends : List ℕ) (found : Option Admission)
    → given ≡ b → e ≡ event.Item d i → ends ≡ due t e → ends ≡ [] → IsHeard t e a h → TakenIn t e a → found ≡ answer_admission given (without_acts t e) d.0 a h.part
    → admits b found ≡ admits b (event_admission b t e a)
item_admits b given t e d i a h ends found same is are none =
    subst (λ (x : Event). due t x ≡ [] → IsHeard t x a h → TakenIn t x a → found ≡ answer_admission given (without_acts t x) d.0 a h.part → admits b found ≡ admits b (event_admission b t x a))
    (sym is) by (sym are ∙ none)
  where
    f : Event
    f = event.Item d i

    by : due t (event.Item d i) ≡ [] → ItemHeard t d i a h → TakenHere (maps (theirs t d.0 (channel_of i))) a → found ≡ answer_admission given (without_acts t (event.Item d i)) d.0 a h.part
        → admits b found ≡ admits b (unless_ends (due t (event.Item d i)) (taken_admission b t (without_acts t (event.Item d i)) d.0 i a))
    by free heard here told =
        ap (admits b) (told ∙ ap (λ (g : BookView). answer_admission g (without_acts t (event.Item d i)) d.0 a h.part) same ∙ item_part b t (without_acts t (event.Item d i)) d i a h heard here)
        ∙ ap (λ (cs : List ℕ). admits b (unless_ends cs (taken_admission b t (without_acts t (event.Item d i)) d.0 i a))) (sym free)

pub itemless_admits : (b : BookView) (t : List Entry) (e : Event) (a : Answer) → ((d : ConnectionId) (i : Item) → e ≡ event.Item d i → ⊥) → admits b (event_admission b t e a) ≡ []
itemless_admits b t (event.Item d i) a other = absurd (other d i refl)
itemless_admits b t (event.Up c p) a other = refl
itemless_admits b t (event.Down c) a other = refl
itemless_admits b t (event.Tick ms) a other = refl
itemless_admits b t event.Start a other = refl

-- all of it together
pub prepared : {T : Type 0} (core : Core T) (t : List Entry) (e : Event) (full : Bool) (a : Answer) (planned acts : List Act) → Journals core t → full ≡ early_of core t e
    → a ≡ event_answer full (kept_book core) t e → planned ≡ planned_acts full (kept_book core) t e
    → acts ≡ with_admission full (kept_book core) planned (admits (kept_book core) (event_admission (kept_book core) t e a)) → acts ≡ acts_of t e
prepared core t e full a planned acts f early answered are told =
    told
    ∙ ap (λ (xs : List Act). with_admission full (kept_book core) xs (admits (kept_book core) (event_admission (kept_book core) t e a))) are
    ∙ ap (λ (x : Answer). with_admission full (kept_book core) (planned_acts full (kept_book core) t e) (admits (kept_book core) (event_admission (kept_book core) t e x))) answered
    ∙ ap (λ (b : Bool). with_admission b (kept_book core) (planned_acts b (kept_book core) t e)
    (admits (kept_book core) (event_admission (kept_book core) t e (event_answer b (kept_book core) t e)))) early
    ∙ acts_are core t e f

-- and whether it finds the journal full
pub found_full : {T : Type 0} (core : Core T) (t : List Entry) (e : Event) (full : Bool) (a : Answer) (planned : List Act) (found : Bool) → Journals core t → full ≡ early_of core t e
    → a ≡ event_answer full (kept_book core) t e → planned ≡ planned_acts full (kept_book core) t e
    → found ≡ full_with full (kept_book core) planned (admits (kept_book core) (event_admission (kept_book core) t e a)) → found ≡ finds_full (journaled t) t e
found_full core t e full a planned found f early answered are told =
    told
    ∙ ap (λ (xs : List Act). full_with full (kept_book core) xs (admits (kept_book core) (event_admission (kept_book core) t e a))) are
    ∙ ap (λ (x : Answer). full_with full (kept_book core) (planned_acts full (kept_book core) t e) (admits (kept_book core) (event_admission (kept_book core) t e x))) answered
    ∙ ap (λ (b : Bool). full_with b (kept_book core) (planned_acts b (kept_book core) t e)
    (admits (kept_book core) (event_admission (kept_book core) t e (event_answer b (kept_book core) t e)))) early
    ∙ full_is core t e f

-- What is planned for an attach is all that it does, since it admits nothing.
nothing_within : (over : Bool) → within over [] ≡ []
nothing_within true = refl
nothing_within false = refl

nothing_with : (full : Bool) (b : BookView) (acts : List Act) → with_admission full b acts [] ≡ acts
nothing_with true b acts = refl
nothing_with false b [] = nothing_within (exceeds b [])
nothing_with false b (act ∷ acts) = refl

attach_admits : (b : BookView) (t after : List Entry) (c : ℕ) (sasl : Bool) (channel : ℕ) (x : AnAttach) (payload : List ℕ) (a : Answer)
    → taken_admission b t after c (item.Frame sasl channel (perf.Attach x) payload) a ≡ None
attach_admits b t after c true channel x payload (Taken own handle) = refl
attach_admits b t after c false channel x payload (Taken own handle) = refl
attach_admits b t after c true channel x payload _ = refl
attach_admits b t after c false channel x payload _ = refl

attach_all : (full : Bool) (b : BookView) (t : List Entry) (c : ConnectionId) (sasl : Bool) (channel : ℕ) (x : AnAttach) (payload : List ℕ) (a : Answer) (acts : List Act)
    → with_admission full b acts (admits b (event_admission b t (event.Item c (item.Frame sasl channel (perf.Attach x) payload)) a)) ≡ acts
attach_all full b t c sasl channel x payload a acts =
    ap (λ (o : Option Admission). with_admission full b acts (admits b (unless_ends (due t e) o))) (attach_admits b t (without_acts t e) c.0 sasl channel x payload a)
    ∙ ap (λ (o : Option Admission). with_admission full b acts (admits b o)) (none_kept (due t e))
    ∙ nothing_with full b acts
  where
    e : Event
    e = event.Item c (item.Frame sasl channel (perf.Attach x) payload)

-- so with an admission the acts give deliveries the outcomes that the planned ones give
item_gives : (full : Bool) (b : BookView) (t : List Entry) (c : ConnectionId) (i : Item) (a : Answer) (acts : List Act)
    → giving i acts ≡ giving i (with_admission full b acts (admits b (event_admission b t (event.Item c i) a)))
item_gives full b t c (item.Frame sasl channel (perf.Attach x) payload) a acts =
    ap (giving (item.Frame sasl channel (perf.Attach x) payload)) (sym (attach_all full b t c sasl channel x payload a acts))
item_gives full b t c (item.Frame sasl channel _ payload) a acts = refl
item_gives full b t c _ a acts = refl

event_gives : (full : Bool) (b : BookView) (t : List Entry) (e : Event) (a : Answer) (acts : List Act) → giving_of e acts ≡ giving_of e (with_admission full b acts (admits b (event_admission b t e a)))
event_gives full b t (event.Item c i) a acts = item_gives full b t c i a acts
event_gives full b t _ a acts = refl

pub gives : {T : Type 0} (core : Core T) (t : List Entry) (e : Event) (full : Bool) (a : Answer) (planned : List Act) → Journals core t → full ≡ early_of core t e
    → a ≡ event_answer full (kept_book core) t e → planned ≡ planned_acts full (kept_book core) t e → giving_of e planned ≡ giving_of e (acts_of t e)
gives core t e full a planned f early answered are =
    event_gives full (kept_book core) t e a planned
    ∙ ap (giving_of e)
    (prepared core t e full a planned (with_admission full (kept_book core) planned (admits (kept_book core) (event_admission (kept_book core) t e a))) f early answered are refl)

-- the session of an event's item is the same after acts
pub session_after : (t : List Entry) (e : Event) (own : Option ℕ) → IsSession t e own → (acts : List Act) (full : List ℕ) → IsSession (Booked acts full ∷ t) e own
session_after t (event.Item d i) own is acts full = is
session_after t _ own is acts full = tt

-- what is ready for an answer is so without the plan's acts
pub ready_without : (s : State) (t : List Entry) (e : Event) (p q : Plan) (h : Heard) → q ≡ record p { acts = q.acts } → IsReady s t e p h → IsReady s t e q h
ready_without s t e p q h same ready = record {
  tables = ready.tables;
  ends = ap (λ (x : Plan). x.ends.items) same ∙ ready.ends;
  phase = ap (λ (x : Plan). x.phase) same ∙ ready.phase;
  answer = ap (λ (x : Plan). x.answer) same ∙ ready.answer;
  heard = subst (λ (a : Answer). IsHeard t e a h) (sym (ap (λ (x : Plan). x.answer) same)) ready.heard;
  resumed = subst (λ (x : Plan). Resumes (book_found t) t e x.answer x.resumption) (sym same) ready.resumed;
  chosen = subst (λ (x : Plan). ChoseUnlessEnds x.ends.items (did e ∷ t) e x.answer x.consumer) (sym same) ready.chosen;
}
