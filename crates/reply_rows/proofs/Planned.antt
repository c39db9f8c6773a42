-- What is decided of an event, by what was found before it.
use Rattle.std.proofs.Common.{◌≡◌, ◌∙◌, ◌++◌, ap, refl, sym, subst, ℕ, Bool, true, false, List, [], ◌∷◌}
use Rattle.std.specs.Prelude.{Option, Some, None, map, option_map}
use Rattle.amqp_conn.specs.declared.conn.Conn.{Conn}
use Rattle.amqp_model.specs.declared.item.Item.{Item}
use Rattle.amqp_model.specs.declared.item.Item.TheVariants as item
use Rattle.amqp_model.specs.declared.perf.Perf.{Perf}
use Rattle.amqp_model.specs.declared.perf.Perf.TheVariants as perf
use Rattle.book_model.specs.declared.act.Act.{Act}
use Rattle.book_model.specs.declared.act.Decision.{Decision}
use Rattle.book_model.specs.declared.row.RowNumber.{RowNumber}
use Rattle.book_model.specs.Book.{BookView}
use Rattle.journal_store.specs.Acting.{event_acts as settled_acts}
use Rattle.journal_store.specs.Lost.{start_acts}
use Rattle.journal_store.specs.declared.acting.TerminusAct.{TerminusAct}
use Rattle.router_trace.specs.Trace.{Entry}
use Rattle.router_trace.specs.Connection.{due, phase_found}
use Rattle.router_trace.specs.Deliveries.{none_if_ended}
use Rattle.router_trace.specs.Sessions.{session_on}
use Rattle.router_trace.specs.declared.event.ConnectionId.{ConnectionId}
use Rattle.router_trace.specs.declared.event.Event.{Event}
use Rattle.router_trace.specs.declared.event.Event.TheVariants as event
use Rattle.router_state.specs.Finding.{IsFound}
use Rattle.router_state.specs.declared.finding.Found.{Found}
use Rattle.state_links.specs.declared.found.FoundLink.{FoundLink}
use Rattle.reply_rows.proofs.Landing.{takes_found}
use Rattle.reply_rows.specs.Booking.{TakesFound, TakesIn}
use Rattle.reply_rows.specs.declared.answer.Answer.{Answer}
use Rattle.reply_rows.specs.declared.answer.Answer.TheVariants.{Nothing}
use Rattle.state_deliveries.specs.Deciding.{decided_rows}
use Rattle.state_deliveries.specs.Hearing.{heard_change}
use Rattle.state_deliveries.specs.declared.change.Change.{Change}
use Rattle.state_links.specs.Fits.{channel_of}
use Rattle.reply_rows.specs.Acts.{answer_acts, event_answer, live_answer, planned_acts}
use Rattle.reply_rows.specs.Deciding.{as_kept, listed, lost, ended_by, session_found, event_changes, decided}
use Rattle.reply_rows.specs.Deciding.{forgotten, terminus_of_event}
use Rattle.reply_rows.specs.Planning.{IsChange, IsPlanAs, IsSession, NoItem}
use Rattle.reply_rows.specs.Resuming.{Resumes}
use Rattle.reply_rows.specs.declared.plan.Plan.{Plan}
use Rattle.reply_rows.specs.declared.attach.resuming.Resumption.{Resumption}

-- the session of an item, by the connections that its event ends first
pub found_as : (t : List Entry) (d : ConnectionId) (i : Item) (own : Option ℕ) (ends : List ℕ)
    → own ≡ none_if_ended ends d.0 (session_on t d.0 (channel_of i)) → ends ≡ due t (event.Item d i)
    → own ≡ session_found t d i
found_as t d i own ends is are_due = is
    ∙ ap (λ (es : List ℕ). none_if_ended es d.0 (session_on t d.0 (channel_of i))) are_due

-- the changes of deliveries that an item brings
pub changed_as : (t : List Entry) (d : ConnectionId) (i : Item) (a : Answer) (own : Option ℕ) (ends : List ℕ)
    (change ended : Option Change)
    → own ≡ session_found t d i → ends ≡ due t (event.Item d i) → change ≡ heard_change d.0 own i
    → listed ended ≡ ended_by t d.0 i a
    → listed change ++ map lost ends ++ listed ended ≡ event_changes t (event.Item d i) a
changed_as t d i a own ends change ended is_own are_due is_change is_ended =
    ap (λ (xs : List Change). listed change ++ map lost ends ++ xs) is_ended
    ∙ ap (λ (x : Option Change). listed x ++ map lost ends ++ ended_by t d.0 i a) is_change
    ∙ ap (λ (o : Option ℕ). listed (heard_change d.0 o i) ++ map lost ends ++ ended_by t d.0 i a) is_own
    ∙ ap (λ (es : List ℕ). listed (heard_change d.0 (session_found t d i) i) ++ map lost es
    ++ ended_by t d.0 i a) are_due

-- a transfer that is taken is taken on the link that was found
nothing_taken : (t : List Entry) (c : ℕ) (i : Item) (f : FoundLink) → TakesFound t c i f Nothing
nothing_taken t c (item.Frame true channel body payload) f = tt
nothing_taken t c (item.Frame false channel body payload) f = by body
  where
    by : (p : Perf) → TakesIn t c p f Nothing
    by (perf.Transfer x) = tt
    by _ = tt
nothing_taken t c _ f = tt

pub live_takes : (full : Bool) (b : BookView) (t : List Entry) (c : ℕ) (i : Item) (phase : Option Conn) (f : Found) → IsFound t c i f
    → TakesFound t c i f.link (live_answer full b t c i phase)
live_takes full b t c i None f found = nothing_taken t c i f.link
live_takes full b t c i (Some p) f found = takes_found full b t c p i f found

-- of an event that is no start, the acts are those of its answer
planned_is : (full : Bool) (b : BookView) (t : List Entry) (e : Event) → (e ≡ event.Start → ⊥) → answer_acts b t e (event_answer full b t e) ≡ planned_acts full b t e
planned_is full b t event.Start other = absurd (other refl)
planned_is full b t (event.Up c p) other = refl
planned_is full b t (event.Item c i) other = refl
planned_is full b t (event.Down c) other = refl
planned_is full b t (event.Tick ms) other = refl

acts_told : (full : Bool) (b given : BookView) (t : List Entry) (e : Event) (acts : List Act) (ds : List Decision) (ns : List RowNumber) (x : Option TerminusAct)
    → given ≡ b → (e ≡ event.Start → ⊥) → acts ≡ settled_acts b ds ns x → ds ≡ decided given t e (event_answer full given t e) → ns ≡ forgotten given t e (event_answer full given t e)
    → x ≡ terminus_of_event given t e (event_answer full given t e) → acts ≡ planned_acts full b t e
acts_told full b given t e acts ds ns x same other are ds_are ns_are x_is =
    are ∙ ap (λ (v : List Decision). settled_acts b v ns x) ds_are
    ∙ ap (λ (v : List RowNumber). settled_acts b (decided given t e (event_answer full given t e)) v x) ns_are
    ∙ ap (λ (v : Option TerminusAct). settled_acts b (decided given t e (event_answer full given t e)) (forgotten given t e (event_answer full given t e)) v) x_is
    ∙ ap (λ (g : BookView). settled_acts b (decided g t e (event_answer full g t e)) (forgotten g t e (event_answer full g t e)) (terminus_of_event g t e (event_answer full g t e))) same
    ∙ planned_is full b t e other

-- What is decided of an item, by the book that is given, which is the store's.
pub item_planned : (full : Bool) (ends : List ℕ) (b given : BookView) (t : List Entry) (d : ConnectionId) (i : Item) (p : Plan) (ds : List Decision) (ns : List RowNumber) (x : Option TerminusAct)
    → given ≡ b → p.full ≡ full → p.phase ≡ phase_found t (event.Item d i) → p.answer ≡ event_answer full given t (event.Item d i)
    → p.acts.items ≡ settled_acts b ds ns x → ds ≡ decided given t (event.Item d i) p.answer → ns ≡ forgotten given t (event.Item d i) p.answer
    → x ≡ terminus_of_event given t (event.Item d i) p.answer → Resumes given t (event.Item d i) p.answer p.resumption
    → IsSession t (event.Item d i) p.own → IsChange ends (event.Item d i) p.own p.change → p.consumer ≡ None → IsPlanAs full ends b t (event.Item d i) p
item_planned full ends b given t d i p ds ns x same is_full phase answer acts ds_are ns_are x_is resumed session change unchosen = record {
  full = is_full;
  phase = phase;
  answer = answer ∙ ap (λ (g : BookView). event_answer full g t (event.Item d i)) same;
  acts = acts_told full b given t (event.Item d i) p.acts.items ds ns x same (λ is. absurd cc) acts
      (ds_are ∙ ap (decided given t (event.Item d i)) answer) (ns_are ∙ ap (forgotten given t (event.Item d i)) answer)
      (x_is ∙ ap (terminus_of_event given t (event.Item d i)) answer);
  resumed = subst (λ (g : BookView). Resumes g t (event.Item d i) p.answer p.resumption) same resumed;
  session = session;
  change = change;
  unchosen = unchosen;
}

pub itemless_planned : (full : Bool) (ends : List ℕ) (b : BookView) (t : List Entry) (e : Event) (p : Plan) → NoItem e → p.full ≡ full → p.phase ≡ phase_found t e → p.answer ≡ Nothing
    → p.acts.items ≡ planned_acts full b t e → p.resumption ≡ None → p.consumer ≡ None → IsPlanAs full ends b t e p
itemless_planned full ends b t e p none is_full phase answer acts resumption unchosen = by e none phase acts
  where
    at : (e : Event) → event_answer full b t e ≡ Nothing → Resumes b t e Nothing None → IsSession t e p.own → IsChange ends e p.own p.change
        → p.phase ≡ phase_found t e → p.acts.items ≡ planned_acts full b t e → IsPlanAs full ends b t e p
    at e nothing resumed session change phase acts = record {
      full = is_full;
      phase = phase;
      answer = answer ∙ sym nothing;
      acts = acts;
      resumed = subst (λ (x : Option Resumption). Resumes b t e p.answer x) (sym resumption) (subst (λ (a : Answer). Resumes b t e a None) (sym answer) resumed);
      session = session;
      change = change;
      unchosen = unchosen;
    }

    by : (e : Event) → NoItem e → p.phase ≡ phase_found t e → p.acts.items ≡ planned_acts full b t e → IsPlanAs full ends b t e p
    by (event.Item d i) none phase acts = absurd (none d i refl)
    by (event.Up c x) none phase acts = at (event.Up c x) refl (record { key = refl; held = refl; map = refl; rows = refl }) tt tt phase acts
    by (event.Down c) none phase acts = at (event.Down c) refl (record { key = refl; held = refl; map = refl; rows = refl }) tt tt phase acts
    by (event.Tick ms) none phase acts = at (event.Tick ms) refl (record { key = refl; held = refl; map = refl; rows = refl }) tt tt phase acts
    by event.Start none phase acts = at event.Start refl (record { key = refl; held = refl; map = refl; rows = refl }) tt tt phase acts

-- the acts of the loss of a connection, and of an event that is neither an item, nor a loss, nor a start
pub lost_planned : (full : Bool) (b : BookView) (t : List Entry) (c : ConnectionId) (e : Event) (ends : List ℕ) (acts : List Act) → e ≡ event.Down c → ends ≡ due t e
    → acts ≡ settled_acts b (map as_kept (decided_rows t (listed (option_map lost (Some c.0)) ++ map lost ends)) ++ []) [] None → acts ≡ planned_acts full b t e
lost_planned full b t c e ends acts down are is = is
    ∙ ap (λ (es : List ℕ). settled_acts b (map as_kept (decided_rows t (lost c.0 ∷ map lost es)) ++ []) [] None) (are ∙ ap (due t) down)
    ∙ ap (planned_acts full b t) (sym down)

pub other_planned : (full : Bool) (b : BookView) (t : List Entry) (e : Event) (ends : List ℕ) (acts : List Act) → NoItem e → ((c : ConnectionId) → e ≡ event.Down c → ⊥) → (e ≡ event.Start → ⊥)
    → ends ≡ due t e → acts ≡ settled_acts b (map as_kept (decided_rows t (listed (option_map lost None) ++ map lost ends)) ++ []) [] None → acts ≡ planned_acts full b t e
other_planned full b t (event.Item d i) ends acts item loss start are is = absurd (item d i refl)
other_planned full b t (event.Down c) ends acts item loss start are is = absurd (loss c refl)
other_planned full b t event.Start ends acts item loss start are is = absurd (start refl)
other_planned full b t (event.Up c x) ends acts item loss start are is = is
    ∙ ap (λ (es : List ℕ). settled_acts b (map as_kept (decided_rows t (map lost es)) ++ []) [] None) are
other_planned full b t (event.Tick ms) ends acts item loss start are is = is
    ∙ ap (λ (es : List ℕ). settled_acts b (map as_kept (decided_rows t (map lost es)) ++ []) [] None) are

pub start_planned : (full : Bool) (b : BookView) (t : List Entry) (e : Event) (acts : List Act) → e ≡ event.Start → acts ≡ start_acts b → acts ≡ planned_acts full b t e
start_planned full b t e acts is are = are ∙ ap (planned_acts full b t) (sym is)
