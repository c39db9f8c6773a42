-- What the router decides of an event before anything is done.
use Rattle.std.specs.Prelude.{◌≡◌, ℕ, Bool, false, List, Option, None}
use Rattle.amqp_model.specs.declared.item.Item.{Item}
use Rattle.book_model.specs.Book.{BookView}
use Rattle.journal_store.specs.Store.{exceeds}
use Rattle.router_trace.specs.declared.event.ConnectionId.{ConnectionId}
use Rattle.router_trace.specs.declared.event.Event.{Event}
use Rattle.router_trace.specs.declared.event.Event.TheVariants as event
use Rattle.router_trace.specs.Trace.{Trace}
use Rattle.router_trace.specs.Connection.{due, phase_found}
use Rattle.router_trace.specs.Deliveries.{none_if_ended}
use Rattle.router_trace.specs.Sessions.{session_on}
use Rattle.state_deliveries.specs.Hearing.{heard_change}
use Rattle.state_deliveries.specs.declared.change.Change.{Change}
use Rattle.state_links.specs.Fits.{channel_of}
use Rattle.reply_rows.specs.Acts.{event_answer, planned_acts}
use Rattle.reply_rows.specs.Resuming.{Resumes, key_held, key_resumed, rows_resumed}
use Rattle.reply_rows.specs.declared.plan.Plan.{Plan}

-- the session of an event's item, and what the item changes of deliveries at once, by an event that ends these connections first
abbrev pub IsSession : Trace → Event → Option ℕ → Type 0
IsSession t (event.Item d i) own = own ≡ session_on t d.0 (channel_of i)
IsSession t _ own = Unit {0}

abbrev pub IsChange : List ℕ → Event → Option ℕ → Option Change → Type 0
IsChange ends (event.Item d i) own change = change ≡ heard_change d.0 (none_if_ended ends d.0 own) i
IsChange ends _ own change = Unit {0}

-- an event that is no item
abbrev pub NoItem : Event → Type 0
NoItem e = (d : ConnectionId) (i : Item) → e ≡ event.Item d i → ⊥

-- what is decided of an event that ends these connections first, if it finds the journal full, or finds room
pub record IsPlanAs (finds : Bool) (ends : List ℕ) (b : BookView) (t : Trace) (e : Event) (p : Plan) : Type 0 where
  pub full : p.full ≡ finds
  pub phase : p.phase ≡ phase_found t e
  pub answer : p.answer ≡ event_answer finds b t e
  pub acts : p.acts.items ≡ planned_acts finds b t e
  pub resumed : Resumes b t e p.answer p.resumption
  pub session : IsSession t e p.own
  pub change : IsChange ends e p.own p.change
  pub unchosen : p.consumer ≡ None

-- It finds the journal full if the acts that it would have with room are too much. An admission isn't among them.
abbrev pub is_full_early : BookView → Trace → Event → Bool
is_full_early b t e = exceeds b (planned_acts false b t e)

-- what is decided of an event
pub record IsPlan (b : BookView) (t : Trace) (e : Event) (p : Plan) : Type 0 where
  pub ends : p.ends.items ≡ due t e
  pub rest : IsPlanAs (is_full_early b t e) (due t e) b t e p

-- The router's map was told, and is no longer in the plan; all else that it takes up again is.
pub record HasTold (old new : Plan) : Type 0 where
  pub ends : new.ends ≡ old.ends
  pub key : key_resumed new.resumption ≡ key_resumed old.resumption
  pub held : key_held new.resumption ≡ key_held old.resumption
  pub rows : rows_resumed new.resumption ≡ rows_resumed old.resumption
