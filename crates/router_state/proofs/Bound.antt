-- A binding changes only the table `messages`, and a take from an outbox doesn't change that; a batch of the journal changes no table.
use Rattle.std.proofs.Common.{◌≡◌, ◌∙◌, ℕ, Bool, true, false, ap, sym, refl, Option, Some, None, ◌∷◌, List}
use Rattle.std.specs.Prelude.{if◌then◌else◌}
use Rattle.std.proofs.lemmas.Bool.{eqb-true}
use Rattle.amqp_model.specs.declared.item.Item.{Item}
use Rattle.router_trace.specs.declared.binding.Binding.{Binding}
use Rattle.book_model.specs.declared.act.Act.{Act}
use Rattle.router_trace.specs.Trace.{Trace, Took, Booked}
use Rattle.router_trace.specs.Links.{link_place}
use Rattle.router_trace.specs.Connection.{has}
use Rattle.router_trace.specs.Deliveries.{none_if_ended, ended_first, channels_found}
use Rattle.router_trace.specs.Sessions.{is_channel, maps, theirs}
use Rattle.router_trace.specs.Settling.{part_at, part_of}
use Rattle.state_messages.specs.declared.messages.Messages.{Messages}
use Rattle.state_messages.specs.Fits.{MessagesFit}
use Rattle.state_messages.specs.Messages.{with_bound}
use Rattle.state_messages.proofs.Quiet.{taken_fits, booked_fits as messages_booked}
use Rattle.router_state.specs.declared.tables.State.{State}
use Rattle.router_state.specs.Tables.{TablesFit}

pub messages_taken : (s : Messages) (d k : ℕ) (t : Trace) → MessagesFit s t → MessagesFit s (Took d k ∷ t)
messages_taken s d k t old = taken_fits s d k t old

pub bound_fits : (s : State) (new : Messages) (t : Trace) (b : Option Binding) → TablesFit s t → MessagesFit new (with_bound b t)
    → TablesFit (record s { messages = new }) (with_bound b t)
bound_fits s new t None fit p = record {
  connections = fit.connections;
  ready = fit.ready;
  clocks = fit.clocks;
  peers = fit.peers;
  sessions = fit.sessions;
  messages = p;
}
bound_fits s new t (Some b) fit p = record {
  connections = record { rows = fit.connections.rows; live = fit.connections.live; last = fit.connections.last; rise = fit.connections.rise; roomy = fit.connections.roomy };
  ready = fit.ready;
  clocks = record { moment = fit.clocks.moment; terms = fit.clocks.terms; written = fit.clocks.written };
  peers = record { users = fit.peers.users; containers = fit.peers.containers };
  sessions = record {
    rows = record { offered = fit.sessions.rows.offered; awaited = fit.sessions.rows.awaited; answered = fit.sessions.rows.answered; theirs = fit.sessions.rows.theirs; windows = fit.sessions.rows.windows };
    marks = fit.sessions.marks;
  };
  messages = p;
}

pub booked_fits : (s : State) (acts : List Act) (full : List ℕ) (t : Trace) → TablesFit s t → TablesFit s (Booked acts full ∷ t)
booked_fits s acts full t fit = record {
  connections = record { rows = fit.connections.rows; live = fit.connections.live; last = fit.connections.last; rise = fit.connections.rise; roomy = fit.connections.roomy };
  ready = fit.ready;
  clocks = record { moment = fit.clocks.moment; terms = fit.clocks.terms; written = fit.clocks.written };
  peers = record { users = fit.peers.users; containers = fit.peers.containers };
  sessions = record {
    rows = record { offered = fit.sessions.rows.offered; awaited = fit.sessions.rows.awaited; answered = fit.sessions.rows.answered; theirs = fit.sessions.rows.theirs; windows = fit.sessions.rows.windows };
    marks = fit.sessions.marks;
  };
  messages = messages_booked s.messages acts full t fit.messages;
}

-- what a transfer makes of its delivery, on the session of this channel
pub part_on_session : (t : Trace) (c : ℕ) (own : Option ℕ) (i : Item) (o : ℕ) → is_channel own o ≡ true → part_at t c own i ≡ part_of i (link_place t c o)
part_on_session t c None i o e = absurd cc
part_on_session t c (Some k) i o e = ap (λ q. part_of i (link_place t c q)) (eqb-true k o e)

-- the session of an item as the event finds it, which ended these connections first
pub found_on_session : (t : Trace) (c channel : ℕ) (own found : Option ℕ) (ends : List ℕ) → ((o : ℕ) → is_channel own o ≡ maps (theirs t c channel) o) → ended_first t ≡ ends
    → found ≡ none_if_ended ends c own → (o : ℕ) → is_channel found o ≡ maps (channels_found t c channel) o
found_on_session t c channel own found ends on first is o =
    ap (λ (v : Option ℕ). is_channel v o) is ∙ by (has c ends) ∙ sym (ap (λ (ks : List ℕ). maps (none_if_ended ks c (theirs t c channel)) o) first)
  where
    by : (b : Bool) → is_channel (if b then None else own) o ≡ maps (if b then None else theirs t c channel) o
    by true = refl
    by false = on o
