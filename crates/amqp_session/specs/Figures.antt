-- A window's figures are those of what happened on its session.
use Rattle.std.specs.Prelude.{◌≡◌, ◌<◌, ℕ, ◌+◌, ◌-◌, ◌%◌, ◌^◌, nat_eq, if◌then◌else◌, unwrap_or}
use Rattle.amqp_session.specs.declared.states.BeginState.{BeginState}
use Rattle.amqp_session.specs.declared.states.FlowState.{FlowState}
use Rattle.amqp_session.specs.Serials.{distance}
use Rattle.amqp_session.specs.declared.window.Window.{Window}
use Rattle.amqp_session.specs.Session as session
use Rattle.amqp_session.specs.Session.{Session}

pub record Fits (w : Window) (t : Session) : Type 0 where
  pub first_outgoing : w.first_outgoing ≡ session.first_outgoing t
  pub next_outgoing : w.next_outgoing ≡ session.next_outgoing t
  pub next_incoming : w.next_incoming ≡ session.next_incoming t
  pub remote_window : w.remote_window ≡ session.remote_window t
  pub allowance : w.allowance ≡ session.allowance t

-- a transfer may be sent
abbrev pub CanSend : Window → Type 0
CanSend w = 0 < w.remote_window

-- the window that has the figures of this list; each list has one alone
abbrev pub window_of : Session → Window
window_of t = record {
  first_outgoing = session.first_outgoing t;
  next_outgoing = session.next_outgoing t;
  next_incoming = session.next_incoming t;
  remote_window = session.remote_window t;
  allowance = session.allowance t;
}

-- What becomes of a window's figures, for a table of windows: that of a session that both ends begin, ...
abbrev pub begun : BeginState → BeginState → Window
begun ours asked = record {
  first_outgoing = ours.next_outgoing;
  next_outgoing = ours.next_outgoing % 2 ^ 32;
  next_incoming = asked.next_outgoing % 2 ^ 32;
  remote_window = asked.incoming_window;
  allowance = ours.incoming_window;
}

-- ... after a flow of the peer, ...
abbrev pub after_their_flow : FlowState → Window → Window
after_their_flow f w = record w {
  remote_window = f.incoming_window - distance (unwrap_or f.next_incoming w.first_outgoing) w.next_outgoing;
  next_incoming = f.next_outgoing % 2 ^ 32;
}

-- ... a transfer of the peer, which doesn't count on the session beyond what the peer may send, ...
abbrev pub after_their_transfer : Window → Window
after_their_transfer w =
    if nat_eq w.allowance 0 then w else record w { next_incoming = (w.next_incoming + 1) % 2 ^ 32; allowance = w.allowance - 1 }

-- ... a flow of this end, and a transfer of it
abbrev pub after_our_flow : ℕ → Window → Window
after_our_flow allowance w = record w { allowance = allowance }

abbrev pub after_our_transfer : Window → Window
after_our_transfer w = record w { next_outgoing = (w.next_outgoing + 1) % 2 ^ 32; remote_window = w.remote_window - 1 }
