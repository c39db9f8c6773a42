-- What happened on a session, newest first, and the figures that it gives (AMQP 1.0 part 2, section 2.5.6). Each figure is
-- looked up: the last value announced, and the transfers since.
use Rattle.std.specs.Prelude.{ℕ, Bool, true, false, ◌+◌, ◌-◌, ◌%◌, ◌^◌, ◌≤◌, List, [], ◌∷◌, count_by, if◌then◌else◌, unwrap_or}
use Rattle.amqp_session.specs.declared.states.BeginState.{BeginState}
use Rattle.amqp_session.specs.declared.states.FlowState.{FlowState}
use Rattle.amqp_session.specs.Serials.{distance}

-- begins, flows and transfers of this end and of the peer
pub data Happened : Type 0 where
  OurBegin : BeginState → Happened
  TheirBegin : BeginState → Happened
  OurFlow : FlowState → Happened
  TheirFlow : FlowState → Happened
  OurTransfer : Happened
  TheirTransfer : Happened

abbrev pub Session : Type 0
Session = List Happened

abbrev pub is_our_transfer : Happened → Bool
is_our_transfer OurTransfer = true
is_our_transfer _ = false

abbrev pub is_their_transfer : Happened → Bool
is_their_transfer TheirTransfer = true
is_their_transfer _ = false

-- the events after the newest one that passes the test
abbrev pub since : (Happened → Bool) → Session → Session
since tells [] = []
since tells (h ∷ t) = if tells h then [] else h ∷ since tells t

-- The id of this end's next transfer: the first one that its begin gave, and one more for each transfer since.
abbrev pub is_our_begin : Happened → Bool
is_our_begin (OurBegin b) = true
is_our_begin _ = false

abbrev pub first_outgoing : Session → ℕ
first_outgoing [] = 0
first_outgoing (OurBegin b ∷ t) = b.next_outgoing
first_outgoing (_ ∷ t) = first_outgoing t

abbrev pub next_outgoing : Session → ℕ
next_outgoing t = (first_outgoing t + count_by is_our_transfer (since is_our_begin t)) % 2 ^ 32

-- The id of the peer's next transfer: the one that it gave last, by its begin or a flow, and one more for each of its
-- transfers since.
abbrev pub tells_id : Happened → Bool
tells_id (TheirBegin b) = true
tells_id (TheirFlow f) = true
tells_id _ = false

abbrev pub id_told : Session → ℕ
id_told [] = 0
id_told (TheirBegin b ∷ t) = b.next_outgoing
id_told (TheirFlow f ∷ t) = f.next_outgoing
id_told (_ ∷ t) = id_told t

abbrev pub next_incoming : Session → ℕ
next_incoming t = (id_told t + count_by is_their_transfer (since tells_id t)) % 2 ^ 32

-- The remote-incoming-window, which is how many transfers this end may still send: that of the peer's begin, or that of its
-- last flow less the transfers that it didn't have then (from its next-incoming-id, or from this end's first id where
-- it knows none, to this end's next one); less the transfers since.
abbrev pub window_told : Session → ℕ
window_told [] = 0
window_told (TheirBegin b ∷ t) = b.incoming_window
window_told (TheirFlow f ∷ t) = f.incoming_window - distance (unwrap_or f.next_incoming (first_outgoing t)) (next_outgoing t)
window_told (_ ∷ t) = window_told t

abbrev pub remote_window : Session → ℕ
remote_window t = window_told t - count_by is_our_transfer (since tells_id t)

-- How many transfers the peer may still send: the window of this end's begin or last flow, less its transfers since. What
-- the peer announces has no part in it.
abbrev pub tells_allowance : Happened → Bool
tells_allowance (OurBegin b) = true
tells_allowance (OurFlow f) = true
tells_allowance _ = false

abbrev pub allowance_told : Session → ℕ
allowance_told [] = 0
allowance_told (OurBegin b ∷ t) = b.incoming_window
allowance_told (OurFlow f ∷ t) = f.incoming_window
allowance_told (_ ∷ t) = allowance_told t

abbrev pub allowance : Session → ℕ
allowance t = allowance_told t - count_by is_their_transfer (since tells_allowance t)

-- The window is respected: before each transfer of this end the remote window was at least 1.
abbrev pub WindowKept : Session → Type 0
WindowKept [] = Unit {0}
WindowKept (OurTransfer ∷ t) = (1 ≤ remote_window t) × WindowKept t
WindowKept (_ ∷ t) = WindowKept t
