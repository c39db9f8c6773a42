-- The flows that restore narrow windows (AMQP 1.0 part 2, section 2.5.6).
use Rattle.std.specs.Prelude.{ℕ, zero, suc, Bool, false, nat_le, if◌then◌else◌, List, [], ◌∷◌, ◌++◌, Option, Some, None}
use Rattle.amqp_session.specs.declared.window.Window.{Window}
use Rattle.amqp_session.specs.Session.{Session, allowance}
use Rattle.router_trace.specs.declared.channel.PeerChannel.{PeerChannel}
use Rattle.router_trace.specs.declared.channel.PeerChannel.TheVariants.{Mapped}
use Rattle.router_trace.specs.Trace.{Trace, Put}
use Rattle.router_trace.specs.Connection.{live}
use Rattle.router_trace.specs.Sessions.{session}
use Rattle.router_trace.specs.Frames.{flow_item, told_of}

-- the peer of a session may send so few transfers more that a flow is due: half of the window is used up
abbrev pub is_narrow : Session → Bool
is_narrow h = nat_le (allowance h) 1024

abbrev pub flow_due : ℕ → ℕ → Option Session → List Put
flow_due c o None = []
flow_due c o (Some h) = if is_narrow h then record { conn = c; item = flow_item o (told_of h) } ∷ [] else []

-- the flows that are due on a connection, by the router's channel, on channels below a number
unfoldable pub flows_below : ℕ → (ℕ → Option Session) → ℕ → List Put
flows_below c known zero = []
flows_below c known (suc n) = flows_below c known n ++ flow_due c n (known n)

-- the same of a window
abbrev pub is_narrow_window : Option Window → Bool
is_narrow_window None = false
is_narrow_window (Some w) = nat_le w.allowance 1024

abbrev pub is_narrow_at : Option PeerChannel → (ℕ → Option Window) → Bool
is_narrow_at (Some (Mapped own)) known = is_narrow_window (known own)
is_narrow_at _ known = false

-- all flows that are due, one for each session: by connection and by the router's channel
abbrev pub windows_over : Trace → List ℕ → List Put
windows_over t [] = []
windows_over t (c ∷ cs) = flows_below c (session t c) 15 ++ windows_over t cs

abbrev pub windows : Trace → List Put
windows t = windows_over t (live t)
