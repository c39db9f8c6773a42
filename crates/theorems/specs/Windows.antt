-- The windows of sessions (AMQP 1.0 part 2, section 2.5.6).
use Rattle.std.specs.Prelude.{◌≤◌, ℕ, [], ◌∷◌, Option, Some, None}
use Rattle.amqp_model.specs.declared.perf.Perf.{Perf}
use Rattle.amqp_model.specs.declared.perf.Perf.TheVariants as perf
use Rattle.amqp_session.specs.Session.{Session, remote_window}
use Rattle.amqp_model.specs.declared.item.Item.{Item}
use Rattle.amqp_model.specs.declared.item.Item.TheVariants as item
use Rattle.router_trace.specs.Trace.{Trace, Did, Out, Took, Bound, Booked, Routed, Began}
use Rattle.router_trace.specs.Sessions.{session}

-- before each transfer put out the session's remote-incoming-window is at least 1 (2.5.6).
abbrev pub has_room : Option Session → Type 0
has_room None = ⊥
has_room (Some h) = 1 ≤ remote_window h

abbrev pub perf_keeps_window : Perf → ℕ → (ℕ → Option Session) → Type 0
perf_keeps_window (perf.Transfer x) own known = has_room (known own)
perf_keeps_window _ own known = Unit {0}

abbrev pub keeps_window : Item → (ℕ → Option Session) → Type 0
keeps_window (item.Frame sasl own body payload) known = perf_keeps_window body own known
keeps_window _ known = Unit {0}

abbrev pub WindowKept : Trace → Type 0
WindowKept [] = Unit {0}
WindowKept (Did s ∷ t) = WindowKept t
WindowKept (Out c i ∷ t) = keeps_window i (session t c) × WindowKept t
WindowKept (Took c n ∷ t) = WindowKept t
WindowKept (Bound b ∷ t) = WindowKept t
WindowKept (Booked acts full ∷ t) = WindowKept t
WindowKept (Routed passage ∷ t) = WindowKept t
WindowKept (Began g ∷ t) = WindowKept t
