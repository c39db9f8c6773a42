-- Time in a trace (AMQP 1.0 part 2, section 2.4.5): the current moment, what a peer's open says, and when an item was last put
-- out.
use Rattle.std.specs.Prelude.{ℕ, Bool, false, ◌==◌, if◌then◌else◌, [], ◌∷◌, Option, Some, None}
use Rattle.amqp_model.specs.declared.perf.Open.{Open}
use Rattle.amqp_model.specs.declared.perf.Perf.{Perf}
use Rattle.amqp_model.specs.declared.perf.Perf.TheVariants as perf
use Rattle.amqp_model.specs.declared.item.Item.{Item}
use Rattle.amqp_model.specs.declared.item.Item.TheVariants as item
use Rattle.amqp_conn.specs.Heartbeats.{is_due as is_beat_due}
use Rattle.router_trace.specs.declared.event.Event.{Event}
use Rattle.router_trace.specs.declared.event.Event.TheVariants as event
use Rattle.router_trace.specs.declared.terms.Terms.{Terms}
use Rattle.router_trace.specs.Routed.{passed_to, if_passed}
use Rattle.router_trace.specs.Trace.{Did, Out, Took, Bound, Booked, Routed, Began, Trace}
use Rattle.router_trace.specs.Sessions.{unless_close}

-- the current moment: that of the last tick, 0 before any
abbrev pub moment_at : Event → ℕ → ℕ
moment_at (event.Tick ms) now = ms
moment_at _ now = now

abbrev pub moment : Trace → ℕ
moment [] = 0
moment (Did s ∷ t) = moment_at s.event (moment t)
moment (Out c i ∷ t) = moment t
moment (Took c n ∷ t) = moment t
moment (Bound b ∷ t) = moment t
moment (Booked acts full ∷ t) = moment t
moment (Routed passage ∷ t) = moment t
moment (Began g ∷ t) = 0

-- what the peer's first open says; none if the connection is closed or lost
abbrev pub terms_of : Open → Terms
terms_of o = record { channel_max = o.channel_max; idle_time_out = o.idle_time_out }

abbrev pub first_terms : Open → Option Terms → Option Terms
first_terms o None = Some (terms_of o)
first_terms o (Some told) = Some told

abbrev pub terms_in : Perf → Option Terms → Option Terms
terms_in (perf.Open o) told = first_terms o told
terms_in _ told = told

abbrev pub terms_by : Item → Option Terms → Option Terms
terms_by (item.Frame sasl channel body payload) told = if sasl then told else terms_in body told
terms_by _ told = told

abbrev pub terms_at : Event → ℕ → Option Terms → Option Terms
terms_at (event.Item d i) c told = if d.0 == c then terms_by i told else told
terms_at (event.Down d) c told = if d.0 == c then None else told
terms_at _ c told = told

abbrev pub terms : Trace → ℕ → Option Terms
terms [] c = None
terms (Did s ∷ t) c = terms_at s.event c (terms t c)
terms (Out d i ∷ t) c = if d == c then unless_close i (terms t c) else terms t c
terms (Took d n ∷ t) c = terms t c
terms (Bound b ∷ t) c = terms t c
terms (Booked acts full ∷ t) c = terms t c
terms (Routed passage ∷ t) c = terms t c
terms (Began g ∷ t) c = None

-- the moment at which an item was last put out; none before any, and if the connection is closed or lost
abbrev pub written_at : Event → ℕ → Option ℕ → Option ℕ
written_at (event.Down d) c last = if d.0 == c then None else last
written_at _ c last = last

abbrev pub written : Trace → ℕ → Option ℕ
written [] c = None
written (Did s ∷ t) c = written_at s.event c (written t c)
written (Out d i ∷ t) c = if d == c then unless_close i (Some (moment t)) else written t c
written (Took d n ∷ t) c = written t c
written (Bound b ∷ t) c = written t c
written (Booked acts full ∷ t) c = written t c
written (Routed passage ∷ t) c = if_passed (λ i last. Some (moment t)) (passed_to passage c) (written t c)
written (Began g ∷ t) c = None

-- at this moment a heartbeat is due
abbrev pub needs_beat : Option Terms → Option ℕ → ℕ → Bool
needs_beat None last now = false
needs_beat (Some told) None now = false
needs_beat (Some told) (Some last) now = is_beat_due told.idle_time_out last now

-- the highest channel that the peer accepts
abbrev pub channel_max_of : Option Terms → ℕ
channel_max_of None = 65535
channel_max_of (Some told) = told.channel_max
