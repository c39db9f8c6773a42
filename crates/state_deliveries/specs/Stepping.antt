-- How ending links and dispositions change a delivery.
use Rattle.std.specs.Prelude.{◌≡◌, ℕ, Bool, false, ◌&&◌, ◌==◌, if◌then◌else◌, Option, Some, None, option_and_then}
use Rattle.amqp_session.specs.Ranges.{in_range}
use Rattle.amqp_model.specs.declared.perf.Disposition.{Disposition}
use Rattle.amqp_model.specs.declared.perf.Perf.{Perf}
use Rattle.amqp_model.specs.declared.perf.Perf.TheVariants as perf
use Rattle.amqp_model.specs.declared.perf.Role.{Role}
use Rattle.amqp_model.specs.declared.perf.Role.TheVariants.{Sender, Receiver}
use Rattle.router_trace.specs.declared.binding.Origin.{Origin}
use Rattle.router_trace.specs.declared.handle.Attachment.{Attachment}
use Rattle.router_trace.specs.Deliveries.{Delivery, source, unless_over, stands_on, untold, unsettled, is_undecided, is_gone_with, after_ends, last_of}
use Rattle.state_deliveries.specs.declared.change.Gone.{Gone}
use Rattle.state_deliveries.specs.declared.change.Gone.TheVariants as gone
use Rattle.state_deliveries.specs.declared.change.Change.{Change}
use Rattle.state_deliveries.specs.declared.change.Change.TheVariants as change

-- links that end
abbrev pub is_gone : Gone → Attachment → Bool
is_gone (gone.Link c o h) a = (a.conn.0 == c) && ((o == a.channel) && (h == a.handle))
is_gone (gone.Session c o) a = (a.conn.0 == c) && (o == a.channel)
is_gone (gone.Connection c) a = a.conn.0 == c

abbrev pub is_gone_from : Gone → Option Origin → Bool
is_gone_from g origin = is_gone_with (is_gone g) origin

-- a producer gave a delivery an id in this range, on a session
abbrev pub comes_with_id : Option Origin → ℕ → ℕ → ℕ → ℕ → Bool
comes_with_id None c o first last = false
comes_with_id (Some p) c o first last = stands_on p.link c o && in_range first last p.id

-- a delivery is undecided, and the router gave it an id in this range, on a session
abbrev pub is_in : Option ℕ → ℕ → ℕ → Bool
is_in None first last = false
is_in (Some id) first last = in_range first last id

abbrev pub is_decided_by : Delivery → ℕ → ℕ → ℕ → ℕ → Bool
is_decided_by d c o first last = is_undecided d && (stands_on d.link c o && is_in d.id first last)

abbrev pub changed : Change → Delivery → Delivery
changed (change.Ends g closed) d = after_ends closed (is_gone g) d
changed (change.Untold c o first last) d = if comes_with_id (source d) c o first last then untold d else d
changed (change.Told c o first last) d = if comes_with_id (source d) c o first last then unsettled d else d
changed (change.Decided c o first last made) d = if is_decided_by d c o first last then record d { outcome = Some made } else d

-- the immediate change to deliveries by a disposition that settles, and by what the router puts out
abbrev pub untold_by : ℕ → ℕ → Disposition → Option Change
untold_by c own x = if x.settled then Some (change.Untold c own x.first (last_of x)) else None

abbrev pub told_by : ℕ → ℕ → Disposition → Change
told_by c own x = if x.settled then change.Untold c own x.first (last_of x) else change.Told c own x.first (last_of x)

abbrev pub put_by : Role → ℕ → ℕ → Disposition → Option Change
put_by Sender c own x = None
put_by Receiver c own x = Some (told_by c own x)

abbrev pub put_change : ℕ → ℕ → Perf → Option Change
put_change c own (perf.Disposition x) = put_by x.role c own x
put_change c own (perf.Detach x) = Some (change.Ends (gone.Link c own x.handle) x.closed)
put_change c own (perf.End x) = Some (change.Ends (gone.Session c own) false)
put_change c own (perf.Close x) = Some (change.Ends (gone.Connection c) false)
put_change c own _ = None

-- the same of a delivery that may exist, and that is removed once it is over
abbrev pub step : Change → Delivery → Option Delivery
step x d = unless_over (changed x d)

abbrev pub after_change : Change → Option Delivery → Option Delivery
after_change x v = option_and_then (step x) v

abbrev pub after_any : Option Change → Option Delivery → Option Delivery
after_any None v = v
after_any (Some x) v = after_change x v

-- a delivery isn't over
abbrev pub IsKept : Option Delivery → Type 0
IsKept v = option_and_then unless_over v ≡ v
