-- Which links' drains are due.
use Rattle.std.specs.Prelude.{ℕ, Option}
use Rattle.router_trace.specs.declared.handle.Attachment.{Attachment}
use Rattle.router_trace.specs.Trace.{Trace}
use Rattle.router_trace.specs.Links.{numbered}
use Rattle.router_trace.specs.Following.{place_drained}

-- the place of each link whose drain is due
abbrev pub drains_at : Trace → ℕ → Option Attachment
drains_at t n = place_drained t n (numbered t n)
