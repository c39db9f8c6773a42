-- What an item on a connection finds, in a trace.
use Rattle.std.specs.Prelude.{ℕ, Bool, List, Option, is_some}
use Rattle.router_trace.specs.Trace.{Trace}
use Rattle.router_trace.specs.Sessions.{place, free_channel, awaited}
use Rattle.router_trace.specs.Settling.{is_claimed}
use Rattle.router_trace.specs.Links.{link_place, free_handle}
use Rattle.router_trace.specs.Clocks.{terms, channel_max_of}
use Rattle.reply_rows.specs.Rows.{Finds}

-- the lowest channel that is free for a session of a connection
abbrev pub free_for : Trace → ℕ → Option ℕ
free_for t c = free_channel t c (channel_max_of (terms t c))

-- what an item on a connection finds
abbrev pub finds : Trace → ℕ → Finds
finds t c = record {
  places = place t c;
  free_channel = free_for t c;
  awaits = λ own. is_some (awaited t c own);
  links = link_place t c;
  free_handle = free_handle t c;
  claimed = is_claimed t c;
}
