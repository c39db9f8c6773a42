-- The links of a table, and the state that a view's history gives them.
use Rattle.std.specs.Prelude.{ℕ, Bool, false, not, ◌&&◌, nat_le, if◌then◌else◌, List, length, Option, Some, None, unwrap_or}
use Rattle.arrayvec.specs.ArrayVec.{ArrayVec}
use Rattle.amqp_model.specs.declared.perf.Attach.{Attach}
use Rattle.amqp_model.specs.declared.perf.Flow.{Flow}
use Rattle.amqp_model.specs.declared.perf.Perf.{Perf}
use Rattle.amqp_model.specs.declared.perf.Perf.TheVariants as perf
use Rattle.amqp_model.specs.declared.perf.Role.{Role}
use Rattle.amqp_model.specs.declared.perf.Role.TheVariants.{Sender, Receiver}
use Rattle.amqp_model.specs.declared.perf.Transfer.{Transfer}
use Rattle.amqp_session.specs.Serials.{distance}
use Rattle.amqp_link.specs.declared.send_end.SendEnd.{SendEnd}
use Rattle.amqp_link.specs.Deliveries.{frame}
use Rattle.amqp_link.specs.Gathering.{Gathered, RecvFigures}
use Rattle.amqp_link.specs.Figures.{send_end_of, begun_at, after_grant, after_start, after_told_count, recv_end_of, unused_at, awaiting_at, after_our_grant, after_count, after_transfer}
use Rattle.book_model.specs.declared.terminus.LinkKey.{LinkKey}
use Rattle.router_trace.specs.Durable.{is_durable}
use Rattle.router_trace.specs.declared.handle.Asked.{Asked}
use Rattle.router_trace.specs.Links.{Link as View, Happened, sends, receives, due_in, initial_of, is_incomplete, without}
use Rattle.state_links.specs.declared.link.Link.{Link}
use Rattle.state_links.specs.declared.link.LinkEnd.{LinkEnd}
use Rattle.state_links.specs.declared.link.LinkEnd.TheVariants as ends
use Rattle.state_links.specs.declared.link.Side.{Side}
use Rattle.state_links.specs.declared.link.Side.TheVariants.{Peer, Router}

abbrev pub end_of : Happened → LinkEnd
end_of (sends h) = ends.Sends (send_end_of h)
end_of (receives h) = ends.Receives (recv_end_of h)

abbrev pub link_of : View → Link
link_of l = record {
  number = l.number;
  key = l.key;
  address = l.address;
  durable = l.durable;
  end = end_of l.happened;
  going_on = l.going_on;
  drains = l.drains;
  owes_drain = l.owes_drain;
  due = l.due;
  owes_due = l.owes_due;
  incomplete = l.incomplete;
}

-- How a table's link changes: the link that an attach begins, ...
abbrev pub begun_end : Role → Option ℕ → ℕ → LinkEnd
begun_end Sender initial theirs = ends.Sends (begun_at (unwrap_or initial 0))
begun_end Receiver initial theirs = ends.Receives (awaiting_at theirs)

abbrev pub begun : ℕ → LinkKey → Attach → Option Asked → List ℕ → Link
begun number key a last address = record {
  number = number;
  key = key;
  address = address;
  durable = is_durable a.role a;
  end = begun_end a.role a.initial_delivery_count (initial_of last);
  going_on = false;
  drains = false;
  owes_drain = false;
  due = due_in last a.unsettled;
  owes_due = length (due_in last a.unsettled);
  incomplete = is_incomplete last;
}

-- ... after a flow of the peer, ...
abbrev pub with_grant : Option ℕ → Option ℕ → SendEnd → SendEnd
with_grant count None e = e
with_grant count (Some credit) e = after_grant count credit e

abbrev pub with_count : Option ℕ → RecvFigures → RecvFigures
with_count None e = e
with_count (Some n) e = if nat_le (distance e.count n) (unused_at e) then after_count n e else e

abbrev pub end_after_their_flow : Flow → LinkEnd → LinkEnd
end_after_their_flow f (ends.Sends e) = ends.Sends (with_grant f.delivery_count f.link_credit e)
end_after_their_flow f (ends.Receives e) = ends.Receives (with_count f.delivery_count e)

abbrev pub after_their_flow : Flow → Link → Link
after_their_flow f l = record l { end = end_after_their_flow f l.end; drains = f.drain; owes_drain = f.drain }

-- ... after a transfer of the peer, ...
abbrev pub end_after_their_transfer : Transfer → List ℕ → LinkEnd → LinkEnd
end_after_their_transfer x payload (ends.Sends e) = ends.Sends e
end_after_their_transfer x payload (ends.Receives e) = ends.Receives (after_transfer (frame x payload) e)

abbrev pub due_middle : Transfer → Option Gathered → List (ArrayVec ℕ) → List (ArrayVec ℕ)
due_middle x None due = if x.resume then without x.delivery_tag due else due
due_middle x (Some g) due = due

abbrev pub due_at : Transfer → RecvFigures → List (ArrayVec ℕ) → List (ArrayVec ℕ)
due_at x e due = due_middle x e.middle due

abbrev pub due_after_end : Transfer → LinkEnd → List (ArrayVec ℕ) → List (ArrayVec ℕ)
due_after_end x (ends.Sends e) due = due
due_after_end x (ends.Receives e) due = due_at x e due

abbrev pub after_their_transfer : Transfer → List ℕ → Link → Link
after_their_transfer x payload l = record l { end = end_after_their_transfer x payload l.end; due = due_after_end x l.end l.due }

-- ... after a flow of the router, ...
abbrev pub with_our_count : Option ℕ → SendEnd → SendEnd
with_our_count None e = e
with_our_count (Some n) e = after_told_count n e

abbrev pub with_our_grant : Option ℕ → Option ℕ → RecvFigures → RecvFigures
with_our_grant (Some n) (Some k) e = after_our_grant (record { count = n; credit = k }) e
with_our_grant _ _ e = e

abbrev pub end_after_our_flow : Flow → LinkEnd → LinkEnd
end_after_our_flow f (ends.Sends e) = ends.Sends (with_our_count f.delivery_count e)
end_after_our_flow f (ends.Receives e) = ends.Receives (with_our_grant f.delivery_count f.link_credit e)

abbrev pub after_our_flow : Flow → Link → Link
after_our_flow f l = record l { end = end_after_our_flow f l.end; owes_drain = l.owes_drain && not f.drain; owes_due = 0 }

-- ... and after a transfer of the router
abbrev pub end_after_our_transfer : Bool → LinkEnd → LinkEnd
end_after_our_transfer going_on (ends.Sends e) = ends.Sends (if going_on then e else after_start e)
end_after_our_transfer going_on (ends.Receives e) = ends.Receives e

abbrev pub after_our_transfer : Transfer → Link → Link
after_our_transfer x l = record l { end = end_after_our_transfer l.going_on l.end; going_on = x.more && not x.aborted }

-- after a performative of one side
abbrev pub noted : Side → Perf → List ℕ → Link → Link
noted Peer (perf.Flow f) payload l = after_their_flow f l
noted Peer (perf.Transfer x) payload l = after_their_transfer x payload l
noted Router (perf.Flow f) payload l = after_our_flow f l
noted Router (perf.Transfer x) payload l = after_our_transfer x l
noted _ _ payload l = l
