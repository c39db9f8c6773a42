-- A table's link follows what happens on the view's.
use Rattle.std.proofs.Common.{◌≡◌, ◌∙◌, ℕ, Bool, true, false, not, ◌&&◌, refl, ap, ◌%◌, ◌^◌, List, [], ◌∷◌, Option, Some, None}
use Rattle.std.specs.Prelude.{nat_le, if◌then◌else◌, length, unwrap_or}
use Rattle.arrayvec.specs.ArrayVec.{ArrayVec}
use Rattle.amqp_model.specs.declared.perf.Attach.{Attach}
use Rattle.amqp_model.specs.declared.perf.Flow.{Flow}
use Rattle.amqp_model.specs.declared.perf.Role.{Role}
use Rattle.amqp_model.specs.declared.perf.Role.TheVariants.{Sender, Receiver}
use Rattle.amqp_model.specs.declared.perf.Transfer.{Transfer}
use Rattle.amqp_session.specs.Serials.{distance}
use Rattle.amqp_link.specs.Credit as credit
use Rattle.amqp_link.specs.Deliveries.{Frame, frame}
use Rattle.amqp_link.specs.Gathering.{gathered}
use Rattle.amqp_link.specs.Receiving as receiving
use Rattle.amqp_link.specs.Receiving.{middle}
use Rattle.amqp_link.specs.Figures.{send_end_of, recv_end_of}
use Rattle.amqp_link.proofs.Sends as sent
use Rattle.amqp_link.proofs.Receives as received
use Rattle.book_model.specs.declared.terminus.LinkKey.{LinkKey}
use Rattle.router_trace.specs.declared.handle.Asked.{Asked}
use Rattle.router_trace.specs.Links as view
use Rattle.router_trace.specs.Durable.{is_durable}
use Rattle.router_trace.specs.Links.{Happened, sends, receives, initial_of, due_in, is_incomplete, begun_link}
use Rattle.state_links.specs.declared.link.Link.{Link}
use Rattle.state_links.specs.declared.link.LinkEnd.{LinkEnd}
use Rattle.state_links.specs.declared.link.LinkEnd.TheVariants as ends
use Rattle.state_links.specs.Ends.{end_of, link_of, begun_end, begun, due_middle, due_after_end, with_grant, with_count, with_our_count, with_our_grant, end_after_their_flow, end_after_their_transfer, end_after_our_flow, end_after_our_transfer, after_their_flow, after_their_transfer, after_our_flow, after_our_transfer}

-- the ends
begun_same : (role : Role) (initial : Option ℕ) (theirs : ℕ) → begun_end role initial theirs ≡ end_of (view.begins role initial theirs)
begun_same Sender initial theirs = ap ends.Sends (sent.at_attach (unwrap_or initial 0) [])
begun_same Receiver initial theirs = ap ends.Receives (received.at_attach theirs [])

grant_same : (f : Flow) (k : Option ℕ) (h : credit.Link) → with_grant f.delivery_count k (send_end_of h) ≡ send_end_of (view.with_grant f k h)
grant_same f None h = refl
grant_same f (Some k) h = sent.at_grant f.delivery_count k h

count_if : (b : Bool) (n : ℕ) (h : receiving.Received) → (if b then (record (recv_end_of h) { count = n % 2 ^ 32 }) else recv_end_of h) ≡ recv_end_of (if b then receiving.TheirCount n ∷ h else h)
count_if true n h = received.at_count n h
count_if false n h = refl

count_same : (n : Option ℕ) (h : receiving.Received) → with_count n (recv_end_of h) ≡ recv_end_of (view.with_count n h)
count_same None h = refl
count_same (Some n) h = count_if (nat_le (distance (receiving.delivery_count h) n) (receiving.unused h)) n h

their_flow_same : (f : Flow) (h : Happened) → end_after_their_flow f (end_of h) ≡ end_of (view.flowed_to f h)
their_flow_same f (sends h) = ap ends.Sends (grant_same f f.link_credit h)
their_flow_same f (receives h) = ap ends.Receives (count_same f.delivery_count h)

their_transfer_same : (x : Transfer) (payload : List ℕ) (h : Happened) → end_after_their_transfer x payload (end_of h) ≡ end_of (view.came_to x payload h)
their_transfer_same x payload (sends h) = refl
their_transfer_same x payload (receives h) = ap ends.Receives (received.at_transfer (frame x payload) h)

our_count_same : (n : Option ℕ) (h : credit.Link) → with_our_count n (send_end_of h) ≡ send_end_of (view.with_our_count n h)
our_count_same None h = refl
our_count_same (Some n) h = sent.at_told_count n h

our_grant_same : (n k : Option ℕ) (h : receiving.Received) → with_our_grant n k (recv_end_of h) ≡ recv_end_of (view.with_our_grant n k h)
our_grant_same None k h = refl
our_grant_same (Some n) None h = refl
our_grant_same (Some n) (Some k) h = received.at_grant _ h

our_flow_same : (f : Flow) (h : Happened) → end_after_our_flow f (end_of h) ≡ end_of (view.flowed_from f h)
our_flow_same f (sends h) = ap ends.Sends (our_count_same f.delivery_count h)
our_flow_same f (receives h) = ap ends.Receives (our_grant_same f.delivery_count f.link_credit h)

start_same : (going_on : Bool) (h : Happened) → end_after_our_transfer going_on (end_of h) ≡ end_of (view.started going_on h)
start_same true (sends h) = refl
start_same false (sends h) = ap ends.Sends (sent.at_start h)
start_same going_on (receives h) = refl

-- the links
pub begun_follows : (number : ℕ) (key : LinkKey) (a : Attach) (last : Option Asked) (address : List ℕ)
    → begun number key a last address ≡ link_of (begun_link number key a last address)
begun_follows number key a last address =
    let P : LinkEnd → Link = λ e. record { number = number; key = key; address = address; durable = is_durable a.role a; end = e; going_on = false; drains = false; owes_drain = false; due = due_in last a.unsettled; owes_due = length (due_in last a.unsettled); incomplete = is_incomplete last } in
    ap P (begun_same a.role a.initial_delivery_count (initial_of last))

pub their_flow_follows : (f : Flow) (l : view.Link) → after_their_flow f (link_of l) ≡ link_of (view.after_their_flow f l)
their_flow_follows f l =
    let P : LinkEnd → Link = λ e. record { number = l.number; key = l.key; address = l.address; durable = l.durable; end = e; going_on = l.going_on; drains = f.drain; owes_drain = f.drain; due = l.due; owes_due = l.owes_due; incomplete = l.incomplete } in
    ap P (their_flow_same f l.happened)

due_same : (x : Transfer) (h : Happened) (due : List (ArrayVec ℕ)) → due_after_end x (end_of h) due ≡ view.due_after x h due
due_same x (sends h) due = refl
due_same x (receives h) due = by (middle h)
  where
    by : (fs : List Frame) → due_middle x (gathered fs) due ≡ view.due_first x fs due
    by [] = refl
    by (f ∷ fs) = refl

pub their_transfer_follows : (x : Transfer) (payload : List ℕ) (l : view.Link) → after_their_transfer x payload (link_of l) ≡ link_of (view.after_their_transfer x payload l)
their_transfer_follows x payload l =
    let P : LinkEnd → List (ArrayVec ℕ) → Link = λ e q.
    record { number = l.number; key = l.key; address = l.address; durable = l.durable; end = e; going_on = l.going_on; drains = l.drains; owes_drain = l.owes_drain; due = q; owes_due = l.owes_due; incomplete = l.incomplete } in
    ap (λ e. P e (due_after_end x (end_of l.happened) l.due)) (their_transfer_same x payload l.happened)
    ∙ ap (P (end_of (view.came_to x payload l.happened))) (due_same x l.happened l.due)

pub our_flow_follows : (f : Flow) (l : view.Link) → after_our_flow f (link_of l) ≡ link_of (view.after_our_flow f l)
our_flow_follows f l =
    let P : LinkEnd → Link = λ e. record { number = l.number; key = l.key; address = l.address; durable = l.durable; end = e; going_on = l.going_on; drains = l.drains; owes_drain = l.owes_drain && not f.drain; due = l.due; owes_due = 0; incomplete = l.incomplete } in
    ap P (our_flow_same f l.happened)

pub our_transfer_follows : (x : Transfer) (l : view.Link) → after_our_transfer x (link_of l) ≡ link_of (view.after_our_transfer x l)
our_transfer_follows x l =
    let P : LinkEnd → Link = λ e. record { number = l.number; key = l.key; address = l.address; durable = l.durable; end = e; going_on = x.more && not x.aborted; drains = l.drains; owes_drain = l.owes_drain; due = l.due; owes_due = l.owes_due; incomplete = l.incomplete } in
    ap P (start_same l.going_on l.happened)
