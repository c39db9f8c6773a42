-- What is due first, by what was found.
use Rattle.std.proofs.Common.{◌≡◌, ◌∙◌, ◌+◌, ℕ, true, false, refl, sym, ap, subst, List, [], ◌∷◌, Option, Some, None}
use Rattle.std.specs.Prelude.{if◌then◌else◌, is_none, is_some, option_map}
use Rattle.amqp_model.specs.declared.item.Item.{Item}
use Rattle.amqp_model.specs.declared.perf.Transfer.{Transfer}
use Rattle.amqp_session.specs.declared.states.FlowState.{FlowState}
use Rattle.amqp_session.specs.Session.{Session}
use Rattle.router_trace.specs.declared.frames.LinkState.{LinkState}
use Rattle.router_trace.specs.declared.handle.Attachment.{Attachment}
use Rattle.router_trace.specs.Trace.{Trace, Put, goes}
use Rattle.router_trace.specs.Numbers.{no_rank}
use Rattle.router_trace.specs.Sessions.{session}
use Rattle.router_trace.specs.Frames.{told_of}
use Rattle.router_trace.specs.LinkFrames.{link_flow_item}
use Rattle.router_trace.specs.Links.{Link, Happened, sends, receives, attachments}
use Rattle.router_trace.specs.Deliveries.{Delivery, bindings, delivery, next_id, rank_at}
use Rattle.router_trace.specs.DeliveryFrames.{first_transfer, later_transfer}
use Rattle.router_trace.specs.Following.{is_to_be_told, tells, tells_of, tell, sends_due, send_of, send, transfer_of, drains_due, drain_by, drain_on, drain_of, link_of}
use Rattle.state_deliveries.specs.Finding.{IsFirstBy}
use Rattle.state_messages.specs.Asking.{drained_by, drained_state}
use Rattle.router_after.specs.declared.candidate.Candidate.{Candidate}
use Rattle.router_after.specs.Soonest.{IsSoonest}
use Rattle.router_after.specs.Starting.{places}
use Rattle.router_after.specs.Draining.{drains_at}
use Rattle.state_deliveries.proofs.Numbers.{stands_below}
use Rattle.router_after.proofs.Choosing.{placed, soonest_is}
use Rattle.router_after.proofs.Ranked.{first_ranked_is}
use Rattle.router_after.proofs.Going as going
use Rattle.router_after.proofs.Owing as owing

first_tells : (t : Trace) (r : Option ℕ) → IsFirstBy (rank_at t) (λ n. is_to_be_told t (delivery t n)) r → tells_of t r ≡ tells t
first_tells t r x =
    ap (tells_of t) (first_ranked_is (rank_at t) (bindings t + 1) (λ n. is_to_be_told t (delivery t n)) (stands_below t (is_to_be_told t) refl) r x)

pub tells_none : (t : Trace) (r : Option ℕ) → r ≡ None → IsFirstBy (rank_at t) (λ n. is_to_be_told t (delivery t n)) r → [] ≡ tells t
tells_none t r is x = ap (tells_of t) (sym is) ∙ first_tells t r x

pub tells_one : (t : Trace) (r : Option ℕ) (n : ℕ) → r ≡ Some n → IsFirstBy (rank_at t) (λ n. is_to_be_told t (delivery t n)) r → tell (delivery t n) ≡ tells t
tells_one t r n is x = ap (tells_of t) (sym is) ∙ first_tells t r x

soonest_sends : (t : Trace) (r : Option Candidate) → IsSoonest (rank_at t) (places t) r → send_of t (option_map placed r) ≡ sends_due t
soonest_sends t r x = ap (send_of t) (soonest_is (rank_at t) (bindings t + 1) (places t) r (going.below t) x)

pub sends_none : (t : Trace) (r : Option Candidate) → r ≡ None → IsSoonest (rank_at t) (places t) r → [] ≡ sends_due t
sends_none t r is x = ap (λ (v : Option Candidate). send_of t (option_map placed v)) (sym is) ∙ soonest_sends t r x

pub sends_one : (t : Trace) (r : Option Candidate) (c : Candidate) → r ≡ Some c → IsSoonest (rank_at t) (places t) r → send t (delivery t c.number) ≡ sends_due t
sends_one t r c is x = ap (λ (v : Option Candidate). send_of t (option_map placed v)) (sym is) ∙ soonest_sends t r x

soonest_drains : (t : Trace) (r : Option Candidate) → IsSoonest no_rank (drains_at t) r → drain_by t (option_map placed r) ≡ drains_due t
soonest_drains t r x = ap (drain_by t) (soonest_is no_rank (attachments t + 1) (drains_at t) r (owing.below t) x)

pub drains_none : (t : Trace) (r : Option Candidate) → r ≡ None → IsSoonest no_rank (drains_at t) r → [] ≡ drains_due t
drains_none t r is x = ap (λ (v : Option Candidate). drain_by t (option_map placed v)) (sym is) ∙ soonest_drains t r x

pub drains_one : (t : Trace) (r : Option Candidate) (c : Candidate) → r ≡ Some c → IsSoonest no_rank (drains_at t) r
    → drain_on c.place (session t c.place.conn.0 c.place.channel) (link_of t c.place) ≡ drains_due t
drains_one t r c is x = ap (λ (v : Option Candidate). drain_by t (option_map placed v)) (sym is) ∙ soonest_drains t r x

abbrev one_put : ℕ → Item → List Put
one_put conn item = record { conn = conn; item = item } ∷ []

-- the flow that answers a drain, by what the tables have of its session and of its link
pub answers : (p : Attachment) (s : Option Session) (l : Option Link) (told : FlowState) (drained : LinkState) (item : Item) → Some told ≡ option_map told_of s
    → Some drained ≡ drained_state p.handle l → item ≡ link_flow_item p.channel told drained → one_put p.conn.0 item ≡ drain_on p s l
answers p None l told drained item is state e = absurd cc
answers p (Some s) None told drained item is state e = absurd cc
answers p (Some s) (Some l) told drained item is state e = by_end l.happened state
  where
    or_told : Option FlowState → FlowState
    or_told None = told
    or_told (Some x) = x

    or_drained : Option LinkState → LinkState
    or_drained None = drained
    or_drained (Some x) = x

    by_end : (h : Happened) → Some drained ≡ drained_by p.handle h → one_put p.conn.0 item ≡ drain_of p (told_of s) h
    by_end (sends list) f =
        ap (one_put p.conn.0)
        (e ∙ ap (λ (x : FlowState). link_flow_item p.channel x drained) (ap or_told is)
        ∙ ap (λ (x : LinkState). link_flow_item p.channel (told_of s) x) (ap or_drained f))
    by_end (receives list) f = absurd cc

-- the tables fit what was put, which is what is due
pub put_as : (Fits : Trace → Type 0) (t : Trace) (ps qs : List Put) → ps ≡ qs → Fits (goes ps t) → Fits (goes qs t)
put_as Fits t ps qs e f = subst (λ (xs : List Put). Fits (goes xs t)) e f

-- the transfer of a delivery that has begun, and of one that hasn't
pub begun : (t : Trace) (d : Delivery) (x : Transfer) → is_some d.id ≡ true → x ≡ later_transfer d.link.handle d → x ≡ transfer_of t d
begun t d x is e = by_id d.id is
  where
    by_id : (v : Option ℕ) → is_some v ≡ true → x ≡ (if is_none v then first_transfer d.link.handle (next_id t d.link.conn.0 d.link.channel) d else later_transfer d.link.handle d)
    by_id None is = absurd cc
    by_id (Some k) is = e

pub not_begun : (t : Trace) (d : Delivery) (x : Transfer) → is_some d.id ≡ false
    → x ≡ first_transfer d.link.handle (next_id t d.link.conn.0 d.link.channel) d → x ≡ transfer_of t d
not_begun t d x is e = by_id d.id is
  where
    by_id : (v : Option ℕ) → is_some v ≡ false → x ≡ (if is_none v then first_transfer d.link.handle (next_id t d.link.conn.0 d.link.channel) d else later_transfer d.link.handle d)
    by_id None is = e
    by_id (Some k) is = absurd cc
