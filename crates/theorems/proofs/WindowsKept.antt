-- In every trace of the router the session's window has room before each transfer: transfers are sent only while it is open.
use Rattle.std.proofs.Common.{◌≡◌, sym, ap, refl, subst, ℕ, zero, suc, ◌+◌, ◌≤◌, Bool, true, false, not, List, [], ◌∷◌, arith}
use Rattle.std.specs.Prelude.{Option, Some, None, not, nat_eq}
use Rattle.amqp_model.specs.declared.perf.Perf.{Perf}
use Rattle.amqp_model.specs.declared.perf.Perf.TheVariants as perf
use Rattle.amqp_model.specs.declared.item.Item.{Item}
use Rattle.amqp_model.specs.declared.item.Item.TheVariants as item
use Rattle.amqp_conn.specs.declared.conn.Conn.{Conn}
use Rattle.amqp_session.specs.Session.{Session, remote_window}
use Rattle.router_trace.specs.Trace.{Beginning, Entry, Did, Out, Put, Step, goes, puts, each_to, ups}
use Rattle.router_trace.specs.Configuration.{beginning}
use Rattle.router_trace.specs.declared.binding.Binding.{Binding}
use Rattle.router_trace.specs.declared.condition.Condition.TheVariants.{ResourceLimitExceeded}
use Rattle.router_trace.specs.declared.event.Event.{Event}
use Rattle.router_trace.specs.declared.handle.Attachment.{Attachment}
use Rattle.router_trace.specs.declared.event.Event.TheVariants as event
use Rattle.router_trace.specs.Connection.{conn, standing, found, due, live_of}
use Rattle.router_trace.specs.Frames.{told_of}
use Rattle.router_trace.specs.Numbers.{Placed, first_placed, no_rank}
use Rattle.router_trace.specs.Following.{link_of, tells, is_wide, sends_due, drain_of, drain_on, drain_by, place_drained, drains_due}
use Rattle.router_trace.specs.Links.{Link, Happened, sends, receives, numbered, attachments}
use Rattle.router_trace.specs.Sessions.{session}
use Rattle.state_sessions.specs.Windows.{windows}
use Rattle.state_messages.specs.Messages.{grants_due, with_bound}
use Rattle.router_reply.specs.Resuming.{resumed}
use Rattle.router_reply.specs.Replies.{closing_of, ends, heard, bound_by, item_row, own_row, replied}
use Rattle.reply_rows.specs.Acts.{answer_of, booked}
use Rattle.router_core.specs.Replies.{answered, handled}
use Rattle.router_core.proofs.Booking.{booked_keeps}
use Rattle.core_machine.specs.Moves.{took_one}
use Rattle.router_core.specs.Moves.{Goes, IsTrace}
use Rattle.core_machine.specs.Moves.{Move, handles, takes}
use Rattle.theorems.specs.Windows.{has_room, keeps_window, WindowKept}
use Rattle.router_core.proofs.Copied.{copied_keeps}
use Rattle.router_core.proofs.Due.{AllSent, sends_sent}
use Rattle.router_core.proofs.Following.{Steps, passed_on, passed_keeps}
use Rattle.router_core.proofs.Granting.{AllGrants, all_grants}
use Rattle.router_core.proofs.Resuming.{resumed_keeps}
use Rattle.theorems.proofs.Bare.{is_bare_in, is_bare, BarePut, bare_to, bare_closing_of, item_bare, bare_beats, bare_window, bare_tells}

-- a transfer

abbrev pub is_transfer_in : Perf → Bool
is_transfer_in (perf.Transfer x) = true
is_transfer_in _ = false

abbrev pub is_transfer : Item → Bool
is_transfer (item.Frame sasl own body payload) = is_transfer_in body
is_transfer _ = false

-- none of these outgoing items is a transfer
abbrev pub NonePut : List Put → Type 0
NonePut [] = Unit {0}
NonePut (p ∷ ps) = (is_transfer p.item ≡ false) × NonePut ps

-- an item that isn't a transfer needs no window

quiet_perf : (body : Perf) (own : ℕ) (known : ℕ → Option Session) (sasl : Bool) (payload : List ℕ) → is_transfer_in body ≡ false → keeps_window (item.Frame sasl own body payload) known
quiet_perf (perf.Transfer x) own known sasl payload h = absurd cc
quiet_perf _ own known sasl payload h = tt

quiet_item : (i : Item) (known : ℕ → Option Session) → is_transfer i ≡ false → keeps_window i known
quiet_item (item.Frame sasl own body payload) known h = quiet_perf body own known sasl payload h
quiet_item _ known h = tt

goes_keeps : (ps : List Put) (t : List Entry) → NonePut ps → WindowKept t → WindowKept (goes ps t)
goes_keeps [] t none kept = kept
goes_keeps (p ∷ ps) t none kept = goes_keeps ps (Out p.conn p.item ∷ t) none.1 (quiet_item p.item (session t p.conn) none.0, kept)

-- the items that the router puts: those that are bare, and flows

none_perf : (body : Perf) → is_bare_in body ≡ true → is_transfer_in body ≡ false
none_perf (perf.Transfer x) bare = absurd cc
none_perf _ bare = refl

none_bare : (i : Item) → is_bare i ≡ true → is_transfer i ≡ false
none_bare (item.Frame sasl own body payload) bare = none_perf body bare
none_bare _ bare = refl

none_put : (ps : List Put) → BarePut ps → NonePut ps
none_put [] bare = tt
none_put (p ∷ ps) bare = (none_bare p.item bare.0, none_put ps bare.1)

none_item : (id : List ℕ) (t after : List Entry) (c : ℕ) (i : Item) (p : Option Conn) → NonePut (item_row id t after c i p)
none_item id t after c i None = tt
none_item id t after c i (Some p) =
    item_bare id t after c p (λ a ps. NonePut ps) (λ a ps bare. none_put ps bare) (λ own told at. (refl, tt)) i (answer_of t c p i)

pub none_row : (id : List ℕ) (t after : List Entry) (e : Event) → NonePut (own_row id t after e)
none_row id t after (event.Item c i) = none_item id t after c.0 i (standing (found t (event.Item c i) c.0))
none_row id t after (event.Down c) = tt
none_row id t after (event.Tick ms) = none_put _ (bare_beats t ms (live_of (ups t) (found t (event.Tick ms))))
none_row id t after (event.Up c p) = tt
none_row id t after event.Start = tt

-- what follows an event's rows has no transfer
pub none_window : (t : List Entry) → NonePut (windows t)
none_window t = none_put (windows t) (bare_window t)

-- a transfer is sent while the window is open

window_open : (v : Option Session) → is_wide v ≡ true → has_room v
window_open None wide = absurd cc
window_open (Some h) wide = by (remote_window h) wide
  where
    by : (n : ℕ) → not (nat_eq n 0) ≡ true → 1 ≤ n
    by zero wide = absurd cc
    by (suc n) wide = omega arith

sent_keeps : (t : List Entry) (ps : List Put) → AllSent t ps → WindowKept t → WindowKept (goes ps t)
sent_keeps t [] sent kept = kept
sent_keeps t (p ∷ []) sent kept =
    (subst (λ (i : Item). keeps_window i (session t p.conn)) (sym sent.transfer.frame) (window_open (session t p.conn sent.own) sent.wide), kept)
sent_keeps t (p ∷ q ∷ qs) sent kept = absurd sent

none_drained : (a : Attachment) (s : Option Session) (v : Option Link) → NonePut (drain_on a s v)
none_drained a None v = tt
none_drained a (Some s) None = tt
none_drained a (Some s) (Some l) = by l.happened
  where
    by : (w : Happened) → NonePut (drain_of a (told_of s) w)
    by (sends list) = (refl, tt)
    by (receives list) = tt

none_drain_by : (t : List Entry) (p : Option Placed) → NonePut (drain_by t p)
none_drain_by t None = tt
none_drain_by t (Some p) = none_drained p.place (session t p.place.conn.0 p.place.channel) (link_of t p.place)

none_grants : (t : List Entry) (ps : List Put) → AllGrants t ps → NonePut ps
none_grants t [] all = tt
none_grants t (p ∷ ps) all = (ap is_transfer all.0.flow, none_grants t ps all.1)

none_drains : (t : List Entry) → NonePut (drains_due t)
none_drains t = none_drain_by t (first_placed no_rank (attachments t + 1) (λ n. place_drained t n (numbered t n)))

none_granted : (t : List Entry) → NonePut (grants_due t)
none_granted t = none_grants t (grants_due t) (all_grants t)

passed_kept : Steps WindowKept
passed_kept = record {
  telling = λ t kept. goes_keeps (tells t) t (none_put (tells t) (bare_tells t)) kept;
  sending = λ t kept. sent_keeps t (sends_due t) (sends_sent t) kept;
  draining = λ t kept. goes_keeps (drains_due t) t (none_drains t) kept;
  granting = λ t kept. goes_keeps (grants_due t) t (none_granted t) kept;
}

-- an event with all that it put out

ends_keep : (id : List ℕ) (cs : List ℕ) (t : List Entry) → WindowKept t → WindowKept (ends id cs t)
ends_keep id [] t kept = kept
ends_keep id (c ∷ cs) t kept =
    let items : List Item = closing_of id (conn t c) ResourceLimitExceeded
    in ends_keep id cs (puts c items t) (goes_keeps (each_to c items) t (none_put (each_to c items) (bare_to c items (bare_closing_of id (conn t c) ResourceLimitExceeded))) kept)

bound_keeps : (b : Option Binding) (t : List Entry) → WindowKept t → WindowKept (with_bound b t)
bound_keeps None t kept = kept
bound_keeps (Some b) t kept = kept

pub answered_keeps : (id : List ℕ) (t : List Entry) (s : Step) → WindowKept t → WindowKept (answered id t s)
answered_keeps id t s kept =
    let behind : WindowKept (heard id t s) = ends_keep id (due t s.event) (Did s ∷ t) kept
    in let bound : List Entry = with_bound (bound_by t (heard id t s) s.event) (heard id t s)
    in let rows : WindowKept (replied id t s)
    = copied_keeps WindowKept (λ b u k. bound_keeps (Some b) u k) t (heard id t s) s.event (goes (own_row id t (heard id t s) s.event) bound)
    (goes_keeps (own_row id t (heard id t s) s.event) bound (none_row id t (heard id t s) s.event) (bound_keeps (bound_by t (heard id t s) s.event) (heard id t s) behind))
    in let next : List Entry = resumed t s.event (replied id t s)
    in let all : WindowKept (passed_on next)
    = passed_keeps WindowKept passed_kept next (resumed_keeps WindowKept (λ b u k. bound_keeps (Some b) u k) t s.event (replied id t s) rows)
    in goes_keeps (windows (passed_on next)) (passed_on next) (none_window (passed_on next)) all

-- moves

pub moves_keep : (id : List ℕ) (ms : List Move) (t u : List Entry) → WindowKept t → Goes id ms t u → WindowKept u
moves_keep id [] t u kept went = subst (λ (w : List Entry). WindowKept w) (sym went) kept
moves_keep id (handles s ∷ ms) t u kept went = moves_keep id ms (handled id t s) u (answered_keeps id (booked t s.event) s (booked_keeps WindowKept t s.event (λ acts k. k) kept)) went.1
moves_keep id (takes x ∷ ms) t u kept went = moves_keep id ms (took_one x t) u kept went

pub trace_keeps_windows : (id : List ℕ) (g : Beginning) (u : List Entry) → IsTrace id g u → WindowKept u
trace_keeps_windows id g u trace = moves_keep id trace.0 (beginning g) u tt trace.1
