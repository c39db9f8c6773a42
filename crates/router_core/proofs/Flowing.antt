-- Heartbeats and the flows of windows may be written in their order.
use Rattle.std.proofs.Common.{◌≡◌, ◌∙◌, sym, ap, refl, subst, true≢false, ℕ, zero, suc, true, false, List, [], ◌∷◌, ◌++◌}
use Rattle.std.specs.Prelude.{◌==◌, Option, Some, None, is_some, if◌then◌else◌}
use Rattle.amqp_model.specs.declared.perf.Perf.{Perf}
use Rattle.amqp_model.specs.declared.perf.Perf.TheVariants as perf
use Rattle.amqp_model.specs.declared.item.Item.{Item}
use Rattle.amqp_model.specs.declared.item.Item.TheVariants as item
use Rattle.amqp_conn.specs.declared.conn.Conn.{Conn}
use Rattle.amqp_session.specs.declared.states.BeginState.{BeginState}
use Rattle.amqp_session.specs.Session.{Session}
use Rattle.router_trace.specs.declared.terms.Terms.{Terms}
use Rattle.router_trace.specs.Trace.{Entry, Put, Out, goes, ups}
use Rattle.router_trace.specs.Connection.{Connection, conn, after_perf, is_live, has, live}
use Rattle.router_trace.specs.Frames.{flow_item, beat_item, told_of}
use Rattle.router_trace.specs.Sessions.{session, awaited}
use Rattle.router_trace.specs.Clocks.{terms, written, needs_beat}
use Rattle.router_trace.specs.Order.{Written, unwritten, begun_after_perf, written_after, is_open, has_turn}
use Rattle.state_sessions.specs.Windows.{is_narrow, flow_due, flows_below, windows_over, windows}
use Rattle.router_state.specs.Tables.{beat_if, beats_over}
use Rattle.router_after.specs.After.{widened}
use Rattle.router_core.specs.Moves.{outs}
use Rattle.state_connections.proofs.Lists.{by_test}
use Rattle.router_core.proofs.RowOrder.{written_of, has_begun, perf_is_offered, IsOffered}
use Rattle.router_core.proofs.Once.{filter_has, has_first, has_rest}
use Rattle.router_core.proofs.Ordered.{Ordered, wrote, wrote_push, out_turns}

-- an item that changes nothing in what was written: a flow, an attach, a transfer, a disposition, a detach or a heartbeat
abbrev pub perf_is_quiet : Perf → Type 0
perf_is_quiet (perf.Flow f) = Unit {0}
perf_is_quiet (perf.Attach a) = Unit {0}
perf_is_quiet (perf.Transfer x) = Unit {0}
perf_is_quiet (perf.Disposition x) = Unit {0}
perf_is_quiet (perf.Detach x) = Unit {0}
perf_is_quiet _ = ⊥

abbrev pub IsQuiet : Item → Type 0
IsQuiet (item.Frame sasl own body payload) = perf_is_quiet body
IsQuiet (item.Beat channel) = Unit {0}
IsQuiet _ = ⊥

quiet_perf : (body : Perf) (own : ℕ) (w : Written) → perf_is_quiet body
    → written_of (after_perf body w.phase) (begun_after_perf body own w.begun) ≡ w
quiet_perf (perf.Flow f) own w q = refl
quiet_perf (perf.Attach a) own w q = refl
quiet_perf (perf.Transfer x) own w q = refl
quiet_perf (perf.Disposition x) own w q = refl
quiet_perf (perf.Detach x) own w q = refl
quiet_perf _ own w q = absurd q

quiet_same : (i : Item) (w : Written) → IsQuiet i → written_after i w ≡ w
quiet_same (item.Frame sasl own body payload) w q = quiet_perf body own w q
quiet_same (item.Beat channel) w q = refl
quiet_same _ w q = absurd q

quiet_perf_offered : (body : Perf) (asked : Option BeginState) → perf_is_quiet body → perf_is_offered body asked
quiet_perf_offered (perf.Flow f) asked q = tt
quiet_perf_offered (perf.Attach a) asked q = tt
quiet_perf_offered (perf.Transfer x) asked q = tt
quiet_perf_offered (perf.Disposition x) asked q = tt
quiet_perf_offered (perf.Detach x) asked q = tt
quiet_perf_offered _ asked q = absurd q

quiet_offered : (i : Item) (asked : Option BeginState) → IsQuiet i → IsOffered i asked
quiet_offered (item.Frame sasl own body payload) asked q = quiet_perf_offered body asked q
quiet_offered (item.Beat channel) asked q = tt
quiet_offered _ asked q = absurd q

-- a quiet item that may be written next
pub record Fits (t : List Entry) (p : Put) : Type 0 where
  pub known : has p.conn (ups t) ≡ true
  pub turn : has_turn (wrote t p.conn) p.item ≡ true
  pub quiet : IsQuiet p.item

abbrev pub AllFit : List Entry → List Put → Type 0
AllFit t [] = Unit {0}
AllFit t (p ∷ ps) = Fits t p × AllFit t ps

wrote_quiet : (t : List Entry) (c k : ℕ) (i : Item) → IsQuiet i → wrote (Out c i ∷ t) k ≡ wrote t k
wrote_quiet t c k i q = by_test (c == k) (λ e. rw e (wrote_push (outs t k) unwritten i ∙ quiet_same i (wrote t k) q)) (λ e. rw e refl)

fit_on : (ps : List Put) (t : List Entry) (c : ℕ) (i : Item) → IsQuiet i → AllFit t ps → AllFit (Out c i ∷ t) ps
fit_on [] t c i q fits = tt
fit_on (p ∷ ps) t c i q fits = (
  record {
    known = fits.0.known;
    turn = subst (λ (w : Written). has_turn w p.item ≡ true) (sym (wrote_quiet t c p.conn i q)) fits.0.turn;
    quiet = fits.0.quiet;
  },
  fit_on ps t c i q fits.1,
)

-- such items keep the order
pub goes_turns : (ps : List Put) (t : List Entry) → Ordered t → AllFit t ps → Ordered (goes ps t)
goes_turns [] t ord fits = ord
goes_turns (p ∷ ps) t ord fits =
    goes_turns ps (Out p.conn p.item ∷ t) (out_turns t p.conn p.item ord fits.0.turn (quiet_offered p.item _ fits.0.quiet) fits.0.known)
    (fit_on ps t p.conn p.item fits.0.quiet fits.1)

pub fit_both : (t : List Entry) (ps qs : List Put) → AllFit t ps → AllFit t qs → AllFit t (ps ++ qs)
fit_both t [] qs f g = g
fit_both t (p ∷ ps) qs f g = (f.0, fit_both t ps qs f.1 g)

-- a live connection
pub live_some : (o : Option Connection) → is_live o ≡ true → (v : Connection) × (o ≡ Some v) × (v.phase.closed ≡ false)
live_some None h = absurd cc
live_some (Some v) h = (v, refl, by_test v.phase.closed (λ e. absurd (true≢false (sym (rw e at h)))) (λ e. e))

-- the flows of windows

flow_turn : (w : Written) (o : ℕ) → w.phase.opened ≡ true → w.phase.closed ≡ false → w.begun o ≡ true → (if is_open w.phase then w.begun o else false) ≡ true
flow_turn w o a b c = rw (a, b, c) refl

flow_fit : (t : List Entry) (c : ℕ) (v : Connection) → Ordered t → conn t c ≡ Some v → v.phase.closed ≡ false → has c (ups t) ≡ true
    → (o : ℕ) (s : Option Session) → session t c o ≡ s → AllFit t (flow_due c o s)
flow_fit t c v ord is live there o None at = tt
flow_fit t c v ord is live there o (Some h) at =
    let begun : (wrote t c).begun o ≡ true = ord.begun c v is live o ∙ ap (λ (x : Option Session). has_begun x (awaited t c o)) at
    in let shut : (wrote t c).phase.closed ≡ false = ap (λ (p : Conn). p.closed) (ord.phases c v is live) ∙ live
    in let fits : Fits t (record { conn = c; item = flow_item o (told_of h) }) = record {
      known = there;
      turn = flow_turn (wrote t c) o (ord.opened c o begun) shut begun;
      quiet = tt;
    }
    in by_test (is_narrow h) (λ e. rw e (fits, tt)) (λ e. rw e tt)

below_fit : (t : List Entry) (c : ℕ) (v : Connection) → Ordered t → conn t c ≡ Some v → v.phase.closed ≡ false → has c (ups t) ≡ true
    → (n : ℕ) → AllFit t (flows_below c (session t c) n)
unfolding flows_below
below_fit t c v ord is live there zero = tt
below_fit t c v ord is live there (suc n) =
    fit_both t (flows_below c (session t c) n) (flow_due c n (session t c n)) (below_fit t c v ord is live there n) (flow_fit t c v ord is live there n (session t c n) refl)

windows_fit : (t : List Entry) → Ordered t → (cs : List ℕ) → ((c : ℕ) → has c cs ≡ true → (is_live (conn t c) ≡ true) × (has c (ups t) ≡ true)) → AllFit t (windows_over t cs)
windows_fit t ord [] each = tt
windows_fit t ord (c ∷ cs) each =
    let here = each c (has_first c cs)
    in let v = live_some (conn t c) here.0
    in fit_both t (flows_below c (session t c) 15) (windows_over t cs) (below_fit t c v.0 ord v.1 v.2 here.1 15)
    (windows_fit t ord cs (λ k h. each k (has_rest k c cs h)))

pub widened_turns : (t : List Entry) → Ordered t → Ordered (widened t)
widened_turns t ord = goes_turns (windows t) t ord (windows_fit t ord (live t) (λ c h. filter_has (λ k. is_live (conn t k)) c (ups t) h))

-- heartbeats

needs_some : (v : Option Terms) (last : Option ℕ) (now : ℕ) → needs_beat v last now ≡ true → is_some v ≡ true
needs_some None last now h = h
needs_some (Some told) last now h = refl

beat_fit : (t u : List Entry) (now c : ℕ) → (is_some (terms t c) ≡ true → Fits u (record { conn = c; item = beat_item }))
    → AllFit u (beat_if (needs_beat (terms t c) (written t c) now) c)
beat_fit t u now c here =
    by_test (needs_beat (terms t c) (written t c) now)
    (λ e. rw e (here (needs_some (terms t c) (written t c) now e), tt))
    (λ e. rw e tt)

pub beats_fit : (t u : List Entry) (now : ℕ) (cs : List ℕ) → ((c : ℕ) → has c cs ≡ true → is_some (terms t c) ≡ true → Fits u (record { conn = c; item = beat_item }))
    → AllFit u (beats_over t now cs)
beats_fit t u now [] each = tt
beats_fit t u now (c ∷ cs) each =
    fit_both u (beat_if (needs_beat (terms t c) (written t c) now) c) (beats_over t now cs)
    (beat_fit t u now c (each c (has_first c cs)))
    (beats_fit t u now cs (λ k h. each k (has_rest k c cs h)))
