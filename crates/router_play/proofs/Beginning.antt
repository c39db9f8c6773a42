-- The start of a router that knows no connection puts nothing out.
use Rattle.std.proofs.Common.{◌≡◌, ◌∙◌, sym, ap, refl, subst, ℕ, List, [], ◌∷◌}
use Rattle.std.specs.Prelude.{None, Bool, true, false, filter, map}
use Rattle.book_model.specs.declared.act.Act.{Act}
use Rattle.book_model.specs.declared.row.Row.{Row}
use Rattle.book_model.specs.Book.{BookView}
use Rattle.journal_store.specs.Lost.{failure_of, is_lost}
use Rattle.route_table.specs.Settings.{Settings}
use Rattle.core_player.specs.Script as player
use Rattle.router_play.specs.Script.{router_on, opening_on}
use Rattle.router_trace.specs.Trace.{Beginning}
use Rattle.router_trace.specs.Configuration.{beginning}
use Rattle.router_trace.specs.declared.event.Event.TheVariants as event
use Rattle.router_trace.specs.Trace.{Entry, Put, did, goes, step_of}
use Rattle.router_trace.specs.Following.{as_long_as_due, tells, sends_due, drains_due}
use Rattle.router_trace.specs.Numbers.{first_placed, first_ranked}
use Rattle.state_messages.specs.Messages.{grants, grants_due, lent_first, lowest_below}
use Rattle.state_sessions.specs.Windows.{windows}
use Rattle.router_after.specs.After.{sent, drained, granted, followed}
use Rattle.router_core.specs.Replies.{handled}
use Rattle.reply_rows.specs.Acts.{Journaled, acts_of, admitted_acts, booked, book_in, finds_full, journaled, or_admits}
use Rattle.router_reply.specs.Holding.{freed}
use Rattle.router_reply.specs.Replies.{replied}
use Rattle.router_reply.specs.Resuming.{resumed}
use Rattle.router_core.proofs.Following.{due_keeps}
use Rattle.router_core.proofs.Moves.{Leads, leads_event}

-- nothing is due
quiet : (next : List Entry → List Put) (t : List Entry) → next t ≡ [] → as_long_as_due next t ≡ t
quiet next t none =
    due_keeps next (λ (u : List Entry). u ≡ t)
    (λ u is. subst (λ (v : List Entry). goes (next v) v ≡ t) (sym is) (ap (λ (ps : List Put). goes ps t) none)) t refl

abbrev begins : Beginning → List Entry
begins g = did event.Start ∷ booked (beginning g) event.Start

no_outcome : (g : Beginning) → tells (begins g) ≡ []
unfolding first_ranked
no_outcome g = refl

no_delivery : (g : Beginning) → sends_due (begins g) ≡ []
unfolding first_placed
no_delivery g = refl

no_drain : (g : Beginning) → drains_due (begins g) ≡ []
unfolding first_placed
no_drain g = refl

no_grant : (g : Beginning) → grants_due (begins g) ≡ []
unfolding grants lent_first lowest_below
no_grant g = refl

-- the acts of a start decide, and so they settle no row of a producer's link
failures_free : (rows : List Row) (u : List Entry) → freed (map failure_of rows) u ≡ u
failures_free [] u = refl
failures_free (r ∷ rs) u = failures_free rs u

acts_free : (rows : List Row) (admitted : List Act) (u : List Entry) → freed admitted u ≡ u → freed (or_admits (map failure_of rows) admitted) u ≡ u
acts_free [] admitted u none = none
acts_free (r ∷ rs) admitted u none = failures_free rs u

none_admitted : (full : Bool) (b : BookView) (t u : List Entry) → freed (admitted_acts full b t event.Start) u ≡ u
none_admitted true b t u = refl
none_admitted false b t u = refl

start_frees : (t u : List Entry) → freed (acts_of t event.Start) u ≡ u
start_frees t u =
    acts_free (filter is_lost (book_in t).rows) (admitted_acts (finds_full (journaled t) t event.Start) (book_in t) t event.Start) u
    (none_admitted (finds_full (journaled t) t event.Start) (book_in t) t u)

start_takes_none : (id : List ℕ) (g : Beginning)
    → resumed (booked (beginning g) event.Start) event.Start (replied id (booked (beginning g) event.Start) (step_of event.Start)) ≡ begins g
start_takes_none id g = start_frees (beginning g) (begins g)

pub start_is_silent : (id : List ℕ) (g : Beginning) → handled id (beginning g) (step_of event.Start) ≡ begins g
start_is_silent id g =
    let t : List Entry = begins g in
    ap followed (start_takes_none id g)
    ∙ ap (λ (u : List Entry). goes (windows u) u)
    (ap (λ (u : List Entry). granted (drained (sent u))) (quiet tells t (no_outcome g))
    ∙ ap (λ (u : List Entry). granted (drained u)) (quiet sends_due t (no_delivery g))
    ∙ ap granted (quiet drains_due t (no_drain g))
    ∙ quiet grants_due t (no_grant g))

-- the trace of a started router is one of the router
pub began : (id : List ℕ) (g : Beginning) → Leads id (beginning g) (begins g)
began id g = subst (λ (u : List Entry). Leads id (beginning g) u) (start_is_silent id g) (leads_event id (beginning g) event.Start refl)

-- the scene in which a started router finds itself
pub opening_is : (config : Settings) (j : Journaled) → player.opening handled config (router_on config j) ≡ opening_on config j
opening_is config j =
    ap (λ (t : List Entry). record { id = config.router_id; config = config; trace = t; last = None; sockets = λ (c : ℕ). None; lines = [] }) (start_is_silent config.router_id (router_on config j))
