-- In every trace of the router a delivery starts only if its link has credit, and a flow moves the delivery-count of a link on which the router is the sender by
-- at most that.
use Rattle.std.proofs.Common.{◌≡◌, ◌∙◌, sym, ap, refl, subst, ℕ, zero, suc, ◌+◌, ◌%◌, ◌^◌, ◌≤◌, ◌<◌, Bool, true, false, ◌&&◌, List, [], ◌∷◌, ◌++◌, arith}
use Rattle.std.specs.Prelude.{◌==◌, Option, Some, None, is_none, is_some, option_map, nat_lt, if◌then◌else◌}
use Rattle.std.proofs.lemmas.Bool.Decides.{nat_tests}
use Rattle.amqp_model.specs.declared.perf.Flow.{Flow}
use Rattle.amqp_model.specs.declared.perf.Perf.{Perf}
use Rattle.amqp_model.specs.declared.perf.Perf.TheVariants as perf
use Rattle.amqp_model.specs.declared.item.Item.{Item}
use Rattle.amqp_model.specs.declared.item.Item.TheVariants as item
use Rattle.amqp_conn.specs.declared.conn.Conn.{Conn}
use Rattle.amqp_session.specs.Serials.{distance}
use Rattle.amqp_session.specs.Session.{Session}
use Rattle.amqp_session.specs.declared.states.FlowState.{FlowState}
use Rattle.amqp_link.specs.declared.grant.Grant.{Grant}
use Rattle.amqp_link.specs.Credit.{count, granted, limit, left, left_of, credit}
use Rattle.amqp_link.specs.Credit as credits
use Rattle.router_trace.specs.Trace.{Beginning}
use Rattle.router_trace.specs.Configuration.{beginning}
use Rattle.router_trace.specs.declared.binding.Binding.{Binding}
use Rattle.router_trace.specs.declared.condition.Condition.TheVariants.{ResourceLimitExceeded}
use Rattle.router_trace.specs.declared.event.ConnectionId.{ConnectionId}
use Rattle.router_trace.specs.declared.event.Event.{Event}
use Rattle.router_trace.specs.declared.event.Event.TheVariants as event
use Rattle.router_trace.specs.declared.frames.LinkState.{LinkState}
use Rattle.router_trace.specs.declared.handle.Attachment.{Attachment}
use Rattle.router_trace.specs.Trace.{Entry, Did, Out, Put, Step, goes, puts, each_to, ups}
use Rattle.router_trace.specs.Connection.{conn, due, standing, found, has, live_of}
use Rattle.router_trace.specs.Frames.{told_of}
use Rattle.router_trace.specs.LinkFrames.{link_flow, link_flow_item}
use Rattle.router_trace.specs.Links.{Link, Happened, sends, receives, link, numbered, attachments, flowed_from, after_our_flow}
use Rattle.router_trace.specs.Numbers.{Placed, first_placed, no_rank}
use Rattle.router_trace.specs.Sessions.{session}
use Rattle.router_trace.specs.Following.{tells, has_credit, sends_due, link_of, is_sending, drain_of, drain_on, drain_by, place_drained, drains_due}
use Rattle.state_sessions.specs.Windows.{windows}
use Rattle.state_messages.specs.declared.grant.LinkGrant.{LinkGrant}
use Rattle.state_messages.specs.Figures.{owed_credit}
use Rattle.state_messages.specs.Messages.{grant_by, grant_on, grant_at, grants_on, first_address, sums_at, grants_of_address, grants, grant_flow, grant_flows, grants_due, with_bound}
use Rattle.router_reply.specs.Resuming.{resumed}
use Rattle.router_reply.specs.Replies.{closing_of, ends, heard, bound_by, item_row, own_row, replied}
use Rattle.reply_rows.specs.declared.answer.Answer.{Answer}
use Rattle.reply_rows.specs.declared.answer.Answer.TheVariants.{LinkFlow}
use Rattle.reply_rows.specs.Acts.{answer_of, booked}
use Rattle.router_core.specs.Replies.{answered, handled}
use Rattle.router_core.proofs.Booking.{booked_keeps}
use Rattle.core_machine.specs.Moves.{took_one}
use Rattle.router_core.specs.Moves.{Goes, IsTrace}
use Rattle.core_machine.specs.Moves.{Move, handles, takes}
use Rattle.theorems.specs.Credit.{credit_left, unless_going_on, starts_within, counts_on, counts_within, flow_within, within_credit, WithinCredit}
use Rattle.state_connections.proofs.Lists.{by_test}
use Rattle.router_core.proofs.Copied.{copied_keeps}
use Rattle.router_core.proofs.Due.{Takes, AllSent, sends_sent}
use Rattle.router_core.proofs.Following.{Steps, passed_on, passed_keeps}
use Rattle.router_core.proofs.Resuming.{resumed_keeps}
use Rattle.router_core.proofs.Replied.{found_live}
use Rattle.theorems.proofs.Answering.{ends_view}
use Rattle.theorems.proofs.Bare.{is_bare_in, is_bare, BarePut, bare_to, bare_closing_of, item_bare, bare_beats, bare_window, bare_tells}
use Rattle.theorems.proofs.Echoed.{Tells, count_small, answer_told}

-- an item that is neither a transfer nor a flow of a link starts nothing, and tells no count

bare_perf : (body : Perf) (own : ℕ) (known : ℕ → ℕ → Option Link) (sasl : Bool) (payload : List ℕ) → is_bare_in body ≡ true
    → within_credit (item.Frame sasl own body payload) known
bare_perf (perf.Transfer x) own known sasl payload h = absurd cc
bare_perf (perf.Flow f) own known sasl payload h = by f.handle h
  where
    by : (v : Option ℕ) → is_none v ≡ true → flow_within f.delivery_count v (known own)
    by None h = tt
    by (Some k) h = absurd cc
bare_perf _ own known sasl payload h = tt

bare_item : (i : Item) (known : ℕ → ℕ → Option Link) → is_bare i ≡ true → within_credit i known
bare_item (item.Frame sasl own body payload) known h = bare_perf body own known sasl payload h
bare_item _ known h = tt

bare_goes : (ps : List Put) (t : List Entry) → BarePut ps → WithinCredit t → WithinCredit (goes ps t)
bare_goes [] t bare within = within
bare_goes (p ∷ ps) t bare within = bare_goes ps (Out p.conn p.item ∷ t) bare.1 (bare_item p.item (link t p.conn) bare.0, within)

-- a delivery that is sent starts only if there is credit

left_is : (w : Happened) → has_credit w ≡ true → credit_left w
left_is (sends list) h = by (credit list) h
  where
    by : (n : ℕ) → nat_lt 0 n ≡ true → 1 ≤ n
    by zero h = absurd cc
    by (suc n) h = omega arith
left_is (receives list) h = absurd cc

takes_within : (v : Option Link) → Takes v → starts_within v
takes_within None taken = absurd (none taken.here)
  where
    none : {l : Link} → None ≡ Some l → ⊥
    none e = absurd cc
takes_within (Some l) taken = by l.going_on refl
  where
    same : {k : Link} → Some l ≡ Some k → k ≡ l
    same e = cc

    by : (b : Bool) → l.going_on ≡ b → unless_going_on b l.happened
    by true e = tt
    by false e = left_is l.happened
        (subst (λ (k : Link). k.going_on ≡ false → has_credit k.happened ≡ true) (same taken.here) taken.starts e)

sent_within : (t : List Entry) (ps : List Put) → AllSent t ps → WithinCredit t → WithinCredit (goes ps t)
sent_within t [] sent within = within
sent_within t (p ∷ []) sent within = (
  subst (λ (i : Item). within_credit i (link t p.conn)) (sym sent.transfer.frame)
      (subst (λ (h : ℕ). starts_within (link t p.conn sent.own h)) (sym sent.transfer.on_handle) (takes_within (link t p.conn sent.own sent.handle) sent.takes)),
  within,
)
sent_within t (p ∷ q ∷ qs) sent within = absurd sent

-- a drain moves the count forward by the credit left

forward : (at k : ℕ) → at < 2 ^ 32 → k < 2 ^ 32 → distance at ((at + k) % 2 ^ 32) ≤ k
forward at k small most = grind arith

halved : (n : ℕ) → nat_lt n (2 ^ 31) ≡ true → n < 2 ^ 32
halved n small = grind (arith, nat_tests)

nothing_small : 0 < 2 ^ 32
nothing_small = omega arith

left_small : (end at : ℕ) → left end at < 2 ^ 32
left_small end at = by (distance at end) (nat_lt (distance at end) (2 ^ 31)) refl
  where
    by : (d : ℕ) (b : Bool) → nat_lt d (2 ^ 31) ≡ b → (if b then d else 0) < 2 ^ 32
    by d true e = halved d e
    by d false e = nothing_small

credit_small : (list : credits.Link) → credit list < 2 ^ 32
credit_small list = by (granted list)
  where
    by : (g : Option Grant) → left_of g (count list) < 2 ^ 32
    by None = nothing_small
    by (Some g) = left_small (limit g) (count list)

drain_within : (t : List Entry) (a : Attachment) (s : Option Session) (v : Option Link) → link_of t a ≡ v → WithinCredit t → WithinCredit (goes (drain_on a s v) t)
drain_within t a None v there within = within
drain_within t a (Some s) None there within = within
drain_within t a (Some s) (Some l) there within = by l.happened refl
  where
    by : (w : Happened) → l.happened ≡ w → WithinCredit (goes (drain_of a (told_of s) w) t)
    by (sends list) is = (
      subst (λ (v : Option Link). counts_within (Some ((count list + credit list) % 2 ^ 32)) v) (sym there)
          (subst (λ (w : Happened). counts_on (Some ((count list + credit list) % 2 ^ 32)) w) (sym is)
          (forward (count list) (credit list) (count_small list) (credit_small list))),
      within,
    )
    by (receives list) is = within

drains_within : (t : List Entry) → WithinCredit t → WithinCredit (goes (drains_due t) t)
drains_within t within = by (first_placed no_rank (attachments t + 1) (λ n. place_drained t n (numbered t n)))
  where
    by : (p : Option Placed) → WithinCredit (goes (drain_by t p) t)
    by None = within
    by (Some p) = drain_within t p.place (session t p.place.conn.0 p.place.channel) (link_of t p.place) refl within

-- grants are flows on links on which the router is the receiver

abbrev Receives : Option Link → Type 0
Receives None = ⊥
Receives (Some l) = is_sending l.happened ≡ false

receives_within : (n : ℕ) (v : Option Link) → Receives v → counts_within (Some n) v
receives_within n None inward = inward
receives_within n (Some l) inward = by l.happened inward
  where
    by : (w : Happened) → is_sending w ≡ false → counts_on (Some n) w
    by (sends list) inward = absurd cc
    by (receives list) inward = tt

flow_mapped : (q : Bool) (f : Flow) (v : Option Link) → Receives v → Receives (if q then option_map (after_our_flow f) v else v)
flow_mapped true f None inward = inward
flow_mapped true f (Some l) inward = by l.happened inward
  where
    by : (w : Happened) → is_sending w ≡ false → is_sending (flowed_from f w) ≡ false
    by (sends list) inward = absurd cc
    by (receives list) inward = refl
flow_mapped false f v inward = inward

receives_still : (d own : ℕ) (told : FlowState) (at : LinkState) (t : List Entry) (c o h : ℕ) → Receives (link t c o h) → Receives (link (Out d (link_flow_item own told at) ∷ t) c o h)
receives_still d own told at t c o h inward =
    by_test (d == c) (λ e. rw e (flow_mapped ((own == o) && (at.handle == h)) (link_flow told at) (link t c o h) inward)) (λ e. rw e inward)

record IsGrant (t : List Entry) (p : Put) : Type 0 where
  own : ℕ
  told : FlowState
  at : LinkState
  flow : p.item ≡ link_flow_item own told at
  inward : Receives (link t p.conn own at.handle)

abbrev AreGrants : List Entry → List Put → Type 0
AreGrants t [] = Unit {0}
AreGrants t (p ∷ ps) = IsGrant t p × AreGrants t ps

still_grants : (d own : ℕ) (told : FlowState) (at : LinkState) (t : List Entry) (ps : List Put) → AreGrants t ps → AreGrants (Out d (link_flow_item own told at) ∷ t) ps
still_grants d own told at t [] all = tt
still_grants d own told at t (p ∷ ps) all = (
  record {
    own = all.0.own;
    told = all.0.told;
    at = all.0.at;
    flow = all.0.flow;
    inward = receives_still d own told at t p.conn all.0.own all.0.at.handle all.0.inward;
  },
  still_grants d own told at t ps all.1,
)

granted_within : (t : List Entry) (ps : List Put) → AreGrants t ps → WithinCredit t → WithinCredit (goes ps t)
granted_within t [] all within = within
granted_within t (p ∷ ps) all within =
    let g = all.0 in
    granted_within (Out p.conn p.item ∷ t) ps
    (subst (λ (i : Item). AreGrants (Out p.conn i ∷ t) ps) (sym g.flow) (still_grants p.conn g.own g.told g.at t ps all.1))
    (subst (λ (i : Item). within_credit i (link t p.conn)) (sym g.flow) (receives_within g.at.count (link t p.conn g.own g.at.handle) g.inward), within)

abbrev GoTo : List Entry → List LinkGrant → Type 0
GoTo t [] = Unit {0}
GoTo t (g ∷ gs) = Receives (link t g.at.conn.0 g.at.channel g.state.handle) × GoTo t gs

more_go : (t : List Entry) (gs hs : List LinkGrant) → GoTo t gs → GoTo t hs → GoTo t (gs ++ hs)
more_go t [] hs first rest = rest
more_go t (g ∷ gs) hs first rest = (first.0, more_go t gs hs first.1 rest)

go_on : (t : List Entry) (number : ℕ) (a : Attachment) (amount : ℕ) (v : Option Link) → link_of t a ≡ v → GoTo t (grant_on t number a amount v)
go_on t number a amount None there = tt
go_on t number a amount (Some l) there = by (l.number == number) l.happened refl
  where
    by : (b : Bool) (w : Happened) → l.happened ≡ w → GoTo t (if b then grant_by a (owed_credit t l + amount) w else [])
    by true (sends list) is = tt
    by true (receives list) is = (subst (λ (v : Option Link). Receives v) (sym there) (ap is_sending is), tt)
    by false w is = tt

go_at : (t : List Entry) (number amount : ℕ) (v : Option Attachment) → GoTo t (grant_at t number amount v)
go_at t number amount None = tt
go_at t number amount (Some a) = go_on t number a amount (link_of t a) refl

all_go : (t : List Entry) (sums : List (ℕ × ℕ)) → GoTo t (grants_on t sums)
all_go t [] = tt
all_go t (sum ∷ sums) = more_go t (grant_at t sum.0 sum.1 (numbered t sum.0)) (grants_on t sums) (go_at t sum.0 sum.1 (numbered t sum.0)) (all_go t sums)

grants_go : (t : List Entry) → GoTo t (grants t)
unfolding grants
grants_go t = by (first_address t)
  where
    by : (v : Option (List ℕ)) → GoTo t (grants_of_address t v)
    by None = tt
    by (Some address) = all_go t (sums_at t address)

are_grants : (t : List Entry) (gs : List LinkGrant) → GoTo t gs → AreGrants t (grant_flows t gs)
are_grants t [] go = tt
are_grants t (g ∷ gs) go = by (session t g.at.conn.0 g.at.channel) (are_grants t gs go.1)
  where
    by : (v : Option Session) → AreGrants t (grant_flows t gs) → AreGrants t (grant_flow g v ++ grant_flows t gs)
    by None rest = rest
    by (Some s) rest = (record { own = g.at.channel; told = told_of s; at = g.state; flow = refl; inward = go.0 }, rest)

passed_within : Steps WithinCredit
passed_within = record {
  telling = λ t within. bare_goes (tells t) t (bare_tells t) within;
  sending = λ t within. sent_within t (sends_due t) (sends_sent t) within;
  draining = λ t within. drains_within t within;
  granting = λ t within. granted_within t (grants_due t) (are_grants t (grants t) (grants_go t)) within;
}

-- an event with all that it put out

ends_within : (id : List ℕ) (cs : List ℕ) (t : List Entry) → WithinCredit t → WithinCredit (ends id cs t)
ends_within id [] t within = within
ends_within id (c ∷ cs) t within =
    let items : List Item = closing_of id (conn t c) ResourceLimitExceeded
    in ends_within id cs (puts c items t) (bare_goes (each_to c items) t (bare_to c items (bare_closing_of id (conn t c) ResourceLimitExceeded)) within)

bound_within : (b : Option Binding) (t : List Entry) → WithinCredit t → WithinCredit (with_bound b t)
bound_within None t within = within
bound_within (Some b) t within = within

-- the row of an event: a flow that the peer asked for tells the count of its link

same_told : (known seen : ℕ → ℕ → Option Link) (a : Answer) → ((o h : ℕ) → seen o h ≡ known o h) → Tells known a → Tells seen a
same_told known seen (LinkFlow own told at) same tells_it = subst (λ (v : Option Link). counts_within (Some at.count) v) (sym (same own at.handle)) tells_it
same_told known seen _ same tells_it = tt

bound_link : (b : Option Binding) (u : List Entry) (c o h : ℕ) → link (with_bound b u) c o h ≡ link u c o h
bound_link None u c o h = refl
bound_link (Some b) u c o h = refl

item_within : (id : List ℕ) (t : List Entry) (s : Step) (b : Option Binding) (d : ConnectionId) (i : Item) (v : Option Conn) → s.event ≡ event.Item d i
    → standing (found t (event.Item d i) d.0) ≡ v → WithinCredit (with_bound b (heard id t s))
    → WithinCredit (goes (item_row id t (heard id t s) d.0 i v) (with_bound b (heard id t s)))
item_within id t s b d i None is stands within = within
item_within id t s b d i (Some p) is stands within =
    let u : List Entry = heard id t s in
    let v : List Entry = with_bound b u in
    item_bare id t u d.0 p (λ a ps. Tells (link v d.0) a → WithinCredit (goes ps v))
    (λ a ps bare tells_it. bare_goes ps v bare within)
    (λ own told at tells_it. (tells_it, within))
    i (answer_of t d.0 p i)
    (same_told (link (Did s ∷ t) d.0) (link v d.0) (answer_of t d.0 p i)
    (λ o h. bound_link b u d.0 o h ∙ (ends_view id (due t s.event) (Did s ∷ t) d.0 spared).links o h)
    (answer_told t s d i p is))
  where
    spared : has d.0 (due t s.event) ≡ false
    spared =
        subst (λ (e : Event). has d.0 (due t e) ≡ false) (sym is)
        (found_live t (event.Item d i) d.0 (ap (λ (x : Option Conn). is_some x) stands)).spared

row_within : (id : List ℕ) (t : List Entry) (s : Step) (b : Option Binding) → WithinCredit (with_bound b (heard id t s))
    → WithinCredit (goes (own_row id t (heard id t s) s.event) (with_bound b (heard id t s)))
row_within id t s b within = by s.event refl
  where
    by : (e : Event) → s.event ≡ e → WithinCredit (goes (own_row id t (heard id t s) e) (with_bound b (heard id t s)))
    by (event.Item d i) is = item_within id t s b d i (standing (found t (event.Item d i) d.0)) is refl within
    by (event.Down d) is = within
    by (event.Tick ms) is = bare_goes _ (with_bound b (heard id t s)) (bare_beats t ms (live_of (ups t) (found t (event.Tick ms)))) within
    by (event.Up d p) is = within
    by event.Start is = within

answered_within : (id : List ℕ) (t : List Entry) (s : Step) → WithinCredit t → WithinCredit (answered id t s)
answered_within id t s within =
    let u : List Entry = heard id t s
    in let behind : WithinCredit u = ends_within id (due t s.event) (Did s ∷ t) within
    in let rows : WithinCredit (replied id t s)
    = copied_keeps WithinCredit (λ b v w. bound_within (Some b) v w) t u s.event (goes (own_row id t u s.event) (with_bound (bound_by t u s.event) u))
    (row_within id t s (bound_by t u s.event) (bound_within (bound_by t u s.event) u behind))
    in let next : List Entry = resumed t s.event (replied id t s)
    in let all : WithinCredit (passed_on next)
    = passed_keeps WithinCredit passed_within next (resumed_keeps WithinCredit (λ b v w. bound_within (Some b) v w) t s.event (replied id t s) rows)
    in bare_goes (windows (passed_on next)) (passed_on next) (bare_window (passed_on next)) all

-- moves

pub moves_within : (id : List ℕ) (ms : List Move) (t u : List Entry) → WithinCredit t → Goes id ms t u → WithinCredit u
moves_within id [] t u within went = subst (λ (w : List Entry). WithinCredit w) (sym went) within
moves_within id (handles s ∷ ms) t u within went = moves_within id ms (handled id t s) u (answered_within id (booked t s.event) s (booked_keeps WithinCredit t s.event (λ acts w. w) within)) went.1
moves_within id (takes x ∷ ms) t u within went = moves_within id ms (took_one x t) u within went

pub trace_starts_within : (id : List ℕ) (g : Beginning) (u : List Entry) → IsTrace id g u → WithinCredit u
trace_starts_within id g u trace = moves_within id trace.0 (beginning g) u tt trace.1
