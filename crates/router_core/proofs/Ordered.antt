-- A trace in which each connection's items are written in a permitted order, and what is put into it.
use Rattle.std.proofs.Common.{◌≡◌, ◌∙◌, sym, ap, refl, subst, true≢false, ℕ, Bool, true, false, ◌&&◌, List, [], ◌∷◌, ◌++◌}
use Rattle.std.specs.Prelude.{◌==◌, nat_eq, Option, Some, None, is_none, is_some, option_map, if◌then◌else◌}
use Rattle.std.proofs.lemmas.Bool.{eqb-true, eq-eqb}
use Rattle.amqp_model.specs.declared.perf.Perf.{Perf}
use Rattle.amqp_model.specs.declared.perf.Perf.TheVariants as perf
use Rattle.amqp_model.specs.declared.perf.Begin.{Begin}
use Rattle.amqp_model.specs.declared.item.Item.{Item}
use Rattle.amqp_model.specs.declared.item.Item.TheVariants as item
use Rattle.amqp_conn.specs.declared.conn.Conn.{Conn}
use Rattle.amqp_session.specs.declared.states.BeginState.{BeginState}
use Rattle.amqp_session.specs.Session.{Session}
use Rattle.router_trace.specs.declared.binding.Binding.{Binding}
use Rattle.router_trace.specs.declared.binding.Origin.{Origin}
use Rattle.router_trace.specs.declared.condition.Condition.{Condition}
use Rattle.router_trace.specs.declared.condition.Condition.TheVariants.{ResourceLimitExceeded}
use Rattle.router_trace.specs.Trace.{Entry, Put, Out, goes, puts, each_to, ups, newest}
use Rattle.router_trace.specs.Connection.{Connection, conn, phase_after, after_perf, with_item, has}
use Rattle.router_trace.specs.Refusing.{reaches}
use Rattle.router_trace.specs.Frames.{closing}
use Rattle.router_trace.specs.Sessions.{session, offered, awaited, awaited_after, awaited_after_perf, unless_answering, begun, after_item, unless_close}
use Rattle.router_trace.specs.Sessions.{after_perf as session_after_perf}
use Rattle.router_trace.specs.Clocks.{terms}
use Rattle.router_trace.specs.Links.{link}
use Rattle.router_trace.specs.Deliveries.{named, origin_of, stands_on}
use Rattle.router_trace.specs.Claims.{Claim, bind_claim, bound_claim, claims}
use Rattle.router_trace.specs.Order.{Written, unwritten, begun_after_perf, begun_after, written_after, is_open, of_session, perf_has_turn, has_turn, have_turns}
use Rattle.state_messages.specs.Messages.{with_bound}
use Rattle.router_reply.specs.Replies.{closing_of, ends}
use Rattle.router_core.specs.Moves.{outs}
use Rattle.state_connections.proofs.Lists.{by_test}
use Rattle.state_connections.proofs.Turns.{stays, known}
use Rattle.router_core.proofs.RowOrder.{open_phase, written_of, has_begun, closing_turns, closing_offered, perf_is_offered, IsOffered, AreOffered}
use Rattle.router_core.proofs.Linked.{linked_more}
use Rattle.router_core.proofs.Once.{NoTwice, neither, has_first, has_rest}

-- what was written, with more items after it
abbrev pub written_all : List Item → Written → Written
written_all [] w = w
written_all (i ∷ is) w = written_all is (written_after i w)

-- what was written on a connection
abbrev pub wrote : List Entry → ℕ → Written
wrote t c = written_all (outs t c) unwritten

-- The state of a trace: each connection's items are written in a permitted order. What was written on a live one agrees with the phase of the
-- trace, with begins on the channels on which the trace has a session or awaits the peer's begin. A session begins only after an open, and a link
-- is on a session. Nothing was written on a connection that never came up, and the numbers of those that came up rise.
pub record Ordered (t : List Entry) : Type 0 where
  pub turns : (c : ℕ) → have_turns unwritten (outs t c) ≡ true
  pub phases : (c : ℕ) (v : Connection) → conn t c ≡ Some v → v.phase.closed ≡ false → (wrote t c).phase ≡ v.phase
  pub begun : (c : ℕ) (v : Connection) → conn t c ≡ Some v → v.phase.closed ≡ false → (o : ℕ)
      → (wrote t c).begun o ≡ has_begun (session t c o) (awaited t c o)
  pub opened : (c o : ℕ) → (wrote t c).begun o ≡ true → (wrote t c).phase.opened ≡ true
  pub linked : (c o h : ℕ) → is_some (link t c o h) ≡ true → of_session (wrote t c) o ≡ true
  pub unknown : (c : ℕ) → has c (ups t) ≡ false → outs t c ≡ []
  pub rise : (c : ℕ) → has c (ups t) ≡ true → reaches c (newest t) ≡ true
  pub once : NoTwice (ups t)

turns_push : (is : List Item) (w : Written) (i : Item) → have_turns w is ≡ true → has_turn (written_all is w) i ≡ true → have_turns w (is ++ i ∷ []) ≡ true
turns_push [] w i h k = ap (λ (b : Bool). if b then true else false) k
turns_push (j ∷ js) w i h k =
    by_test (has_turn w j) (λ e. rw e (turns_push js (written_after j w) i (rw e at h) k)) (λ e. absurd (true≢false (sym (rw e at h))))

pub wrote_push : (is : List Item) (w : Written) (i : Item) → written_all (is ++ i ∷ []) w ≡ written_after i (written_all is w)
wrote_push [] w i = refl
wrote_push (j ∷ js) w i = wrote_push js (written_after j w) i

pub with_inv : (i : Item) (o : Option Connection) (w : Connection) → option_map (with_item i) o ≡ Some w → (v : Connection) × (o ≡ Some v) × (with_item i v ≡ w)
with_inv i None w e = absurd cc
with_inv i (Some v) w e = (v, refl, cc)

-- the channels on which a begin is written are those on which the trace has a session or awaits the peer's begin
begun_some : (asked : Option BeginState) (x : Begin) → (if is_none x.remote_channel then true else is_some asked) ≡ true
    → true ≡ has_begun (begun asked x) (unless_answering x)
begun_some None x h = by_test (is_none x.remote_channel) (λ e. rw e refl) (λ e. absurd (true≢false (sym (rw e at h))))
begun_some (Some s) x h = by_test (is_none x.remote_channel) (λ e. rw e refl) (λ e. rw e refl)

map_some : (q : Bool) (f : Session → Session) (v : Option Session) (w : Option BeginState) → has_begun v w ≡ has_begun (if q then option_map f v else v) w
map_some true f None w = refl
map_some true f (Some h) w = refl
map_some false f v w = refl

begun_perf : (body : Perf) (p : Conn) (own o : ℕ) (b : ℕ → Bool) (asked : Option BeginState) (v : Option Session) (w : Option BeginState)
    → perf_is_offered body asked → (after_perf body p).closed ≡ false → b o ≡ has_begun v w
    → begun_after_perf body own b o ≡ has_begun (session_after_perf body own o asked v) (awaited_after_perf body own o w)
begun_perf (perf.Begin x) p own o b asked v w offer live h = by_test (own == o) (λ e. rw e (begun_some asked x offer)) (λ e. rw e h)
begun_perf (perf.Flow x) p own o b asked v w offer live h = h ∙ map_some (own == o) _ v w
begun_perf (perf.Transfer x) p own o b asked v w offer live h = h ∙ map_some (own == o) _ v w
begun_perf (perf.End x) p own o b asked v w offer live h = by_test (own == o) (λ e. rw e refl) (λ e. rw e h)
begun_perf (perf.Close x) p own o b asked v w offer live h = absurd cc
begun_perf _ p own o b asked v w offer live h = h

begun_more : (i : Item) (p : Conn) (o : ℕ) (b : ℕ → Bool) (asked : Option BeginState) (v : Option Session) (w : Option BeginState)
    → IsOffered i asked → (phase_after i p).closed ≡ false → b o ≡ has_begun v w
    → begun_after i b o ≡ has_begun (after_item i o asked v) (awaited_after i o w)
begun_more (item.Frame sasl own body payload) p o b asked v w offer live h = begun_perf body p own o b asked v w offer live h
begun_more _ p o b asked v w offer live h = h

-- sessions begin only on open connections
open_first : (p : Conn) (r : Bool) → (if is_open p then r else false) ≡ true → p.opened ≡ true
open_first p r h = by_test p.opened (λ e. e) (λ e. absurd (true≢false (sym (rw e at h))))

opened_perf : (body : Perf) (w : Written) (own o : ℕ) → perf_has_turn w own body ≡ true → (w.begun o ≡ true → w.phase.opened ≡ true)
    → begun_after_perf body own w.begun o ≡ true → (after_perf body w.phase).opened ≡ true
opened_perf (perf.Open x) w own o turn was h = refl
opened_perf (perf.Begin x) w own o turn was h = open_first w.phase _ turn
opened_perf (perf.End x) w own o turn was h = open_first w.phase _ turn
opened_perf _ w own o turn was h = was h

opened_more : (i : Item) (w : Written) (o : ℕ) → has_turn w i ≡ true → (w.begun o ≡ true → w.phase.opened ≡ true)
    → (written_after i w).begun o ≡ true → (written_after i w).phase.opened ≡ true
opened_more (item.Frame sasl own body payload) w o turn was h = opened_perf body w own o turn was h
opened_more _ w o turn was h = was h

-- an item that may be written next
pub out_turns : (t : List Entry) (c : ℕ) (i : Item) → Ordered t → has_turn (wrote t c) i ≡ true → IsOffered i (offered t c) → has c (ups t) ≡ true → Ordered (Out c i ∷ t)
out_turns t c i ord turn offer there = record {
  turns = λ k. by_test (c == k)
      (λ e. rw e (turns_push (outs t k) unwritten i (ord.turns k) (turn_at k e)))
      (λ e. rw e (ord.turns k));
  phases = λ k w. by_test (c == k)
      (λ e. rw e (λ is live. let v = with_inv i (conn t k) w is
      in ap (λ (x : Written). x.phase) (wrote_push (outs t k) unwritten i)
      ∙ ap (phase_after i) (ord.phases k v.0 v.1 (stays i v.0.phase (ap (λ (u : Connection). u.phase.closed) v.2 ∙ live)))
      ∙ ap (λ (u : Connection). u.phase) v.2))
      (λ e. rw e (ord.phases k w));
  begun = λ k w. by_test (c == k)
      (λ e. rw e (λ is live o. let v = with_inv i (conn t k) w is
      in let over : (phase_after i v.0.phase).closed ≡ false = ap (λ (u : Connection). u.phase.closed) v.2 ∙ live
      in ap (λ (x : Written). x.begun o) (wrote_push (outs t k) unwritten i)
      ∙ begun_more i v.0.phase o (wrote t k).begun (offered t k) (session t k o) (awaited t k o) (subst (λ (n : ℕ). IsOffered i (offered t n)) (eqb-true c k e) offer) over
      (ord.begun k v.0 v.1 (stays i v.0.phase over) o)))
      (λ e. rw e (ord.begun k w));
  opened = λ k o. by_test (c == k)
      (λ e. rw e (subst (λ (x : Written). x.begun o ≡ true → x.phase.opened ≡ true) (sym (wrote_push (outs t k) unwritten i))
      (opened_more i (wrote t k) o (turn_at k e) (ord.opened k o))))
      (λ e. rw e (ord.opened k o));
  linked = λ k o h. by_test (c == k)
      (λ e. rw e (λ some. subst (λ (x : Written). of_session x o ≡ true) (sym (wrote_push (outs t k) unwritten i))
      (linked_more i (wrote t k) o h _ t k _ (link t k o h) (turn_at k e) (ord.linked k o h) some)))
      (λ e. rw e (ord.linked k o h));
  unknown = λ k absent. by_test (c == k)
      (λ e. absurd (true≢false (sym (subst (λ (n : ℕ). has n (ups t) ≡ true) (eqb-true c k e) there) ∙ absent)))
      (λ e. rw e (ord.unknown k absent));
  rise = ord.rise;
  once = ord.once;
}
  where
    turn_at : (k : ℕ) → (c == k) ≡ true → has_turn (wrote t k) i ≡ true
    turn_at k e = subst (λ (n : ℕ). has_turn (wrote t n) i ≡ true) (eqb-true c k e) turn

-- a binding doesn't change what is written
pub bound_turns : (b : Option Binding) (t : List Entry) → Ordered t → Ordered (with_bound b t)
bound_turns None t ord = ord
bound_turns (Some b) t ord = record {
  turns = ord.turns;
  phases = ord.phases;
  begun = ord.begun;
  opened = ord.opened;
  linked = ord.linked;
  unknown = ord.unknown;
  rise = ord.rise;
  once = ord.once;
}

pub bound_ups : (b : Option Binding) (t : List Entry) → ups (with_bound b t) ≡ ups t
bound_ups None t = refl
bound_ups (Some b) t = refl

outs_same : (t : List Entry) (c : ℕ) (i : Item) → outs (Out c i ∷ t) c ≡ outs t c ++ i ∷ []
outs_same t c i = let e : (c == c) ≡ true = eq-eqb c c refl in rw e refl

offered_same : (t : List Entry) (c : ℕ) (i : Item) → offered (Out c i ∷ t) c ≡ unless_close i (offered t c)
offered_same t c i = let e : (c == c) ≡ true = eq-eqb c c refl in rw e refl

turn_first : (b r : Bool) → (if b then r else false) ≡ true → (b ≡ true) × (r ≡ true)
turn_first true r h = (refl, h)
turn_first false r h = absurd cc

-- items that may be written in this order
pub puts_turns : (is : List Item) (t : List Entry) (c : ℕ) → Ordered t → have_turns (wrote t c) is ≡ true → AreOffered is (offered t c) → has c (ups t) ≡ true → Ordered (puts c is t)
puts_turns [] t c ord turns offers there = ord
puts_turns (i ∷ is) t c ord turns offers there =
    let both = turn_first (has_turn (wrote t c) i) (have_turns (written_after i (wrote t c)) is) turns
    in puts_turns is (Out c i ∷ t) c (out_turns t c i ord both.0 offers.0 there)
    (subst (λ (w : Written). have_turns w is ≡ true) (sym (ap (λ js. written_all js unwritten) (outs_same t c i) ∙ wrote_push (outs t c) unwritten i)) both.1)
    (subst (λ (asked : Option BeginState). AreOffered is asked) (sym (offered_same t c i)) offers.1) there

-- a connection that doesn't change
pub record Spares (t u : List Entry) (k : ℕ) : Type 0 where
  pub conn : conn u k ≡ conn t k
  pub outs : outs u k ≡ outs t k
  pub session : (o : ℕ) → session u k o ≡ session t k o
  pub awaited : (o : ℕ) → awaited u k o ≡ awaited t k o
  pub offered : offered u k ≡ offered t k
  pub terms : terms u k ≡ terms t k
  pub link : (o h : ℕ) → link u k o h ≡ link t k o h
  pub named : (o id : ℕ) → named u k o id ≡ named t k o id
  pub claims : (o id : ℕ) → claims t k o id ≡ None → claims u k o id ≡ None

pub spares_self : (t : List Entry) (k : ℕ) → Spares t t k
spares_self t k = record {
  conn = refl;
  outs = refl;
  session = λ o. refl;
  awaited = λ o. refl;
  offered = refl;
  terms = refl;
  link = λ o h. refl;
  named = λ o id. refl;
  claims = λ o id none. none;
}

pub spares_on : (t u v : List Entry) (k : ℕ) → Spares t u k → Spares u v k → Spares t v k
spares_on t u v k f g = record {
  conn = g.conn ∙ f.conn;
  outs = g.outs ∙ f.outs;
  session = λ o. g.session o ∙ f.session o;
  awaited = λ o. g.awaited o ∙ f.awaited o;
  offered = g.offered ∙ f.offered;
  terms = g.terms ∙ f.terms;
  link = λ o h. g.link o h ∙ f.link o h;
  named = λ o id. g.named o id ∙ f.named o id;
  claims = λ o id none. g.claims o id (f.claims o id none);
}

spares_one : (t : List Entry) (c k : ℕ) (i : Item) → (c == k) ≡ false → Spares t (Out c i ∷ t) k
spares_one t c k i apart = record {
  conn = rw apart refl;
  outs = rw apart refl;
  session = λ o. rw apart refl;
  awaited = λ o. rw apart refl;
  offered = rw apart refl;
  terms = rw apart refl;
  link = λ o h. rw apart refl;
  named = λ o id. rw apart refl;
  claims = λ o id none. rw apart none;
}

none_bound : (p : Option Origin) (c o id : ℕ) (v : Option Claim) → v ≡ None → bind_claim p c o id v ≡ None
none_bound None c o id v none = none
none_bound (Some q) c o id v none = rw none (by (stands_on q.link c o && (q.id == id)))
  where
    by : (b : Bool) → (if b then option_map bound_claim None else None) ≡ None
    by true = refl
    by false = refl

pub bound_spares : (b : Option Binding) (t : List Entry) (k : ℕ) → Spares t (with_bound b t) k
bound_spares None t k = spares_self t k
bound_spares (Some b) t k = record {
  conn = refl;
  outs = refl;
  session = λ o. refl;
  awaited = λ o. refl;
  offered = refl;
  terms = refl;
  link = λ o h. refl;
  named = λ o id. refl;
  claims = λ o id none. none_bound (origin_of b.kind) k o id (claims t k o id) none;
}

-- items for other connections
abbrev pub Without : ℕ → List Put → Type 0
Without k [] = Unit {0}
Without k (p ∷ ps) = ((p.conn == k) ≡ false) × Without k ps

pub goes_spares : (ps : List Put) (t : List Entry) (k : ℕ) → Without k ps → Spares t (goes ps t) k
goes_spares [] t k none = spares_self t k
goes_spares (p ∷ ps) t k none =
    spares_on t (Out p.conn p.item ∷ t) (goes ps (Out p.conn p.item ∷ t)) k (spares_one t p.conn k p.item none.0) (goes_spares ps (Out p.conn p.item ∷ t) k none.1)

pub each_without : (is : List Item) (c k : ℕ) → (c == k) ≡ false → Without k (each_to c is)
each_without [] c k apart = tt
each_without (i ∷ is) c k apart = (apart, each_without is c k apart)

pub puts_spares : (is : List Item) (t : List Entry) (c k : ℕ) → (c == k) ≡ false → Spares t (puts c is t) k
puts_spares is t c k apart = goes_spares (each_to c is) t k (each_without is c k apart)

pub goes_ups : (ps : List Put) (t : List Entry) → ups (goes ps t) ≡ ups t
goes_ups [] t = refl
goes_ups (p ∷ ps) t = goes_ups ps (Out p.conn p.item ∷ t)

-- a connection whose close isn't written yet
pub record Pending (t : List Entry) (c : ℕ) : Type 0 where
  pub view : Connection
  pub known_as : conn t c ≡ Some view
  pub written : (wrote t c).phase ≡ open_phase view.phase.header view.phase.opened

closing_pending : (id : List ℕ) (t : List Entry) (c : ℕ) (x : Condition) → Pending t c → have_turns (wrote t c) (closing_of id (conn t c) x) ≡ true
closing_pending id t c x pending =
    subst (λ (o : Option Connection). have_turns (wrote t c) (closing_of id o x) ≡ true) (sym pending.known_as)
    (subst (λ (p : Conn). have_turns (written_of p (wrote t c).begun) (closing id pending.view.phase x) ≡ true) (sym pending.written)
    (closing_turns id pending.view.phase.header pending.view.phase.opened (wrote t c).begun x))

ends_offered : (id : List ℕ) (v : Option Connection) (x : Condition) (asked : Option BeginState) → AreOffered (closing_of id v x) asked
ends_offered id None x asked = tt
ends_offered id (Some v) x asked = closing_offered id v.phase x asked

pub some_is : (o : Option Connection) (v : Connection) → o ≡ Some v → is_some o ≡ true
some_is o v e = ap (λ (x : Option Connection). is_some x) e

-- the closes because of full outboxes
pub ends_turns : (id : List ℕ) (cs : List ℕ) (t : List Entry) → Ordered t → NoTwice cs → ((c : ℕ) → has c cs ≡ true → Pending t c) → Ordered (ends id cs t)
ends_turns id [] t ord once pending = ord
ends_turns id (c ∷ cs) t ord once pending =
    let here : Pending t c = pending c (has_first c cs)
    in let items : List Item = closing_of id (conn t c) ResourceLimitExceeded
    in ends_turns id cs (puts c items t)
    (puts_turns items t c ord (closing_pending id t c ResourceLimitExceeded here) (ends_offered id (conn t c) ResourceLimitExceeded (offered t c))
    (known t c (some_is (conn t c) here.view here.known_as)))
    once.1
    (λ k h. let apart : (c == k) ≡ false = by_test (c == k) (λ e. absurd (true≢false (sym h ∙ subst (λ (n : ℕ). has n cs ≡ false) (eqb-true c k e) once.0))) (λ e. e)
    in let there : Pending t k = pending k (has_rest k c cs h)
    in let same : Spares t (puts c items t) k = puts_spares items t c k apart
    in record {
      view = there.view;
      known_as = same.conn ∙ there.known_as;
      written = ap (λ js. (written_all js unwritten).phase) same.outs ∙ there.written;
    })

pub ends_spares : (id : List ℕ) (cs : List ℕ) (t : List Entry) (k : ℕ) → has k cs ≡ false → Spares t (ends id cs t) k
ends_spares id [] t k absent = spares_self t k
ends_spares id (c ∷ cs) t k absent =
    let both = neither (nat_eq c k) (has k cs) absent
    in let items : List Item = closing_of id (conn t c) ResourceLimitExceeded
    in spares_on t (puts c items t) (ends id cs (puts c items t)) k (puts_spares items t c k both.0) (ends_spares id cs (puts c items t) k both.1)

pub ends_ups : (id : List ℕ) (cs : List ℕ) (t : List Entry) → ups (ends id cs t) ≡ ups t
ends_ups id [] t = refl
ends_ups id (c ∷ cs) t =
    let items : List Item = closing_of id (conn t c) ResourceLimitExceeded
    in ends_ups id cs (puts c items t) ∙ goes_ups (each_to c items) t
