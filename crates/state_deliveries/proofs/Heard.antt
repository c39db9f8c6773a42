-- How a peer's item changes a delivery, by how a table changes it.
use Rattle.std.proofs.Common.{◌≡◌, ◌∙◌, ℕ, Bool, true, false, refl, sym, ap, List, ◌∷◌, Option, Some, None}
use Rattle.std.specs.Prelude.{◌&&◌, ◌||◌, ◌==◌, if◌then◌else◌, is_none, not}
use Rattle.std.specs.Option.{option_and_then}
use Rattle.std.proofs.lemmas.Bool.{eqb-true}
use Rattle.amqp_session.specs.Ranges.{in_range}
use Rattle.amqp_model.specs.declared.perf.Disposition.{Disposition}
use Rattle.amqp_model.specs.declared.perf.Perf.TheVariants as perf
use Rattle.amqp_model.specs.declared.perf.Role.{Role}
use Rattle.amqp_model.specs.declared.perf.Role.TheVariants.{Sender, Receiver}
use Rattle.amqp_model.specs.declared.state.DeliveryState.{DeliveryState}
use Rattle.amqp_model.specs.declared.item.Item.{Item}
use Rattle.amqp_model.specs.declared.item.Item.TheVariants as item
use Rattle.book_model.specs.declared.act.Act.{Act}
use Rattle.router_trace.specs.declared.binding.Origin.{Origin}
use Rattle.router_trace.specs.declared.event.ConnectionId.{ConnectionId}
use Rattle.router_trace.specs.declared.event.Event.TheVariants as event
use Rattle.router_trace.specs.declared.channel.PeerChannel.{PeerChannel}
use Rattle.router_trace.specs.Trace.{Trace, did}
use Rattle.router_trace.specs.Sessions.{maps, is_channel}
use Rattle.router_trace.specs.Deliveries.{Delivery, source, delivery, unless_over, is_undecided, disposed, decided, is_on, is_meant, is_named, is_number, is_settled_at, stands_on, untold, last_of, decision, terminal, named, channels_found, acts_found, giving}
use Rattle.state_deliveries.specs.declared.change.Change.{Change}
use Rattle.state_deliveries.specs.declared.change.Change.TheVariants as change
use Rattle.router_trace.specs.Channels.{channel_of}
use Rattle.state_deliveries.specs.Hearing.{heard_change, disposed_change, decided_by, heard_by, is_named_in}
use Rattle.state_deliveries.specs.Naming.{Remembers, is_open}
use Rattle.state_deliveries.specs.Stepping.{changed, after_change, after_any, comes_with_id, untold_by, is_in, IsKept}
use Rattle.router_trace.proofs.Numbers.{equal_back}
use Rattle.state_deliveries.specs.Giving.{after_acts}
use Rattle.state_deliveries.proofs.Given.{no_acts}
use Rattle.state_deliveries.proofs.Puts.{kept, kept_after}

-- a change of a delivery that may exist
abbrev by : (Delivery → Delivery) → Option Delivery → Option Delivery
by f v = option_and_then (λ d. unless_over (f d)) v

quiet : (f : Delivery → Delivery) (v : Option Delivery) → IsKept v → ((d : Delivery) → v ≡ Some d → f d ≡ d) → v ≡ by f v
quiet f None keeps same = refl
quiet f (Some d) keeps same = sym keeps ∙ ap unless_over (sym (same d refl))

does : (f : Delivery → Delivery) (x : Change) (v : Option Delivery) → ((d : Delivery) → f d ≡ changed x d) → after_change x v ≡ by f v
does f x None same = refl
does f x (Some d) same = ap unless_over (sym (same d))

and_false : (b : Bool) → (b && false) ≡ false
and_false true = refl
and_false false = refl

-- a disposition of a producer, which settles
settles : (x : Disposition) (c own : ℕ) (v : Option PeerChannel) → ((o : ℕ) → (own == o) ≡ maps v o) → (p : Option Origin)
    → is_settled_at x c v p ≡ (x.settled && comes_with_id p c own x.first (last_of x))
settles x c own v same None = sym (and_false x.settled)
settles x c own v same (Some p) =
    rw (sym (same p.link.channel), equal_back own p.link.channel) (three x.settled ((p.link.conn.0 == c) && (own == p.link.channel)) (in_range x.first (last_of x) p.id))
  where
    three : (a b d : Bool) → ((a && b) && d) ≡ (a && (b && d))
    three true b d = refl
    three false b d = refl

sent_by_producer : (x : Disposition) (c own n : ℕ) (names : ℕ → ℕ → Option ℕ) (v : Option PeerChannel) → ((o : ℕ) → (own == o) ≡ maps v o) → (old : Option Delivery) → IsKept old
    → after_any (untold_by c own x) old ≡ by (λ d. disposed Sender x c v (names d.link.channel) n d) old
sent_by_producer x c own n names v same old keeps = by_settled x.settled refl
  where
    step : (d : Delivery) → disposed Sender x c v (names d.link.channel) n d ≡ (if x.settled && comes_with_id (source d) c own x.first (last_of x) then untold d else d)
    step d = ap (λ b. if b then untold d else d) (settles x c own v same (source d))

    by_settled : (b : Bool) → x.settled ≡ b → after_any (if b then Some (change.Untold c own x.first (last_of x)) else None) old ≡ by (λ d. disposed Sender x c v (names d.link.channel) n d) old
    by_settled true e = does (λ d. disposed Sender x c v (names d.link.channel) n d) (change.Untold c own x.first (last_of x)) old
        (λ d. step d ∙ ap (λ b. if b && comes_with_id (source d) c own x.first (last_of x) then untold d else d) e)
    by_settled false e = quiet (λ d. disposed Sender x c v (names d.link.channel) n d) old keeps
        (λ d is. step d ∙ ap (λ b. if b && comes_with_id (source d) c own x.first (last_of x) then untold d else d) e)

-- a disposition of a consumer without an outcome, ...
none_meant : (x : Disposition) (o : Option ℕ) → is_meant x o ≡ is_in o x.first (last_of x)
none_meant x None = refl
none_meant x (Some id) = refl

as_it_was : (d : Delivery) (made : Option DeliveryState) → is_undecided d ≡ true → made ≡ None → record d { outcome = made } ≡ d
as_it_was d made undecided is = rw is (ap (λ o. record d { outcome = o }) (sym (none_of d.outcome undecided)))
  where
    none_of : (o : Option DeliveryState) → (is_none o && not (d.presettled || d.suspended)) ≡ true → o ≡ None
    none_of None e = refl
    none_of (Some s) e = absurd cc

untouched : (x : Disposition) (names : ℕ → Option ℕ) (n : ℕ) (d : Delivery) → decision x.settled (terminal x.state) ≡ None → decided x names n d ≡ d
untouched x names n d none = by_tests (is_undecided d) (is_meant x d.id) (is_named d.id names n) refl
  where
    by_tests : (u m k : Bool) → is_undecided d ≡ u → (if u && m && k then record d { outcome = decision x.settled (terminal x.state) } else d) ≡ d
    by_tests true true true e = as_it_was d (decision x.settled (terminal x.state)) e none
    by_tests true true false e = refl
    by_tests true false k e = refl
    by_tests false m k e = refl

-- ... and one with an outcome: the table's names and the trace agree on an undecided delivery
same_name : (t : Trace) (n id : ℕ) (stored view : ℕ → Option ℕ) → Remembers t (stored id) (view id) → is_open (delivery t n) ≡ true → is_number (view id) n ≡ is_number (stored id) n
same_name t n id stored view x undecided = by_entries (stored id) (view id) x
  where
    by_entries : (s v : Option ℕ) → Remembers t s v → is_number v n ≡ is_number s n
    by_entries (Some m) v x = ap (λ w. is_number w n) x
    by_entries None None x = refl
    by_entries None (Some m) x = other (m == n) refl
      where
        contra : is_open (delivery t m) ≡ false → m ≡ n → ⊥
        contra closed same = let open_there : is_open (delivery t m) ≡ true = ap (λ k. is_open (delivery t k)) same ∙ undecided in absurd (cc)

        other : (b : Bool) → (m == n) ≡ b → (m == n) ≡ false
        other true e = absurd (contra x (eqb-true m n e))
        other false e = e

same_names : (t : Trace) (n : ℕ) (o : Option ℕ) (stored view : ℕ → Option ℕ) → ((id : ℕ) → Remembers t (stored id) (view id)) → is_open (delivery t n) ≡ true → is_named o view n ≡ is_named o stored n
same_names t n None stored view x undecided = refl
same_names t n (Some id) stored view x undecided = same_name t n id stored view (x id) undecided

decided_here : (x : Disposition) (c own n : ℕ) (t : Trace) (stored : ℕ → ℕ → Option ℕ) (v : Option PeerChannel) (made : DeliveryState)
    → ((o : ℕ) → (own == o) ≡ maps v o) → ((o id : ℕ) → Remembers t (stored o id) (named t c o id)) → decision x.settled (terminal x.state) ≡ Some made
    → (d : Delivery) → delivery t n ≡ Some d
    → disposed Receiver x c v (named t c d.link.channel) n d
    ≡ (if is_named_in x.first (last_of x) (stored own) n (Some d) then changed (change.Decided c own x.first (last_of x) made) d else d)
decided_here x c own n t stored v made same remembers is d there = by_link (d.link.conn.0 == c) (own == d.link.channel) refl refl
  where
    by_names : (u i k l : Bool) → (u ≡ true → k ≡ l) → (if u && i && k then record d { outcome = Some made } else d)
        ≡ (if i && l then (if u && (true && i) then record d { outcome = Some made } else d) else d)
    by_names true true k l e = ap (λ b. if b then record d { outcome = Some made } else d) (e refl)
    by_names true false k l e = refl
    by_names false true k true e = refl
    by_names false true k false e = refl
    by_names false false k l e = refl

    not_here : (i l u b : Bool) → b ≡ false → d ≡ (if i && l then (if u && (b && i) then record d { outcome = Some made } else d) else d)
    not_here true true true b e = rw e refl
    not_here true true false b e = refl
    not_here true false u b e = refl
    not_here false l u b e = refl

    names : ℕ → Option ℕ
    names = named t c d.link.channel

    on : (b h : Bool) → (d.link.conn.0 == c) ≡ b → (own == d.link.channel) ≡ h → disposed Receiver x c v names n d ≡ (if b && h then decided x names n d else d)
    on b h e f = ap (λ y. if y && maps v d.link.channel then decided x names n d else d) e
        ∙ ap (λ y. if b && y then decided x names n d else d) (sym (same d.link.channel) ∙ f)

    stands : (b h : Bool) → (d.link.conn.0 == c) ≡ b → (own == d.link.channel) ≡ h → stands_on d.link c own ≡ (b && h)
    stands b h e f = ap (λ y. y && (d.link.channel == own)) e ∙ ap (λ y. b && y) (equal_back own d.link.channel ∙ f)

    shown : decided x (named t c own) n d ≡ (if is_undecided d && is_in d.id x.first (last_of x) && is_named d.id (named t c own) n then record d { outcome = Some made } else d)
    shown = ap (λ y. if is_undecided d && y && is_named d.id (named t c own) n then record d { outcome = decision x.settled (terminal x.state) } else d) (none_meant x d.id)
        ∙ ap (λ s. if is_undecided d && is_in d.id x.first (last_of x) && is_named d.id (named t c own) n then record d { outcome = s } else d) is

    middle : (b h : Bool) → (own == d.link.channel) ≡ h → (if b && h then decided x names n d else d)
        ≡ (if is_in d.id x.first (last_of x) && is_named d.id (stored own) n then (if is_undecided d && ((b && h) && is_in d.id x.first (last_of x)) then record d { outcome = Some made } else d) else d)
    middle true true f = ap (λ k. decided x (named t c k) n d) (sym (eqb-true own d.link.channel f)) ∙ shown
        ∙ by_names (is_undecided d) (is_in d.id x.first (last_of x)) (is_named d.id (named t c own) n) (is_named d.id (stored own) n)
        (λ u. same_names t n d.id (stored own) (named t c own) (remembers own) (ap is_open there ∙ u))
    middle true false f = not_here (is_in d.id x.first (last_of x)) (is_named d.id (stored own) n) (is_undecided d) false refl
    middle false h f = not_here (is_in d.id x.first (last_of x)) (is_named d.id (stored own) n) (is_undecided d) false refl

    by_link : (b h : Bool) → (d.link.conn.0 == c) ≡ b → (own == d.link.channel) ≡ h
        → disposed Receiver x c v names n d
        ≡ (if is_named_in x.first (last_of x) (stored own) n (Some d) then changed (change.Decided c own x.first (last_of x) made) d else d)
    by_link b h e f = on b h e f ∙ middle b h f
        ∙ sym (ap (λ s. if is_in d.id x.first (last_of x) && is_named d.id (stored own) n then (if is_undecided d && (s && is_in d.id x.first (last_of x)) then record d { outcome = Some made } else d) else d) (stands b h e f))

-- a disposition of a consumer
sent_by_consumer : (x : Disposition) (c own n : ℕ) (t : Trace) (stored : ℕ → ℕ → ℕ → Option ℕ) (v : Option PeerChannel) (made : Option DeliveryState)
    → ((o : ℕ) → (own == o) ≡ maps v o) → ((o id : ℕ) → Remembers t (stored c o id) (named t c o id)) → decision x.settled (terminal x.state) ≡ made
    → (old : Option Delivery) → delivery t n ≡ old → IsKept old
    → heard_by (decided_by c own x made) stored n old ≡ by (λ d. disposed Receiver x c v (named t c d.link.channel) n d) old
sent_by_consumer x c own n t stored v None same remembers is old there keeps =
    quiet (λ d. disposed Receiver x c v (named t c d.link.channel) n d) old keeps (λ d e. either (is_on d.link c v) d)
  where
    either : (b : Bool) (d : Delivery) → (if b then decided x (named t c d.link.channel) n d else d) ≡ d
    either true d = untouched x (named t c d.link.channel) n d is
    either false d = refl
sent_by_consumer x c own n t stored v (Some made) same remembers is None there keeps = refl
sent_by_consumer x c own n t stored v (Some made) same remembers is (Some d) there keeps =
    by_test (is_named_in x.first (last_of x) (stored c own) n (Some d)) ∙ ap unless_over (sym (decided_here x c own n t (stored c) v made same remembers is d there))
  where
    by_test : (b : Bool) → (if b then unless_over (changed (change.Decided c own x.first (last_of x) made) d) else Some d) ≡ unless_over (if b then changed (change.Decided c own x.first (last_of x) made) d else d)
    by_test true = refl
    by_test false = sym keeps

disposes : (r : Role) (x : Disposition) (c n : ℕ) (own : Option ℕ) (t : Trace) (stored : ℕ → ℕ → ℕ → Option ℕ) (v : Option PeerChannel)
    → ((o : ℕ) → is_channel own o ≡ maps v o) → ((o id : ℕ) → Remembers t (stored c o id) (named t c o id))
    → heard_by (disposed_change r c own x) stored n (delivery t n) ≡ by (λ d. disposed r x c v (named t c d.link.channel) n d) (delivery t n)
disposes Sender x c n None t stored v same remembers =
    quiet (λ d. disposed Sender x c v (named t c d.link.channel) n d) (delivery t n) (kept t n) (λ d e. ap (λ b. if b then untold d else d) (by_origin (source d)))
  where
    by_origin : (p : Option Origin) → is_settled_at x c v p ≡ false
    by_origin None = refl
    by_origin (Some p) = rw (sym (same p.link.channel)) (three x.settled (p.link.conn.0 == c) (in_range x.first (last_of x) p.id))
      where
        three : (a b e : Bool) → ((a && (b && false)) && e) ≡ false
        three true true e = refl
        three true false e = refl
        three false b e = refl
disposes Receiver x c n None t stored v same remembers =
    quiet (λ d. disposed Receiver x c v (named t c d.link.channel) n d) (delivery t n) (kept t n)
    (λ d e. ap (λ b. if (d.link.conn.0 == c) && b then decided x (named t c d.link.channel) n d else d) (sym (same d.link.channel))
    ∙ ap (λ b. if b then decided x (named t c d.link.channel) n d else d) (and_false (d.link.conn.0 == c)))
disposes Sender x c n (Some own) t stored v same remembers =
    undone x.settled ∙ sent_by_producer x c own n (named t c) v same (delivery t n) (kept t n)
  where
    undone : (b : Bool) → heard_by (if b then Some (change.Untold c own x.first (last_of x)) else None) stored n (delivery t n)
        ≡ after_any (if b then Some (change.Untold c own x.first (last_of x)) else None) (delivery t n)
    undone true = refl
    undone false = refl
disposes Receiver x c n (Some own) t stored v same remembers =
    sent_by_consumer x c own n t stored v (decision x.settled (terminal x.state)) same remembers refl (delivery t n) refl (kept t n)

-- what a change leaves isn't over
pub kept_heard : (x : Option Change) (names : ℕ → ℕ → ℕ → Option ℕ) (n : ℕ) (v : Option Delivery) → IsKept v → IsKept (heard_by x names n v)
kept_heard None names n v keeps = keeps
kept_heard (Some (change.Decided c own first last made)) names n v keeps = by_test (is_named_in first last (names c own) n v)
  where
    by_test : (b : Bool) → IsKept (if b then after_change (change.Decided c own first last made) v else v)
    by_test true = kept_after (changed (change.Decided c own first last made)) v
    by_test false = keeps
kept_heard (Some x) names n v keeps = kept_after (changed x) v

-- An item changes a delivery as a table is changed by its disposition, and then by the outcomes that its attach gives.
pub heard_follows : (conn : ConnectionId) (i : Item) (t : Trace) (n : ℕ) (own : Option ℕ) (stored : ℕ → ℕ → ℕ → Option ℕ)
    → (acts : List Act) → giving i acts ≡ giving i (acts_found t)
    → ((o : ℕ) → is_channel own o ≡ maps (channels_found t conn.0 (channel_of i)) o) → ((o id : ℕ) → Remembers t (stored conn.0 o id) (named t conn.0 o id))
    → after_acts (giving i acts) (heard_by (heard_change conn.0 own i) stored n (delivery t n)) ≡ delivery (did (event.Item conn i) ∷ t) n
heard_follows conn (item.Frame true channel body payload) t n own stored acts gives same remembers =
    no_acts (delivery t n) (kept t n) ∙ quiet (λ d. d) (delivery t n) (kept t n) (λ d e. refl)
heard_follows conn (item.Frame false channel (perf.Disposition x) payload) t n own stored acts gives same remembers =
    no_acts (heard_by (disposed_change x.role conn.0 own x) stored n (delivery t n)) (kept_heard (disposed_change x.role conn.0 own x) stored n (delivery t n) (kept t n))
    ∙ disposes x.role x conn.0 n own t stored (channels_found t conn.0 channel) same remembers
heard_follows conn (item.Frame false channel (perf.Attach x) payload) t n own stored acts gives same remembers = ap (λ a. after_acts a (delivery t n)) gives
heard_follows conn (item.Frame false channel body payload) t n own stored acts gives same remembers =
    no_acts (delivery t n) (kept t n) ∙ quiet (λ d. d) (delivery t n) (kept t n) (λ d e. refl)
heard_follows conn i t n own stored acts gives same remembers = no_acts (delivery t n) (kept t n) ∙ quiet (λ d. d) (delivery t n) (kept t n) (λ d e. refl)
