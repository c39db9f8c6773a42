-- What an event finds, and how it changes the table.
use Rattle.std.proofs.Common.{◌≡◌, ◌∙◌, sym, ap, refl, subst, ℕ, Bool, true, false, true≢false, not, ◌&&◌, List, [], ◌∷◌, ◌++◌, length, ◌<◌, ◌≤◌, append-nil, arith}
use Rattle.state_collections.specs.NumberMap.{at_number}
use Rattle.state_connections.specs.declared.connections.Connections.{Connections}
use Rattle.state_connections.specs.Fits.{ConnectionsFit, ConnectionsAt}
use Rattle.router_trace.specs.Refusing.{is_loss, rises, reaches}
use Rattle.std.specs.Prelude.{filter, nat_eq, nat_lt, ◌==◌, Option, Some, None, is_some, option_map, option_and_then, if◌then◌else◌}
use Rattle.std.proofs.lemmas.Bool.{eqb-true, eq-eqb, ltb-true, leb-true, le-leb}
use Rattle.std.proofs.lemmas.List.Elements.{filter_agree, filter-append}
use Rattle.amqp_model.specs.declared.perf.Perf.{Perf}
use Rattle.amqp_model.specs.declared.perf.Perf.TheVariants as perf
use Rattle.amqp_model.specs.declared.item.Item.{Item}
use Rattle.amqp_model.specs.declared.item.Item.TheVariants as item
use Rattle.amqp_conn.specs.declared.conn.Conn.{Conn}
use Rattle.router_trace.specs.declared.event.ConnectionId.{ConnectionId}
use Rattle.router_trace.specs.declared.event.Peer.{Peer}
use Rattle.router_trace.specs.declared.event.Event.{Event}
use Rattle.router_trace.specs.declared.event.Event.TheVariants as event
use Rattle.router_trace.specs.Trace.{Entry, Did, Out, Took, Bound, Booked, Routed, Began, did, ups, with_up, newest}
use Rattle.router_trace.specs.Routed.{passed_to}
use Rattle.router_trace.specs.Connection.{Connection, conn, phase_after, after_perf, with_item, with_passed, fresh, took, ended, standing, is_live, is_full, is_due, has, due, unless_due, found, phase_before, phase_found, live_of, at_event}
use Rattle.state_connections.proofs.Lists.{by_test, filter_both, filter_none, filter_agree_in, from_push, has_push, has_pushed, has_filter}

-- no connection is due if no outbox is full
pub due_none : (e : Event) (c : ℕ) (v : Option Connection) → is_full v ≡ false → is_due e c v ≡ false
due_none (event.Up d p) c v h = h
due_none (event.Item d i) c v h = h
due_none (event.Down d) c v h = by_test (d.0 == c) (λ e. rw e refl) (λ e. rw e h)
due_none (event.Tick ms) c v h = h
due_none event.Start c v h = h

-- only a live connection is due
pub due_lives : (e : Event) (c : ℕ) (v : Option Connection) → is_due e c v ≡ (is_live v && is_due e c v)
due_lives e c v = by_test (is_live v) (λ l. rw l refl) (λ l. rw l (due_none e c v (full_lives v l)))
  where
    full_lives : (v : Option Connection) → is_live v ≡ false → is_full v ≡ false
    full_lives None l = refl
    full_lives (Some v) l = by_test v.phase.closed (λ e. rw e refl) (λ e. absurd (true≢false (rw e at l)))

-- a connection that is over isn't live, and nothing else changes
pub over_lives : (b : Bool) (v : Option Connection) → is_live (if b then option_map ended v else v) ≡ (is_live v && not b)
over_lives true None = refl
over_lives true (Some v) = sym (and_false (is_live (Some v)))
  where
    and_false : (b : Bool) → (b && false) ≡ false
    and_false true = refl
    and_false false = refl
over_lives false v = sym (and_true (is_live v))
  where
    and_true : (b : Bool) → (b && true) ≡ b
    and_true true = refl
    and_true false = refl

-- an ended connection isn't full
pub full_found : (b : Bool) (v : Option Connection) → (b ≡ false → is_full v ≡ false) → is_full (if b then option_map ended v else v) ≡ false
full_found true None h = refl
full_found true (Some v) h = refl
full_found false v h = h refl

-- a full connection is due, if the event isn't a loss
pub due_full : (e : Event) (c : ℕ) (v : Option Connection) → not (is_loss e) ≡ true → is_full v ≡ true → is_due e c v ≡ true
due_full (event.Up d p) c v l h = h
due_full (event.Item d i) c v l h = h
due_full (event.Down d) c v l h = absurd cc
due_full (event.Tick ms) c v l h = h
due_full event.Start c v l h = h

some_map : (f : Connection → Connection) (v : Option Connection) → is_some (option_map f v) ≡ true → is_some v ≡ true
some_map f None h = h
some_map f (Some v) h = refl

some_then : (f : Connection → Option Connection) (v : Option Connection) → is_some (option_and_then f v) ≡ true → is_some v ≡ true
some_then f None h = h
some_then f (Some v) h = refl

some_if : {P : Type 0} (b : Bool) (x y : Option Connection) → (is_some x ≡ true → P) → (is_some y ≡ true → P) → is_some (if b then x else y) ≡ true → P
some_if true x y f g h = f h
some_if false x y f g h = g h

-- a connection that is known after an event has come up
known_at : (e : Event) (c n : ℕ) (v : Option Connection) (ks : List ℕ) → (is_some v ≡ true → has c ks ≡ true)
    → is_some (at_event e c n v) ≡ true → has c (with_up e ks) ≡ true
known_at (event.Up d p) c n v ks was h =
    by_test (d.0 == c) (λ e. has_pushed c d.0 ks (eqb-true d.0 c e))
    (λ e. has_push c d.0 ks (was (rw e at h)))
known_at (event.Item d i) c n v ks was h = was h
known_at (event.Down d) c n v ks was h = some_if (d.0 == c) None v (λ x. absurd cc) was h
known_at (event.Tick ms) c n v ks was h = was h
known_at event.Start c n v ks was h = was h

-- a known connection has come up
pub known : (t : List Entry) (c : ℕ) → is_some (conn t c) ≡ true → has c (ups t) ≡ true
known [] c h = absurd cc
known (Did s ∷ t) c h =
    known_at s.event c _ (unless_due (due t s.event) (conn t) c) (ups t)
    (λ k. some_if (has c (due t s.event)) (option_map ended (conn t c)) (conn t c) (λ m. known t c (some_map ended (conn t c) m)) (λ m. known t c m) k) h
known (Out d i ∷ t) c h =
    some_if (d == c) (option_map (with_item i) (conn t c)) (conn t c) (λ m. known t c (some_map (with_item i) (conn t c) m)) (λ m. known t c m) h
known (Bound b ∷ t) c h = known t c h
known (Booked acts full ∷ t) c h = known t c h
known (Routed passage ∷ t) c h = known t c (some_map (with_passed (passed_to passage c)) (conn t c) h)
known (Began g ∷ t) c h = absurd cc
known (Took d n ∷ t) c h =
    some_if (d == c) (option_and_then (took n) (conn t c)) (conn t c) (λ m. known t c (some_then (took n) (conn t c) m)) (λ m. known t c m) h

full_some : (v : Option Connection) → is_full v ≡ true → is_some v ≡ true
full_some None h = h
full_some (Some v) h = refl

unless_none : (ends : List ℕ) (known : ℕ → Option Connection) (c : ℕ) → ends ≡ [] → unless_due ends known c ≡ known c
unless_none ends known c e = ap (λ ks. unless_due ks known c) e

-- if no outbox is full, an event finds what the trace says
pub calm : (s : Connections) (t : List Entry) (e : Event) → ConnectionsFit s t → s.roomy ≡ true → (ConnectionsAt s t e) × (due t e ≡ [])
calm s t e fit r =
    let none : due t e ≡ [] = filter_none (λ k. is_due e k (conn t k)) (λ k. due_none e k (conn t k) (fit.roomy r k)) (ups t)
    in let same : (c : ℕ) → found t e c ≡ conn t c = λ c. unless_none (due t e) (conn t) c none
    in (
      record {
        rows = λ c. fit.rows c ∙ sym (same c);
        live = fit.live ∙ filter_agree (λ k. is_live (conn t k)) (λ k. is_live (found t e k)) (λ c. ap is_live (sym (same c))) (ups t);
        last = fit.last;
        rise = fit.rise;
        roomy = λ _ c. ap is_full (same c) ∙ fit.roomy r c;
      },
      none,
    )

-- how a turn changes the table
pub record Turned (old new : Connections) (e : Event) (ends : List ℕ) : Type 0 where
  pub gathered : ends ≡ filter (λ k. is_due e k (at_number old.rows k)) old.live.items
  pub rows : (c : ℕ) → at_number new.rows c ≡ unless_due ends (at_number old.rows) c
  pub live : new.live.items ≡ filter (λ k. not (has k ends)) old.live.items
  pub last : new.newest ≡ old.newest
  pub roomy : new.roomy ≡ not (is_loss e)

pub turned_due : (old : Connections) (t : List Entry) (e : Event) (ends : List ℕ) → ConnectionsFit old t
    → ends ≡ filter (λ k. is_due e k (at_number old.rows k)) old.live.items → ends ≡ due t e
turned_due old t e ends fit gathered =
    gathered
    ∙ ap (λ ks. filter (λ k. is_due e k (at_number old.rows k)) ks) fit.live
    ∙ filter_agree (λ k. is_due e k (at_number old.rows k)) (λ k. is_due e k (conn t k)) (λ k. ap (is_due e k) (fit.rows k)) (live_of (ups t) (conn t))
    ∙ sym (filter_both (λ k. is_live (conn t k)) (λ k. is_due e k (conn t k)) (λ k. is_due e k (conn t k)) (λ k. due_lives e k (conn t k)) (ups t))

same_over : (b : Bool) (v w : Option Connection) → v ≡ w → (if b then option_map ended v else v) ≡ (if b then option_map ended w else w)
same_over b v w e = ap (λ x. if b then option_map ended x else x) e

pub turned_at : (old new : Connections) (t : List Entry) (e : Event) (ends : List ℕ) → ConnectionsFit old t → Turned old new e ends → ConnectionsAt new t e
turned_at old new t e ends fit turned =
    let dues : ends ≡ due t e = turned_due old t e ends fit turned.gathered
    in record {
      rows = λ c. turned.rows c ∙ ap (λ ks. unless_due ks (at_number old.rows) c) dues ∙ same_over (has c (due t e)) (at_number old.rows c) (conn t c) (fit.rows c);
      live = turned.live
          ∙ ap (λ ks. filter (λ k. not (has k ks)) old.live.items) dues
          ∙ ap (λ ks. filter (λ k. not (has k (due t e))) ks) fit.live
          ∙ sym (filter_both (λ k. is_live (conn t k)) (λ k. not (has k (due t e))) (λ k. is_live (found t e k)) (λ k. over_lives (has k (due t e)) (conn t k)) (ups t));
      last = turned.last ∙ fit.last;
      rise = fit.rise;
      roomy = λ r c. full_found (has c (due t e)) (conn t c) (λ absent.
          by_test (is_full (conn t c))
          (λ f. absurd (true≢false (sym (has_filter (λ k. is_due e k (conn t k)) c (ups t) (due_full e c (conn t c) (sym turned.roomy ∙ r) f) (known t c (full_some (conn t c) f))) ∙ absent)))
          (λ f. f));
    }

-- an item's connection that its event didn't end first is found as it was
pub found_unended : (t : List Entry) (e : Event) (d : ConnectionId) (i : Item) (before : Option Conn) (ends : List ℕ) → e ≡ event.Item d i → has d.0 ends ≡ false → ends ≡ due t e
    → before ≡ phase_before t e → before ≡ phase_found t e
found_unended t e d i before ends is spared = subst (λ (x : Event). ends ≡ due t x → before ≡ phase_before t x → before ≡ phase_found t x) (sym is) by
  where
    stands : (b : Bool) (v : Option Connection) → b ≡ false → standing v ≡ standing (if b then option_map ended v else v)
    stands true v h = absurd cc
    stands false v h = refl

    by : ends ≡ due t (event.Item d i) → before ≡ phase_before t (event.Item d i) → before ≡ phase_found t (event.Item d i)
    by are was = was ∙ stands (has d.0 (due t (event.Item d i))) (conn t d.0) (ap (has d.0) (sym are) ∙ spared)

-- how an Up changes the table
pub record CameUp (old new : Connections) (c : ℕ) : Type 0 where
  pub rows : (k : ℕ) → at_number new.rows k ≡ (if c == k then Some (fresh (length old.live.items)) else at_number old.rows k)
  pub live : new.live.items ≡ (if nat_lt (length old.live.items) 64 then old.live.items ++ c ∷ [] else old.live.items)
  pub last : new.newest ≡ Some c
  pub roomy : new.roomy ≡ old.roomy

same_if : (b : Bool) {x y v w : Option Connection} → x ≡ y → v ≡ w → (if b then x else v) ≡ (if b then y else w)
same_if true e f = e
same_if false e f = f

-- a number that rises is none that came up before
apart : (c k : ℕ) (last : Option ℕ) → rises c last ≡ true → reaches k last ≡ true → (c == k) ≡ false
apart c k None up at = absurd cc
apart c k (Some l) up at = by_test (c == k) (λ e. absurd (below c k l (ltb-true l c up) (leb-true k l at) (eqb-true c k e))) (λ e. e)
  where
    below : (c k l : ℕ) → l < c → k ≤ l → c ≡ k → ⊥
    below c k l h i e = omega arith

pub reach_up : (c k : ℕ) (last : Option ℕ) → rises c last ≡ true → reaches k last ≡ true → reaches k (Some c) ≡ true
reach_up c k None up at = absurd cc
reach_up c k (Some l) up at = le-leb k c (below c k l (ltb-true l c up) (leb-true k l at))
  where
    below : (c k l : ℕ) → l < c → k ≤ l → k ≤ c
    below c k l h i = omega arith

fresh_live : (n : ℕ) → is_live (Some (fresh n)) ≡ nat_lt n 64
fresh_live n = by_test (nat_lt n 64) (λ e. rw e refl) (λ e. rw e refl)

fresh_full : (n : ℕ) → is_full (Some (fresh n)) ≡ false
fresh_full n = by_test (nat_lt n 64) (λ e. rw e refl) (λ e. rw e refl)

full_if : (b : Bool) (x v : Option Connection) → is_full x ≡ false → is_full v ≡ false → is_full (if b then x else v) ≡ false
full_if true x v h i = h
full_if false x v h i = i

pub came_up : (old new : Connections) (t : List Entry) (conn : ConnectionId) (peer : Peer) → CameUp old new conn.0
    → ConnectionsAt old t (event.Up conn peer) → rises conn.0 (newest t) ≡ true → ConnectionsFit new (did (event.Up conn peer) ∷ t)
came_up old new t id peer up at rise =
    let e : Event = event.Up id peer
    in let c : ℕ = id.0
    in let count : length old.live.items ≡ length (live_of (ups t) (found t e)) = ap length at.live
    in let before : filter (λ k. is_live (found t e k)) (ups t) ≡ filter (λ k. is_live (if c == k then Some (fresh (length (live_of (ups t) (found t e)))) else found t e k)) (ups t)
    = filter_agree_in _ _ (ups t) (λ k h. let other : (c == k) ≡ false = apart c k (newest t) rise (at.rise k h) in rw other refl)
    in record {
      rows = λ k. up.rows k ∙ same_if (c == k) (ap (λ n. Some (fresh n)) count) (at.rows k);
      live = up.live
          ∙ ap (λ ks. if nat_lt (length ks) 64 then ks ++ c ∷ [] else ks) at.live
          ∙ joined (live_of (ups t) (found t e)) (filter (λ k. is_live (if c == k then Some (fresh (length (live_of (ups t) (found t e)))) else found t e k)) (ups t)) (length (live_of (ups t) (found t e))) c before
          ∙ ap (λ ks. filter (λ k. is_live (if c == k then Some (fresh (length (live_of (ups t) (found t e)))) else found t e k)) (ups t) ++ ks) (last_one c (length (live_of (ups t) (found t e))) (found t e))
          ∙ sym (filter-append (λ k. is_live (if c == k then Some (fresh (length (live_of (ups t) (found t e)))) else found t e k)) (ups t) (c ∷ []));
      last = up.last;
      rise = λ k h. from_push k c (ups t) (λ old. reach_up c k (newest t) rise (at.rise k old)) (λ new. le-leb k c (same_le c k new)) h;
      roomy = λ r k. full_if (c == k) (Some (fresh (length (live_of (ups t) (found t e))))) (found t e k) (fresh_full (length (live_of (ups t) (found t e)))) (at.roomy (sym up.roomy ∙ r) k);
    }
  where
    same_le : (c k : ℕ) → c ≡ k → k ≤ c
    same_le c k e = omega arith

    joined : (ks ls : List ℕ) (n c : ℕ) → ks ≡ ls → (if nat_lt n 64 then ks ++ c ∷ [] else ks) ≡ ls ++ (if nat_lt n 64 then c ∷ [] else [])
    joined ks ls n c e = by_test (nat_lt n 64) (λ h. rw h (ap (λ xs. xs ++ c ∷ []) e)) (λ h. rw h (e ∙ sym (append-nil ls)))

    last_one : (c n : ℕ) (known : ℕ → Option Connection) → (if nat_lt n 64 then c ∷ [] else []) ≡ filter (λ k. is_live (if c == k then Some (fresh n) else known k)) (c ∷ [])
    last_one c n known = let here : (c == c) ≡ true = eq-eqb c c refl in rw (here, fresh_live n) (by_test (nat_lt n 64) (λ h. rw h refl) (λ h. rw h refl))

-- how a loss changes the table
pub record WentDown (old new : Connections) (c : ℕ) : Type 0 where
  pub rows : (k : ℕ) → at_number new.rows k ≡ (if c == k then None else at_number old.rows k)
  pub live : new.live.items ≡ filter (λ k. not (nat_eq c k)) old.live.items
  pub last : new.newest ≡ old.newest
  pub roomy : new.roomy ≡ old.roomy

gone_lives : (b : Bool) (v : Option Connection) → is_live (if b then None else v) ≡ (is_live v && not b)
gone_lives true v = sym (and_false (is_live v))
  where
    and_false : (b : Bool) → (b && false) ≡ false
    and_false true = refl
    and_false false = refl
gone_lives false v = sym (and_true (is_live v))
  where
    and_true : (b : Bool) → (b && true) ≡ b
    and_true true = refl
    and_true false = refl

pub went_down : (old new : Connections) (t : List Entry) (conn : ConnectionId) → WentDown old new conn.0
    → ConnectionsAt old t (event.Down conn) → ConnectionsFit new (did (event.Down conn) ∷ t)
went_down old new t id down at =
    let e : Event = event.Down id
    in let c : ℕ = id.0
    in record {
      rows = λ k. down.rows k ∙ same_if (c == k) refl (at.rows k);
      live = down.live
          ∙ ap (λ ks. filter (λ k. not (nat_eq c k)) ks) at.live
          ∙ sym (filter_both (λ k. is_live (found t e k)) (λ k. not (nat_eq c k)) (λ k. is_live (if c == k then None else found t e k)) (λ k. gone_lives (c == k) (found t e k)) (ups t));
      last = down.last ∙ at.last;
      rise = at.rise;
      roomy = λ r k. full_if (c == k) None (found t e k) refl (at.roomy (sym down.roomy ∙ r) k);
    }

-- how a put item changes the table
pub record Put (old new : Connections) (c : ℕ) (i : Item) (over full : Bool) : Type 0 where
  pub rows : (k : ℕ) → at_number new.rows k ≡ (if c == k then option_map (with_item i) (at_number old.rows k) else at_number old.rows k)
  pub live : new.live.items ≡ (if over then filter (λ k. not (nat_eq c k)) old.live.items else old.live.items)
  pub last : new.newest ≡ old.newest
  pub roomy : new.roomy ≡ (if full then false else old.roomy)
  pub is_over : over ≡ not (is_live (option_map (with_item i) (at_number old.rows c)))
  pub is_full_now : full ≡ is_full (option_map (with_item i) (at_number old.rows c))

stays_perf : (body : Perf) (p : Conn) → (after_perf body p).closed ≡ false → p.closed ≡ false
stays_perf (perf.Close x) p h = absurd cc
stays_perf _ p h = h

pub stays : (i : Item) (p : Conn) → (phase_after i p).closed ≡ false → p.closed ≡ false
stays (item.Frame sasl channel body payload) p h = stays_perf body p h
stays _ p h = h

live_open : (v : Connection) → is_live (Some v) ≡ true → v.phase.closed ≡ false
live_open v h = by_test v.phase.closed (λ e. absurd (true≢false (sym (rw e at h)))) (λ e. e)

open_live : (v : Connection) → v.phase.closed ≡ false → is_live (Some v) ≡ true
open_live v h = rw h refl

-- a connection that is live with one more item was live before
put_lives : (i : Item) (v : Option Connection) → is_live (option_map (with_item i) v) ≡ true → is_live v ≡ true
put_lives i None h = h
put_lives i (Some v) h = open_live v (stays i v.phase (live_open (with_item i v) h))

at_put : (t : List Entry) (c k : ℕ) (i : Item) → is_live (option_map (with_item i) (conn t c)) ≡ true
    → is_live (conn t k) ≡ is_live (if c == k then option_map (with_item i) (conn t k) else conn t k)
at_put t c k i h =
    by_test (c == k)
    (λ e. let same : c ≡ k = eqb-true c k e
    in let now : is_live (option_map (with_item i) (conn t k)) ≡ true = subst (λ (n : ℕ). is_live (option_map (with_item i) (conn t n)) ≡ true) same h
    in rw e (put_lives i (conn t k) now ∙ sym now))
    (λ e. rw e refl)

left_put : (t : List Entry) (c k : ℕ) (i : Item) → is_live (option_map (with_item i) (conn t c)) ≡ false
    → is_live (if c == k then option_map (with_item i) (conn t k) else conn t k) ≡ (is_live (conn t k) && not (nat_eq c k))
left_put t c k i h =
    by_test (c == k)
    (λ e. let same : c ≡ k = eqb-true c k e
    in let now : is_live (option_map (with_item i) (conn t k)) ≡ false = subst (λ (n : ℕ). is_live (option_map (with_item i) (conn t n)) ≡ false) same h
    in rw e (now ∙ sym (and_false (is_live (conn t k)))))
    (λ e. rw e (sym (and_true (is_live (conn t k)))))
  where
    and_false : (b : Bool) → (b && false) ≡ false
    and_false true = refl
    and_false false = refl

    and_true : (b : Bool) → (b && true) ≡ b
    and_true true = refl
    and_true false = refl

put_live : (t : List Entry) (c : ℕ) (i : Item) (over : Bool) → over ≡ not (is_live (option_map (with_item i) (conn t c)))
    → (if over then filter (λ k. not (nat_eq c k)) (live_of (ups t) (conn t)) else live_of (ups t) (conn t)) ≡ live_of (ups t) (conn (Out c i ∷ t))
put_live t c i true e =
    sym (filter_both (λ k. is_live (conn t k)) (λ k. not (nat_eq c k)) (λ k. is_live (conn (Out c i ∷ t) k)) (λ k. left_put t c k i (not_true (is_live (option_map (with_item i) (conn t c))) (sym e))) (ups t))
  where
    not_true : (b : Bool) → not b ≡ true → b ≡ false
    not_true true h = absurd cc
    not_true false h = refl
put_live t c i false e =
    filter_agree (λ k. is_live (conn t k)) (λ k. is_live (conn (Out c i ∷ t) k)) (λ k. at_put t c k i (not_false (is_live (option_map (with_item i) (conn t c))) (sym e))) (ups t)
  where
    not_false : (b : Bool) → not b ≡ false → b ≡ true
    not_false true h = refl
    not_false false h = absurd cc

put_full : (t : List Entry) (c k : ℕ) (i : Item) → is_full (option_map (with_item i) (conn t c)) ≡ false → is_full (conn t k) ≡ false
    → is_full (if c == k then option_map (with_item i) (conn t k) else conn t k) ≡ false
put_full t c k i here there =
    by_test (c == k)
    (λ e. let same : c ≡ k = eqb-true c k e in rw e (subst (λ (n : ℕ). is_full (option_map (with_item i) (conn t n)) ≡ false) same here))
    (λ e. rw e there)

roomy_before : (full roomy : Bool) → (if full then false else roomy) ≡ true → (full ≡ false) × (roomy ≡ true)
roomy_before true roomy h = absurd cc
roomy_before false roomy h = (refl, h)

pub put_fits : (old new : Connections) (t : List Entry) (c : ℕ) (i : Item) (over full : Bool) → Put old new c i over full → ConnectionsFit old t → ConnectionsFit new (Out c i ∷ t)
put_fits old new t c i over full put fit =
    let row : at_number old.rows c ≡ conn t c = fit.rows c
    in let ends : over ≡ not (is_live (option_map (with_item i) (conn t c))) = put.is_over ∙ ap (λ v. not (is_live (option_map (with_item i) v))) row
    in let fills : full ≡ is_full (option_map (with_item i) (conn t c)) = put.is_full_now ∙ ap (λ v. is_full (option_map (with_item i) v)) row
    in record {
      rows = λ k. put.rows k ∙ same_if (c == k) (ap (option_map (with_item i)) (fit.rows k)) (fit.rows k);
      live = put.live ∙ ap (λ ks. if over then filter (λ k. not (nat_eq c k)) ks else ks) fit.live ∙ put_live t c i over ends;
      last = put.last ∙ fit.last;
      rise = fit.rise;
      roomy = λ r k. let was = roomy_before full old.roomy (sym put.roomy ∙ r) in put_full t c k i (sym fills ∙ was.0) (fit.roomy was.1 k);
    }
