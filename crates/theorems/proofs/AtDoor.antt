-- In every play the first item of a connection that reaches the router is a header: the door lets nothing else pass.
use Rattle.std.proofs.Common.{◌≡◌, ◌∙◌, sym, ap, refl, subst, true≢false, ℕ, Bool, true, false, not, ◌<◌, List, [], ◌∷◌, ◌++◌, inl, inr, arith}
use Rattle.std.specs.Prelude.{◌==◌, ◌⊎◌, nat_lt, map, length, Option, Some, None, if◌then◌else◌}
use Rattle.std.proofs.lemmas.Bool.{eqb-true, eq-eqb, ltb-true, lt-ltb}
use Rattle.amqp_model.specs.declared.item.Item.{Item}
use Rattle.router_trace.specs.declared.event.ConnectionId.{ConnectionId}
use Rattle.router_trace.specs.declared.event.Peer.{Peer}
use Rattle.router_trace.specs.declared.event.PeerRole.{PeerRole}
use Rattle.router_trace.specs.declared.event.Event.{Event}
use Rattle.router_trace.specs.declared.event.Event.TheVariants as event
use Rattle.route_table.specs.Settings.{Settings}
use Rattle.router_play.specs.Script.{new_journal, new_router}
use Rattle.core_door.specs.declared.door.Door.{Door as DoorState}
use Rattle.core_player.specs.declared.line.Line.TheVariants as line
use Rattle.core_player.specs.declared.socket.Socket.{Socket}
use Rattle.core_player.specs.declared.script.Step.{Step}
use Rattle.core_player.specs.declared.script.Step.TheVariants as step
use Rattle.router_trace.specs.Trace.{Entry, Took, step_of}
use Rattle.router_trace.specs.Connection.{conn, is_live}
use Rattle.router_trace.specs.Refusing.{refuses, rises}
use Rattle.router_core.specs.Replies.{handled}
use Rattle.core_machine.specs.Moves.{Taking, items_of, took_one}
use Rattle.core_door.specs.Door.{Verdict, says, passes, ends, door, door_after}
use Rattle.router_play.specs.Script.{Scene, opening, refused, say, say_all, out_line, with_socket, with_trace, stream_of, hand, judged_by, enter_at, enter_by, enter, enter_all, Reads, BytesCome, made, make, told, lose_by, lose, Takes, is_last, close_if, take_one, take_all, Plays}
use Rattle.router_core.specs.Moves.{ins, outs}
use Rattle.theorems.specs.Order.{is_header, begins_with_header, HeaderFirst, NothingBeforeHeader}
use Rattle.state_connections.proofs.Lists.{by_test}
use Rattle.router_play.proofs.PlayMoves.{play_is_trace}
use Rattle.theorems.proofs.OnlyHeaders.{door_header}
use Rattle.router_core.proofs.Coming.{ins_handled}
use Rattle.theorems.proofs.Headed.{trace_keeps_order}
use Rattle.theorems.proofs.Alike.{Alike, alike_on, alike_same, over_took}
use Rattle.theorems.proofs.Doored.{AtDoor, AtSocket, Doored, changed, closed, grown, hand_alike, handed, header_or_none, said}
use Rattle.router_play.proofs.Entering.{hand_sockets, hand_last}

-- an item of a connection that passed: the first of them is a header, or the connection isn't live

not_no : (b : Bool) → not b ≡ true → b ≡ false
not_no true h = sym h
not_no false h = refl

abbrev Entered : List Entry → ℕ → Type 0
Entered u c = (header_or_none (ins u c) ≡ true) × AtDoor u c None

item_enters : (c : ConnectionId) (i : Item) (s : Scene) → header_or_none (ins s.trace c.0) ≡ true
    → (ins s.trace c.0 ≡ [] → (is_header i ≡ true) ⊎ (is_live (conn s.trace c.0) ≡ false)) → Entered (hand (event.Item c i) s).trace c.0
item_enters c i s first why = by_answer (refuses s.trace (event.Item c i)) refl
  where
    no_items : (j : Item) (js : List Item) → [] ≡ j ∷ js → ⊥
    no_items j js e = absurd cc

    pushed : (is js : List Item) → js ≡ is ++ i ∷ [] → header_or_none is ≡ true → (is ≡ [] → is_header i ≡ true) → (header_or_none js ≡ true) × (js ≡ [] → ⊥)
    pushed [] js e head new = (ap header_or_none e ∙ new refl, λ none. no_items i [] (sym none ∙ e))
    pushed (j ∷ is) js e head new = (ap header_or_none e ∙ head, λ none. no_items j (is ++ i ∷ []) (sym none ∙ e))

    live_header : refuses s.trace (event.Item c i) ≡ false → (is_header i ≡ true) ⊎ (is_live (conn s.trace c.0) ≡ false) → is_header i ≡ true
    live_header taken (inl is) = is
    live_header taken (inr over) = absurd (true≢false (sym (ap not over) ∙ taken))

    by_answer : (b : Bool) → refuses s.trace (event.Item c i) ≡ b
        → Entered (if b then say refused s else with_trace (handled s.id s.trace (step_of (event.Item c i))) s).trace c.0
    by_answer true is = (first, λ none. not_no (is_live (conn s.trace c.0)) is)
    by_answer false is =
        let came : ins (handled s.id s.trace (step_of (event.Item c i))) c.0 ≡ ins s.trace c.0 ++ i ∷ []
        = ins_handled s.id s.trace (event.Item c i) c.0 ∙ (let same : (c.0 == c.0) ≡ true = eq-eqb c.0 c.0 refl in rw same refl)
        in let both = pushed (ins s.trace c.0) (ins (handled s.id s.trace (step_of (event.Item c i))) c.0) came first (λ none. live_header is (why none))
        in (both.0, λ none. absurd (both.1 none))

item_changes : (c : ConnectionId) (i : Item) (s : Scene) (k : Socket) → s.sockets c.0 ≡ Some k → k.door ≡ None → Doored s → Doored (hand (event.Item c i) s)
item_changes c i s k known passed was =
    let u : Scene = hand (event.Item c i) s
    in let at : AtDoor s.trace c.0 None
    = subst (λ (d : Option DoorState). AtDoor s.trace c.0 d) passed (subst (λ (o : Option Socket). AtSocket s.trace c.0 o) known (was.stands c.0))
    in let entered : Entered u.trace c.0 = item_enters c i s (was.first c.0) (λ none. inr (at none))
    in changed s u c.0 k known (record {
      last = hand_last (event.Item c i) s;
      others = λ n e. (hand_sockets (event.Item c i) s n, hand_alike (event.Item c i) s n e);
      first = entered.0;
      stands = subst (λ (o : Option Socket). AtSocket u.trace c.0 o) (sym (hand_sockets (event.Item c i) s c.0 ∙ known))
          (subst (λ (d : Option DoorState). AtDoor u.trace c.0 d) (sym passed) entered.1);
    }) was

same_number : (c : ConnectionId) (x y : Option Socket) → (if c.0 == c.0 then x else y) ≡ x
same_number c x y = let same : (c.0 == c.0) ≡ true = eq-eqb c.0 c.0 refl in rw same refl

-- a connection passes the door with a header
pass_changes : (c : ConnectionId) (i : Item) (k : Socket) (d : DoorState) (s : Scene) (user : List ℕ) → s.sockets c.0 ≡ Some k → k.door ≡ Some d
    → is_header i ≡ true → Doored s → Doored (judged_by c i k d s (passes user))
pass_changes c i k d s user known at_door is was =
    let passed : Socket = record { door = None; reader = k.reader }
    in let inside : Scene = with_socket c (Some passed) s
    in let up : Event = event.Up c (record { user = user; role = d.role })
    in let there : Scene = hand up inside
    in let u : Scene = hand (event.Item c i) there
    in let none : ins s.trace c.0 ≡ []
    = subst (λ (o : Option DoorState). AtDoor s.trace c.0 o) at_door (subst (λ (o : Option Socket). AtSocket s.trace c.0 o) known (was.stands c.0))
    in let none_there : ins there.trace c.0 ≡ [] = up_came inside (record { user = user; role = d.role }) ∙ none
    in let entered : Entered u.trace c.0 = item_enters c i there (ap header_or_none none_there) (λ e. inl is)
    in changed s u c.0 k known (record {
      last = hand_last (event.Item c i) there ∙ hand_last up inside;
      others = λ n e. (
        hand_sockets (event.Item c i) there n ∙ hand_sockets up inside n ∙ (rw e refl),
        alike_on s.trace there.trace u.trace n (hand_alike up inside n e) (hand_alike (event.Item c i) there n e),
      );
      first = entered.0;
      stands = subst (λ (o : Option Socket). AtSocket u.trace c.0 o)
          (sym (hand_sockets (event.Item c i) there c.0 ∙ hand_sockets up inside c.0 ∙ same_number c (Some passed) (s.sockets c.0))) entered.1;
    }) was
  where
    up_came : (inside : Scene) (p : Peer) → ins (hand (event.Up c p) inside).trace c.0 ≡ ins inside.trace c.0
    up_came inside p = by_answer (refuses inside.trace (event.Up c p))
      where
        by_answer : (b : Bool) → ins (if b then say refused inside else with_trace (handled inside.id inside.trace (step_of (event.Up c p))) inside).trace c.0 ≡ ins inside.trace c.0
        by_answer true = refl
        by_answer false = ins_handled inside.id inside.trace (event.Up c p) c.0

-- a connection stays at the door
kept_at_door : (c : ConnectionId) (s : Scene) (k : Socket) (new : Socket) → s.sockets c.0 ≡ Some k → AtSocket s.trace c.0 (Some new) → Doored s → Doored (with_socket c (Some new) s)
kept_at_door c s k new known at was =
    changed s (with_socket c (Some new) s) c.0 k known (record {
      last = refl;
      others = λ n e. (rw e refl, alike_same s.trace s.trace n refl);
      first = was.first c.0;
      stands = subst (λ (o : Option Socket). AtSocket s.trace c.0 o) (sym (same_number c (Some new) (s.sockets c.0))) at;
    }) was

judged_doored : (c : ConnectionId) (i : Item) (k : Socket) (d : DoorState) (s : Scene) (v : Verdict) → s.sockets c.0 ≡ Some k → k.door ≡ Some d
    → door d i ≡ v → Doored s → Doored (judged_by c i k d s v)
judged_doored c i k d s (says items) known at_door is was =
    let new : Socket = record { door = Some (door_after d i); reader = k.reader }
    in let none : ins s.trace c.0 ≡ []
    = subst (λ (o : Option DoorState). AtDoor s.trace c.0 o) at_door (subst (λ (o : Option Socket). AtSocket s.trace c.0 o) known (was.stands c.0))
    in said (map (out_line c) items) (with_socket c (Some new) s) (kept_at_door c s k new known none was)
judged_doored c i k d s (passes user) known at_door is was = pass_changes c i k d s user known at_door (door_header d i user is) was
judged_doored c i k d s (ends items) known at_door is was =
    let over : Scene = with_socket c None s
    in said (line.End c ∷ []) (say_all (map (out_line c) items) over) (said (map (out_line c) items) over (closed c s was))

enter_doored : (c : ConnectionId) (i : Item) (s : Scene) → Doored s → Doored (enter c i s)
enter_doored c i s was = by_socket (s.sockets c.0) refl
  where
    by_door : (k : Socket) (d : Option DoorState) → s.sockets c.0 ≡ Some k → k.door ≡ d → Doored (enter_at c i k s d)
    by_door k None known at = item_changes c i s k known at was
    by_door k (Some d) known at = judged_doored c i k d s (door d i) known at refl was

    by_socket : (o : Option Socket) → s.sockets c.0 ≡ o → Doored (enter_by c i s o)
    by_socket None known = was
    by_socket (Some k) known = by_door k k.door known refl

enter_all_doored : (c : ConnectionId) (is : List Item) (s : Scene) → Doored s → Doored (enter_all c is s)
enter_all_doored c [] s was = was
enter_all_doored c (i ∷ is) s was = enter_all_doored c is (enter c i s) (enter_doored c i s was)

bytes_doored : (c : ConnectionId) (bytes : List ℕ) (s : Scene) (o : Option Socket) (u : Scene) → s.sockets c.0 ≡ o → BytesCome c bytes s o u → Doored s → Doored u
bytes_doored c bytes s None u known come was = subst (λ (v : Scene). Doored v) (sym come) (said (refused ∷ []) s was)
bytes_doored c bytes s (Some k) u known come was = by_stream k.reader.failed come
  where
    by_stream : (b : Bool) → Reads c bytes s k b u → Doored u
    by_stream true is = subst (λ (v : Scene). Doored v) (sym is) (said (refused ∷ []) s was)
    by_stream false is =
        let new : Socket = stream_of k is.2 is.0
        in subst (λ (v : Scene). Doored v) (sym is.4)
        (enter_all_doored c is.1 (with_socket c (Some new) s)
        (kept_at_door c s k new known (subst (λ (o : Option Socket). AtSocket s.trace c.0 o) known (was.stands c.0)) was))

-- a connection is made: its number is above those before
rises_on : (c n : ℕ) (last : Option ℕ) → rises c last ≡ true → nat_lt c n ≡ true → rises n last ≡ true
rises_on c n None up above = refl
rises_on c n (Some l) up above = lt-ltb l n (further l c n (ltb-true l c up) (ltb-true c n above))
  where
    further : (l c n : ℕ) → l < c → c < n → l < n
    further l c n h i = omega arith

apart : (c n : ℕ) → nat_lt c n ≡ true → (c == n) ≡ false
apart c n above = by_test (c == n) (λ e. absurd (no (eqb-true c n e) (ltb-true c n above))) (λ e. e)
  where
    no : c ≡ n → c < n → ⊥
    no e h = omega arith

made_doored : (c : ConnectionId) (role : PeerRole) (s : Scene) → rises c.0 s.last ≡ true → Doored s → Doored (made c role s)
made_doored c role s up was = record {
  first = was.first;
  stands = λ n. by_test (c.0 == n)
      (λ e. rw e (subst (λ (m : ℕ). ins s.trace m ≡ []) (eqb-true c.0 n e) (was.unmade c.0 up).1))
      (λ e. rw e (was.stands n));
  unmade = λ n above. (rw (apart c.0 n above) (was.unmade n (rises_on c.0 n s.last up above)).0, (was.unmade n (rises_on c.0 n s.last up above)).1);
}

make_doored : (c : ConnectionId) (role : PeerRole) (s : Scene) → Doored s → Doored (make c role s)
make_doored c role s was = by_number (rises c.0 s.last) refl
  where
    by_number : (b : Bool) → rises c.0 s.last ≡ b → Doored (if b then made c role s else say refused s)
    by_number true is = made_doored c role s is was
    by_number false is = said (refused ∷ []) s was

lose_doored : (c : ConnectionId) (s : Scene) → Doored s → Doored (lose c s)
lose_doored c s was = by_socket (s.sockets c.0)
  where
    by_door : (d : Option DoorState) → Doored (told c (with_socket c None s) d)
    by_door None = handed (event.Down c) (with_socket c None s) (λ n. refl) (closed c s was)
    by_door (Some d) = closed c s was

    by_socket : (o : Option Socket) → Doored (lose_by c s o)
    by_socket None = said (refused ∷ []) s was
    by_socket (Some k) = by_door k.door

takes_doored : (x : Step) (s u : Scene) → Takes x s u → Doored s → Doored u
takes_doored (step.Up c role) s u is was = subst (λ (v : Scene). Doored v) (sym is) (make_doored c role s was)
takes_doored (step.In c bytes) s u is was = bytes_doored c bytes s (s.sockets c.0) u refl is was
takes_doored (step.Down c) s u is was = subst (λ (v : Scene). Doored v) (sym is) (lose_doored c s was)
takes_doored (step.Tick ms) s u is was = subst (λ (v : Scene). Doored v) (sym is) (handed (event.Tick ms) s (λ n. refl) was)
takes_doored (step.Fuse calls) s u is was = subst (λ (v : Scene). Doored v) (sym is) was

took_alike : (t : List Entry) (d n c : ℕ) → Alike t (Took d n ∷ t) c
took_alike t d n c = record {
  came = refl;
  over = λ h. by_test (d == c) (λ e. rw e (over_took n (conn t c) h)) (λ e. rw e h);
}

abbrev grew : Taking → Scene → Scene
grew x s = with_trace (took_one x s.trace) s

abbrev taken_out : Taking → Scene → Scene
taken_out x s = say_all (map (out_line x.conn) (items_of x s.trace)) (grew x s)

take_doored : (x : Taking) (s : Scene) → Doored s → Doored (take_one x s)
take_doored x s was = by_end (is_last (length (items_of x s.trace)) (conn s.trace x.conn.0))
  where
    after : Doored (taken_out x s)
    after =
        said (map (out_line x.conn) (items_of x s.trace)) (grew x s)
        (grown s (took_one x s.trace) (λ c. took_alike s.trace x.conn.0 (length (items_of x s.trace)) c) was)

    by_end : (b : Bool) → Doored (close_if b x.conn (taken_out x s))
    by_end true = said (line.End x.conn ∷ []) (with_socket x.conn None (taken_out x s)) (closed x.conn (taken_out x s) after)
    by_end false = after

take_all_doored : (xs : List Taking) (s : Scene) → Doored s → Doored (take_all xs s)
take_all_doored [] s was = was
take_all_doored (x ∷ xs) s was = take_all_doored xs (take_one x s) (take_doored x s was)

plays_doored : (xs : List Step) (s u : Scene) → Plays xs s u → Doored s → Doored u
plays_doored [] s u plays was = subst (λ (v : Scene). Doored v) (sym plays) was
plays_doored (x ∷ xs) s u plays was =
    plays_doored xs plays.1 u plays.4
    (subst (λ (v : Scene). Doored v) (sym plays.3.scene) (take_all_doored plays.3.takes plays.0 (takes_doored x s plays.0 plays.2 was)))

-- in a play nothing is written before the header
pub header_opens : (config : Settings) (steps : List Step) (u : Scene) → Plays steps (opening config) u → (c : ℕ) → NothingBeforeHeader (outs u.trace c)
header_opens config steps u plays c =
    let was : Doored (opening config) = record {
      first = λ c. refl;
      stands = λ c. tt;
      unmade = λ c r. (refl, refl);
    }
    in let kept = trace_keeps_order config.router_id (new_router config) u.trace (play_is_trace config new_journal steps u plays)
    in by_items (ins u.trace c) refl ((plays_doored steps (opening config) u plays was).first c) kept.header kept.silent
  where
    first_only : (is : List Item) → HeaderFirst is → NothingBeforeHeader is
    first_only [] h = tt
    first_only (i ∷ is) h = h

    by_items : (is : List Item) → ins u.trace c ≡ is → header_or_none (ins u.trace c) ≡ true
        → ((c : ℕ) → begins_with_header (ins u.trace c) ≡ true → HeaderFirst (outs u.trace c))
        → ((c : ℕ) → ins u.trace c ≡ [] → outs u.trace c ≡ []) → NothingBeforeHeader (outs u.trace c)
    by_items [] is head first silent = subst (λ (ys : List Item). NothingBeforeHeader ys) (sym (silent c is)) tt
    by_items (i ∷ rest) is head first silent =
        first_only (outs u.trace c) (first c (ap begins_with_header is ∙ sym (ap header_or_none is) ∙ head))
