-- The effect of a connection's items, and of takes.
use Rattle.std.proofs.Common.{◌≡◌, ◌∙◌, sym, ap, refl, subst, true≢false, ℕ, zero, suc, Bool, true, false, List, [], ◌∷◌, ◌++◌, append_assoc, append-nil, length, take, drop}
use Rattle.std.specs.Prelude.{◌==◌, map, Option, Some, None, is_some, is_none, option_and_then}
use Rattle.std.proofs.lemmas.Bool.{eqb-true}
use Rattle.amqp_model.specs.declared.item.Item.{Item}
use Rattle.router_trace.specs.declared.event.ConnectionId.{ConnectionId}
use Rattle.router_trace.specs.declared.event.Peer.{Peer}
use Rattle.router_trace.specs.declared.event.Event.TheVariants as event
use Rattle.core_door.specs.declared.door.Door.{Door as DoorState}
use Rattle.core_player.specs.declared.line.Line.TheVariants as line
use Rattle.core_player.specs.declared.socket.Socket.{Socket}
use Rattle.router_trace.specs.Trace.{Entry, Took, step_of}
use Rattle.router_trace.specs.Connection.{Connection, conn, took, is_live}
use Rattle.router_core.specs.Replies.{handled}
use Rattle.core_machine.specs.Moves.{Taking, waiting_of, items_of, took_one}
use Rattle.core_door.specs.Door.{Verdict, says, passes, ends, door, door_after}
use Rattle.router_play.specs.Script.{Scene, say_all, say, refused, out_line, with_socket, with_trace, hand, judged_by, enter_at, enter_by, enter, enter_all, is_last, close_if, take_one, take_all}
use Rattle.router_core.specs.Moves.{ins, outs}
use Rattle.router_play.specs.Carrying.{was_lost, bytes_out, spelled, said_by, door_says, passed_by, passed}
use Rattle.state_connections.proofs.Lists.{by_test}
use Rattle.router_core.proofs.Coming.{ins_handled as handled_ins}
use Rattle.router_play.proofs.Scenes.{not_true, not_false}
use Rattle.router_play.proofs.PlayMoves.{Real, onward_real, answered_onward, took_onward}
use Rattle.router_play.proofs.Levels.{handled_even, up_level, took_waits, took_lives, same}
use Rattle.router_play.proofs.Entering.{bytes_more, spelled_more, own_lines, other_lines, level_balance, hand_cases, hand_sockets, hand_last, hand_kept, Quiet, quiet_refl, quiet_trans, say_quiet, socket_quiet, Through, AtDoor, StandsAt, Stands, Balances, Entered, entered_as, quiet_entered}

-- a connection past the door, wherever its socket is
record Past (s : Scene) (c : ℕ) (D P : List Item → List Item) : Type 0 where
  real : Real s
  said : List Item
  balance : Balances said s.trace c (bytes_out c s.lines)
  through : Through said s.trace c D P

-- a line without bytes
unsaid : (c : ℕ) (s : Scene) → bytes_out c (say refused s).lines ≡ bytes_out c s.lines
unsaid c s = bytes_more c s.lines (refused ∷ []) ∙ append-nil (bytes_out c s.lines)

item_past : (d : ConnectionId) (i : Item) (s : Scene) (D P : List Item → List Item) → Past s d.0 D P
    → Past (hand (event.Item d i) s) d.0 (λ m. D (i ∷ m)) (λ m. P (i ∷ m))
item_past d i s D P h =
    hand_cases (λ u. Past u d.0 (λ m. D (i ∷ m)) (λ m. P (i ∷ m))) (event.Item d i) s
    (λ r. record {
      real = h.real;
      said = h.said;
      balance = subst (λ (bs : List ℕ). Balances h.said s.trace d.0 bs) (sym (unsaid d.0 s)) h.balance;
      through = record {
        silent = λ m. h.through.silent (i ∷ m);
        begins = λ m. h.through.begins (i ∷ m);
        whole = λ l m. absurd (true≢false (sym l ∙ not_true (is_live (conn s.trace d.0)) r));
      };
    })
    (λ r. let t : List Entry = s.trace
    in let u : List Entry = handled s.id t (step_of (event.Item d i))
    in let here : (d.0 == d.0) ≡ true = same d.0
    in let came : ins u d.0 ≡ ins t d.0 ++ i ∷ [] = handled_ins s.id t (event.Item d i) d.0 ∙ (rw here refl)
    in let goes : (m : List Item) → ins u d.0 ++ m ≡ P (i ∷ m)
    = λ m. ap (λ xs. xs ++ m) came ∙ append_assoc (ins t d.0) (i ∷ []) m ∙ sym (h.through.whole (not_false (is_live (conn t d.0)) r) (i ∷ m))
    in record {
      real = onward_real s (with_trace u s) (answered_onward (event.Item d i) s r) h.real;
      said = h.said;
      balance = level_balance h.said t u d.0 (bytes_out d.0 s.lines) (handled_even s.id h.real.0 t (event.Item d i) d.0 h.real.1 r refl).level h.balance;
      through = record {
        silent = λ m. h.through.silent (i ∷ m);
        begins = λ m. (m, goes m);
        whole = λ l m. sym (goes m);
      };
    })

-- a connection that is unknown to the router comes up
up_past : (d : ConnectionId) (p : Peer) (s : Scene) (said : List Item) → Real s → conn s.trace d.0 ≡ None → ins s.trace d.0 ≡ []
    → Balances said s.trace d.0 (bytes_out d.0 s.lines) → Past (hand (event.Up d p) s) d.0 (λ m. said) (λ m. m)
up_past d p s said real unknown none balance =
    hand_cases (λ u. Past u d.0 (λ m. said) (λ m. m)) (event.Up d p) s
    (λ r. record {
      real = real;
      said = said;
      balance = subst (λ (bs : List ℕ). Balances said s.trace d.0 bs) (sym (unsaid d.0 s)) balance;
      through = new s.trace none;
    })
    (λ r. let u : List Entry = handled s.id s.trace (step_of (event.Up d p))
    in record {
      real = onward_real s (with_trace u s) (answered_onward (event.Up d p) s r) real;
      said = said;
      balance = level_balance said s.trace u d.0 (bytes_out d.0 s.lines) (up_level s.id real.0 s.trace d p real.1 r unknown) balance;
      through = new u (handled_ins s.id s.trace (event.Up d p) d.0 ∙ none);
    })
  where
    new : (t : List Entry) → ins t d.0 ≡ [] → Through said t d.0 (λ m. said) (λ m. m)
    new t none = record { silent = λ m. refl; begins = λ m. (m, ap (λ xs. xs ++ m) none); whole = λ l m. ap (λ xs. xs ++ m) (sym none) }

-- the door's answers are sent
door_balance : (said items : List Item) (t : List Entry) (c : ℕ) (bytes : List ℕ) → conn t c ≡ None → outs t c ≡ [] → Balances said t c bytes
    → Balances (said ++ items) t c (bytes ++ spelled items)
door_balance said items t c bytes unknown silent h =
    let waits : waiting_of (conn t c) ≡ [] = ap waiting_of unknown
    in let before : bytes ≡ spelled said
    = sym (append-nil bytes) ∙ ap (λ (xs : List Item). bytes ++ spelled xs) (sym waits) ∙ h ∙ ap (λ (xs : List Item). spelled said ++ spelled xs) silent ∙ append-nil (spelled said)
    in ap (λ (xs : List Item). (bytes ++ spelled items) ++ spelled xs) waits
    ∙ append-nil (bytes ++ spelled items)
    ∙ ap (λ bs. bs ++ spelled items) before
    ∙ sym (spelled_more said items)
    ∙ sym (append-nil (spelled (said ++ items)))
    ∙ ap (λ (xs : List Item). spelled (said ++ items) ++ spelled xs) (sym silent)

told_lines : (d : ConnectionId) (items : List Item) (s : Scene) → bytes_out d.0 (say_all (map (out_line d) items) s).lines ≡ bytes_out d.0 s.lines ++ spelled items
told_lines d items s = bytes_more d.0 s.lines (map (out_line d) items) ∙ ap (λ bs. bytes_out d.0 s.lines ++ bs) (own_lines d items)

-- the door's verdict on an item
judged_own : (d : ConnectionId) (i : Item) (k : Socket) (dd : DoorState) (s : Scene) → Real s → (said : List Item) (D P : List Item → List Item) → AtDoor said s.trace d.0 D P dd
    → Balances said s.trace d.0 (bytes_out d.0 s.lines) → (v : Verdict) → door dd i ≡ v
    → Entered (judged_by d i k dd s v) d.0 (λ m. D (i ∷ m)) (λ m. P (i ∷ m))
judged_own d i k dd s real said D P h balance (says items) is =
    let here : (d.0 == d.0) ≡ true = same d.0
    in record {
      real = real;
      said = said ++ items;
      balance = subst (λ (bs : List ℕ). Balances (said ++ items) s.trace d.0 bs) (sym (told_lines d items (with_socket d (Some (record { door = Some (door_after dd i); reader = k.reader })) s)))
          (door_balance said items s.trace d.0 (bytes_out d.0 s.lines) h.unknown h.silent balance);
      stands = rw here (record {
        speaks = λ m. h.speaks (i ∷ m) ∙ ap (λ (w : Verdict). said ++ said_by w (door_says (door_after dd i) m)) is ∙ sym (append_assoc said items (door_says (door_after dd i) m));
        lets = λ m. h.lets (i ∷ m) ∙ ap (λ (w : Verdict). passed_by w (i ∷ m) (passed (door_after dd i) m)) is;
        unknown = h.unknown;
        none = h.none;
        silent = h.silent;
      });
    }
judged_own d i k dd s real said D P h balance (passes user) is =
    let p : Peer = record { user = user; role = dd.role }
    in let inside : Scene = with_socket d (Some (record { door = None; reader = k.reader })) s
    in let up : Scene = hand (event.Up d p) inside
    in let all : Past (hand (event.Item d i) up) d.0 (λ m. said) (λ m. i ∷ m) = item_past d i up (λ m. said) (λ m. m) (up_past d p inside said real h.unknown h.none balance)
    in let here : (d.0 == d.0) ≡ true = same d.0
    in let socket : (hand (event.Item d i) up).sockets d.0 ≡ Some (record { door = None; reader = k.reader })
    = hand_sockets (event.Item d i) up d.0 ∙ hand_sockets (event.Up d p) inside d.0 ∙ (rw here refl)
    in entered_as (hand (event.Item d i) up) d.0 (λ m. said) (λ m. i ∷ m) (λ m. D (i ∷ m)) (λ m. P (i ∷ m))
    (λ m. h.speaks (i ∷ m) ∙ ap (λ (w : Verdict). said ++ said_by w (door_says (door_after dd i) m)) is ∙ append-nil said)
    (λ m. h.lets (i ∷ m) ∙ ap (λ (w : Verdict). passed_by w (i ∷ m) (passed (door_after dd i) m)) is)
    (record {
      real = all.real;
      said = all.said;
      balance = all.balance;
      stands = subst (λ (o : Option Socket). Stands all.said (hand (event.Item d i) up).trace d.0 (λ m. said) (λ m. i ∷ m) o) (sym socket) all.through;
    })
judged_own d i k dd s real said D P h balance (ends items) is =
    let here : (d.0 == d.0) ≡ true = same d.0
    in let told : Scene = say_all (map (out_line d) items) (with_socket d None s)
    in record {
      real = real;
      said = said ++ items;
      balance = subst (λ (bs : List ℕ). Balances (said ++ items) s.trace d.0 bs)
          (sym (bytes_more d.0 told.lines (line.End d ∷ []) ∙ append-nil (bytes_out d.0 told.lines) ∙ told_lines d items (with_socket d None s)))
          (door_balance said items s.trace d.0 (bytes_out d.0 s.lines) h.unknown h.silent balance);
      stands = rw here (
        record {
          silent = λ m. h.speaks (i ∷ m) ∙ ap (λ (w : Verdict). said ++ said_by w (door_says (door_after dd i) m)) is;
          begins = λ m. (P (i ∷ m), ap (λ xs. xs ++ P (i ∷ m)) h.none);
          whole = λ l m. absurd (true≢false (sym l ∙ ap is_live h.unknown));
        },
        ap is_live h.unknown,
      );
    }

-- an item is handled
enter_at_own : (d : ConnectionId) (i : Item) (k : Socket) (s : Scene) → Real s → (said : List Item) (D P : List Item → List Item) → s.sockets d.0 ≡ Some k
    → Balances said s.trace d.0 (bytes_out d.0 s.lines) → (o : Option DoorState) → k.door ≡ o → StandsAt said s.trace d.0 D P o
    → Entered (enter_at d i k s o) d.0 (λ m. D (i ∷ m)) (λ m. P (i ∷ m))
enter_at_own d i k s real said D P is balance None at h =
    let all : Past (hand (event.Item d i) s) d.0 (λ m. D (i ∷ m)) (λ m. P (i ∷ m)) = item_past d i s D P (record { real = real; said = said; balance = balance; through = h })
    in record {
      real = all.real;
      said = all.said;
      balance = all.balance;
      stands = subst (λ (o : Option Socket). Stands all.said (hand (event.Item d i) s).trace d.0 (λ m. D (i ∷ m)) (λ m. P (i ∷ m)) o)
          (sym (hand_sockets (event.Item d i) s d.0 ∙ is))
          (subst (λ (o : Option DoorState). StandsAt all.said (hand (event.Item d i) s).trace d.0 (λ m. D (i ∷ m)) (λ m. P (i ∷ m)) o) (sym at) all.through);
    }
enter_at_own d i k s real said D P is balance (Some dd) at h = judged_own d i k dd s real said D P h balance (door dd i) refl

enter_by_own : (d : ConnectionId) (i : Item) (s : Scene) → Real s → (said : List Item) (D P : List Item → List Item)
    → Balances said s.trace d.0 (bytes_out d.0 s.lines) → (o : Option Socket) → s.sockets d.0 ≡ o → Stands said s.trace d.0 D P o
    → Entered (enter_by d i s o) d.0 (λ m. D (i ∷ m)) (λ m. P (i ∷ m))
enter_by_own d i s real said D P balance None is h = record {
  real = real;
  said = said;
  balance = balance;
  stands = subst (λ (o : Option Socket). Stands said s.trace d.0 (λ m. D (i ∷ m)) (λ m. P (i ∷ m)) o) (sym is)
      (record { silent = λ m. h.0.silent (i ∷ m); begins = λ m. h.0.begins (i ∷ m); whole = λ l m. absurd (true≢false (sym l ∙ h.1)) }, h.1);
}
enter_by_own d i s real said D P balance (Some k) is h = enter_at_own d i k s real said D P is balance k.door refl h

pub enter_all_own : (d : ConnectionId) (is : List Item) (s : Scene) (D P : List Item → List Item) → Entered s d.0 D P
    → Entered (enter_all d is s) d.0 (λ m. D (is ++ m)) (λ m. P (is ++ m))
enter_all_own d [] s D P h = h
enter_all_own d (i ∷ is) s D P h =
    enter_all_own d is (enter d i s) (λ m. D (i ∷ m)) (λ m. P (i ∷ m)) (enter_by_own d i s h.real h.said D P h.balance (s.sockets d.0) refl h.stands)

-- items make no connection

judged_last : (d : ConnectionId) (i : Item) (k : Socket) (dd : DoorState) (s : Scene) (v : Verdict) → (judged_by d i k dd s v).last ≡ s.last
judged_last d i k dd s (says items) = refl
judged_last d i k dd s (passes user) =
    let p : Peer = record { user = user; role = dd.role }
    in let inside : Scene = with_socket d (Some (record { door = None; reader = k.reader })) s
    in hand_last (event.Item d i) (hand (event.Up d p) inside) ∙ hand_last (event.Up d p) inside
judged_last d i k dd s (ends items) = refl

enter_last : (d : ConnectionId) (i : Item) (s : Scene) (o : Option Socket) → (enter_by d i s o).last ≡ s.last
enter_last d i s None = refl
enter_last d i s (Some k) = by_door k.door
  where
    by_door : (o : Option DoorState) → (enter_at d i k s o).last ≡ s.last
    by_door None = hand_last (event.Item d i) s
    by_door (Some dd) = judged_last d i k dd s (door dd i)

pub enter_all_last : (d : ConnectionId) (is : List Item) (s : Scene) → (enter_all d is s).last ≡ s.last
enter_all_last d [] s = refl
enter_all_last d (i ∷ is) s = enter_all_last d is (enter d i s) ∙ enter_last d i s (s.sockets d.0)

-- and lose none

judged_kept : (d : ConnectionId) (i : Item) (k : Socket) (dd : DoorState) (s : Scene) (c : ℕ) (v : Verdict) → was_lost (judged_by d i k dd s v).trace c ≡ was_lost s.trace c
judged_kept d i k dd s c (says items) = refl
judged_kept d i k dd s c (passes user) =
    let p : Peer = record { user = user; role = dd.role }
    in let inside : Scene = with_socket d (Some (record { door = None; reader = k.reader })) s
    in hand_kept (event.Item d i) (hand (event.Up d p) inside) c refl ∙ hand_kept (event.Up d p) inside c refl
judged_kept d i k dd s c (ends items) = refl

enter_kept : (d : ConnectionId) (i : Item) (s : Scene) (c : ℕ) (o : Option Socket) → was_lost (enter_by d i s o).trace c ≡ was_lost s.trace c
enter_kept d i s c None = refl
enter_kept d i s c (Some k) = by_door k.door
  where
    by_door : (o : Option DoorState) → was_lost (enter_at d i k s o).trace c ≡ was_lost s.trace c
    by_door None = hand_kept (event.Item d i) s c refl
    by_door (Some dd) = judged_kept d i k dd s c (door dd i)

pub enter_all_kept : (d : ConnectionId) (is : List Item) (s : Scene) (c : ℕ) → was_lost (enter_all d is s).trace c ≡ was_lost s.trace c
enter_all_kept d [] s c = refl
enter_all_kept d (i ∷ is) s c = enter_all_kept d is (enter d i s) c ∙ enter_kept d i s c (s.sockets d.0)

-- takes

pub taken_all : (most : ℕ) (xs : List Item) → take most xs ++ drop (length (take most xs)) xs ≡ xs
taken_all zero xs = refl
taken_all (suc n) [] = refl
taken_all (suc n) (x ∷ xs) = ap (λ ys. x ∷ ys) (taken_all n xs)

-- a connection that the router knows is past the door
stands_through : (said : List Item) (t : List Entry) (c : ℕ) (D P : List Item → List Item) (k : Option Socket) → is_some (conn t c) ≡ true → Stands said t c D P k → Through said t c D P
stands_through said t c D P None there h = h.0
stands_through said t c D P (Some k) there h = by_door k.door h
  where
    by_door : (o : Option DoorState) → StandsAt said t c D P o → Through said t c D P
    by_door None h = h
    by_door (Some d) h = absurd (true≢false (sym there ∙ ap (λ (o : Option Connection). is_some o) h.unknown))

-- an outbox gives some of its items
took_through : (said : List Item) (t : List Entry) (c n : ℕ) (D P : List Item → List Item) → (is_live (conn (Took c n ∷ t) c) ≡ true → is_live (conn t c) ≡ true)
    → Through said t c D P → Through said (Took c n ∷ t) c D P
took_through said t c n D P lives h = record { silent = h.silent; begins = h.begins; whole = λ l m. h.whole (lives l) m }

took_at : (said : List Item) (t : List Entry) (c n : ℕ) (D P : List Item → List Item) → (is_live (conn (Took c n ∷ t) c) ≡ true → is_live (conn t c) ≡ true)
    → (conn t c ≡ None → conn (Took c n ∷ t) c ≡ None) → (o : Option DoorState) → StandsAt said t c D P o → StandsAt said (Took c n ∷ t) c D P o
took_at said t c n D P lives unknown None h = took_through said t c n D P lives h
took_at said t c n D P lives unknown (Some d) h =
    record { speaks = h.speaks; lets = h.lets; unknown = unknown h.unknown; none = h.none; silent = h.silent }

took_stands : (said : List Item) (t : List Entry) (c n : ℕ) (D P : List Item → List Item) → (is_live (conn (Took c n ∷ t) c) ≡ true → is_live (conn t c) ≡ true)
    → (conn t c ≡ None → conn (Took c n ∷ t) c ≡ None) → (k : Option Socket) → Stands said t c D P k → Stands said (Took c n ∷ t) c D P k
took_stands said t c n D P lives unknown None h =
    (took_through said t c n D P lives h.0, by_test (is_live (conn (Took c n ∷ t) c)) (λ l. absurd (true≢false (sym (lives l) ∙ h.1))) (λ l. l))
took_stands said t c n D P lives unknown (Some k) h = took_at said t c n D P lives unknown k.door h

closes : (b : Bool) (d : ConnectionId) (m : Scene) (D P : List Item → List Item) (h : Entered m d.0 D P)
    → (b ≡ true → Through h.said m.trace d.0 D P × (is_live (conn m.trace d.0) ≡ false)) → Entered (close_if b d m) d.0 D P
closes false d m D P h over = h
closes true d m D P h over =
    let here : (d.0 == d.0) ≡ true = same d.0
    in record {
      real = h.real;
      said = h.said;
      balance = subst (λ (bs : List ℕ). Balances h.said m.trace d.0 bs) (sym (bytes_more d.0 m.lines (line.End d ∷ []) ∙ append-nil (bytes_out d.0 m.lines))) h.balance;
      stands = rw here (over refl);
    }

-- with the last item of a connection that is over the connection becomes unknown
pub last_none : (n : ℕ) (o : Option Connection) → is_last n o ≡ true → (is_some o ≡ true) × (option_and_then (took n) o ≡ None)
last_none n None h = absurd (true≢false (sym h))
last_none n (Some v) h = (refl, gone (took n v) h)
  where
    gone : (o : Option Connection) → is_none o ≡ true → o ≡ None
    gone None h = refl
    gone (Some w) h = absurd (true≢false (sym h))

take_own : (x : Taking) (s : Scene) (D P : List Item → List Item) → Entered s x.conn.0 D P → Entered (take_one x s) x.conn.0 D P
take_own x s D P h =
    let c : ℕ = x.conn.0
    in let t : List Entry = s.trace
    in let items : List Item = items_of x t
    in let n : ℕ = length items
    in let here : (c == c) ≡ true = same c
    in let row : conn (Took c n ∷ t) c ≡ option_and_then (took n) (conn t c) = rw here refl
    in let lives : is_live (conn (Took c n ∷ t) c) ≡ true → is_live (conn t c) ≡ true = λ l. took_lives n (conn t c) (sym (ap is_live row) ∙ l)
    in let unknown : conn t c ≡ None → conn (Took c n ∷ t) c ≡ None = λ none. row ∙ ap (λ (o : Option Connection). option_and_then (took n) o) none
    in let mid : Scene = say_all (map (out_line x.conn) items) (with_trace (took_one x t) s)
    in let waits : items ++ waiting_of (conn (Took c n ∷ t) c) ≡ waiting_of (conn t c)
    = ap (λ (o : Option Connection). items ++ waiting_of o) row ∙ ap (λ ys. items ++ ys) (took_waits n (conn t c)) ∙ taken_all x.most (waiting_of (conn t c))
    in let balance : Balances h.said (Took c n ∷ t) c (bytes_out c s.lines ++ spelled items)
    = append_assoc (bytes_out c s.lines) (spelled items) (spelled (waiting_of (conn (Took c n ∷ t) c)))
    ∙ ap (λ bs. bytes_out c s.lines ++ bs) (sym (spelled_more items (waiting_of (conn (Took c n ∷ t) c))))
    ∙ ap (λ (ys : List Item). bytes_out c s.lines ++ spelled ys) waits
    ∙ h.balance
    in let entered : Entered mid c D P = record {
      real = onward_real s (with_trace (took_one x t) s) (took_onward x s) h.real;
      said = h.said;
      balance = subst (λ (bs : List ℕ). Balances h.said (Took c n ∷ t) c bs) (sym (told_lines x.conn items (with_trace (took_one x t) s))) balance;
      stands = took_stands h.said t c n D P lives unknown (s.sockets c) h.stands;
    }
    in closes (is_last n (conn t c)) x.conn mid D P entered
    (λ last. let gone = last_none n (conn t c) last
    in (took_through h.said t c n D P lives (stands_through h.said t c D P (s.sockets c) gone.0 h.stands), ap is_live (row ∙ gone.1)))

-- takes from another outbox
close_quiet : (b : Bool) (d : ConnectionId) (m : Scene) (c : ℕ) → (d.0 == c) ≡ false → Quiet m (close_if b d m) c
close_quiet false d m c apart = quiet_refl m c
close_quiet true d m c apart =
    quiet_trans m (with_socket d None m) (close_if true d m) c (socket_quiet d None m c apart) (say_quiet (line.End d ∷ []) (with_socket d None m) c refl)

took_quiet : (x : Taking) (s : Scene) (c : ℕ) → (x.conn.0 == c) ≡ false → Quiet s (with_trace (took_one x s.trace) s) c
took_quiet x s c apart = record {
  socket = refl;
  bytes = refl;
  onward = took_onward x s;
  even = λ real. record {
    level = record { added = []; written = sym (append-nil (outs s.trace c)); waits = rw apart (sym (append-nil (waiting_of (conn s.trace c)))) };
    known = rw apart refl;
    lives = λ l. rw apart at l;
  };
  came = refl;
  last = refl;
  kept = refl;
}

take_quiet : (x : Taking) (s : Scene) (c : ℕ) → (x.conn.0 == c) ≡ false → Quiet s (take_one x s) c
take_quiet x s c apart =
    let items : List Item = items_of x s.trace
    in let after : Scene = with_trace (took_one x s.trace) s
    in let mid : Scene = say_all (map (out_line x.conn) items) after
    in quiet_trans s after (take_one x s) c (took_quiet x s c apart)
    (quiet_trans after mid (take_one x s) c (say_quiet (map (out_line x.conn) items) after c (other_lines x.conn c items apart))
    (close_quiet (is_last (length items) (conn s.trace x.conn.0)) x.conn mid c apart))

take_entered : (x : Taking) (s : Scene) (c : ℕ) (D P : List Item → List Item) → Entered s c D P → Entered (take_one x s) c D P
take_entered x s c D P h =
    by_test (x.conn.0 == c)
    (λ e. let is : x.conn.0 ≡ c = eqb-true x.conn.0 c e
    in subst (λ (n : ℕ). Entered (take_one x s) n D P) is (take_own x s D P (subst (λ (n : ℕ). Entered s n D P) (sym is) h)))
    (λ e. quiet_entered s (take_one x s) c D P (take_quiet x s c e) h)

pub take_all_entered : (xs : List Taking) (s : Scene) (c : ℕ) (D P : List Item → List Item) → Entered s c D P → Entered (take_all xs s) c D P
take_all_entered [] s c D P h = h
take_all_entered (x ∷ xs) s c D P h = take_all_entered xs (take_one x s) c D P (take_entered x s c D P h)

-- a socket stays or is closed
pub close_socket : (G : Option Socket → Type 0) (b : Bool) (d : ConnectionId) (m : Scene) (c : ℕ) → G None → G (m.sockets c) → G ((close_if b d m).sockets c)
close_socket G false d m c none here = here
close_socket G true d m c none here = by_test (d.0 == c) (λ e. rw e none) (λ e. rw e here)

pub take_all_socket : (G : Option Socket → Type 0) (xs : List Taking) (s : Scene) (c : ℕ) → G None → G (s.sockets c) → G ((take_all xs s).sockets c)
take_all_socket G [] s c none here = here
take_all_socket G (x ∷ xs) s c none here =
    take_all_socket G xs (take_one x s) c none
    (close_socket G (is_last (length (items_of x s.trace)) (conn s.trace x.conn.0)) x.conn (say_all (map (out_line x.conn) (items_of x s.trace)) (with_trace (took_one x s.trace) s)) c none here)

close_last : (b : Bool) (d : ConnectionId) (m : Scene) → (close_if b d m).last ≡ m.last
close_last false d m = refl
close_last true d m = refl

pub take_all_last : (xs : List Taking) (s : Scene) → (take_all xs s).last ≡ s.last
take_all_last [] s = refl
take_all_last (x ∷ xs) s =
    take_all_last xs (take_one x s)
    ∙ close_last (is_last (length (items_of x s.trace)) (conn s.trace x.conn.0)) x.conn (say_all (map (out_line x.conn) (items_of x s.trace)) (with_trace (took_one x s.trace) s))

close_trace : (b : Bool) (d : ConnectionId) (m : Scene) → (close_if b d m).trace ≡ m.trace
close_trace false d m = refl
close_trace true d m = refl

-- an unknown connection stays so
pub took_unknown : (t : List Entry) (d n c : ℕ) → conn t c ≡ None → conn (Took d n ∷ t) c ≡ None
took_unknown t d n c h =
    by_test (d == c) (λ e. rw e (ap (λ (o : Option Connection). option_and_then (took n) o) h)) (λ e. rw e h)

pub take_all_unknown : (xs : List Taking) (s : Scene) (c : ℕ) → conn s.trace c ≡ None → conn (take_all xs s).trace c ≡ None
take_all_unknown [] s c h = h
take_all_unknown (x ∷ xs) s c h =
    take_all_unknown xs (take_one x s) c
    (ap (λ (t : List Entry). conn t c) (close_trace (is_last (length (items_of x s.trace)) (conn s.trace x.conn.0)) x.conn (say_all (map (out_line x.conn) (items_of x s.trace)) (with_trace (took_one x s.trace) s)))
    ∙ took_unknown s.trace x.conn.0 (length (items_of x s.trace)) c h)

-- what takes don't change
pub take_all_same : {A : Type 0} (view : List Entry → A) → ((d n : ℕ) (t : List Entry) → view (Took d n ∷ t) ≡ view t) → (xs : List Taking) (s : Scene)
    → view (take_all xs s).trace ≡ view s.trace
take_all_same view stays [] s = refl
take_all_same view stays (x ∷ xs) s =
    take_all_same view stays xs (take_one x s)
    ∙ ap view (close_trace (is_last (length (items_of x s.trace)) (conn s.trace x.conn.0)) x.conn (say_all (map (out_line x.conn) (items_of x s.trace)) (with_trace (took_one x s.trace) s)))
    ∙ stays x.conn.0 (length (items_of x s.trace)) s.trace
