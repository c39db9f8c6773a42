-- The state of a connection of a script: the effect of the items that were handled on it.
use Rattle.std.proofs.Common.{◌≡◌, ◌∙◌, sym, ap, refl, subst, ℕ, Bool, true, false, List, [], ◌∷◌, ◌++◌, append_assoc, append-nil}
use Rattle.std.specs.Prelude.{◌==◌, map, Option, Some, None, is_some, if◌then◌else◌}
use Rattle.amqp_model.specs.declared.item.Item.{Item}
use Rattle.amqp_model.specs.ItemSpelling.{item_spelling}
use Rattle.router_trace.specs.declared.event.ConnectionId.{ConnectionId}
use Rattle.router_trace.specs.declared.event.Peer.{Peer}
use Rattle.router_trace.specs.declared.event.Event.{Event}
use Rattle.router_trace.specs.declared.event.Event.TheVariants as event
use Rattle.core_door.specs.declared.door.Door.{Door as DoorState}
use Rattle.core_player.specs.declared.line.Line.{Line}
use Rattle.core_player.specs.declared.line.Line.TheVariants as line
use Rattle.core_player.specs.declared.socket.Socket.{Socket}
use Rattle.router_trace.specs.Trace.{Entry, step_of}
use Rattle.router_trace.specs.Connection.{Connection, conn, is_live}
use Rattle.router_trace.specs.Refusing.{refuses}
use Rattle.router_core.specs.Replies.{handled}
use Rattle.core_machine.specs.Moves.{waiting_of}
use Rattle.core_door.specs.Door.{Verdict, says, passes, ends, door, door_after}
use Rattle.router_play.specs.Script.{Scene, say_all, say, refused, out_line, with_socket, with_trace, hand, judged_by, enter_at, enter_by, enter, enter_all}
use Rattle.router_core.specs.Moves.{with_came, ins, outs}
use Rattle.router_play.specs.Carrying.{is_loss_of, was_lost, bytes_out, spelled, door_says, passed, Begins}
use Rattle.state_connections.proofs.Lists.{by_test}
use Rattle.router_core.proofs.Coming.{ins_handled}
use Rattle.router_play.proofs.Scenes.{back}
use Rattle.router_play.proofs.PlayMoves.{Onward, Real, onward_on, onward_real, stays_put, answered_onward}
use Rattle.router_play.proofs.Levels.{Level, Even, even_refl, even_trans, moves, handled_even, handled_kept, still_kept, none_of, same}

-- lines and bytes

pub bytes_more : (c : ℕ) (ls ks : List Line) → bytes_out c (ls ++ ks) ≡ bytes_out c ls ++ bytes_out c ks
bytes_more c [] ks = refl
bytes_more c (line.Out d bytes ∷ ls) ks =
    by_test (d.0 == c)
    (λ e. rw e (ap (λ bs. bytes ++ bs) (bytes_more c ls ks) ∙ sym (append_assoc bytes (bytes_out c ls) (bytes_out c ks))))
    (λ e. rw e (bytes_more c ls ks))
bytes_more c (line.End d ∷ ls) ks = bytes_more c ls ks
bytes_more c (line.Failed f ∷ ls) ks = bytes_more c ls ks
bytes_more c (line.Run n ∷ ls) ks = bytes_more c ls ks
bytes_more c (line.Book r t b ∷ ls) ks = bytes_more c ls ks

pub spelled_more : (xs ys : List Item) → spelled (xs ++ ys) ≡ spelled xs ++ spelled ys
spelled_more [] ys = refl
spelled_more (x ∷ xs) ys = ap (λ bs. item_spelling x ++ bs) (spelled_more xs ys) ∙ sym (append_assoc (item_spelling x) (spelled xs) (spelled ys))

pub own_lines : (d : ConnectionId) (is : List Item) → bytes_out d.0 (map (out_line d) is) ≡ spelled is
own_lines d [] = refl
own_lines d (i ∷ is) = let here : (d.0 == d.0) ≡ true = same d.0 in rw here (ap (λ bs. item_spelling i ++ bs) (own_lines d is))

pub other_lines : (d : ConnectionId) (c : ℕ) (is : List Item) → (d.0 == c) ≡ false → bytes_out c (map (out_line d) is) ≡ []
other_lines d c [] apart = refl
other_lines d c (i ∷ is) apart = rw apart (other_lines d c is apart)

-- an event is refused, or handled
pub hand_cases : (G : Scene → Type 0) (e : Event) (s : Scene) → (refuses s.trace e ≡ true → G (say refused s))
    → (refuses s.trace e ≡ false → G (with_trace (handled s.id s.trace (step_of e)) s)) → G (hand e s)
hand_cases G e s f g = pick (refuses s.trace e) (say refused s) (with_trace (handled s.id s.trace (step_of e)) s) f g
  where
    pick : (b : Bool) (x y : Scene) → (b ≡ true → G x) → (b ≡ false → G y) → G (if b then x else y)
    pick true x y f g = f refl
    pick false x y f g = g refl

pub hand_sockets : (e : Event) (s : Scene) (c : ℕ) → (hand e s).sockets c ≡ s.sockets c
hand_sockets e s c = hand_cases (λ u. u.sockets c ≡ s.sockets c) e s (λ r. refl) (λ r. refl)

pub hand_last : (e : Event) (s : Scene) → (hand e s).last ≡ s.last
hand_last e s = hand_cases (λ u. u.last ≡ s.last) e s (λ r. refl) (λ r. refl)

pub hand_kept : (e : Event) (s : Scene) (c : ℕ) → is_loss_of e c ≡ false → was_lost (hand e s).trace c ≡ was_lost s.trace c
hand_kept e s c other = hand_cases (λ u. was_lost u.trace c ≡ was_lost s.trace c) e s (λ r. refl) (λ r. handled_kept s.id s.trace e c other)

-- nothing happened to this connection except items in its outbox
pub record Quiet (s u : Scene) (c : ℕ) : Type 0 where
  pub socket : u.sockets c ≡ s.sockets c
  pub bytes : bytes_out c u.lines ≡ bytes_out c s.lines
  pub onward : Onward s u
  pub even : Real s → Even s.trace u.trace c
  pub came : ins u.trace c ≡ ins s.trace c
  pub last : u.last ≡ s.last
  pub kept : was_lost u.trace c ≡ was_lost s.trace c

pub quiet_refl : (s : Scene) (c : ℕ) → Quiet s s c
quiet_refl s c = record {
  socket = refl;
  bytes = refl;
  onward = stays_put s s refl refl refl;
  even = λ real. even_refl s.trace c;
  came = refl;
  last = refl;
  kept = refl;
}

pub quiet_trans : (s u w : Scene) (c : ℕ) → Quiet s u c → Quiet u w c → Quiet s w c
quiet_trans s u w c h k = record {
  socket = k.socket ∙ h.socket;
  bytes = k.bytes ∙ h.bytes;
  onward = onward_on s u w h.onward k.onward;
  even = λ real. even_trans s.trace u.trace w.trace c (h.even real) (k.even (onward_real s u h.onward real));
  came = k.came ∙ h.came;
  last = k.last ∙ h.last;
  kept = k.kept ∙ h.kept;
}

pub say_quiet : (ls : List Line) (s : Scene) (c : ℕ) → bytes_out c ls ≡ [] → Quiet s (say_all ls s) c
say_quiet ls s c none = record {
  socket = refl;
  bytes = bytes_more c s.lines ls ∙ ap (λ bs. bytes_out c s.lines ++ bs) none ∙ append-nil (bytes_out c s.lines);
  onward = stays_put s (say_all ls s) refl refl refl;
  even = λ real. even_refl s.trace c;
  came = refl;
  last = refl;
  kept = refl;
}

pub socket_quiet : (d : ConnectionId) (k : Option Socket) (s : Scene) (c : ℕ) → (d.0 == c) ≡ false → Quiet s (with_socket d k s) c
socket_quiet d k s c apart = record {
  socket = rw apart refl;
  bytes = refl;
  onward = stays_put s (with_socket d k s) refl refl refl;
  even = λ real. even_refl s.trace c;
  came = refl;
  last = refl;
  kept = refl;
}

pub hand_quiet : (e : Event) (s : Scene) (c : ℕ) → moves e c ≡ false → ((is : List Item) → with_came e c is ≡ is) → Quiet s (hand e s) c
hand_quiet e s c still none =
    hand_cases (λ u. Quiet s u c) e s
    (λ r. say_quiet (refused ∷ []) s c refl)
    (λ r. record {
      socket = refl;
      bytes = refl;
      onward = answered_onward e s r;
      even = λ real. handled_even s.id real.0 s.trace e c real.1 r still;
      came = ins_handled s.id s.trace e c ∙ none (ins s.trace c);
      last = refl;
      kept = handled_kept s.id s.trace e c (still_kept e c still);
    })

-- items of another connection
judged_quiet : (d : ConnectionId) (i : Item) (k : Socket) (dd : DoorState) (s : Scene) (c : ℕ) → (d.0 == c) ≡ false → (v : Verdict) → Quiet s (judged_by d i k dd s v) c
judged_quiet d i k dd s c apart (says items) =
    let knows : Option Socket = Some (record { door = Some (door_after dd i); reader = k.reader })
    in let stays : Scene = with_socket d knows s
    in quiet_trans s stays (judged_by d i k dd s (says items)) c (socket_quiet d knows s c apart)
    (say_quiet (map (out_line d) items) stays c (other_lines d c items apart))
judged_quiet d i k dd s c apart (passes user) =
    let p : Peer = record { user = user; role = dd.role }
    in let knows : Option Socket = Some (record { door = None; reader = k.reader })
    in let inside : Scene = with_socket d knows s
    in quiet_trans s inside (judged_by d i k dd s (passes user)) c (socket_quiet d knows s c apart)
    (quiet_trans inside (hand (event.Up d p) inside) (judged_by d i k dd s (passes user)) c (hand_quiet (event.Up d p) inside c apart (λ is. refl))
    (hand_quiet (event.Item d i) (hand (event.Up d p) inside) c refl (λ is. rw apart refl)))
judged_quiet d i k dd s c apart (ends items) =
    let shut : Scene = with_socket d None s
    in let told : Scene = say_all (map (out_line d) items) shut
    in quiet_trans s shut (judged_by d i k dd s (ends items)) c (socket_quiet d None s c apart)
    (quiet_trans shut told (judged_by d i k dd s (ends items)) c (say_quiet (map (out_line d) items) shut c (other_lines d c items apart)) (say_quiet (line.End d ∷ []) told c refl))

enter_at_quiet : (d : ConnectionId) (i : Item) (k : Socket) (s : Scene) (c : ℕ) → (d.0 == c) ≡ false → (o : Option DoorState) → Quiet s (enter_at d i k s o) c
enter_at_quiet d i k s c apart None = hand_quiet (event.Item d i) s c refl (λ is. rw apart refl)
enter_at_quiet d i k s c apart (Some dd) = judged_quiet d i k dd s c apart (door dd i)

enter_by_quiet : (d : ConnectionId) (i : Item) (s : Scene) (c : ℕ) → (d.0 == c) ≡ false → (o : Option Socket) → Quiet s (enter_by d i s o) c
enter_by_quiet d i s c apart None = quiet_refl s c
enter_by_quiet d i s c apart (Some k) = enter_at_quiet d i k s c apart k.door

pub enter_all_quiet : (d : ConnectionId) (is : List Item) (s : Scene) (c : ℕ) → (d.0 == c) ≡ false → Quiet s (enter_all d is s) c
enter_all_quiet d [] s c apart = quiet_refl s c
enter_all_quiet d (i ∷ is) s c apart =
    quiet_trans s (enter d i s) (enter_all d (i ∷ is) s) c (enter_by_quiet d i s c apart (s.sockets d.0)) (enter_all_quiet d is (enter d i s) c apart)

-- The state of a connection. D is what the door answers and P what it lets pass, as the items continue.

-- past the door: the router received the first of the items that passed, and all of them while the connection is live
pub record Through (said : List Item) (t : List Entry) (c : ℕ) (D P : List Item → List Item) : Type 0 where
  pub silent : (m : List Item) → D m ≡ said
  pub begins : (m : List Item) → Begins (ins t c) (P m)
  pub whole : is_live (conn t c) ≡ true → (m : List Item) → P m ≡ ins t c ++ m

-- at the door: the connection is unknown to the router
pub record AtDoor (said : List Item) (t : List Entry) (c : ℕ) (D P : List Item → List Item) (start : DoorState) : Type 0 where
  pub speaks : (m : List Item) → D m ≡ said ++ door_says start m
  pub lets : (m : List Item) → P m ≡ passed start m
  pub unknown : conn t c ≡ None
  pub none : ins t c ≡ []
  pub silent : outs t c ≡ []

abbrev pub StandsAt : List Item → List Entry → ℕ → (List Item → List Item) → (List Item → List Item) → Option DoorState → Type 0
StandsAt said t c D P (Some d) = AtDoor said t c D P d
StandsAt said t c D P None = Through said t c D P

abbrev pub Stands : List Item → List Entry → ℕ → (List Item → List Item) → (List Item → List Item) → Option Socket → Type 0
Stands said t c D P None = Through said t c D P × (is_live (conn t c) ≡ false)
Stands said t c D P (Some k) = StandsAt said t c D P k.door

-- what was sent and what is waiting are the door's answers and what the router put out
abbrev pub Balances : List Item → List Entry → ℕ → List ℕ → Type 0
Balances said t c bytes = bytes ++ spelled (waiting_of (conn t c)) ≡ spelled said ++ spelled (outs t c)

pub record Entered (s : Scene) (c : ℕ) (D P : List Item → List Item) : Type 0 where
  pub real : Real s
  pub said : List Item
  pub balance : Balances said s.trace c (bytes_out c s.lines)
  pub stands : Stands said s.trace c D P (s.sockets c)

-- the same if only the trace continues

pub level_balance : (said : List Item) (t u : List Entry) (c : ℕ) (bytes : List ℕ) → Level t u c → Balances said t c bytes → Balances said u c bytes
level_balance said t u c bytes level h =
    ap (λ (xs : List Item). bytes ++ spelled xs) level.waits
    ∙ ap (λ bs. bytes ++ bs) (spelled_more (waiting_of (conn t c)) level.added)
    ∙ sym (append_assoc bytes (spelled (waiting_of (conn t c))) (spelled level.added))
    ∙ ap (λ bs. bs ++ spelled level.added) h
    ∙ append_assoc (spelled said) (spelled (outs t c)) (spelled level.added)
    ∙ ap (λ bs. spelled said ++ bs) (sym (spelled_more (outs t c) level.added))
    ∙ ap (λ (xs : List Item). spelled said ++ spelled xs) (sym level.written)

through_goes : (said : List Item) (t u : List Entry) (c : ℕ) (D P : List Item → List Item) → (is_live (conn u c) ≡ true → is_live (conn t c) ≡ true) → ins u c ≡ ins t c
    → Through said t c D P → Through said u c D P
through_goes said t u c D P lives came h = record {
  silent = h.silent;
  begins = λ m. subst (λ (xs : List Item). Begins xs (P m)) (sym came) (h.begins m);
  whole = λ l m. h.whole (lives l) m ∙ ap (λ xs. xs ++ m) (sym came);
}

-- nothing is put out for an unknown connection
pub even_unknown : (t u : List Entry) (c : ℕ) → Even t u c → conn t c ≡ None → conn u c ≡ None
even_unknown t u c even none = none_of (conn u c) (even.known ∙ ap (λ (o : Option Connection). is_some o) none)

pub even_silent : (t u : List Entry) (c : ℕ) → Even t u c → conn t c ≡ None → outs u c ≡ outs t c
even_silent t u c even none =
    let nothing : [] ≡ even.level.added
    = sym (ap waiting_of (even_unknown t u c even none)) ∙ even.level.waits ∙ ap (λ (o : Option Connection). waiting_of o ++ even.level.added) none
    in even.level.written ∙ ap (λ xs. outs t c ++ xs) (sym nothing) ∙ append-nil (outs t c)

door_goes : (said : List Item) (t u : List Entry) (c : ℕ) (D P : List Item → List Item) (start : DoorState) → conn u c ≡ None → ins u c ≡ ins t c → outs u c ≡ outs t c
    → AtDoor said t c D P start → AtDoor said u c D P start
door_goes said t u c D P start unknown came written h = record {
  speaks = h.speaks;
  lets = h.lets;
  unknown = unknown;
  none = came ∙ h.none;
  silent = written ∙ h.silent;
}

stands_at_goes : (said : List Item) (t u : List Entry) (c : ℕ) (D P : List Item → List Item) → Even t u c → ins u c ≡ ins t c → (o : Option DoorState)
    → StandsAt said t c D P o → StandsAt said u c D P o
stands_at_goes said t u c D P even came None h = through_goes said t u c D P even.lives came h
stands_at_goes said t u c D P even came (Some d) h =
    door_goes said t u c D P d (even_unknown t u c even h.unknown) came (even_silent t u c even h.unknown) h

stands_goes : (said : List Item) (t u : List Entry) (c : ℕ) (D P : List Item → List Item) → Even t u c → ins u c ≡ ins t c → (k : Option Socket)
    → Stands said t c D P k → Stands said u c D P k
stands_goes said t u c D P even came None h = (through_goes said t u c D P even.lives came h.0, back (is_live (conn u c)) (is_live (conn t c)) even.lives h.1)
stands_goes said t u c D P even came (Some k) h = stands_at_goes said t u c D P even came k.door h

pub quiet_entered : (s u : Scene) (c : ℕ) (D P : List Item → List Item) → Quiet s u c → Entered s c D P → Entered u c D P
quiet_entered s u c D P q h = record {
  real = onward_real s u q.onward h.real;
  said = h.said;
  balance = subst (λ (bs : List ℕ). Balances h.said u.trace c bs) (sym q.bytes) (level_balance h.said s.trace u.trace c (bytes_out c s.lines) (q.even h.real).level h.balance);
  stands = subst (λ (k : Option Socket). Stands h.said u.trace c D P k) (sym q.socket) (stands_goes h.said s.trace u.trace c D P (q.even h.real) q.came (s.sockets c) h.stands);
}

-- the same in other terms

through_as : (said : List Item) (t : List Entry) (c : ℕ) (D P E Q : List Item → List Item) → ((m : List Item) → E m ≡ D m) → ((m : List Item) → Q m ≡ P m)
    → Through said t c D P → Through said t c E Q
through_as said t c D P E Q spoken let_in h = record {
  silent = λ m. spoken m ∙ h.silent m;
  begins = λ m. subst (λ (xs : List Item). Begins (ins t c) xs) (sym (let_in m)) (h.begins m);
  whole = λ l m. let_in m ∙ h.whole l m;
}

stands_at_as : (said : List Item) (t : List Entry) (c : ℕ) (D P E Q : List Item → List Item) → ((m : List Item) → E m ≡ D m) → ((m : List Item) → Q m ≡ P m)
    → (o : Option DoorState) → StandsAt said t c D P o → StandsAt said t c E Q o
stands_at_as said t c D P E Q spoken let_in None h = through_as said t c D P E Q spoken let_in h
stands_at_as said t c D P E Q spoken let_in (Some d) h = record {
  speaks = λ m. spoken m ∙ h.speaks m;
  lets = λ m. let_in m ∙ h.lets m;
  unknown = h.unknown;
  none = h.none;
  silent = h.silent;
}

stands_as : (said : List Item) (t : List Entry) (c : ℕ) (D P E Q : List Item → List Item) → ((m : List Item) → E m ≡ D m) → ((m : List Item) → Q m ≡ P m)
    → (k : Option Socket) → Stands said t c D P k → Stands said t c E Q k
stands_as said t c D P E Q spoken let_in None h = (through_as said t c D P E Q spoken let_in h.0, h.1)
stands_as said t c D P E Q spoken let_in (Some k) h = stands_at_as said t c D P E Q spoken let_in k.door h

pub entered_as : (s : Scene) (c : ℕ) (D P E Q : List Item → List Item) → ((m : List Item) → E m ≡ D m) → ((m : List Item) → Q m ≡ P m)
    → Entered s c D P → Entered s c E Q
entered_as s c D P E Q spoken let_in h = record {
  real = h.real;
  said = h.said;
  balance = h.balance;
  stands = stands_as h.said s.trace c D P E Q spoken let_in (s.sockets c) h.stands;
}
