-- A connection of a script is lost.
use Rattle.std.proofs.Common.{◌≡◌, ◌∙◌, sym, ap, refl, subst, true≢false, ℕ, true, false, List, [], ◌∷◌, ◌++◌, append-nil}
use Rattle.std.specs.Prelude.{◌==◌, Option, Some, None}
use Rattle.amqp_model.specs.declared.item.Item.{Item}
use Rattle.router_trace.specs.declared.event.ConnectionId.{ConnectionId}
use Rattle.router_trace.specs.declared.event.Event.TheVariants as event
use Rattle.core_door.specs.declared.door.Door.{Door as DoorState}
use Rattle.core_player.specs.declared.socket.Socket.{Socket}
use Rattle.router_trace.specs.Trace.{Entry, step_of}
use Rattle.router_trace.specs.Connection.{conn, is_live}
use Rattle.router_trace.specs.Refusing.{reaches}
use Rattle.core_machine.specs.Moves.{waiting_of}
use Rattle.router_core.specs.Replies.{handled}
use Rattle.router_play.specs.Script.{Scene, say, refused, with_socket, with_trace, told, lose_by}
use Rattle.router_core.specs.Moves.{ins}
use Rattle.router_play.specs.Carrying.{was_lost, bytes_out, door_says, passed, Begins}
use Rattle.router_core.proofs.Coming.{ins_handled as handled_ins}
use Rattle.router_play.proofs.Scenes.{not_true, not_false}
use Rattle.router_play.proofs.PlayMoves.{Real, onward_real, answered_onward}
use Rattle.router_play.proofs.Levels.{down_level, down_dead, ready_waits, same}
use Rattle.router_play.proofs.Entering.{level_balance, hand_cases, hand_sockets, hand_last, Quiet, bytes_more, Through, StandsAt, Stands, Balances, Entered, quiet_entered}
use Rattle.router_play.proofs.Bringing.{closed_entered}
use Rattle.router_play.proofs.Ending.{Flushed}
use Rattle.router_play.proofs.Stages.{Lost, Opened, refused_quiet}

-- The connection is lost.

through_ends : (said : List Item) (t u : List Entry) (c : ℕ) (D P : List Item → List Item) (ds ps : List Item) → ds ≡ D [] → ps ≡ P [] → ins u c ≡ ins t c → is_live (conn u c) ≡ false
    → Through said t c D P → Stands said u c (λ m. ds) (λ m. ps) None
through_ends said t u c D P ds ps spoken let_in came dead h = (
  record {
    silent = λ m. spoken ∙ h.silent [];
    begins = λ m. subst (λ (xs : List Item). Begins xs ps) (sym came) (subst (λ (xs : List Item). Begins (ins t c) xs) (sym let_in) (h.begins []));
    whole = λ l m. absurd (true≢false (sym l ∙ dead));
  },
  dead,
)

told_lost : (d : ConnectionId) (s : Scene) → Real s → (said : List Item) (D P : List Item → List Item) (ds ps : List Item) → ds ≡ D [] → ps ≡ P [] → waiting_of (conn s.trace d.0) ≡ []
    → s.sockets d.0 ≡ None → Balances said s.trace d.0 (bytes_out d.0 s.lines) → (o : Option DoorState) → StandsAt said s.trace d.0 D P o
    → Entered (told d s o) d.0 (λ m. ds) (λ m. ps)
told_lost d s real said D P ds ps spoken let_in none closed balance None h =
    hand_cases (λ u. Entered u d.0 (λ m. ds) (λ m. ps)) (event.Down d) s
    (λ r. record {
      real = real;
      said = said;
      balance = subst (λ (bs : List ℕ). Balances said s.trace d.0 bs) (sym (bytes_more d.0 s.lines (refused ∷ []) ∙ append-nil (bytes_out d.0 s.lines))) balance;
      stands = subst (λ (o : Option Socket). Stands said s.trace d.0 (λ m. ds) (λ m. ps) o) (sym closed)
          (through_ends said s.trace s.trace d.0 D P ds ps spoken let_in refl (not_true (is_live (conn s.trace d.0)) r) h);
    })
    (λ r. let u : List Entry = handled s.id s.trace (step_of (event.Down d))
    in record {
      real = onward_real s (with_trace u s) (answered_onward (event.Down d) s r) real;
      said = said;
      balance = level_balance said s.trace u d.0 (bytes_out d.0 s.lines) (down_level s.id real.0 s.trace d real.1 r none) balance;
      stands = subst (λ (o : Option Socket). Stands said u d.0 (λ m. ds) (λ m. ps) o) (sym closed)
          (through_ends said s.trace u d.0 D P ds ps spoken let_in (handled_ins s.id s.trace (event.Down d) d.0) (ap is_live (down_dead s.id real.0 s.trace d real.1 r)) h);
    })
told_lost d s real said D P ds ps spoken let_in none closed balance (Some dd) h = record {
  real = real;
  said = said;
  balance = balance;
  stands = subst (λ (o : Option Socket). Stands said s.trace d.0 (λ m. ds) (λ m. ps) o) (sym closed) (
    record {
      silent = λ m. spoken ∙ h.speaks [] ∙ append-nil said;
      begins = λ m. (ps, ap (λ xs. xs ++ ps) h.none);
      whole = λ l m. absurd (true≢false (sym l ∙ ap is_live h.unknown));
    },
    ap is_live h.unknown,
  );
}

-- if the router is told of the loss, the connection was live until then
told_until : (d : ConnectionId) (s : Scene) (said : List Item) (D P : List Item → List Item) (ps : List Item) → ps ≡ P [] → was_lost s.trace d.0 ≡ false
    → (o : Option DoorState) → StandsAt said s.trace d.0 D P o → was_lost (told d s o).trace d.0 ≡ true → ins (told d s o).trace d.0 ≡ ps
told_until d s said D P ps let_in kept None h =
    hand_cases (λ u. was_lost u.trace d.0 ≡ true → ins u.trace d.0 ≡ ps) (event.Down d) s
    (λ r l. absurd (true≢false (sym l ∙ kept)))
    (λ r l. handled_ins s.id s.trace (event.Down d) d.0
    ∙ sym (let_in ∙ h.whole (not_false (is_live (conn s.trace d.0)) r) [] ∙ append-nil (ins s.trace d.0)))
told_until d s said D P ps let_in kept (Some dd) h = λ l. absurd (true≢false (sym l ∙ kept))

told_last : (d : ConnectionId) (s : Scene) (o : Option DoorState) → (told d s o).last ≡ s.last
told_last d s None = hand_last (event.Down d) s
told_last d s (Some dd) = refl

told_socket : (d : ConnectionId) (s : Scene) (o : Option DoorState) → (told d s o).sockets d.0 ≡ s.sockets d.0
told_socket d s None = hand_sockets (event.Down d) s d.0
told_socket d s (Some dd) = refl

pub opened_lost : (start : DoorState) (d : ConnectionId) (s : Scene) (stream : List ℕ) → Flushed s → Opened start s d.0 stream → (o : Option Socket) → s.sockets d.0 ≡ o → Lost start (lose_by d s o) d.0 stream
opened_lost start d s stream flushed h None is =
    let q : Quiet s (say refused s) d.0 = refused_quiet s d.0
    in record {
      ended = h.ended;
      items = h.items;
      rest = h.rest;
      cut = h.cut;
      entered = quiet_entered s (say refused s) d.0 (λ m. door_says start h.items) (λ m. passed start h.items) q
          (closed_entered s d.0 (λ m. door_says start (h.items ++ m)) (λ m. passed start (h.items ++ m)) (λ m. door_says start h.items) (λ m. passed start h.items)
          (λ m. []) (λ m. ap (λ xs. door_says start xs) (sym (append-nil h.items))) (λ m. ap (λ xs. passed start xs) (sym (append-nil h.items))) is h.entered);
      socket = is;
      reached = h.reached;
      until = λ l. absurd (true≢false (sym l ∙ h.kept));
    }
opened_lost start d s stream flushed h (Some k) is =
    let here : (d.0 == d.0) ≡ true = same d.0
    in let shut : Scene = with_socket d None s
    in let closed : shut.sockets d.0 ≡ None = rw here refl
    in let D : List Item → List Item = λ m. door_says start (h.items ++ m)
    in let P : List Item → List Item = λ m. passed start (h.items ++ m)
    in let stand : Stands h.entered.said s.trace d.0 D P (Some k) = subst (λ (o : Option Socket). Stands h.entered.said s.trace d.0 D P o) is h.entered.stands
    in record {
      ended = h.ended;
      items = h.items;
      rest = h.rest;
      cut = h.cut;
      entered = told_lost d shut h.entered.real h.entered.said D P (door_says start h.items) (passed start h.items)
          (ap (λ xs. door_says start xs) (sym (append-nil h.items))) (ap (λ xs. passed start xs) (sym (append-nil h.items)))
          (ready_waits (conn s.trace d.0) (flushed d.0)) closed h.entered.balance k.door stand;
      socket = told_socket d shut k.door ∙ closed;
      reached = ap (λ (o : Option ℕ). reaches d.0 o) (told_last d shut k.door) ∙ h.reached;
      until = told_until d shut h.entered.said D P (passed start h.items) (ap (λ xs. passed start xs) (sym (append-nil h.items))) h.kept k.door stand;
    }
