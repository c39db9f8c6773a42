-- What a connection carried, once all outboxes are empty.
use Rattle.std.proofs.Common.{◌≡◌, ◌∙◌, sym, ap, subst, true≢false, ℕ, Bool, true, false, List, [], ◌++◌, append-nil}
use Rattle.std.specs.Prelude.{Option, Some, None}
use Rattle.amqp_model.specs.declared.item.Item.{Item}
use Rattle.amqp_frames.specs.Cuts.{Cuts}
use Rattle.core_door.specs.declared.door.Door.{Door as DoorState}
use Rattle.core_player.specs.declared.socket.Socket.{Socket}
use Rattle.router_trace.specs.Trace.{Entry}
use Rattle.router_trace.specs.Connection.{conn, is_live, is_ready}
use Rattle.router_play.specs.Script.{Scene}
use Rattle.router_core.specs.Moves.{ins, outs}
use Rattle.router_play.specs.Carrying.{was_lost, bytes_out, spelled, door_says, passed, Begins, Carries}
use Rattle.router_play.proofs.Levels.{ready_waits}
use Rattle.router_play.proofs.Entering.{StandsAt, Stands, Entered}

-- all outboxes are empty
abbrev pub Flushed : Scene → Type 0
Flushed s = (c : ℕ) → is_ready (conn s.trace c) ≡ false

-- At the end.

stands_said : (said : List Item) (t : List Entry) (c : ℕ) (D P : List Item → List Item) (k : Option Socket) → Stands said t c D P k → D [] ≡ said
stands_said said t c D P None h = h.0.silent []
stands_said said t c D P (Some k) h = by_door k.door h
  where
    by_door : (o : Option DoorState) → StandsAt said t c D P o → D [] ≡ said
    by_door None h = h.silent []
    by_door (Some d) h = h.speaks [] ∙ append-nil said

stands_begins : (said : List Item) (t : List Entry) (c : ℕ) (D P : List Item → List Item) (k : Option Socket) → Stands said t c D P k → Begins (ins t c) (P [])
stands_begins said t c D P None h = h.0.begins []
stands_begins said t c D P (Some k) h = by_door k.door h
  where
    by_door : (o : Option DoorState) → StandsAt said t c D P o → Begins (ins t c) (P [])
    by_door None h = h.begins []
    by_door (Some d) h = (P [], ap (λ xs. xs ++ P []) h.none)

stands_whole : (said : List Item) (t : List Entry) (c : ℕ) (D P : List Item → List Item) (k : Option Socket) → Stands said t c D P k → is_live (conn t c) ≡ true → ins t c ≡ P []
stands_whole said t c D P None h l = absurd (true≢false (sym l ∙ h.1))
stands_whole said t c D P (Some k) h l = by_door k.door h
  where
    by_door : (o : Option DoorState) → StandsAt said t c D P o → ins t c ≡ P []
    by_door None h = sym (h.whole l [] ∙ append-nil (ins t c))
    by_door (Some d) h = absurd (true≢false (sym l ∙ ap is_live h.unknown))

pub carries_at : (start : DoorState) (stream : List ℕ) (s : Scene) (c : ℕ) (D P : List Item → List Item) (ended : Bool) (items : List Item) (rest : List ℕ) → Flushed s → Cuts ended stream items rest
    → D [] ≡ door_says start items → P [] ≡ passed start items → (was_lost s.trace c ≡ true → ins s.trace c ≡ passed start items) → Entered s c D P → Carries start stream s.trace s.lines c
carries_at start stream s c D P ended items rest flushed cut door past until h = record {
  ended = ended;
  items = items;
  rest = rest;
  cut = cut;
  enters = subst (λ (xs : List Item). Begins (ins s.trace c) xs) past (stands_begins h.said s.trace c D P (s.sockets c) h.stands);
  whole = λ l. stands_whole h.said s.trace c D P (s.sockets c) h.stands l ∙ past;
  until = until;
  out = sym (ap (λ (xs : List Item). bytes_out c s.lines ++ spelled xs) (ready_waits (conn s.trace c) (flushed c)) ∙ append-nil (bytes_out c s.lines))
      ∙ h.balance
      ∙ ap (λ (xs : List Item). spelled xs ++ spelled (outs s.trace c)) (sym (stands_said h.said s.trace c D P (s.sockets c) h.stands) ∙ door);
}
