-- Bytes are received on a connection of a script.
use Rattle.std.proofs.Common.{◌≡◌, ◌∙◌, sym, ap, refl, subst, true≢false, ℕ, Bool, true, false, List, ◌++◌, append_assoc}
use Rattle.std.specs.Prelude.{◌==◌, Option, Some, None}
use Rattle.amqp_model.specs.declared.item.Item.{Item}
use Rattle.amqp_frames.specs.Cuts.{Cuts}
use Rattle.amqp_frames.proofs.Streams.{cuts_append}
use Rattle.router_trace.specs.declared.event.ConnectionId.{ConnectionId}
use Rattle.core_door.specs.declared.door.Door.{Door as DoorState}
use Rattle.core_player.specs.declared.socket.Socket.{Socket}
use Rattle.router_trace.specs.Refusing.{reaches}
use Rattle.router_play.specs.Script.{Scene, say, refused, with_socket, enter_all, Reads, BytesCome, stream_of}
use Rattle.router_core.specs.Replies.{handled}
use Rattle.router_core.specs.Moves.{ins}
use Rattle.router_play.specs.Carrying.{door_says, passed, Begins}
use Rattle.core_player.proofs.Keeping.{Keeps, enter_all_keeps}
use Rattle.core_player.proofs.Streams.{wrong_more, further}
use Rattle.router_play.proofs.Levels.{same}
use Rattle.router_play.proofs.Entering.{Quiet, Stands, Entered, quiet_entered, entered_as}
use Rattle.router_play.proofs.Passing.{enter_all_own, enter_all_last, enter_all_kept}
use Rattle.router_play.proofs.Stages.{Opened, refused_quiet}

-- further items make no difference to a closed connection
pub closed_entered : (s : Scene) (c : ℕ) (D P E Q : List Item → List Item) (more : List Item → List Item) → ((m : List Item) → E m ≡ D (more m)) → ((m : List Item) → Q m ≡ P (more m))
    → s.sockets c ≡ None → Entered s c D P → Entered s c E Q
closed_entered s c D P E Q more spoken let_in closed h =
    let shut : Stands h.said s.trace c D P None = subst (λ (o : Option Socket). Stands h.said s.trace c D P o) closed h.stands
    in record {
      real = h.real;
      said = h.said;
      balance = h.balance;
      stands = subst (λ (o : Option Socket). Stands h.said s.trace c E Q o) (sym closed) (
        record {
          silent = λ m. spoken m ∙ shut.0.silent (more m);
          begins = λ m. subst (λ (xs : List Item). Begins (ins s.trace c) xs) (sym (let_in m)) (shut.0.begins (more m));
          whole = λ l m. absurd (true≢false (sym l ∙ shut.1));
        },
        shut.1,
      );
    }

-- what a stream that ended keeps doesn't matter
pub keeps_failed : (rest : List ℕ) (ended : Bool) (new : List ℕ) (o : Option Socket) → ended ≡ true → Keeps rest ended o → Keeps new true o
keeps_failed rest ended new None over h = tt
keeps_failed rest ended new (Some k) over h = (h.0 ∙ over, λ e. absurd (true≢false e))

opened_failed : (start : DoorState) (s : Scene) (c : ℕ) (stream bytes : List ℕ) (h : Opened start s c stream) → h.ended ≡ true → Opened start (say refused s) c (stream ++ bytes)
opened_failed start s c stream bytes h over =
    let q : Quiet s (say refused s) c = refused_quiet s c
    in let cut : Cuts true stream h.items h.rest = subst (λ (b : Bool). Cuts b stream h.items h.rest) over h.cut
    in record {
      ended = true;
      items = h.items;
      rest = h.rest ++ bytes;
      cut = wrong_more stream h.items h.rest bytes cut;
      reader = keeps_failed h.rest h.ended (h.rest ++ bytes) (s.sockets c) over h.reader;
      entered = quiet_entered s (say refused s) c (λ m. door_says start (h.items ++ m)) (λ m. passed start (h.items ++ m)) q h.entered;
      reached = h.reached;
      kept = h.kept;
    }

opened_closed : (start : DoorState) (s : Scene) (c : ℕ) (stream bytes : List ℕ) → s.sockets c ≡ None → Opened start s c stream → Opened start (say refused s) c (stream ++ bytes)
opened_closed start s c stream bytes closed h =
    let q : Quiet s (say refused s) c = refused_quiet s c
    in let k = further h.ended stream h.items h.rest bytes h.cut
    in record {
      ended = k.0;
      items = h.items ++ k.1;
      rest = k.2;
      cut = k.3;
      reader = subst (λ (o : Option Socket). Keeps k.2 k.0 o) (sym closed) tt;
      entered = quiet_entered s (say refused s) c (λ m. door_says start ((h.items ++ k.1) ++ m)) (λ m. passed start ((h.items ++ k.1) ++ m)) q
          (closed_entered s c (λ m. door_says start (h.items ++ m)) (λ m. passed start (h.items ++ m)) (λ m. door_says start ((h.items ++ k.1) ++ m)) (λ m. passed start ((h.items ++ k.1) ++ m))
          (λ m. k.1 ++ m) (λ m. ap (λ xs. door_says start xs) (append_assoc h.items k.1 m)) (λ m. ap (λ xs. passed start xs) (append_assoc h.items k.1 m)) closed h.entered);
      reached = h.reached;
      kept = h.kept;
    }

opened_read : (start : DoorState) (d : ConnectionId) (s : Scene) (stream bytes : List ℕ) (k : Socket) (e : Bool) (js : List Item) (r : List ℕ) → (h : Opened start s d.0 stream) → s.sockets d.0 ≡ Some k → k.reader.failed ≡ false
    → Cuts e (k.reader.rest ++ bytes) js r → Opened start (enter_all d js (with_socket d (Some (stream_of k r e)) s)) d.0 (stream ++ bytes)
opened_read start d s stream bytes k e js r h is works cut =
    let here : (d.0 == d.0) ≡ true = same d.0
    in let kept : Keeps h.rest h.ended (Some k) = subst (λ (o : Option Socket). Keeps h.rest h.ended o) is h.reader
    in let goes : h.ended ≡ false = sym kept.0 ∙ works
    in let before : Cuts false stream h.items h.rest = subst (λ (b : Bool). Cuts b stream h.items h.rest) goes h.cut
    in let read : Scene = with_socket d (Some (stream_of k r e)) s
    in let D : List Item → List Item = λ m. door_says start (h.items ++ m)
    in let P : List Item → List Item = λ m. passed start (h.items ++ m)
    in let stand : Stands h.entered.said s.trace d.0 D P (Some k) = subst (λ (o : Option Socket). Stands h.entered.said s.trace d.0 D P o) is h.entered.stands
    in record {
      ended = e;
      items = h.items ++ js;
      rest = r;
      cut = cuts_append e stream h.items h.rest bytes js r before.0 (subst (λ (bs : List ℕ). Cuts e (bs ++ bytes) js r) (kept.1 goes) cut);
      reader = enter_all_keeps handled r e d js read (rw here (refl, λ _. refl));
      entered = entered_as (enter_all d js read) d.0 (λ m. D (js ++ m)) (λ m. P (js ++ m)) (λ m. door_says start ((h.items ++ js) ++ m)) (λ m. passed start ((h.items ++ js) ++ m))
          (λ m. ap (λ xs. door_says start xs) (append_assoc h.items js m)) (λ m. ap (λ xs. passed start xs) (append_assoc h.items js m))
          (enter_all_own d js read D P (record { real = h.entered.real; said = h.entered.said; balance = h.entered.balance; stands = rw here stand }));
      reached = ap (λ (o : Option ℕ). reaches d.0 o) (enter_all_last d js read) ∙ h.reached;
      kept = enter_all_kept d js read d.0 ∙ h.kept;
    }

pub opened_bytes : (start : DoorState) (d : ConnectionId) (bytes : List ℕ) (s u : Scene) (stream : List ℕ) → Opened start s d.0 stream → (o : Option Socket) → s.sockets d.0 ≡ o → BytesCome d bytes s o u
    → Opened start u d.0 (stream ++ bytes)
opened_bytes start d bytes s u stream h None is come = subst (λ (w : Scene). Opened start w d.0 (stream ++ bytes)) (sym come) (opened_closed start s d.0 stream bytes is h)
opened_bytes start d bytes s u stream h (Some k) is come = by_reader k.reader.failed refl come
  where
    by_reader : (b : Bool) → k.reader.failed ≡ b → Reads d bytes s k b u → Opened start u d.0 (stream ++ bytes)
    by_reader true failed come =
        let kept : Keeps h.rest h.ended (Some k) = subst (λ (o : Option Socket). Keeps h.rest h.ended o) is h.reader
        in subst (λ (w : Scene). Opened start w d.0 (stream ++ bytes)) (sym come) (opened_failed start s d.0 stream bytes h (sym kept.0 ∙ failed))
    by_reader false works come =
        subst (λ (w : Scene). Opened start w d.0 (stream ++ bytes)) (sym come.4) (opened_read start d s stream bytes k come.0 come.1 come.2 h is works come.3)
