-- The stages of a connection of a script, after flushes and after steps that don't concern it.
use Rattle.std.proofs.Common.{◌≡◌, ◌∙◌, sym, ap, refl, subst, true≢false, ℕ, Bool, true, false, List, [], ◌∷◌, ◌++◌}
use Rattle.std.specs.Prelude.{◌==◌, Option, Some, None, is_some}
use Rattle.std.proofs.lemmas.Bool.{eqb-true}
use Rattle.amqp_model.specs.declared.item.Item.{Item}
use Rattle.amqp_frames.specs.Cuts.{Cuts}
use Rattle.router_trace.specs.declared.event.ConnectionId.{ConnectionId}
use Rattle.router_trace.specs.declared.event.Event.TheVariants as event
use Rattle.core_door.specs.declared.door.Door.{Door as DoorState}
use Rattle.core_player.specs.declared.socket.Socket.{Socket}
use Rattle.router_trace.specs.Connection.{conn}
use Rattle.router_trace.specs.Refusing.{reaches}
use Rattle.router_play.specs.Script.{Scene, say, refused, with_socket, hand, enter_all, Reads, BytesCome, stream_of, told, lose_by, lose, Flushes}
use Rattle.router_core.specs.Moves.{ins, outs}
use Rattle.router_play.specs.Carrying.{was_lost, door_says, passed}
use Rattle.state_connections.proofs.Lists.{by_test}
use Rattle.router_play.proofs.Entering.{Quiet, quiet_refl, say_quiet, hand_quiet, socket_quiet, quiet_trans, enter_all_quiet, Entered, quiet_entered, even_unknown, even_silent}
use Rattle.core_player.proofs.Keeping.{Keeps}
use Rattle.router_play.proofs.Passing.{take_all_entered, take_all_socket, take_all_last, take_all_unknown, take_all_same}

-- The stages of a connection: it isn't made yet, bytes are received on it, it is lost.

pub record Unmade (s : Scene) (c : ℕ) : Type 0 where
  pub entered : Entered s c (λ m. []) (λ m. [])
  pub socket : s.sockets c ≡ None
  pub unknown : conn s.trace c ≡ None
  pub silent : outs s.trace c ≡ []
  pub kept : was_lost s.trace c ≡ false

pub record Opened (start : DoorState) (s : Scene) (c : ℕ) (stream : List ℕ) : Type 0 where
  pub ended : Bool
  pub items : List Item
  pub rest : List ℕ
  pub cut : Cuts ended stream items rest
  pub reader : Keeps rest ended (s.sockets c)
  pub entered : Entered s c (λ m. door_says start (items ++ m)) (λ m. passed start (items ++ m))
  pub reached : reaches c s.last ≡ true
  pub kept : was_lost s.trace c ≡ false

pub record Lost (start : DoorState) (s : Scene) (c : ℕ) (stream : List ℕ) : Type 0 where
  pub ended : Bool
  pub items : List Item
  pub rest : List ℕ
  pub cut : Cuts ended stream items rest
  pub entered : Entered s c (λ m. door_says start items) (λ m. passed start items)
  pub socket : s.sockets c ≡ None
  pub reached : reaches c s.last ≡ true
  pub until : was_lost s.trace c ≡ true → ins s.trace c ≡ passed start items

-- after a flush

pub unmade_flushed : (s u : Scene) (c : ℕ) → Flushes s u → Unmade s c → Unmade u c
unmade_flushed s u c f h = subst (λ (w : Scene). Unmade w c) (sym f.scene) (record {
  entered = take_all_entered f.takes s c (λ m. []) (λ m. []) h.entered;
  socket = take_all_socket (λ o. o ≡ None) f.takes s c refl h.socket;
  unknown = take_all_unknown f.takes s c h.unknown;
  silent = take_all_same (λ t. outs t c) (λ d n t. refl) f.takes s ∙ h.silent;
  kept = take_all_same (λ t. was_lost t c) (λ d n t. refl) f.takes s ∙ h.kept;
})

pub opened_flushed : (start : DoorState) (s u : Scene) (c : ℕ) (stream : List ℕ) → Flushes s u → Opened start s c stream → Opened start u c stream
opened_flushed start s u c stream f h = subst (λ (w : Scene). Opened start w c stream) (sym f.scene) (record {
  ended = h.ended;
  items = h.items;
  rest = h.rest;
  cut = h.cut;
  reader = take_all_socket (λ o. Keeps h.rest h.ended o) f.takes s c tt h.reader;
  entered = take_all_entered f.takes s c (λ m. door_says start (h.items ++ m)) (λ m. passed start (h.items ++ m)) h.entered;
  reached = ap (λ (o : Option ℕ). reaches c o) (take_all_last f.takes s) ∙ h.reached;
  kept = take_all_same (λ t. was_lost t c) (λ d n t. refl) f.takes s ∙ h.kept;
})

pub lost_flushed : (start : DoorState) (s u : Scene) (c : ℕ) (stream : List ℕ) → Flushes s u → Lost start s c stream → Lost start u c stream
lost_flushed start s u c stream f h = subst (λ (w : Scene). Lost start w c stream) (sym f.scene) (record {
  ended = h.ended;
  items = h.items;
  rest = h.rest;
  cut = h.cut;
  entered = take_all_entered f.takes s c (λ m. door_says start h.items) (λ m. passed start h.items) h.entered;
  socket = take_all_socket (λ o. o ≡ None) f.takes s c refl h.socket;
  reached = ap (λ (o : Option ℕ). reaches c o) (take_all_last f.takes s) ∙ h.reached;
  until = λ l. take_all_same (λ t. ins t c) (λ d n t. refl) f.takes s ∙ h.until (sym (take_all_same (λ t. was_lost t c) (λ d n t. refl) f.takes s) ∙ l);
})

-- after a step that doesn't concern it

pub unmade_quiet : (s u : Scene) (c : ℕ) → Quiet s u c → Unmade s c → Unmade u c
unmade_quiet s u c q h = record {
  entered = quiet_entered s u c (λ m. []) (λ m. []) q h.entered;
  socket = q.socket ∙ h.socket;
  unknown = even_unknown s.trace u.trace c (q.even h.entered.real) h.unknown;
  silent = even_silent s.trace u.trace c (q.even h.entered.real) h.unknown ∙ h.silent;
  kept = q.kept ∙ h.kept;
}

pub opened_quiet : (start : DoorState) (s u : Scene) (c : ℕ) (stream : List ℕ) → Quiet s u c → Opened start s c stream → Opened start u c stream
opened_quiet start s u c stream q h = record {
  ended = h.ended;
  items = h.items;
  rest = h.rest;
  cut = h.cut;
  reader = subst (λ (o : Option Socket). Keeps h.rest h.ended o) (sym q.socket) h.reader;
  entered = quiet_entered s u c (λ m. door_says start (h.items ++ m)) (λ m. passed start (h.items ++ m)) q h.entered;
  reached = ap (λ (o : Option ℕ). reaches c o) q.last ∙ h.reached;
  kept = q.kept ∙ h.kept;
}

pub lost_quiet : (start : DoorState) (s u : Scene) (c : ℕ) (stream : List ℕ) → Quiet s u c → Lost start s c stream → Lost start u c stream
lost_quiet start s u c stream q h = record {
  ended = h.ended;
  items = h.items;
  rest = h.rest;
  cut = h.cut;
  entered = quiet_entered s u c (λ m. door_says start h.items) (λ m. passed start h.items) q h.entered;
  socket = q.socket ∙ h.socket;
  reached = ap (λ (o : Option ℕ). reaches c o) q.last ∙ h.reached;
  until = λ l. q.came ∙ h.until (sym q.kept ∙ l);
}

pub refused_quiet : (s : Scene) (c : ℕ) → Quiet s (say refused s) c
refused_quiet s c = say_quiet (refused ∷ []) s c refl

pub bytes_quiet : (d : ConnectionId) (bytes : List ℕ) (s u : Scene) (c : ℕ) → (d.0 == c) ≡ false → (o : Option Socket) → BytesCome d bytes s o u → Quiet s u c
bytes_quiet d bytes s u c apart None come = subst (λ (w : Scene). Quiet s w c) (sym come) (refused_quiet s c)
bytes_quiet d bytes s u c apart (Some k) come = by_reader k.reader.failed come
  where
    by_reader : (b : Bool) → Reads d bytes s k b u → Quiet s u c
    by_reader true come = subst (λ (w : Scene). Quiet s w c) (sym come) (refused_quiet s c)
    by_reader false come =
        let read : Scene = with_socket d (Some (stream_of k come.2 come.0)) s
        in subst (λ (w : Scene). Quiet s w c) (sym come.4)
        (quiet_trans s read (enter_all d come.1 read) c (socket_quiet d (Some (stream_of k come.2 come.0)) s c apart) (enter_all_quiet d come.1 read c apart))

pub lose_quiet : (d : ConnectionId) (s : Scene) (c : ℕ) → (d.0 == c) ≡ false → (o : Option Socket) → Quiet s (lose_by d s o) c
lose_quiet d s c apart None = refused_quiet s c
lose_quiet d s c apart (Some k) = quiet_trans s (with_socket d None s) (lose_by d s (Some k)) c (socket_quiet d None s c apart) (by_door k.door)
  where
    by_door : (o : Option DoorState) → Quiet (with_socket d None s) (told d (with_socket d None s) o) c
    by_door None = hand_quiet (event.Down d) (with_socket d None s) c apart (λ is. refl)
    by_door (Some dd) = quiet_refl (with_socket d None s) c

-- nothing is received on a connection that is closed
closed_bytes : (d : ConnectionId) (bytes : List ℕ) (s u : Scene) (c : ℕ) → (o : Option Socket) → o ≡ None → BytesCome d bytes s o u → Quiet s u c
closed_bytes d bytes s u c None h come = subst (λ (w : Scene). Quiet s w c) (sym come) (refused_quiet s c)
closed_bytes d bytes s u c (Some k) h come = absurd (true≢false (ap (λ (o : Option Socket). is_some o) h))

closed_loss : (d : ConnectionId) (s : Scene) (c : ℕ) → (o : Option Socket) → o ≡ None → Quiet s (lose_by d s o) c
closed_loss d s c None h = refused_quiet s c
closed_loss d s c (Some k) h = absurd (true≢false (ap (λ (o : Option Socket). is_some o) h))

-- the connection of this number, or another
either : {G : Type 0} (d : ConnectionId) (c : ℕ) → (d.0 ≡ c → G) → ((d.0 == c) ≡ false → G) → G
either d c f g = by_test (d.0 == c) (λ e. f (eqb-true d.0 c e)) g

-- no step concerns a closed connection except its making

pub closed_in : (d : ConnectionId) (bytes : List ℕ) (s u : Scene) (c : ℕ) → s.sockets c ≡ None → BytesCome d bytes s (s.sockets d.0) u → Quiet s u c
closed_in d bytes s u c closed come =
    either d c
    (λ e. closed_bytes d bytes s u c (s.sockets d.0) (ap s.sockets e ∙ closed) come)
    (λ apart. bytes_quiet d bytes s u c apart (s.sockets d.0) come)

pub closed_down : (d : ConnectionId) (s : Scene) (c : ℕ) → s.sockets c ≡ None → Quiet s (lose d s) c
closed_down d s c closed =
    either d c
    (λ e. closed_loss d s c (s.sockets d.0) (ap s.sockets e ∙ closed))
    (λ apart. lose_quiet d s c apart (s.sockets d.0))

pub tick_quiet : (ms : ℕ) (s : Scene) (c : ℕ) → Quiet s (hand (event.Tick ms) s) c
tick_quiet ms s c = hand_quiet (event.Tick ms) s c refl (λ is. refl)
