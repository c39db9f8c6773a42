-- What passes on a link, in parts. However a message is cut into frames, its parts are the same (AMQP 1.0 part 2, sections 2.6.14 and 2.7.5).
use Rattle.std.specs.Prelude.{ℕ, Bool, true, false, ◌||◌, if◌then◌else◌, List, [], ◌∷◌, ◌++◌, map, None, is_some}
use Rattle.amqp_model.specs.declared.perf.Attach.{Attach}
use Rattle.amqp_model.specs.declared.perf.Flow.{Flow}
use Rattle.amqp_model.specs.declared.perf.Transfer.{Transfer}
use Rattle.amqp_model.specs.declared.perf.Disposition.{Disposition}
use Rattle.amqp_model.specs.declared.perf.Detach.{Detach}
use Rattle.route_links.specs.declared.middle.Middle.{Middle}
use Rattle.route_links.specs.declared.middle.Middle.TheVariants.{Between, Open, Settled}
use Rattle.route_links.specs.declared.passing.Passing.{Passing}
use Rattle.route_links.specs.declared.passing.Passing.TheVariants as pass

pub data Part : Type 0 where
  -- an end attaches: all but the handle
  Attached : Attach → Part
  -- a flow: all but the handle and the figures of the session
  Flowed : Flow → Part
  -- a transfer starts a delivery: its fields
  Start : Transfer → Part
  -- a later transfer of a delivery gives fields, too
  Again : Transfer → Part
  -- a later transfer is the first to say that the delivery is settled
  Settles : Part
  -- a byte of the message
  Byte : ℕ → Part
  -- the delivery is aborted, or whole
  Aborts : Part
  Ends : Part
  -- what a disposition says of one delivery, which is told by how many were started before: all but the ids
  Decides : ℕ → Disposition → Part
  -- an end detaches: all but the handle
  Detached : Detach → Part

-- a transfer without handle and delivery-id, and without what ends a delivery
abbrev pub fields : Transfer → Transfer
fields x = record x { handle = 0; delivery_id = None; more = false; aborted = false }

-- it has another field than those, and settled
abbrev pub has_fields : Transfer → Bool
has_fields x = is_some x.delivery_tag || is_some x.message_format || is_some x.rcv_settle_mode || is_some x.state || x.resume || x.batchable

abbrev pub again : Transfer → List Part
again x = if has_fields x then Again (record (fields x) { settled = false }) ∷ [] else []

-- what a transfer says, by what is in the middle
abbrev pub saying : Middle → Transfer → List Part
saying Between x = Start (fields x) ∷ []
saying Open x = if x.settled then again x ++ Settles ∷ [] else again x
saying Settled x = again x

abbrev pub ending : Transfer → List Part
ending x = if x.aborted then Aborts ∷ [] else if x.more then [] else Ends ∷ []

abbrev pub transfer_parts : Middle → Transfer → List ℕ → List Part
transfer_parts m x payload = saying m x ++ (map Byte payload ++ ending x)

-- the parts of a frame, by what is in the middle
abbrev pub parts : Middle → Passing → List Part
parts m (pass.Attach a) = Attached (record a { handle = 0 }) ∷ []
parts m (pass.Flow f) = Flowed (record f { handle = None; next_incoming_id = None; incoming_window = 0; next_outgoing_id = 0; outgoing_window = 0 }) ∷ []
parts m (pass.Transfer x payload) = transfer_parts m x payload
parts m (pass.Disposition n d) = Decides n.0 (record d { first = 0; last = None }) ∷ []
parts m (pass.Detach d) = Detached (record d { handle = 0 }) ∷ []

-- What is in the middle: a start begins a delivery, and its end or its abort ends it.
abbrev pub begun : Middle → Bool → Middle
begun Settled settled = Settled
begun _ settled = if settled then Settled else Open

abbrev pub settled_now : Middle → Middle
settled_now Between = Between
settled_now _ = Settled

abbrev pub after_part : Middle → Part → Middle
after_part m (Start x) = begun Between x.settled
after_part m Settles = settled_now m
after_part m Aborts = Between
after_part m Ends = Between
after_part m _ = m

abbrev pub after : Middle → List Part → Middle
after m [] = m
after m (p ∷ ps) = after (after_part m p) ps

abbrev pub middle : List Part → Middle
middle ps = after Between ps

abbrev pub starts : Middle → Bool
starts Between = true
starts _ = false

-- the parts of frames, one after another
abbrev pub parts_of : Middle → List Passing → List Part
parts_of m [] = []
parts_of m (f ∷ fs) = parts m f ++ parts_of (after m (parts m f)) fs

abbrev pub is_detach : Passing → Bool
is_detach (pass.Detach d) = true
is_detach _ = false

abbrev pub is_detached : Part → Bool
is_detached (Detached d) = true
is_detached _ = false
