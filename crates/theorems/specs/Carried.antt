-- The frames in which messages go to their consumers (AMQP 1.0 part 2, sections 2.6.14 and 2.7.5): transfers, of which the first of a delivery
-- has its id, its tag and its format, and each says whether more are to come.
use Rattle.std.specs.Prelude.{◌≡◌, ◌<◌, ℕ, ◌+◌, ◌^◌, true, false, is_some, if◌then◌else◌, List, [], ◌∷◌, ◌++◌, length, take, drop, Option, Some, None, IfSome}
use Rattle.amqp_model.specs.declared.perf.Perf.{Perf}
use Rattle.amqp_model.specs.declared.perf.Perf.TheVariants as perf
use Rattle.amqp_model.specs.declared.perf.Transfer.{Transfer}
use Rattle.amqp_model.specs.declared.item.Item.{Item}
use Rattle.amqp_model.specs.declared.item.Item.TheVariants as item
use Rattle.router_trace.specs.declared.binding.Binding.{Binding}
use Rattle.router_trace.specs.declared.binding.DeliveryName.{DeliveryName}
use Rattle.router_trace.specs.Trace.{Trace, Did, Out, Took, Bound, Booked, Routed, Began, IsOneRun}
use Rattle.router_trace.specs.Links.{Link, link}
use Rattle.router_trace.specs.Following.{is_sending}
use Rattle.router_trace.specs.Deliveries.{Delivery, bindings, counters, holds_standing, number_named, delivery, sending, carried, tag_in, tag_of, tagged, is_number}
use Rattle.theorems.specs.Each.{EachOut, EachBound}

-- Numbers are small: fewer than 2^64 messages without a row were bound, and the row of each that has one is below 2^64.
abbrev pub HasSmallRow : Trace → Binding → Type 0
HasSmallRow t b = IfSome b.row (λ r. r.0 < 2 ^ 64)

abbrev pub HasSmallNumbers : Trace → Type 0
HasSmallNumbers t = (counters t < 2 ^ 64) × EachBound HasSmallRow t

-- The first frame of a delivery: it has an id, the delivery's tag and the message format, and nothing of the delivery was sent before. The tag tells
-- the delivery's name. (It has 8 bytes of a number.)
pub record IsFirst (t : Trace) (d : Delivery) (x : Transfer) : Type 0 where
  pub id : is_some x.delivery_id ≡ true
  pub tag : tag_in x ≡ Some (tag_of d.name)
  pub tells_name : HasSmallNumbers t → tagged (tag_of d.name) ≡ Some d.name
  pub format : x.message_format ≡ Some d.format
  pub starts : d.sent ≡ 0

-- A later frame has none of them: it continues the delivery that was begun on its handle and has more to come.
pub record IsLater (t : Trace) (c own n : ℕ) (x : Transfer) : Type 0 where
  pub id : x.delivery_id ≡ None
  pub tag : tag_in x ≡ None
  pub format : x.message_format ≡ None
  pub same_delivery : sending t c own x.handle ≡ Some n

abbrev pub BeginsOrGoesOn : Option ℕ → Trace → ℕ → ℕ → ℕ → Delivery → Transfer → Type 0
BeginsOrGoesOn None t c own n d x = IsFirst t d x
BeginsOrGoesOn (Some id) t c own n d x = IsLater t c own n x

-- A transfer of the router carries the message of a delivery, on the link that it was bound to, which is attached, and on which the router sends: the next bytes
-- of it, and all remaining bytes if no more are to come. A delivery that has an id has begun.
pub record CarriesMessage (t : Trace) (c own : ℕ) (x : Transfer) (payload : List ℕ) : Type 0 where
  pub number : ℕ
  pub of : Delivery
  pub there : delivery t number ≡ Some of
  pub to_go : of.going_on ≡ true
  pub on_connection : of.link.conn.0 ≡ c
  pub on_session : of.link.channel ≡ own
  pub on_handle : of.link.handle ≡ x.handle
  pub attached : Link
  pub on_link : link t c own x.handle ≡ Some attached
  pub its_number : attached.number ≡ of.link.number
  pub sends : is_sending attached.happened ≡ true
  pub bytes : payload ≡ take (length payload) (drop of.sent of.payload)
  pub last : x.more ≡ false → payload ≡ drop of.sent of.payload
  pub whole_frames : x.aborted ≡ false
  pub begins_or_goes_on : BeginsOrGoesOn of.id t c own number of x

abbrev pub perf_carries : Perf → Trace → ℕ → ℕ → List ℕ → Type 0
perf_carries (perf.Transfer x) t c own payload = CarriesMessage t c own x payload
perf_carries _ t c own payload = Unit {0}

abbrev pub CarriesWhatWasBound : Trace → ℕ → Item → Type 0
CarriesWhatWasBound t c (item.Frame sasl own body payload) = perf_carries body t c own payload
CarriesWhatWasBound t c _ = Unit {0}

-- What a consumer gets of a delivery: the payloads of its frames, in the order in which they are sent. A frame with a tag belongs to the last delivery
-- bound with that tag, any other to the one that was begun on its handle.
abbrev pub bytes_in : (DeliveryName → Option ℕ) → Perf → ℕ → ℕ → List ℕ → (ℕ → ℕ → Option ℕ) → List ℕ → List ℕ
bytes_in numbers (perf.Transfer x) own n payload sent before = if is_number (carried numbers (tag_in x) (sent own x.handle)) n then before ++ payload else before
bytes_in numbers _ own n payload sent before = before

abbrev pub bytes_by : (DeliveryName → Option ℕ) → Item → ℕ → (ℕ → ℕ → Option ℕ) → List ℕ → List ℕ
bytes_by numbers (item.Frame sasl own body payload) n sent before = bytes_in numbers body own n payload sent before
bytes_by numbers _ n sent before = before

abbrev pub bytes_out : Trace → ℕ → List ℕ
bytes_out [] n = []
bytes_out (Did s ∷ t) n = bytes_out t n
bytes_out (Out c i ∷ t) n = bytes_by (number_named t) i n (sending t c) (bytes_out t n)
bytes_out (Took c k ∷ t) n = bytes_out t n
bytes_out (Bound b ∷ t) n = bytes_out t n
bytes_out (Booked acts full ∷ t) n = bytes_out t n
bytes_out (Routed passage ∷ t) n = bytes_out t n
bytes_out (Began g ∷ t) n = []

-- It is a beginning of the message that was bound, and after a frame that says that no more are to come it is the whole message.
pub record IsBeginning (bytes whole : List ℕ) : Type 0 where
  pub rest : List ℕ
  pub joined : bytes ++ rest ≡ whole

abbrev pub GoesInOrder : Trace → Type 0
GoesInOrder u = HasSmallNumbers u → (b : Binding) (t later : Trace) → IsOneRun later → holds_standing b.kind ≡ None → u ≡ later ++ Bound b ∷ t → IsBeginning (bytes_out u (bindings t + 1)) b.payload

abbrev pub perf_completes : Perf → Trace → ℕ → Item → ℕ → Type 0
perf_completes (perf.Transfer x) t c i own =
    HasSmallNumbers t → x.more ≡ false → (n : ℕ) (d : Delivery) → delivery t n ≡ Some d
    → carried (number_named t) (tag_in x) (sending t c own x.handle) ≡ Some n → bytes_out (Out c i ∷ t) n ≡ d.payload
perf_completes _ t c i own = Unit {0}

abbrev pub CompletesMessage : Trace → ℕ → Item → Type 0
CompletesMessage t c (item.Frame sasl own body payload) = perf_completes body t c (item.Frame sasl own body payload) own
CompletesMessage t c _ = Unit {0}

-- the frames of a message join to it, in order, and the last of them completes it
abbrev pub FramesJoin : Trace → Type 0
FramesJoin u = GoesInOrder u × EachOut CompletesMessage u
