-- What a transfer that is taken causes: a complete message is bound, or released, or rejected on a multicast address.
use Rattle.std.proofs.Common.{◌≡◌, ◌∙◌, sym, ap, refl, subst, inl, inr, ℕ, Bool, true, false, not, List, [], ◌∷◌, ◌++◌, length}
use Rattle.std.proofs.lemmas.Bool.{eqb-true}
use Rattle.std.specs.Prelude.{Option, Some, None, option_map, if◌then◌else◌, nat_lt, unwrap_or}
use Rattle.amqp_model.specs.PerfSpelling.{state_spelling}
use Rattle.amqp_model.specs.declared.perf.Perf.TheVariants as perf
use Rattle.amqp_model.specs.declared.perf.Role.TheVariants.{Receiver}
use Rattle.amqp_model.specs.declared.perf.Transfer.{Transfer}
use Rattle.amqp_model.specs.declared.state.DeliveryState.{DeliveryState}
use Rattle.amqp_model.specs.declared.state.DeliveryState.TheVariants as state
use Rattle.amqp_model.specs.declared.item.Item.TheVariants as item
use Rattle.amqp_link.specs.declared.part.Delivery.{Delivery as Told}
use Rattle.amqp_link.specs.declared.part.Part.{Part}
use Rattle.amqp_link.specs.declared.part.Part.TheVariants as part
use Rattle.amqp_link.specs.Deliveries.{Frame, frame, bytes, delivery, is_too_large}
use Rattle.amqp_link.specs.Receiving.{Received, middle, given, is_beyond}
use Rattle.book_model.specs.Book.{BookView}
use Rattle.book_model.specs.declared.row.Row.{Row}
use Rattle.book_model.specs.declared.row.RowNumber.{RowNumber}
use Rattle.router_trace.specs.declared.binding.Binding.{Binding}
use Rattle.router_trace.specs.declared.binding.Origin.{Origin}
use Rattle.router_trace.specs.declared.condition.Condition.TheVariants.{MessageSizeExceeded, NotImplemented, ResourceLimitExceeded}
use Rattle.router_trace.specs.declared.event.ConnectionId.{ConnectionId}
use Rattle.router_trace.specs.declared.event.Event.TheVariants as event
use Rattle.router_trace.specs.declared.handle.Attachment.{Attachment}
use Rattle.router_trace.specs.Trace.{Entry, Step, Did, Out, Took, Bound, Booked, Routed, Began, goes, each_to}
use Rattle.router_trace.specs.DeliveryFrames.{kept_outcome, outcome_item}
use Rattle.router_trace.specs.Frames.{error_of}
use Rattle.router_trace.specs.Sessions.{theirs}
use Rattle.router_trace.specs.Claims.{Claim, claims}
use Rattle.router_trace.specs.Links.{Link, LinkPlace, Happened, link, link_place, durable_key}
use Rattle.router_trace.specs.Settling.{is_claimed_on, is_of_link, unbound, part_on, part_by, part_of}
use Rattle.state_messages.specs.Messages.{consumer_of, binding_to}
use Rattle.router_state.specs.Copying.{goes_to_all}
use Rattle.reply_transfers.specs.Transfers.{claimed_id, from_link, origin_of, lasts_on, may_pass, fresh_bound, join_from, resumed_bound, resumed_put, whole_put, whole_bound, part_put, part_bound, let_down, let_down_as, let_down_by, let_go, unbound_put, ignored_put}
use Rattle.reply_transfers.specs.Joining.{row_under}
use Rattle.reply_rows.specs.Acts.{book_in}
use Rattle.router_reply.specs.Replies.{row_found}
use Rattle.theorems.specs.Came.{Handled, just_handled, bound_since, CameWhole, ComesFrom, HasRowOn, JoinsRow}
use Rattle.theorems.specs.Told.{IsUnbound, unbound_state}
use Rattle.state_connections.proofs.Lists.{by_test}
use Rattle.theorems.proofs.Claimed.{ClaimedRow, claimed_row}
use Rattle.theorems.proofs.Tests.{some_same, none_not_some}
use Rattle.theorems.proofs.Sound.{Sound, Answered, answer_binds, Lawful, AllLawful, quiet_lawful, goes_sound, quiet_sound, quiet_to}
use Rattle.theorems.proofs.Quiet.{let_go_quiet, ignored_quiet}
use Rattle.reply_rows.proofs.Transfers.{IsOn}

-- a complete message

pub record IsWhole (f : Frame) (list : Received) (d : Told) (payload : List ℕ) : Type 0 where
  pub more : f.transfer.more ≡ false
  pub aborted : f.transfer.aborted ≡ false
  pub message : d ≡ delivery f (middle list)
  pub joined : payload ≡ bytes (middle list) ++ f.payload

given_whole : (f : Frame) (list : Received) (d : Told) (payload : List ℕ) → given f list ≡ part.Whole d payload → IsWhole f list d payload
given_whole f list d payload h =
    let all = by (is_beyond list) f.transfer.aborted (is_too_large (f ∷ middle list)) f.transfer.more h
    in record { more = all.1; aborted = all.0; message = all.2; joined = all.3 }
  where
    by : (beyond aborted large more : Bool)
        → (if beyond then part.BeyondCredit
        else (if aborted then part.Aborted else if large then part.TooLarge else if more then part.More
        else part.Whole (delivery f (middle list)) (bytes (f ∷ middle list)))) ≡ part.Whole d payload
        → (aborted ≡ false) × (more ≡ false) × (d ≡ delivery f (middle list)) × (payload ≡ bytes (middle list) ++ f.payload)
    by true aborted large more h = absurd cc
    by false true large more h = absurd cc
    by false false true more h = absurd cc
    by false false false true h = absurd cc
    by false false false false h = (refl, refl, cc, cc)

-- ... and the trace that its last frame found
pub record CameAt (t after : List Entry) (c own handle : ℕ) (d : Told) (payload : List ℕ) : Type 0 where
  pub came : CameWhole after c own handle d payload
  pub at : came.handled.found ≡ t

pub came_whole : (t after : List Entry) (s : Step) (conn : ConnectionId) (sasl : Bool) (channel : ℕ) (x : Transfer) (carried : List ℕ) (own handle : ℕ) (d : Told) (payload : List ℕ)
    → s.event ≡ event.Item conn (item.Frame sasl channel (perf.Transfer x) carried) → just_handled after ≡ Some (record { step = s; found = t })
    → IsOn sasl (theirs t conn.0 channel) (link_place t conn.0 own x.handle) own handle
    → part_of (item.Frame sasl channel (perf.Transfer x) carried) (link_place t conn.0 own) ≡ Some (part.Whole d payload)
    → CameAt t after conn.0 own handle d payload
came_whole t after s conn sasl channel x carried own handle d payload came just here is =
    let plain : part_on x carried (link_place t conn.0 own x.handle) ≡ Some (part.Whole d payload)
    = subst (λ (b : Bool). (if b then None else part_on x carried (link_place t conn.0 own x.handle)) ≡ Some (part.Whole d payload)) here.plain is
    in let at : part_by x carried here.place.happened ≡ Some (part.Whole d payload)
    = subst (λ (at : LinkPlace). part_on x carried at ≡ Some (part.Whole d payload)) here.on_handle plain
    in let on_list : Some (given (frame x carried) here.happened) ≡ Some (part.Whole d payload)
    = subst (λ (w : Happened). part_by x carried w ≡ Some (part.Whole d payload)) here.receiving at
    in let whole = given_whole (frame x carried) here.happened d payload (some_same on_list)
    in record {
      came = record {
        handled = record { step = s; found = t };
        conn = conn;
        channel = channel;
        transfer = x;
        carried = carried;
        place = here.place;
        happened = here.happened;
        just = just;
        came = subst (λ (b : Bool). s.event ≡ event.Item conn (item.Frame b channel (perf.Transfer x) carried)) here.plain came;
        on_connection = refl;
        on_session = here.session;
        on_handle = here.on_handle;
        receiving = here.receiving;
        last = whole.more;
        not_aborted = whole.aborted;
        message_is = whole.message;
        payload_is = whole.joined;
      };
      at = refl;
    }

-- its id, if its producer hasn't settled it

claimed_is : (after : List Entry) (c own handle : ℕ) (v : Option ℕ) (id : ℕ) → claimed_id after c own handle v ≡ Some id → (v ≡ Some id) × (is_claimed_on after c own handle id ≡ true)
claimed_is after c own handle None id h = absurd cc
claimed_is after c own handle (Some k) id h =
    by_test (is_claimed_on after c own handle k)
    (λ e. let same : k ≡ id = some_same (rw e at h) in (ap (λ (n : ℕ). Some n) same, subst (λ (n : ℕ). is_claimed_on after c own handle n ≡ true) same e))
    (λ e. absurd (none_some (rw e at h)))
  where
    none_some : {n : ℕ} → None ≡ Some n → ⊥
    none_some e = cc

-- released, or rejected

kept_released : kept_outcome state.Released ≡ state.Released
kept_released = by (nat_lt 400 (length (state_spelling state.Released)))
  where
    by : (b : Bool) → (if b then state.Released else state.Released) ≡ state.Released
    by true = refl
    by false = refl

abbrev refused : DeliveryState
refused = state.Rejected (record { error = Some (error_of NotImplemented) })

kept_rejected : kept_outcome refused ≡ refused
kept_rejected = by (nat_lt 400 (length (state_spelling refused)))
  where
    by : (b : Bool) → (if b then refused else refused) ≡ refused
    by true = refl
    by false = refl

-- what is told of it
as_told : (to_all : Bool) → kept_outcome (let_down_as to_all) ≡ unbound_state to_all
as_told false = kept_released
as_told true = kept_rejected

-- a disposition that says so
releases : (after : List Entry) (c own handle : ℕ) (d : Told) (payload : List ℕ) (id : ℕ) (durable : Bool) (came : CameWhole after c own handle d payload) → d.resume ≡ false
    → claimed_id after c own handle d.id ≡ Some id → lasts_on (link after c own handle) ≡ durable → IsUnbound after (link after c own handle) (row_found came.handled.found) → row_found came.handled.found ≡ None
    → Lawful after c (outcome_item own Receiver id (not durable) (let_down_as (goes_to_all after (link after c own handle))))
releases after c own handle d payload id durable came fresh claimed lasts none rowless =
    let is = claimed_is after c own handle d.id id claimed
    in (
      tt,
      record {
        one = refl;
        of = inr (record {
          handle = handle;
          message = d;
          payload = payload;
          came = came;
          not_resumed = fresh;
          its_id = is.0;
          unsettled = is.1;
          unbound = none;
          rowless = rowless;
          told = ap (λ (s : DeliveryState). Some s) (as_told (goes_to_all after (link after c own handle)));
          settled = sym (ap not lasts);
        });
      },
    )

released_lawful : (after : List Entry) (c own handle : ℕ) (d : Told) (payload : List ℕ) (v : Option ℕ) (came : CameWhole after c own handle d payload) → d.resume ≡ false
    → claimed_id after c own handle d.id ≡ v → IsUnbound after (link after c own handle) (row_found came.handled.found) → row_found came.handled.found ≡ None → AllLawful after (each_to c (let_down after c own handle v))
released_lawful after c own handle d payload None came fresh claimed none rowless = tt
released_lawful after c own handle d payload (Some id) came fresh claimed none rowless = by (lasts_on (link after c own handle)) refl
  where
    by : (durable : Bool) → lasts_on (link after c own handle) ≡ durable → AllLawful after (each_to c (let_down_by after c own handle durable (let_down_as (goes_to_all after (link after c own handle))) id))
    by false lasts = (releases after c own handle d payload id false came fresh claimed lasts none rowless, tt)
    by true lasts =
        by_test (nat_lt 1024 (unbound after c own handle))
        (λ e. rw e (quiet_lawful (each_to c (let_go after c own handle ResourceLimitExceeded)) after (quiet_to c (let_go after c own handle ResourceLimitExceeded) (let_go_quiet after c own handle ResourceLimitExceeded))))
        (λ e. rw e (releases after c own handle d payload id true came fresh claimed lasts none rowless, tt))

-- bound

from_is : (after : List Entry) (c own handle : ℕ) (l : Link) (d : Told) (v : Option ℕ) → claimed_id after c own handle d.id ≡ v
    → ComesFrom (option_map (origin_of (from_link c own handle l)) v) after c own handle l d
from_is after c own handle l d None claimed = claimed
from_is after c own handle l d (Some id) claimed =
    let is = claimed_is after c own handle d.id id claimed in (refl, is.0, is.1)

pub none_since : (t : List Entry) (h : Handled) → just_handled t ≡ Some h → bound_since t ≡ 0
none_since [] h just = refl
none_since (Did s ∷ t) h just = refl
none_since (Out c i ∷ t) h just = none_since t h just
none_since (Took c k ∷ t) h just = absurd (none_not_some just)
none_since (Bound b ∷ t) h just = absurd (none_not_some just)
none_since (Booked acts full ∷ t) h just = absurd (none_not_some just)
none_since (Routed passage ∷ t) h just = none_since t h just
none_since (Began g ∷ t) h just = absurd (none_not_some just)

-- whether it may be bound

not_passed : (durable : Bool) (v : Option ℕ) (row : Option RowNumber) → may_pass durable v row ≡ false → (durable ≡ true) × (row ≡ None)
not_passed true (Some id) None e = (refl, refl)
not_passed true (Some id) (Some r) e = absurd cc
not_passed false (Some id) row e = absurd cc
not_passed durable None row e = absurd cc

has_row : (durable : Bool) (f : ℕ → Origin) (v : Option ℕ) (row : Option RowNumber) → may_pass durable v row ≡ true → HasRowOn durable (option_map f v) row
has_row true f (Some id) row e = e
has_row false f (Some id) row e = tt
has_row true f None row e = tt
has_row false f None row e = tt

-- the book since the last event handled
pub book_since : (t : List Entry) (h : Handled) → just_handled t ≡ Some h → book_in t ≡ book_in h.found
book_since [] h just = absurd (none_not_some just)
book_since (Did s ∷ t) h just = ap (λ (k : Handled). book_in k.found) (some_same just)
book_since (Out c i ∷ t) h just = book_since t h just
book_since (Took c k ∷ t) h just = absurd (none_not_some just)
book_since (Bound b ∷ t) h just = absurd (none_not_some just)
book_since (Booked acts full ∷ t) h just = absurd (none_not_some just)
book_since (Routed passage ∷ t) h just = book_since t h just
book_since (Began g ∷ t) h just = absurd (none_not_some just)

-- a resumed one that joins its row

-- a claim of a link has its handle
on_handle : (v : Option Claim) (handle : ℕ) (claim : Claim) → v ≡ Some claim → is_of_link handle v ≡ true → claim.handle ≡ handle
on_handle None handle claim is of = absurd (none_not_some is)
on_handle (Some x) handle claim is of = ap (λ (y : Claim). y.handle) (sym (some_same is)) ∙ eqb-true x.handle handle of

joins_row : (after : List Entry) (c own handle : ℕ) (d : Told) (payload : List ℕ) (l : Link) (id : ℕ) (r : Row) → CameWhole after c own handle d payload → d.resume ≡ true
    → link after c own handle ≡ Some l → claimed_id after c own handle d.id ≡ Some id → row_under (book_in after) after c own id ≡ Some r
    → JoinsRow after (join_from after (from_link c own handle l) id r) (origin_of (from_link c own handle l) id)
joins_row after c own handle d payload l id r came again at claimed joins =
    let is = claimed_is after c own handle d.id id claimed in
    let row : ClaimedRow (book_in after) after c own id r = claimed_row (book_in after) after c own id r joins in
    let same : row.claim.handle ≡ handle = on_handle (claims after c own id) handle row.claim row.claimed is.1 in
    record {
      conn = c;
      own = own;
      handle = handle;
      message = d;
      payload = payload;
      came = came;
      once = none_since after came.handled came.just;
      resumed = again;
      producer = l;
      attached = at;
      from = from_is after c own handle l d (Some id) claimed;
      claim = row.claim;
      claimed = row.claimed;
      on_link = same;
      key = row.joined.of_link;
      durable = ap durable_key (sym at ∙ ap (link after c own) (sym same)) ∙ row.joined.durable;
      terminus = row.joined.terminus;
      of_key = row.joined.of_key;
      row = r;
      earlier = row.joined.earlier;
      later = row.joined.later;
      kept = row.joined.kept;
      its_producer = row.joined.its_producer;
      same_tag = row.joined.same_tag;
      unforgotten = row.joined.unforgotten;
      joins = refl;
    }

abbrev ResumedSound : List Entry → ℕ → ℕ → ℕ → Option ℕ → Option Link → Type 0
ResumedSound after c own handle q v =
    Answered after (each_to c (resumed_put (book_in after) after c own handle q)) (resumed_bound (book_in after) after c own handle q v)

resumed_sound : (after : List Entry) (c own handle : ℕ) (d : Told) (payload : List ℕ) (v : Option Link) (q : Option ℕ) → Sound after → CameWhole after c own handle d payload → d.resume ≡ true
    → link after c own handle ≡ v → claimed_id after c own handle d.id ≡ q → ResumedSound after c own handle q v
resumed_sound after c own handle d payload v None sound came again at claimed = by v
  where
    by : (v : Option Link) → ResumedSound after c own handle None v
    by None = sound
    by (Some l) = sound
resumed_sound after c own handle d payload v (Some id) sound came again at claimed = by v at (row_under (book_in after) after c own id) refl
  where
    quiet : Sound (goes (each_to c (ignored_put after c own handle (Some id))) after)
    quiet = quiet_sound (each_to c (ignored_put after c own handle (Some id))) after (quiet_to c (ignored_put after c own handle (Some id)) (ignored_quiet after c own handle (Some id))) sound

    by : (v : Option Link) → link after c own handle ≡ v → (r : Option Row) → row_under (book_in after) after c own id ≡ r → ResumedSound after c own handle (Some id) v
    by None at None joins = rw joins quiet
    by None at (Some r) joins = rw joins sound
    by (Some l) at None joins = rw joins quiet
    by (Some l) at (Some r) joins = rw joins (answer_binds (join_from after (from_link c own handle l) id r) after (joins_row after c own handle d payload l id r came again at claimed joins) sound)

-- a complete message, whether its link is attached or not, by whether it may be bound and the consumer chosen for it

abbrev pub bound_on : List Entry → ℕ → ℕ → ℕ → Told → Option RowNumber → List ℕ → Option Link → Bool → Option Attachment → Option Binding
bound_on after c own handle d row payload None passes x = None
bound_on after c own handle d row payload (Some l) passes x =
    if passes then option_map (binding_to after (option_map (origin_of (from_link c own handle l)) (claimed_id after c own handle d.id)) row (unwrap_or d.format 0) payload) x else None

-- what would be bound, by the row that the event admits
abbrev WholeBound : List Entry → ℕ → ℕ → ℕ → Told → Option RowNumber → List ℕ → Option Link → Bool → Bool → Option Attachment → Option Binding
WholeBound after c own handle d row payload v resumed passes x =
    if resumed then resumed_bound (book_in after) after c own handle (claimed_id after c own handle d.id) v else bound_on after c own handle d row payload v passes x

-- an event that admits a row binds something
abbrev pub BindsRow : Option RowNumber → Option Binding → Type 0
BindsRow row b = (r : RowNumber) → row ≡ Some r → (x : Binding) × (b ≡ Some x)

no_row_then : (row : Option RowNumber) → BindsRow row None → row ≡ None
no_row_then None binds = refl
no_row_then (Some r) binds = absurd (none_not_some (binds r refl).1)

abbrev WholeSound : List Entry → ℕ → ℕ → ℕ → Told → Option RowNumber → List ℕ → Option Link → Bool → Bool → Option Attachment → Type 0
WholeSound after c own handle d row payload v resumed passes x =
    Answered after (each_to c (if resumed then resumed_put (book_in after) after c own handle (claimed_id after c own handle d.id)
    else unbound_put after c own handle (claimed_id after c own handle d.id) (if passes then x else None)))
    (if resumed then resumed_bound (book_in after) after c own handle (claimed_id after c own handle d.id) v else bound_on after c own handle d row payload v passes x)

whole_cases : (after : List Entry) (c own handle : ℕ) (d : Told) (row : Option RowNumber) (payload : List ℕ) (v : Option Link) (resumed passes : Bool) (x : Option Attachment)
    → Sound after → (came : CameWhole after c own handle d payload) → row ≡ row_found came.handled.found → link after c own handle ≡ v → d.resume ≡ resumed
    → may_pass (lasts_on (link after c own handle)) (claimed_id after c own handle d.id) row ≡ passes → consumer_of after (link after c own handle) ≡ x
    → BindsRow row (WholeBound after c own handle d row payload v resumed passes x)
    → WholeSound after c own handle d row payload v resumed passes x
whole_cases after c own handle d row payload v resumed passes x sound came its at fresh may chosen binds = by v resumed passes x at fresh may chosen binds
  where
    claimed : Option ℕ
    claimed = claimed_id after c own handle d.id

    let_off : d.resume ≡ false → IsUnbound after (link after c own handle) (row_found came.handled.found) → BindsRow row None → Sound (goes (each_to c (let_down after c own handle claimed)) after)
    let_off fresh none binds =
        goes_sound (each_to c (let_down after c own handle claimed)) after (released_lawful after c own handle d payload claimed came fresh refl none (sym its ∙ no_row_then row binds)) sound

    no_row : may_pass (lasts_on (link after c own handle)) claimed row ≡ false → IsUnbound after (link after c own handle) (row_found came.handled.found)
    no_row may = let is = not_passed (lasts_on (link after c own handle)) claimed row may in inr (is.0, sym its ∙ is.1)

    passed : (l : Link) (a : Attachment) → link after c own handle ≡ Some l → d.resume ≡ false → may_pass (lasts_on (link after c own handle)) claimed row ≡ true
        → consumer_of after (link after c own handle) ≡ Some a
        → Answered after [] (Some (binding_to after (option_map (origin_of (from_link c own handle l)) claimed) row (unwrap_or d.format 0) payload a))
    passed l a at fresh may chosen =
        answer_binds (binding_to after (option_map (origin_of (from_link c own handle l)) claimed) row (unwrap_or d.format 0) payload a) after
        (record {
          conn = c;
          own = own;
          handle = handle;
          message = d;
          came = came;
          once = none_since after came.handled came.just;
          not_resumed = fresh;
          row = its;
          format = refl;
          producer = l;
          attached = at;
          chosen = ap (consumer_of after) (sym at) ∙ chosen;
          from = from_is after c own handle l d claimed refl;
          has_row = has_row (lasts_on (Some l)) (origin_of (from_link c own handle l)) claimed row (ap (λ (w : Option Link). may_pass (lasts_on w) claimed row) (sym at) ∙ may);
          lasting = refl;
        }) sound

    by : (v : Option Link) (resumed passes : Bool) (x : Option Attachment) → link after c own handle ≡ v → d.resume ≡ resumed
        → may_pass (lasts_on (link after c own handle)) claimed row ≡ passes → consumer_of after (link after c own handle) ≡ x
        → BindsRow row (WholeBound after c own handle d row payload v resumed passes x)
        → WholeSound after c own handle d row payload v resumed passes x
    by v true passes x at fresh may chosen binds = resumed_sound after c own handle d payload v claimed sound came fresh at refl
    by None false false x at fresh may chosen binds = let_off fresh (no_row may) binds
    by (Some l) false false x at fresh may chosen binds = let_off fresh (no_row may) binds
    by None false true None at fresh may none binds = let_off fresh (inl none) binds
    by (Some l) false true None at fresh may none binds = let_off fresh (inl none) binds
    by None false true (Some a) at fresh may chosen binds = absurd (none_not_some (ap (consumer_of after) (sym at) ∙ chosen))
    by (Some l) false true (Some a) at fresh may chosen binds = passed l a at fresh may chosen

-- what is bound, on the link that stands there
pub bound_there : (after : List Entry) (c own handle : ℕ) (d : Told) (row : Option RowNumber) (payload : List ℕ) (v : Option Link) → link after c own handle ≡ v
    → fresh_bound after c own handle d row payload v
    ≡ bound_on after c own handle d row payload v (may_pass (lasts_on (link after c own handle)) (claimed_id after c own handle d.id) row) (consumer_of after (link after c own handle))
bound_there after c own handle d row payload None at = refl
bound_there after c own handle d row payload (Some l) at = refl

whole_sound : (after : List Entry) (c own handle : ℕ) (d : Told) (row : Option RowNumber) (payload : List ℕ) → Sound after → (came : CameWhole after c own handle d payload)
    → row ≡ row_found came.handled.found → BindsRow row (whole_bound (book_in after) after c own handle d row payload)
    → Answered after (each_to c (whole_put (book_in after) after c own handle d row)) (whole_bound (book_in after) after c own handle d row payload)
whole_sound after c own handle d row payload sound came its binds =
    subst (λ (b : Option Binding). Answered after (each_to c (whole_put (book_in after) after c own handle d row))
    (if d.resume then resumed_bound (book_in after) after c own handle (claimed_id after c own handle d.id) (link after c own handle) else b))
    (sym (bound_there after c own handle d row payload (link after c own handle) refl))
    (whole_cases after c own handle d row payload (link after c own handle) d.resume (may_pass (lasts_on (link after c own handle)) (claimed_id after c own handle d.id) row)
    (consumer_of after (link after c own handle)) sound came its refl refl refl refl
    (subst (λ (b : Option Binding). BindsRow row (if d.resume then resumed_bound (book_in after) after c own handle (claimed_id after c own handle d.id) (link after c own handle) else b))
    (bound_there after c own handle d row payload (link after c own handle) refl) binds))

part_sound : (t after : List Entry) (c own handle : ℕ) (row : Option RowNumber) (q : Option Part) → Sound after → row ≡ row_found t
    → ((d : Told) (payload : List ℕ) → q ≡ Some (part.Whole d payload) → CameAt t after c own handle d payload) → BindsRow row (part_bound (book_in t) after c own handle row q)
    → Answered after (each_to c (part_put (book_in t) after c own handle row q)) (part_bound (book_in t) after c own handle row q)
part_sound t after c own handle row (Some (part.Whole d payload)) sound its came binds =
    let here = came d payload refl in
    let same : book_in after ≡ book_in t = book_since after here.came.handled here.came.just ∙ ap book_in here.at in
    subst (λ (b : BookView). Answered after (each_to c (whole_put b after c own handle d row)) (whole_bound b after c own handle d row payload)) same
    (whole_sound after c own handle d row payload sound here.came (its ∙ sym (ap row_found here.at))
    (subst (λ (b : BookView). BindsRow row (whole_bound b after c own handle d row payload)) (sym same) binds))
part_sound t after c own handle row (Some part.TooLarge) sound its came binds =
    quiet_sound (each_to c (let_go after c own handle MessageSizeExceeded)) after (quiet_to c (let_go after c own handle MessageSizeExceeded) (let_go_quiet after c own handle MessageSizeExceeded)) sound
part_sound t after c own handle row _ sound its came binds = sound

pub transfer_sound : (t after : List Entry) (s : Step) (conn : ConnectionId) (sasl : Bool) (channel : ℕ) (x : Transfer) (carried : List ℕ) (own handle : ℕ) → Sound after
    → s.event ≡ event.Item conn (item.Frame sasl channel (perf.Transfer x) carried) → just_handled after ≡ Some (record { step = s; found = t })
    → IsOn sasl (theirs t conn.0 channel) (link_place t conn.0 own x.handle) own handle
    → BindsRow (row_found t) (part_bound (book_in t) after conn.0 own handle (row_found t) (part_of (item.Frame sasl channel (perf.Transfer x) carried) (link_place t conn.0 own)))
    → Answered after (each_to conn.0 (part_put (book_in t) after conn.0 own handle (row_found t) (part_of (item.Frame sasl channel (perf.Transfer x) carried) (link_place t conn.0 own))))
    (part_bound (book_in t) after conn.0 own handle (row_found t) (part_of (item.Frame sasl channel (perf.Transfer x) carried) (link_place t conn.0 own)))
transfer_sound t after s conn sasl channel x carried own handle sound came just here binds =
    part_sound t after conn.0 own handle (row_found t) (part_of (item.Frame sasl channel (perf.Transfer x) carried) (link_place t conn.0 own)) sound refl
    (λ d payload is. came_whole t after s conn sasl channel x carried own handle d payload came just here is) binds
