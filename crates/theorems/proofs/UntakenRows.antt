-- What takes don't change: in a trace without its takes an item has the same answer if the journal is full or not, and an answer puts the same and binds
-- the same message.
use Rattle.std.proofs.Common.{◌≡◌, ◌∙◌, ap, refl, ℕ, ◌^◌, Bool, true, false, List, [], ◌∷◌, ◌++◌}
use Rattle.std.specs.Prelude.{Option, Some, None, ◌&&◌, ◌||◌, not, is_some, is_none, nat_lt, filter, option_map, option_and_then, unwrap_or, if◌then◌else◌}
use Rattle.amqp_model.specs.declared.perf.Attach.{Attach as AnAttach}
use Rattle.amqp_model.specs.declared.state.UnsettledDelivery.{UnsettledDelivery}
use Rattle.amqp_model.specs.declared.perf.Disposition.{Disposition as ADisposition}
use Rattle.amqp_model.specs.declared.perf.Perf.{Perf}
use Rattle.amqp_model.specs.declared.perf.Perf.TheVariants as perf
use Rattle.amqp_model.specs.declared.perf.Role.TheVariants.{Receiver}
use Rattle.amqp_model.specs.declared.perf.Transfer.{Transfer as ATransfer}
use Rattle.amqp_model.specs.declared.state.DeliveryState.{DeliveryState}
use Rattle.amqp_model.specs.declared.item.Item.{Item}
use Rattle.amqp_model.specs.declared.item.Item.TheVariants as item
use Rattle.amqp_conn.specs.declared.conn.Conn.{Conn}
use Rattle.book_model.specs.declared.row.Row.{Row}
use Rattle.book_model.specs.declared.row.RowNumber.{RowNumber}
use Rattle.book_model.specs.Book.{BookView, terminus_of}
use Rattle.book_model.specs.declared.terminus.LinkKey.{LinkKey}
use Rattle.amqp_link.specs.declared.part.Delivery.{Delivery as Told}
use Rattle.amqp_link.specs.declared.part.Part.{Part}
use Rattle.amqp_link.specs.declared.part.Part.TheVariants as part
use Rattle.router_trace.specs.declared.binding.Holding.TheVariants as holding
use Rattle.router_trace.specs.declared.binding.BindingKind.TheVariants as kind
use Rattle.router_trace.specs.declared.binding.DeliveryName.TheVariants as name
use Rattle.router_trace.specs.declared.binding.Binding.{Binding}
use Rattle.router_trace.specs.declared.binding.Origin.{Origin}
use Rattle.router_trace.specs.declared.condition.Condition.{Condition}
use Rattle.router_trace.specs.declared.condition.Condition.TheVariants.{NotAllowed, ResourceLimitExceeded, MessageSizeExceeded}
use Rattle.router_trace.specs.declared.handle.Attachment.{Attachment}
use Rattle.router_trace.specs.declared.event.Event.{Event}
use Rattle.router_trace.specs.declared.event.Event.TheVariants as event
use Rattle.router_trace.specs.Trace.{Entry, Bound, Put, goes, puts, each_to}
use Rattle.router_trace.specs.Configuration.{is_multicast}
use Rattle.router_trace.specs.LinkFrames.{plain_answer, answer_to, detach_item}
use Rattle.router_trace.specs.Links.{Link, link, free_handle, holder, key_at, link_place, durable_key}
use Rattle.router_trace.specs.Claims.{Claim, claims}
use Rattle.router_trace.specs.Deliveries.{joined_to, joining, terminal, last_of, named, tag_in}
use Rattle.router_trace.specs.DeliveryFrames.{outcome_item}
use Rattle.router_trace.specs.Numbers.{count_below, first_below}
use Rattle.router_trace.specs.Settling.{ids_between, is_open_as, names_open, is_open_id, is_of_link, is_unbound_on, unbound, is_tagged_on, uses_tag, middle_on, part_of}
use Rattle.state_messages.specs.Messages.{consumer_of, copies_for, lasts, binding_to, binding_for, copy_to}
use Rattle.router_state.specs.Copying.{copied_to, goes_to_all}
use Rattle.reply_rows.specs.declared.answer.Answer.{Answer}
use Rattle.reply_rows.specs.declared.answer.Answer.TheVariants.{Attach, Detach, Refuse, Taken, Settle}
use Rattle.reply_rows.specs.Rows.{Finds, said, item_reply}
use Rattle.reply_rows.specs.Finding.{finds}
use Rattle.reply_rows.specs.Booking.{wants_durable, wanted_address, new_terminus, has_room, durable_refusal, book_refusal, booked_attach, stands_from, repeats, booked_transfer, booked, answer_at}
use Rattle.reply_transfers.specs.Transfers.{claimed_id, settled_answers, from_link, origin_of, lasts_on, may_pass, consumer_for, fresh_bound, row_resumed, join_from, joined_on, joined_if, resumed_bound, unless_joined, resumed_put, whole_bound, let_go, unless_many, ignored_put, let_down_as, let_down_by, let_down, unbound_put, whole_put, part_put, part_bound, fresh_copied, whole_copied, part_copied}
use Rattle.reply_transfers.specs.Joining.{row_joined, row_claimed, row_under}
use Rattle.reply_rows.specs.Acts.{book_in, found_journal}
use Rattle.reply_rows.specs.Asking.{held_key, if_sends}
use Rattle.reply_rows.specs.Resuming.{asked_key, key_taken, key_by, key_in, taken_key, attach_in, if_receives, resumed_key, map_for}
use Rattle.router_reply.specs.Replies.{map_told, stolen_by, attach_answer, taken_after, taken, refused, row_found, bound_for, copied_for, links_put, item_put}
use Rattle.theorems.specs.Takes.{untaken}
use Rattle.theorems.proofs.Untaken.{untaken_goes, same_awaited, same_place, same_free, same_journaled}
use Rattle.theorems.proofs.UntakenDeliveries.{same_named, same_delivery, same_called, same_claims, same_numbered}
use Rattle.theorems.proofs.UntakenGrants.{same_distribution, same_choice, same_copies}
use Rattle.theorems.proofs.UntakenLinks.{same_key_at, same_largest, same_free_handle, same_link, same_link_place, same_holder}

same_finds : (t : List Entry) (c : ℕ) → finds t c ≡ finds (untaken t) c
same_finds t c = λ j. record {
  places = λ p. same_place t c p j;
  free_channel = same_free t c j;
  awaits = λ own. is_some (same_awaited t c own j);
  links = λ o p. same_link_place t c o p j;
  free_handle = λ o. same_free_handle t c o j;
  claimed = λ o id. is_some (same_claims t c o id j);
}

-- the answer to an item, if the journal is full or not
same_refusal : (full : Bool) (b : BookView) (t : List Entry) (c : ℕ) (a : AnAttach) → book_refusal full b t c a ≡ book_refusal full b (untaken t) c a
same_refusal full b t c a = λ j.
    if wants_durable a then
    durable_refusal b (terminus_of (same_key_at t c (plain_answer a 0) j) b.termini) a (has_room full b (new_terminus b (same_key_at t c (plain_answer a 0) j) (wanted_address a)))
    else None

same_tags : (t : List Entry) (c own handle : ℕ) (tag : List ℕ) → uses_tag t c own handle tag ≡ uses_tag (untaken t) c own handle tag
same_tags t c own handle tag = λ j. is_some (first_below (2 ^ 32) (λ id. is_tagged_on handle tag (same_claims t c own id j)))

same_repeats : (b : BookView) (t : List Entry) (c own handle : ℕ) (resume : Bool) (key : Option LinkKey) (tag : Option (List ℕ))
    → repeats b t c own handle resume key tag ≡ repeats b (untaken t) c own handle resume key tag
same_repeats b t c own handle resume (Some key) (Some tag) = λ j. same_tags t c own handle tag j || (not resume && stands_from (terminus_of key b.termini) tag b.rows)
same_repeats b t c own handle resume (Some key) None = refl
same_repeats b t c own handle resume None tag = refl

same_repeated : (b : BookView) (t : List Entry) (c : ℕ) (x : ATransfer) (a : Answer) → booked_transfer b t c x a ≡ booked_transfer b (untaken t) c x a
same_repeated b t c x (Taken own handle) =
    (λ j. if is_none (middle_on (same_link_place t c own x.handle j)) && repeats b t c own handle x.resume (durable_key (same_link t c own handle j)) (tag_in x)
    then Detach own handle false (Some NotAllowed) else Taken own handle)
    ∙ ap (λ (q : Bool). if is_none (middle_on (link_place (untaken t) c own x.handle)) && q then Detach own handle false (Some NotAllowed) else Taken own handle)
    (same_repeats b t c own handle x.resume (durable_key (link (untaken t) c own handle)) (tag_in x))
same_repeated b t c x _ = refl

same_booked : (full : Bool) (b : BookView) (t : List Entry) (c : ℕ) (i : Item) (a : Answer) → booked full b t c i a ≡ booked full b (untaken t) c i a
same_booked full b t c (item.Frame sasl channel (perf.Attach x) payload) a = λ j. booked_attach (λ o. same_free_handle t c o j) (same_refusal full b t c x j) a
same_booked full b t c (item.Frame sasl channel (perf.Transfer x) payload) a = same_repeated b t c x a
same_booked full b t c (item.Frame sasl channel _ payload) a = refl
same_booked full b t c _ a = refl

pub same_answer_at : (full : Bool) (b : BookView) (t : List Entry) (c : ℕ) (p : Conn) (i : Item) → answer_at full b t c p i ≡ answer_at full b (untaken t) c p i
same_answer_at full b t c p i =
    ap (λ (k : Finds). booked full b t c i (item_reply p k i)) (same_finds t c) ∙ same_booked full b t c i (item_reply p (finds (untaken t) c) i)

-- an attach

same_taken_after : (t : List Entry) (c own : ℕ) (ours : List UnsettledDelivery) (a : AnAttach) (stolen : List Put)
    → taken_after t c own ours a stolen ≡ taken_after (untaken t) c own ours a stolen
same_taken_after t c own ours a stolen = λ j. stolen ++ each_to c (attach_answer (same_largest t c j) own (behind j) ours a)
  where
    behind : free_handle (goes stolen t) c own ≡ free_handle (goes stolen (untaken t)) c own
    behind = same_free_handle (goes stolen t) c own ∙ ap (λ (u : List Entry). free_handle u c own) (untaken_goes stolen t)

same_taken : (t : List Entry) (c own : ℕ) (ours : List UnsettledDelivery) (a : AnAttach) → taken t c own ours a ≡ taken (untaken t) c own ours a
same_taken t c own ours a =
    same_taken_after t c own ours a (stolen_by (holder t (key_at t c (answer_to a 0))))
    ∙ ap (λ (x : Option Attachment). taken_after (untaken t) c own ours a (stolen_by x)) (same_holder t c (answer_to a 0))

-- the rows that it takes up

same_asked_key : (t : List Entry) (c : ℕ) (a : AnAttach) → asked_key t c a ≡ asked_key (untaken t) c a
same_asked_key t c a = λ j. if wants_durable a then Some (same_key_at t c (plain_answer a 0) j) else None

same_key_taken : (t : List Entry) (c : ℕ) (a : AnAttach) (y : Answer) → key_taken t c a y ≡ key_taken (untaken t) c a y
same_key_taken t c a (Attach own) = same_asked_key t c a
same_key_taken t c a _ = refl

same_key_by : (t : List Entry) (c : ℕ) (body : Perf) (y : Answer) → key_by t c body y ≡ key_by (untaken t) c body y
same_key_by t c (perf.Attach a) y = same_key_taken t c a y
same_key_by t c _ y = refl

same_key_in : (t : List Entry) (c : ℕ) (i : Item) (y : Answer) → key_in t c i y ≡ key_in (untaken t) c i y
same_key_in t c (item.Frame sasl channel body payload) y = same_key_by t c body y
same_key_in t c _ y = refl

pub same_taken_key : (t : List Entry) (e : Event) (y : Answer) → taken_key t e y ≡ taken_key (untaken t) e y
same_taken_key t (event.Item c i) y = same_key_in t c.0 i y
same_taken_key t (event.Down c) y = refl
same_taken_key t (event.Tick ms) y = refl
same_taken_key t (event.Up c p) y = refl
same_taken_key t event.Start y = refl

pub same_resumed_key : (t : List Entry) (e : Event) (y : Answer) → resumed_key t e y ≡ resumed_key (untaken t) e y
same_resumed_key t e y = ap (if_receives (attach_in e)) (same_taken_key t e y)

pub same_held_key : (t : List Entry) (e : Event) (y : Answer) → held_key t e y ≡ held_key (untaken t) e y
same_held_key t e y = ap (if_sends (attach_in e)) (same_taken_key t e y)

same_map : (t : List Entry) (c own : ℕ) (a : AnAttach) → found_journal t ≡ found_journal (untaken t) → map_told t c a (Attach own) ≡ map_told (untaken t) c a (Attach own)
same_map t c own a journal = λ j. map_for (journal j).book (Some a) (same_asked_key t c a j)

-- a whole delivery

same_consumer : (t : List Entry) (l : Option Link) → consumer_of t l ≡ consumer_of (untaken t) l
same_consumer t None = refl
same_consumer t (Some l) = λ j. option_and_then (λ n. same_numbered t n j) (same_choice t l.address j)

pub same_consumer_at : (t : List Entry) (c own handle : ℕ) → consumer_of t (link t c own handle) ≡ consumer_of (untaken t) (link (untaken t) c own handle)
same_consumer_at t c own handle = same_consumer t (link t c own handle) ∙ ap (consumer_of (untaken t)) (same_link t c own handle)

pub same_claimed_id : (t : List Entry) (c own handle : ℕ) (q : Option ℕ) → claimed_id t c own handle q ≡ claimed_id (untaken t) c own handle q
same_claimed_id t c own handle None = refl
same_claimed_id t c own handle (Some id) = ap (λ v. if is_of_link handle v then Some id else None) (same_claims t c own id)

same_unbound : (t : List Entry) (c own handle : ℕ) → unbound t c own handle ≡ unbound (untaken t) c own handle
same_unbound t c own handle = λ j. count_below (2 ^ 32) (λ id. is_unbound_on handle (same_claims t c own id j))

same_let_go : (t : List Entry) (c own handle : ℕ) (x : Condition) → let_go t c own handle x ≡ let_go (untaken t) c own handle x
same_let_go t c own handle x = ap (λ (l : Option Link). detach_item own handle (not (lasts_on l)) (Some x) ∷ []) (same_link t c own handle)

same_many : (t : List Entry) (c own handle : ℕ) (items : List Item) → unless_many t c own handle items ≡ unless_many (untaken t) c own handle items
same_many t c own handle items = λ j. if nat_lt 1024 (same_unbound t c own handle j) then same_let_go t c own handle ResourceLimitExceeded j else items

same_ignored_put : (t : List Entry) (c own handle : ℕ) (q : Option ℕ) → ignored_put t c own handle q ≡ ignored_put (untaken t) c own handle q
same_ignored_put t c own handle None = refl
same_ignored_put t c own handle (Some id) = same_many t c own handle []

same_goes_to_all : (t : List Entry) (l : Option Link) → goes_to_all t l ≡ goes_to_all (untaken t) l
same_goes_to_all t None = refl
same_goes_to_all t (Some l) = ap is_multicast (same_distribution t l.address)

same_let_down_by : (t : List Entry) (c own handle : ℕ) (durable : Bool) (outcome : DeliveryState) (id : ℕ)
    → let_down_by t c own handle durable outcome id ≡ let_down_by (untaken t) c own handle durable outcome id
same_let_down_by t c own handle false outcome id = refl
same_let_down_by t c own handle true outcome id = same_many t c own handle (outcome_item own Receiver id false outcome ∷ [])

same_let_down : (t : List Entry) (c own handle : ℕ) (q : Option ℕ) → let_down t c own handle q ≡ let_down (untaken t) c own handle q
same_let_down t c own handle None = refl
same_let_down t c own handle (Some id) =
    let there = link (untaken t) c own handle in
    ap (λ (l : Option Link). let_down_by t c own handle (lasts_on l) (let_down_as (goes_to_all t l)) id) (same_link t c own handle)
    ∙ ap (λ (b : Bool). let_down_by t c own handle (lasts_on there) (let_down_as b) id) (same_goes_to_all t there)
    ∙ same_let_down_by t c own handle (lasts_on there) (let_down_as (goes_to_all (untaken t) there)) id

same_unbound_put : (t : List Entry) (c own handle : ℕ) (q : Option ℕ) (consumer : Option Attachment)
    → unbound_put t c own handle q consumer ≡ unbound_put (untaken t) c own handle q consumer
same_unbound_put t c own handle q None = same_let_down t c own handle q
same_unbound_put t c own handle q (Some x) = refl

same_consumer_for : (t : List Entry) (c own handle : ℕ) (d : Told) (row : Option RowNumber) → consumer_for t c own handle d row ≡ consumer_for (untaken t) c own handle d row
same_consumer_for t c own handle d row =
    λ j. if may_pass (lasts_on (same_link t c own handle j)) (same_claimed_id t c own handle d.id j) row then same_consumer_at t c own handle j else None

-- the row that a resumed one joins

same_row_claimed : (b : BookView) (t : List Entry) (c own : ℕ) (v : Option Claim) → row_claimed b t c own v ≡ row_claimed b (untaken t) c own v
same_row_claimed b t c own None = refl
same_row_claimed b t c own (Some v) = λ j. row_joined b (durable_key (same_link t c own v.handle j)) v.tag

pub same_row_under : (b : BookView) (t : List Entry) (c own id : ℕ) → row_under b t c own id ≡ row_under b (untaken t) c own id
same_row_under b t c own id = same_row_claimed b t c own (claims t c own id) ∙ ap (row_claimed b (untaken t) c own) (same_claims t c own id)

same_row_resumed : (b : BookView) (t : List Entry) (c own : ℕ) (q : Option ℕ) → row_resumed b t c own q ≡ row_resumed b (untaken t) c own q
same_row_resumed b t c own None = refl
same_row_resumed b t c own (Some id) = same_row_under b t c own id

same_join : (t : List Entry) (from : Attachment) (id : ℕ) (r : Row) → join_from t from id r ≡ join_from (untaken t) from id r
same_join t from id r = λ j. joining (holding.Resumed (origin_of from id)) r.number (joined_to (same_called t (name.Row r.number) j) r.outcome)

same_joined_on : (t : List Entry) (c own handle id : ℕ) (r : Row) (l : Option Link) → joined_on t c own handle id r l ≡ joined_on (untaken t) c own handle id r l
same_joined_on t c own handle id r None = refl
same_joined_on t c own handle id r (Some l) = λ j. Some (same_join t (from_link c own handle l) id r j)

same_joined_if : (t : List Entry) (c own handle id : ℕ) (v : Option Row) (l : Option Link) → joined_if t c own handle id v l ≡ joined_if (untaken t) c own handle id v l
same_joined_if t c own handle id None l = refl
same_joined_if t c own handle id (Some r) l = same_joined_on t c own handle id r l

same_resumed_bound : (b : BookView) (t : List Entry) (c own handle : ℕ) (q : Option ℕ) (l : Option Link) → resumed_bound b t c own handle q l ≡ resumed_bound b (untaken t) c own handle q l
same_resumed_bound b t c own handle None l = refl
same_resumed_bound b t c own handle (Some id) l =
    (λ j. joined_if t c own handle id (same_row_under b t c own id j) l) ∙ same_joined_if t c own handle id (row_under b (untaken t) c own id) l

same_resumed_put : (b : BookView) (t : List Entry) (c own handle : ℕ) (q : Option ℕ) → resumed_put b t c own handle q ≡ resumed_put b (untaken t) c own handle q
same_resumed_put b t c own handle q = λ j. unless_joined (same_row_resumed b t c own q j) (same_ignored_put t c own handle q j)

same_whole_put : (b : BookView) (t : List Entry) (c own handle : ℕ) (d : Told) (row : Option RowNumber) → whole_put b t c own handle d row ≡ whole_put b (untaken t) c own handle d row
same_whole_put b t c own handle d row =
    λ j. if d.resume then (same_resumed_put b t c own handle (claimed_id t c own handle d.id) ∙ ap (resumed_put b (untaken t) c own handle) (same_claimed_id t c own handle d.id)) j
    else (same_unbound_put t c own handle (claimed_id t c own handle d.id) (consumer_for t c own handle d row)
    ∙ (λ i. unbound_put (untaken t) c own handle (same_claimed_id t c own handle d.id i) (same_consumer_for t c own handle d row i))) j

same_part_put : (b : BookView) (t : List Entry) (c own handle : ℕ) (row : Option RowNumber) (q : Option Part) → part_put b t c own handle row q ≡ part_put b (untaken t) c own handle row q
same_part_put b t c own handle row (Some (part.Whole d payload)) = same_whole_put b t c own handle d row
same_part_put b t c own handle row (Some part.TooLarge) = same_let_go t c own handle MessageSizeExceeded
same_part_put b t c own handle row _ = refl

pub same_lasts : (t : List Entry) (at : Attachment) → lasts t at ≡ lasts (untaken t) at
same_lasts t at = ap (λ (l : Option Link). is_some (durable_key l)) (same_link t at.conn.0 at.channel at.handle)

same_binding : (t : List Entry) (origin : Option Origin) (row : Option RowNumber) (format : ℕ) (payload : List ℕ) (at : Attachment)
    → binding_to t origin row format payload at ≡ binding_to (untaken t) origin row format payload at
same_binding t origin row format payload at =
    λ j. record { consumer = at; row = row; lasting = same_lasts t at j; format = format; payload = payload; kind = kind.Message origin }

same_binding_for : (t : List Entry) (from : Attachment) (origin : Option Origin) (row : Option RowNumber) (format : ℕ) (payload : List ℕ)
    → binding_for t from origin row format payload ≡ binding_for (untaken t) from origin row format payload
same_binding_for t from origin row format payload =
    λ j. option_map (λ at. same_binding t origin row format payload at j) (same_consumer_at t from.conn.0 from.channel from.handle j)

same_fresh : (t : List Entry) (c own handle : ℕ) (d : Told) (row : Option RowNumber) (payload : List ℕ) (l : Option Link)
    → fresh_bound t c own handle d row payload l ≡ fresh_bound (untaken t) c own handle d row payload l
same_fresh t c own handle d row payload None = refl
same_fresh t c own handle d row payload (Some l) =
    λ j. if may_pass (lasts_on (same_link t c own handle j)) (same_claimed_id t c own handle d.id j) row
    then (same_binding_for t from (option_map (origin_of from) (claimed_id t c own handle d.id)) row (unwrap_or d.format 0) payload
    ∙ ap (λ (q : Option ℕ). binding_for (untaken t) from (option_map (origin_of from) q) row (unwrap_or d.format 0) payload) (same_claimed_id t c own handle d.id)) j
    else None
  where
    from : Attachment
    from = from_link c own handle l

same_whole_bound : (b : BookView) (t : List Entry) (c own handle : ℕ) (d : Told) (row : Option RowNumber) (payload : List ℕ)
    → whole_bound b t c own handle d row payload ≡ whole_bound b (untaken t) c own handle d row payload
same_whole_bound b t c own handle d row payload =
    λ j. if d.resume then (same_resumed_bound b t c own handle (claimed_id t c own handle d.id) (link t c own handle)
    ∙ (λ i. resumed_bound b (untaken t) c own handle (same_claimed_id t c own handle d.id i) (same_link t c own handle i))) j
    else (same_fresh t c own handle d row payload (link t c own handle)
    ∙ ap (fresh_bound (untaken t) c own handle d row payload) (same_link t c own handle)) j

same_part_bound : (b : BookView) (t : List Entry) (c own handle : ℕ) (row : Option RowNumber) (q : Option Part) → part_bound b t c own handle row q ≡ part_bound b (untaken t) c own handle row q
same_part_bound b t c own handle row (Some (part.Whole d payload)) = same_whole_bound b t c own handle d row payload
same_part_bound b t c own handle row (Some part.TooLarge) = refl
same_part_bound b t c own handle row _ = refl

-- the book by which a transfer is answered
same_book : (t : List Entry) → book_in t ≡ book_in (untaken t)
same_book t = ap (λ j. j.book) (same_journaled t)

-- a disposition

same_open : (t : List Entry) (c own id : ℕ) (n : Option ℕ) → names_open t c own id n ≡ names_open (untaken t) c own id n
same_open t c own id None = refl
same_open t c own id (Some n) = ap (is_open_as c own id) (same_delivery t n)

same_open_id : (t : List Entry) (c own id : ℕ) → is_open_id t c own id ≡ is_open_id (untaken t) c own id
same_open_id t c own id = same_open t c own id (named t c own id) ∙ ap (names_open (untaken t) c own id) (same_named t c own id)

-- an item's row

same_links : (t u : List Entry) (c : ℕ) (i : Item) (a : Answer) → found_journal t ≡ found_journal (untaken t) → row_found t ≡ row_found (untaken t) → links_put t u c i a ≡ links_put (untaken t) (untaken u) c i a
same_links t u c (item.Frame sasl channel body payload) a journal rows = by_perf body a
  where
    by_attach : (x : AnAttach) (a : Answer)
        → links_put t u c (item.Frame sasl channel (perf.Attach x) payload) a ≡ links_put (untaken t) (untaken u) c (item.Frame sasl channel (perf.Attach x) payload) a
    by_attach x (Attach own) =
        (λ j. taken u c own (same_map t c own x journal j) x) ∙ same_taken u c own (map_told (untaken t) c x (Attach own)) x
    by_attach x (Refuse own handle e) = ap (λ (n : ℕ). each_to c (refused n own handle e x)) (same_largest u c)
    by_attach x _ = refl

    by_transfer : (x : ATransfer) (a : Answer)
        → links_put t u c (item.Frame sasl channel (perf.Transfer x) payload) a ≡ links_put (untaken t) (untaken u) c (item.Frame sasl channel (perf.Transfer x) payload) a
    by_transfer x (Taken own handle) =
        (λ j. each_to c (part_put (same_book t j) u c own handle (rows j) (part_of (item.Frame sasl channel (perf.Transfer x) payload) (λ p. same_link_place t c own p j))))
        ∙ ap (each_to c) (same_part_put (book_in (untaken t)) u c own handle (row_found (untaken t)) (part_of (item.Frame sasl channel (perf.Transfer x) payload) (link_place (untaken t) c own)))
    by_transfer x _ = refl

    by_disposition : (x : ADisposition) (a : Answer)
        → links_put t u c (item.Frame sasl channel (perf.Disposition x) payload) a ≡ links_put (untaken t) (untaken u) c (item.Frame sasl channel (perf.Disposition x) payload) a
    by_disposition x (Settle own) =
        λ j. each_to c (settled_answers own (terminal x.state) (filter (λ id. same_open_id t c own id j) (ids_between x.first (last_of x))))
    by_disposition x _ = refl

    by_perf : (body : Perf) (a : Answer)
        → links_put t u c (item.Frame sasl channel body payload) a ≡ links_put (untaken t) (untaken u) c (item.Frame sasl channel body payload) a
    by_perf (perf.Attach x) a = by_attach x a
    by_perf (perf.Transfer x) a = by_transfer x a
    by_perf (perf.Disposition x) a = by_disposition x a
    by_perf _ a = refl
same_links t u c _ a journal rows = refl

pub same_put : (id : List ℕ) (t u : List Entry) (c : ℕ) (p : Conn) (i : Item) (a : Answer) → found_journal t ≡ found_journal (untaken t) → row_found t ≡ row_found (untaken t)
    → item_put id t u c p i a ≡ item_put id (untaken t) (untaken u) c p i a
same_put id t u c p i a journal rows =
    ap (λ (ps : List Put). each_to c (said id p a) ++ ps)
    (same_links t (puts c (said id p a) u) c i a journal rows ∙ ap (λ (v : List Entry). links_put (untaken t) v c i a) (untaken_goes (each_to c (said id p a)) u))

-- the message that it binds

pub same_bound_for : (t u : List Entry) (c : ℕ) (i : Item) (a : Answer) → row_found t ≡ row_found (untaken t) → bound_for t u c i a ≡ bound_for (untaken t) (untaken u) c i a
same_bound_for t u c i (Taken own handle) rows =
    (λ j. part_bound (same_book t j) u c own handle (rows j) (part_of i (λ p. same_link_place t c own p j)))
    ∙ same_part_bound (book_in (untaken t)) u c own handle (row_found (untaken t)) (part_of i (link_place (untaken t) c own))
same_bound_for t u c i _ rows = refl

-- copies

untaken_copied_to : (format : ℕ) (payload : List ℕ) (ats : List Attachment) (u : List Entry) → untaken (copied_to format payload ats u) ≡ copied_to format payload ats (untaken u)
untaken_copied_to format payload [] u = refl
untaken_copied_to format payload (at ∷ ats) u =
    untaken_copied_to format payload ats (Bound (copy_to u format payload at) ∷ u)
    ∙ ap (λ (b : Binding). copied_to format payload ats (Bound b ∷ untaken u)) (same_binding u None None format payload at)

same_fresh_copied : (t : List Entry) (c own handle format : ℕ) (payload : List ℕ) (q : Option ℕ) (u : List Entry)
    → untaken (fresh_copied t c own handle format payload q u) ≡ fresh_copied (untaken t) c own handle format payload q (untaken u)
same_fresh_copied t c own handle format payload None u =
    untaken_copied_to format payload (copies_for t (link t c own handle)) u
    ∙ ap (λ (ats : List Attachment). copied_to format payload ats (untaken u))
    ((λ j. copies_for t (same_link t c own handle j)) ∙ same_copies t (link (untaken t) c own handle))
same_fresh_copied t c own handle format payload (Some id) u = refl

same_whole_copied : (t : List Entry) (c own handle : ℕ) (d : Told) (payload : List ℕ) (u : List Entry)
    → untaken (whole_copied t c own handle d payload u) ≡ whole_copied (untaken t) c own handle d payload (untaken u)
same_whole_copied t c own handle d payload u = by d.resume
  where
    by : (b : Bool)
        → untaken (if b then u else fresh_copied t c own handle (unwrap_or d.format 0) payload (claimed_id t c own handle d.id) u)
        ≡ (if b then untaken u else fresh_copied (untaken t) c own handle (unwrap_or d.format 0) payload (claimed_id (untaken t) c own handle d.id) (untaken u))
    by true = refl
    by false =
        same_fresh_copied t c own handle (unwrap_or d.format 0) payload (claimed_id t c own handle d.id) u
        ∙ ap (λ (q : Option ℕ). fresh_copied (untaken t) c own handle (unwrap_or d.format 0) payload q (untaken u)) (same_claimed_id t c own handle d.id)

same_part_copied : (t : List Entry) (c own handle : ℕ) (q : Option Part) (u : List Entry)
    → untaken (part_copied t c own handle q u) ≡ part_copied (untaken t) c own handle q (untaken u)
same_part_copied t c own handle (Some (part.Whole d payload)) u = same_whole_copied t c own handle d payload u
same_part_copied t c own handle _ u = refl

pub same_copied_for : (t after : List Entry) (c : ℕ) (i : Item) (a : Answer) (u : List Entry)
    → untaken (copied_for t after c i a u) ≡ copied_for (untaken t) (untaken after) c i a (untaken u)
same_copied_for t after c i (Taken own handle) u =
    same_part_copied after c own handle (part_of i (link_place t c own)) u
    ∙ (λ j. part_copied (untaken after) c own handle (part_of i (λ p. same_link_place t c own p j)) (untaken u))
same_copied_for t after c i _ u = refl
