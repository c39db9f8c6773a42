-- What takes don't change: a trace without its takes agrees on deliveries, and so on the sends and drains that are due.
use Rattle.std.proofs.Common.{◌≡◌, ◌∙◌, ap, refl, ℕ, ◌+◌, not, ◌&&◌, ◌||◌, List, [], ◌∷◌, ◌==◌}
use Rattle.std.specs.Prelude.{Bool, Option, Some, None, is_none, is_some, option_and_then, if◌then◌else◌}
use Rattle.router_trace.specs.declared.binding.Binding.{Binding}
use Rattle.router_trace.specs.declared.binding.DeliveryName.{DeliveryName}
use Rattle.router_trace.specs.declared.binding.Origin.{Origin}
use Rattle.router_trace.specs.declared.handle.Attachment.{Attachment}
use Rattle.router_trace.specs.Routed.{passed_to, if_passed}
use Rattle.router_trace.specs.Trace.{Entry, Did, Out, Took, Bound, Booked, Routed, Began}
use Rattle.router_trace.specs.Links.{is_lost, has_number, attachments, newest_by, numbered}
use Rattle.router_trace.specs.Deliveries.{Delivery, none_if_ended, ended_first, acts_found, channels_found, bindings, counters, holds_standing, origin_of, with_binding, name_of, name_in, same_name, number_named, delivery, called, unless_over, after_event, after_put, sending_by, sending, named_by, named, next_id_by, next_id, stands_on, rank_at, rank_in, rank_of, ranked, last_row, last_with}
use Rattle.router_trace.specs.DeliveryFrames.{next_frame, largest_out, rest_of, first_transfer, later_transfer}
use Rattle.router_trace.specs.Claims.{Claim, bind_claim, claim_at, claim_after, claims}
use Rattle.router_trace.specs.Numbers.{Placed, first_below, first_placed, first_ranked, no_rank}
use Rattle.router_trace.specs.Following.{is_still_attached, is_to_be_told, tell, tells_of, tells, goes_on_at, is_going, takes_more, is_going_on, is_busy, is_open, is_used, can_start, is_wide, is_there, can_go, place_to_go, send, send_of, sends_due, is_unsent_on, owes_one, place_drained, drain_on, drain_by, drains_due}
use Rattle.theorems.specs.Takes.{untaken}
use Rattle.theorems.proofs.Untaken.{same_theirs, same_session}
use Rattle.theorems.proofs.UntakenLinks.{same_largest, same_attachments, same_link, same_handle}

-- deliveries

pub same_bindings : (t : List Entry) → bindings t ≡ bindings (untaken t)
same_bindings [] = refl
same_bindings (Did s ∷ t) = same_bindings t
same_bindings (Out d i ∷ t) = same_bindings t
same_bindings (Took d n ∷ t) = same_bindings t
same_bindings (Bound b ∷ t) = ap (λ (n : ℕ). if is_none (holds_standing b.kind) then n + 1 else n) (same_bindings t)
same_bindings (Booked acts full ∷ t) = same_bindings t
same_bindings (Routed passage ∷ t) = same_bindings t
same_bindings (Began g ∷ t) = refl

pub same_counters : (t : List Entry) → counters t ≡ counters (untaken t)
same_counters [] = refl
same_counters (Did s ∷ t) = same_counters t
same_counters (Out d i ∷ t) = same_counters t
same_counters (Took d n ∷ t) = same_counters t
same_counters (Bound b ∷ t) = ap (λ (n : ℕ). if is_none b.row then n + 1 else n) (same_counters t)
same_counters (Booked acts full ∷ t) = same_counters t
same_counters (Routed passage ∷ t) = same_counters t
same_counters (Began g ∷ t) = refl

same_name_in : (t : List Entry) (b : Binding) → name_in t b ≡ name_in (untaken t) b
same_name_in t b = ap (λ (n : ℕ). name_of b.row (n + 1)) (same_counters t)

same_numbers : (t : List Entry) (name : DeliveryName) → number_named t name ≡ number_named (untaken t) name
same_numbers [] name = refl
same_numbers (Did s ∷ t) name = same_numbers t name
same_numbers (Out d i ∷ t) name = same_numbers t name
same_numbers (Took d n ∷ t) name = same_numbers t name
same_numbers (Bound b ∷ t) name = λ j. if is_none (holds_standing b.kind) && same_name (same_name_in t b j) name then Some (same_bindings t j + 1) else same_numbers t name j
same_numbers (Booked acts full ∷ t) name = same_numbers t name
same_numbers (Routed passage ∷ t) name = same_numbers t name
same_numbers (Began g ∷ t) name = refl

same_sending : (t : List Entry) (c o h : ℕ) → sending t c o h ≡ sending (untaken t) c o h
same_sending [] c o h = refl
same_sending (Did s ∷ t) c o h = ap (λ (v : Option ℕ). if is_lost s.event c then None else v) (same_sending t c o h)
same_sending (Out d i ∷ t) c o h = λ j. if d == c then sending_by (λ name. same_numbers t name j) i o h (same_sending t c o h j) else same_sending t c o h j
same_sending (Took d n ∷ t) c o h = same_sending t c o h
same_sending (Bound b ∷ t) c o h = same_sending t c o h
same_sending (Booked acts full ∷ t) c o h = same_sending t c o h
same_sending (Routed passage ∷ t) c o h = same_sending t c o h
same_sending (Began g ∷ t) c o h = refl

pub same_named : (t : List Entry) (c o id : ℕ) → named t c o id ≡ named (untaken t) c o id
same_named [] c o id = refl
same_named (Did s ∷ t) c o id = ap (λ (v : Option ℕ). if is_lost s.event c then None else v) (same_named t c o id)
same_named (Out d i ∷ t) c o id = λ j. if d == c then named_by (λ name. same_numbers t name j) i o id (same_named t c o id j) else same_named t c o id j
same_named (Took d n ∷ t) c o id = same_named t c o id
same_named (Bound b ∷ t) c o id = same_named t c o id
same_named (Booked acts full ∷ t) c o id = same_named t c o id
same_named (Routed passage ∷ t) c o id = same_named t c o id
same_named (Began g ∷ t) c o id = refl

same_next_id : (t : List Entry) (c o : ℕ) → next_id t c o ≡ next_id (untaken t) c o
same_next_id [] c o = refl
same_next_id (Did s ∷ t) c o = ap (λ (n : ℕ). if is_lost s.event c then 0 else n) (same_next_id t c o)
same_next_id (Out d i ∷ t) c o = ap (λ (n : ℕ). if d == c then next_id_by i o n else n) (same_next_id t c o)
same_next_id (Took d n ∷ t) c o = same_next_id t c o
same_next_id (Bound b ∷ t) c o = same_next_id t c o
same_next_id (Booked acts full ∷ t) c o = same_next_id t c o
same_next_id (Routed passage ∷ t) c o = ap (λ (n : ℕ). if_passed (λ i next. next_id_by i o next) (passed_to passage c) n) (same_next_id t c o)
same_next_id (Began g ∷ t) c o = refl

same_ended : (t : List Entry) → ended_first t ≡ ended_first (untaken t)
same_ended [] = refl
same_ended (Did s ∷ t) = refl
same_ended (Out d i ∷ t) = refl
same_ended (Took d n ∷ t) = same_ended t
same_ended (Bound b ∷ t) = refl
same_ended (Booked acts full ∷ t) = refl
same_ended (Routed passage ∷ t) = refl
same_ended (Began g ∷ t) = refl

same_acts_found : (t : List Entry) → acts_found t ≡ acts_found (untaken t)
same_acts_found [] = refl
same_acts_found (Did s ∷ t) = refl
same_acts_found (Out d i ∷ t) = refl
same_acts_found (Took d n ∷ t) = same_acts_found t
same_acts_found (Bound b ∷ t) = refl
same_acts_found (Booked acts full ∷ t) = refl
same_acts_found (Routed passage ∷ t) = refl
same_acts_found (Began g ∷ t) = refl

same_channels : (t : List Entry) (c p : ℕ) → channels_found t c p ≡ channels_found (untaken t) c p
same_channels t c p = λ j. none_if_ended (same_ended t j) c (same_theirs t c p j)

same_last_row : (t : List Entry) → last_row t ≡ last_row (untaken t)
same_last_row [] = refl
same_last_row (Did s ∷ t) = same_last_row t
same_last_row (Out d i ∷ t) = same_last_row t
same_last_row (Took d n ∷ t) = same_last_row t
same_last_row (Bound b ∷ t) = ap (last_with b) (same_last_row t)
same_last_row (Booked acts full ∷ t) = same_last_row t
same_last_row (Routed passage ∷ t) = same_last_row t
same_last_row (Began g ∷ t) = refl

same_rank_in : (t : List Entry) (b : Binding) → rank_in t b ≡ rank_in (untaken t) b
same_rank_in t b = λ j. rank_of (same_name_in t b j) (same_last_row t j)

pub same_delivery : (t : List Entry) (n : ℕ) → delivery t n ≡ delivery (untaken t) n
same_delivery [] n = refl
same_delivery (Did s ∷ t) n =
    λ j. option_and_then (λ d. unless_over (after_event s.event (λ c p. same_channels t c p j) (λ c o id. same_named t c o id j) (same_acts_found t j) n d)) (same_delivery t n j)
same_delivery (Out c i ∷ t) n = λ j. option_and_then (λ d. unless_over (after_put (λ name. same_numbers t name j) i c n (λ o h. same_sending t c o h j) d)) (same_delivery t n j)
same_delivery (Took c k ∷ t) n = same_delivery t n
same_delivery (Bound b ∷ t) n = λ j. with_binding (holds_standing b.kind) (same_name_in t b j) (same_rank_in t b j) b (same_bindings t j + 1 == n) (same_delivery t n j)
same_delivery (Booked acts full ∷ t) n = same_delivery t n
same_delivery (Routed passage ∷ t) n = same_delivery t n
same_delivery (Began g ∷ t) n = refl

same_ranks : (t : List Entry) (n : ℕ) → rank_at t n ≡ rank_at (untaken t) n
same_ranks t n = ap ranked (same_delivery t n)

pub same_called : (t : List Entry) (name : DeliveryName) → called t name ≡ called (untaken t) name
same_called t name = λ j. option_and_then (λ n. same_delivery t n j) (same_numbers t name j)

pub same_claims : (t : List Entry) (c o id : ℕ) → claims t c o id ≡ claims (untaken t) c o id
same_claims [] c o id = refl
same_claims (Did s ∷ t) c o id =
    λ j. claim_at s.event c o (λ p. same_theirs t c p j) (λ p. same_handle t c o p j) (λ h. same_link t c o h j) id (same_claims t c o id j)
same_claims (Out d i ∷ t) c o id = ap (λ (v : Option Claim). if d == c then claim_after i o id v else v) (same_claims t c o id)
same_claims (Took d n ∷ t) c o id = same_claims t c o id
same_claims (Bound b ∷ t) c o id = ap (bind_claim (origin_of b.kind) c o id) (same_claims t c o id)
same_claims (Booked acts full ∷ t) c o id = same_claims t c o id
same_claims (Routed passage ∷ t) c o id = same_claims t c o id
same_claims (Began g ∷ t) c o id = refl

pub same_numbered : (t : List Entry) (n : ℕ) → numbered t n ≡ numbered (untaken t) n
same_numbered [] n = refl
same_numbered (Did s ∷ t) n = same_numbered t n
same_numbered (Out d i ∷ t) n = λ j. newest_by i d (same_attachments t j + 1) (λ a. same_attachments t j + 1 == n) (same_numbered t n j)
same_numbered (Took d k ∷ t) n = same_numbered t n
same_numbered (Bound b ∷ t) n = same_numbered t n
same_numbered (Booked acts full ∷ t) n = same_numbered t n
same_numbered (Routed passage ∷ t) n = same_numbered t n
same_numbered (Began g ∷ t) n = refl

-- outcomes to producers

same_still : (t : List Entry) (origin : Option Origin) → is_still_attached t origin ≡ is_still_attached (untaken t) origin
same_still t None = refl
same_still t (Some p) = ap (has_number p.link.number) (same_link t p.link.conn.0 p.link.channel p.link.handle)

same_to_tell : (t : List Entry) (d : Option Delivery) → is_to_be_told t d ≡ is_to_be_told (untaken t) d
same_to_tell t None = refl
same_to_tell t (Some d) = ap (λ (b : Bool). is_some d.outcome && b) (same_still t d.origin)

same_tells_of : (t : List Entry) (n : Option ℕ) → tells_of t n ≡ tells_of (untaken t) n
same_tells_of t None = refl
same_tells_of t (Some n) = ap tell (same_delivery t n)

pub same_tells : (t : List Entry) → tells t ≡ tells (untaken t)
same_tells t =
    (λ j. tells_of t (first_ranked (λ n. same_ranks t n j) (same_bindings t j + 1) (λ n. passes n j)))
    ∙ same_tells_of t (first_ranked (rank_at (untaken t)) (bindings (untaken t) + 1) (λ n. is_to_be_told (untaken t) (delivery (untaken t) n)))
  where
    passes : (n : ℕ) → is_to_be_told t (delivery t n) ≡ is_to_be_told (untaken t) (delivery (untaken t) n)
    passes n = ap (is_to_be_told t) (same_delivery t n) ∙ same_to_tell t (delivery (untaken t) n)

-- sends

same_going : (t : List Entry) (n : ℕ) (d : Delivery) → is_going t n d ≡ is_going (untaken t) n d
same_going t n d =
    λ j. (is_some d.id && d.going_on)
    && goes_on_at (same_link t d.link.conn.0 d.link.channel d.link.handle j) d.link.number (same_sending t d.link.conn.0 d.link.channel d.link.handle j) n

same_going_on : (t : List Entry) (c o n : ℕ) (d : Option Delivery) → is_going_on t c o n d ≡ is_going_on (untaken t) c o n d
same_going_on t c o n None = refl
same_going_on t c o n (Some d) = ap (λ (b : Bool). stands_on d.link c o && b) (same_going t n d)

same_busy : (t : List Entry) (c o : ℕ) → is_busy t c o ≡ is_busy (untaken t) c o
same_busy t c o = λ j. is_some (first_below (same_bindings t j + 1) (λ n. goes n j))
  where
    goes : (n : ℕ) → is_going_on t c o n (delivery t n) ≡ is_going_on (untaken t) c o n (delivery (untaken t) n)
    goes n = ap (is_going_on t c o n) (same_delivery t n) ∙ same_going_on t c o n (delivery (untaken t) n)

same_used_at : (t : List Entry) (n : Option ℕ) → is_used t n ≡ is_used (untaken t) n
same_used_at t None = refl
same_used_at t (Some n) = ap is_open (same_delivery t n)

same_used : (t : List Entry) (c o : ℕ) → is_used t (named t c o (next_id t c o)) ≡ is_used (untaken t) (named (untaken t) c o (next_id (untaken t) c o))
same_used t c o =
    (λ j. is_used t (same_named t c o (same_next_id t c o j) j)) ∙ same_used_at t (named (untaken t) c o (next_id (untaken t) c o))

same_start : (t : List Entry) (d : Delivery) → can_start t d ≡ can_start (untaken t) d
same_start t d =
    λ j. (is_none d.id && d.going_on)
    && (takes_more (same_link t d.link.conn.0 d.link.channel d.link.handle j) d.link.number
    && (not (same_busy t d.link.conn.0 d.link.channel j) && not (same_used t d.link.conn.0 d.link.channel j)))

same_can_go : (t : List Entry) (n : ℕ) (d : Delivery) → can_go t n d ≡ can_go (untaken t) n d
same_can_go t n d =
    λ j. is_there (same_numbered t d.link.number j) d.link
    && (is_wide (same_session t d.link.conn.0 d.link.channel j) && (same_going t n d j || same_start t d j))

same_place_to_go : (t : List Entry) (n : ℕ) (d : Option Delivery) → place_to_go t n d ≡ place_to_go (untaken t) n d
same_place_to_go t n None = refl
same_place_to_go t n (Some d) = ap (λ (b : Bool). if b then Some d.link else None) (same_can_go t n d)

same_send : (t : List Entry) (d : Option Delivery) → send t d ≡ send (untaken t) d
same_send t None = refl
same_send t (Some d) =
    λ j. record {
      conn = d.link.conn.0;
      item = next_frame (largest_out (same_largest t d.link.conn.0 j)) d.link.channel
          (if is_none d.id then first_transfer d.link.handle (same_next_id t d.link.conn.0 d.link.channel j) d else later_transfer d.link.handle d) (rest_of d);
    } ∷ []

same_send_of : (t : List Entry) (p : Option Placed) → send_of t p ≡ send_of (untaken t) p
same_send_of t None = refl
same_send_of t (Some p) = ap (send t) (same_delivery t p.number) ∙ same_send t (delivery (untaken t) p.number)

pub same_sends : (t : List Entry) → sends_due t ≡ sends_due (untaken t)
same_sends t =
    (λ j. send_of t (first_placed (λ n. same_ranks t n j) (same_bindings t j + 1) (λ n. places n j)))
    ∙ same_send_of t (first_placed (rank_at (untaken t)) (bindings (untaken t) + 1) (λ n. place_to_go (untaken t) n (delivery (untaken t) n)))
  where
    places : (n : ℕ) → place_to_go t n (delivery t n) ≡ place_to_go (untaken t) n (delivery (untaken t) n)
    places n = ap (place_to_go t n) (same_delivery t n) ∙ same_place_to_go t n (delivery (untaken t) n)

-- answers to drains

same_place_drained : (t : List Entry) (n : ℕ) (a : Option Attachment) → place_drained t n a ≡ place_drained (untaken t) n a
same_place_drained t n None = refl
same_place_drained t n (Some a) =
    λ j. if owes_one (same_link t a.conn.0 a.channel a.handle j) n
    && is_none (first_below (same_bindings t j + 1) (λ k. is_unsent_on n (same_delivery t k j))) then Some a else None

same_drain_by : (t : List Entry) (p : Option Placed) → drain_by t p ≡ drain_by (untaken t) p
same_drain_by t None = refl
same_drain_by t (Some p) =
    λ j. drain_on p.place (same_session t p.place.conn.0 p.place.channel j) (same_link t p.place.conn.0 p.place.channel p.place.handle j)

pub same_drains : (t : List Entry) → drains_due t ≡ drains_due (untaken t)
same_drains t =
    (λ j. drain_by t (first_placed no_rank (same_attachments t j + 1) (λ n. places n j)))
    ∙ same_drain_by t (first_placed no_rank (attachments (untaken t) + 1) (λ n. place_drained (untaken t) n (numbered (untaken t) n)))
  where
    places : (n : ℕ) → place_drained t n (numbered t n) ≡ place_drained (untaken t) n (numbered (untaken t) n)
    places n = ap (place_drained t n) (same_numbered t n) ∙ same_place_drained t n (numbered (untaken t) n)
