-- What takes don't change: a trace without its takes agrees on links and on peers.
use Rattle.std.proofs.Common.{◌≡◌, ◌∙◌, ap, refl, ℕ, ◌+◌, List, [], ◌∷◌, ◌==◌}
use Rattle.std.specs.Prelude.{Option, Some, None, is_some, option_map, unwrap_or, if◌then◌else◌}
use Rattle.amqp_model.specs.declared.perf.Attach.{Attach as AnAttach}
use Rattle.book_model.specs.declared.terminus.LinkKey.{LinkKey}
use Rattle.router_trace.specs.declared.handle.Asked.{Asked}
use Rattle.router_trace.specs.declared.handle.Attachment.{Attachment}
use Rattle.router_trace.specs.Trace.{Entry, Did, Out, Took, Bound, Booked, Routed, Began}
use Rattle.router_trace.specs.Links.{Link, durable_key, is_durable_at, holds_durable, asked, asked_at, is_lost, answers_by, answered_handle, their_handle_at, their_handle_after, their_handle, is_taken, attachments, key_of, key_at, link_at, link_after, link, has_number, if_attached, same_key, newest_by, last_of_key, holder, link_place_by, link_place, handle_max_at, told_handle_max, most_after, most_at, highest_handle, is_free_handle, first_free_below, free_handle}
use Rattle.router_trace.specs.Peers.{user_at, user, container_at, Container, container, largest_frame}
use Rattle.router_trace.specs.Sessions.{unless_close}
use Rattle.state_messages.specs.Asking.{is_consumer, if_consumer, consumer_with}
use Rattle.theorems.specs.Takes.{untaken}
use Rattle.theorems.proofs.Untaken.{same_awaited, same_theirs}

-- what is known of peers

same_user : (t : List Entry) (c : ℕ) → user t c ≡ user (untaken t) c
same_user [] c = refl
same_user (Did s ∷ t) c = ap (user_at s.event c) (same_user t c)
same_user (Out d i ∷ t) c = ap (λ (v : Option (List ℕ)). if d == c then unless_close i v else v) (same_user t c)
same_user (Took d n ∷ t) c = same_user t c
same_user (Bound b ∷ t) c = same_user t c
same_user (Booked acts full ∷ t) c = same_user t c
same_user (Routed passage ∷ t) c = same_user t c
same_user (Began g ∷ t) c = refl

same_container : (t : List Entry) (c : ℕ) → container t c ≡ container (untaken t) c
same_container [] c = refl
same_container (Did s ∷ t) c = ap (container_at s.event c) (same_container t c)
same_container (Out d i ∷ t) c = ap (λ (v : Option Container). if d == c then unless_close i v else v) (same_container t c)
same_container (Took d n ∷ t) c = same_container t c
same_container (Bound b ∷ t) c = same_container t c
same_container (Booked acts full ∷ t) c = same_container t c
same_container (Routed passage ∷ t) c = same_container t c
same_container (Began g ∷ t) c = refl

pub same_largest : (t : List Entry) (c : ℕ) → largest_frame t c ≡ largest_frame (untaken t) c
same_largest t c = ap (λ (v : Option Container). unwrap_or (option_map (λ told. told.largest) v) 4294967295) (same_container t c)

pub same_key_at : (t : List Entry) (c : ℕ) (a : AnAttach) → key_at t c a ≡ key_at (untaken t) c a
same_key_at t c a = λ j. key_of (same_user t c j) (same_container t c j) a

-- handles

same_asked : (t : List Entry) (c : ℕ) → asked t c ≡ asked (untaken t) c
same_asked [] c = refl
same_asked (Did s ∷ t) c = ap (asked_at s.event c) (same_asked t c)
same_asked (Out d i ∷ t) c = ap (λ (v : Option Asked). if d == c then unless_close i v else v) (same_asked t c)
same_asked (Took d n ∷ t) c = same_asked t c
same_asked (Bound b ∷ t) c = same_asked t c
same_asked (Booked acts full ∷ t) c = same_asked t c
same_asked (Routed passage ∷ t) c = same_asked t c
same_asked (Began g ∷ t) c = refl

same_answers : (t : List Entry) (c o h : ℕ) → answered_handle t c o h ≡ answered_handle (untaken t) c o h
same_answers [] c o h = refl
same_answers (Did s ∷ t) c o h = ap (λ (v : Option ℕ). if is_lost s.event c then None else v) (same_answers t c o h)
same_answers (Out d i ∷ t) c o h = λ j. if d == c then answers_by i o h (same_asked t c j) (same_answers t c o h j) else same_answers t c o h j
same_answers (Took d n ∷ t) c o h = same_answers t c o h
same_answers (Bound b ∷ t) c o h = same_answers t c o h
same_answers (Booked acts full ∷ t) c o h = same_answers t c o h
same_answers (Routed passage ∷ t) c o h = same_answers t c o h
same_answers (Began g ∷ t) c o h = refl

pub same_handle : (t : List Entry) (c o p : ℕ) → their_handle t c o p ≡ their_handle (untaken t) c o p
same_handle [] c o p = refl
same_handle (Did s ∷ t) c o p = λ j. their_handle_at s.event c o p (λ q. same_theirs t c q j) (same_handle t c o p j)
same_handle (Out d i ∷ t) c o p =
    λ j. if d == c then their_handle_after i o p (λ h. same_answers t c o h j) (same_asked t c j) (same_handle t c o p j) else same_handle t c o p j
same_handle (Took d n ∷ t) c o p = same_handle t c o p
same_handle (Bound b ∷ t) c o p = same_handle t c o p
same_handle (Booked acts full ∷ t) c o p = same_handle t c o p
same_handle (Routed passage ∷ t) c o p = same_handle t c o p
same_handle (Began g ∷ t) c o p = refl

same_told : (t : List Entry) (c : ℕ) → told_handle_max t c ≡ told_handle_max (untaken t) c
same_told [] c = refl
same_told (Did s ∷ t) c = ap (handle_max_at s.event c) (same_told t c)
same_told (Out d i ∷ t) c = ap (λ (v : Option ℕ). if d == c then unless_close i v else v) (same_told t c)
same_told (Took d n ∷ t) c = same_told t c
same_told (Bound b ∷ t) c = same_told t c
same_told (Booked acts full ∷ t) c = same_told t c
same_told (Routed passage ∷ t) c = same_told t c
same_told (Began g ∷ t) c = refl

same_highest : (t : List Entry) (c o : ℕ) → highest_handle t c o ≡ highest_handle (untaken t) c o
same_highest [] c o = refl
same_highest (Did s ∷ t) c o = λ j. most_at s.event c o (λ p. same_theirs t c p j) (same_awaited t c o j) (same_highest t c o j)
same_highest (Out d i ∷ t) c o = λ j. if d == c then most_after i o (same_told t c j) (same_highest t c o j) else same_highest t c o j
same_highest (Took d n ∷ t) c o = same_highest t c o
same_highest (Bound b ∷ t) c o = same_highest t c o
same_highest (Booked acts full ∷ t) c o = same_highest t c o
same_highest (Routed passage ∷ t) c o = same_highest t c o
same_highest (Began g ∷ t) c o = refl

pub same_free_handle : (t : List Entry) (c o : ℕ) → free_handle t c o ≡ free_handle (untaken t) c o
unfolding free_handle
same_free_handle t c o = λ j. first_free_below 64 (is_free_handle (unwrap_or (same_highest t c o j) 63) (λ h. same_answers t c o h j)) 0

-- links

pub same_attachments : (t : List Entry) → attachments t ≡ attachments (untaken t)
same_attachments [] = refl
same_attachments (Did s ∷ t) = same_attachments t
same_attachments (Out d i ∷ t) = ap (λ (n : ℕ). if is_taken i then n + 1 else n) (same_attachments t)
same_attachments (Took d n ∷ t) = same_attachments t
same_attachments (Bound b ∷ t) = same_attachments t
same_attachments (Booked acts full ∷ t) = same_attachments t
same_attachments (Routed passage ∷ t) = same_attachments t
same_attachments (Began g ∷ t) = refl

pub same_link : (t : List Entry) (c o h : ℕ) → link t c o h ≡ link (untaken t) c o h
same_link [] c o h = refl
same_link (Did s ∷ t) c o h = λ j. link_at s.event c o h (λ q. same_theirs t c q j) (λ p. same_handle t c o p j) (same_link t c o h j)
same_link (Out d i ∷ t) c o h =
    λ j. if d == c then link_after i o h (same_attachments t j + 1) (λ a. same_key_at t c a j) (same_asked t c j) (same_link t c o h j) else same_link t c o h j
same_link (Took d n ∷ t) c o h = same_link t c o h
same_link (Bound b ∷ t) c o h = same_link t c o h
same_link (Booked acts full ∷ t) c o h = same_link t c o h
same_link (Routed passage ∷ t) c o h = same_link t c o h
same_link (Began g ∷ t) c o h = refl

pub same_link_place : (t : List Entry) (c o p : ℕ) → link_place t c o p ≡ link_place (untaken t) c o p
same_link_place t c o p = λ j. link_place_by (same_handle t c o p j) (λ h. same_link t c o h j)

-- the last attachment with a key, and the link that has the key

same_last : (k : LinkKey) (t : List Entry) → last_of_key t k ≡ last_of_key (untaken t) k
same_last k [] = refl
same_last k (Did s ∷ t) = same_last k t
same_last k (Out d i ∷ t) = λ j. newest_by i d (same_attachments t j + 1) (λ a. same_key (same_key_at t d a j) k) (same_last k t j)
same_last k (Took d n ∷ t) = same_last k t
same_last k (Bound x ∷ t) = same_last k t
same_last k (Booked acts full ∷ t) = same_last k t
same_last k (Routed passage ∷ t) = same_last k t
same_last k (Began g ∷ t) = refl

pub same_attached : (t : List Entry) (v : Option Attachment) → if_attached t v ≡ if_attached (untaken t) v
same_attached t None = refl
same_attached t (Some a) = λ j. if has_number a.number (same_link t a.conn.0 a.channel a.handle j) then Some a else None

pub same_held : (t : List Entry) (k : LinkKey) → holder t k ≡ holder (untaken t) k
same_held t k = same_attached t (last_of_key t k) ∙ ap (if_attached (untaken t)) (same_last k t)

pub same_holder : (t : List Entry) (c : ℕ) (a : AnAttach) → holder t (key_at t c a) ≡ holder (untaken t) (key_at (untaken t) c a)
same_holder t c a = same_held t (key_at t c a) ∙ ap (holder (untaken t)) (same_key_at t c a)

-- the consumer that has a key

same_if_consumer : (t : List Entry) (v : Option Attachment) → if_consumer t v ≡ if_consumer (untaken t) v
same_if_consumer t None = refl
same_if_consumer t (Some a) = λ j. if is_consumer (same_link t a.conn.0 a.channel a.handle j) then Some a else None

pub same_consumer_with : (t : List Entry) (k : LinkKey) → consumer_with t k ≡ consumer_with (untaken t) k
same_consumer_with t k = same_if_consumer t (holder t k) ∙ ap (if_consumer (untaken t)) (same_held t k)

-- durable links
same_durable_at : (t : List Entry) (x : Option Attachment) → is_durable_at t x ≡ is_durable_at (untaken t) x
same_durable_at t None = refl
same_durable_at t (Some a) = ap (λ (l : Option Link). is_some (durable_key l)) (same_link t a.conn.0 a.channel a.handle)

pub same_holds_durable : (t : List Entry) (c : ℕ) (a : AnAttach) → holds_durable t (key_at t c a) ≡ holds_durable (untaken t) (key_at (untaken t) c a)
same_holds_durable t c a = ap (is_durable_at t) (same_holder t c a) ∙ same_durable_at t (holder (untaken t) (key_at (untaken t) c a))
