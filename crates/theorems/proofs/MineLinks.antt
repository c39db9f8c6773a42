-- The part of a trace that is about one connection agrees with the whole trace on its handles.
use Rattle.std.proofs.Common.{◌≡◌, ◌∙◌, ap, refl, ℕ, Bool, false, List, [], ◌∷◌}
use Rattle.std.specs.Prelude.{◌==◌, Option, None, is_some, if◌then◌else◌, unwrap_or}
use Rattle.amqp_session.specs.declared.states.BeginState.{BeginState}
use Rattle.router_trace.specs.declared.channel.PeerChannel.{PeerChannel}
use Rattle.router_trace.specs.declared.handle.Asked.{Asked}
use Rattle.router_trace.specs.declared.handle.PeerHandle.{PeerHandle}
use Rattle.router_trace.specs.declared.event.Event.{Event}
use Rattle.router_trace.specs.declared.event.Event.TheVariants as event
use Rattle.router_trace.specs.Routed.{passed_to}
use Rattle.router_trace.specs.Trace.{Entry, Did, Out, Took, Bound, Booked, Routed, Began}
use Rattle.router_trace.specs.Links.{asked, asked_at, is_lost, answers_by, answered_handle, their_handle_at, their_handle_after, their_handle, link_place_by, handle_max_at, told_handle_max, most_after, most_at, highest_handle, is_free_handle, first_free_below, free_handle}
use Rattle.router_trace.specs.Claims.{claims}
use Rattle.router_trace.specs.Sessions.{unless_close, awaited, theirs, place}
use Rattle.reply_rows.specs.Rows.{Finds}
use Rattle.reply_rows.specs.Finding.{finds, free_for}
use Rattle.theorems.specs.Alone.{is_about, own_part}
use Rattle.state_connections.proofs.Lists.{by_test}
use Rattle.router_core.proofs.Attachless.{Unlinked}
use Rattle.theorems.proofs.Mine.{own_awaited, own_theirs, own_place, own_free}

-- events about others change nothing

else_asked : (e : Event) (c : ℕ) (v : Option Asked) → is_about c e ≡ false → asked_at e c v ≡ v
else_asked (event.Item d i) c v h = rw h refl
else_asked (event.Down d) c v h = rw h refl
else_asked (event.Up d p) c v h = refl
else_asked (event.Tick ms) c v h = refl
else_asked event.Start c v h = refl

else_lost : (e : Event) (c : ℕ) → is_about c e ≡ false → is_lost e c ≡ false
else_lost (event.Down d) c h = h
else_lost (event.Item d i) c h = refl
else_lost (event.Up d p) c h = refl
else_lost (event.Tick ms) c h = refl
else_lost event.Start c h = refl

else_handle : (e : Event) (c o p : ℕ) (known : ℕ → Option PeerChannel) (v : Option PeerHandle) → is_about c e ≡ false → their_handle_at e c o p known v ≡ v
else_handle (event.Item d i) c o p known v h = rw h refl
else_handle (event.Down d) c o p known v h = rw h refl
else_handle (event.Up d q) c o p known v h = refl
else_handle (event.Tick ms) c o p known v h = refl
else_handle event.Start c o p known v h = refl

else_most : (e : Event) (c o : ℕ) (known : ℕ → Option PeerChannel) (asked : Option BeginState) (v : Option ℕ) → is_about c e ≡ false
    → most_at e c o known asked v ≡ v
else_most (event.Item d i) c o known asked v h = rw h refl
else_most (event.Down d) c o known asked v h = rw h refl
else_most (event.Up d p) c o known asked v h = refl
else_most (event.Tick ms) c o known asked v h = refl
else_most event.Start c o known asked v h = refl

else_told : (e : Event) (c : ℕ) (v : Option ℕ) → is_about c e ≡ false → handle_max_at e c v ≡ v
else_told (event.Item d i) c v h = rw h refl
else_told (event.Down d) c v h = rw h refl
else_told (event.Up d p) c v h = refl
else_told (event.Tick ms) c v h = refl
else_told event.Start c v h = refl

-- the views of a connection

abbrev unless_lost : Bool → Option ℕ → Option ℕ
unless_lost lost v = if lost then None else v

own_asked : (t : List Entry) (c : ℕ) → asked t c ≡ asked (own_part c t) c
own_asked [] c = refl
own_asked (Did s ∷ t) c =
    by_test (is_about c s.event) (λ e. rw e (ap (asked_at s.event c) (own_asked t c))) (λ e. rw e (else_asked s.event c (asked t c) e ∙ own_asked t c))
own_asked (Out d i ∷ t) c = by_test (d == c) (λ e. rw e (rw e (ap (unless_close i) (own_asked t c)))) (λ e. rw e (own_asked t c))
own_asked (Took d n ∷ t) c = own_asked t c
own_asked (Bound b ∷ t) c = own_asked t c
own_asked (Booked acts full ∷ t) c = own_asked t c
own_asked (Routed passage ∷ t) c = by_test (is_some (passed_to passage c)) (λ e. rw e (own_asked t c)) (λ e. rw e (own_asked t c))
own_asked (Began g ∷ t) c = refl

own_answers : (t : List Entry) (c o h : ℕ) → answered_handle t c o h ≡ answered_handle (own_part c t) c o h
own_answers [] c o h = refl
own_answers (Did s ∷ t) c o h =
    by_test (is_about c s.event) (λ e. rw e (ap (unless_lost (is_lost s.event c)) (own_answers t c o h)))
    (λ e. rw e (ap (λ (b : Bool). unless_lost b (answered_handle t c o h)) (else_lost s.event c e) ∙ own_answers t c o h))
own_answers (Out d i ∷ t) c o h =
    by_test (d == c) (λ e. rw e (rw e (λ j. answers_by i o h (own_asked t c j) (own_answers t c o h j)))) (λ e. rw e (own_answers t c o h))
own_answers (Took d n ∷ t) c o h = own_answers t c o h
own_answers (Bound b ∷ t) c o h = own_answers t c o h
own_answers (Booked acts full ∷ t) c o h = own_answers t c o h
own_answers (Routed passage ∷ t) c o h = by_test (is_some (passed_to passage c)) (λ e. rw e (own_answers t c o h)) (λ e. rw e (own_answers t c o h))
own_answers (Began g ∷ t) c o h = refl

own_handle : (t : List Entry) (c o p : ℕ) → their_handle t c o p ≡ their_handle (own_part c t) c o p
own_handle [] c o p = refl
own_handle (Did s ∷ t) c o p =
    by_test (is_about c s.event) (λ e. rw e (λ j. their_handle_at s.event c o p (λ q. own_theirs t c q j) (own_handle t c o p j)))
    (λ e. rw e (else_handle s.event c o p _ (their_handle t c o p) e ∙ own_handle t c o p))
own_handle (Out d i ∷ t) c o p =
    by_test (d == c)
    (λ e. rw e (rw e (λ j. their_handle_after i o p (λ h. own_answers t c o h j) (own_asked t c j) (own_handle t c o p j))))
    (λ e. rw e (own_handle t c o p))
own_handle (Took d n ∷ t) c o p = own_handle t c o p
own_handle (Bound b ∷ t) c o p = own_handle t c o p
own_handle (Booked acts full ∷ t) c o p = own_handle t c o p
own_handle (Routed passage ∷ t) c o p = by_test (is_some (passed_to passage c)) (λ e. rw e (own_handle t c o p)) (λ e. rw e (own_handle t c o p))
own_handle (Began g ∷ t) c o p = refl

own_told : (t : List Entry) (c : ℕ) → told_handle_max t c ≡ told_handle_max (own_part c t) c
own_told [] c = refl
own_told (Did s ∷ t) c =
    by_test (is_about c s.event) (λ e. rw e (ap (handle_max_at s.event c) (own_told t c))) (λ e. rw e (else_told s.event c (told_handle_max t c) e ∙ own_told t c))
own_told (Out d i ∷ t) c = by_test (d == c) (λ e. rw e (rw e (ap (unless_close i) (own_told t c)))) (λ e. rw e (own_told t c))
own_told (Took d n ∷ t) c = own_told t c
own_told (Bound b ∷ t) c = own_told t c
own_told (Booked acts full ∷ t) c = own_told t c
own_told (Routed passage ∷ t) c = by_test (is_some (passed_to passage c)) (λ e. rw e (own_told t c)) (λ e. rw e (own_told t c))
own_told (Began g ∷ t) c = refl

own_highest : (t : List Entry) (c o : ℕ) → highest_handle t c o ≡ highest_handle (own_part c t) c o
own_highest [] c o = refl
own_highest (Did s ∷ t) c o =
    by_test (is_about c s.event) (λ e. rw e (λ j. most_at s.event c o (λ p. own_theirs t c p j) (own_awaited t c o j) (own_highest t c o j)))
    (λ e. rw e (else_most s.event c o (theirs t c) (awaited t c o) (highest_handle t c o) e ∙ own_highest t c o))
own_highest (Out d i ∷ t) c o =
    by_test (d == c) (λ e. rw e (rw e (λ j. most_after i o (own_told t c j) (own_highest t c o j)))) (λ e. rw e (own_highest t c o))
own_highest (Took d n ∷ t) c o = own_highest t c o
own_highest (Bound b ∷ t) c o = own_highest t c o
own_highest (Booked acts full ∷ t) c o = own_highest t c o
own_highest (Routed passage ∷ t) c o = by_test (is_some (passed_to passage c)) (λ e. rw e (own_highest t c o)) (λ e. rw e (own_highest t c o))
own_highest (Began g ∷ t) c o = refl

own_free_handle : (t : List Entry) (c o : ℕ) → free_handle t c o ≡ free_handle (own_part c t) c o
unfolding free_handle
own_free_handle t c o = λ j. first_free_below 64 (is_free_handle (unwrap_or (own_highest t c o j) 63) (λ h. own_answers t c o h j)) 0

-- what an item finds on a connection without links
abbrev pub linkless : List Entry → ℕ → Finds
linkless t c = record {
  places = place t c;
  free_channel = free_for t c;
  awaits = λ own. is_some (awaited t c own);
  links = λ o p. link_place_by (their_handle t c o p) (λ h. None);
  free_handle = free_handle t c;
  claimed = λ o id. false;
}

-- the peer has no unsettled delivery there
abbrev pub Unclaimed : ℕ → List Entry → Type 0
Unclaimed c t = (o id : ℕ) → claims t c o id ≡ None

pub own_finds : (t : List Entry) (c : ℕ) → Unlinked c t → Unclaimed c t → finds t c ≡ linkless (own_part c t) c
own_finds t c none unclaimed = λ j. record {
  places = λ p. own_place t c p j;
  free_channel = own_free t c j;
  awaits = λ own. is_some (own_awaited t c own j);
  links = λ o p. link_place_by (own_handle t c o p j) (λ h. none o h j);
  free_handle = λ o. own_free_handle t c o j;
  claimed = λ o id. is_some (unclaimed o id j);
}
