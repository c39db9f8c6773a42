-- The part of a trace that is about one connection agrees with the whole trace on it.
use Rattle.std.proofs.Common.{◌≡◌, ◌∙◌, sym, ap, refl, true≢false, ℕ, true, false, List, [], ◌∷◌, ◌++◌}
use Rattle.std.specs.Prelude.{◌==◌, nat_lt, Option, Some, None, is_some, if◌then◌else◌, option_and_then, length}
use Rattle.std.specs.List.{find}
use Rattle.amqp_model.specs.declared.item.Item.{Item}
use Rattle.amqp_conn.specs.declared.conn.Conn.{Conn}
use Rattle.amqp_session.specs.declared.states.BeginState.{BeginState}
use Rattle.amqp_session.specs.Session.{Session}
use Rattle.router_trace.specs.declared.channel.PeerChannel.{PeerChannel}
use Rattle.router_trace.specs.declared.terms.Terms.{Terms}
use Rattle.router_trace.specs.declared.event.Event.{Event}
use Rattle.router_trace.specs.declared.event.Event.TheVariants as event
use Rattle.router_trace.specs.Trace.{Entry, Did, Out, Took, Bound, Booked, Routed, Began, Put, goes, ups}
use Rattle.router_trace.specs.Connection.{conn, fresh, standing, due, has, found, live_of}
use Rattle.router_trace.specs.Clocks.{moment, moment_at, terms, terms_at, written, written_at, channel_max_of}
use Rattle.router_trace.specs.Routed.{passed_to, if_passed}
use Rattle.router_trace.specs.Sessions.{unless_close, offered, offered_at, awaited, awaited_at, awaited_after, answered_channel, answered_at, answered_by, theirs, theirs_at, theirs_after, session, session_at, after_item, place, place_by, free_channel, is_free, channels}
use Rattle.reply_rows.specs.Finding.{free_for}
use Rattle.router_core.specs.Moves.{outs}
use Rattle.theorems.specs.Alone.{is_about, own_part, comes_up}
use Rattle.state_connections.proofs.Lists.{by_test}
use Rattle.theorems.proofs.Plain.{stand, stand_after, plain_at, standing_item, standing_passed, standing_took, standing_at}

-- events about others change nothing

else_moment : (e : Event) (c v : ℕ) → is_about c e ≡ false → moment_at e v ≡ v
else_moment (event.Tick ms) c v h = absurd cc
else_moment _ c v h = refl

else_terms : (e : Event) (c : ℕ) (v : Option Terms) → is_about c e ≡ false → terms_at e c v ≡ v
else_terms (event.Item d i) c v h = rw h refl
else_terms (event.Down d) c v h = rw h refl
else_terms (event.Up d p) c v h = refl
else_terms (event.Tick ms) c v h = refl
else_terms event.Start c v h = refl

else_written : (e : Event) (c : ℕ) (v : Option ℕ) → is_about c e ≡ false → written_at e c v ≡ v
else_written (event.Down d) c v h = rw h refl
else_written (event.Item d i) c v h = refl
else_written (event.Up d p) c v h = refl
else_written (event.Tick ms) c v h = refl
else_written event.Start c v h = refl

else_offered : (e : Event) (c : ℕ) (v : Option BeginState) → is_about c e ≡ false → offered_at e c v ≡ v
else_offered (event.Item d i) c v h = rw h refl
else_offered (event.Down d) c v h = rw h refl
else_offered (event.Up d p) c v h = refl
else_offered (event.Tick ms) c v h = refl
else_offered event.Start c v h = refl

else_awaited : (e : Event) (c o : ℕ) (known : ℕ → Option PeerChannel) (v : Option BeginState) → is_about c e ≡ false → awaited_at e c o known v ≡ v
else_awaited (event.Item d i) c o known v h = rw h refl
else_awaited (event.Down d) c o known v h = rw h refl
else_awaited (event.Up d p) c o known v h = refl
else_awaited (event.Tick ms) c o known v h = refl
else_awaited event.Start c o known v h = refl

else_answered : (e : Event) (c o : ℕ) (known : ℕ → Option PeerChannel) (asked : Option BeginState) (v : Option ℕ) → is_about c e ≡ false
    → answered_at e c o known asked v ≡ v
else_answered (event.Down d) c o known asked v h = rw h refl
else_answered (event.Item d i) c o known asked v h = rw h refl
else_answered (event.Up d p) c o known asked v h = refl
else_answered (event.Tick ms) c o known asked v h = refl
else_answered event.Start c o known asked v h = refl

else_theirs : (e : Event) (c p : ℕ) (asked : ℕ → Option BeginState) (v : Option PeerChannel) → is_about c e ≡ false → theirs_at e c p asked v ≡ v
else_theirs (event.Item d i) c p asked v h = rw h refl
else_theirs (event.Down d) c p asked v h = rw h refl
else_theirs (event.Up d q) c p asked v h = refl
else_theirs (event.Tick ms) c p asked v h = refl
else_theirs event.Start c p asked v h = refl

else_session : (e : Event) (c o : ℕ) (known : ℕ → Option PeerChannel) (asked : Option BeginState) (v : Option Session) → is_about c e ≡ false
    → session_at e c o known asked v ≡ v
else_session (event.Item d i) c o known asked v h = rw h refl
else_session (event.Down d) c o known asked v h = rw h refl
else_session (event.Up d p) c o known asked v h = refl
else_session (event.Tick ms) c o known asked v h = refl
else_session event.Start c o known asked v h = refl

-- nor does what passes on a routed link to others
unpassed : {A : Type 0} (change : Item → A → A) (p : Option Item) (v : A) → is_some p ≡ false → if_passed change p v ≡ v
unpassed change None v h = refl
unpassed change (Some i) v h = absurd cc

else_plain : (e : Event) (c n : ℕ) (v : Option Conn) → is_about c e ≡ false → plain_at e c n v ≡ v
else_plain (event.Up d p) c n v h = rw h refl
else_plain (event.Down d) c n v h = rw h refl
else_plain (event.Item d i) c n v h = refl
else_plain (event.Tick ms) c n v h = refl
else_plain event.Start c n v h = refl

-- the phase of a live connection that was admitted; other connections don't matter
abbrev pub apart : List Entry → ℕ → Option Conn
apart [] c = None
apart (Did s ∷ t) c = plain_at s.event c 0 (apart t c)
apart (Out d i ∷ t) c = if d == c then option_and_then (stand_after i) (apart t c) else apart t c
apart (Took d n ∷ t) c = apart t c
apart (Bound b ∷ t) c = apart t c
apart (Booked acts full ∷ t) c = apart t c
apart (Routed passage ∷ t) c = apart t c
apart (Began g ∷ t) c = None

-- the views of a connection

own_moment : (t : List Entry) (c : ℕ) → moment t ≡ moment (own_part c t)
own_moment [] c = refl
own_moment (Did s ∷ t) c =
    by_test (is_about c s.event) (λ e. rw e (ap (moment_at s.event) (own_moment t c))) (λ e. rw e (else_moment s.event c (moment t) e ∙ own_moment t c))
own_moment (Out d i ∷ t) c = by_test (d == c) (λ e. rw e (own_moment t c)) (λ e. rw e (own_moment t c))
own_moment (Took d n ∷ t) c = own_moment t c
own_moment (Bound b ∷ t) c = own_moment t c
own_moment (Booked acts full ∷ t) c = own_moment t c
own_moment (Routed passage ∷ t) c = by_test (is_some (passed_to passage c)) (λ e. rw e (own_moment t c)) (λ e. rw e (own_moment t c))
own_moment (Began g ∷ t) c = refl

pub own_terms : (t : List Entry) (c : ℕ) → terms t c ≡ terms (own_part c t) c
own_terms [] c = refl
own_terms (Did s ∷ t) c =
    by_test (is_about c s.event) (λ e. rw e (ap (terms_at s.event c) (own_terms t c))) (λ e. rw e (else_terms s.event c (terms t c) e ∙ own_terms t c))
own_terms (Out d i ∷ t) c = by_test (d == c) (λ e. rw e (rw e (ap (unless_close i) (own_terms t c)))) (λ e. rw e (own_terms t c))
own_terms (Took d n ∷ t) c = own_terms t c
own_terms (Bound b ∷ t) c = own_terms t c
own_terms (Booked acts full ∷ t) c = own_terms t c
own_terms (Routed passage ∷ t) c = by_test (is_some (passed_to passage c)) (λ e. rw e (own_terms t c)) (λ e. rw e (own_terms t c))
own_terms (Began g ∷ t) c = refl

own_offered : (t : List Entry) (c : ℕ) → offered t c ≡ offered (own_part c t) c
own_offered [] c = refl
own_offered (Did s ∷ t) c =
    by_test (is_about c s.event) (λ e. rw e (ap (offered_at s.event c) (own_offered t c))) (λ e. rw e (else_offered s.event c (offered t c) e ∙ own_offered t c))
own_offered (Out d i ∷ t) c = by_test (d == c) (λ e. rw e (rw e (ap (unless_close i) (own_offered t c)))) (λ e. rw e (own_offered t c))
own_offered (Took d n ∷ t) c = own_offered t c
own_offered (Bound b ∷ t) c = own_offered t c
own_offered (Booked acts full ∷ t) c = own_offered t c
own_offered (Routed passage ∷ t) c = by_test (is_some (passed_to passage c)) (λ e. rw e (own_offered t c)) (λ e. rw e (own_offered t c))
own_offered (Began g ∷ t) c = refl

pub own_written : (t : List Entry) (c : ℕ) → written t c ≡ written (own_part c t) c
own_written [] c = refl
own_written (Did s ∷ t) c =
    by_test (is_about c s.event) (λ e. rw e (ap (written_at s.event c) (own_written t c))) (λ e. rw e (else_written s.event c (written t c) e ∙ own_written t c))
own_written (Out d i ∷ t) c = by_test (d == c) (λ e. rw e (rw e (ap (λ m. unless_close i (Some m)) (own_moment t c)))) (λ e. rw e (own_written t c))
own_written (Took d n ∷ t) c = own_written t c
own_written (Bound b ∷ t) c = own_written t c
own_written (Booked acts full ∷ t) c = own_written t c
own_written (Routed passage ∷ t) c =
    by_test (is_some (passed_to passage c))
    (λ e. rw e (λ j. if_passed (λ i last. Some (own_moment t c j)) (passed_to passage c) (own_written t c j)))
    (λ e. rw e (unpassed (λ i last. Some (moment t)) (passed_to passage c) (written t c) e ∙ own_written t c))
own_written (Began g ∷ t) c = refl

mutual
  pub own_awaited : (t : List Entry) (c o : ℕ) → awaited t c o ≡ awaited (own_part c t) c o
  own_awaited [] c o = refl
  own_awaited (Did s ∷ t) c o =
      by_test (is_about c s.event) (λ e. rw e (λ j. awaited_at s.event c o (λ p. own_theirs t c p j) (own_awaited t c o j)))
      (λ e. rw e (else_awaited s.event c o (theirs t c) (awaited t c o) e ∙ own_awaited t c o))
  own_awaited (Out d i ∷ t) c o = by_test (d == c) (λ e. rw e (rw e (ap (awaited_after i o) (own_awaited t c o)))) (λ e. rw e (own_awaited t c o))
  own_awaited (Took d n ∷ t) c o = own_awaited t c o
  own_awaited (Bound b ∷ t) c o = own_awaited t c o
  own_awaited (Booked acts full ∷ t) c o = own_awaited t c o
  own_awaited (Routed passage ∷ t) c o = by_test (is_some (passed_to passage c)) (λ e. rw e (own_awaited t c o)) (λ e. rw e (own_awaited t c o))
  own_awaited (Began g ∷ t) c o = refl

  own_answered : (t : List Entry) (c o : ℕ) → answered_channel t c o ≡ answered_channel (own_part c t) c o
  own_answered [] c o = refl
  own_answered (Did s ∷ t) c o =
      by_test (is_about c s.event) (λ e. rw e (λ j. answered_at s.event c o (λ p. own_theirs t c p j) (own_awaited t c o j) (own_answered t c o j)))
      (λ e. rw e (else_answered s.event c o (theirs t c) (awaited t c o) (answered_channel t c o) e ∙ own_answered t c o))
  own_answered (Out d i ∷ t) c o = by_test (d == c) (λ e. rw e (rw e (ap (answered_by i o) (own_answered t c o)))) (λ e. rw e (own_answered t c o))
  own_answered (Took d n ∷ t) c o = own_answered t c o
  own_answered (Bound b ∷ t) c o = own_answered t c o
  own_answered (Booked acts full ∷ t) c o = own_answered t c o
  own_answered (Routed passage ∷ t) c o = by_test (is_some (passed_to passage c)) (λ e. rw e (own_answered t c o)) (λ e. rw e (own_answered t c o))
  own_answered (Began g ∷ t) c o = refl

  pub own_theirs : (t : List Entry) (c p : ℕ) → theirs t c p ≡ theirs (own_part c t) c p
  own_theirs [] c p = refl
  own_theirs (Did s ∷ t) c p =
      by_test (is_about c s.event) (λ e. rw e (λ j. theirs_at s.event c p (λ o. own_awaited t c o j) (own_theirs t c p j)))
      (λ e. rw e (else_theirs s.event c p (awaited t c) (theirs t c p) e ∙ own_theirs t c p))
  own_theirs (Out d i ∷ t) c p =
      by_test (d == c) (λ e. rw e (rw e (λ j. theirs_after i p (λ o. own_answered t c o j) (own_theirs t c p j)))) (λ e. rw e (own_theirs t c p))
  own_theirs (Took d n ∷ t) c p = own_theirs t c p
  own_theirs (Bound b ∷ t) c p = own_theirs t c p
  own_theirs (Booked acts full ∷ t) c p = own_theirs t c p
  own_theirs (Routed passage ∷ t) c p = by_test (is_some (passed_to passage c)) (λ e. rw e (own_theirs t c p)) (λ e. rw e (own_theirs t c p))
  own_theirs (Began g ∷ t) c p = refl

pub own_session : (t : List Entry) (c o : ℕ) → session t c o ≡ session (own_part c t) c o
own_session [] c o = refl
own_session (Did s ∷ t) c o =
    by_test (is_about c s.event) (λ e. rw e (λ j. session_at s.event c o (λ p. own_theirs t c p j) (own_awaited t c o j) (own_session t c o j)))
    (λ e. rw e (else_session s.event c o (theirs t c) (awaited t c o) (session t c o) e ∙ own_session t c o))
own_session (Out d i ∷ t) c o =
    by_test (d == c) (λ e. rw e (rw e (λ j. after_item i o (own_offered t c j) (own_session t c o j)))) (λ e. rw e (own_session t c o))
own_session (Took d n ∷ t) c o = own_session t c o
own_session (Bound b ∷ t) c o = own_session t c o
own_session (Booked acts full ∷ t) c o = own_session t c o
own_session (Routed passage ∷ t) c o =
    by_test (is_some (passed_to passage c))
    (λ e. rw e (λ j. if_passed (λ i v. after_item i o (own_offered t c j) v) (passed_to passage c) (own_session t c o j)))
    (λ e. rw e (unpassed (λ i v. after_item i o (offered t c) v) (passed_to passage c) (session t c o) e ∙ own_session t c o))
own_session (Began g ∷ t) c o = refl

pub own_outs : (t : List Entry) (c : ℕ) → outs t c ≡ outs (own_part c t) c
own_outs [] c = refl
own_outs (Did s ∷ t) c = by_test (is_about c s.event) (λ e. rw e (own_outs t c)) (λ e. rw e (own_outs t c))
own_outs (Out d i ∷ t) c = by_test (d == c) (λ e. rw e (rw e (ap (λ (is : List Item). is ++ i ∷ []) (own_outs t c)))) (λ e. rw e (own_outs t c))
own_outs (Took d n ∷ t) c = own_outs t c
own_outs (Bound b ∷ t) c = own_outs t c
own_outs (Booked acts full ∷ t) c = own_outs t c
own_outs (Routed passage ∷ t) c =
    by_test (is_some (passed_to passage c))
    (λ e. rw e (ap (λ (is : List Item). if_passed (λ i js. js ++ i ∷ []) (passed_to passage c) is) (own_outs t c)))
    (λ e. rw e (unpassed (λ i js. js ++ i ∷ []) (passed_to passage c) (outs t c) e ∙ own_outs t c))
own_outs (Began g ∷ t) c = refl

pub own_place : (t : List Entry) (c p : ℕ) → place t c p ≡ place (own_part c t) c p
own_place t c p = λ j. place_by (own_theirs t c p j) (λ o. own_session t c o j)

own_channel : (t : List Entry) (c most : ℕ) → free_channel t c most ≡ free_channel (own_part c t) c most
unfolding free_channel
own_channel t c most = λ j. find (is_free most (λ o. own_session t c o j) (λ o. own_awaited t c o j)) channels

pub own_free : (t : List Entry) (c : ℕ) → free_for t c ≡ free_for (own_part c t) c
own_free t c = λ j. own_channel t c (channel_max_of (own_terms t c j)) j

own_apart : (t : List Entry) (c : ℕ) → apart t c ≡ apart (own_part c t) c
own_apart [] c = refl
own_apart (Did s ∷ t) c =
    by_test (is_about c s.event) (λ e. rw e (ap (plain_at s.event c 0) (own_apart t c))) (λ e. rw e (else_plain s.event c 0 (apart t c) e ∙ own_apart t c))
own_apart (Out d i ∷ t) c = by_test (d == c) (λ e. rw e (rw e (ap (option_and_then (stand_after i)) (own_apart t c)))) (λ e. rw e (own_apart t c))
own_apart (Took d n ∷ t) c = own_apart t c
own_apart (Bound b ∷ t) c = own_apart t c
own_apart (Booked acts full ∷ t) c = own_apart t c
own_apart (Routed passage ∷ t) c = by_test (is_some (passed_to passage c)) (λ e. rw e (own_apart t c)) (λ e. rw e (own_apart t c))
own_apart (Began g ∷ t) c = refl

-- its outbox was not full when an event came, and it was admitted
abbrev pub Eased : ℕ → List Entry → Type 0
Eased c [] = Unit {0}
Eased c (Did s ∷ t) = ((has c (due t s.event) ≡ false) × (comes_up c s.event ≡ true → is_some (standing (conn (Did s ∷ t) c)) ≡ true)) × Eased c t
Eased c (Out d i ∷ t) = Eased c t
Eased c (Took d n ∷ t) = Eased c t
Eased c (Bound b ∷ t) = Eased c t
Eased c (Booked acts full ∷ t) = Eased c t
Eased c (Routed passage ∷ t) = Eased c t
Eased c (Began g ∷ t) = Eased c t

pub eased_goes : (c : ℕ) (ps : List Put) (t : List Entry) → Eased c t → Eased c (goes ps t)
eased_goes c [] t eased = eased
eased_goes c (p ∷ ps) t eased = eased_goes c ps (Out p.conn p.item ∷ t) eased

fresh_same : (n : ℕ) → is_some (stand (fresh n).phase) ≡ true → stand (fresh n).phase ≡ stand (fresh 0).phase
fresh_same n some = by_test (nat_lt n 64) (λ e. rw e refl) (λ e. absurd (true≢false (sym (rw e at some))))

plain_taken : (e : Event) (c n : ℕ) (v : Option Conn) → (comes_up c e ≡ true → is_some (plain_at e c n v) ≡ true) → plain_at e c n v ≡ plain_at e c 0 v
plain_taken (event.Up d p) c n v taken = by_test (d.0 == c) (λ e. rw e (fresh_same n (rw e at (taken e)))) (λ e. rw e refl)
plain_taken (event.Down d) c n v taken = refl
plain_taken (event.Item d i) c n v taken = refl
plain_taken (event.Tick ms) c n v taken = refl
plain_taken event.Start c n v taken = refl

pub found_same : (t : List Entry) (e : Event) (c : ℕ) → has c (due t e) ≡ false → found t e c ≡ conn t c
found_same t e c spared = rw spared refl

stood_apart : (t : List Entry) (c : ℕ) → Eased c t → standing (conn t c) ≡ apart t c
stood_apart [] c eased = refl
stood_apart (Did s ∷ t) c eased =
    let n : ℕ = length (live_of (ups t) (found t s.event))
    in let stands : standing (conn (Did s ∷ t) c) ≡ plain_at s.event c n (standing (conn t c))
    = standing_at s.event c n (found t s.event c) ∙ ap (λ v. plain_at s.event c n (standing v)) (found_same t s.event c eased.0.0)
    in stands
    ∙ plain_taken s.event c n (standing (conn t c)) (λ up. sym (ap (λ (p : Option Conn). is_some p) stands) ∙ eased.0.1 up)
    ∙ ap (plain_at s.event c 0) (stood_apart t c eased.1)
stood_apart (Out d i ∷ t) c eased =
    standing_item (d == c) i (conn t c) ∙ ap (λ (v : Option Conn). if d == c then option_and_then (stand_after i) v else v) (stood_apart t c eased)
stood_apart (Took d n ∷ t) c eased = standing_took (d == c) n (conn t c) ∙ stood_apart t c eased
stood_apart (Bound b ∷ t) c eased = stood_apart t c eased
stood_apart (Booked acts full ∷ t) c eased = stood_apart t c eased
stood_apart (Routed passage ∷ t) c eased = standing_passed (passed_to passage c) (conn t c) ∙ stood_apart t c eased
stood_apart (Began g ∷ t) c eased = refl

-- the phase of a live connection follows from its own part
pub own_phase : (t : List Entry) (c : ℕ) → Eased c t → standing (conn t c) ≡ apart (own_part c t) c
own_phase t c eased = stood_apart t c eased ∙ own_apart t c
