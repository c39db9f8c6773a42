-- What is heard on a connection, in the rows of all connections.
use Rattle.std.proofs.Common.{rules, arith, ◌≡◌, ◌∙◌, ◌∷◌, [], ℕ, Bool, true, false, refl, sym, ap, subst, List}
use Rattle.std.specs.Prelude.{◌==◌, ◌%◌, ◌^◌, ◌+◌, ◌-◌, nat_eq, count_by, if◌then◌else◌, Option, Some, None, option_map, Result, Ok, Err, OnOk}
use Rattle.std.proofs.lemmas.Bool.{eqb-true}
use Rattle.std.proofs.lemmas.List.Sums.{sum_by-cons}
use Rattle.std.specs.Ordering.{nat_cmp}
use Rattle.std.specs.BTreeMap.{get}
use Rattle.state_collections.specs.NumberMap.{at_number}
use Rattle.amqp_model.specs.declared.perf.Perf.{Perf}
use Rattle.amqp_model.specs.declared.perf.Perf.TheVariants as perf
use Rattle.amqp_model.specs.declared.item.Item.TheVariants as item
use Rattle.amqp_session.specs.declared.states.BeginState.{BeginState}
use Rattle.amqp_session.specs.declared.window.Window.{Window}
use Rattle.amqp_session.specs.Session.{Happened, Session, OurBegin, TheirBegin, TheirTransfer, is_our_transfer, is_their_transfer, is_our_begin, tells_id, tells_allowance, since, first_outgoing, next_incoming, id_told, window_told, allowance_told, allowance}
use Rattle.amqp_session.specs.Figures.{window_of, begun, after_their_transfer}
use Rattle.router_trace.specs.declared.channel.PeerChannel.{PeerChannel}
use Rattle.router_trace.specs.declared.event.ConnectionId.{ConnectionId}
use Rattle.router_trace.specs.declared.event.Event.TheVariants as event
use Rattle.router_trace.specs.Trace.{Entry, did}
use Rattle.router_trace.specs.Sessions.{offered, awaited, answered_channel, theirs, session, maps, answers_begin, answered_begin, begin_state, heard_in, theirs_in, with_transfer}
use Rattle.router_trace.specs.Sessions.{offered_in as offered_by}
use Rattle.state_sessions.specs.declared.connection.ConnectionSessions.{ConnectionSessions}
use Rattle.state_sessions.specs.Fits.{RowsFit, offered_in, awaited_in, answered_in, window_in, window_by, window_after, answered_window, heard_window, heard_in_window}
use Rattle.state_sessions.specs.Fits as rows

by_test : {P : Type 0} (b : Bool) → ((b ≡ true) → P) → ((b ≡ false) → P) → P
by_test true f g = f refl
by_test false f g = g refl

-- the window of a session follows what happens on it
abbrev pub Follows : Type 0
Follows = (body : Perf) (o : ℕ) (here : Option PeerChannel) (asked : Option BeginState) (v : Option Session)
    → window_after body o here asked (window_by v)
    ≡ window_by (if answers_begin body o here asked then answered_begin body asked else (if maps here o then option_map (heard_in body) v else v))

-- the search shows the two that have sums in them
of_begins : (ours asked : BeginState) → Some (begun ours asked) ≡ window_by (Some (OurBegin ours ∷ TheirBegin asked ∷ []))
of_begins ours asked = search rules

of_answer : (body : Perf) (asked : Option BeginState) → answered_window body asked ≡ window_by (answered_begin body asked)
of_answer (perf.Begin b) None = refl
of_answer (perf.Begin b) (Some ours) = of_begins ours (begin_state b)
of_answer _ asked = refl

skipped : (h : List Happened) → count_by is_our_transfer h ≡ count_by is_our_transfer (TheirTransfer ∷ h)
skipped h = sym (sum_by-cons (λ x. if is_our_transfer x then 1 else 0) TheirTransfer h ∙ omega arith)

counted : (h : List Happened) → count_by is_their_transfer (TheirTransfer ∷ h) ≡ count_by is_their_transfer h + 1
counted h = sum_by-cons (λ x. if is_their_transfer x then 1 else 0) TheirTransfer h ∙ omega arith

one_on : (a n m : ℕ) → m ≡ n + 1 → ((a + n) % 2 ^ 32 + 1) % 2 ^ 32 ≡ (a + m) % 2 ^ 32
one_on a n m is = rw is (omega arith)

one_less : (a n m : ℕ) → m ≡ n + 1 → a - n - 1 ≡ a - m
one_less a n m is = rw is (omega arith)

transferred : (h : Session) → record (window_of h) { next_incoming = (next_incoming h + 1) % 2 ^ 32; allowance = allowance h - 1 } ≡ window_of (TheirTransfer ∷ h)
transferred h = λ j. record {
  first_outgoing = first_outgoing h;
  next_outgoing = (first_outgoing h + skipped (since is_our_begin h) j) % 2 ^ 32;
  next_incoming = one_on (id_told h) (count_by is_their_transfer (since tells_id h)) _ (counted (since tells_id h)) j;
  remote_window = window_told h - skipped (since tells_id h) j;
  allowance = one_less (allowance_told h) (count_by is_their_transfer (since tells_allowance h)) _ (counted (since tells_allowance h)) j;
}

of_transfer : (h : Session) → after_their_transfer (window_of h) ≡ window_of (with_transfer h)
of_transfer h = by_test (nat_eq (allowance h) 0) (λ e. rw e refl) (λ e. rw e (transferred h))

of_heard : (body : Perf) (v : Option Session) → option_map (heard_in_window body) (window_by v) ≡ window_by (option_map (heard_in body) v)
of_heard body None = refl
of_heard (perf.Flow f) (Some h) = search rules
of_heard (perf.Transfer x) (Some h) = ap (λ (w : Window). Some w) (of_transfer h)
of_heard _ (Some h) = refl

pub follows : Follows
follows body o here asked v =
    by_test (answers_begin body o here asked) (λ e. rw e (of_answer body asked))
    (λ e. rw e (by_test (maps here o) (λ f. rw f (of_heard body v)) (λ f. rw f refl)))

-- a row before and after what it heard
pub record Heard (body : Perf) (channel : ℕ) (x y : ConnectionSessions) : Type 0 where
  pub offered : y.offered ≡ offered_by body x.offered
  pub awaited : (o : ℕ) → at_number y.awaited o ≡ (if answers_begin body o (at_number x.theirs channel) (at_number x.awaited o) then None else at_number x.awaited o)
  pub answered : (o : ℕ) → get nat_cmp y.answered o ≡ (if answers_begin body o (at_number x.theirs channel) (at_number x.awaited o) then Some channel else get nat_cmp x.answered o)
  pub theirs : (p : ℕ) → at_number y.theirs p ≡ theirs_in body channel p (at_number x.awaited) (at_number x.theirs p)
  pub windows : (o : ℕ) → at_number y.windows o ≡ window_after body o (at_number x.theirs channel) (at_number x.awaited o) (at_number x.windows o)

-- the rows of all connections, where one of them heard a performative
pub rows_fit : (old new : ℕ → Option ConnectionSessions) (d : ConnectionId) (channel : ℕ) (body : Perf) (x y : ConnectionSessions)
    → old d.0 ≡ Some x → ((q : ℕ) → new q ≡ (if d.0 == q then option_map (λ w. y) (old q) else old q)) → Heard body channel x y
    → (t : List Entry) (payload : List ℕ) → RowsFit old t → RowsFit new (did (event.Item d (item.Frame false channel body payload)) ∷ t)
rows_fit old new d channel body x y is now heard t payload fit = record {
  offered = λ c. by_test (d.0 == c)
      (λ e. ap offered_in (there c e) ∙ rw e (heard.offered ∙ ap (offered_by body) (offers c e)))
      (λ e. ap offered_in (beside c e) ∙ rw e (fit.offered c));
  awaited = λ c o. by_test (d.0 == c)
      (λ e. ap (λ v. awaited_in v o) (there c e)
      ∙ rw e (heard.awaited o ∙ (λ j. if answers_begin body o (stands c e channel j) (awaits c e o j) then None else awaits c e o j)))
      (λ e. ap (λ v. awaited_in v o) (beside c e) ∙ rw e (fit.awaited c o));
  answered = λ c o. by_test (d.0 == c)
      (λ e. ap (λ v. answered_in v o) (there c e)
      ∙ rw e (heard.answered o ∙ (λ j. if answers_begin body o (stands c e channel j) (awaits c e o j) then Some channel else answers c e o j)))
      (λ e. ap (λ v. answered_in v o) (beside c e) ∙ rw e (fit.answered c o));
  theirs = λ c p. by_test (d.0 == c)
      (λ e. ap (λ v. rows.theirs_in v p) (there c e) ∙ rw e (heard.theirs p ∙ (λ j. theirs_in body channel p (λ o. awaits c e o j) (stands c e p j))))
      (λ e. ap (λ v. rows.theirs_in v p) (beside c e) ∙ rw e (fit.theirs c p));
  windows = λ c o. by_test (d.0 == c)
      (λ e. ap (λ v. window_in v o) (there c e)
      ∙ rw e (heard.windows o ∙ (λ j. window_after body o (stands c e channel j) (awaits c e o j) (shows c e o j))
      ∙ follows body o (theirs t c channel) (awaited t c o) (session t c o)))
      (λ e. ap (λ v. window_in v o) (beside c e) ∙ rw e (fit.windows c o));
}
  where
    was : (c : ℕ) → (d.0 == c) ≡ true → old c ≡ Some x
    was c e = subst (λ (k : ℕ). old k ≡ Some x) (eqb-true d.0 c e) is

    there : (c : ℕ) → (d.0 == c) ≡ true → new c ≡ Some y
    there c e = now c ∙ rw e (ap (option_map (λ w. y)) (was c e))

    beside : (c : ℕ) → (d.0 == c) ≡ false → new c ≡ old c
    beside c e = now c ∙ rw e refl

    offers : (c : ℕ) → (d.0 == c) ≡ true → x.offered ≡ offered t c
    offers c e = sym (ap offered_in (was c e)) ∙ fit.offered c

    awaits : (c : ℕ) → (d.0 == c) ≡ true → (o : ℕ) → at_number x.awaited o ≡ awaited t c o
    awaits c e o = sym (ap (λ v. awaited_in v o) (was c e)) ∙ fit.awaited c o

    answers : (c : ℕ) → (d.0 == c) ≡ true → (o : ℕ) → get nat_cmp x.answered o ≡ answered_channel t c o
    answers c e o = sym (ap (λ v. answered_in v o) (was c e)) ∙ fit.answered c o

    stands : (c : ℕ) → (d.0 == c) ≡ true → (p : ℕ) → at_number x.theirs p ≡ theirs t c p
    stands c e p = sym (ap (λ v. rows.theirs_in v p) (was c e)) ∙ fit.theirs c p

    shows : (c : ℕ) → (d.0 == c) ≡ true → (o : ℕ) → at_number x.windows o ≡ window_by (session t c o)
    shows c e o = sym (ap (λ v. window_in v o) (was c e)) ∙ fit.windows c o

pub on_ok : {E A B : Type 0} (r : Result Bool E) → (A → B) → OnOk r A → OnOk r B
on_ok (Ok v) f a = f a
on_ok (Err e) f a = tt

pub heard_row : {E : Type 0} (r : Result Bool E) (body : Perf) (channel : ℕ) (x y : ConnectionSessions)
    → OnOk r (y.offered ≡ offered_by body x.offered)
    → OnOk r ((o : ℕ) → at_number y.awaited o ≡ (if answers_begin body o (at_number x.theirs channel) (at_number x.awaited o) then None else at_number x.awaited o))
    → OnOk r ((o : ℕ) → get nat_cmp y.answered o ≡ (if answers_begin body o (at_number x.theirs channel) (at_number x.awaited o) then Some channel else get nat_cmp x.answered o))
    → OnOk r ((p : ℕ) → at_number y.theirs p ≡ theirs_in body channel p (at_number x.awaited) (at_number x.theirs p))
    → OnOk r ((o : ℕ) → at_number y.windows o ≡ window_after body o (at_number x.theirs channel) (at_number x.awaited o) (at_number x.windows o))
    → OnOk r (Heard body channel x y)
heard_row (Ok v) body channel x y offered awaited answered theirs windows = record { offered = offered; awaited = awaited; answered = answered; theirs = theirs; windows = windows }
heard_row (Err e) body channel x y offered awaited answered theirs windows = tt
