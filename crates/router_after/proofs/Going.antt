-- The deliveries of a link that can be sent.
use Rattle.std.proofs.Common.{◌≡◌, ◌∙◌, ◌<◌, ◌+◌, ℕ, Bool, true, false, refl, sym, ap, subst, arith, Option, Some, None}
use Rattle.std.specs.Prelude.{not, ◌&&◌, ◌||◌, ◌==◌, if◌then◌else◌, is_none, is_some}
use Rattle.std.proofs.lemmas.Bool.{and_parts, and_from, eqb-true}
use Rattle.std.proofs.lemmas.Bool.Decides.{nat_tests}
use Rattle.router_trace.specs.declared.binding.Rank.{Rank}
use Rattle.router_trace.specs.declared.handle.Attachment.{Attachment}
use Rattle.router_trace.specs.Trace.{Trace}
use Rattle.router_trace.specs.Sessions.{session}
use Rattle.router_trace.specs.Links.{Link, link, has_number, is_attached, numbered, place_of}
use Rattle.router_trace.specs.Deliveries.{Delivery, bindings, delivery, rank_at, sending, is_number}
use Rattle.router_trace.specs.Following.{link_of, goes_on_at, is_going, takes_more, has_credit, can_start, is_wide, is_there, can_go, place_to_go, is_unsent_on}
use Rattle.state_deliveries.specs.Finding.{IsFirstBy}
use Rattle.state_deliveries.proofs.Numbers.{stands_below}
use Rattle.state_deliveries.proofs.Unsent.{some_delivery}
use Rattle.state_messages.specs.Asking.{has_unsent, goes_on}
use Rattle.router_after.specs.Soonest.{IsSoonestOn, beats, candidate}
use Rattle.router_after.specs.Starting.{is_same, goes_on_from, waits_at, starts_from, goes_from, places}
use Rattle.router_after.proofs.Numbered.{number_is, place_is, stands_there}
use Rattle.router_after.proofs.Orders.{not_sooner_here}

-- attachments with equal parts are equal
one : (a b : Attachment) → a.number ≡ b.number → a.conn.0 ≡ b.conn.0 → a.channel ≡ b.channel → a.handle ≡ b.handle → a ≡ b
one a b n c o h =
    ap (λ (k : ℕ). record { number = k; conn = a.conn; channel = a.channel; handle = a.handle }) n
    ∙ ap (λ (k : ℕ). record { number = b.number; conn = record { 0 = k }; channel = a.channel; handle = a.handle }) c
    ∙ ap (λ (k : ℕ). record { number = b.number; conn = b.conn; channel = k; handle = a.handle }) o
    ∙ ap (λ (k : ℕ). record { number = b.number; conn = b.conn; channel = b.channel; handle = k }) h

nat_same : (n : ℕ) → (n == n) ≡ true
nat_same n = grind (arith, nat_tests)

pub same_is : (a b : Attachment) → is_same a b ≡ true → a ≡ b
same_is a b e =
    let x = and_parts (a.number == b.number) ((a.conn.0 == b.conn.0) && ((a.channel == b.channel) && (a.handle == b.handle))) e in
    let y = and_parts (a.conn.0 == b.conn.0) ((a.channel == b.channel) && (a.handle == b.handle)) x.1 in
    let z = and_parts (a.channel == b.channel) (a.handle == b.handle) y.1 in
    one a b (eqb-true a.number b.number x.0) (eqb-true a.conn.0 b.conn.0 y.0) (eqb-true a.channel b.channel z.0) (eqb-true a.handle b.handle z.1)

pub is_itself : (a : Attachment) → is_same a a ≡ true
is_itself a =
    and_from (a.number == a.number) _ (nat_same a.number)
    (and_from (a.conn.0 == a.conn.0) _ (nat_same a.conn.0) (and_from (a.channel == a.channel) (a.handle == a.handle) (nat_same a.channel) (nat_same a.handle)))

-- the link with a number is at its place
there_is : (t : Trace) (a : Attachment) → is_there (numbered t a.number) a ≡ true → numbered t a.number ≡ Some a
there_is t a e = by_place (numbered t a.number) refl e
  where
    by_place : (v : Option Attachment) → numbered t a.number ≡ v → is_there v a ≡ true → numbered t a.number ≡ Some a
    by_place None is e = absurd cc
    by_place (Some b) is e =
        let y = and_parts (b.conn.0 == a.conn.0) ((b.channel == a.channel) && (b.handle == a.handle)) e in
        let z = and_parts (b.channel == a.channel) (b.handle == a.handle) y.1 in
        is ∙ ap Some (one b a (number_is t a.number b is) (eqb-true b.conn.0 a.conn.0 y.0) (eqb-true b.channel a.channel z.0) (eqb-true b.handle a.handle z.1))

is_there_at : (t : Trace) (a : Attachment) → numbered t a.number ≡ Some a → is_there (numbered t a.number) a ≡ true
is_there_at t a is =
    ap (λ v. is_there v a) is
    ∙ and_from (a.conn.0 == a.conn.0) _ (nat_same a.conn.0) (and_from (a.channel == a.channel) (a.handle == a.handle) (nat_same a.channel) (nat_same a.handle))

-- a delivery that goes on or starts on a link has it attached, and is unsent
going_has : (v : Option Link) (number : ℕ) (sent : Option ℕ) (n : ℕ) → goes_on_at v number sent n ≡ true → has_number number v ≡ true
going_has None number sent n e = e
going_has (Some l) number sent n e = (and_parts (l.number == number) _ e).0

taking_has : (v : Option Link) (number : ℕ) → takes_more v number ≡ true → has_number number v ≡ true
taking_has None number e = e
taking_has (Some l) number e = (and_parts (l.number == number) _ e).0

-- a link on which a delivery goes on starts no other
pub goes_or_takes : (v : Option Link) (number : ℕ) → goes_on v number ≡ true → takes_more v number ≡ true → true ≡ false
goes_or_takes None number e f = absurd cc
goes_or_takes (Some l) number e f =
    let x = (and_parts (l.number == number) l.going_on e).1 in
    let y = (and_parts (not l.going_on) (has_credit l.happened) (and_parts (l.number == number) _ f).1).0 in
    sym y ∙ ap not x

pub going_goes : (v : Option Link) (number : ℕ) (sent : Option ℕ) (n : ℕ) → goes_on_at v number sent n ≡ true → (goes_on v number ≡ true) × (is_number sent n ≡ true)
going_goes None number sent n e = absurd cc
going_goes (Some l) number sent n e =
    let x = and_parts (l.number == number) (l.going_on && is_number sent n) e in
    let y = and_parts l.going_on (is_number sent n) x.1 in
    (and_from (l.number == number) l.going_on x.0 y.0, y.1)

pub goes_going : (v : Option Link) (number : ℕ) (sent : Option ℕ) (n : ℕ) → goes_on v number ≡ true → is_number sent n ≡ true → goes_on_at v number sent n ≡ true
goes_going None number sent n e f = absurd cc
goes_going (Some l) number sent n e f =
    let x = and_parts (l.number == number) l.going_on e in
    and_from (l.number == number) (l.going_on && is_number sent n) x.0 (and_from l.going_on (is_number sent n) x.1 f)

either : (a b : Bool) (P : Type 0) → (a || b) ≡ true → (a ≡ true → P) → (b ≡ true → P) → P
either true b P e f g = f refl
either false b P e f g = g e

or_first : (a b : Bool) → a ≡ true → (a || b) ≡ true
or_first true b e = refl
or_first false b e = absurd cc

or_second : (a b : Bool) → b ≡ true → (a || b) ≡ true
or_second true b e = refl
or_second false b e = e

-- A delivery that can be sent, on its link.
pub record IsReady (t : Trace) (n : ℕ) (a : Attachment) : Type 0 where
  pub place : place_of t a.number ≡ Some a
  pub wide : is_wide (session t a.conn.0 a.channel) ≡ true
  pub goes : goes_from t a n (delivery t n) ≡ true
  pub unsent : is_unsent_on a.number (delivery t n) ≡ true

-- a delivery goes on or starts, at its own link
goes_at : (t : Trace) (n : ℕ) (d : Delivery) → (is_going t n d || can_start t d) ≡ true → goes_from t d.link n (Some d) ≡ true
goes_at t n d e = either (is_going t n d) (can_start t d) (goes_from t d.link n (Some d) ≡ true) e
    (λ g. or_first (goes_on_from t d.link n (Some d)) _ (and_from (is_same d.link d.link) (is_going t n d) (is_itself d.link) g))
    (λ s. let x = and_parts (is_none d.id && d.going_on) (starts_from t d.link) s in
    or_second (goes_on_from t d.link n (Some d)) _
    (and_from (waits_at d.link (Some d)) (starts_from t d.link) (and_from (is_same d.link d.link) (is_none d.id && d.going_on) (is_itself d.link) x.0) x.1))

attached_at : (t : Trace) (n : ℕ) (d : Delivery) → (is_going t n d || can_start t d) ≡ true → (is_attached t d.link ≡ true) × (d.going_on ≡ true)
attached_at t n d e = either (is_going t n d) (can_start t d) ((is_attached t d.link ≡ true) × (d.going_on ≡ true)) e
    (λ g. let x = and_parts (is_some d.id && d.going_on) (goes_on_at (link_of t d.link) d.link.number (sending t d.link.conn.0 d.link.channel d.link.handle) n) g in
    (going_has (link_of t d.link) d.link.number (sending t d.link.conn.0 d.link.channel d.link.handle) n x.1, (and_parts (is_some d.id) d.going_on x.0).1))
    (λ s. let x = and_parts (is_none d.id && d.going_on) (starts_from t d.link) s in
    (taking_has (link_of t d.link) d.link.number (and_parts (takes_more (link_of t d.link) d.link.number) _ x.1).0, (and_parts (is_none d.id) d.going_on x.0).1))

ready_there : (t : Trace) (n : ℕ) (d : Delivery) → delivery t n ≡ Some d → can_go t n d ≡ true → IsReady t n d.link
ready_there t n d is e =
    let x = and_parts (is_there (numbered t d.link.number) d.link) (is_wide (session t d.link.conn.0 d.link.channel) && (is_going t n d || can_start t d)) e in
    let y = and_parts (is_wide (session t d.link.conn.0 d.link.channel)) (is_going t n d || can_start t d) x.1 in
    let w = attached_at t n d y.1 in
    record {
      place = stands_there t d.link.number d.link (there_is t d.link x.0) w.0;
      wide = y.0;
      goes = ap (goes_from t d.link n) is ∙ goes_at t n d y.1;
      unsent = ap (is_unsent_on d.link.number) is ∙ and_from (d.link.number == d.link.number) d.going_on (nat_same d.link.number) w.1;
    }

pub ready : (t : Trace) (n : ℕ) (a : Attachment) → places t n ≡ Some a → IsReady t n a
ready t n a e = by_delivery (delivery t n) refl e
  where
    moved : (b : Attachment) → Some b ≡ Some a → IsReady t n b → IsReady t n a
    moved b e x = subst (λ (v : Option Attachment). AreReady v) e x
      where
        AreReady : Option Attachment → Type 0
        AreReady None = Unit {0}
        AreReady (Some c) = IsReady t n c

    by_test : (d : Delivery) (b : Bool) → delivery t n ≡ Some d → can_go t n d ≡ b → (if b then Some d.link else None) ≡ Some a → IsReady t n a
    by_test d true is can e = moved d.link e (ready_there t n d is can)
    by_test d false is can e = absurd cc

    by_delivery : (v : Option Delivery) → delivery t n ≡ v → place_to_go t n v ≡ Some a → IsReady t n a
    by_delivery None is e = absurd cc
    by_delivery (Some d) is e = by_test d (can_go t n d) is refl e

-- it is unsent on its link
pub has_it : (t : Trace) (n : ℕ) (a : Attachment) → places t n ≡ Some a → has_unsent t a.number ≡ true
has_it t n a e = some_delivery t (is_unsent_on a.number) refl n (ready t n a e).unsent

pub below : (t : Trace) (n : ℕ) (a : Attachment) → places t n ≡ Some a → n < bindings t + 1
below t n a e = stands_below t (is_unsent_on a.number) refl n (ready t n a e).unsent

-- and a delivery that goes on or can start can be sent, if its link is attached and the window open
pub can_go_there : (t : Trace) (n : ℕ) (a : Attachment) → place_of t a.number ≡ Some a → is_wide (session t a.conn.0 a.channel) ≡ true
    → goes_from t a n (delivery t n) ≡ true → places t n ≡ Some a
can_go_there t n a place wide goes = by_delivery (delivery t n) goes
  where
    goes_now : (d : Delivery) → goes_from t d.link n (Some d) ≡ true → (is_going t n d || can_start t d) ≡ true
    goes_now d e = either (goes_on_from t d.link n (Some d)) (waits_at d.link (Some d) && starts_from t d.link) ((is_going t n d || can_start t d) ≡ true) e
        (λ g. or_first (is_going t n d) (can_start t d) (and_parts (is_same d.link d.link) (is_going t n d) g).1)
        (λ s. let x = and_parts (waits_at d.link (Some d)) (starts_from t d.link) s in
        or_second (is_going t n d) (can_start t d) (and_from (is_none d.id && d.going_on) (starts_from t d.link) (and_parts (is_same d.link d.link) (is_none d.id && d.going_on) x.0).1 x.1))

    here : (d : Delivery) → goes_from t a n (Some d) ≡ true → d.link ≡ a
    here d e = either (goes_on_from t a n (Some d)) (waits_at a (Some d) && starts_from t a) (d.link ≡ a) e
        (λ g. same_is d.link a (and_parts (is_same d.link a) (is_going t n d) g).0)
        (λ s. same_is d.link a (and_parts (is_same d.link a) (is_none d.id && d.going_on) (and_parts (waits_at a (Some d)) (starts_from t a) s).0).0)

    at_own : (d : Delivery) → place_of t d.link.number ≡ Some d.link → is_wide (session t d.link.conn.0 d.link.channel) ≡ true → goes_from t d.link n (Some d) ≡ true
        → place_to_go t n (Some d) ≡ Some d.link
    at_own d place wide e =
        ap (λ b. if b then Some d.link else None)
        (and_from (is_there (numbered t d.link.number) d.link) _ (is_there_at t d.link (place_is t d.link.number d.link place).0)
        (and_from (is_wide (session t d.link.conn.0 d.link.channel)) _ wide (goes_now d e)))

    by_delivery : (v : Option Delivery) → goes_from t a n v ≡ true → place_to_go t n v ≡ Some a
    by_delivery None e = absurd cc
    by_delivery (Some d) e =
        let is = here d e in
        subst (λ (b : Attachment). place_to_go t n (Some d) ≡ Some b) is
        (at_own d (subst (λ (b : Attachment). place_of t b.number ≡ Some b) (sym is) place)
        (subst (λ (b : Attachment). is_wide (session t b.conn.0 b.channel) ≡ true) (sym is) wide)
        (subst (λ (b : Attachment). goes_from t b n (Some d) ≡ true) (sym is) e))

-- The first delivery sent on a link is the one that goes first of all on it.
pub none_there : (t : Trace) (link : ℕ) → ((n : ℕ) (a : Attachment) → places t n ≡ Some a → a.number ≡ link → true ≡ false) → IsSoonestOn (rank_at t) (places t) link None
none_there t link none = record { stands = tt; first = none }

unplaced : (t : Trace) (link : ℕ) → place_of t link ≡ None → (n : ℕ) (a : Attachment) → places t n ≡ Some a → a.number ≡ link → true ≡ false
unplaced t link gone n a e is =
    let wrong : Some a ≡ None = sym (ready t n a e).place ∙ ap (place_of t) is ∙ gone in
    absurd cc

pub nowhere : (t : Trace) (link : ℕ) → place_of t link ≡ None → IsSoonestOn (rank_at t) (places t) link None
nowhere t link gone = none_there t link (unplaced t link gone)

-- all deliveries of a link have its place
placed_so : (t : Trace) (link : ℕ) (p : Attachment) → place_of t link ≡ Some p → (n : ℕ) (a : Attachment) → places t n ≡ Some a → a.number ≡ link → p ≡ a
placed_so t link p place n a e is = inside p a (sym place ∙ ap (place_of t) (sym is) ∙ (ready t n a e).place)
  where
    or_p : Attachment → Option Attachment → Attachment
    or_p p None = p
    or_p p (Some a) = a

    inside : (p a : Attachment) → Some p ≡ Some a → p ≡ a
    inside p a e = ap (or_p p) e

pub closed : (t : Trace) (link : ℕ) (p : Attachment) → place_of t link ≡ Some p → is_wide (session t p.conn.0 p.channel) ≡ false → IsSoonestOn (rank_at t) (places t) link None
closed t link p place narrow = none_there t link (λ n a e is.
    sym (subst (λ (b : Attachment). is_wide (session t b.conn.0 b.channel) ≡ true) (sym (placed_so t link p place n a e is)) (ready t n a e).wide) ∙ narrow)

pub nobody : (t : Trace) (link : ℕ) (p : Attachment) → place_of t link ≡ Some p → IsFirstBy (rank_at t) (λ n. goes_from t p n (delivery t n)) None → IsSoonestOn (rank_at t) (places t) link None
nobody t link p place none = none_there t link (λ n a e is.
    sym (subst (λ (b : Attachment). goes_from t b n (delivery t n) ≡ true) (sym (placed_so t link p place n a e is)) (ready t n a e).goes) ∙ none n)

pub somebody : (t : Trace) (link : ℕ) (p : Attachment) (k : ℕ) → place_of t link ≡ Some p → is_wide (session t p.conn.0 p.channel) ≡ true
    → IsFirstBy (rank_at t) (λ n. goes_from t p n (delivery t n)) (Some k) → (rank : Rank) → rank ≡ rank_at t k
    → IsSoonestOn (rank_at t) (places t) link (Some (record { number = k; place = p; rank = rank }))
somebody t link p k place wide first rank its = subst (λ (r : Rank). IsSoonestOn (rank_at t) (places t) link (Some (record { number = k; place = p; rank = r }))) (sym its) (record {
  stands = (can_go_there t k p (ap (place_of t) (place_is t link p place).1 ∙ place) wide first.0, refl);
  first = λ n a e is.
      let same = placed_so t link p place n a e is in
      subst (λ (b : Attachment). beats (rank_at t) n b (Some (candidate (rank_at t) k p)) ≡ false) same
      (not_sooner_here (rank_at t) n k p (first.1 n (subst (λ (b : Attachment). goes_from t b n (delivery t n) ≡ true) (sym same) (ready t n a e).goes)));
})

-- if none has begun, the first waiting one is sent, if one can start
and_true : (b : Bool) → (b && true) ≡ b
and_true true = refl
and_true false = refl

pub first_to_start : (t : Trace) (p : Attachment) (r : Option ℕ) → IsFirstBy (rank_at t) (λ n. goes_on_from t p n (delivery t n)) None → starts_from t p ≡ true
    → IsFirstBy (rank_at t) (λ n. waits_at p (delivery t n)) r → IsFirstBy (rank_at t) (λ n. goes_from t p n (delivery t n)) r
first_to_start t p r none can x = by_first r x
  where
    same : (n : ℕ) → goes_from t p n (delivery t n) ≡ waits_at p (delivery t n)
    same n =
        ap (λ b. b || (waits_at p (delivery t n) && starts_from t p)) (none n) ∙ ap (λ b. waits_at p (delivery t n) && b) can ∙ and_true (waits_at p (delivery t n))

    by_first : (r : Option ℕ) → IsFirstBy (rank_at t) (λ n. waits_at p (delivery t n)) r → IsFirstBy (rank_at t) (λ n. goes_from t p n (delivery t n)) r
    by_first None x = λ n. same n ∙ x n
    by_first (Some k) x = (same k ∙ x.0, λ m e. x.1 m (sym (same m) ∙ e))
