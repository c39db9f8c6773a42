-- The names of deliveries: what is there under a name is the last binding with it.
use Rattle.std.proofs.Common.{◌≡◌, ◌∙◌, ◌≤◌, ◌+◌, ℕ, Bool, true, false, refl, sym, ap, arith, List, [], ◌∷◌, length, Option, Some, None}
use Rattle.std.specs.Prelude.{◌==◌, ◌&&◌, if◌then◌else◌, is_none, not}
use Rattle.std.specs.Option.{option_and_then}
use Rattle.std.proofs.lemmas.Bool.{eqb-true, eq-eqb}
use Rattle.std.proofs.lemmas.Bool.Decides.{nat_tests}
use Rattle.amqp_model.specs.declared.perf.Disposition.{Disposition}
use Rattle.amqp_model.specs.declared.perf.Perf.{Perf}
use Rattle.amqp_model.specs.declared.perf.Perf.TheVariants as perf
use Rattle.amqp_model.specs.declared.perf.Role.{Role}
use Rattle.amqp_model.specs.declared.perf.Role.TheVariants.{Sender, Receiver}
use Rattle.amqp_model.specs.declared.item.Item.{Item}
use Rattle.amqp_model.specs.declared.item.Item.TheVariants as item
use Rattle.book_model.specs.declared.act.Act.{Act}
use Rattle.router_trace.specs.declared.binding.Binding.{Binding}
use Rattle.router_trace.specs.declared.binding.DeliveryName.{DeliveryName}
use Rattle.router_trace.specs.declared.binding.DeliveryName.TheVariants.{Row, Counter}
use Rattle.router_trace.specs.declared.binding.Holding.{Holding}
use Rattle.router_trace.specs.declared.binding.Rank.{Rank}
use Rattle.router_trace.specs.declared.event.Event.{Event}
use Rattle.router_trace.specs.declared.event.Event.TheVariants as event
use Rattle.router_trace.specs.declared.channel.PeerChannel.{PeerChannel}
use Rattle.router_trace.specs.declared.handle.Attachment.{Attachment}
use Rattle.router_trace.specs.Trace.{Trace, Did, Out, Took, Bound, Booked, Routed, Began}
use Rattle.router_trace.specs.Deliveries.{Delivery, called, source, delivery, bindings, bound, holds_standing, with_binding, same_name, name_in, number_named, unless_over, unless_called, is_over, untold, unsettled, ended, decided_at_end, suspended_at_end, closes, after_ends, is_gone_with, after_frame, put_in, after_put, told, decided, is_undecided, is_meant, is_named, is_number, carried, tag_in, disposed, is_on, is_settled_at, heard_in, heard, after_event, ended_by, lost_with, origin_id, sending, named, decision, terminal, sender, forsaken, channels_found, acts_found, rank_in}
use Rattle.state_deliveries.specs.declared.by_name.ByName.{ByName}
use Rattle.state_deliveries.specs.declared.change.Change.{Change}
use Rattle.state_deliveries.specs.declared.change.Change.TheVariants as change
use Rattle.state_deliveries.specs.Calling.{at_name, is_called, AreCalled, NumbersFit, Knows}
use Rattle.state_deliveries.specs.Stepping.{changed, is_gone, comes_with_id, is_decided_by}
use Rattle.state_deliveries.proofs.Joined.{was_joined}
use Rattle.state_deliveries.proofs.Low.{low_number, low_is}

-- equal names
pub same_back : (a b : DeliveryName) → same_name a b ≡ same_name b a
same_back (Row q) (Row r) = turned q.0 r.0
  where
    turned : (m n : ℕ) → (m == n) ≡ (n == m)
    turned m n = grind (arith, nat_tests)
same_back (Counter j) (Counter k) = turned j k
  where
    turned : (m n : ℕ) → (m == n) ≡ (n == m)
    turned m n = grind (arith, nat_tests)
same_back (Row q) (Counter k) = refl
same_back (Counter j) (Row r) = refl

pub same_itself : (a : DeliveryName) → same_name a a ≡ true
same_itself (Row q) = eq-eqb q.0 q.0 refl
same_itself (Counter j) = eq-eqb j j refl

pub same_is : (a b : DeliveryName) → same_name a b ≡ true → a ≡ b
same_is (Row q) (Row r) e = ap (λ (k : ℕ). Row (record { 0 = k })) (eqb-true q.0 r.0 e)
same_is (Counter j) (Counter k) e = ap Counter (eqb-true j k e)
same_is (Row q) (Counter k) e = absurd cc
same_is (Counter j) (Row r) e = absurd cc

-- what changes a delivery leaves its name
either : (b : Bool) (x y : Delivery) (name : DeliveryName) → x.name ≡ name → y.name ≡ name → (if b then x else y).name ≡ name
either true x y name e f = e
either false x y name e f = f

name_ended : (closed : Bool) (d : Delivery) → (ended closed d).name ≡ d.name
name_ended closed d =
    let other : (if d.lasting && not closed then suspended_at_end d else decided_at_end d).name ≡ d.name =
    either (d.lasting && not closed) (suspended_at_end d) (decided_at_end d) d.name refl refl in
    either d.suspended d (if d.lasting && not closed then suspended_at_end d else decided_at_end d) d.name refl other

pub name_ends : (closed : Bool) (gone : Attachment → Bool) (d : Delivery) → (after_ends closed gone d).name ≡ d.name
name_ends closed gone d =
    let on : (if gone d.link then ended closed d else d).name ≡ d.name = either (gone d.link) (ended closed d) d d.name (name_ended closed d) refl in
    either (is_gone_with gone (sender (if gone d.link then ended closed d else d))) (forsaken (if gone d.link then ended closed d else d)) (if gone d.link then ended closed d else d) d.name on on

name_told : (r : Role) (x : Disposition) (c o : ℕ) (d : Delivery) → (told r x c o d).name ≡ d.name
name_told Receiver x c o d =
    either (is_meant x (origin_id (source d) c o)) (if x.settled then untold d else unsettled d) d d.name (either x.settled (untold d) (unsettled d) d.name refl refl) refl
name_told Sender x c o d = refl

name_put_in : (numbers : DeliveryName → Option ℕ) (body : Perf) (c own n : ℕ) (sent : ℕ → ℕ → Option ℕ) (count : ℕ) (d : Delivery) → (put_in numbers body c own n sent count d).name ≡ d.name
name_put_in numbers (perf.Transfer x) c own n sent count d =
    either (is_number (carried numbers (tag_in x) (sent own x.handle)) n) (after_frame x count d) d d.name refl refl
name_put_in numbers (perf.Disposition x) c own n sent count d = name_told x.role x c own d
name_put_in numbers _ c own n sent count d = refl

pub name_put : (numbers : DeliveryName → Option ℕ) (i : Item) (c n : ℕ) (sent : ℕ → ℕ → Option ℕ) (d : Delivery) → (after_put numbers i c n sent d).name ≡ d.name
name_put numbers (item.Frame sasl own body payload) c n sent d =
    name_ends (closes body) (ended_by (item.Frame sasl own body payload) c) (put_in numbers body c own n sent (length payload) d) ∙ name_put_in numbers body c own n sent (length payload) d
name_put numbers _ c n sent d = refl

name_decided : (x : Disposition) (names : ℕ → Option ℕ) (n : ℕ) (d : Delivery) → (decided x names n d).name ≡ d.name
name_decided x names n d =
    either (is_undecided d && is_meant x d.id && is_named d.id names n) (record d { outcome = decision x.settled (terminal x.state) }) d d.name refl refl

name_disposed : (r : Role) (x : Disposition) (c : ℕ) (v : Option PeerChannel) (names : ℕ → Option ℕ) (n : ℕ) (d : Delivery) → (disposed r x c v names n d).name ≡ d.name
name_disposed Receiver x c v names n d = either (is_on d.link c v) (decided x names n d) d d.name (name_decided x names n d) refl
name_disposed Sender x c v names n d = either (is_settled_at x c v (source d)) (untold d) d d.name refl refl

name_heard_in : (body : Perf) (c : ℕ) (v : Option PeerChannel) (names : ℕ → ℕ → Option ℕ) (acts : List Act) (n : ℕ) (d : Delivery) → (heard_in body c v names acts n d).name ≡ d.name
name_heard_in (perf.Disposition x) c v names acts n d = name_disposed x.role x c v (names d.link.channel) n d
name_heard_in (perf.Attach x) c v names acts n d = refl
name_heard_in _ c v names acts n d = refl

name_heard : (i : Item) (c : ℕ) (known : ℕ → Option PeerChannel) (names : ℕ → ℕ → Option ℕ) (acts : List Act) (n : ℕ) (d : Delivery) → (heard i c known names acts n d).name ≡ d.name
name_heard (item.Frame sasl channel body payload) c known names acts n d =
    either sasl d (heard_in body c (known channel) names acts n d) d.name refl (name_heard_in body c (known channel) names acts n d)
name_heard _ c known names acts n d = refl

pub name_event : (x : Event) (known : ℕ → ℕ → Option PeerChannel) (names : ℕ → ℕ → ℕ → Option ℕ) (acts : List Act) (n : ℕ) (d : Delivery) → (after_event x known names acts n d).name ≡ d.name
name_event (event.Item c i) known names acts n d = name_heard i c.0 (known c.0) (names c.0) acts n d
name_event (event.Down c) known names acts n d = name_ends false (lost_with c.0) d
name_event _ known names acts n d = refl

pub name_changed : (x : Change) (d : Delivery) → (changed x d).name ≡ d.name
name_changed (change.Ends g closed) d = name_ends closed (is_gone g) d
name_changed (change.Untold c o first last) d = either (comes_with_id (source d) c o first last) (untold d) d d.name refl refl
name_changed (change.Told c o first last) d = either (comes_with_id (source d) c o first last) (unsettled d) d d.name refl refl
name_changed (change.Decided c o first last made) d = either (is_decided_by d c o first last) (record d { outcome = Some made }) d d.name refl refl

-- a delivery after a change was there before
pub record WasThere (f : Delivery → Delivery) (v : Option Delivery) (d : Delivery) : Type 0 where
  pub before : Delivery
  pub there : v ≡ Some before
  pub is : d ≡ f before

pub was_there : (f : Delivery → Delivery) (v : Option Delivery) (d : Delivery) → option_and_then (λ e. unless_over (f e)) v ≡ Some d → WasThere f v d
was_there f None d e = absurd cc
was_there f (Some before) d e = by_test (is_over (f before)) refl
  where
    inside : (x y : Delivery) → Some x ≡ Some y → y ≡ x
    inside x y g = ap (λ (v : Option Delivery). of v x) (sym g)
      where
        of : Option Delivery → Delivery → Delivery
        of None other = other
        of (Some z) other = z

    by_test : (b : Bool) → is_over (f before) ≡ b → WasThere f (Some before) d
    by_test true g = let wrong : None ≡ Some d = sym (ap (λ b. if b then None else Some (f before)) g) ∙ e in absurd cc
    by_test false g = record { before = before; there = refl; is = inside (f before) d (sym (ap (λ b. if b then None else Some (f before)) g) ∙ e) }

-- ... and one that isn't called by a name that is given again
pub uncalled : (name : DeliveryName) (v : Option Delivery) (d : Delivery) → unless_called name v ≡ Some d → (v ≡ Some d) × (same_name d.name name ≡ false)
uncalled name None d e = absurd cc
uncalled name (Some x) d e = by_test (same_name x.name name) refl
  where
    by_test : (b : Bool) → same_name x.name name ≡ b → (Some x ≡ Some d) × (same_name d.name name ≡ false)
    by_test true g = let wrong : None ≡ Some d = sym (ap (λ b. if b then None else Some x) g) ∙ e in absurd cc
    by_test false g =
        let is : Some x ≡ Some d = sym (ap (λ b. if b then None else Some x) g) ∙ e in
        (is, sym (ap (λ (v : Option Delivery). is_called name v) is) ∙ g)

-- a delivery that is there is that of the last binding with its name
pub there_named : (t : Trace) (n : ℕ) (d : Delivery) → delivery t n ≡ Some d → number_named t d.name ≡ Some n
there_named [] n d e = absurd cc
there_named (Did s ∷ t) n d e =
    let w = was_there (after_event s.event (channels_found t) (named t) (acts_found t) n) (delivery t n) d e in
    ap (number_named t) (ap (λ (x : Delivery). x.name) w.is ∙ name_event s.event (channels_found t) (named t) (acts_found t) n w.before) ∙ there_named t n w.before w.there
there_named (Out c i ∷ t) n d e =
    let w = was_there (after_put (number_named t) i c n (sending t c)) (delivery t n) d e in
    ap (number_named t) (ap (λ (x : Delivery). x.name) w.is ∙ name_put (number_named t) i c n (sending t c) w.before) ∙ there_named t n w.before w.there
there_named (Took c k ∷ t) n d e = there_named t n d e
there_named (Booked acts full ∷ t) n d e = there_named t n d e
there_named (Routed passage ∷ t) n d e = there_named t n d e
there_named (Began g ∷ t) n d e = absurd cc
there_named (Bound b ∷ t) n d e = by_kind (holds_standing b.kind) e (there_named t n)
  where
    newest : DeliveryName
    newest = name_in t b

    of : Option Delivery → DeliveryName
    of None = newest
    of (Some x) = x.name

    by_test : (q : Bool) → (bindings t + 1 == n) ≡ q → (if bindings t + 1 == n then Some (bound newest (rank_in t b) b) else unless_called newest (delivery t n)) ≡ Some d
        → (delivery t n ≡ Some d → number_named t d.name ≡ Some n) → (if same_name newest d.name then Some (bindings t + 1) else number_named t d.name) ≡ Some n
    by_test true q f rest =
        let there : Some (bound newest (rank_in t b) b) ≡ Some d = sym (ap (λ (x : Bool). if x then Some (bound newest (rank_in t b) b) else unless_called newest (delivery t n)) q) ∙ f in
        let name : newest ≡ d.name = ap of there in
        ap (λ x. if same_name newest x then Some (bindings t + 1) else number_named t x) (sym name)
        ∙ ap (λ x. if x then Some (bindings t + 1) else number_named t newest) (same_itself newest)
        ∙ ap Some (eqb-true (bindings t + 1) n q)
    by_test false q f rest =
        let old = uncalled newest (delivery t n) d (sym (ap (λ (x : Bool). if x then Some (bound newest (rank_in t b) b) else unless_called newest (delivery t n)) q) ∙ f) in
        ap (λ x. if x then Some (bindings t + 1) else number_named t d.name) (same_back newest d.name ∙ old.1) ∙ rest old.0

    by_kind : (j : Option Holding) → with_binding j newest (rank_in t b) b (bindings t + 1 == n) (delivery t n) ≡ Some d
        → ((x : Delivery) → delivery t n ≡ Some x → number_named t x.name ≡ Some n)
        → (if is_none j && same_name newest d.name then Some (bindings t + 1) else number_named t d.name) ≡ Some n
    by_kind None f rest = by_test (bindings t + 1 == n) refl f (rest d)
    by_kind (Some q) f rest = let was = was_joined newest q (delivery t n) d f in ap (number_named t) was.2 ∙ rest was.0 was.1

-- no binding has two names
abbrev number_of : Option ℕ → ℕ
number_of None = 0
number_of (Some n) = n

pub one_name : (t : Trace) (a b : DeliveryName) (n : ℕ) → number_named t a ≡ Some n → number_named t b ≡ Some n → a ≡ b
one_name [] a b n e f = absurd cc
one_name (Did s ∷ t) a b n e f = one_name t a b n e f
one_name (Out c i ∷ t) a b n e f = one_name t a b n e f
one_name (Took c k ∷ t) a b n e f = one_name t a b n e f
one_name (Booked acts full ∷ t) a b n e f = one_name t a b n e f
one_name (Routed passage ∷ t) a b n e f = one_name t a b n e f
one_name (Began g ∷ t) a b n e f = absurd cc
one_name (Bound x ∷ t) a b n e f = by_kind (is_none (holds_standing x.kind)) e f (one_name t a b n)
  where
    high : (k n : ℕ) → Some (k + 1) ≡ Some n → n ≤ k → ⊥
    high k n is low = let same : k + 1 ≡ n = ap number_of is in omega (arith, same, low)

    by_tests : (p q : Bool) → same_name (name_in t x) a ≡ p → same_name (name_in t x) b ≡ q
        → (if p then Some (bindings t + 1) else number_named t a) ≡ Some n → (if q then Some (bindings t + 1) else number_named t b) ≡ Some n
        → (number_named t a ≡ Some n → number_named t b ≡ Some n → a ≡ b) → a ≡ b
    by_tests true true g h e f rest = sym (same_is (name_in t x) a g) ∙ same_is (name_in t x) b h
    by_tests true false g h e f rest = absurd (high (bindings t) n e (low_is (bindings t) n (number_named t b) (low_number t b) f))
    by_tests false true g h e f rest = absurd (high (bindings t) n f (low_is (bindings t) n (number_named t a) (low_number t a) e))
    by_tests false false g h e f rest = rest e f

    by_kind : (new : Bool) → (if new && same_name (name_in t x) a then Some (bindings t + 1) else number_named t a) ≡ Some n
        → (if new && same_name (name_in t x) b then Some (bindings t + 1) else number_named t b) ≡ Some n
        → (number_named t a ≡ Some n → number_named t b ≡ Some n → a ≡ b) → a ≡ b
    by_kind true e f rest = by_tests (same_name (name_in t x) a) (same_name (name_in t x) b) refl refl e f rest
    by_kind false e f rest = rest e f

-- so a table with each delivery under its name has the numbers of the trace
number_there : (name : DeliveryName) (v : Option Delivery) → is_called name v ≡ true → (d : Delivery) × (v ≡ Some d) × (d.name ≡ name)
number_there name None e = absurd cc
number_there name (Some d) e = (d, refl, same_is d.name name e)

pub numbers_fit : (s : ByName) (t : Trace) → AreCalled s (delivery t) → NumbersFit s t
numbers_fit s t called name = by_number (at_name s name) refl
  where
    by_trace : (v : Option ℕ) → number_named t name ≡ v → at_name s name ≡ None → Knows (delivery t) None v
    by_trace None e none = tt
    by_trace (Some n) e none = gone (delivery t n) refl
      where
        gone : (v : Option Delivery) → delivery t n ≡ v → v ≡ None
        gone None f = refl
        gone (Some d) f =
            let same : d.name ≡ name = one_name t d.name name n (there_named t n d f) e in
            let wrong : false ≡ true = ap (λ v. is_number v n) (sym none) ∙ called name n ∙ ap (is_called name) f ∙ ap (λ x. same_name x name) same ∙ same_itself name in
            absurd cc

    by_number : (v : Option ℕ) → at_name s name ≡ v → Knows (delivery t) v (number_named t name)
    by_number None e = by_trace (number_named t name) refl e
    by_number (Some n) e =
        let d = number_there name (delivery t n) (sym (called name n) ∙ ap (λ v. is_number v n) e ∙ eq-eqb n n refl) in
        ap (number_named t) (sym d.2) ∙ there_named t n d.0 d.1

-- how a table of names follows the deliveries
pub called_same : (s : ByName) (f g : ℕ → Option Delivery) → ((n : ℕ) → f n ≡ g n) → AreCalled s f → AreCalled s g
called_same s f g same called = λ name n. called name n ∙ ap (is_called name) (same n)

-- the delivery that has a name now
pub called_fits : (s : ByName) (known : ℕ → Option Delivery) (t : Trace) (name : DeliveryName) → ((n : ℕ) → known n ≡ delivery t n) → AreCalled s known
    → option_and_then known (at_name s name) ≡ called t name
called_fits s known t name same names = by (at_name s name) (number_named t name) (numbers_fit s t (called_same s known (delivery t) same names) name)
  where
    by : (v w : Option ℕ) → Knows (delivery t) v w → option_and_then known v ≡ option_and_then (delivery t) w
    by (Some n) w is = same n ∙ sym (ap (option_and_then (delivery t)) is)
    by None None gone = refl
    by None (Some n) gone = sym gone

-- a delivery was changed in its place, under the same name, and removed if it is over
pub called_at : (s next : ByName) (m : ℕ) (d e : Delivery) (old new : ℕ → Option Delivery) → e.name ≡ d.name → old m ≡ Some d
    → ((n : ℕ) → new n ≡ (if m == n then unless_over e else old n))
    → ((name : DeliveryName) → at_name next name ≡ (if is_over e && same_name e.name name then None else at_name s name))
    → AreCalled s old → AreCalled next new
called_at s next m d e old new same was back is called = λ name n.
    ap (λ v. is_number v n) (is name) ∙ by_tests name n (m == n) (is_over e) refl refl (same_name d.name name) refl ∙ ap (is_called name) (sym (back n))
  where
    by_tests : (name : DeliveryName) (n : ℕ) (here over : Bool) → (m == n) ≡ here → is_over e ≡ over → (q : Bool) → same_name d.name name ≡ q
        → is_number (if is_over e && same_name e.name name then None else at_name s name) n ≡ is_called name (if m == n then unless_over e else old n)
    by_tests name n here over g h q f =
        ap (λ x. is_number (if x && same_name e.name name then None else at_name s name) n) h
        ∙ ap (λ x. is_number (if over && same_name x name then None else at_name s name) n) same
        ∙ ap (λ x. is_number (if over && x then None else at_name s name) n) f
        ∙ cases here over q g h f
        ∙ sym (ap (λ x. is_called name (if x then unless_over e else old n)) g)
      where
        stood : (q : Bool) → same_name d.name name ≡ q → m ≡ n → is_number (at_name s name) n ≡ q
        stood q f i = called name n ∙ ap (λ k. is_called name (old k)) (sym i) ∙ ap (is_called name) was ∙ f

        not_here : (m == n) ≡ false → same_name d.name name ≡ true → is_number (at_name s name) n ≡ false
        not_here g f = by (at_name s name) (called name m ∙ ap (is_called name) was ∙ f)
          where
            by : (v : Option ℕ) → is_number v m ≡ true → is_number v n ≡ false
            by None e = absurd cc
            by (Some k) e = ap (λ j. j == n) (eqb-true k m e) ∙ g

        kept : (over : Bool) → is_over e ≡ over → is_called name (unless_over e) ≡ (if over then false else same_name d.name name)
        kept over h = ap (λ b. is_called name (if b then None else Some e)) h ∙ by over
          where
            by : (over : Bool) → is_called name (if over then None else Some e) ≡ (if over then false else same_name d.name name)
            by true = refl
            by false = ap (λ x. same_name x name) same

        cases : (here over q : Bool) → (m == n) ≡ here → is_over e ≡ over → same_name d.name name ≡ q
            → is_number (if over && q then None else at_name s name) n ≡ is_called name (if here then unless_over e else old n)
        cases true true true g h f = sym (kept true h)
        cases true true false g h f = stood false f (eqb-true m n g) ∙ sym (kept true h)
        cases true false q g h f = stood q f (eqb-true m n g) ∙ sym (kept false h ∙ f)
        cases false true true g h f = sym (sym (called name n) ∙ not_here g f)
        cases false true false g h f = called name n
        cases false false q g h f = called name n

-- a delivery was removed
pub called_out : (s next : ByName) (m : ℕ) (d : Delivery) (old new : ℕ → Option Delivery) → old m ≡ Some d
    → ((n : ℕ) → new n ≡ (if m == n then None else old n)) → ((name : DeliveryName) → at_name next name ≡ (if same_name d.name name then None else at_name s name))
    → AreCalled s old → AreCalled next new
called_out s next m d old new was out is called = λ name n.
    ap (λ v. is_number v n) (is name) ∙ by_tests name n (m == n) (same_name d.name name) refl refl ∙ ap (is_called name) (sym (out n))
  where
    not_here : (name : DeliveryName) (n : ℕ) → (m == n) ≡ false → same_name d.name name ≡ true → is_number (at_name s name) n ≡ false
    not_here name n g f = by (at_name s name) (called name m ∙ ap (is_called name) was ∙ f)
      where
        by : (v : Option ℕ) → is_number v m ≡ true → is_number v n ≡ false
        by None e = absurd cc
        by (Some k) e = ap (λ j. j == n) (eqb-true k m e) ∙ g

    cases : (name : DeliveryName) (n : ℕ) (here q : Bool) → (m == n) ≡ here → same_name d.name name ≡ q
        → is_number (if q then None else at_name s name) n ≡ is_called name (if here then None else old n)
    cases name n true true g f = refl
    cases name n true false g f = called name n ∙ ap (λ k. is_called name (old k)) (sym (eqb-true m n g)) ∙ ap (is_called name) was ∙ f
    cases name n false true g f = sym (sym (called name n) ∙ not_here name n g f)
    cases name n false false g f = called name n

    by_tests : (name : DeliveryName) (n : ℕ) (here q : Bool) → (m == n) ≡ here → same_name d.name name ≡ q
        → is_number (if same_name d.name name then None else at_name s name) n ≡ is_called name (if m == n then None else old n)
    by_tests name n here q g f =
        ap (λ b. is_number (if b then None else at_name s name) n) f ∙ cases name n here q g f ∙ sym (ap (λ b. is_called name (if b then None else old n)) g)

pub unless_is : (name : DeliveryName) (b : Bool) (v : Option Delivery) → b ≡ is_called name v → (if b then None else v) ≡ unless_called name v
unless_is name true None e = refl
unless_is name false None e = refl
unless_is name b (Some d) e = ap (λ x. if x then None else Some d) e

pub none_called : (name : DeliveryName) (v : Option Delivery) → is_called name (unless_called name v) ≡ false
none_called name None = refl
none_called name (Some d) = by_test (same_name d.name name) refl
  where
    by_test : (b : Bool) → same_name d.name name ≡ b → is_called name (if b then None else Some d) ≡ false
    by_test true e = refl
    by_test false e = e

-- a delivery was added, under a name that no other has
pub called_more : (s next : ByName) (m : ℕ) (newest : DeliveryName) (rank : Rank) (b : Binding) (old new : ℕ → Option Delivery) → old m ≡ None → ((n : ℕ) → is_called newest (old n) ≡ false)
    → ((n : ℕ) → new n ≡ (if m == n then Some (bound newest rank b) else old n))
    → ((name : DeliveryName) → at_name next name ≡ (if same_name newest name then Some m else at_name s name))
    → AreCalled s old → AreCalled next new
called_more s next m newest rank b old new none alone back is called = λ name n.
    ap (λ v. is_number v n) (is name) ∙ by_tests name n (m == n) (same_name newest name) refl refl ∙ ap (is_called name) (sym (back n))
  where
    cases : (name : DeliveryName) (n : ℕ) (here q : Bool) → (m == n) ≡ here → same_name newest name ≡ q
        → is_number (if q then Some m else at_name s name) n ≡ is_called name (if here then Some (bound newest rank b) else old n)
    cases name n true true g f = g ∙ sym f
    cases name n true false g f = called name n ∙ ap (λ k. is_called name (old k)) (sym (eqb-true m n g)) ∙ ap (is_called name) none ∙ sym f
    cases name n false true g f = g ∙ sym (alone n) ∙ ap (λ x. is_called x (old n)) (same_is newest name f)
    cases name n false false g f = called name n

    by_tests : (name : DeliveryName) (n : ℕ) (here q : Bool) → (m == n) ≡ here → same_name newest name ≡ q
        → is_number (if same_name newest name then Some m else at_name s name) n ≡ is_called name (if m == n then Some (bound newest rank b) else old n)
    by_tests name n here q g f =
        ap (λ x. is_number (if x then Some m else at_name s name) n) f ∙ cases name n here q g f ∙ sym (ap (λ x. is_called name (if x then Some (bound newest rank b) else old n)) g)
