-- How changes move a delivery in the indexes.
use Rattle.std.proofs.Common.{◌≡◌, ◌∙◌, ◌||◌, ℕ, Bool, true, false, refl, sym, ap, subst, Option, None, Some}
use Rattle.std.specs.Prelude.{◌==◌, ◌&&◌, not, if◌then◌else◌, is_none, is_some}
use Rattle.std.proofs.lemmas.Bool.{eqb-true}
use Rattle.amqp_model.specs.declared.perf.Transfer.{Transfer}
use Rattle.amqp_model.specs.declared.state.DeliveryState.{DeliveryState}
use Rattle.amqp_model.specs.declared.state.DeliveryState.TheVariants as state
use Rattle.router_trace.specs.declared.binding.Holding.{Holding}
use Rattle.router_trace.specs.declared.binding.Holding.TheVariants as holding
use Rattle.router_trace.specs.declared.binding.Origin.{Origin}
use Rattle.router_trace.specs.declared.handle.Attachment.{Attachment}
use Rattle.router_trace.specs.Deliveries.{Delivery, after_ends, after_frame, decided_at_end, either_origin, ended, forsaken, has_row, held_by, holder, is_gone_with, is_over, sender, source, suspended_at_end, unforgotten, unless_over, unsettled, untold}
use Rattle.state_deliveries.specs.declared.change.Change.{Change}
use Rattle.state_deliveries.specs.declared.change.Change.TheVariants as change
use Rattle.state_deliveries.specs.declared.index.Index.{Index}
use Rattle.state_deliveries.specs.declared.standing.AtConsumer.{AtConsumer}
use Rattle.state_deliveries.specs.declared.standing.AtProducer.{AtProducer}
use Rattle.state_deliveries.specs.declared.touched.Touched.{Touched}
use Rattle.state_deliveries.specs.Giving.{with_outcome}
use Rattle.state_deliveries.specs.Indexing.{Begins, Indexes, Keys, ProducerBegins, at_consumer, at_producer, consumer_if, consumer_keys, followed, from_link, is_decided_with, keys, moves_consumer, no_consumer, no_producer, producer_after, producer_if, producer_of, seat_of, standing, stepped, turn_on}
use Rattle.state_deliveries.specs.Placing.{from_spot, id_spot}
use Rattle.state_deliveries.specs.Stepping.{changed, comes_with_id, is_decided_by, is_gone}
use Rattle.state_deliveries.specs.Touching.{StandsSame, is_touched_in}
use Rattle.state_deliveries.proofs.Called.{name_changed}
use Rattle.state_deliveries.proofs.Joined.{held_name}
use Rattle.state_deliveries.proofs.Reindexed.{indexes_same}

-- a delivery that is over has no entries at its consumer's link
abbrev stands : Delivery → Bool → Option DeliveryState → Bool → AtConsumer
stands d r o s = record {
  waits = is_none d.id && r;
  goes_on = r;
  undecided = is_none o && not s;
  durable = if (is_none o && not (d.presettled || s)) && has_row d.name then d.id else None;
}

and_false : (b : Bool) → (b && false) ≡ false
and_false true = refl
and_false false = refl

or_true : (b : Bool) → (b || true) ≡ true
or_true true = refl
or_true false = refl

over_stands : (d : Delivery) → is_over d ≡ true → at_consumer d ≡ no_consumer
over_stands d over = by_rest d.going_on d.outcome d.suspended over
  where
    decided : (o : DeliveryState) (s : Bool) → stands d false (Some o) s ≡ no_consumer
    decided o s = ap (λ w. record { waits = w; goes_on = false; undecided = false; durable = None }) (and_false (is_none d.id))

    suspended : stands d false None true ≡ no_consumer
    suspended = ap (λ w. record { waits = w; goes_on = false; undecided = false; durable = (if not (d.presettled || true) && has_row d.name then d.id else None) }) (and_false (is_none d.id))
        ∙ ap (λ b. record { waits = false; goes_on = false; undecided = false; durable = (if not b && has_row d.name then d.id else None) }) (or_true d.presettled)

    by_rest : (r : Bool) (o : Option DeliveryState) (s : Bool) → (not r && ((is_some o || s) && is_none (holder d))) ≡ true → stands d r o s ≡ no_consumer
    by_rest true o s e = absurd cc
    by_rest false (Some o) s e = decided o s
    by_rest false None true e = suspended
    by_rest false None false e = absurd cc

-- its entries now, by its seat and its standing
kept : (d : Delivery) (b : Bool) → is_over d ≡ b → record { consumer = consumer_keys (seat_of d) (at_consumer d); producer = producer_of (if b then None else Some d) } ≡ standing (if b then None else Some d)
kept d true over = ap (λ s. record { consumer = consumer_keys (seat_of d) s; producer = no_producer }) (over_stands d over)
kept d false over = refl

-- what is known of a delivery before a change that may move it
abbrev pub Notes : Type 0
Notes = (Delivery → Option AtConsumer) × (Delivery → Option AtProducer)

-- and this says how the change moves it
pub record Moves (f : Delivery → Delivery) (g : Notes) : Type 0 where
  pub named : (d : Delivery) → (f d).name ≡ d.name
  pub begins : (d : Delivery) → Begins (g.0 d) (g.1 d) (f d) (keys d)
  pub ends : (d : Delivery) → followed (g.0 d) (g.1 d) (f d) (keys d) ≡ standing (unless_over (f d))

begun : (f : Delivery → Delivery) (g : Notes) (d e : Delivery) (c : Option AtConsumer) (p : Option AtProducer) (k : Keys) → Moves f g → e ≡ f d → c ≡ g.0 d → p ≡ g.1 d → k ≡ keys d
    → Begins c p e k
begun f g d e c p k moves is at by there =
    subst (λ (q : Keys). Begins c p e q) (sym there)
    (subst (λ (b : Option AtProducer). Begins c b e (keys d)) (sym by)
    (subst (λ (a : Option AtConsumer). Begins a (g.1 d) e (keys d)) (sym at)
    (subst (λ (w : Delivery). Begins (g.0 d) (g.1 d) w (keys d)) (sym is) (moves.begins d))))

-- so its entries follow
pub followed_there : (f : Delivery → Delivery) (g : Notes) (s t : Index) (m : ℕ) (known : ℕ → Keys) (v : Option Delivery) (d e : Delivery) (c : Option AtConsumer) (p : Option AtProducer)
    → Moves f g → v ≡ Some d → e ≡ f d → c ≡ g.0 d → p ≡ g.1 d
    → ((known : ℕ → Keys) → Begins c p e (known m) → Indexes s known → Indexes t (λ n. if m == n then followed c p e (known m) else known n))
    → known m ≡ standing v → Indexes s known → Indexes t (λ n. if m == n then standing (stepped f v) else known n)
followed_there f g s t m known v d e c p moves was is at by follows stood x =
    let there : known m ≡ keys d = stood ∙ ap standing was in
    subst (λ (k : Keys). Indexes t (λ n. if m == n then k else known n))
    ((λ i. followed (at i) (by i) (is i) (there i)) ∙ moves.ends d ∙ sym (ap (λ w. standing (stepped f w)) was))
    (follows known (begun f g d e c p (known m) moves is at by there) x)

pub touched_there : (f : Delivery → Delivery) (g : Notes) (old new : Touched) (v : Option Delivery) (d e : Delivery) (c : Option AtConsumer) (p : Option AtProducer)
    → Moves f g → v ≡ Some d → e ≡ f d → c ≡ g.0 d → p ≡ g.1 d
    → ((q : Keys) (k : ℕ) → Begins c p e q → is_touched_in new k ≡ false → (is_touched_in old k ≡ false) × StandsSame k q (followed c p e q))
    → (k : ℕ) → is_touched_in new k ≡ false → (is_touched_in old k ≡ false) × StandsSame k (standing v) (standing (stepped f v))
touched_there f g old new v d e c p moves was is at by noted k h =
    let there : standing v ≡ keys d = ap standing was in
    let one = noted (standing v) k (begun f g d e c p (standing v) moves is at by there) h in (
      one.0,
      subst (λ (q : Keys). StandsSame k (standing v) q)
          ((λ i. followed (at i) (by i) (is i) (there i)) ∙ moves.ends d ∙ sym (ap (λ w. standing (stepped f w)) was)) one.1,
    )

-- and nothing moves where there is none
pub followed_nowhere : (f : Delivery → Delivery) (s : Index) (m : ℕ) (known : ℕ → Keys) (v : Option Delivery) → v ≡ None
    → known m ≡ standing v → Indexes s known → Indexes s (λ n. if m == n then standing (stepped f v) else known n)
followed_nowhere f s m known v none stood x = indexes_same s known (λ n. if m == n then standing (stepped f v) else known n) (λ n. by_test n (m == n) refl) x
  where
    by_test : (n : ℕ) (b : Bool) → (m == n) ≡ b → known n ≡ (if b then standing (stepped f v) else known n)
    by_test n true e = ap known (sym (eqb-true m n e)) ∙ stood ∙ ap standing none ∙ sym (ap (λ w. standing (stepped f w)) none)
    by_test n false e = refl

pub touched_nowhere : (f : Delivery → Delivery) (k : ℕ) (v : Option Delivery) → v ≡ None → StandsSame k (standing v) (standing (stepped f v))
touched_nowhere f k v none =
    subst (λ (w : Option Delivery). StandsSame k (standing w) (standing (stepped f w))) (sym none) (record { consumer = record { waiting = refl; undecided = refl }; held = refl })

-- a change after which nothing else is known moves both
abbrev pub Stays : (Delivery → Delivery) → Type 0
Stays f = (d : Delivery) → seat_of (f d) ≡ seat_of d

abbrev pub both_noted : Notes
both_noted = (λ d. Some (at_consumer d), λ d. Some (at_producer d))

pub both_move : (f : Delivery → Delivery) → ((d : Delivery) → (f d).name ≡ d.name) → Stays f → Moves f both_noted
both_move f named seats = record {
  named = named;
  begins = λ d. (ap (λ p. consumer_keys p (at_consumer d)) (sym (seats d)), refl);
  ends = λ d. kept (f d) (is_over (f d)) refl;
}

-- one that leaves a delivery's standing as it is moves it only by its producer
pub by_producer_alone : (f : Delivery → Delivery) → ((d : Delivery) → (f d).name ≡ d.name) → Stays f → ((d : Delivery) → at_consumer (f d) ≡ at_consumer d)
    → Moves f (λ d. None, λ d. Some (at_producer d))
by_producer_alone f named seats same = record {
  named = named;
  begins = λ d. (tt, refl);
  ends = λ d.
      ap (λ p. record { consumer = consumer_keys p (at_consumer d); producer = producer_of (unless_over (f d)) }) (sym (seats d))
      ∙ ap (λ s. record { consumer = consumer_keys (seat_of (f d)) s; producer = producer_of (unless_over (f d)) }) (sym (same d))
      ∙ kept (f d) (is_over (f d)) refl;
}

-- the seat stays
either : {A : Type 0} (g : Delivery → A) (b : Bool) (x d : Delivery) → g x ≡ g d → (g (if b then x else d)) ≡ g d
either g true x d e = e
either g false x d e = refl

seat_ended : (closed : Bool) (d : Delivery) → seat_of (ended closed d) ≡ seat_of d
seat_ended closed d = by d.suspended (d.lasting && not closed)
  where
    by : (s l : Bool) → seat_of (if s then d else (if l then suspended_at_end d else decided_at_end d)) ≡ seat_of d
    by true l = refl
    by false true = refl
    by false false = refl

seat_ends : (closed : Bool) (gone : Attachment → Bool) (d : Delivery) → seat_of (after_ends closed gone d) ≡ seat_of d
seat_ends closed gone d =
    let e = if gone d.link then ended closed d else d in
    either seat_of (is_gone_with gone (sender e)) (forsaken e) e refl ∙ either seat_of (gone d.link) (ended closed d) d (seat_ended closed d)

seat_changed : (x : Change) → Stays (changed x)
seat_changed (change.Ends g closed) d = seat_ends closed (is_gone g) d
seat_changed (change.Untold c o first last) d = either seat_of (comes_with_id (source d) c o first last) (untold d) d refl
seat_changed (change.Told c o first last) d = either seat_of (comes_with_id (source d) c o first last) (unsettled d) d refl
seat_changed (change.Decided c o first last made) d = either seat_of (is_decided_by d c o first last) (record d { outcome = Some made }) d refl

abbrev pub change_noted : Change → Notes
change_noted x = (λ d. consumer_if (moves_consumer x) d, λ d. Some (at_producer d))

pub change_moves : (x : Change) → Moves (changed x) (change_noted x)
change_moves (change.Ends g closed) = both_move (changed (change.Ends g closed)) (name_changed (change.Ends g closed)) (seat_changed (change.Ends g closed))
change_moves (change.Decided c o first last made) =
    both_move (changed (change.Decided c o first last made)) (name_changed (change.Decided c o first last made)) (seat_changed (change.Decided c o first last made))
change_moves (change.Untold c o first last) =
    by_producer_alone (changed (change.Untold c o first last)) (name_changed (change.Untold c o first last)) (seat_changed (change.Untold c o first last))
    (λ d. either at_consumer (comes_with_id (source d) c o first last) (untold d) d refl)
change_moves (change.Told c o first last) =
    by_producer_alone (changed (change.Told c o first last)) (name_changed (change.Told c o first last)) (seat_changed (change.Told c o first last))
    (λ d. either at_consumer (comes_with_id (source d) c o first last) (unsettled d) d refl)

pub give_moves : (outcome : DeliveryState) → Moves (with_outcome outcome) both_noted
give_moves outcome = both_move (with_outcome outcome) (λ d. refl) (λ d. refl)

pub join_moves : (q : Holding) → Moves (held_by q) both_noted
join_moves q = both_move (held_by q) (held_name q) (seat_held q)
  where
    seat_held : (q : Holding) (d : Delivery) → seat_of (held_by q d) ≡ seat_of d
    seat_held (holding.Resumed p) d = refl
    seat_held (holding.Unresumed a) d = refl
    seat_held (holding.Settled a) d = refl

-- a frame moves a delivery by its producer only if it is decided then
abbrev produced : Delivery → Option DeliveryState → AtProducer
produced d o = record {
  held = from_link (if is_none o then sender d else unforgotten d) (is_none o || has_row d.name);
  to_tell = turn_on 0 d.rank (not (is_none o) && is_some d.origin);
  from = from_spot (sender d);
  by_id = id_spot (source d);
}

undecided_before : (x : Transfer) (d : Delivery) → is_decided_with x d ≡ false → d.outcome ≡ None
undecided_before x d e = none_of d.outcome e
  where
    none_of : (o : Option DeliveryState) → (is_some o || (d.presettled && not x.more)) ≡ false → o ≡ None
    none_of None f = refl
    none_of (Some s) f = absurd cc

undecided_after : (x : Transfer) (count : ℕ) (d : Delivery) → is_decided_with x d ≡ false → (after_frame x count d).outcome ≡ None
undecided_after x count d e = by d.outcome (d.presettled && not x.more) e
  where
    by : (o : Option DeliveryState) (b : Bool) → (is_some o || b) ≡ false → (if b then Some state.Accepted else o) ≡ None
    by None false f = refl
    by None true f = absurd cc
    by (Some s) b f = absurd cc

no_sender : (s w e : Option Origin) → is_none (either_origin (either_origin s w) e) ≡ true → (s ≡ None) × (either_origin (either_origin s w) e ≡ None)
no_sender None None None f = (refl, refl)
no_sender (Some p) w e f = absurd cc
no_sender None (Some p) e f = absurd cc
no_sender None None (Some p) f = absurd cc

-- one that is over, and undecided, has no producer
none_produced : (d : Delivery) (r s : Bool) → (not r && ((false || s) && is_none (sender d))) ≡ true → no_producer ≡ produced d None
none_produced d true s e = absurd cc
none_produced d false false e = absurd cc
none_produced d false true e =
    let none = no_sender (source d) d.owned d.early e in
    sym (ap (λ v. record { held = from_link v true; to_tell = None; from = from_spot v; by_id = id_spot (source d) }) none.1
    ∙ ap (λ v. record { held = None; to_tell = None; from = None; by_id = id_spot v }) none.0)

produced_on : (x : Transfer) (count : ℕ) (d : Delivery) → is_decided_with x d ≡ false → (b : Bool) → is_over (after_frame x count d) ≡ b
    → producer_of (if b then None else Some (after_frame x count d)) ≡ at_producer d
produced_on x count d e true over =
    none_produced d x.more d.suspended
    (sym (ap (λ (o : Option DeliveryState). not x.more && ((is_some o || d.suspended) && is_none (if is_none o then sender d else unforgotten d))) (undecided_after x count d e)) ∙ over)
    ∙ sym (ap (produced d) (undecided_before x d e))
produced_on x count d e false over = ap (produced d) (undecided_after x count d e ∙ sym (undecided_before x d e))

abbrev pub frame_noted : Transfer → Notes
frame_noted x = (λ d. Some (at_consumer d), λ d. producer_if (is_decided_with x d) d)

pub frame_moves : (x : Transfer) (count : ℕ) → Moves (after_frame x count) (frame_noted x)
frame_moves x count = record {
  named = λ d. refl;
  begins = λ d. (refl, begins d (is_decided_with x d));
  ends = λ d. ends d (is_decided_with x d) refl;
}
  where
    begins : (d : Delivery) (b : Bool) → ProducerBegins (if b then Some (at_producer d) else None) (at_producer d)
    begins d true = refl
    begins d false = tt

    ends : (d : Delivery) (b : Bool) → is_decided_with x d ≡ b
        → record {
          consumer = consumer_keys (seat_of d) (at_consumer (after_frame x count d));
          producer = producer_after (if b then Some (at_producer d) else None) (after_frame x count d) (at_producer d);
        } ≡ standing (unless_over (after_frame x count d))
    ends d true e = kept (after_frame x count d) (is_over (after_frame x count d)) refl
    ends d false e =
        ap (λ p. record { consumer = consumer_keys (seat_of d) (at_consumer (after_frame x count d)); producer = p })
        (sym (produced_on x count d e (is_over (after_frame x count d)) refl))
        ∙ kept (after_frame x count d) (is_over (after_frame x count d)) refl
