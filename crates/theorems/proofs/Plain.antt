-- The phase of a live connection from a trace without its takes, if no outbox was full when an event came.
use Rattle.std.proofs.Common.{◌≡◌, ◌∙◌, sym, ap, refl, true≢false, ℕ, Bool, true, false, List, [], ◌∷◌, length, drop}
use Rattle.std.specs.Prelude.{◌==◌, Option, Some, None, if◌then◌else◌, is_some, filter, option_map, option_and_then}
use Rattle.amqp_model.specs.declared.item.Item.{Item}
use Rattle.amqp_conn.specs.declared.conn.Conn.{Conn}
use Rattle.router_trace.specs.declared.event.Event.{Event}
use Rattle.router_trace.specs.declared.event.Event.TheVariants as event
use Rattle.router_trace.specs.Routed.{passed_to}
use Rattle.router_trace.specs.Trace.{Entry, Did, Out, Took, Bound, Booked, Routed, Began, Put, goes, ups}
use Rattle.router_trace.specs.Connection.{Connection, conn, phase_after, with_item, with_passed, drained, unless_empty, took, fresh, standing, is_full, is_due, due, unless_due, found, live, live_of, at_event}
use Rattle.theorems.specs.Takes.{untaken}
use Rattle.state_connections.proofs.Lists.{by_test, filter_none}
use Rattle.state_connections.proofs.Turns.{due_none, stays}
use Rattle.theorems.proofs.Untaken.{same_ups}

-- a phase that isn't over, and the phase after an item
abbrev pub stand : Conn → Option Conn
stand p = if p.closed then None else Some p

abbrev pub stand_after : Item → Conn → Option Conn
stand_after i p = stand (phase_after i p)

-- those of these connections that are live
abbrev pub standing_of : List ℕ → (ℕ → Option Conn) → List ℕ
standing_of ks known = filter (λ k. is_some (known k)) ks

-- the phase of a live connection; takes and full outboxes don't matter
abbrev pub plain_at : Event → ℕ → ℕ → Option Conn → Option Conn
plain_at (event.Up d p) c live v = if d.0 == c then stand (fresh live).phase else v
plain_at (event.Down d) c live v = if d.0 == c then None else v
plain_at _ c live v = v

abbrev pub plain : List Entry → ℕ → Option Conn
plain [] c = None
plain (Did s ∷ t) c = plain_at s.event c (length (standing_of (ups t) (plain t))) (plain t c)
plain (Out d i ∷ t) c = if d == c then option_and_then (stand_after i) (plain t c) else plain t c
plain (Took d n ∷ t) c = plain t c
plain (Bound b ∷ t) c = plain t c
plain (Booked acts full ∷ t) c = plain t c
plain (Routed passage ∷ t) c = plain t c
plain (Began g ∷ t) c = None

abbrev pub plain_live : List Entry → List ℕ
plain_live t = standing_of (ups t) (plain t)

-- no outbox was full when an event came
abbrev pub Calm : List Entry → Type 0
Calm [] = Unit {0}
Calm (Did s ∷ t) = ((c : ℕ) → is_full (conn t c) ≡ false) × Calm t
Calm (Out d i ∷ t) = Calm t
Calm (Took d n ∷ t) = Calm t
Calm (Bound b ∷ t) = Calm t
Calm (Booked acts full ∷ t) = Calm t
Calm (Routed passage ∷ t) = Calm t
Calm (Began g ∷ t) = Calm t

pub calm_goes : (ps : List Put) (t : List Entry) → Calm t → Calm (goes ps t)
calm_goes [] t calm = calm
calm_goes (p ∷ ps) t calm = calm_goes ps (Out p.conn p.item ∷ t) calm

-- then an event ends no connection first
pub none_due : (t : List Entry) (e : Event) → ((c : ℕ) → is_full (conn t c) ≡ false) → due t e ≡ []
none_due t e roomy = filter_none (λ k. is_due e k (conn t k)) (λ k. due_none e k (conn t k) (roomy k)) (ups t)

-- events, items and takes

stand_over : (p : Conn) → p.closed ≡ true → stand p ≡ None
stand_over p e = rw e refl

stand_open : (p : Conn) → p.closed ≡ false → stand p ≡ Some p
stand_open p e = rw e refl

stays_over : (i : Item) (p : Conn) → p.closed ≡ true → (phase_after i p).closed ≡ true
stays_over i p e = by_test (phase_after i p).closed (λ f. f) (λ f. absurd (true≢false (sym e ∙ stays i p f)))

stand_item : (i : Item) (p : Conn) → stand (phase_after i p) ≡ option_and_then (stand_after i) (stand p)
stand_item i p =
    by_test p.closed
    (λ e. stand_over (phase_after i p) (stays_over i p e) ∙ sym (ap (option_and_then (stand_after i)) (stand_over p e)))
    (λ e. sym (ap (option_and_then (stand_after i)) (stand_open p e)))

pub standing_item : (b : Bool) (i : Item) (v : Option Connection)
    → standing (if b then option_map (with_item i) v else v) ≡ (if b then option_and_then (stand_after i) (standing v) else standing v)
standing_item true i None = refl
standing_item true i (Some v) = stand_item i v.phase
standing_item false i v = refl

pub standing_passed : (p : Option Item) (v : Option Connection) → standing (option_map (with_passed p) v) ≡ standing v
standing_passed p None = refl
standing_passed None (Some v) = refl
standing_passed (Some i) (Some v) = refl

standing_gone : (b : Bool) (x : Connection) (rest : List Item) → x.phase.closed ≡ b → standing (if b then unless_empty x rest else Some x) ≡ stand x.phase
standing_gone true x [] e = sym (stand_over x.phase e)
standing_gone true x (i ∷ is) e = refl
standing_gone false x rest e = refl

pub standing_took : (b : Bool) (n : ℕ) (v : Option Connection) → standing (if b then option_and_then (took n) v else v) ≡ standing v
standing_took true n None = refl
standing_took true n (Some v) = standing_gone v.phase.closed (drained n v) (drop n v.waiting) refl
standing_took false n v = refl

standing_if : (b : Bool) (x y : Option Connection) → standing (if b then x else y) ≡ (if b then standing x else standing y)
standing_if true x y = refl
standing_if false x y = refl

pub standing_at : (e : Event) (c live : ℕ) (v : Option Connection) → standing (at_event e c live v) ≡ plain_at e c live (standing v)
standing_at (event.Up d p) c live v = standing_if (d.0 == c) (Some (fresh live)) v
standing_at (event.Down d) c live v = standing_if (d.0 == c) None v
standing_at (event.Item d i) c live v = refl
standing_at (event.Tick ms) c live v = refl
standing_at event.Start c live v = refl

-- the phase of a live connection is the plain one
pub stood : (t : List Entry) → Calm t → (c : ℕ) → standing (conn t c) ≡ plain (untaken t) c
stood [] calm c = refl
stood (Did s ∷ t) calm c =
    ap (λ (ks : List ℕ). standing (at_event s.event c (length (live_of (ups t) (unless_due ks (conn t)))) (unless_due ks (conn t) c))) (none_due t s.event calm.0)
    ∙ standing_at s.event c (length (live_of (ups t) (conn t))) (conn t c)
    ∙ (λ j. plain_at s.event c (length (standing_of (same_ups t j) (λ k. stood t calm.1 k j))) (stood t calm.1 c j))
stood (Out d i ∷ t) calm c =
    standing_item (d == c) i (conn t c) ∙ ap (λ (v : Option Conn). if d == c then option_and_then (stand_after i) v else v) (stood t calm c)
stood (Took d n ∷ t) calm c = standing_took (d == c) n (conn t c) ∙ stood t calm c
stood (Bound b ∷ t) calm c = stood t calm c
stood (Booked acts full ∷ t) calm c = stood t calm c
stood (Routed passage ∷ t) calm c = standing_passed (passed_to passage c) (conn t c) ∙ stood t calm c
stood (Began g ∷ t) calm c = refl

-- and so are those that are live
pub same_live : (t : List Entry) → Calm t → live t ≡ plain_live (untaken t)
same_live t calm = λ j. standing_of (same_ups t j) (λ k. stood t calm k j)

-- also as an event finds them
pub stood_found : (t : List Entry) (e : Event) → Calm t → due t e ≡ [] → (c : ℕ) → standing (found t e c) ≡ plain (untaken t) c
stood_found t e calm none c = ap (λ (ks : List ℕ). standing (unless_due ks (conn t) c)) none ∙ stood t calm c

pub live_found : (t : List Entry) (e : Event) → Calm t → due t e ≡ [] → live_of (ups t) (found t e) ≡ plain_live (untaken t)
live_found t e calm none = ap (λ (ks : List ℕ). live_of (ups t) (unless_due ks (conn t))) none ∙ same_live t calm
