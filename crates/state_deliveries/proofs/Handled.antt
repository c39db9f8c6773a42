-- Numbers by handle.
use Rattle.std.proofs.Common.{◌≡◌, ◌∙◌, ℕ, Bool, true, false, refl, sym, ap, List, Option, Some, None}
use Rattle.std.specs.Prelude.{◌&&◌, ◌==◌, if◌then◌else◌, is_some}
use Rattle.std.proofs.lemmas.Bool.{eqb-true}
use Rattle.amqp_session.specs.Ranges.{has}
use Rattle.router_trace.specs.Deliveries.{is_number}
use Rattle.state_deliveries.specs.declared.change.Gone.TheVariants as gone
use Rattle.state_deliveries.specs.declared.handles.Handles.{Handles}
use Rattle.state_deliveries.specs.declared.spots.Spot.{Spot}
use Rattle.state_deliveries.specs.Rowing.{in_rows}
use Rattle.state_deliveries.specs.Placing.{HandlesFit, is_spot, same_spot, on_session, handle_in, is_gone_there}
use Rattle.state_deliveries.proofs.Placed.{both_first, both_second, same_number}

-- the same known places, by an equal function; and the same handles
pub handles_same : (s : Handles) (f g : ℕ → Option Spot) → ((n : ℕ) → f n ≡ g n) → HandlesFit s f → HandlesFit s g
handles_same s f g same x = record { stand = λ p n. x.stand p n ∙ ap (λ v. is_spot v p) (same n) }

pub handles_stay : (s t : Handles) → ((c o n : ℕ) → in_rows t.rows c o n ≡ in_rows s.rows c o n) → (known : ℕ → Option Spot) → HandlesFit s known → HandlesFit t known
handles_stay s t same known x = record { stand = λ p n. ap (λ v. is_number v p.at) (same p.conn p.own n) ∙ x.stand p n }

-- a number moves
apart : (a b d : Bool) → (a && b) ≡ false → false ≡ (a && (b && d))
apart true true d e = absurd cc
apart true false d e = refl
apart false b d e = refl

together : (a b d : Bool) → (a && b) ≡ true → d ≡ (a && (b && d))
together true true d e = refl
together true false d e = absurd cc
together false b d e = absurd cc

elsewhere : (v : Option Spot) (p : Spot) → on_session v p.conn p.own ≡ false → false ≡ is_spot v p
elsewhere None p e = refl
elsewhere (Some q) p e = apart (q.conn == p.conn) (q.own == p.own) (q.at == p.at) e

stays : {A : Type 0} (i : Bool) (b o : A) → (if i then (if false then b else o) else o) ≡ o
stays true b o = refl
stays false b o = refl

pub handles_moved : (s t u : Handles) (m : ℕ) (before after : Option Spot) (known : ℕ → Option Spot)
    → ((c o n : ℕ) → in_rows t.rows c o n ≡ (if on_session before c o then (if m == n then None else in_rows s.rows c o n) else in_rows s.rows c o n))
    → ((c o n : ℕ) → in_rows u.rows c o n ≡ (if on_session after c o then (if m == n then handle_in after else in_rows t.rows c o n) else in_rows t.rows c o n))
    → known m ≡ before → HandlesFit s known → HandlesFit u (λ n. if m == n then after else known n)
handles_moved s t u m before after known out back is x = record { stand = λ p n. by_test p n (m == n) refl }
  where
    gone : (v : Option ℕ) (p : Spot) (i : Bool) → on_session before p.conn p.own ≡ i → is_number v p.at ≡ is_spot before p
        → is_number (if i then (if true then None else v) else v) p.at ≡ false
    gone v p true e f = refl
    gone v p false e f = f ∙ sym (elsewhere before p e)

    comes : (v : Option ℕ) (p : Spot) (w : Option Spot) → is_number v p.at ≡ false
        → is_number (if on_session w p.conn p.own then (if true then handle_in w else v) else v) p.at ≡ is_spot w p
    comes v p None f = f
    comes v p (Some q) f = by_session ((q.conn == p.conn) && (q.own == p.own)) refl
      where
        by_session : (i : Bool) → ((q.conn == p.conn) && (q.own == p.own)) ≡ i → is_number (if i then (if true then Some q.at else v) else v) p.at ≡ same_spot q p
        by_session true e = together (q.conn == p.conn) (q.own == p.own) (q.at == p.at) e
        by_session false e = f ∙ apart (q.conn == p.conn) (q.own == p.own) (q.at == p.at) e

    by_test : (p : Spot) (n : ℕ) (b : Bool) → (m == n) ≡ b → is_number (in_rows u.rows p.conn p.own n) p.at ≡ is_spot (if b then after else known n) p
    by_test p n true f =
        let was = in_rows s.rows p.conn p.own n in
        let middle = in_rows t.rows p.conn p.own n in
        let old : is_number was p.at ≡ is_spot before p = x.stand p n ∙ ap (λ v. is_spot v p) (ap known (sym (eqb-true m n f)) ∙ is) in
        let none : is_number middle p.at ≡ false =
        ap (λ v. is_number v p.at) (out p.conn p.own n ∙ ap (λ e. if on_session before p.conn p.own then (if e then None else was) else was) f)
        ∙ gone was p (on_session before p.conn p.own) refl old in
        ap (λ v. is_number v p.at) (back p.conn p.own n ∙ ap (λ e. if on_session after p.conn p.own then (if e then handle_in after else middle) else middle) f)
        ∙ comes middle p after none
    by_test p n false f =
        let was = in_rows s.rows p.conn p.own n in
        let middle = in_rows t.rows p.conn p.own n in
        ap (λ v. is_number v p.at)
        (back p.conn p.own n ∙ ap (λ e. if on_session after p.conn p.own then (if e then handle_in after else middle) else middle) f ∙ stays (on_session after p.conn p.own) (handle_in after) middle
        ∙ out p.conn p.own n ∙ ap (λ e. if on_session before p.conn p.own then (if e then None else was) else was) f ∙ stays (on_session before p.conn p.own) None was)
        ∙ x.stand p n

-- the places of links that end
all_same : (a b d : Bool) → a ≡ true → b ≡ true → d ≡ true → (a && (b && d)) ≡ true
all_same true true d e f g = g
all_same true false d e f g = f
all_same false b d e f g = e

there : (s : Handles) (known : ℕ → Option Spot) → HandlesFit s known → (p : Spot) (n : ℕ) → known n ≡ Some p → is_number (in_rows s.rows p.conn p.own n) p.at ≡ true
there s known x p n is =
    x.stand p n ∙ ap (λ v. is_spot v p) is ∙ all_same (p.conn == p.conn) (p.own == p.own) (p.at == p.at) (same_number p.conn) (same_number p.own) (same_number p.at)

has_some : (v : Option ℕ) (k : ℕ) → is_number v k ≡ true → is_some v ≡ true
has_some None k e = absurd cc
has_some (Some m) k e = refl

pub found_link : (s : Handles) (c o h : ℕ) (new : List ℕ) (known : ℕ → Option Spot) → HandlesFit s known
    → ((n : ℕ) → is_number (in_rows s.rows c o n) h ≡ true → has n new ≡ true) → (n : ℕ) → is_gone_there (gone.Link c o h) (known n) ≡ true → has n new ≡ true
found_link s c o h new known x found n ends = by_place (known n) refl ends
  where
    by_place : (v : Option Spot) → known n ≡ v → is_gone_there (gone.Link c o h) v ≡ true → has n new ≡ true
    by_place None e f = absurd cc
    by_place (Some p) e f =
        let conn = eqb-true p.conn c (both_first (p.conn == c) ((o == p.own) && (h == p.at)) f) in
        let rest = both_second (p.conn == c) ((o == p.own) && (h == p.at)) f in
        let own = eqb-true o p.own (both_first (o == p.own) (h == p.at) rest) in
        let at = eqb-true h p.at (both_second (o == p.own) (h == p.at) rest) in
        found n (ap (λ k. is_number (in_rows s.rows k o n) h) (sym conn) ∙ ap (λ k. is_number (in_rows s.rows p.conn k n) h) own
        ∙ ap (λ k. is_number (in_rows s.rows p.conn p.own n) k) at ∙ there s known x p n e)

pub found_session : (s : Handles) (c o : ℕ) (new : List ℕ) (known : ℕ → Option Spot) → HandlesFit s known
    → ((n : ℕ) → is_some (in_rows s.rows c o n) ≡ true → has n new ≡ true) → (n : ℕ) → is_gone_there (gone.Session c o) (known n) ≡ true → has n new ≡ true
found_session s c o new known x found n ends = by_place (known n) refl ends
  where
    by_place : (v : Option Spot) → known n ≡ v → is_gone_there (gone.Session c o) v ≡ true → has n new ≡ true
    by_place None e f = absurd cc
    by_place (Some p) e f =
        let conn = eqb-true p.conn c (both_first (p.conn == c) (o == p.own) f) in
        let own = eqb-true o p.own (both_second (p.conn == c) (o == p.own) f) in
        found n (ap (λ k. is_some (in_rows s.rows k o n)) (sym conn) ∙ ap (λ k. is_some (in_rows s.rows p.conn k n)) own
        ∙ has_some (in_rows s.rows p.conn p.own n) p.at (there s known x p n e))

pub found_connection : (s : Handles) (c : ℕ) (new : List ℕ) (known : ℕ → Option Spot) → HandlesFit s known
    → ((o n : ℕ) → is_some (in_rows s.rows c o n) ≡ true → has n new ≡ true) → (n : ℕ) → is_gone_there (gone.Connection c) (known n) ≡ true → has n new ≡ true
found_connection s c new known x found n ends = by_place (known n) refl ends
  where
    by_place : (v : Option Spot) → known n ≡ v → is_gone_there (gone.Connection c) v ≡ true → has n new ≡ true
    by_place None e f = absurd cc
    by_place (Some p) e f = found p.own n (ap (λ k. is_some (in_rows s.rows k p.own n)) (sym (eqb-true p.conn c f)) ∙ has_some (in_rows s.rows p.conn p.own n) p.at (there s known x p n e))
