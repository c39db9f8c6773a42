-- What holds of a frame that goes out.
use Rattle.std.proofs.Common.{◌≡◌, ◌≤◌, ◌∙◌, ℕ, zero, suc, ◌+◌, Bool, true, false, true≢false, refl, sym, ap, subst, List, [], ◌∷◌, ◌++◌, append_assoc, length, take, drop, Option, Some, None, arith}
use Rattle.std.specs.Prelude.{nat_le, ◌==◌, ◌&&◌, is_some, option_to_list, if◌then◌else◌}
use Rattle.route_links.specs.declared.allowed.Allowed.{Allowed}
use Rattle.route_links.specs.declared.allowed.Stop.{Stop}
use Rattle.route_links.specs.declared.allowed.Stop.TheVariants as stop
use Rattle.route_links.specs.declared.allowed.Turn.TheVariants.{Stopped, Passed}
use Rattle.route_links.specs.declared.cut.Carried.{Carried}
use Rattle.route_links.specs.declared.cut.Cut.TheVariants as cut
use Rattle.route_links.specs.declared.middle.Middle.{Middle}
use Rattle.route_links.specs.declared.middle.Middle.TheVariants.{Between, Open, Settled}
use Rattle.route_links.specs.declared.passing.Passing.{Passing}
use Rattle.route_links.specs.declared.passing.Passing.TheVariants as pass
use Rattle.route_links.specs.declared.turn.Released.{Released}
use Rattle.route_links.specs.Parts.{transfer_parts, parts, parts_of, after, starts}
use Rattle.route_links.specs.Cutting.{with_more, later, room, goes_whole, can_be_cut, as_passing}
use Rattle.route_links.specs.Legs.{Held}
use Rattle.route_links.specs.Turns.{held_back, id_at, named, stays, goes, released_as, released_unless, released, turn_of, turn, behind_of, behind}
use Rattle.route_links.specs.Releases.{is_transfer, is_start, id_of, FitsFrame}
use Rattle.route_links.proofs.Middles.{after_both}
use Rattle.route_links.proofs.Cuts.{named_parts, cut_parts, piece_fits}

abbrev pub one : Bool → ℕ
one b = if b then 1 else 0

pub record Passes (a : Allowed) (leg : Held) (q : List Passing) (f : Passing) (now : Held) : Type 0 where
  pub same : parts_of leg.went q ≡ parts leg.went f ++ parts_of now.went now.queue
  pub went : now.went ≡ after leg.went (parts leg.went f)
  pub came : now.came ≡ leg.came
  pub window : one (is_transfer f) ≤ a.window
  pub credit : one (is_start f) ≤ a.credit
  pub free : one (is_start f) ≤ a.free_ids
  pub id : is_start f ≡ true → id_of f ≡ Some a.next_id
  pub fits : FitsFrame a.largest f
  pub begins : is_transfer f ≡ true → is_start f ≡ starts leg.went
  pub shorter : length now.queue + 1 ≤ length q + one (is_transfer f)

-- what a transfer that isn't held back may use
pub record IsOpen (a : Allowed) (m : Middle) : Type 0 where
  pub window : 1 ≤ a.window
  pub credit : one (starts m) ≤ a.credit
  pub free : one (starts m) ≤ a.free_ids

le_of : (a b : ℕ) → nat_le a b ≡ true → a ≤ b
le_of a b h = grind (arith, h)

shorter_whole : (n : ℕ) → n + 1 ≤ suc n + 1
shorter_whole n = omega arith

shorter_piece : (n : ℕ) → suc n + 1 ≤ suc n + 1
shorter_piece n = omega arith

shorter_other : (n : ℕ) → n + 1 ≤ suc n + 0
shorter_other n = omega arith

none_used : (n : ℕ) → 0 ≤ n
none_used n = omega arith

above_zero : (n : ℕ) → (n == 0) ≡ false → 1 ≤ n
above_zero zero h = absurd (cc)
above_zero (suc n) h = omega arith

used : (s : Bool) (n : ℕ) → (s && (n == 0)) ≡ false → one s ≤ n
used true n h = above_zero n h
used false n h = none_used n

open_by : (w c i : Bool) → (if w then Some stop.Window else if c then Some stop.Credit else if i then Some stop.Id else None) ≡ None → (w ≡ false) × (c ≡ false) × (i ≡ false)
open_by true c i h = absurd (cc)
open_by false true i h = absurd (cc)
open_by false false true h = absurd (cc)
open_by false false false h = (refl, refl, refl)

is_open : (a : Allowed) (m : Middle) → held_back a m ≡ None → IsOpen a m
is_open a m h =
    let t = open_by (a.window == 0) (starts m && (a.credit == 0)) (starts m && (a.free_ids == 0)) h in
    record { window = above_zero a.window t.0; credit = used (starts m) a.credit t.1; free = used (starts m) a.free_ids t.2 }

-- a transfer stays, goes whole, or goes in pieces
cases : (a : Allowed) (handle : ℕ) (m : Middle) (c : Carried) (P : Released → Type 0) →
    ((s : Stop) → P (stays s m c)) →
    (held_back a m ≡ None → goes_whole a.largest (named a handle m c).transfer c.payload ≡ true → P (goes m (named a handle m c) None)) →
    (held_back a m ≡ None → can_be_cut a.largest (named a handle m c).transfer ≡ true → P (released_as m c (cut.Pieces (record { transfer = with_more (named a handle m c).transfer; payload = take (room a.largest (named a handle m c).transfer) c.payload }) (record { transfer = later (named a handle m c).transfer; payload = drop (room a.largest (named a handle m c).transfer) c.payload })))) →
    P (released a handle m c)
cases a handle m c P stay whole pieces = by (held_back a m) refl
  where
    cut_by : held_back a m ≡ None → (fits can : Bool) → goes_whole a.largest (named a handle m c).transfer c.payload ≡ fits → can_be_cut a.largest (named a handle m c).transfer ≡ can →
        P (released_as m c (if fits then cut.Whole (named a handle m c) else if can then cut.Pieces (record { transfer = with_more (named a handle m c).transfer; payload = take (room a.largest (named a handle m c).transfer) c.payload }) (record { transfer = later (named a handle m c).transfer; payload = drop (room a.largest (named a handle m c).transfer) c.payload }) else cut.TooLarge (named a handle m c)))
    cut_by none true can is k = whole none is
    cut_by none false true is k = pieces none k
    cut_by none false false is k = stay stop.TooLarge

    by : (held : Option Stop) → held_back a m ≡ held → P (released_unless held a handle m c)
    by (Some s) is = stay s
    by None is = cut_by is (goes_whole a.largest (named a handle m c).transfer c.payload) (can_be_cut a.largest (named a handle m c).transfer) refl refl

start_is : (a : Allowed) (m : Middle) → is_some (id_at a m) ≡ starts m
start_is a Between = refl
start_is a Open = refl
start_is a Settled = refl

id_is : (a : Allowed) (m : Middle) → is_some (id_at a m) ≡ true → id_at a m ≡ Some a.next_id
id_is a Between h = refl
id_is a Open h = absurd (cc)
id_is a Settled h = absurd (cc)

uses : (a : Allowed) (m : Middle) (n : ℕ) → one (starts m) ≤ n → one (is_some (id_at a m)) ≤ n
uses a m n h = subst (λ (b : Bool). one b ≤ n) (sym (start_is a m)) h

whole_passes : (a : Allowed) (leg : Held) (c : Carried) (fs : List Passing) → IsOpen a leg.went → goes_whole a.largest (named a leg.handle leg.went c).transfer c.payload ≡ true →
    (let d = named a leg.handle leg.went c in Passes a leg (as_passing c ∷ fs) (as_passing d) (record leg { went = after leg.went (transfer_parts leg.went d.transfer d.payload); queue = fs }))
whole_passes a leg c fs is fits =
    let m = leg.went in
    let same = named_parts a leg.handle m m c in
    record {
      same = ap (λ ps. ps ++ parts_of (after m ps) fs) (sym same);
      went = refl;
      came = refl;
      window = is.window;
      credit = uses a m a.credit is.credit;
      free = uses a m a.free_ids is.free;
      id = id_is a m;
      begins = λ is_one. start_is a m;
      fits = le_of _ _ fits;
      shorter = shorter_whole (length fs);
    }

pieces_pass : (a : Allowed) (leg : Held) (c : Carried) (fs : List Passing) → IsOpen a leg.went → can_be_cut a.largest (named a leg.handle leg.went c).transfer ≡ true →
    (let x = (named a leg.handle leg.went c).transfer in let n = room a.largest x in
    Passes a leg (as_passing c ∷ fs) (pass.Transfer (with_more x) (take n c.payload))
    (record leg { went = after leg.went (transfer_parts leg.went (with_more x) (take n c.payload)); queue = pass.Transfer (later x) (drop n c.payload) ∷ fs }))
pieces_pass a leg c fs is can =
    let m = leg.went in
    let x = (named a leg.handle m c).transfer in
    let n = room a.largest x in
    let front = transfer_parts m (with_more x) (take n c.payload) in
    let k = after m front in
    let back = transfer_parts k (later x) (drop n c.payload) in
    let split : transfer_parts m c.transfer c.payload ≡ front ++ back = sym (named_parts a leg.handle m m c) ∙ cut_parts m x c.payload n in
    record {
      same = ap (λ ps. ps ++ parts_of (after m ps) fs) split ∙ (append_assoc front back (parts_of (after m (front ++ back)) fs) ∙ ap (λ j. front ++ (back ++ parts_of j fs)) (after_both m front back));
      went = refl;
      came = refl;
      window = is.window;
      credit = uses a m a.credit is.credit;
      free = uses a m a.free_ids is.free;
      id = id_is a m;
      begins = λ is_one. start_is a m;
      fits = piece_fits a.largest x c.payload can;
      shorter = shorter_piece (length fs);
    }

moved : (a : Allowed) (leg : Held) (q : List Passing) (f g : Passing) (now : Held) → f ≡ g → Passes a leg q f now → Passes a leg q g now
moved a leg q f g now same p = let P : Passing → Type 0 = λ x. Passes a leg q x now in subst P same p

same_frame : (f g : Passing) → Passed f ≡ Passed g → f ≡ g
same_frame f g h = cc

transfer_passes : (a : Allowed) (leg : Held) (c : Carried) (fs : List Passing) (f : Passing) → (released a leg.handle leg.went c).turn ≡ Passed f →
    Passes a leg (as_passing c ∷ fs) f (record leg { went = (released a leg.handle leg.went c).went; queue = option_to_list (released a leg.handle leg.went c).left ++ fs })
transfer_passes a leg c fs f =
    let P : Released → Type 0 = λ r. r.turn ≡ Passed f → Passes a leg (as_passing c ∷ fs) f (record leg { went = r.went; queue = option_to_list r.left ++ fs }) in
    cases a leg.handle leg.went c P
    (λ s h. absurd (cc))
    (λ none fits h. moved a leg (as_passing c ∷ fs) _ f _ (same_frame _ f h) (whole_passes a leg c fs (is_open a leg.went none) fits))
    (λ none can h. moved a leg (as_passing c ∷ fs) _ f _ (same_frame _ f h) (pieces_pass a leg c fs (is_open a leg.went none) can))

other_passes : (a : Allowed) (leg : Held) (f g : Passing) (fs : List Passing) → is_transfer f ≡ false → is_start f ≡ false → FitsFrame a.largest f → after leg.went (parts leg.went f) ≡ leg.went → Passed f ≡ Passed g →
    Passes a leg (f ∷ fs) g (record leg { queue = fs })
other_passes a leg f g fs no_transfer no_start fits stays h =
    moved a leg (f ∷ fs) f g _ (same_frame f g h) (record {
      same = ap (λ m. parts leg.went f ++ parts_of m fs) stays;
      went = sym stays;
      came = refl;
      window = subst (λ (b : Bool). one b ≤ a.window) (sym no_transfer) (none_used a.window);
      credit = subst (λ (b : Bool). one b ≤ a.credit) (sym no_start) (none_used a.credit);
      free = subst (λ (b : Bool). one b ≤ a.free_ids) (sym no_start) (none_used a.free_ids);
      id = λ is. absurd (true≢false (sym is ∙ no_start));
      begins = λ is. absurd (true≢false (sym is ∙ no_transfer));
      fits = fits;
      shorter = subst (λ (b : Bool). length fs + 1 ≤ length (f ∷ fs) + one b) (sym no_transfer) (shorter_other (length fs));
    })

passes_of : (a : Allowed) (leg : Held) (q : List Passing) (f : Passing) → turn_of a leg q ≡ Passed f → Passes a leg q f (behind_of a leg q)
passes_of a leg [] f h = absurd (cc)
passes_of a leg (pass.Attach x ∷ fs) f h = other_passes a leg (pass.Attach x) f fs refl refl tt refl h
passes_of a leg (pass.Flow x ∷ fs) f h = other_passes a leg (pass.Flow x) f fs refl refl tt refl h
passes_of a leg (pass.Transfer x payload ∷ fs) f h = transfer_passes a leg (record { transfer = x; payload = payload }) fs f h
passes_of a leg (pass.Disposition s x ∷ fs) f h = other_passes a leg (pass.Disposition s x) f fs refl refl tt refl h
passes_of a leg (pass.Detach x ∷ fs) f h = other_passes a leg (pass.Detach x) f fs refl refl tt refl h

pub passes : (a : Allowed) (leg : Held) (f : Passing) → turn a leg ≡ Passed f → Passes a leg leg.queue f (behind a leg)
passes a leg f h = passes_of a leg leg.queue f h

-- where nothing goes, all stays
transfer_stays : (a : Allowed) (leg : Held) (c : Carried) (fs : List Passing) (s : Stop) → leg.queue ≡ as_passing c ∷ fs → (released a leg.handle leg.went c).turn ≡ Stopped s →
    record leg { went = (released a leg.handle leg.went c).went; queue = option_to_list (released a leg.handle leg.went c).left ++ fs } ≡ leg
transfer_stays a leg c fs s held =
    let P : Released → Type 0 = λ r. r.turn ≡ Stopped s → record leg { went = r.went; queue = option_to_list r.left ++ fs } ≡ leg in
    cases a leg.handle leg.went c P
    (λ t h. ap (λ (q : List Passing). record leg { queue = q }) (sym held))
    (λ none fits h. absurd (cc))
    (λ none can h. absurd (cc))

stays_of : (a : Allowed) (leg : Held) (q : List Passing) (s : Stop) → leg.queue ≡ q → turn_of a leg q ≡ Stopped s → behind_of a leg q ≡ leg
stays_of a leg [] s held h = refl
stays_of a leg (pass.Attach x ∷ fs) s held h = absurd (cc)
stays_of a leg (pass.Flow x ∷ fs) s held h = absurd (cc)
stays_of a leg (pass.Transfer x payload ∷ fs) s held h = transfer_stays a leg (record { transfer = x; payload = payload }) fs s held h
stays_of a leg (pass.Disposition n x ∷ fs) s held h = absurd (cc)
stays_of a leg (pass.Detach x ∷ fs) s held h = absurd (cc)

pub stays_put : (a : Allowed) (leg : Held) (s : Stop) → turn a leg ≡ Stopped s → behind a leg ≡ leg
stays_put a leg s h = stays_of a leg leg.queue s refl h
