-- What holds of frames that go out one after another.
use Rattle.std.proofs.Common.{◌≡◌, ◌≤◌, ◌<◌, ◌∙◌, ℕ, ◌+◌, ◌-◌, ◌%◌, ◌^◌, Bool, true, false, refl, sym, ap, subst, List, [], ◌∷◌, ◌++◌, append_assoc, append-nil, length, Option, arith}
use Rattle.std.proofs.lemmas.List.Sums.{sum_by-cons}
use Rattle.std.specs.Prelude.{cond, count_by, is_some, IfSome, if◌then◌else◌}
use Rattle.route_links.specs.declared.allowed.Allowed.{Allowed}
use Rattle.route_links.specs.declared.allowed.Stop.{Stop}
use Rattle.route_links.specs.declared.allowed.Turn.TheVariants.{Stopped, Passed}
use Rattle.route_links.specs.declared.middle.Middle.TheVariants.{Between}
use Rattle.route_links.specs.declared.passing.Passing.{Passing}
use Rattle.route_links.specs.declared.passing.Passing.TheVariants as pass
use Rattle.route_links.specs.Parts.{Part, parts, parts_of, after}
use Rattle.route_links.specs.Legs.{Held, Mirrors}
use Rattle.route_links.specs.Turns.{turn, behind}
use Rattle.route_links.specs.Releases.{is_transfer, is_start, less, left, Turns, HaveIds, AllFit, IsFar, Release, size_left}
use Rattle.route_links.proofs.Middles.{after_both}
use Rattle.route_links.proofs.Passes.{one, passes, stays_put}

-- what is allowed behind a frame
none_less : (n : ℕ) → n ≡ n - 0
none_less n = omega arith

less_window : (a : Allowed) (f : Passing) → (less a f).window ≡ a.window - one (is_transfer f)
less_window a (pass.Attach x) = none_less a.window
less_window a (pass.Flow x) = none_less a.window
less_window a (pass.Transfer x payload) = by (is_some x.delivery_id)
  where
    by : (start : Bool) → (if start then record a { window = a.window - 1; credit = a.credit - 1; next_id = (a.next_id + 1) % 2 ^ 32; free_ids = a.free_ids - 1 } else record a { window = a.window - 1 }).window ≡ a.window - 1
    by true = refl
    by false = refl
less_window a (pass.Disposition s x) = none_less a.window
less_window a (pass.Detach x) = none_less a.window

less_credit : (a : Allowed) (f : Passing) → (less a f).credit ≡ a.credit - one (is_start f)
less_credit a (pass.Attach x) = none_less a.credit
less_credit a (pass.Flow x) = none_less a.credit
less_credit a (pass.Transfer x payload) = by (is_some x.delivery_id)
  where
    by : (start : Bool) → (if start then record a { window = a.window - 1; credit = a.credit - 1; next_id = (a.next_id + 1) % 2 ^ 32; free_ids = a.free_ids - 1 } else record a { window = a.window - 1 }).credit ≡ a.credit - one start
    by true = refl
    by false = none_less a.credit
less_credit a (pass.Disposition s x) = none_less a.credit
less_credit a (pass.Detach x) = none_less a.credit

less_free : (a : Allowed) (f : Passing) → (less a f).free_ids ≡ a.free_ids - one (is_start f)
less_free a (pass.Attach x) = none_less a.free_ids
less_free a (pass.Flow x) = none_less a.free_ids
less_free a (pass.Transfer x payload) = by (is_some x.delivery_id)
  where
    by : (start : Bool) → (if start then record a { window = a.window - 1; credit = a.credit - 1; next_id = (a.next_id + 1) % 2 ^ 32; free_ids = a.free_ids - 1 } else record a { window = a.window - 1 }).free_ids ≡ a.free_ids - one start
    by true = refl
    by false = none_less a.free_ids
less_free a (pass.Disposition s x) = none_less a.free_ids
less_free a (pass.Detach x) = none_less a.free_ids

less_id : (a : Allowed) (f : Passing) → (less a f).next_id ≡ (if is_start f then (a.next_id + 1) % 2 ^ 32 else a.next_id)
less_id a (pass.Attach x) = refl
less_id a (pass.Flow x) = refl
less_id a (pass.Transfer x payload) = by (is_some x.delivery_id)
  where
    by : (start : Bool) → (if start then record a { window = a.window - 1; credit = a.credit - 1; next_id = (a.next_id + 1) % 2 ^ 32; free_ids = a.free_ids - 1 } else record a { window = a.window - 1 }).next_id ≡ (if start then (a.next_id + 1) % 2 ^ 32 else a.next_id)
    by true = refl
    by false = refl
less_id a (pass.Disposition s x) = refl
less_id a (pass.Detach x) = refl

less_largest : (a : Allowed) (f : Passing) → (less a f).largest ≡ a.largest
less_largest a (pass.Attach x) = refl
less_largest a (pass.Flow x) = refl
less_largest a (pass.Transfer x payload) = by (is_some x.delivery_id)
  where
    by : (start : Bool) → (if start then record a { window = a.window - 1; credit = a.credit - 1; next_id = (a.next_id + 1) % 2 ^ 32; free_ids = a.free_ids - 1 } else record a { window = a.window - 1 }).largest ≡ a.largest
    by true = refl
    by false = refl
less_largest a (pass.Disposition s x) = refl
less_largest a (pass.Detach x) = refl

counted : (p : Passing → Bool) (f : Passing) (fs : List Passing) → count_by p (f ∷ fs) ≡ one (p f) + count_by p fs
counted p f fs = sum_by-cons (λ g. cond (p g) 1 0) f fs

sums : (total o rest had now : ℕ) → total ≡ o + rest → o ≤ had → now ≡ had - o → rest ≤ now → total ≤ had
sums total o rest had now is some behind few = omega arith

within_window : (a : Allowed) (leg : Held) (fs : List Passing) (now : Held) → Turns a leg fs now → count_by is_transfer fs ≤ a.window
within_window a leg [] now t = omega arith
within_window a leg (f ∷ fs) now t =
    sums (count_by is_transfer (f ∷ fs)) (one (is_transfer f)) (count_by is_transfer fs) a.window (less a f).window
    (counted is_transfer f fs) (passes a leg f t.0).window (less_window a f) (within_window (less a f) (behind a leg) fs now t.1)

within_credit : (a : Allowed) (leg : Held) (fs : List Passing) (now : Held) → Turns a leg fs now → count_by is_start fs ≤ a.credit
within_credit a leg [] now t = omega arith
within_credit a leg (f ∷ fs) now t =
    sums (count_by is_start (f ∷ fs)) (one (is_start f)) (count_by is_start fs) a.credit (less a f).credit
    (counted is_start f fs) (passes a leg f t.0).credit (less_credit a f) (within_credit (less a f) (behind a leg) fs now t.1)

within_free : (a : Allowed) (leg : Held) (fs : List Passing) (now : Held) → Turns a leg fs now → count_by is_start fs ≤ a.free_ids
within_free a leg [] now t = omega arith
within_free a leg (f ∷ fs) now t =
    sums (count_by is_start (f ∷ fs)) (one (is_start f)) (count_by is_start fs) a.free_ids (less a f).free_ids
    (counted is_start f fs) (passes a leg f t.0).free (less_free a f) (within_free (less a f) (behind a leg) fs now t.1)

have_ids : (a : Allowed) (leg : Held) (fs : List Passing) (now : Held) → Turns a leg fs now → HaveIds a.next_id fs
have_ids a leg [] now t = tt
have_ids a leg (f ∷ fs) now t = ((passes a leg f t.0).id, subst (λ n. HaveIds n fs) (less_id a f) (have_ids (less a f) (behind a leg) fs now t.1))

all_fit : (a : Allowed) (leg : Held) (fs : List Passing) (now : Held) → Turns a leg fs now → AllFit a.largest fs
all_fit a leg [] now t = tt
all_fit a leg (f ∷ fs) now t = ((passes a leg f t.0).fits, subst (λ n. AllFit n fs) (less_largest a f) (all_fit (less a f) (behind a leg) fs now t.1))

-- what went out grows by the parts of a frame, ...
pub one_went : (a : Allowed) (leg : Held) (f : Passing) (came went : List Part) → turn a leg ≡ Passed f → Mirrors leg came went → Mirrors (behind a leg) came (went ++ parts leg.went f)
one_went a leg f came went h is =
    let p = passes a leg f h in
    record {
      whole = is.whole ∙ (ap (λ ps. went ++ ps) p.same ∙ sym (append_assoc went (parts leg.went f) (parts_of (behind a leg).went (behind a leg).queue)));
      came_middle = p.came ∙ is.came_middle;
      went_middle = p.went ∙ (ap (λ m. after m (parts leg.went f)) is.went_middle ∙ sym (after_both Between went (parts leg.went f)));
    }

-- ... and of all
all_went : (a : Allowed) (leg : Held) (fs : List Passing) (now : Held) → Turns a leg fs now → (came went : List Part) → Mirrors leg came went → Mirrors now came (went ++ parts_of leg.went fs)
all_went a leg [] now t came went is =
    let P : Held → Type 0 = λ l. Mirrors l came (went ++ []) in
    let Q : List Part → Type 0 = λ ps. Mirrors leg came ps in
    subst P (sym t) (subst Q (sym (append-nil went)) is)
all_went a leg (f ∷ fs) now t came went is =
    let p = passes a leg f t.0 in
    let Q : List Part → Type 0 = λ ps. Mirrors now came ps in
    subst Q (append_assoc went (parts leg.went f) (parts_of (behind a leg).went fs) ∙ ap (λ m. went ++ (parts leg.went f ++ parts_of m fs)) p.went)
    (all_went (less a f) (behind a leg) fs now t.1 came (went ++ parts leg.went f) (one_went a leg f came went t.0 is))

-- one frame more
turns_more : (a : Allowed) (leg : Held) (fs : List Passing) (now : Held) (f : Passing) → Turns a leg fs now → turn (left a fs) now ≡ Passed f → Turns a leg (fs ++ f ∷ []) (behind (left a fs) now)
turns_more a leg [] now f t h = (ap (turn a) (sym t) ∙ h, ap (behind a) t)
turns_more a leg (g ∷ fs) now f t h = (t.0, turns_more (less a g) (behind a leg) fs now f t.1 h)

left_more : (a : Allowed) (fs : List Passing) (f : Passing) → left a (fs ++ f ∷ []) ≡ less (left a fs) f
left_more a [] f = refl
left_more a (g ∷ fs) f = left_more (less a g) fs f

pub begins : (a still : Allowed) (leg : Held) (old : List Passing) → still ≡ a → IsFar a leg old old leg still
begins a still leg old same = record { frames = []; appended = sym (append-nil old); turns = refl; allowed = same }

pub goes_on : (a : Allowed) (before : Held) (old new : List Passing) (now : Held) (still : Allowed) (f : Passing) → turn still now ≡ Passed f → IsFar a before old new now still → IsFar a before old (new ++ f ∷ []) (behind still now) (less still f)
goes_on a before old new now still f h far = record {
  frames = far.frames ++ f ∷ [];
  appended = ap (λ xs. xs ++ f ∷ []) far.appended ∙ append_assoc old far.frames (f ∷ []);
  turns =
      let P : Allowed → Type 0 = λ b. Turns a before (far.frames ++ f ∷ []) (behind b now) in
      subst P (sym far.allowed) (turns_more a before far.frames now f far.turns (ap (λ b. turn b now) (sym far.allowed) ∙ h));
  allowed = ap (λ b. less b f) far.allowed ∙ sym (left_more a far.frames f);
}

pub ends : (a : Allowed) (before : Held) (old new : List Passing) (now : Held) (still : Allowed) (why : Option Stop) → IfSome why (λ s. turn still now ≡ Stopped s) → IsFar a before old new now still → Release a before old new now why
ends a before old new now still why h far = record {
  frames = far.frames;
  appended = far.appended;
  turns = far.turns;
  stopped = let P : Allowed → Type 0 = λ b. IfSome why (λ s. turn b now ≡ Stopped s) in subst P far.allowed h;
  mirror = all_went a before far.frames now far.turns;
  window = within_window a before far.frames now far.turns;
  credit = within_credit a before far.frames now far.turns;
  free = within_free a before far.frames now far.turns;
  ids = have_ids a before far.frames now far.turns;
  fit = all_fit a before far.frames now far.turns;
}

nearer : (q w k v o : ℕ) → k + 1 ≤ q + o → v ≡ w - o → o ≤ w → v + k < w + q
nearer q w k v o shorter is some = omega arith

pub nearer_end : (a : Allowed) (leg : Held) (f : Passing) → turn a leg ≡ Passed f → size_left (less a f) (behind a leg) < size_left a leg
nearer_end a leg f h =
    let p = passes a leg f h in
    nearer (length leg.queue) a.window (length (behind a leg).queue) (less a f).window (one (is_transfer f)) p.shorter (less_window a f) p.window

-- the same, as the code has it
pub far_kept : (a : Allowed) (before : Held) (old xs ys : List Passing) (leg now : Held) (still : Allowed) → ys ≡ xs → now ≡ leg → IsFar a before old xs leg still → IsFar a before old ys now still
far_kept a before old xs ys leg now still items same far =
    let P : List Passing → Type 0 = λ zs. IsFar a before old zs now still in
    let Q : Held → Type 0 = λ l. IsFar a before old xs l still in
    subst P (sym items) (subst Q (sym same) far)

pub far_on : (a : Allowed) (before : Held) (old xs ys zs : List Passing) (leg now : Held) (still then_ : Allowed) (f : Passing) → ys ≡ xs → zs ≡ ys ++ f ∷ [] → turn still leg ≡ Passed f → now ≡ behind still leg → then_ ≡ less still f → IsFar a before old xs leg still → IsFar a before old zs now then_
far_on a before old xs ys zs leg now still then_ f kept pushed goes same less_is far =
    let P : List Passing → Type 0 = λ ws. IsFar a before old ws now then_ in
    let Q : Held → Type 0 = λ l. IsFar a before old (xs ++ f ∷ []) l then_ in
    let R : Allowed → Type 0 = λ b. IsFar a before old (xs ++ f ∷ []) (behind still leg) b in
    subst P (sym (pushed ∙ ap (λ ws. ws ++ f ∷ []) kept)) (subst Q (sym same) (subst R (sym less_is) (goes_on a before old xs leg still f goes far)))

pub stops : (still : Allowed) (leg now : Held) (s : Stop) → turn still leg ≡ Stopped s → now ≡ behind still leg → turn still now ≡ Stopped s
stops still leg now s h same = ap (turn still) (same ∙ stays_put still leg s h) ∙ h

pub nearer_as : (still then_ : Allowed) (leg now : Held) (f : Passing) → turn still leg ≡ Passed f → now ≡ behind still leg → then_ ≡ less still f → size_left then_ now < size_left still leg
nearer_as still then_ leg now f goes same less_is =
    let P : Held → Type 0 = λ l. size_left then_ l < size_left still leg in
    let Q : Allowed → Type 0 = λ b. size_left b (behind still leg) < size_left still leg in
    subst P (sym same) (subst Q (sym less_is) (nearer_end still leg f goes))
