-- The figures of an end that receives follow what happens on its link.
use Rattle.std.proofs.Common.{◌≡◌, ◌∙◌, ◌<◌, ℕ, Bool, true, false, refl, sym, ap, subst, ◌+◌, ◌%◌, ◌^◌, ◌++◌, List, [], ◌∷◌, length, Option, Some, None, arith, length-append}
use Rattle.std.specs.Prelude.{not, ◌&&◌, nat_eq, nat_lt, is_none, option_map, if◌then◌else◌}
use Rattle.amqp_link.specs.declared.grant.Grant.{Grant}
use Rattle.amqp_link.specs.declared.part.Part.{Part}
use Rattle.amqp_link.specs.declared.part.Part.TheVariants as part
use Rattle.amqp_link.specs.Credit as link
use Rattle.amqp_link.specs.Credit.{left_of}
use Rattle.amqp_link.proofs.Uses.{skipped, count_started}
use Rattle.amqp_link.specs.Deliveries.{Frame, bytes, still, settled, delivery, is_too_large, part_of}
use Rattle.amqp_link.specs.Gathering.{Gathered, RecvFigures, fitting, gathered, joined, with_frame, settled_now, whole, more, turned, next}
use Rattle.amqp_link.specs.Receiving.{Received, TheirAttach, OurGrant, TheirCount, TheirTransfer, TheirSettlement, middle, is_empty, seen, unused, is_beyond, given, behind}
use Rattle.amqp_link.specs.Figures.{Receives, recv_end_of, unused_at, awaiting_at, starts_beyond, count_after_transfer, after_our_grant, after_count, after_settlement, given_by, after_transfer}

-- bytes that follow too many are too many
longer : (b payload : List ℕ) → nat_lt 65536 (length b) ≡ true → nat_lt 65536 (length (b ++ payload)) ≡ true
longer b payload h = let sum = length-append b payload in let more : 65536 < length (b ++ payload) = grind arith in grind arith

still_fitting : (b payload : List ℕ) → joined (fitting b) payload ≡ fitting (b ++ payload)
still_fitting b payload = by_test (nat_lt 65536 (length b)) refl
  where
    by_test : (t : Bool) → nat_lt 65536 (length b) ≡ t → joined (if t then None else Some b) payload ≡ fitting (b ++ payload)
    by_test true e = rw (longer b payload e) refl
    by_test false e = refl

abbrev of_frames : Frame → List Frame → Gathered
of_frames f fs = record { delivery = delivery f fs; kept = fitting (bytes (f ∷ fs)) }

-- what a frame joins to those before it
frame_joined : (f g : Frame) (fs : List Frame) → with_frame f (of_frames g fs) ≡ of_frames f (g ∷ fs)
frame_joined f g fs = let P : Option (List ℕ) → Gathered = λ k. record { delivery = delivery f (g ∷ fs); kept = k } in ap P (still_fitting (bytes (g ∷ fs)) f.payload)

abbrev Turn : Type 0
Turn = Part × Option Gathered

abbrev turn : Frame → List Frame → Turn
turn f fs = (part_of f fs, gathered (still f fs))

turned_by : (f : Frame) (fs : List Frame) (aborted goes large : Bool) (b : List ℕ) →
    (let kept : Option (List ℕ) = if large then None else Some b in
    let result : Turn = if aborted then (part.Aborted, None) else if goes then (more kept, Some (of_frames f fs)) else (whole (delivery f fs) kept, None) in
    let wanted : Turn = ((if aborted then part.Aborted else if large then part.TooLarge else if goes then part.More else part.Whole (delivery f fs) b), gathered (if goes && not aborted then f ∷ fs else [])) in
    result ≡ wanted)
turned_by f fs true true large b = refl
turned_by f fs true false large b = refl
turned_by f fs false true true b = refl
turned_by f fs false true false b = refl
turned_by f fs false false true b = refl
turned_by f fs false false false b = refl

turned_is : (f : Frame) (fs : List Frame) → turned f (of_frames f fs) ≡ turn f fs
turned_is f fs = turned_by f fs f.transfer.aborted f.transfer.more (is_too_large (f ∷ fs)) (bytes (f ∷ fs))

pub next_is : (f : Frame) (fs : List Frame) → next f (gathered fs) ≡ turn f fs
next_is f [] = turned_is f []
next_is f (g ∷ fs) = ap (turned f) (frame_joined f g fs) ∙ turned_is f (g ∷ fs)

none_in_the_middle : (fs : List Frame) → is_none (gathered fs) ≡ is_empty fs
none_in_the_middle [] = refl
none_in_the_middle (f ∷ fs) = refl

none_kept : (e : RecvFigures) (t : Received) → Receives e t → is_none e.middle ≡ is_empty (middle t)
none_kept e t r = ap is_none r.middle ∙ none_in_the_middle (middle t)

unused_same : (e : RecvFigures) (t : Received) → Receives e t → unused_at e ≡ unused t
unused_same e t r = ap (λ g. left_of g e.count) r.granted ∙ ap (λ n. left_of (link.granted (seen t)) n) r.count

beyond_same : (e : RecvFigures) (t : Received) → Receives e t → starts_beyond e ≡ is_beyond t
beyond_same e t r = ap (λ b. b && nat_eq (unused_at e) 0) (none_kept e t r) ∙ ap (λ n. is_empty (middle t) && nat_eq n 0) (unused_same e t r)

next_same : (f : Frame) (e : RecvFigures) (t : Received) → Receives e t → next f e.middle ≡ turn f (middle t)
next_same f e t r = ap (next f) r.middle ∙ next_is f (middle t)

pub given_same : (f : Frame) (e : RecvFigures) (t : Received) → Receives e t → given_by f e ≡ given f t
given_same f e t r =
    let P : Bool → Part = λ b. if b then part.BeyondCredit else (next f e.middle).0 in
    let Q : Turn → Part = λ p. if is_beyond t then part.BeyondCredit else p.0 in
    ap P (beyond_same e t r) ∙ ap Q (next_same f e t r)

count_by_start : (empty : Bool) (n : ℕ) (t : Received) → n ≡ link.count (seen t) → (if empty then (n + 1) % 2 ^ 32 else n) ≡ link.count (if empty then link.Started ∷ seen t else seen t)
count_by_start true n t e = ap (λ m. (m + 1) % 2 ^ 32) e ∙ sym (count_started (seen t))
count_by_start false n t e = e

granted_by_start : (empty : Bool) (t : Received) → link.granted (seen t) ≡ link.granted (if empty then link.Started ∷ seen t else seen t)
granted_by_start true t = refl
granted_by_start false t = refl

taken_in : (f : Frame) (e : RecvFigures) (t : Received) → Receives e t → Receives (record e { count = count_after_transfer e; middle = (next f e.middle).1 }) (TheirTransfer f ∷ t)
taken_in f e t r = record {
  count = ap (λ b. if b then (e.count + 1) % 2 ^ 32 else e.count) (none_kept e t r) ∙ count_by_start (is_empty (middle t)) e.count t r.count;
  granted = r.granted ∙ granted_by_start (is_empty (middle t)) t;
  middle = let P : Turn → Option Gathered = λ p. p.1 in ap P (next_same f e t r);
}

pub after_same : (f : Frame) (e : RecvFigures) (t : Received) → Receives e t → Receives (after_transfer f e) (behind f t)
after_same f e t r = by_credit (is_beyond t) (starts_beyond e) (beyond_same e t r)
  where
    by_credit : (b c : Bool) → c ≡ b → Receives (if c then e else record e { count = count_after_transfer e; middle = (next f e.middle).1 }) (if b then t else TheirTransfer f ∷ t)
    by_credit true true same = r
    by_credit true false same = absurd (cc)
    by_credit false true same = absurd (cc)
    by_credit false false same = taken_in f e t r

pub grant_told : (g : Grant) (e : RecvFigures) (t : Received) → Receives e t → Receives (after_our_grant g e) (OurGrant g ∷ t)
grant_told g e t r = record {
  count = r.count ∙ ap (λ n. (link.count_told (seen t) + n) % 2 ^ 32) (sym (skipped (link.Granted (Some g.count) g.credit) (link.since link.tells_count (seen t)) refl));
  granted = refl;
  middle = r.middle;
}

none_more : (n : ℕ) → n % 2 ^ 32 ≡ (n + 0) % 2 ^ 32
none_more n = omega arith

pub count_taken : (n : ℕ) (e : RecvFigures) (t : Received) → Receives e t → Receives (after_count n e) (TheirCount n ∷ t)
count_taken n e t r = record { count = none_more n; granted = r.granted; middle = r.middle }

-- a settlement: whatever came first, the newest frame shows it
settled_in_the_middle : (fs : List Frame) → option_map settled_now (gathered fs) ≡ gathered (settled fs)
settled_in_the_middle [] = refl
settled_in_the_middle (f ∷ []) = refl
settled_in_the_middle (f ∷ (g ∷ fs)) = refl

pub settlement_taken : (e : RecvFigures) (t : Received) → Receives e t → Receives (after_settlement e) (TheirSettlement ∷ t)
settlement_taken e t r = record { count = r.count; granted = r.granted; middle = ap (option_map settled_now) r.middle ∙ settled_in_the_middle (middle t) }

pub settlement_noted : (e behind : RecvFigures) (t : Received) → behind ≡ after_settlement e → Receives e t → Receives behind (TheirSettlement ∷ t)
settlement_noted e behind t same r = let P : RecvFigures → Type 0 = λ x. Receives x (TheirSettlement ∷ t) in subst P (sym same) (settlement_taken e t r)

pub just_attached : (n : ℕ) (t : Received) → Receives (awaiting_at n) (TheirAttach n ∷ t)
just_attached n t = record { count = none_more n; granted = refl; middle = refl }

-- An end fits a list exactly where it is the list's end, ...
pub is_recv_end_of : (e : RecvFigures) (t : Received) → Receives e t → e ≡ recv_end_of t
is_recv_end_of e t r = rw (sym r.count, sym r.granted, sym r.middle) refl

pub recv_end_of_fits : (t : Received) → Receives (recv_end_of t) t
recv_end_of_fits t = record { count = refl; granted = refl; middle = refl }

pub receives_as_recv_end_of : (e : RecvFigures) (t : Received) → e ≡ recv_end_of t → Receives e t
receives_as_recv_end_of e t same = let P : RecvFigures → Type 0 = λ x. Receives x t in subst P (sym same) (recv_end_of_fits t)

-- ... and the list's end follows what happens: for a table of ends, which is compared with a view by equality
pub at_attach : (n : ℕ) (t : Received) → awaiting_at n ≡ recv_end_of (TheirAttach n ∷ t)
at_attach n t = is_recv_end_of _ _ (just_attached n t)

pub at_grant : (g : Grant) (t : Received) → after_our_grant g (recv_end_of t) ≡ recv_end_of (OurGrant g ∷ t)
at_grant g t = is_recv_end_of _ _ (grant_told g _ t (recv_end_of_fits t))

pub at_count : (n : ℕ) (t : Received) → after_count n (recv_end_of t) ≡ recv_end_of (TheirCount n ∷ t)
at_count n t = is_recv_end_of _ _ (count_taken n _ t (recv_end_of_fits t))

pub at_settlement : (t : Received) → after_settlement (recv_end_of t) ≡ recv_end_of (TheirSettlement ∷ t)
at_settlement t = is_recv_end_of _ _ (settlement_taken _ t (recv_end_of_fits t))

pub at_transfer : (f : Frame) (t : Received) → after_transfer f (recv_end_of t) ≡ recv_end_of (behind f t)
at_transfer f t = is_recv_end_of _ _ (after_same f _ t (recv_end_of_fits t))

pub given_at_transfer : (f : Frame) (t : Received) → given_by f (recv_end_of t) ≡ given f t
given_at_transfer f t = given_same f _ t (recv_end_of_fits t)
