-- A frame of a delivery carries as much as can be sent.
use Rattle.std.proofs.Common.{◌≡◌, ◌≤◌, ◌<◌, ◌↔◌, ◌∙◌, ℕ, ◌+◌, ◌-◌, zero, suc, Bool, true, false, true≢false, List, [], length, take, drop, take-append-drop, refl, sym, ap, subst, arith}
use Rattle.std.proofs.lemmas.List.{append-nil, length-take-le}
use Rattle.std.specs.Prelude.{nat_le, if◌then◌else◌}
use Rattle.amqp_model.specs.declared.perf.Transfer.{Transfer}
use Rattle.amqp_model.specs.ItemSpelling.{item_spelling}
use Rattle.amqp_model.specs.Room.{transfer_frame}
use Rattle.router_trace.specs.LinkFrames.{fits}
use Rattle.router_trace.specs.Numbers.{most_of}
use Rattle.router_trace.specs.DeliveryFrames.{with_more, part_frame, filled, next_frame}
use Rattle.reply_frames.specs.Filling.{payload_in, has_more, IsBeginning}
use Rattle.reply_frames.proofs.Longer.{more_is_no_shorter}

-- The greatest number that passes.
within_step : (n most : ℕ) (test : Bool) → most ≤ n → (if test then suc n else most) ≤ suc n
within_step n most true le = omega arith
within_step n most false le = omega (arith, le)

most_within : (n : ℕ) (passes : ℕ → Bool) → most_of n passes ≤ n
unfolding most_of
most_within zero passes = omega arith
most_within (suc n) passes = within_step n (most_of n passes) (passes (suc n)) (most_within n passes)

passes_step : (n most : ℕ) (passes : ℕ → Bool) (test : Bool) → passes (suc n) ≡ test → passes most ≡ true → passes (if test then suc n else most) ≡ true
passes_step n most passes true is h = is
passes_step n most passes false is h = h

most_passes : (n : ℕ) (passes : ℕ → Bool) → passes 0 ≡ true → passes (most_of n passes) ≡ true
unfolding most_of
most_passes zero passes h = h
most_passes (suc n) passes h = passes_step n (most_of n passes) passes (passes (suc n)) refl (most_passes n passes h)

below : (n k most : ℕ) (passes : ℕ → Bool) (test : Bool) → nat_le k n ≡ test → passes (suc n) ≡ false → passes k ≡ true → k ≤ suc n → (k ≤ n → k ≤ most) → k ≤ most
below n k most passes true is other h le less = let within : k ≤ n = grind (arith, is) in less within
below n k most passes false is other h le less =
    let same : k ≡ suc n = grind (arith, is, le) in absurd (true≢false (sym h ∙ (ap passes same ∙ other)))

greatest_step : (n k most : ℕ) (passes : ℕ → Bool) (test : Bool) → passes (suc n) ≡ test → passes k ≡ true → k ≤ suc n → (k ≤ n → k ≤ most) → k ≤ (if test then suc n else most)
greatest_step n k most passes true is h le less = le
greatest_step n k most passes false is h le less = below n k most passes (nat_le k n) refl is h le less

most_greatest : (n k : ℕ) (passes : ℕ → Bool) → k ≤ n → passes k ≡ true → k ≤ most_of n passes
unfolding most_of
most_greatest zero k passes le h = le
most_greatest (suc n) k passes le h = greatest_step n k (most_of n passes) passes (passes (suc n)) refl h le (λ less. most_greatest n k passes less h)

-- the whole rest, or a part
pub pick : {A : Type 0} (Q : A → Type 0) (test : Bool) (whole part : A) → (test ≡ true → Q whole) → (test ≡ false → Q part) → Q (if test then whole else part)
pick Q true whole part w p = w refl
pick Q false whole part w p = p refl

abbrev passes_of : ℕ → ℕ → Transfer → List ℕ → ℕ → Bool
passes_of largest own x rest n = fits largest (part_frame own x rest n)

part_fits : (largest own : ℕ) (x : Transfer) (rest : List ℕ) → fits largest (transfer_frame own (with_more x) []) ≡ true
    → fits largest (part_frame own x rest (filled largest own x rest)) ≡ true
part_fits largest own x rest h = most_passes (length rest) (passes_of largest own x rest) h

pub frame_within : (largest own : ℕ) (x : Transfer) (rest : List ℕ) → fits largest (transfer_frame own (with_more x) []) ≡ true
    → fits largest (next_frame largest own x rest) ≡ true
frame_within largest own x rest h = pick (λ i. fits largest i ≡ true) (fits largest (transfer_frame own x rest)) _ _ (λ e. e) (λ e. part_fits largest own x rest h)

pub frame_begins : (largest own : ℕ) (x : Transfer) (rest : List ℕ) → IsBeginning (payload_in (next_frame largest own x rest)) rest
frame_begins largest own x rest =
    pick (λ i. IsBeginning (payload_in i) rest) (fits largest (transfer_frame own x rest)) _ _ (λ e. ([], append-nil rest)) (λ e. (drop (filled largest own x rest) rest, take-append-drop (filled largest own x rest) rest))

pub frame_has_most : (largest own n : ℕ) (x : Transfer) (rest : List ℕ) → n ≤ length rest → fits largest (part_frame own x rest n) ≡ true
    → n ≤ length (payload_in (next_frame largest own x rest))
frame_has_most largest own n x rest le h =
    let passes = passes_of largest own x rest in
    pick (λ i. n ≤ length (payload_in i)) (fits largest (transfer_frame own x rest)) _ _ (λ e. le)
    (λ e. subst (λ k. n ≤ k) (sym (length-take-le (most_of (length rest) passes) rest (most_within (length rest) passes))) (most_greatest (length rest) n passes le h))

fits_shorter : (a b largest : ℕ) → a ≤ b → nat_le b largest ≡ true → nat_le a largest ≡ true
fits_shorter a b largest le h = grind (arith, le, h)

whole_would_fit : (largest own : ℕ) (x : Transfer) (rest : List ℕ) → fits largest (transfer_frame own (with_more x) []) ≡ true → x.more ≡ false
    → take (filled largest own x rest) rest ≡ rest → fits largest (transfer_frame own x rest) ≡ true
whole_would_fit largest own x rest h last same =
    fits_shorter (length (item_spelling (transfer_frame own x rest))) (length (item_spelling (transfer_frame own (with_more x) rest))) largest (more_is_no_shorter own x rest last)
    (subst (λ (p : List ℕ). fits largest (transfer_frame own (with_more x) p) ≡ true) same (part_fits largest own x rest h))

pub frame_has_all : (largest own : ℕ) (x : Transfer) (rest : List ℕ) → fits largest (transfer_frame own (with_more x) []) ≡ true → x.more ≡ false
    → (has_more (next_frame largest own x rest) ≡ false) ↔ (payload_in (next_frame largest own x rest) ≡ rest)
frame_has_all largest own x rest h last =
    pick (λ i. (has_more i ≡ false) ↔ (payload_in i ≡ rest)) (fits largest (transfer_frame own x rest)) _ _ (λ e. ((λ _. refl), (λ _. last)))
    (λ e. ((λ more. absurd (true≢false more)), (λ same. absurd (true≢false (sym (whole_would_fit largest own x rest h last same) ∙ e)))))

longer_than : (len largest : ℕ) → nat_le len largest ≡ false → largest < len
longer_than len largest h = grind (arith, h)

no_longer : (len largest : ℕ) → len ≤ largest → nat_le len largest ≡ true
no_longer len largest h = grind (arith, h)

-- A transfer of at most this many bytes beside its payload: if more is to come, no other byte stays free.
pub frame_carries : (largest own beside : ℕ) (x : Transfer) (rest : List ℕ) → x.more ≡ false
    → ((payload : List ℕ) → length (item_spelling (transfer_frame own (with_more x) payload)) ≤ beside + length payload)
    → beside ≤ largest → has_more (next_frame largest own x rest) ≡ true → largest ≤ beside + length (payload_in (next_frame largest own x rest))
frame_carries largest own beside x rest last short room =
    let passes = passes_of largest own x rest in
    pick (λ i. has_more i ≡ true → largest ≤ beside + length (payload_in i)) (fits largest (transfer_frame own x rest)) _ _ (λ e more. absurd (true≢false (sym more ∙ last)))
    (λ e more.
    let long : largest < length (item_spelling (transfer_frame own x rest)) = longer_than _ _ e in
    let n = largest - beside in
    let le : n ≤ length rest = omega (arith, long, more_is_no_shorter own x rest last, short rest) in
    let fitting : passes n ≡ true = no_longer _ _ (omega (arith, room, short (take n rest), length-take-le n rest le)) in
    let most = most_greatest (length rest) n passes le fitting in
    omega (arith, room, most, length-take-le (most_of (length rest) passes) rest (most_within (length rest) passes)))
