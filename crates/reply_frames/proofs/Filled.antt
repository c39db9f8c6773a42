-- How much of a rest fits into a frame.
use Rattle.std.proofs.Common.{◌≡◌, ◌≤◌, ◌↔◌, ◌∙◌, true≢false, ℕ, zero, suc, Bool, true, false, List, length, take, Option, Some, None, refl, sym, ap, subst, arith}
use Rattle.std.proofs.lemmas.Grind.{common_steps}
use Rattle.std.specs.Prelude.{min, nat_le, if◌then◌else◌}
use Rattle.amqp_model.specs.declared.perf.Transfer.{Transfer}
use Rattle.amqp_model.specs.ItemSpelling.{item_spelling}
use Rattle.amqp_model.specs.Room.{transfer_frame, FitsInto}
use Rattle.router_trace.specs.LinkFrames.{fits}
use Rattle.router_trace.specs.Numbers.{most_of}
use Rattle.router_trace.specs.DeliveryFrames.{with_more, filled, next_frame}

-- a test that no number passes
none_of : (n : ℕ) (passes : ℕ → Bool) → ((k : ℕ) → k ≤ n → passes k ≡ false) → 0 ≡ most_of n passes
unfolding most_of
none_of zero passes h = refl
none_of (suc n) passes h = rw (h (suc n) (omega arith)) (none_of n passes (λ k l. h k (omega arith)))

by_test : (n room : ℕ) (test : Bool) (less : ℕ) → test ≡ nat_le (suc n) room → min room n ≡ less → min room (suc n) ≡ (if test then suc n else less)
by_test n room true less is e = grind (arith, is)
by_test n room false less is e = grind (arith, is, e)

-- a test that the numbers up to one pass
up_to : (n room : ℕ) (passes : ℕ → Bool) → ((k : ℕ) → k ≤ n → passes k ≡ nat_le k room) → min room n ≡ most_of n passes
unfolding most_of
up_to zero room passes h = omega arith
up_to (suc n) room passes h = by_test n room (passes (suc n)) (most_of n passes) (h (suc n) (omega arith)) (up_to n room passes (λ k l. h k (omega arith)))

never : (a b : ℕ) (test : Bool) → nat_le a b ≡ test → (a ≤ b → ⊥) → test ≡ false
never a b true is h = let le : a ≤ b = grind (arith, is) in absurd (h le)
never a b false is h = refl

alike : (a b k r : ℕ) (test other : Bool) → nat_le a b ≡ test → nat_le k r ≡ other → (a ≤ b) ↔ (k ≤ r) → test ≡ other
alike a b k r true true is so h = refl
alike a b k r false false is so h = refl
alike a b k r true false is so h = let le : k ≤ r = h.0 (grind (arith, is)) in absurd (grind (arith, so, le))
alike a b k r false true is so h = let le : a ≤ b = h.1 (grind (arith, so)) in absurd (grind (arith, is, le))

-- what the room of a transfer states
abbrev IsRoom : Transfer → ℕ → Option ℕ → Type 0
IsRoom x most room = (channel : ℕ) (payload : List ℕ) → (length (item_spelling (transfer_frame channel x payload)) ≤ most) ↔ FitsInto room (length payload)

taken : (n : ℕ) (rest : List ℕ) → n ≤ length rest → length (take n rest) ≡ n
taken n rest h = grind (arith, common_steps, h)

pub most_without_room : (own most : ℕ) (x : Transfer) (rest : List ℕ) (room : Option ℕ) → IsRoom x most room → room ≡ None
    → 0 ≡ most_of (length rest) (λ n. fits most (transfer_frame own x (take n rest)))
most_without_room own most x rest room h is =
    let known : IsRoom x most None = subst (λ r. IsRoom x most r) is h in
    none_of (length rest) _ (λ k l. never (length (item_spelling (transfer_frame own x (take k rest)))) most _ refl (known own (take k rest)).0)

pub most_in_room : (own most count : ℕ) (x : Transfer) (rest : List ℕ) (room : ℕ) (at : Option ℕ) → IsRoom x most at → at ≡ Some room → count ≡ min room (length rest)
    → count ≡ most_of (length rest) (λ n. fits most (transfer_frame own x (take n rest)))
most_in_room own most count x rest room at h is e =
    let known : IsRoom x most (Some room) = subst (λ r. IsRoom x most r) is h in
    e ∙ up_to (length rest) room _ (λ k l. alike (length (item_spelling (transfer_frame own x (take k rest)))) most (length (take k rest)) room _ _ refl refl (known own (take k rest))
    ∙ ap (λ n. nat_le n room) (taken k rest l))

otherwise : {A : Type 0} (test : Bool) (whole part : A) → test ≡ false → part ≡ (if test then whole else part)
otherwise true whole part is = absurd (true≢false is)
otherwise false whole part is = refl

-- if the rest doesn't fit, the frame has the part of it that does
pub frame_of_part : (largest own : ℕ) (x : Transfer) (rest part : List ℕ) (whole : Bool) → whole ≡ fits largest (transfer_frame own x rest) → whole ≡ false
    → part ≡ take (filled largest own x rest) rest → transfer_frame own (with_more x) part ≡ next_frame largest own x rest
frame_of_part largest own x rest part whole is no_room e =
    ap (λ p. transfer_frame own (with_more x) p) e ∙ otherwise (fits largest (transfer_frame own x rest)) _ _ (sym is ∙ no_room)
