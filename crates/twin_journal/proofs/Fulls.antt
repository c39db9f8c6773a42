-- Which batches are never too much, that room is never below 0, and whether a batch is too much, as a test.
use Rattle.std.proofs.Common.{◌≡◌, ◌≢◌, ℕ, ◌+◌, ◌<◌, ◌≤◌, ◌&&◌, Bool, true, false, List, [], None, refl, sym, arith}
use Rattle.std.specs.Prelude.{nat_lt, IsTrue, ◌↔◌}
use Rattle.std.proofs.lemmas.Bool.Decides.{nat_tests}
use Rattle.book_model.specs.declared.act.Act.{Act}
use Rattle.book_model.specs.Book.{BookView, empty_book, first_fault, effects}
use Rattle.book_model.specs.Sound.{IsSound}
use Rattle.journal_codec.proofs.Tools.{by_test, is_less, is_not_less}
use Rattle.gate_journal.specs.Reserve.{OnlyRelease, journal_limit, reserve, batch_bytes}
use Rattle.gate_journal.proofs.Releases.{releases_fit}
use Rattle.gate_journal.proofs.Reserves.{acts_follow}
use Rattle.twin_journal.specs.Room.{IsFull, is_full, renewed_bytes}
use Rattle.twin_journal.proofs.Ordered.{sound_is_ordered}
use Rattle.twin_journal.proofs.Sizes.{checkpoint_size_is, checkpoint_grows}

pub releases_are_taken : (b : BookView) (acts : List Act) → IsSound b → first_fault b acts ≡ None → acts ≢ [] → OnlyRelease acts → IsFull b acts → ⊥
releases_are_taken b acts sound applies some only full =
    releases_fit acts some only (omega (arith, full.costs, (acts_follow b acts (sound_is_ordered b sound) applies).sums))

-- the empty book needs nothing
nothing_kept : reserve empty_book ≡ 0
unfolding reserve
nothing_kept = refl

pub new_room : renewed_bytes empty_book + reserve empty_book ≤ journal_limit
new_room = omega (arith, nothing_kept, checkpoint_size_is empty_book)

-- a batch costs nothing, or no more than the room
pub room_after : (b : BookView) (acts : List Act) → IsSound b → first_fault b acts ≡ None → (IsFull b acts → ⊥) → renewed_bytes b + reserve b ≤ journal_limit
    → renewed_bytes (effects b acts) + reserve (effects b acts) ≤ journal_limit
room_after b acts sound applies fits within =
    let grows = checkpoint_grows b acts (sound_is_ordered b sound) applies in
    by_test (nat_lt (reserve b) (batch_bytes acts + reserve (effects b acts)))
    (λ t.
    by_test (nat_lt journal_limit (renewed_bytes b + batch_bytes acts + reserve (effects b acts)))
    (λ u. absurd (fits (record { costs = is_less (reserve b) (batch_bytes acts + reserve (effects b acts)) t; exceeds = is_less journal_limit (renewed_bytes b + batch_bytes acts + reserve (effects b acts)) u })))
    (λ u. omega (arith, grows, is_not_less journal_limit (renewed_bytes b + batch_bytes acts + reserve (effects b acts)) u)))
    (λ t. omega (arith, grows, within, is_not_less (reserve b) (batch_bytes acts + reserve (effects b acts)) t))

-- Two tests, and what each decides.
less : (a b : ℕ) → a < b → nat_lt a b ≡ true
less a b l = grind (arith, nat_tests)

both : (s t : Bool) → s ≡ true → t ≡ true → (s && t) ≡ true
both true true a b = refl
both true false a b = absurd cc
both false t a b = absurd cc

first_of : (s t : Bool) → (s && t) ≡ true → s ≡ true
first_of true t e = refl
first_of false t e = absurd cc

second_of : (s t : Bool) → (s && t) ≡ true → t ≡ true
second_of true t e = e
second_of false t e = absurd cc

-- a batch that costs more than nothing, and one that costs more than the room
abbrev costs : BookView → List Act → Bool
costs b acts = nat_lt (reserve b) (batch_bytes acts + reserve (effects b acts))

abbrev beyond : BookView → List Act → Bool
beyond b acts = nat_lt journal_limit (renewed_bytes b + batch_bytes acts + reserve (effects b acts))

pub full_tested : (b : BookView) (acts : List Act) → IsFull b acts → is_full b acts ≡ true
unfolding is_full
full_tested b acts full = both (costs b acts) (beyond b acts) (less _ _ full.costs) (less _ _ full.exceeds)

pub test_full : (b : BookView) (acts : List Act) → is_full b acts ≡ true → IsFull b acts
unfolding is_full
test_full b acts t = record {
  costs = is_less _ _ (first_of (costs b acts) (beyond b acts) t);
  exceeds = is_less _ _ (second_of (costs b acts) (beyond b acts) t);
}

pub not_full_tested : (b : BookView) (acts : List Act) → (IsFull b acts → ⊥) → is_full b acts ≡ false
not_full_tested b acts fits = by_bool (is_full b acts) refl
  where
    by_bool : (t : Bool) → is_full b acts ≡ t → t ≡ false
    by_bool true e = absurd (fits (test_full b acts e))
    by_bool false e = refl

pub tested_by : (b : BookView) (acts : List Act) (full : Bool) → (IsTrue full ↔ IsFull b acts) → full ≡ is_full b acts
tested_by b acts true h = sym (full_tested b acts (h.0 refl))
tested_by b acts false h = sym (not_full_tested b acts (λ full. let no = h.1 full in absurd cc))
