-- Whether a batch is full, as a test.
use Rattle.std.proofs.Common.{◌≡◌, ℕ, ◌+◌, ◌<◌, ◌&&◌, Bool, true, false, List, refl, sym, arith}
use Rattle.std.specs.Prelude.{nat_lt, sum_by, IsTrue, ◌↔◌}
use Rattle.std.proofs.lemmas.Bool.Decides.{nat_tests}
use Rattle.book_model.specs.declared.act.Act.{Act}
use Rattle.gate_journal.specs.Reserve.{growth, release, journal_limit, batch_bytes, IsFull, is_full}
use Rattle.journal_codec.proofs.Tools.{is_less}

less : (a b : ℕ) → a < b → nat_lt a b ≡ true
less a b l = grind (arith, nat_tests)

-- two tests, and what each decides
both : (s t : Bool) → s ≡ true → t ≡ true → (s && t) ≡ true
both true true a b = refl
both true false a b = absurd cc
both false t a b = absurd cc

first_of : (s t : Bool) → (s && t) ≡ true → s ≡ true
first_of true t e = refl
first_of false t e = absurd cc

second_of : (s t : Bool) → (s && t) ≡ true → t ≡ true
second_of true t e = e
second_of false t e = absurd cc

-- a batch that costs more than nothing, and one that costs more than the room
abbrev costs : List Act → Bool
costs acts = nat_lt (sum_by release acts) (batch_bytes acts + sum_by growth acts)

abbrev exceeds : ℕ → ℕ → List Act → Bool
exceeds used kept acts = nat_lt (journal_limit + sum_by release acts) (batch_bytes acts + sum_by growth acts + used + kept)

pub full_tested : (used kept : ℕ) (acts : List Act) → IsFull used kept acts → is_full used kept acts ≡ true
full_tested used kept acts full = both (costs acts) (exceeds used kept acts) (less _ _ full.0) (less _ _ full.1)

pub test_full : (used kept : ℕ) (acts : List Act) → is_full used kept acts ≡ true → IsFull used kept acts
test_full used kept acts t = (
  is_less _ _ (first_of (costs acts) (exceeds used kept acts) t),
  is_less _ _ (second_of (costs acts) (exceeds used kept acts) t),
)

pub not_full_tested : (used kept : ℕ) (acts : List Act) → (IsFull used kept acts → ⊥) → is_full used kept acts ≡ false
not_full_tested used kept acts fits = by_bool (is_full used kept acts) refl
  where
    by_bool : (b : Bool) → is_full used kept acts ≡ b → b ≡ false
    by_bool true e = absurd (fits (test_full used kept acts e))
    by_bool false e = refl

pub tested_by : (used kept : ℕ) (acts : List Act) (full : Bool) → (IsTrue full ↔ IsFull used kept acts) → full ≡ is_full used kept acts
tested_by used kept acts true h = sym (full_tested used kept acts (h.0 refl))
tested_by used kept acts false h = sym (not_full_tested used kept acts (λ full. let no = h.1 full in absurd cc))
