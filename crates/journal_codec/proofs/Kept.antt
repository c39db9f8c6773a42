-- What a batch keeps of an outcome.
use Rattle.std.proofs.Common.{◌≡◌, ℕ, ◌≤◌, Bool, true, false, length, Some, None, Result, Ok, Err, refl, sym, ap, arith}
use Rattle.std.specs.Prelude.{nat_le, if◌then◌else◌}
use Rattle.std.proofs.lemmas.Bool.Decides.{nat_tests}
use Rattle.amqp_model.specs.declared.state.DeliveryState.{DeliveryState}
use Rattle.amqp_model.specs.PerfSpelling.{state_spelling}
use Rattle.journal_codec.specs.declared.read.ReadFault.{ReadFault}
use Rattle.journal_codec.specs.Batches.{IsOutcome}
use Rattle.journal_codec.specs.Outcome.{kept_outcome, read_or_none}
use Rattle.journal_codec.specs.Reading.{outcome_of}
use Rattle.journal_codec.proofs.Back.{outcome_back}
use Rattle.journal_codec.proofs.Forth.{outcome_forth}

short : (n : ℕ) → nat_le n 400 ≡ true → n ≤ 400
short n t = grind (arith, nat_tests)

is_short : (n : ℕ) → n ≤ 400 → nat_le n 400 ≡ true
is_short n l = grind (arith, nat_tests)

-- what is known of an outcome that is kept
pub record IsKept (s o : DeliveryState) : Type 0 where
  pub outcome : IsOutcome o
  pub short : length (state_spelling o) ≤ 400
  pub same : state_spelling o ≡ state_spelling s

was_read : (r : Result DeliveryState ReadFault) (o : DeliveryState) → read_or_none r ≡ Some o → r ≡ Ok o
was_read (Ok x) o e = (let same : x ≡ o = cc in ap (λ (y : DeliveryState). Ok y) same)
was_read (Err f) o e = absurd cc

pub is_kept : (s o : DeliveryState) → kept_outcome s ≡ Some o → IsKept s o
is_kept s o e = by_test (nat_le (length (state_spelling s)) 400) refl e
  where
    by_test : (b : Bool) → nat_le (length (state_spelling s)) 400 ≡ b → (if b then read_or_none (outcome_of (state_spelling s)) else None) ≡ Some o → IsKept s o
    by_test true is h =
        let read = outcome_forth (state_spelling s) o (was_read (outcome_of (state_spelling s)) o h) in
        record {
          outcome = read.outcome;
          short = (let same = ap length read.is in let few = short (length (state_spelling s)) is in omega (arith, same, few));
          same = sym read.is;
        }
    by_test false is h = absurd cc

-- an outcome that is short is kept as it is
pub keeps_itself : (s : DeliveryState) → IsOutcome s → length (state_spelling s) ≤ 400 → kept_outcome s ≡ Some s
keeps_itself s is few = rw (is_short (length (state_spelling s)) few, outcome_back s is) refl
