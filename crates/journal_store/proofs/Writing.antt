-- Acts that can be written.
use Rattle.std.specs.Prelude.{if◌then◌else◌}
use Rattle.std.proofs.Common.{◌≡◌, ◌≢◌, ◌≤◌, true, false, List, [], ◌∷◌, length, None, refl, ap, arith, length-append}
use Rattle.book_model.specs.declared.act.Act.{Act}
use Rattle.book_model.specs.declared.act.Act.TheVariants.{Make, Drop}
use Rattle.book_model.specs.declared.terminus.Terminus.{Terminus}
use Rattle.book_model.specs.declared.terminus.TerminusNumber.{TerminusNumber}
use Rattle.book_model.specs.Book.{BookView, refusal, make_refusal, drop_refusal, terminus_at, first_fault, effects}
use Rattle.book_model.specs.Sound.{IsSound}
use Rattle.journal_codec.specs.Batches.{HasOutcome}
use Rattle.journal_codec.specs.Format.{act_bytes, acts_bytes}
use Rattle.gate_journal.specs.Reserve.{reserve}
use Rattle.twin_journal.specs.Journal.{is_due_in}
use Rattle.twin_journal.specs.Room.{IsFull, is_full}
use Rattle.twin_journal.proofs.Fulls.{not_full_tested}
use Rattle.journal_store.specs.Lost.{start_acts}
use Rattle.journal_store.specs.declared.store.Store.{Store}
use Rattle.journal_store.specs.Store.{Writable, exceeds, journal_of, book_of, count_of, base_of, base_after}
use Rattle.journal_store.proofs.Ones.{one_applies, make_small, drop_small}
use Rattle.journal_store.proofs.Started.{start_fits}

pub none_writable : (b : BookView) → Writable b []
unfolding first_fault
none_writable b = record { applies = refl; small = omega arith; outcomes = tt }

one_writable : (b : BookView) (act : Act) → refusal b act ≡ None → length (act_bytes act) ≤ 4194304 → HasOutcome act → Writable b (act ∷ [])
one_writable b act applies small outcome = record {
  applies = one_applies b act applies;
  small = omega (arith, small, length-append (act_bytes act) (acts_bytes []));
  outcomes = (outcome, tt);
}

pub make_writable : (b : BookView) (x : Terminus) → make_refusal b x ≡ None → Writable b (Make x ∷ [])
make_writable b x applies = one_writable b (Make x) applies (make_small b x applies) tt

pub drop_writable : (b : BookView) (n : TerminusNumber) → drop_refusal (terminus_at n.0 b.termini) b.rows ≡ None → Writable b (Drop n ∷ [])
drop_writable b n applies = one_writable b (Drop n) applies (drop_small n) tt

-- a journal is never too full for what a start decides
pub start_never_exceeds : (b : BookView) → IsSound b → exceeds b (start_acts b) ≡ false
start_never_exceeds b sound = by_acts (start_acts b) (start_fits b sound)
  where
    by_acts : (acts : List Act) → (acts ≢ [] → IsFull b acts → ⊥) → exceeds b acts ≡ false
    by_acts [] fits = refl
    by_acts (act ∷ acts) fits = not_full_tested b (act ∷ acts) (fits (λ e. absurd cc))

-- the test of some acts, and that of none
pub some_exceed : (b : BookView) (acts : List Act) → acts ≢ [] → exceeds b acts ≡ is_full b acts
some_exceed b [] some = absurd (some refl)
some_exceed b (act ∷ acts) some = refl

-- where a checkpoint is due before some acts
pub base_of_some : {T : Type 0} (s : Store T) (acts : List Act) → acts ≢ []
    → (if is_due_in (journal_of s) acts (reserve (effects (book_of s) acts)) then count_of s else base_of s) ≡ base_after s acts
base_of_some s [] some = absurd (some refl)
base_of_some s (act ∷ acts) some = refl

pub exceeding_is_full : (b : BookView) (acts : List Act) → exceeds b acts ≡ true → is_full b acts ≡ true
exceeding_is_full b [] e = absurd cc
exceeding_is_full b (act ∷ acts) e = e

pub some_of : (acts : List Act) → 1 ≤ length acts → acts ≢ []
some_of acts some e = omega (arith, some, ap length e)
