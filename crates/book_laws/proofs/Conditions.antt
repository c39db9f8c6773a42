-- What an act that applies shows of the book.
use Rattle.std.proofs.Common.{◌≡◌, refl, ℕ, ◌<◌, ◌≤◌, Bool, true, false, not, List, length, arith, Option, Some, None}
use Rattle.std.proofs.lemmas.Bool.Decides.{nat_tests}
use Rattle.std.specs.Prelude.{◌==◌, nat_lt, nat_le, count_by, is_none}
use Rattle.std.specs.List.{list_any}
use Rattle.std.proofs.lemmas.Bool.{eqb-true, not-true}
use Rattle.amqp_model.specs.declared.state.DeliveryState.{DeliveryState}
use Rattle.amqp_model.specs.PerfSpelling.{state_spelling}
use Rattle.book_model.specs.declared.act.Admission.{Admission}
use Rattle.book_model.specs.declared.fault.BookFault.{BookFault}
use Rattle.book_model.specs.declared.fault.BookFault.TheVariants.{NoTerminus, NoRow, AlreadyDecided, TagInUse, Limit}
use Rattle.book_model.specs.declared.row.Row.{Row}
use Rattle.book_model.specs.declared.terminus.LinkRole.TheVariants.{Producer}
use Rattle.book_model.specs.declared.terminus.Terminus.{Terminus}
use Rattle.book_model.specs.Book.{BookView, unless, make_refusal, admit_refusal, decide_refusal, forget_refusal, drop_refusal, same_key, has_short_texts, has_role, may_bind, has_tag, is_from, is_undecided, undecided_for, terminus_at}

pub holds : (b : Bool) (f : BookFault) (next : Option BookFault) → unless b f next ≡ None → b ≡ true
holds true f next h = refl
holds false f next h = absurd cc

pub then_holds : (b : Bool) (f : BookFault) (next : Option BookFault) → unless b f next ≡ None → next ≡ None
then_holds true f next h = h
then_holds false f next h = absurd cc

pub record MayMake (b : BookView) (t : Terminus) : Type 0 where
  pub next : t.number.0 ≡ b.next_terminus
  pub new : list_any (λ u. same_key u.key t.key) b.termini ≡ false
  pub few : length b.termini < 1024
  pub short : has_short_texts t ≡ true

pub below : (n m : ℕ) → nat_lt n m ≡ true → n < m
below n m h = grind (arith, nat_tests)

pub at_most : (n m : ℕ) → nat_le n m ≡ true → n ≤ m
at_most n m h = grind (arith, nat_tests)

pub may_make : (b : BookView) (t : Terminus) → make_refusal b t ≡ None → MayMake b t
may_make b t h =
    let short : Option BookFault = unless (nat_lt (length b.termini) 1024) Limit
    (unless (has_short_texts t) Limit None) in
    let new : Option BookFault =
    unless (not (list_any (λ (u : Terminus). same_key u.key t.key) b.termini)) NoTerminus short in
    let free : new ≡ None = then_holds (t.number.0 == b.next_terminus) NoTerminus new h in
    let fits : short ≡ None =
    then_holds (not (list_any (λ (u : Terminus). same_key u.key t.key) b.termini)) NoTerminus short free in
    record {
      next = eqb-true t.number.0 b.next_terminus (holds (t.number.0 == b.next_terminus) NoTerminus new h);
      new = not-true (list_any (λ (u : Terminus). same_key u.key t.key) b.termini)
          (holds (not (list_any (λ (u : Terminus). same_key u.key t.key) b.termini)) NoTerminus short free);
      few = below (length b.termini) 1024
          (holds (nat_lt (length b.termini) 1024) Limit (unless (has_short_texts t) Limit None) fits);
      short = holds (has_short_texts t) Limit None
          (then_holds (nat_lt (length b.termini) 1024) Limit (unless (has_short_texts t) Limit None) fits);
    }

pub record MayAdmit (b : BookView) (a : Admission) : Type 0 where
  pub producer : has_role Producer (terminus_at a.producer.0 b.termini) ≡ true
  pub consumer : may_bind a.consumer b.termini ≡ true
  pub next : a.row.0 ≡ b.next_row
  pub new : list_any (has_tag a.producer.0 a.tag.items) b.rows ≡ false
  pub few : length b.rows < 4096
  pub few_from : count_by (is_from a.producer.0) b.rows < 64
  pub few_waiting : undecided_for a.consumer b.rows < 64
  pub short : length a.payload ≤ 65536

pub may_admit : (b : BookView) (a : Admission) → admit_refusal b a ≡ None → MayAdmit b a
may_admit b a h =
    let payload : Option BookFault = unless (nat_le (length a.payload) 65536) Limit None in
    let waiting : Option BookFault = unless (nat_lt (undecided_for a.consumer b.rows) 64) Limit payload in
    let from : Option BookFault = unless (nat_lt (count_by (is_from a.producer.0) b.rows) 64) Limit waiting in
    let full : Option BookFault = unless (nat_lt (length b.rows) 4096) Limit from in
    let taken : Option BookFault = unless (not (list_any (has_tag a.producer.0 a.tag.items) b.rows)) TagInUse full in
    let row : Option BookFault = unless (a.row.0 == b.next_row) NoRow taken in
    let bound : Option BookFault = unless (may_bind a.consumer b.termini) NoTerminus row in
    let binds : bound ≡ None = then_holds (has_role Producer (terminus_at a.producer.0 b.termini)) NoTerminus bound h in
    let next : row ≡ None = then_holds (may_bind a.consumer b.termini) NoTerminus row binds in
    let new : taken ≡ None = then_holds (a.row.0 == b.next_row) NoRow taken next in
    let fits : full ≡ None =
    then_holds (not (list_any (has_tag a.producer.0 a.tag.items) b.rows)) TagInUse full new in
    let fits_from : from ≡ None = then_holds (nat_lt (length b.rows) 4096) Limit from fits in
    let fits_waiting : waiting ≡ None =
    then_holds (nat_lt (count_by (is_from a.producer.0) b.rows) 64) Limit waiting fits_from in
    record {
      producer = holds (has_role Producer (terminus_at a.producer.0 b.termini)) NoTerminus bound h;
      consumer = holds (may_bind a.consumer b.termini) NoTerminus row binds;
      next = eqb-true a.row.0 b.next_row (holds (a.row.0 == b.next_row) NoRow taken next);
      new = not-true (list_any (has_tag a.producer.0 a.tag.items) b.rows)
          (holds (not (list_any (has_tag a.producer.0 a.tag.items) b.rows)) TagInUse full new);
      few = below (length b.rows) 4096 (holds (nat_lt (length b.rows) 4096) Limit from fits);
      few_from = below (count_by (is_from a.producer.0) b.rows) 64
          (holds (nat_lt (count_by (is_from a.producer.0) b.rows) 64) Limit waiting fits_from);
      few_waiting = below (undecided_for a.consumer b.rows) 64
          (holds (nat_lt (undecided_for a.consumer b.rows) 64) Limit payload fits_waiting);
      short = at_most (length a.payload) 65536
          (holds (nat_le (length a.payload) 65536) Limit None
          (then_holds (nat_lt (undecided_for a.consumer b.rows) 64) Limit payload fits_waiting));
    }

open_row : (o : Option DeliveryState) → is_none o ≡ true → o ≡ None
open_row None h = refl
open_row (Some s) h = absurd cc

-- the row of a Decide is there and undecided, and the outcome is short
pub may_decide : (o : Option Row) (outcome : DeliveryState) → decide_refusal o outcome ≡ None
    → (r : Row) × (o ≡ Some r) × (r.outcome ≡ None) × (length (state_spelling outcome) ≤ 400)
may_decide None outcome h = absurd cc
may_decide (Some r) outcome h = (
  r,
  refl,
  open_row r.outcome
      (holds (is_undecided r) AlreadyDecided (unless (nat_le (length (state_spelling outcome)) 400) Limit None) h),
  at_most (length (state_spelling outcome)) 400
      (holds (nat_le (length (state_spelling outcome)) 400) Limit None
      (then_holds (is_undecided r) AlreadyDecided (unless (nat_le (length (state_spelling outcome)) 400) Limit None) h)),
)

-- the row of a Forget is there and not forgotten
pub may_forget : (o : Option Row) → forget_refusal o ≡ None → (r : Row) × (o ≡ Some r) × (r.forgotten ≡ false)
may_forget None h = absurd cc
may_forget (Some r) h = (r, refl, not-true r.forgotten (holds (not r.forgotten) NoRow None h))

-- the terminus of a Drop is there
pub may_drop : (o : Option Terminus) (rs : List Row) → drop_refusal o rs ≡ None → (t : Terminus) × (o ≡ Some t)
may_drop None rs h = absurd cc
may_drop (Some t) rs h = (t, refl)
