-- The acts of an event apply to the book, so its numbers go on rising.
use Rattle.std.proofs.Common.{◌≡◌, sym, refl, List, []}
use Rattle.std.specs.Prelude.{Option, Some, None, is_none}
use Rattle.book_model.specs.declared.act.Act.{Act}
use Rattle.book_model.specs.declared.act.Act.TheVariants.{Make, Admit, Drop}
use Rattle.book_model.specs.declared.act.Admission.{Admission}
use Rattle.book_model.specs.declared.act.Decision.{Decision}
use Rattle.book_model.specs.declared.fault.BookFault.{BookFault}
use Rattle.book_model.specs.declared.row.RowNumber.{RowNumber}
use Rattle.book_model.specs.Book.{BookView, refusal, effects, first_fault, make_refusal, drop_refusal, admit_refusal, terminus_at}
use Rattle.gate_journal.specs.Ordered.{IsOrdered}
use Rattle.gate_journal.proofs.Reserves.{acts_follow}
use Rattle.journal_store.specs.declared.acting.TerminusAct.{TerminusAct}
use Rattle.journal_store.specs.declared.acting.TerminusAct.TheVariants as terminus
use Rattle.journal_store.specs.Acting.{settles, unless_refused, terminus_acts, event_acts as settled_acts, admission_acts}
use Rattle.journal_store.proofs.Makes.{applies_more}
use Rattle.journal_store.proofs.Ones.{one_applies}
use Rattle.journal_store.proofs.Settled.{settles_leave}

nothing_applies : (b : BookView) → first_fault b [] ≡ None
unfolding first_fault
nothing_applies b = refl

unless_applies : (b : BookView) (act : Act) (fault : Option BookFault) → fault ≡ refusal b act → first_fault b (unless_refused (is_none fault) act) ≡ None
unless_applies b act None is = one_applies b act (sym is)
unless_applies b act (Some f) is = nothing_applies b

terminus_applies : (b : BookView) (x : Option TerminusAct) → first_fault b (terminus_acts b x) ≡ None
terminus_applies b None = nothing_applies b
terminus_applies b (Some (terminus.Make t)) = unless_applies b (Make t) (make_refusal b t) refl
terminus_applies b (Some (terminus.Drop n)) = unless_applies b (Drop n) (drop_refusal (terminus_at n.0 b.termini) b.rows) refl

pub settled_apply : (b : BookView) (ds : List Decision) (numbers : List RowNumber) (x : Option TerminusAct) → IsOrdered b → first_fault b (settled_acts b ds numbers x) ≡ None
settled_apply b ds numbers x ordered =
    applies_more b (settles b ds numbers) (terminus_acts (effects b (settles b ds numbers)) x) (settles_leave b ds numbers ordered.rows_rise).applies
    (terminus_applies (effects b (settles b ds numbers)) x)

pub admission_applies : (b : BookView) (x : Admission) → first_fault b (admission_acts b x) ≡ None
admission_applies b x = unless_applies b (Admit x) (admit_refusal b x) refl

pub ordered_after : (b : BookView) (acts : List Act) → IsOrdered b → first_fault b acts ≡ None → IsOrdered (effects b acts)
ordered_after b acts ordered applies = (acts_follow b acts ordered applies).ordered
