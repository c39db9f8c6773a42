use Rattle.theorems.specs.Each.{EachBound}
use Rattle.theorems.specs.Admitted.{RowIsAdmitted, EachRowIsBoundOnce, EachNewRowIsBound}
use Rattle.theorems.proofs.Always.{holds_always, holds_from}
use Rattle.theorems.proofs.Rows.{trace_rows}
use Rattle.theorems.proofs.Numbered.{trace_bound}
use Rattle.theorems.proofs.Lives.{lives_rows}
use Rattle.theorems.proofs.theorems.durable_messages_are_kept_first.Goals as goal

pub returns : goal.returns
returns c = (
  holds_always (EachBound RowIsAdmitted) (λ id g u trace. (trace_rows id g u trace).admitted) (λ id lives u all. (lives_rows id lives u all).admitted),
  holds_always EachRowIsBoundOnce (λ id g u trace. (trace_rows id g u trace).once) (λ id lives u all. (lives_rows id lives u all).once),
  holds_from EachNewRowIsBound trace_bound,
)
