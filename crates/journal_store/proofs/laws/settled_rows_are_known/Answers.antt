use Rattle.journal_store.proofs.Settled.{settles_leave}
use Rattle.journal_store.proofs.laws.settled_rows_are_known.Goals as goal

pub returns : goal.returns
returns c = λ book ds numbers rise. (settles_leave book ds numbers rise).is
