-- A router before anything happened to it.
use Rattle.std.specs.Prelude.{◌≡◌, false}
use Rattle.book_model.specs.Sound.{IsSound}
use Rattle.router_trace.specs.Trace.{Beginning, Trace}
use Rattle.router_trace.specs.Configuration.{opened}
use Rattle.core_machine.specs.Counting.{uncounted}
use Rattle.core_machine.specs.Meaning.{Meaning}

-- A router that was just opened: nothing has happened to it, whatever happened before. The book that it was opened on is sound (numbers rise, no limit is
-- passed, and the termini that rows keep stand), whether acts made it or it was read back; and its journal keeps just that.
pub record IsOpened {M : Type 0} (m : Meaning M) (g : Beginning) (router : M) : Type 0 where
  pub fits : (below : Trace) → m.fits router (opened g below)
  pub keeps : (below : Trace) → m.keeps router (m.book (opened g below))
  pub sound : IsSound g.book
  pub works : m.is_failed router ≡ false
  pub counts : m.counts router ≡ uncounted
