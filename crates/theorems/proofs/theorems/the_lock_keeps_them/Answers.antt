use Rattle.std.proofs.Common.{refl, [], ◌∷◌}
use Rattle.router_core.specs.Handling.{id_of}
use Rattle.theorems.proofs.CreditKept.{trace_starts_within}
use Rattle.theorems.proofs.KeptFirst.{outcomes_kept, rows_once}
use Rattle.theorems.proofs.Lives.{lives_within, lives_outcomes, lives_once}
use Rattle.theorems.proofs.Locked.{is_trace, run_of}
use Rattle.theorems.proofs.theorems.the_lock_keeps_them.Goals as goal

pub returns : goal.returns
returns g c = (
  (
    λ b core history. let h = history [] in trace_starts_within (id_of core) b h.1 (is_trace (id_of core) b h.0 h.1 h.2.goes),
    λ b core lives below all book history. let h = history below in
        lives_within (id_of core) (run_of b h.0 ∷ lives) h.1 (below, h.1, all, book, h.2.goes, refl),
  ),
  (
    λ b core history. let h = history [] in outcomes_kept (id_of core) b h.1 h.0 h.2.goes h.2.sound,
    λ b core lives below all book ends history small. let h = history below in
        lives_outcomes (id_of core) (run_of b h.0 ∷ lives) h.1 (below, h.1, all, book, h.2.goes, refl) (small, ends),
  ),
  (
    λ b core history. let h = history [] in rows_once (id_of core) b h.1 (is_trace (id_of core) b h.0 h.1 h.2.goes) h.2.sound,
    λ b core lives below all book history. let h = history below in
        lives_once (id_of core) (run_of b h.0 ∷ lives) h.1 (below, h.1, all, book, h.2.goes, refl),
  ),
)
