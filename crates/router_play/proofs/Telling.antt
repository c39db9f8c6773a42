-- The faults with which routers failed, and the size of what one keeps.
use Rattle.std.proofs.Common.{◌≡◌, ◌∙◌, ℕ, refl, ap, List, length}
use Rattle.std.specs.Prelude.{Option, Some, None}
use Rattle.core_machine.specs.declared.fault.CoreFault.{CoreFault}
use Rattle.core_machine.specs.declared.fault.CoreFault.TheVariants.{Disk, Memory, Failed, NoConnection}
use Rattle.core_player.specs.declared.line.Line.{Line}
use Rattle.core_player.specs.declared.line.Line.TheVariants as line
use Rattle.core_player.specs.Telling.{TellsOf}
use Rattle.book_model.specs.Book.{BookView}
use Rattle.reply_rows.specs.Acts.{journaled}
use Rattle.router_trace.specs.Trace.{Trace}
use Rattle.router_core.specs.declared.router.Core.{Core}
use Rattle.router_core.specs.Handling.{Fits}
use Rattle.router_play.specs.declared.finish.Size.{Size}
use Rattle.router_play.specs.Script.{book_line}
use Rattle.router_play.specs.Ending.{IsSizeOf, graver, size_line}

-- where two routers failed
pub graver_none : (one other : Option CoreFault) → graver one other ≡ None → (one ≡ None) × (other ≡ None)
graver_none None other h = (refl, h)
graver_none (Some f) None h = absurd cc
graver_none (Some f) (Some Disk) h = absurd cc
graver_none (Some f) (Some Memory) h = absurd cc
graver_none (Some f) (Some Failed) h = absurd cc
graver_none (Some f) (Some NoConnection) h = absurd cc

pub graver_tells : (one other : Option CoreFault) (ls : List Line) → TellsOf one ls → TellsOf other ls → TellsOf (graver one other) ls
graver_tells None other ls told other_told = other_told
graver_tells (Some f) None ls told other_told = told
graver_tells (Some f) (Some Disk) ls told other_told = told
graver_tells (Some f) (Some Memory) ls told other_told = other_told
graver_tells (Some f) (Some Failed) ls told other_told = told
graver_tells (Some f) (Some NoConnection) ls told other_told = told

-- the size of what a router keeps is that of its trace
pub size_told : {T : Type 0} (core : Core T) (t : Trace) (size : Size) → IsSizeOf core size → Fits core t → size_line size ≡ book_line (journaled t)
size_told core t size is fits =
    ap (λ (n : ℕ). line.Book n size.termini size.batches) (is.rows ∙ ap (λ (b : BookView). length b.rows) fits.journal.book)
    ∙ ap (λ (n : ℕ). line.Book (length (journaled t).book.rows) n size.batches) (is.termini ∙ ap (λ (b : BookView). length b.termini) fits.journal.book)
    ∙ ap (λ (n : ℕ). line.Book (length (journaled t).book.rows) (length (journaled t).book.termini) n) (is.batches ∙ fits.journal.batches)
