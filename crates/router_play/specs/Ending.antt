-- The end of a run: what its router keeps, and how it failed.
use Rattle.std.specs.Prelude.{◌≡◌, length, Option, Some, None}
use Rattle.journal_store.specs.Store.{count_of}
use Rattle.router_core.specs.declared.router.Core.{Core}
use Rattle.router_core.specs.Handling.{store_of, kept_book}
use Rattle.core_machine.specs.declared.fault.CoreFault.{CoreFault}
use Rattle.core_machine.specs.declared.fault.CoreFault.TheVariants.{Memory}
use Rattle.router_play.specs.declared.finish.Size.{Size}
use Rattle.core_player.specs.declared.line.Line.{Line}
use Rattle.core_player.specs.declared.line.Line.TheVariants as line
pub use Rattle.core_player.specs.Telling.{TellsOf, fault_after}

-- the line of what a router keeps
abbrev pub size_line : Size → Line
size_line size = line.Book size.rows size.termini size.batches

-- what a router keeps: the rows and the termini of its book, and the number of its journal's last batch
pub record IsSizeOf {T : Type 0} (core : Core T) (size : Size) : Type 0 where
  pub rows : size.rows ≡ length (kept_book core).rows
  pub termini : size.termini ≡ length (kept_book core).termini
  pub batches : size.batches ≡ count_of (store_of core)

-- of two routers, the fault with which they failed: want of memory if one had too little, else that of the first
abbrev pub graver : Option CoreFault → Option CoreFault → Option CoreFault
graver None other = other
graver (Some fault) None = Some fault
graver (Some fault) (Some Memory) = Some Memory
graver (Some fault) (Some other) = Some fault
