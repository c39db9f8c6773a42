-- The numbers of the book's faults.
use Rattle.std.specs.Prelude.{ℕ}
use Rattle.book_model.specs.declared.fault.BookFault.{BookFault}
use Rattle.book_model.specs.declared.fault.BookFault.TheVariants.{NoTerminus, NoRow, AlreadyDecided, TagInUse, Limit, Memory}

-- the number of a fault
abbrev pub fault_number : BookFault → ℕ
fault_number NoTerminus = 1
fault_number NoRow = 2
fault_number AlreadyDecided = 3
fault_number TagInUse = 4
fault_number Limit = 5
fault_number Memory = 6
