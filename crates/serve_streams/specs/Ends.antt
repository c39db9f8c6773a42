-- The numbers of ends.
use Rattle.std.specs.Prelude.{ℕ}
use Rattle.serve_streams.specs.declared.end.ReadEnd.{ReadEnd}
use Rattle.serve_streams.specs.declared.end.ReadEnd.TheVariants as read
use Rattle.serve_streams.specs.declared.end.WriteEnd.{WriteEnd}
use Rattle.serve_streams.specs.declared.end.WriteEnd.TheVariants as write

abbrev pub read_number : ReadEnd → ℕ
read_number read.End = 1
read_number read.ReadFailed = 2
read_number read.Memory = 3
read_number (read.Core f) = 4
read_number read.Door = 5
read_number read.WriteFailed = 6

abbrev pub write_number : WriteEnd → ℕ
write_number write.Ended = 1
write_number write.WriteFailed = 2
write_number write.Memory = 3
write_number (write.Core f) = 4
write_number write.Gap = 5
