-- The text of a line of a play.
use Rattle.std.specs.Prelude.{ℕ, ◌/◌, ◌%◌, true, List, [], ◌∷◌, ◌++◌, codes, decimal}
use Rattle.std.specs.Fmt.{digit_glyph}
use Rattle.std.specs.List.{flat_map}
use Rattle.core_machine.specs.Faults.{number_of}
use Rattle.core_player.specs.declared.line.Line.{Line}
use Rattle.core_player.specs.declared.line.Line.TheVariants.{Out, End, Failed, Run, Book}

-- a byte, as two upper-case hexadecimal digits
abbrev pub byte_text : ℕ → List ℕ
byte_text byte = digit_glyph true (byte / 16) ∷ digit_glyph true (byte % 16) ∷ []

-- bytes, as pairs of digits
abbrev pub hex_text : List ℕ → List ℕ
hex_text bytes = flat_map byte_text bytes

-- the text of a line, without the line feed
abbrev pub line_text : Line → List ℕ
line_text (Out conn bytes) = codes "out " ++ (decimal conn.0 ++ (codes " " ++ hex_text bytes))
line_text (End conn) = codes "end " ++ decimal conn.0
line_text (Failed fault) = codes "failed " ++ decimal (number_of fault)
line_text (Run number) = codes "run " ++ decimal number
line_text (Book rows termini batches) = codes "book rows " ++ (decimal rows ++ (codes " termini " ++ (decimal termini ++ (codes " batches " ++ decimal batches))))
