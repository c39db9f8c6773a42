-- The words of a script's line: text cut at a mark, numbers and bytes.
use Rattle.std.specs.Prelude.{ℕ, ◌^◌, ◌==◌, ◌&&◌, nat_lt, if◌then◌else◌, List, length, Option, Some, None, Result, Ok, Err}
use Rattle.std.specs.List.{slice_split}
use Rattle.std.specs.Str.{all_ascii_digits}
use Rattle.std.specs.Str.Parse.{digits_value}
use Rattle.hex.specs.Hex.{decode_of}
use Rattle.hex.specs.declared.error.FromHexError.{FromHexError}

-- the bytes that a reference points to
abbrev pub Text : Type 0
Text = List ℕ

-- a text cut at each such byte: a line into words at the space, a text into lines at the line feed
abbrev pub cut_at : ℕ → Text → List Text
cut_at mark text = slice_split (λ byte. byte == mark) text

-- the number that a word is: decimal digits, with leading zeros allowed, up to 2^64 - 1
abbrev pub number_of : Text → Option ℕ
number_of word = if (all_ascii_digits word && nat_lt 0 (length word)) && nat_lt (digits_value 10 word) (2 ^ 64) then Some (digits_value 10 word) else None

abbrev pub read_bytes : Result Text FromHexError → Option Text
read_bytes (Ok bytes) = Some bytes
read_bytes (Err e) = None

-- the bytes that a word is: one or more pairs of hexadecimal digits of either case
unfoldable pub bytes_of : Text → Option Text
bytes_of word = if length word == 0 then None else read_bytes (decode_of word)
