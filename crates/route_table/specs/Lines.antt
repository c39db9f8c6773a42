-- The lines of a configuration, and what each is.
use Rattle.std.specs.Prelude.{ℕ, ◌-◌, Bool, ◌==◌, ◌||◌, ◌&&◌, List, [], ◌∷◌, map, reverse, length, take, slice_index, nat_lt, not, codes, if◌then◌else◌}
use Rattle.std.specs.List.{before_first, after_first, position_or_len, list_any}
use Rattle.std.specs.Str.{bytes_eq}

-- put in front of a line
abbrev pub onto_first : ℕ → List (List ℕ) → List (List ℕ)
onto_first byte [] = (byte ∷ []) ∷ []
onto_first byte (line ∷ lines) = (byte ∷ line) ∷ lines

-- the lines of a text, without the line feeds (byte 10) that end them; the last one needs none
abbrev pub lines : List ℕ → List (List ℕ)
lines [] = []
lines (byte ∷ bytes) = if byte == 10 then [] ∷ lines bytes else onto_first byte (lines bytes)

-- a space or a tab
abbrev pub is_blank : ℕ → Bool
is_blank byte = (byte == 32) || (byte == 9)

-- without the blanks in front, at the end, and at both ends
abbrev pub trim_front : List ℕ → List ℕ
trim_front [] = []
trim_front (byte ∷ bytes) = if is_blank byte then trim_front bytes else byte ∷ bytes

abbrev pub trim_back : List ℕ → List ℕ
trim_back bytes = reverse (trim_front (reverse bytes))

abbrev pub trim : List ℕ → List ℕ
trim bytes = trim_back (trim_front bytes)

-- not empty, and no blank in it
abbrev pub is_word : List ℕ → Bool
is_word bytes = nat_lt 0 (length bytes) && not (list_any is_blank bytes)

-- what a line is: empty or a comment, the head of a section with its name, a key with its value, the end of a section, or none of these
pub data Form : Type 0 where
  nothing : Form
  head : List ℕ → Form
  given : List ℕ → List ℕ → Form
  close : Form
  wrong : Form

-- `key: value`, neither empty; the key is everything before the first colon (byte 58), and has no blank
abbrev pub given_form : List ℕ → List ℕ → Form
given_form key value = if is_word key && nat_lt 0 (length value) then given key value else wrong

-- `NAME {` before the brace, with at least one blank after the name, which has none
abbrev pub head_form : List ℕ → List ℕ → Form
head_form name before = if is_word name && nat_lt (length name) (length before) then head name else wrong

abbrev pub is_colon : ℕ → Bool
is_colon byte = byte == 58

-- what a line without a colon is: a head ends with `{` (byte 123)
abbrev pub plain_form : List ℕ → Form
plain_form bytes =
    if slice_index bytes (length bytes - 1) == 123 then head_form (trim_back (take (length bytes - 1) bytes)) (take (length bytes - 1) bytes)
    else wrong

-- what a line without a blank at either end is. A comment begins with `#` (byte 35)
abbrev pub trimmed_form : List ℕ → Form
trimmed_form bytes =
    if (length bytes == 0) || (slice_index bytes 0 == 35) then nothing
    else if bytes_eq bytes (codes "}") then close
    else if nat_lt (position_or_len is_colon bytes) (length bytes) then given_form (before_first is_colon bytes) (trim_front (after_first is_colon bytes))
    else plain_form bytes

-- what a line is
unfoldable pub form_of : List ℕ → Form
form_of line = trimmed_form (trim line)

-- what each line of a text is
abbrev pub forms : List ℕ → List Form
forms text = map form_of (lines text)
