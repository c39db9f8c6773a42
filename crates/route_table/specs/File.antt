-- A configuration as a list of lines: which line is faulty, and what the lines say if none is.
use Rattle.std.specs.Prelude.{ℕ, ◌+◌, Bool, true, false, ◌&&◌, List, [], ◌∷◌, ◌++◌, count_by, reverse, Option, None, Some, is_some, option_map, nat_le, not, codes, if◌then◌else◌}
use Rattle.std.specs.List.{list_any, find}
use Rattle.std.specs.Str.{bytes_eq}
use Rattle.std.specs.Option.{option_and_then, option_to_list}
use Rattle.route_table.specs.Lines.{Form, nothing, head, given, close, wrong, forms}
use Rattle.route_table.specs.Sections.{is_direction}
use Rattle.route_table.specs.Values.{kind_of, attribute_of, takes, direction_named, is_kind, is_attribute}
use Rattle.route_table.specs.declared.attributes.Attribute.{Attribute}
use Rattle.route_table.specs.declared.attributes.Attribute.TheVariants as attributes
use Rattle.route_table.specs.declared.attributes.SectionKind.{SectionKind}
use Rattle.route_table.specs.declared.attributes.SectionKind.TheVariants as kinds
use Rattle.route_table.specs.declared.faults.FaultKind.{FaultKind}
use Rattle.route_table.specs.declared.faults.FaultKind.TheVariants as faults
use Rattle.route_table.specs.declared.sections.Direction.{Direction}

-- a section: its kind, and its attributes with their values, in order
pub record Section : Type 0 where
  pub kind : SectionKind
  pub values : List (Attribute × List ℕ)

-- the value of an attribute
abbrev pub value_of : Attribute → Section → Option (List ℕ)
value_of wanted section = option_map (λ g. g.1) (find (λ g. is_attribute g.0 wanted) section.values)

abbrev pub is_text : Option (List ℕ) → List ℕ → Bool
is_text None text = false
is_text (Some value) text = bytes_eq value text

-- a section of the kind, whose attribute has the value
abbrev pub has : SectionKind → Attribute → List ℕ → Section → Bool
has wanted name text section = is_kind section.kind wanted && is_text (value_of name section) text

-- ---- what comes before a line

abbrev pub with_value : Option Attribute → List ℕ → Section → Section
with_value None value section = section
with_value (Some name) value section = record section { values = section.values ++ (name, value) ∷ [] }

-- the section that is open after a line, by the one that is open before it
abbrev pub open_behind : Form → Option Section → Option Section
open_behind nothing current = current
open_behind wrong current = current
open_behind close current = None
open_behind (head name) current = option_map (λ k. record { kind = k; values = [] }) (kind_of name)
open_behind (given key value) current = option_map (λ section. with_value (attribute_of section.kind key) value section) current

-- the section that is open after these lines, the nearest first: that of the nearest head, unless an end follows it
abbrev pub open_below : List Form → Option Section
open_below [] = None
open_below (line ∷ above) = open_behind line (open_below above)

abbrev pub ended_behind : Form → Option Section → List Section → List Section
ended_behind close current ended = ended ++ option_to_list current
ended_behind nothing current ended = ended
ended_behind wrong current ended = ended
ended_behind (head name) current ended = ended
ended_behind (given key value) current ended = ended

-- the sections that ended in these lines, the nearest line first; the sections are in the order of the file
abbrev pub ended_above : List Form → List Section
ended_above [] = []
ended_above (line ∷ above) = ended_behind line (open_below above) (ended_above above)

-- ---- the fault of a line

-- at most one section `router`, and at most 1,024 of each other kind
abbrev pub most : SectionKind → ℕ
most kinds.Router = 1
most kinds.Listener = 1024
most kinds.Address = 1024
most kinds.LinkRoute = 1024
most kinds.User = 1024

abbrev pub head_fault : List Section → Option SectionKind → Option FaultKind
head_fault ended None = Some faults.UnknownSection
head_fault ended (Some k) = if nat_le (most k) (count_by (λ s. is_kind s.kind k) ended) then Some faults.BadValue else None

-- the attributes without a default are there
abbrev pub is_complete_as : SectionKind → Section → Bool
is_complete_as kinds.Router section = true
is_complete_as kinds.Listener section = true
is_complete_as kinds.Address section = is_some (value_of attributes.Prefix section)
is_complete_as kinds.LinkRoute section = is_some (value_of attributes.Prefix section) && is_some (value_of attributes.ContainerId section) && is_some (value_of attributes.Direction section)
is_complete_as kinds.User section = is_some (value_of attributes.Name section) && is_some (value_of attributes.Password section)

abbrev pub close_fault : Section → Option FaultKind
close_fault section = if is_complete_as section.kind section then None else Some faults.BadValue

-- the value of the first line `direction` among these, up to the end of the section
abbrev pub direction_below : List Form → Option (List ℕ)
direction_below [] = None
direction_below (close ∷ below) = None
direction_below (given key value ∷ below) = if bytes_eq key (codes "direction") then Some value else direction_below below
direction_below (nothing ∷ below) = direction_below below
direction_below (wrong ∷ below) = direction_below below
direction_below (head name ∷ below) = direction_below below

abbrev pub first_text : Option (List ℕ) → Option (List ℕ) → Option (List ℕ)
first_text None second = second
first_text (Some text) second = Some text

-- the direction of a link route, which may stand above the line or below it
abbrev pub direction_of : Section → List Form → Option Direction
direction_of section below = option_and_then direction_named (first_text (value_of attributes.Direction section) (direction_below below))

abbrev pub is_same_direction : Option Direction → Option Direction → Bool
is_same_direction None other = false
is_same_direction (Some one) None = false
is_same_direction (Some one) (Some other) = is_direction one other

-- an earlier section has the prefix, and for a link route the same direction too
abbrev pub is_second_prefix_of : SectionKind → List Section → Option Direction → List ℕ → Bool
is_second_prefix_of kinds.Router ended direction prefix = false
is_second_prefix_of kinds.Listener ended direction prefix = false
is_second_prefix_of kinds.Address ended direction prefix = list_any (λ s. has kinds.Address attributes.Prefix prefix s) ended
is_second_prefix_of kinds.LinkRoute ended direction prefix = list_any (λ s. has kinds.LinkRoute attributes.Prefix prefix s && is_same_direction (direction_of s []) direction) ended
is_second_prefix_of kinds.User ended direction prefix = false

abbrev pub is_second_prefix : Section → List Section → Attribute → List ℕ → List Form → Bool
is_second_prefix section ended name value below = is_attribute name attributes.Prefix && is_second_prefix_of section.kind ended (direction_of section below) value

-- an earlier user has the name
abbrev pub is_second_user : List Section → Attribute → List ℕ → Bool
is_second_user ended name value = is_attribute name attributes.Name && list_any (λ s. has kinds.User attributes.Name value s) ended

abbrev pub given_fault : Section → List Section → Option Attribute → List ℕ → List Form → Option FaultKind
given_fault section ended None value below = Some faults.UnknownAttribute
given_fault section ended (Some name) value below =
    if is_some (value_of name section) then Some faults.Syntax
    else if not (takes name value) then Some faults.BadValue
    else if is_second_user ended name value then Some faults.BadValue
    else if is_second_prefix section ended name value below then Some faults.DuplicatePrefix
    else None

-- the fault of a line outside of a section, and inside of one; `ended` are the sections above, `below` the lines below
abbrev pub outside_fault : List Section → Form → Option FaultKind
outside_fault ended nothing = None
outside_fault ended (head name) = head_fault ended (kind_of name)
outside_fault ended wrong = Some faults.Syntax
outside_fault ended close = Some faults.Syntax
outside_fault ended (given key value) = Some faults.Syntax

abbrev pub inside_fault : Section → List Section → Form → List Form → Option FaultKind
inside_fault section ended nothing below = None
inside_fault section ended (given key value) below = given_fault section ended (attribute_of section.kind key) value below
inside_fault section ended close below = close_fault section
inside_fault section ended wrong below = Some faults.Syntax
inside_fault section ended (head name) below = Some faults.Syntax

unfoldable pub fault_in : Option Section → List Section → Form → List Form → Option FaultKind
fault_in None ended line below = outside_fault ended line
fault_in (Some section) ended line below = inside_fault section ended line below

-- the last line leaves a section open
abbrev pub unclosed : Option Section → List Form → Option FaultKind
unclosed (Some section) [] = Some faults.Syntax
unclosed (Some section) (line ∷ below) = None
unclosed None below = None

abbrev pub first_kind : Option FaultKind → Option FaultKind → Option FaultKind
first_kind None second = second
first_kind (Some k) second = Some k

-- the fault of a line, by the lines above it, the nearest first, and those below
abbrev pub line_fault : List Form → Form → List Form → Option FaultKind
line_fault above line below = first_kind (fault_in (open_below above) (ended_above above) line below) (unclosed (open_below (line ∷ above)) below)

abbrev pub fault_or : ℕ → Option FaultKind → Option (ℕ × FaultKind) → Option (ℕ × FaultKind)
fault_or number None later = later
fault_or number (Some k) later = Some (number, k)

-- the first faulty line from this number on, with its fault
abbrev pub first_fault_from : ℕ → List Form → List Form → Option (ℕ × FaultKind)
first_fault_from number above [] = None
first_fault_from number above (line ∷ below) = fault_or number (line_fault above line below) (first_fault_from (number + 1) (line ∷ above) below)

-- the number of the first faulty line of a text, counted from 1, with its fault
unfoldable pub first_fault : List ℕ → Option (ℕ × FaultKind)
first_fault text = first_fault_from 1 [] (forms text)

-- the sections of a text
unfoldable pub sections : List ℕ → List Section
sections text = ended_above (reverse (forms text))
