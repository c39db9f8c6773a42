-- What stands at the front of bytes, for the readers of usual spellings.
use Rattle.std.specs.Prelude.{◌≡◌, ℕ, ◌≤◌, Bool, List, Option, Some, None, Ok}
use Rattle.amqp_model.specs.Data as d
use Rattle.amqp_model.specs.Data.{Data}
use Rattle.amqp_types.specs.Reading.{value_at}
use Rattle.amqp_model.specs.declared.descriptor.Descriptor.{Descriptor}
use Rattle.amqp_model.specs.declared.perf.Perf.{Perf}
use Rattle.amqp_model.specs.Descriptors.{code_of}
use Rattle.amqp_perf.specs.Fields.{At}
use Rattle.amqp_perf.specs.Performative.{limit_of, body, performative}
use Rattle.amqp_frames.specs.declared.short_fields.ShortFields.{ShortFields}

-- this value is at the front, and these bytes are behind it; a field of a performative has 30 levels of nesting
abbrev pub Begins : List ℕ → Data → List ℕ → Type 0
Begins bytes v rest = value_at 30 bytes ≡ Ok (v, rest)

-- a place among the fields of a performative
abbrev pub place : ShortFields → At
place f = record { depth = 30; left = f.left; bytes = f.rest.now }

-- a value that may be null
abbrev pub uint_data : Option ℕ → Data
uint_data None = d.null
uint_data (Some n) = d.uint n

abbrev pub flag_data : Option Bool → Data
flag_data None = d.null
flag_data (Some b) = d.boolean b

-- The beginning of a performative in its usual spelling: the number of its descriptor and the place of its first field, up to where its
-- list ends. What the fields there are, the bytes are.
abbrev pub Heads : List ℕ → ℕ → ShortFields → ℕ → Type 0
Heads bytes code f end = (name : Descriptor) (limit : ℕ) (p : Perf) → code ≡ code_of name → limit_of name ≡ Some limit → f.left ≤ limit → body name (place f) ≡ Ok p
    → performative bytes ≡ Ok (p, end)
