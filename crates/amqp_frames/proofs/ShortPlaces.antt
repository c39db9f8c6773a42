-- Fields in their usual spellings are those that the reader of all spellings finds at their place.
use Rattle.std.proofs.Common.{◌≡◌, ℕ, suc, ◌≤◌, Bool, false, List, ◌∷◌, length, refl, arith, Option, Some, None, Ok}
use Rattle.std.specs.Prelude.{◌==◌, unwrap_or}
use Rattle.std.proofs.lemmas.Bool.{ne_eqb}
use Rattle.arrayvec.specs.ArrayVec.{ArrayVec}
use Rattle.amqp_model.specs.Data as d
use Rattle.amqp_model.specs.Data.{Data}
use Rattle.amqp_model.specs.View.{plain_part}
use Rattle.amqp_types.specs.Reading.{leaf_at, body_at, value_at}
use Rattle.amqp_model.specs.Codes.{code_of}
use Rattle.amqp_frames.proofs.Shorts.{no_byte}
use Rattle.amqp_frames.specs.declared.short_fields.ShortFields.{ShortFields}
use Rattle.amqp_perf.specs.Fields.{At, next, unless_null, ended, value, plain, ubyte, map, uint, required_uint, flag, required_flag, tag_of, tag}
use Rattle.amqp_perf.specs.Performative.{required_role, role_of}
use Rattle.amqp_model.specs.declared.state.DeliveryState.TheVariants as state
use Rattle.amqp_model.specs.Texts.{given, described_text}
use Rattle.amqp_model.specs.PerfSpelling.{state_spelling}
use Rattle.amqp_perf.specs.States.{state_in, state_at}
use Rattle.amqp_perf.proofs.WrittenStates.{opening_null, state_in_again}
use Rattle.amqp_frames.specs.Shorts.{Begins, place, uint_data, flag_data}

-- ---- the item at the front

some_left : (n : ℕ) → 1 ≤ n → (n == 0) ≡ false
some_left n h = ne_eqb n 0 (λ e. absurd (omega arith))

pub plain_here : (at : At) (v : Data) (rest : List ℕ) → 1 ≤ at.left → value_at at.depth at.bytes ≡ Ok (v, rest) → plain_part v ≡ Some v
    → plain at ≡ Ok (unless_null v, next at rest)
unfolding plain
plain_here at v rest left read part = rw (some_left at.left left, read, part) refl

-- the place behind the item at the front
abbrev pub Passes : ShortFields → List ℕ → ShortFields → Type 0
Passes f rest g = place g ≡ next (place f) rest

pub uint_here : (f g : ShortFields) (x : Option ℕ) (rest : List ℕ) → 1 ≤ f.left → Begins f.rest.now (uint_data x) rest → Passes f rest g → uint (place f) ≡ Ok (x, place g)
unfolding uint
uint_here f g None rest left read passes = rw (plain_here (place f) d.null rest left read refl, passes) refl
uint_here f g (Some n) rest left read passes = rw (plain_here (place f) (d.uint n) rest left read refl, passes) refl

-- a number that is there is what a required field wants
pub required_here : (f g : ShortFields) (n : ℕ) → uint (place f) ≡ Ok (Some n, place g) → required_uint (place f) ≡ Ok (n, place g)
unfolding uint required_uint
required_here f g n read = rw read refl

pub flag_here : (f g : ShortFields) (x : Option Bool) (rest : List ℕ) → 1 ≤ f.left → Begins f.rest.now (flag_data x) rest → Passes f rest g → flag (place f) ≡ Ok (unwrap_or x false, place g)
unfolding flag
flag_here f g None rest left read passes = rw (plain_here (place f) d.null rest left read refl, passes) refl
flag_here f g (Some b) rest left read passes = rw (plain_here (place f) (d.boolean b) rest left read refl, passes) refl

pub role_here : (f g : ShortFields) (x : Option Bool) (b : Bool) (rest : List ℕ) → 1 ≤ f.left → Begins f.rest.now (flag_data x) rest → x ≡ Some b → Passes f rest g
    → required_role (place f) ≡ Ok (role_of b, place g)
unfolding required_role required_flag
role_here f g x b rest left read there passes = rw (plain_here (place f) (d.boolean b) rest left (rw there at read) refl, passes) refl

pub tag_here : (f g : ShortFields) (t : ArrayVec ℕ) (bytes rest : List ℕ) → 1 ≤ f.left → Begins f.rest.now (d.binary bytes) rest → Passes f rest g → tag_of bytes ≡ Ok t
    → tag (place f) ≡ Ok (Some t, place g)
unfolding tag
tag_here f g t bytes rest left read passes is = rw (plain_here (place f) (d.binary bytes) rest left read refl, passes, is) refl

null_reads : (depth : ℕ) (rest : List ℕ) → value_at (suc depth) (0x40 ∷ rest) ≡ Ok (d.null, rest)
unfolding value_at body_at leaf_at code_of
null_reads depth rest = rw (no_byte rest) refl

pub ubyte_null : (f g : ShortFields) (rest : List ℕ) → 1 ≤ f.left → f.rest.now ≡ 0x40 ∷ rest → Passes f rest g → ubyte (place f) ≡ Ok (None, place g)
unfolding ubyte
ubyte_null f g rest left is passes = rw (plain_here (place f) d.null rest left (rw is (null_reads 29 rest)) refl, passes) refl

state_in_null : (rest : List ℕ) → state_in 30 (0x40 ∷ rest) ≡ Ok (None, rest)
unfolding state_in
state_in_null rest = rw (opening_null 30 rest) refl

pub state_null : (f g : ShortFields) (rest : List ℕ) → 1 ≤ f.left → f.rest.now ≡ 0x40 ∷ rest → Passes f rest g → state_at (place f) ≡ Ok (None, place g)
unfolding state_at
state_null f g rest left is passes = rw (some_left f.left left, is, state_in_null rest, passes) refl

value_here : (at : At) (v : Data) (rest : List ℕ) → 1 ≤ at.left → value_at at.depth at.bytes ≡ Ok (v, rest) → value at ≡ Ok (unless_null v, next at rest)
unfolding value
value_here at v rest left read = rw (some_left at.left left, read) refl

pub map_null : (f g : ShortFields) (rest : List ℕ) → 1 ≤ f.left → f.rest.now ≡ 0x40 ∷ rest → Passes f rest g → map (place f) ≡ Ok (None, place g)
unfolding map
map_null f g rest left is passes = rw (value_here (place f) d.null rest left (rw is (null_reads 29 rest)), passes) refl

accepted_in : (rest : List ℕ) → state_in 30 (0x00 ∷ 0x53 ∷ 0x24 ∷ 0x45 ∷ rest) ≡ Ok (Some state.Accepted, rest)
unfolding state_spelling described_text given
accepted_in rest = state_in_again 25 state.Accepted rest tt

pub state_accepted : (f g : ShortFields) (rest : List ℕ) → 1 ≤ f.left → f.rest.now ≡ 0x00 ∷ 0x53 ∷ 0x24 ∷ 0x45 ∷ rest → Passes f rest g → state_at (place f) ≡ Ok (Some state.Accepted, place g)
unfolding state_at
state_accepted f g rest left is passes = rw (some_left f.left left, is, accepted_in rest, passes) refl

-- ---- behind the last item

pub plain_gone : (f : ShortFields) → f.left ≡ 0 → ended (place f) ≡ Ok tt → plain (place f) ≡ Ok (None, place f)
unfolding plain
plain_gone f last none = rw (none, last) refl

pub ubyte_gone : (f : ShortFields) → f.left ≡ 0 → ended (place f) ≡ Ok tt → ubyte (place f) ≡ Ok (None, place f)
unfolding ubyte
ubyte_gone f last none = rw (plain_gone f last none) refl

pub uint_gone : (f : ShortFields) → f.left ≡ 0 → ended (place f) ≡ Ok tt → uint (place f) ≡ Ok (None, place f)
unfolding uint
uint_gone f last none = rw (plain_gone f last none) refl

pub flag_gone : (f : ShortFields) → f.left ≡ 0 → ended (place f) ≡ Ok tt → flag (place f) ≡ Ok (false, place f)
unfolding flag
flag_gone f last none = rw (plain_gone f last none) refl

pub state_gone : (f : ShortFields) → f.left ≡ 0 → ended (place f) ≡ Ok tt → state_at (place f) ≡ Ok (None, place f)
unfolding state_at
state_gone f last none = rw (none, last) refl

pub map_gone : (f : ShortFields) → f.left ≡ 0 → ended (place f) ≡ Ok tt → map (place f) ≡ Ok (None, place f)
unfolding map value
map_gone f last none = rw (none, last) refl

pub ended_here : (f : ShortFields) → length f.rest.now ≡ 0 → ended (place f) ≡ Ok tt
unfolding ended
ended_here f none = rw none refl
