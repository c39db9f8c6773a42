-- The bytes of a journal, format 1: the magic, then a gate, and after each open gate a batch and the next gate.
use Rattle.std.specs.Prelude.{ℕ, List, [], ◌∷◌, ◌++◌, length, Option, Some, None}
use Rattle.std.specs.List.{flat_map}
use Rattle.std.specs.Int.{w16, w32, w64, to_be_bytes}
use Rattle.amqp_model.specs.PerfSpelling.{state_spelling}
use Rattle.book_model.specs.declared.act.Act.{Act}
use Rattle.book_model.specs.declared.act.Act.TheVariants.{Make, Admit, Decide, Forget, Drop}
use Rattle.book_model.specs.declared.act.Admission.{Admission}
use Rattle.book_model.specs.declared.terminus.LinkRole.{LinkRole}
use Rattle.book_model.specs.declared.terminus.LinkRole.TheVariants.{Producer, Consumer}
use Rattle.book_model.specs.declared.terminus.Terminus.{Terminus}
use Rattle.book_model.specs.declared.terminus.TerminusNumber.{TerminusNumber}

-- AMQRJ001
abbrev pub magic : List ℕ
magic = 65 ∷ 77 ∷ 81 ∷ 82 ∷ 74 ∷ 48 ∷ 48 ∷ 49 ∷ []

-- numbers of two, four and eight bytes, the highest byte first
unfoldable pub in_2 : ℕ → List ℕ
in_2 n = to_be_bytes w16 n

unfoldable pub in_4 : ℕ → List ℕ
in_4 n = to_be_bytes w32 n

unfoldable pub in_8 : ℕ → List ℕ
in_8 n = to_be_bytes w64 n

-- a text: its length, then its bytes
abbrev pub text_bytes : List ℕ → List ℕ
text_bytes text = in_2 (length text) ++ text

abbrev pub role_byte : LinkRole → ℕ
role_byte Producer = 0
role_byte Consumer = 1

-- a terminus that may be none
abbrev pub or_zero : Option TerminusNumber → ℕ
or_zero None = 0
or_zero (Some n) = n.0

abbrev pub make_bytes : Terminus → List ℕ
make_bytes t = (1 ∷ []) ++ in_8 t.number.0 ++ (role_byte t.key.role ∷ []) ++ text_bytes t.key.user ++ text_bytes t.key.container ++ text_bytes t.key.name ++ text_bytes t.address

abbrev pub admit_bytes : Admission → List ℕ
admit_bytes a = (2 ∷ []) ++ in_8 a.row.0 ++ in_8 a.producer.0 ++ (length a.tag.items ∷ []) ++ a.tag.items ++ in_8 (or_zero a.consumer) ++ in_4 a.format ++ in_4 (length a.payload) ++ a.payload

abbrev pub decide_bytes : ℕ → List ℕ → List ℕ
decide_bytes row outcome = (3 ∷ []) ++ in_8 row ++ in_2 (length outcome) ++ outcome

-- the bytes of an act
unfoldable pub act_bytes : Act → List ℕ
act_bytes (Make t) = make_bytes t
act_bytes (Admit a) = admit_bytes a
act_bytes (Decide d) = decide_bytes d.row.0 (state_spelling d.outcome)
act_bytes (Forget n) = (4 ∷ []) ++ in_8 n.0
act_bytes (Drop n) = (5 ∷ []) ++ in_8 n.0

-- the bytes of a list of acts
abbrev pub acts_bytes : List Act → List ℕ
acts_bytes = flat_map act_bytes

-- a batch: the length of its acts, then the acts
unfoldable pub batch : List Act → List ℕ
batch acts = in_4 (length (acts_bytes acts)) ++ acts_bytes acts

-- batches after open gates
unfoldable pub blocks : List (List Act) → List ℕ
blocks [] = []
blocks (acts ∷ bs) = 1 ∷ (batch acts ++ blocks bs)

-- all of the bytes before the gate that ends a file with this head
abbrev pub front_from : List ℕ → List (List Act) → List ℕ
front_from head bs = head ++ blocks bs

-- those of a journal, whose head is the magic
abbrev pub front : List (List Act) → List ℕ
front bs = front_from magic bs

-- a journal of no batches, as it is made: nine bytes
abbrev pub fresh : List ℕ
fresh = magic ++ 0 ∷ []
