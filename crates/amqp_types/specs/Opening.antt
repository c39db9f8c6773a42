-- How a value that holds others begins: what stands before its items, elements or descriptor.
use Rattle.std.specs.Prelude.{ℕ, zero, suc, List, [], Result, Ok, Err}
use Rattle.amqp_model.specs.declared.type_fault.TypeFault.{TypeFault}
use Rattle.amqp_model.specs.declared.type_fault.TypeFault.TheVariants as fault
use Rattle.amqp_model.specs.declared.code.Size.{Size}
use Rattle.amqp_model.specs.declared.code.Code.{Code}
use Rattle.amqp_model.specs.declared.code.Code.TheVariants as code
use Rattle.amqp_types.specs.declared.opening.Opening.{Opening}
use Rattle.amqp_types.specs.declared.opening.Opening.TheVariants as opening
use Rattle.amqp_types.specs.Reading.{◌>>=◌, within, size_at, sized_at, code_at, element_kind}

-- A list has a count, the bytes of its items to the end of the list, and the bytes after the list.
-- An array has the constructor of its elements besides. A described value has the bytes from its
-- descriptor on. All else is another value.
pub data Opened : Type 0 where
  opened_list : ℕ → List ℕ → List ℕ → Opened
  opened_array : Code → ℕ → List ℕ → List ℕ → Opened
  opened_described : List ℕ → Opened
  opened_other : Opened

abbrev pub opening_view : Opening → Opened
opening_view (opening.List count items behind) = opened_list count items.now behind.now
opening_view (opening.Array element count items behind) = opened_array element count items.now behind.now
opening_view (opening.Described descriptor) = opened_described descriptor.now
opening_view opening.Other = opened_other

-- the inside of a list and of an array, before what they hold
unfoldable pub list_opening : Size → List ℕ → List ℕ → Result Opened TypeFault
list_opening s inside behind = do
  n ← size_at s inside
  Ok (opened_list n.0 n.1 behind)

unfoldable pub array_opening : Size → List ℕ → List ℕ → Result Opened TypeFault
array_opening s inside behind = do
  n ← size_at s inside
  c ← code_at n.1
  k ← element_kind n.0 c.0
  Ok (opened_array c.0 n.0 c.1 behind)

-- how a value begins after its constructor, with at most this many levels
unfoldable pub opening_by : ℕ → Code → List ℕ → Result Opened TypeFault
opening_by zero c bytes = Err fault.TooDeep
opening_by (suc depth) (code.Leaf l) bytes = Ok opened_other
opening_by (suc depth) code.EmptyList bytes = Ok (opened_list 0 [] bytes)
opening_by (suc depth) (code.List s) bytes = sized_at s bytes >>= λ x. within (list_opening s x.0 x.1)
opening_by (suc depth) (code.Map s) bytes = Ok opened_other
opening_by (suc depth) (code.Array s) bytes = sized_at s bytes >>= λ x. within (array_opening s x.0 x.1)
opening_by (suc depth) code.Described bytes = Ok (opened_described bytes)

unfoldable pub opening_at : ℕ → List ℕ → Result Opened TypeFault
opening_at depth bytes = code_at bytes >>= λ c. opening_by depth c.0 c.1
