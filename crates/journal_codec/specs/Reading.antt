-- How the bytes of an act are read, from front to back. Laws of proofs/ relate it to the encoding of Format, which is what the
-- contracts of the journal speak of.
use Rattle.std.specs.Prelude.{◌≡◌, ℕ, Bool, true, false, List, [], ◌∷◌, length, take, drop, Option, Some, None, Result, Ok, Err, nat_lt, ◌==◌, ◌&&◌, if◌then◌else◌}
use Rattle.std.specs.Int.{Width, w16, w32, w64, byte_len, from_be_bytes}
use Rattle.std.specs.Str.{is_utf8}
use Rattle.std.specs.Cmp.Lexicographic.{pointwise}
use Rattle.amqp_model.specs.declared.state.DeliveryState.{DeliveryState}
use Rattle.amqp_model.specs.declared.state.DeliveryState.TheVariants as states
use Rattle.amqp_model.specs.declared.perf_fault.PerfFault.{PerfFault}
use Rattle.amqp_perf.specs.Performative.{state as state_at}
use Rattle.amqp_model.specs.PerfSpelling.{state_spelling}
use Rattle.book_model.specs.declared.act.Act.{Act}
use Rattle.book_model.specs.declared.act.Act.TheVariants.{Make, Admit, Decide, Forget, Drop}
use Rattle.book_model.specs.declared.act.Admission.{Admission}
use Rattle.book_model.specs.declared.act.Decision.{Decision}
use Rattle.book_model.specs.declared.terminus.LinkRole.{LinkRole}
use Rattle.book_model.specs.declared.terminus.LinkRole.TheVariants.{Producer, Consumer}
use Rattle.book_model.specs.declared.terminus.Terminus.{Terminus}
use Rattle.book_model.specs.declared.terminus.TerminusNumber.{TerminusNumber}
use Rattle.journal_codec.specs.declared.read.ReadFault.{ReadFault}
use Rattle.journal_codec.specs.declared.read.ReadFault.TheVariants.{Misspelt, Memory}

infixl 10 ◌>>=◌
abbrev pub ◌>>=◌ : {A B : Type 0} → Result A ReadFault → (A → Result B ReadFault) → Result B ReadFault
(Ok x) >>= f = f x
(Err e) >>= f = Err e

abbrev pub Reads : Type 0 → Type 0
Reads A = List ℕ → Result (A × List ℕ) ReadFault

-- what a function returned, seen by see, is what reading gives, unless memory was refused
abbrev pub Gives : {X Y : Type 0} → (X → Y) → Result X ReadFault → Result Y ReadFault → Type 0
Gives see (Ok x) read = read ≡ Ok (see x)
Gives see (Err e) read = (e ≡ Memory → ⊥) → read ≡ Err e

abbrev pub byte_at : Reads ℕ
byte_at [] = Err Misspelt
byte_at (byte ∷ rest) = Ok (byte, rest)

abbrev pub number_at : Width → Reads ℕ
number_at w bytes = if nat_lt (length bytes) (byte_len w) then Err Misspelt else Ok (from_be_bytes w (take (byte_len w) bytes), drop (byte_len w) bytes)

abbrev pub chunk_at : ℕ → Reads (List ℕ)
chunk_at n bytes = if nat_lt (length bytes) n then Err Misspelt else Ok (take n bytes, drop n bytes)

-- bytes after a length of two bytes
unfoldable pub sized_at : Reads (List ℕ)
sized_at bytes = do
  size ← number_at w16 bytes
  chunk_at size.0 size.1

-- a text
abbrev pub text_by : List ℕ × List ℕ → Result (List ℕ × List ℕ) ReadFault
text_by read = if is_utf8 read.0 then Ok read else Err Misspelt

unfoldable pub text_at : Reads (List ℕ)
text_at bytes = sized_at bytes >>= text_by

abbrev pub role_of : ℕ → Result LinkRole ReadFault
role_of byte = if byte == 0 then Ok Producer else if byte == 1 then Ok Consumer else Err Misspelt

unfoldable pub role_at : Reads LinkRole
role_at bytes = byte_at bytes >>= λ byte. role_of byte.0 >>= λ role. Ok (role, byte.1)

unfoldable pub make_at : Reads Terminus
make_at bytes = do
  number ← number_at w64 bytes
  role ← role_at number.1
  user ← text_at role.1
  container ← text_at user.1
  name ← text_at container.1
  address ← text_at name.1
  Ok (record { number = record { 0 = number.0 }; key = record { role = role.0; user = user.0; container = container.0; name = name.0 }; address = address.0 }, address.1)

-- a tag of at most 32 bytes
unfoldable pub tag_at : Reads (List ℕ)
tag_at bytes = byte_at bytes >>= λ size. if nat_lt 32 size.0 then Err Misspelt else chunk_at size.0 size.1

abbrev pub terminus_or_none : ℕ → Option TerminusNumber
terminus_or_none n = if n == 0 then None else Some (record { 0 = n })

-- bytes after a length of four bytes
unfoldable pub payload_at : Reads (List ℕ)
payload_at bytes = do
  size ← number_at w32 bytes
  chunk_at size.0 size.1

unfoldable pub admission_at : Reads Admission
admission_at bytes = do
  row ← number_at w64 bytes
  producer ← number_at w64 row.1
  tag ← tag_at producer.1
  consumer ← number_at w64 tag.1
  format ← number_at w32 consumer.1
  payload ← payload_at format.1
  Ok (record { row = record { 0 = row.0 }; producer = record { 0 = producer.0 }; tag = record { items = tag.0 }; consumer = terminus_or_none consumer.0; format = format.0; payload = payload.0 }, payload.1)

abbrev pub is_terminal : DeliveryState → Bool
is_terminal (states.Received r) = false
is_terminal (states.Other v) = false
is_terminal _ = true

-- an outcome is one terminal state in its canonical encoding, to the last byte
abbrev pub outcome_by : List ℕ → Result (DeliveryState × ℕ) PerfFault → Result DeliveryState ReadFault
outcome_by bytes (Err e) = Err Misspelt
outcome_by bytes (Ok read) = if read.1 == length bytes && is_terminal read.0 && pointwise ◌==◌ (state_spelling read.0) bytes then Ok read.0 else Err Misspelt

unfoldable pub outcome_of : List ℕ → Result DeliveryState ReadFault
outcome_of bytes = outcome_by bytes (state_at bytes)

unfoldable pub decision_at : Reads Decision
decision_at bytes = do
  row ← number_at w64 bytes
  spelled ← sized_at row.1
  outcome ← outcome_of spelled.0
  Ok (record { row = record { 0 = row.0 }; outcome = outcome }, spelled.1)

-- an act after its kind
unfoldable pub act_behind : ℕ → Reads Act
act_behind kind bytes =
    if kind == 1 then (make_at bytes >>= λ terminus. Ok (Make terminus.0, terminus.1))
    else if kind == 2 then (admission_at bytes >>= λ admission. Ok (Admit admission.0, admission.1))
    else if kind == 3 then (decision_at bytes >>= λ decision. Ok (Decide decision.0, decision.1))
    else if kind == 4 then (number_at w64 bytes >>= λ number. Ok (Forget (record { 0 = number.0 }), number.1))
    else if kind == 5 then (number_at w64 bytes >>= λ number. Ok (Drop (record { 0 = number.0 }), number.1))
    else Err Misspelt

unfoldable pub act_at : Reads Act
act_at bytes = byte_at bytes >>= λ kind. act_behind kind.0 kind.1

-- the acts' bytes of a batch, and what follows it: at least a gate
unfoldable pub inside_at : Reads (List ℕ)
inside_at bytes =
    number_at w32 bytes >>= λ size.
    if size.0 == 0 then Err Misspelt
    else if nat_lt 4194304 size.0 then Err Misspelt
    else (chunk_at size.0 size.1 >>= λ inside. if length inside.1 == 0 then Err Misspelt else Ok inside)
