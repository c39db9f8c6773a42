-- Performatives in their usual spellings: how they begin, and where they end.
use Rattle.std.proofs.Common.{◌≡◌, ℕ, suc, ◌+◌, ◌-◌, ◌≤◌, List, [], ◌∷◌, length, get_or, take, drop, refl, ap, subst, ◌∙◌, arith, Some, Ok}
use Rattle.std.proofs.lemmas.Bool.{le-ltb}
use Rattle.std.proofs.lemmas.Grind.{common_steps}
use Rattle.amqp_model.specs.Codes.{code_of as constructor_of}
use Rattle.amqp_model.specs.Data as d
use Rattle.amqp_model.specs.declared.descriptor.Descriptor.{Descriptor}
use Rattle.amqp_model.specs.declared.descriptor.Descriptor.TheVariants as is
use Rattle.amqp_model.specs.declared.perf.Perf.{Perf}
use Rattle.amqp_model.specs.declared.perf.Perf.TheVariants as perf
use Rattle.amqp_model.specs.declared.perf_fault.PerfFault.{PerfFault}
use Rattle.amqp_model.specs.Descriptors.{code_of}
use Rattle.amqp_types.specs.Reading.{sized_at, leaf_at, body_at, value_at}
use Rattle.amqp_perf.specs.declared.opening.Opening.TheVariants as opening
use Rattle.amqp_perf.specs.Fields.{opening_at, listed}
use Rattle.amqp_perf.specs.Performative.{limit_of, body, performative, performative_at, transfer_fields, disposition_fields, flow_fields}
use Rattle.amqp_model.specs.declared.perf.Transfer.{Transfer}
use Rattle.amqp_model.specs.declared.perf.Disposition.{Disposition}
use Rattle.amqp_model.specs.declared.perf.Flow.{Flow}
use Rattle.amqp_perf.proofs.WrittenLists.{named_again}
use Rattle.amqp_frames.specs.Shorts.{place, Heads}
use Rattle.amqp_frames.proofs.Shorts.{one_byte, rest_is}
use Rattle.amqp_frames.specs.declared.short_fields.ShortFields.{ShortFields}

ulong_is : (n : ℕ) (rest : List ℕ) → value_at 31 (0x53 ∷ n ∷ rest) ≡ Ok (d.ulong n, rest)
unfolding value_at body_at leaf_at constructor_of
ulong_is n rest = rw (one_byte n rest) refl

opening_is : (name : Descriptor) (rest : List ℕ) → opening_at 32 (0x00 ∷ 0x53 ∷ code_of name ∷ rest) ≡ Ok (opening.Described (Some name), rest)
unfolding opening_at constructor_of
opening_is name rest = rw (ulong_is (code_of name) rest, named_again name) refl

list_is : (limit count len : ℕ) (wrong : PerfFault) (rest : List ℕ) → len ≤ length rest → count ≤ limit
    → listed 31 limit wrong (0xc0 ∷ suc len ∷ count ∷ rest) ≡ Ok (record { depth = 30; left = count; bytes = take len rest }, drop len rest)
unfolding listed sized_at constructor_of
list_is limit count len wrong rest fits few =
    rw (one_byte (suc len) (count ∷ rest), le-ltb (length (count ∷ rest)) (suc len) (omega arith), one_byte count (take len rest), le-ltb limit count few) refl

ends_at : (a b c e size count len : ℕ) (rest : List ℕ) → len ≤ length rest → length (a ∷ b ∷ c ∷ e ∷ size ∷ count ∷ rest) - length (drop len rest) ≡ 6 + len
ends_at a b c e size count len rest fits = grind (arith, common_steps)

perf_is : (name : Descriptor) (limit count len : ℕ) (rest : List ℕ) (p : Perf) → limit_of name ≡ Some limit → count ≤ limit → len ≤ length rest
    → body name (record { depth = 30; left = count; bytes = take len rest }) ≡ Ok p
    → performative (0x00 ∷ 0x53 ∷ code_of name ∷ 0xc0 ∷ suc len ∷ count ∷ rest) ≡ Ok (p, 6 + len)
unfolding performative performative_at
perf_is name limit count len rest p limited few fits is =
    rw (opening_is name (0xc0 ∷ suc len ∷ count ∷ rest), limited, list_is limit count len _ rest fits few, is, ends_at 0x00 0x53 (code_of name) 0xc0 (suc len) count len rest fits) refl

-- the same, of a beginning that is looked at by its places
head_by : (len : ℕ) (f : ShortFields) (code size count : ℕ) (rest : List ℕ) → size ≡ suc len → len ≤ length rest → f.left ≡ count → f.rest.now ≡ take len rest
    → Heads (0x00 ∷ 0x53 ∷ code ∷ 0xc0 ∷ size ∷ count ∷ rest) code f (6 + len)
head_by len f code size count rest sized fits left is = λ name limit p named limited few reads.
    rw (named, sized) (perf_is name limit count len rest p limited (rw left at few) fits (rw (left, is) at reads))

pub head_is : (bytes : List ℕ) (f : ShortFields) (size : ℕ) (rest : List ℕ) → 6 ≤ length bytes → get_or bytes 0 0 ≡ 0x00 → get_or bytes 1 0 ≡ 0x53 → get_or bytes 3 0 ≡ 0xc0
    → size ≡ get_or bytes 4 0 → 1 ≤ size → rest ≡ take (length bytes - 6) (drop 6 bytes) → size - 1 ≤ length rest → f.left ≡ get_or bytes 5 0 → f.rest.now ≡ take (size - 1) rest
    → Heads bytes (get_or bytes 2 0) f (5 + size)
head_is [] f size rest h zero small list sized some there fits left is = absurd (omega arith)
head_is (a ∷ []) f size rest h zero small list sized some there fits left is = absurd (omega arith)
head_is (a ∷ b ∷ []) f size rest h zero small list sized some there fits left is = absurd (omega arith)
head_is (a ∷ b ∷ c ∷ []) f size rest h zero small list sized some there fits left is = absurd (omega arith)
head_is (a ∷ b ∷ c ∷ e ∷ []) f size rest h zero small list sized some there fits left is = absurd (omega arith)
head_is (a ∷ b ∷ c ∷ e ∷ k ∷ []) f size rest h zero small list sized some there fits left is = absurd (omega arith)
head_is (a ∷ b ∷ c ∷ e ∷ k ∷ n ∷ behind) f size rest h zero small list sized some there fits left is =
    let same : rest ≡ behind = there ∙ rest_is (length (a ∷ b ∷ c ∷ e ∷ k ∷ n ∷ behind) - 6) behind (omega arith) in
    let more : k ≡ suc (size - 1) = omega arith in
    let end : 6 + (size - 1) ≡ 5 + size = omega arith in
    rw (zero, small, list) (subst (λ m. Heads (0x00 ∷ 0x53 ∷ c ∷ 0xc0 ∷ k ∷ n ∷ behind) c f m) end (head_by (size - 1) f c k n behind more (rw same at fits) left (is ∙ ap (take (size - 1)) same)))

-- ---- each performative

pub transfer_read : (bytes : List ℕ) (f : ShortFields) (end code : ℕ) (x : Transfer) → Heads bytes code f end → code ≡ 0x14 → f.left ≤ 11 → transfer_fields (place f) ≡ Ok x
    → performative bytes ≡ Ok (perf.Transfer x, end)
transfer_read bytes f end code x heads coded few reads = heads is.Transfer 11 (perf.Transfer x) coded refl few (rw reads refl)

pub disposition_read : (bytes : List ℕ) (f : ShortFields) (end code : ℕ) (x : Disposition) → Heads bytes code f end → code ≡ 0x15 → f.left ≤ 6 → disposition_fields (place f) ≡ Ok x
    → performative bytes ≡ Ok (perf.Disposition x, end)
disposition_read bytes f end code x heads coded few reads = heads is.Disposition 6 (perf.Disposition x) coded refl few (rw reads refl)

pub flow_read : (bytes : List ℕ) (f : ShortFields) (end code : ℕ) (x : Flow) → Heads bytes code f end → code ≡ 0x13 → f.left ≤ 11 → flow_fields (place f) ≡ Ok x
    → performative bytes ≡ Ok (perf.Flow x, end)
flow_read bytes f end code x heads coded few reads = heads is.Flow 11 (perf.Flow x) coded refl few (rw reads refl)
