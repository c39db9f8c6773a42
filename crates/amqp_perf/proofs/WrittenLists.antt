-- Described lists that were written, read again: how they begin, and the places of their fields.
use Rattle.std.proofs.Common.{◌≡◌, ℕ, suc, ◌+◌, ◌-◌, ◌^◌, ◌<◌, ◌≤◌, Bool, true, false, cond, ◌&&◌, nat_lt, List, [], ◌∷◌, ◌++◌, length, Some, None, Result, Ok, Err, refl, sym, ap, subst, ◌∙◌, arith}
use Rattle.std.proofs.lemmas.Bool.{le-ltb}
use Rattle.std.proofs.Math.Dec.{eqb-suc-zero}
use Rattle.amqp_model.specs.declared.code.Size.{Size}
use Rattle.amqp_model.specs.declared.code.Size.TheVariants as size
use Rattle.amqp_model.specs.declared.code.Code.TheVariants as code
use Rattle.amqp_model.specs.declared.code.Kind.TheVariants as kind
use Rattle.amqp_model.specs.Codes.{code_of as constructor_of}
use Rattle.amqp_model.specs.Data as d
use Rattle.amqp_model.specs.Data.{Data}
use Rattle.amqp_model.specs.View.{plain_part}
use Rattle.amqp_types.specs.Reading.{to, size_at, value_at}
use Rattle.amqp_types.specs.Spells.{Spelling, IsNumber, Fills}
use Rattle.amqp_model.specs.ValueSpelling.{constructed, compound_piece, wide_sizes, list_text, spelling}
use Rattle.amqp_types.specs.Fitting.{FitsIn}
use Rattle.amqp_types.proofs.Complete.{size_complete, sized_complete, code_complete}
use Rattle.amqp_types.proofs.RoundTrip.{compound_wide, compound_narrow, value_at-spelling}
use Rattle.amqp_model.specs.declared.perf_fault.PerfFault.{PerfFault}
use Rattle.amqp_model.specs.declared.perf_fault.PerfFault.TheVariants as fault
use Rattle.amqp_model.specs.declared.descriptor.Descriptor.{Descriptor}
use Rattle.amqp_model.specs.declared.descriptor.Descriptor.TheVariants as is
use Rattle.amqp_perf.specs.declared.opening.Opening.TheVariants as opening
use Rattle.amqp_model.specs.Descriptors.{code_of, named}
use Rattle.amqp_perf.specs.Faults.{inner, by_fault, ◌>>=◌}
use Rattle.amqp_model.specs.PerfFaults.{outer}
use Rattle.amqp_perf.specs.Fields.{At, name_of, opening_at, listed, listed_by, counted}
use Rattle.amqp_model.specs.Texts.{FieldText, given, given_by, joined, described_text}
use Rattle.amqp_perf.specs.Fitting.{IsShort}
use Rattle.amqp_perf.proofs.WrittenPlaces.{found, place}

-- ---- the descriptor

pub descriptor_spelled : (name : Descriptor) → spelling (d.ulong (code_of name)) ≡ 0x53 ∷ code_of name ∷ []
unfolding spelling
descriptor_spelled is.Open = refl
descriptor_spelled is.Begin = refl
descriptor_spelled is.Attach = refl
descriptor_spelled is.Flow = refl
descriptor_spelled is.Transfer = refl
descriptor_spelled is.Disposition = refl
descriptor_spelled is.Detach = refl
descriptor_spelled is.End = refl
descriptor_spelled is.Close = refl
descriptor_spelled is.Error = refl
descriptor_spelled is.Received = refl
descriptor_spelled is.Accepted = refl
descriptor_spelled is.Rejected = refl
descriptor_spelled is.Released = refl
descriptor_spelled is.Modified = refl
descriptor_spelled is.Source = refl
descriptor_spelled is.Target = refl
descriptor_spelled is.SaslMechanisms = refl
descriptor_spelled is.SaslInit = refl
descriptor_spelled is.SaslChallenge = refl
descriptor_spelled is.SaslResponse = refl
descriptor_spelled is.SaslOutcome = refl

pub descriptor_fits : (name : Descriptor) → code_of name < 2 ^ 64
descriptor_fits is.Open = omega arith
descriptor_fits is.Begin = omega arith
descriptor_fits is.Attach = omega arith
descriptor_fits is.Flow = omega arith
descriptor_fits is.Transfer = omega arith
descriptor_fits is.Disposition = omega arith
descriptor_fits is.Detach = omega arith
descriptor_fits is.End = omega arith
descriptor_fits is.Close = omega arith
descriptor_fits is.Error = omega arith
descriptor_fits is.Received = omega arith
descriptor_fits is.Accepted = omega arith
descriptor_fits is.Rejected = omega arith
descriptor_fits is.Released = omega arith
descriptor_fits is.Modified = omega arith
descriptor_fits is.Source = omega arith
descriptor_fits is.Target = omega arith
descriptor_fits is.SaslMechanisms = omega arith
descriptor_fits is.SaslInit = omega arith
descriptor_fits is.SaslChallenge = omega arith
descriptor_fits is.SaslResponse = omega arith
descriptor_fits is.SaslOutcome = omega arith

pub named_again : (name : Descriptor) → named (code_of name) ≡ Some name
named_again is.Open = refl
named_again is.Begin = refl
named_again is.Attach = refl
named_again is.Flow = refl
named_again is.Transfer = refl
named_again is.Disposition = refl
named_again is.Detach = refl
named_again is.End = refl
named_again is.Close = refl
named_again is.Error = refl
named_again is.Received = refl
named_again is.Accepted = refl
named_again is.Rejected = refl
named_again is.Released = refl
named_again is.Modified = refl
named_again is.Source = refl
named_again is.Target = refl
named_again is.SaslMechanisms = refl
named_again is.SaslInit = refl
named_again is.SaslChallenge = refl
named_again is.SaslResponse = refl
named_again is.SaslOutcome = refl

descriptor_again : (depth : ℕ) (name : Descriptor) (rest : List ℕ) → value_at (suc (suc depth) - 1) (0x53 ∷ code_of name ∷ rest) ≡ Ok (d.ulong (code_of name), rest)
unfolding FitsIn
descriptor_again depth name rest =
    let less : suc (suc depth) - 1 ≡ suc depth = omega arith in
    ap (λ n. value_at n (0x53 ∷ code_of name ∷ rest)) less
    ∙ ap (λ (t : List ℕ). value_at (suc depth) (t ++ rest)) (sym (descriptor_spelled name))
    ∙ value_at-spelling (suc depth) (d.ulong (code_of name)) rest (descriptor_fits name)

abbrev pub list_of : List FieldText → List ℕ
list_of fs = list_text (length (given fs)) (joined (given fs))

pub opening_again : (depth : ℕ) (name : Descriptor) (fs : List FieldText) (rest : List ℕ)
    → opening_at (suc (suc depth)) (described_text name fs ++ rest) ≡ Ok (opening.Described (Some name), list_of fs ++ rest)
unfolding opening_at described_text constructor_of
opening_again depth name fs rest =
    ap (λ r. by_fault outer (to plain_part r) >>= λ x. found (opening.Described (name_of x.0), x.1)) (descriptor_again depth name (list_of fs ++ rest))
    ∙ ap (λ n. found (opening.Described n, list_of fs ++ rest)) (named_again name)

-- ---- the list

abbrev pub Counted : Size → ℕ → List ℕ → Spelling
Counted s n inside bytes v = (field : List ℕ) × (bytes ≡ field ++ inside) × IsNumber s field n

pub number_is : (s : Size) (n : ℕ) (inside : List ℕ) (v : Data) (field : List ℕ) → IsNumber s field n → Counted s n inside (field ++ inside) v
number_is s n inside v field h = (field, refl, h)

pub listed_sized : (depth limit : ℕ) (wrong : PerfFault) (b : ℕ) (s : Size) (n : ℕ) (inside text rest : List ℕ) (v : Data) → constructor_of b ≡ Some (code.List s) → Fills s text v (Counted s n inside) → n ≤ limit
    → listed depth limit wrong (b ∷ (text ++ rest)) ≡ Ok (record { depth = depth - 1; left = n; bytes = inside }, rest)
unfolding listed
listed_sized depth limit wrong b s n inside text rest v known h few =
    ap (λ r. by_fault outer r >>= listed_by depth limit wrong (b ∷ (text ++ rest))) (code_complete b (code.List s) (text ++ rest) known)
    ∙ ap (λ r. by_fault outer r >>= λ x. by_fault inner (size_at s x.0) >>= counted depth limit x.1) (sized_complete s text h.inside rest h.sized)
    ∙ ap (λ (t : List ℕ). by_fault inner (size_at s t) >>= counted depth limit rest) h.spelled.1
    ∙ ap (λ r. by_fault inner r >>= counted depth limit rest) (size_complete s h.spelled.0 n inside h.spelled.2)
    ∙ ap (λ b. cond b (Err fault.TooManyFields) (found (record { depth = depth - 1; left = n; bytes = inside }, rest))) (le-ltb limit n few)

listed_list : (depth limit : ℕ) (wrong : PerfFault) (n : ℕ) (inside rest : List ℕ) → n < 2 ^ 32 → length inside + 4 < 2 ^ 32 → n ≤ limit
    → listed depth limit wrong (constructed kind.List (compound_piece n inside) ++ rest) ≡ Ok (record { depth = depth - 1; left = n; bytes = inside }, rest)
unfolding constructor_of
listed_list depth limit wrong n inside rest small short few = by_test (nat_lt (length inside) 255 && nat_lt n 256)
  where
    by_test : (b : Bool) → listed depth limit wrong (cond b (0xC0 ∷ cond b ((length inside + 1) ∷ n ∷ inside) []) (0xD0 ∷ (wide_sizes n (length inside) ++ inside)) ++ rest) ≡ Ok (record { depth = depth - 1; left = n; bytes = inside }, rest)
    by_test true = listed_sized depth limit wrong 0xC0 size.One n inside ((length inside + 1) ∷ n ∷ inside) rest d.null refl (compound_narrow n inside d.null (Counted size.One n inside) (number_is size.One n inside d.null)) few
    by_test false = listed_sized depth limit wrong 0xD0 size.Four n inside (wide_sizes n (length inside) ++ inside) rest d.null refl (compound_wide n inside d.null (Counted size.Four n inside) small short (number_is size.Four n inside d.null)) few

listed_text : (depth limit : ℕ) (wrong : PerfFault) (gs : List FieldText) (rest : List ℕ) → length gs ≤ limit → limit < 256 → length (joined gs) + 4 < 2 ^ 32
    → listed depth limit wrong (list_text (length gs) (joined gs) ++ rest) ≡ Ok (record { depth = depth - 1; left = length gs; bytes = joined gs }, rest)
unfolding listed constructor_of
listed_text depth limit wrong [] rest few small short = refl
listed_text depth limit wrong (g ∷ gs) rest few small short =
    let inside = joined (g ∷ gs) in
    let n = suc (length gs) in
    subst (λ b. listed depth limit wrong (cond b (0x45 ∷ []) (constructed kind.List (compound_piece n inside)) ++ rest) ≡ Ok (record { depth = depth - 1; left = n; bytes = inside }, rest))
    (sym (eqb-suc-zero (length gs))) (listed_list depth limit wrong n inside rest (omega (arith, few, small)) short few)

given_by-shorter : (f : FieldText) (gs : List FieldText) → length (given_by f gs) ≤ suc (length gs)
given_by-shorter None [] = omega arith
given_by-shorter None (g ∷ gs) = omega arith
given_by-shorter (Some t) gs = omega arith

pub given-shorter : (fs : List FieldText) → length (given fs) ≤ length fs
unfolding given
given-shorter [] = omega arith
given-shorter (f ∷ fs) = let a = given_by-shorter f (given fs) in let b = given-shorter fs in omega (arith, a, b)

pub listed_again : (depth limit : ℕ) (wrong : PerfFault) (fs : List FieldText) (rest : List ℕ) → length fs ≤ limit → limit < 256 → IsShort fs
    → listed depth limit wrong (list_of fs ++ rest) ≡ Ok (place (depth - 1) fs, rest)
unfolding place
listed_again depth limit wrong fs rest few small short =
    let shorter = given-shorter fs in
    listed_text depth limit wrong (given fs) rest (omega (arith, shorter, few)) small short

-- the fields of a list that was written, read as one thing
pub fields_again : {A B : Type 0} (depth limit : ℕ) (wrong : PerfFault) (fs : List FieldText) (rest : List ℕ) (read : At → Result A PerfFault) (see : A → B) (x : A)
    → length fs ≤ limit → limit < 256 → IsShort fs → read (place (suc depth) fs) ≡ Ok x
    → (listed (suc (suc (suc depth)) - 1) limit wrong (list_of fs ++ rest) >>= λ list. read list.0 >>= λ y. found {A = B × List ℕ} (see y, list.1)) ≡ Ok (see x, rest)
fields_again {B = B} depth limit wrong fs rest read see x few small short same =
    let first : suc (suc (suc depth)) - 1 ≡ suc (suc depth) = omega arith in
    let second : suc (suc depth) - 1 ≡ suc depth = omega arith in
    ap (λ n. listed n limit wrong (list_of fs ++ rest) >>= λ list. read list.0 >>= λ y. found {A = B × List ℕ} (see y, list.1)) first
    ∙ ap (λ r. r >>= λ list. read list.0 >>= λ y. found {A = B × List ℕ} (see y, list.1)) (listed_again (suc (suc depth)) limit wrong fs rest few small short)
    ∙ ap (λ n. read (place n fs) >>= λ y. found {A = B × List ℕ} (see y, rest)) second
    ∙ ap (λ r. r >>= λ y. found {A = B × List ℕ} (see y, rest)) same
