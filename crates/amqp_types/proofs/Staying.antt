-- Bytes that come behind change nothing of what was read, nor of a fault other than their end.
use Rattle.std.proofs.Common.{◌≡◌, ℕ, zero, suc, Bool, true, false, cond, nat_lt, List, [], ◌∷◌, ◌++◌, length, take, drop, Option, Some, None, Result, Ok, Err, refl, sym, ap, subst, ◌∙◌, append_assoc}
use Rattle.std.specs.Int.{byte_len, from_be_bytes}
use Rattle.std.proofs.lemmas.Bool.{ltb-false}
use Rattle.std.proofs.lemmas.List.{take-append-drop, length-take-le}
use Rattle.amqp_model.specs.declared.type_fault.TypeFault.{TypeFault}
use Rattle.amqp_model.specs.declared.type_fault.TypeFault.TheVariants as fault
use Rattle.amqp_model.specs.declared.code.Size.{Size}
use Rattle.amqp_model.specs.declared.code.Leaf.{Leaf}
use Rattle.amqp_model.specs.declared.code.Code.{Code}
use Rattle.amqp_model.specs.declared.code.Code.TheVariants as code
use Rattle.amqp_model.specs.declared.code.Layout.{Layout}
use Rattle.amqp_model.specs.declared.code.Layout.TheVariants as layout
use Rattle.amqp_model.specs.Codes.{code_of, width, layout_of}
use Rattle.amqp_model.specs.Data as d
use Rattle.amqp_model.specs.Data.{Data, no_items}
use Rattle.amqp_types.specs.Reading.{◌>>=◌, Reads, to, made, bytes_at, size_at, sized_at, known, code_at, chunk_at, content_of, leaf_at, whole, value_by, list_in, map_in, array_in, described_at, body_by, body_at, value_at, found_before}
use Rattle.amqp_types.specs.Spells.{Spells}
use Rattle.amqp_types.proofs.Tools.{done}
use Rattle.amqp_types.proofs.Complete.{bytes_complete, value_at-Spells}

-- what is read of bytes, and what is read of them with more behind
abbrev pub Stays : {A : Type 0} → List ℕ → Result (A × List ℕ) TypeFault → Result (A × List ℕ) TypeFault → Type 0
Stays more (Ok x) later = later ≡ Ok (x.0, x.1 ++ more)
Stays more (Err e) later = (e ≡ fault.Truncated → ⊥) → later ≡ Err e

abbrev pub Staying : {A : Type 0} → Reads A → Type 0
Staying read = (bytes more : List ℕ) → Stays more (read bytes) (read (bytes ++ more))

pub then_stays : {A B : Type 0} (more : List ℕ) (r s : Result (A × List ℕ) TypeFault) (f : A × List ℕ → Result (B × List ℕ) TypeFault) → Stays more r s
    → ((x : A) (rest : List ℕ) → Stays more (f (x, rest)) (f (x, rest ++ more))) → Stays more (r >>= f) (s >>= f)
then_stays more (Ok x) s f h step = subst (λ q. Stays more (f x) (q >>= f)) (sym h) (step x.0 x.1)
then_stays more (Err e) s f h step = λ other. ap (λ q. q >>= f) (h other)

pub to_stays : {A B : Type 0} (more : List ℕ) (r s : Result (A × List ℕ) TypeFault) (f : A → B) → Stays more r s → Stays more (to f r) (to f s)
to_stays more r s f h = then_stays more r s (λ x. Ok (f x.0, x.1)) h (λ x rest. refl)

made_stays : {A B : Type 0} (more : List ℕ) (r s : Result (A × List ℕ) TypeFault) (f : A → Result B TypeFault) → Stays more r s → Stays more (made f r) (made f s)
made_stays {A = A} {B = B} more r s f h = then_stays more r s (λ x. f x.0 >>= λ y. Ok (y, x.1)) h (λ x rest. by_made (f x) rest)
  where
    by_made : (q : Result B TypeFault) (rest : List ℕ) → Stays {A = B} more (q >>= λ y. Ok (y, rest)) (q >>= λ y. Ok (y, rest ++ more))
    by_made (Ok y) rest = refl
    by_made (Err e) rest = λ other. refl

bytes_stay : (n : ℕ) → Staying (bytes_at n)
bytes_stay n bytes more = by_test (nat_lt (length bytes) n) refl
  where
    by_test : (b : Bool) → nat_lt (length bytes) n ≡ b → Stays more (cond b (Err fault.Truncated) (done (take n bytes, drop n bytes))) (bytes_at n (bytes ++ more))
    by_test true is = λ other. absurd (other refl)
    by_test false is =
        ap (λ (t : List ℕ). bytes_at n t) (ap (λ (t : List ℕ). t ++ more) (sym (take-append-drop n bytes)) ∙ append_assoc (take n bytes) (drop n bytes) more)
        ∙ bytes_complete n (take n bytes) (drop n bytes ++ more) (length-take-le n bytes (ltb-false (length bytes) n is))

pub size_stays : (s : Size) → Staying (size_at s)
size_stays s bytes more = to_stays more (bytes_at (byte_len (width s)) bytes) (bytes_at (byte_len (width s)) (bytes ++ more)) (from_be_bytes (width s)) (bytes_stay (byte_len (width s)) bytes more)

pub sized_stays : (s : Size) → Staying (sized_at s)
unfolding sized_at
sized_stays s bytes more = then_stays more (size_at s bytes) (size_at s (bytes ++ more)) (λ n. bytes_at n.0 n.1) (size_stays s bytes more) (λ n rest. bytes_stay n rest more)

chunk_stays : (l : Layout) → Staying (chunk_at l)
chunk_stays (layout.Fixed n) bytes more = bytes_stay n bytes more
chunk_stays (layout.Sized s) bytes more = sized_stays s bytes more

leaf_stays : (l : Leaf) → Staying (leaf_at l)
unfolding leaf_at
leaf_stays l bytes more = made_stays more (chunk_at (layout_of l) bytes) (chunk_at (layout_of l) (bytes ++ more)) (content_of l) (chunk_stays (layout_of l) bytes more)

pub code_stays : Staying code_at
code_stays [] more = λ other. absurd (other refl)
code_stays (b ∷ bytes) more = by_known (code_of b)
  where
    by_known : (o : Option Code) → Stays more (known o bytes) (known o (bytes ++ more))
    by_known (Some c) = refl
    by_known None = λ other. refl

value_stays : (body : Code → Reads Data) → ((c : Code) → Staying (body c)) → Staying (value_by body)
value_stays body stay bytes more = then_stays more (code_at bytes) (code_at (bytes ++ more)) (λ c. body c.0 c.1) (code_stays bytes more) (λ c rest. stay c rest more)

described_stays : (body : Code → Reads Data) → ((c : Code) → Staying (body c)) → Staying (described_at body)
unfolding described_at
described_stays body stay bytes more =
    then_stays more (value_by body bytes) (value_by body (bytes ++ more)) (λ x. value_by body x.1 >>= λ y. Ok (d.described x.0 y.0, y.1)) (value_stays body stay bytes more)
    (λ a rest. then_stays more (value_by body rest) (value_by body (rest ++ more)) (λ y. Ok (d.described a y.0, y.1)) (value_stays body stay rest more) (λ b last. refl))

body_stays : (body : Code → Reads Data) → ((c : Code) → Staying (body c)) → (c : Code) → Staying (body_by body c)
body_stays body stay (code.Leaf l) bytes more = leaf_stays l bytes more
body_stays body stay code.EmptyList bytes more = refl
body_stays body stay (code.List s) bytes more = made_stays more (sized_at s bytes) (sized_at s (bytes ++ more)) (λ inside. whole (list_in body s inside)) (sized_stays s bytes more)
body_stays body stay (code.Map s) bytes more = made_stays more (sized_at s bytes) (sized_at s (bytes ++ more)) (λ inside. whole (map_in body s inside)) (sized_stays s bytes more)
body_stays body stay (code.Array s) bytes more = made_stays more (sized_at s bytes) (sized_at s (bytes ++ more)) (λ inside. whole (array_in body s inside)) (sized_stays s bytes more)
body_stays body stay code.Described bytes more = described_stays body stay bytes more

behind_stays : (depth : ℕ) (c : Code) → Staying (body_at depth c)
unfolding body_at
behind_stays zero c bytes more = λ other. refl
behind_stays (suc depth) c bytes more = body_stays (body_at depth) (behind_stays depth) c bytes more

pub value_at_stays : (depth : ℕ) → Staying (value_at depth)
unfolding value_at
value_at_stays depth bytes more = value_stays (body_at depth) (behind_stays depth) bytes more

-- ---- the laws

abbrev pub NotTruncated : TypeFault → Type 0
NotTruncated e = e ≡ fault.Truncated → ⊥

pub fault_stays : (depth : ℕ) (bytes more : List ℕ) (e : TypeFault) → value_at depth bytes ≡ Err e → NotTruncated e → value_at depth (bytes ++ more) ≡ Err e
fault_stays depth bytes more e is other = subst (λ r. Stays more r (value_at depth (bytes ++ more))) is (value_at_stays depth bytes more) other

no_value : (v : Data) (rest : List ℕ) (e : TypeFault) → found_before v rest ≡ Err e → ⊥
no_value v rest e is = absurd cc

-- nothing that begins so encodes a value
pub none_goes_on : (depth : ℕ) (bytes more text rest : List ℕ) (v : Data) (e : TypeFault) → value_at depth bytes ≡ Err e → NotTruncated e → bytes ++ more ≡ text ++ rest → Spells depth text v → ⊥
none_goes_on depth bytes more text rest v e is other same h =
    no_value v rest e (sym (value_at-Spells depth text v rest h) ∙ ap (λ (t : List ℕ). value_at depth t) (sym same) ∙ fault_stays depth bytes more e is other)

-- nothing is told of fewer bytes where the end of the bytes is the fault
pub all_were_used : (depth : ℕ) (bytes more : List ℕ) → value_at depth (bytes ++ more) ≡ Err fault.Truncated → value_at depth bytes ≡ Err fault.Truncated
all_were_used depth bytes more is = by_read (value_at depth bytes) (subst (λ r. Stays more (value_at depth bytes) r) is (value_at_stays depth bytes more))
  where
    by_read : (r : Result (Data × List ℕ) TypeFault) → Stays more r (Err fault.Truncated) → r ≡ Err fault.Truncated
    by_read (Ok x) h = absurd cc
    by_read (Err fault.Truncated) h = refl
    by_read (Err e) h = sym (h (λ same. absurd cc))
