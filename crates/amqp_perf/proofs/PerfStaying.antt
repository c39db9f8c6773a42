-- Bytes that come behind change nothing of what was read of a performative, nor of a fault other than their end.
use Rattle.std.proofs.Common.{◌≡◌, ℕ, ◌-◌, Bool, true, false, cond, nat_lt, ◌⊎◌, inl, inr, List, ◌++◌, length, Option, Some, None, Result, Ok, Err, refl, sym, ap, subst, ◌∙◌, true≢false}
use Rattle.amqp_model.specs.declared.type_fault.TypeFault.{TypeFault}
use Rattle.amqp_model.specs.declared.type_fault.TypeFault.TheVariants as type_fault
use Rattle.amqp_model.specs.declared.code.Leaf.TheVariants as leaf
use Rattle.amqp_model.specs.declared.code.Code.{Code}
use Rattle.amqp_model.specs.declared.code.Code.TheVariants as code
use Rattle.amqp_model.specs.Data.{Data}
use Rattle.amqp_model.specs.View.{plain_part}
use Rattle.amqp_types.specs.Reading.{to, after, code_at, size_at, sized_at, value_at}
use Rattle.amqp_model.specs.ValueSpelling.{spelling}
use Rattle.amqp_types.proofs.Staying.{Stays as TypeStays, to_stays, code_stays, sized_stays, value_at_stays}
use Rattle.amqp_model.specs.declared.perf_fault.PerfFault.{PerfFault}
use Rattle.amqp_model.specs.declared.perf_fault.PerfFault.TheVariants as fault
use Rattle.amqp_model.specs.declared.descriptor.Descriptor.{Descriptor}
use Rattle.amqp_model.specs.declared.descriptor.Descriptor.TheVariants as is
use Rattle.amqp_perf.specs.declared.opening.Opening.{Opening}
use Rattle.amqp_perf.specs.declared.opening.Opening.TheVariants as opening
use Rattle.amqp_model.specs.declared.perf.Perf.{Perf}
use Rattle.amqp_model.specs.declared.state.DeliveryState.{DeliveryState}
use Rattle.amqp_model.specs.declared.state.DeliveryState.TheVariants as state
use Rattle.amqp_perf.specs.Faults.{inner, by_fault, ◌>>=◌}
use Rattle.amqp_model.specs.PerfFaults.{outer}
use Rattle.amqp_perf.specs.Fields.{At, ended, name_of, opened, opening_at, counted, listed_by, listed, carried}
use Rattle.amqp_perf.specs.States.{received_fields, rejected_fields, modified_fields, state_by, state_in}
use Rattle.amqp_perf.specs.Performative.{limit_of, body, behind, performative_by, performative_at, performative, some_state, state as state_read}
use Rattle.amqp_perf.specs.Fitting.{read_as}
use Rattle.amqp_perf.specs.ListTables.{SpellsPerf, SpellsState}
use Rattle.amqp_perf.proofs.TableLists.{opened_as, listed_as}
use Rattle.amqp_perf.proofs.TableLaws.{spelled_perf_read, spelled_state_read}

abbrev truncated : PerfFault
truncated = fault.Spelling type_fault.Truncated

-- what is read of bytes, and what is read of them with more behind
abbrev Stays : {A : Type 0} → List ℕ → Result (A × List ℕ) PerfFault → Result (A × List ℕ) PerfFault → Type 0
Stays more (Ok x) later = later ≡ Ok (x.0, x.1 ++ more)
Stays more (Err e) later = (e ≡ truncated → ⊥) → later ≡ Err e

then_stays : {A B : Type 0} (more : List ℕ) (r s : Result (A × List ℕ) PerfFault) (f g : A × List ℕ → Result (B × List ℕ) PerfFault) → Stays more r s
    → ((x : A) (rest : List ℕ) → Stays more (f (x, rest)) (g (x, rest ++ more))) → Stays more (r >>= f) (s >>= g)
then_stays more (Ok x) s f g h step = subst (λ q. Stays more (f x) (q >>= g)) (sym h) (step x.0 x.1)
then_stays more (Err e) s f g h step = λ other. ap (λ q. q >>= g) (h other)

outer_stays : {A : Type 0} (more : List ℕ) (r s : Result (A × List ℕ) TypeFault) → TypeStays more r s → Stays more (by_fault outer r) (by_fault outer s)
outer_stays more (Ok x) s h = ap (λ q. by_fault outer q) h
outer_stays more (Err e) s h = λ other. ap (λ q. by_fault outer q) (h (λ same. other (ap outer same)))

-- what follows doesn't look at the bytes
known_stays : {A B : Type 0} (more rest : List ℕ) (r : Result A PerfFault) (see : A → B) → Stays {A = B} more (r >>= λ y. Ok (see y, rest)) (r >>= λ y. Ok (see y, rest ++ more))
known_stays more rest (Ok y) see = refl
known_stays more rest (Err e) see = λ other. refl

-- a value that is passed over and then refused
abbrev refuse : {A : Type 0} → PerfFault → Result (Data × List ℕ) TypeFault → Result (A × List ℕ) PerfFault
refuse wrong r = by_fault outer (after r) >>= λ _. Err wrong

refuse_stays : (A : Type 0) (more : List ℕ) (wrong : PerfFault) (r s : Result (Data × List ℕ) TypeFault) → TypeStays more r s → Stays {A = A} more (refuse wrong r) (refuse wrong s)
refuse_stays A more wrong (Ok x) s h = λ other. ap (λ q. refuse {A = A} wrong q) h
refuse_stays A more wrong (Err e) s h = λ other. ap (λ q. refuse {A = A} wrong q) (h (λ same. other (ap outer same)))

opening_stays : (n : ℕ) (bytes more : List ℕ) → Stays more (opening_at n bytes) (opening_at n (bytes ++ more))
unfolding opening_at
opening_stays n bytes more = then_stays more (by_fault outer (code_at bytes)) (by_fault outer (code_at (bytes ++ more))) (opened n) (opened n) (outer_stays more (code_at bytes) (code_at (bytes ++ more)) (code_stays bytes more)) by_code
  where
    by_code : (c : Code) (rest : List ℕ) → Stays more (opened n (c, rest)) (opened n (c, rest ++ more))
    by_code (code.Leaf leaf.Null) rest = refl
    by_code code.Described rest =
        let r = value_at (n - 1) rest in
        let s = value_at (n - 1) (rest ++ more) in
        then_stays more (by_fault outer (to plain_part r)) (by_fault outer (to plain_part s)) (λ x. opened_as (opening.Described (name_of x.0)) x.1) (λ x. opened_as (opening.Described (name_of x.0)) x.1)
        (outer_stays more (to plain_part r) (to plain_part s) (to_stays more r s plain_part (value_at_stays (n - 1) rest more))) (λ x last. refl)
    by_code c rest = refl

listed_stays : (n limit : ℕ) (wrong : PerfFault) (bytes more : List ℕ) → Stays more (listed n limit wrong bytes) (listed n limit wrong (bytes ++ more))
unfolding listed
listed_stays n limit wrong bytes more =
    then_stays more (by_fault outer (code_at bytes)) (by_fault outer (code_at (bytes ++ more))) (listed_by n limit wrong bytes) (listed_by n limit wrong (bytes ++ more)) (outer_stays more (code_at bytes) (code_at (bytes ++ more)) (code_stays bytes more)) by_code
  where
    by_test : (b : Bool) (at : At) (rest : List ℕ) → Stays more (cond b (Err fault.TooManyFields) (listed_as at rest)) (cond b (Err fault.TooManyFields) (listed_as at (rest ++ more)))
    by_test true at rest = λ other. refl
    by_test false at rest = refl

    by_count : (r : Result (ℕ × List ℕ) PerfFault) (rest : List ℕ) → Stays more (r >>= counted n limit rest) (r >>= counted n limit (rest ++ more))
    by_count (Ok m) rest = by_test (nat_lt limit m.0) (record { depth = n - 1; left = m.0; bytes = m.1 }) rest
    by_count (Err e) rest = λ other. refl

    by_code : (c : Code) (rest : List ℕ) → Stays more (listed_by n limit wrong bytes (c, rest)) (listed_by n limit wrong (bytes ++ more) (c, rest ++ more))
    by_code code.EmptyList rest = refl
    by_code (code.List z) rest =
        then_stays more (by_fault outer (sized_at z rest)) (by_fault outer (sized_at z (rest ++ more))) (λ x. by_fault inner (size_at z x.0) >>= counted n limit x.1) (λ x. by_fault inner (size_at z x.0) >>= counted n limit x.1)
        (outer_stays more (sized_at z rest) (sized_at z (rest ++ more)) (sized_stays z rest more)) (λ inside last. by_count (by_fault inner (size_at z inside)) last)
    by_code c rest = refuse_stays At more wrong (value_at n bytes) (value_at n (bytes ++ more)) (value_at_stays n bytes more)

-- ---- a performative

abbrev read_before : Perf → List ℕ → Result (Perf × List ℕ) PerfFault
read_before p rest = Ok (p, rest)

performative_stays : (bytes more : List ℕ) → Stays more (performative_at bytes) (performative_at (bytes ++ more))
unfolding performative_at
performative_stays bytes more = then_stays more (opening_at 32 bytes) (opening_at 32 (bytes ++ more)) (performative_by bytes) (performative_by (bytes ++ more)) (opening_stays 32 bytes more) by_opening
  where
    by_limit : (name : Descriptor) (limit : Option ℕ) (rest : List ℕ) → Stays more (behind name limit rest) (behind name limit (rest ++ more))
    by_limit name None rest = λ other. refl
    by_limit name (Some limit) rest =
        then_stays more (listed 31 limit fault.NotPerformative rest) (listed 31 limit fault.NotPerformative (rest ++ more)) (λ list. body name list.0 >>= λ p. read_before p list.1) (λ list. body name list.0 >>= λ p. read_before p list.1)
        (listed_stays 31 limit fault.NotPerformative rest more) (λ at last. known_stays more last (body name at) (λ p. p))

    by_opening : (o : Opening) (rest : List ℕ) → Stays more (performative_by bytes (o, rest)) (performative_by (bytes ++ more) (o, rest ++ more))
    by_opening (opening.Described (Some name)) rest = by_limit name (limit_of name) rest
    by_opening (opening.Described None) rest = λ other. refl
    by_opening o rest = refuse_stays Perf more fault.NotPerformative (value_at 32 bytes) (value_at 32 (bytes ++ more)) (value_at_stays 32 bytes more)

-- ---- a delivery state

abbrev MaybeState : Type 0
MaybeState = Option DeliveryState

abbrev state_before : MaybeState → List ℕ → Result (MaybeState × List ℕ) PerfFault
state_before s rest = Ok (s, rest)

state_stays : (bytes more : List ℕ) → Stays more (state_in 32 bytes) (state_in 32 (bytes ++ more))
unfolding state_in
state_stays bytes more = then_stays more (opening_at 32 bytes) (opening_at 32 (bytes ++ more)) (state_by 32 bytes) (state_by 32 (bytes ++ more)) (opening_stays 32 bytes more) by_opening
  where
    by_list : {X : Type 0} (limit : ℕ) (fields : At → Result X PerfFault) (see : X → DeliveryState) (rest : List ℕ)
        → Stays more (listed 31 limit fault.WrongKind rest >>= λ list. fields list.0 >>= λ y. state_before (Some (see y)) list.1) (listed 31 limit fault.WrongKind (rest ++ more) >>= λ list. fields list.0 >>= λ y. state_before (Some (see y)) list.1)
    by_list limit fields see rest =
        then_stays more (listed 31 limit fault.WrongKind rest) (listed 31 limit fault.WrongKind (rest ++ more)) (λ list. fields list.0 >>= λ y. state_before (Some (see y)) list.1) (λ list. fields list.0 >>= λ y. state_before (Some (see y)) list.1)
        (listed_stays 31 limit fault.WrongKind rest more) (λ at last. known_stays more last (fields at) (λ y. Some (see y)))

    carries : Stays more (carried 32 bytes >>= λ x. state_before (Some (state.Other x.0)) x.1) (carried 32 (bytes ++ more) >>= λ x. state_before (Some (state.Other x.0)) x.1)
    carries =
        then_stays more (carried 32 bytes) (carried 32 (bytes ++ more)) (λ x. state_before (Some (state.Other x.0)) x.1) (λ x. state_before (Some (state.Other x.0)) x.1)
        (then_stays more (by_fault outer (value_at 32 bytes)) (by_fault outer (value_at 32 (bytes ++ more))) (λ x. Ok (spelling x.0, x.1)) (λ x. Ok (spelling x.0, x.1)) (outer_stays more (value_at 32 bytes) (value_at 32 (bytes ++ more)) (value_at_stays 32 bytes more)) (λ x last. refl))
        (λ x last. refl)

    by_name : (name : Option Descriptor) (rest : List ℕ) → Stays more (state_by 32 bytes (opening.Described name, rest)) (state_by 32 (bytes ++ more) (opening.Described name, rest ++ more))
    by_name (Some is.Received) rest = by_list 2 received_fields state.Received rest
    by_name (Some is.Accepted) rest = by_list 0 ended (λ y. state.Accepted) rest
    by_name (Some is.Rejected) rest = by_list 1 rejected_fields state.Rejected rest
    by_name (Some is.Released) rest = by_list 0 ended (λ y. state.Released) rest
    by_name (Some is.Modified) rest = by_list 3 modified_fields state.Modified rest
    by_name name rest = carries

    by_opening : (o : Opening) (rest : List ℕ) → Stays more (state_by 32 bytes (o, rest)) (state_by 32 (bytes ++ more) (o, rest ++ more))
    by_opening opening.Null rest = refl
    by_opening opening.Other rest = refuse_stays MaybeState more fault.WrongKind (value_at 32 bytes) (value_at 32 (bytes ++ more)) (value_at_stays 32 bytes more)
    by_opening (opening.Described name) rest = by_name name rest

-- ---- the laws

abbrev failed : {A : Type 0} → PerfFault → Result A PerfFault
failed e = Err e

failed_is : {A : Type 0} (e f : PerfFault) → failed {A = A} e ≡ failed f → e ≡ f
failed_is e f same = cc

is_truncated : PerfFault → Bool
is_truncated (fault.Spelling type_fault.Truncated) = true
is_truncated e = false

decided : (e : PerfFault) → (e ≡ truncated) ⊎ (e ≡ truncated → ⊥)
unfolding is_truncated
decided (fault.Spelling type_fault.Truncated) = inl refl
decided e = inr (λ same. true≢false (sym (ap is_truncated same)))

-- Read as a performative with its length: what is read, and what comes of the bytes with more behind.
abbrev as_perf : List ℕ → Perf × List ℕ → Result (Perf × ℕ) PerfFault
as_perf bytes x = read_as x.0 (length bytes - length x.1)

pub perf_fault_stays : (bytes more : List ℕ) (e : PerfFault) → performative bytes ≡ Err e → (e ≡ fault.Spelling type_fault.Truncated → ⊥) → performative (bytes ++ more) ≡ Err e
unfolding performative
perf_fault_stays bytes more e is other = by_read (performative_at bytes) (performative_stays bytes more) is
  where
    by_read : (r : Result (Perf × List ℕ) PerfFault) → Stays more r (performative_at (bytes ++ more)) → (r >>= as_perf bytes) ≡ Err e → (performative_at (bytes ++ more) >>= as_perf (bytes ++ more)) ≡ Err e
    by_read (Ok x) h is = absurd cc
    by_read (Err f) h is =
        let same = failed_is {A = Perf × ℕ} f e is in
        ap (λ q. q >>= as_perf (bytes ++ more)) (h (λ t. other (sym same ∙ t))) ∙ is

pub no_perf_goes_on : (bytes more text rest : List ℕ) (p : Perf) (e : PerfFault) → performative bytes ≡ Err e → (e ≡ fault.Spelling type_fault.Truncated → ⊥) → bytes ++ more ≡ text ++ rest → SpellsPerf text p → ⊥
no_perf_goes_on bytes more text rest p e is other same h =
    never p (length text) (sym (spelled_perf_read p text rest h) ∙ ap (λ (t : List ℕ). performative t) (sym same) ∙ perf_fault_stays bytes more e is other)
  where
    never : (p : Perf) (n : ℕ) → read_as p n ≡ Err e → ⊥
    never p n e = absurd cc

pub perf_used_all : (bytes more : List ℕ) → performative (bytes ++ more) ≡ Err (fault.Spelling type_fault.Truncated) → performative bytes ≡ Err (fault.Spelling type_fault.Truncated)
unfolding performative
perf_used_all bytes more is = by_read (performative_at bytes) (performative_stays bytes more)
  where
    by_read : (r : Result (Perf × List ℕ) PerfFault) → Stays more r (performative_at (bytes ++ more)) → (r >>= as_perf bytes) ≡ Err truncated
    by_read (Ok x) h = let e = sym (ap (λ q. q >>= as_perf (bytes ++ more)) h) ∙ is in absurd cc
    by_read (Err e) h = by_decision (decided e)
      where
        by_decision : (e ≡ truncated) ⊎ (e ≡ truncated → ⊥) → failed {A = Perf × ℕ} e ≡ Err truncated
        by_decision (inl same) = ap (λ f. failed f) same
        by_decision (inr other) = sym (ap (λ q. q >>= as_perf (bytes ++ more)) (h other)) ∙ is

-- the same of a delivery state that stands alone
pub state_fault_stays : (bytes more : List ℕ) (e : PerfFault) → state_read bytes ≡ Err e → (e ≡ fault.Spelling type_fault.Truncated → ⊥) → state_read (bytes ++ more) ≡ Err e
unfolding state_read
state_fault_stays bytes more e is other = by_read (state_in 32 bytes) (state_stays bytes more) is
  where
    by_given : (o : MaybeState) (rest : List ℕ) → state_in 32 (bytes ++ more) ≡ Ok (o, rest ++ more) → some_state bytes (o, rest) ≡ Err e → (state_in 32 (bytes ++ more) >>= some_state (bytes ++ more)) ≡ Err e
    by_given None rest h is = ap (λ q. q >>= some_state (bytes ++ more)) h ∙ is
    by_given (Some s) rest h is = absurd cc

    by_read : (r : Result (MaybeState × List ℕ) PerfFault) → Stays more r (state_in 32 (bytes ++ more)) → (r >>= some_state bytes) ≡ Err e → (state_in 32 (bytes ++ more) >>= some_state (bytes ++ more)) ≡ Err e
    by_read (Ok x) h is = by_given x.0 x.1 h is
    by_read (Err f) h is =
        let same = failed_is {A = DeliveryState × ℕ} f e is in
        ap (λ q. q >>= some_state (bytes ++ more)) (h (λ t. other (sym same ∙ t))) ∙ is

pub no_state_goes_on : (bytes more text rest : List ℕ) (s : DeliveryState) (e : PerfFault) → state_read bytes ≡ Err e → (e ≡ fault.Spelling type_fault.Truncated → ⊥) → bytes ++ more ≡ text ++ rest → SpellsState text s → ⊥
no_state_goes_on bytes more text rest s e is other same h =
    never s (length text) (sym (spelled_state_read s text rest h) ∙ ap (λ (t : List ℕ). state_read t) (sym same) ∙ state_fault_stays bytes more e is other)
  where
    never : (s : DeliveryState) (n : ℕ) → read_as s n ≡ Err e → ⊥
    never s n e = absurd cc

pub state_used_all : (bytes more : List ℕ) → state_read (bytes ++ more) ≡ Err (fault.Spelling type_fault.Truncated) → state_read bytes ≡ Err (fault.Spelling type_fault.Truncated)
unfolding state_read
state_used_all bytes more is = by_read (state_in 32 bytes) (state_stays bytes more)
  where
    by_given : (o : MaybeState) (rest : List ℕ) → state_in 32 (bytes ++ more) ≡ Ok (o, rest ++ more) → some_state bytes (o, rest) ≡ Err truncated
    by_given None rest h = sym (ap (λ q. q >>= some_state (bytes ++ more)) h) ∙ is
    by_given (Some s) rest h = let e = sym (ap (λ q. q >>= some_state (bytes ++ more)) h) ∙ is in absurd cc

    by_read : (r : Result (MaybeState × List ℕ) PerfFault) → Stays more r (state_in 32 (bytes ++ more)) → (r >>= some_state bytes) ≡ Err truncated
    by_read (Ok x) h = by_given x.0 x.1 h
    by_read (Err e) h = by_decision (decided e)
      where
        by_decision : (e ≡ truncated) ⊎ (e ≡ truncated → ⊥) → failed {A = DeliveryState × ℕ} e ≡ Err truncated
        by_decision (inl same) = ap (λ f. failed f) same
        by_decision (inr other) = sym (ap (λ q. q >>= some_state (bytes ++ more)) (h other)) ∙ is
