-- Sources and targets that were written, read again.
use Rattle.std.proofs.Common.{◌≡◌, ℕ, suc, Bool, true, false, cond, nat_eq, List, [], ◌∷◌, ◌++◌, Option, Some, None, Ok, refl, sym, ap, subst, ◌∙◌, true≢false, arith}
use Rattle.std.specs.Option.{unwrap_or}
use Rattle.std.specs.Cmp.Lexicographic.{pointwise, pointwise_decides}
use Rattle.std.proofs.lemmas.Bool.Decides.{Decides-eqb}
use Rattle.amqp_model.specs.Data as d
use Rattle.amqp_model.specs.Data.{Data}
use Rattle.amqp_model.specs.View.{plain_part}
use Rattle.amqp_model.specs.ValueSpelling.{spelling}
use Rattle.amqp_types.specs.Fitting.{FitsIn}
use Rattle.amqp_model.specs.declared.perf_fault.PerfFault.TheVariants as fault
use Rattle.amqp_model.specs.declared.descriptor.Descriptor.{Descriptor}
use Rattle.amqp_model.specs.declared.descriptor.Descriptor.TheVariants as is
use Rattle.amqp_perf.specs.declared.opening.Opening.TheVariants as opening
use Rattle.amqp_model.specs.declared.terminus.Address.{Address}
use Rattle.amqp_model.specs.declared.terminus.Address.TheVariants as address
use Rattle.amqp_model.specs.declared.terminus.Source.{Source}
use Rattle.amqp_model.specs.declared.terminus.Target.{Target}
use Rattle.amqp_model.specs.declared.terminus.SourceTerminus.{SourceTerminus}
use Rattle.amqp_model.specs.declared.terminus.SourceTerminus.TheVariants as source
use Rattle.amqp_model.specs.declared.terminus.TargetTerminus.{TargetTerminus}
use Rattle.amqp_model.specs.declared.terminus.TargetTerminus.TheVariants as target
use Rattle.amqp_perf.specs.Faults.{◌>>=◌}
use Rattle.amqp_perf.specs.Fields.{name_of, plain, carried, judged, is_symbol, symbol, unless_null, address_of, address_at}
use Rattle.amqp_perf.specs.Termini.{node_at, choices_fields, source_fields, source_by, source_in, source_at, target_fields, target_by, target_in, target_at}
use Rattle.amqp_model.specs.PerfSpelling.{session_end}
use Rattle.amqp_model.specs.Texts.{FieldText, spelt, mapped, uint_unless, flag_text, symbols_text, described_text}
use Rattle.amqp_model.specs.PerfSpelling.{address_text, policy_text, state_text, source_texts, target_texts, source_text, target_text}
use Rattle.amqp_perf.specs.Fitting.{Each, IsSymbol, IsOther, is_address_value, FitsAddress, names_source, names_target, FitsSource, FitsTarget, FitsSourceTerminus, FitsTargetTerminus}
use Rattle.amqp_perf.proofs.WrittenPlaces.{found, place, place_ended, value-some, value-none, in_place-some, in_place-none}
use Rattle.amqp_perf.proofs.WrittenFields.{kind-some, kind-none, flag_again, uint_unless_again, symbol_again, map_again, symbols_again, unless_or}
use Rattle.amqp_perf.proofs.WrittenLists.{opening_again, fields_again}
use Rattle.amqp_perf.proofs.WrittenStates.{opening_carried, carried_again, opening_null, state_at_again}

-- ---- addresses

address_value : (v : Data) → is_address_value v ≡ true → (unless_null v ≡ Some v) × (address_of v ≡ address.Other (spelling v))
address_value d.null h = absurd (true≢false (sym h))
address_value (d.boolean b) h = (refl, refl)
address_value (d.ubyte n) h = (refl, refl)
address_value (d.ushort n) h = (refl, refl)
address_value (d.uint n) h = (refl, refl)
address_value (d.ulong n) h = (refl, refl)
address_value (d.byte n) h = (refl, refl)
address_value (d.short n) h = (refl, refl)
address_value (d.int n) h = (refl, refl)
address_value (d.long n) h = (refl, refl)
address_value (d.float n) h = (refl, refl)
address_value (d.double n) h = (refl, refl)
address_value (d.decimal32 n) h = (refl, refl)
address_value (d.decimal64 n) h = (refl, refl)
address_value (d.decimal128 n) h = (refl, refl)
address_value (d.char n) h = (refl, refl)
address_value (d.timestamp n) h = (refl, refl)
address_value (d.uuid n) h = (refl, refl)
address_value (d.binary n) h = (refl, refl)
address_value (d.string n) h = absurd (true≢false (sym h))
address_value (d.symbol n) h = (refl, refl)
address_value (d.list n) h = (refl, refl)
address_value (d.map n) h = (refl, refl)
address_value (d.array k n) h = (refl, refl)
address_value (d.described a b) h = (refl, refl)

pub address_again : (depth : ℕ) (x : Option Address) (fs : List FieldText) → Each (FitsAddress (suc depth)) x → address_at (place (suc depth) (address_text x ∷ fs)) ≡ Ok (x, place (suc depth) fs)
unfolding address_at FitsIn
address_again depth None fs h = ap (λ r. r >>= judged (λ v. found (address_of v))) (value-none depth fs)
address_again depth (Some (address.Text s)) fs h = ap (λ r. r >>= judged (λ v. found (address_of v))) (value-some (suc depth) (d.string s) fs h)
address_again depth (Some (address.Other bytes)) fs h =
    let v = h.value in
    let same = address_value v h.other in
    subst (λ (t : List ℕ). address_at (place (suc depth) (Some t ∷ fs)) ≡ Ok (Some (address.Other t), place (suc depth) fs)) (sym h.canonical)
    (ap (λ r. r >>= judged (λ v. found (address_of v))) (value-some (suc depth) v fs h.fits)
    ∙ ap (λ o. judged (λ v. found (address_of v)) (o, place (suc depth) fs)) same.0
    ∙ ap (λ a. found (Some a, place (suc depth) fs)) same.1)

-- ---- when a terminus ends

unfoldable unless_policy : List ℕ → Option (List ℕ)
unless_policy policy = cond (pointwise nat_eq policy session_end) None (Some policy)

policy_again : (depth : ℕ) (policy : List ℕ) (fs : List FieldText) → IsSymbol policy → symbol (place (suc depth) (policy_text policy ∷ fs)) ≡ Ok (unless_policy policy, place (suc depth) fs)
unfolding symbol unless_policy FitsIn
policy_again depth policy fs h = by_test (pointwise nat_eq policy session_end)
  where
    by_test : (b : Bool) → (plain (place (suc depth) (cond b None (spelt (d.symbol policy)) ∷ fs)) >>= judged is_symbol) ≡ Ok (cond b None (Some policy), place (suc depth) fs)
    by_test true = kind-none is_symbol depth fs
    by_test false = kind-some is_symbol (suc depth) (d.symbol policy) policy fs refl refl refl h

policy_or : (policy : List ℕ) → unwrap_or (unless_policy policy) session_end ≡ policy
unfolding unless_policy
policy_or policy = by_test (pointwise nat_eq policy session_end) refl
  where
    by_test : (b : Bool) → pointwise nat_eq policy session_end ≡ b → unwrap_or (cond b None (Some policy)) session_end ≡ policy
    by_test true e = sym ((pointwise_decides Decides-eqb policy session_end).0 e)
    by_test false e = refl

-- ---- sources and targets

source_fields_again : (x : Source) → FitsSource x → source_fields (place 28 (source_texts x)) ≡ Ok x
unfolding source_fields node_at choices_fields
source_fields_again x h =
    rw (
      address_again 27 x.address ((uint_unless 0 x.durable) ∷ (policy_text x.expiry_policy) ∷ (uint_unless 0 x.timeout) ∷ (flag_text x.dynamic) ∷ (x.dynamic_node_properties) ∷ (mapped d.symbol x.distribution_mode) ∷ (x.filter) ∷ (state_text x.default_outcome) ∷ (symbols_text x.outcomes) ∷ (symbols_text x.capabilities) ∷ []) h.address,
      uint_unless_again 27 0 x.durable ((policy_text x.expiry_policy) ∷ (uint_unless 0 x.timeout) ∷ (flag_text x.dynamic) ∷ (x.dynamic_node_properties) ∷ (mapped d.symbol x.distribution_mode) ∷ (x.filter) ∷ (state_text x.default_outcome) ∷ (symbols_text x.outcomes) ∷ (symbols_text x.capabilities) ∷ []) h.durable,
      policy_again 27 x.expiry_policy ((uint_unless 0 x.timeout) ∷ (flag_text x.dynamic) ∷ (x.dynamic_node_properties) ∷ (mapped d.symbol x.distribution_mode) ∷ (x.filter) ∷ (state_text x.default_outcome) ∷ (symbols_text x.outcomes) ∷ (symbols_text x.capabilities) ∷ []) h.expiry_policy,
      uint_unless_again 27 0 x.timeout ((flag_text x.dynamic) ∷ (x.dynamic_node_properties) ∷ (mapped d.symbol x.distribution_mode) ∷ (x.filter) ∷ (state_text x.default_outcome) ∷ (symbols_text x.outcomes) ∷ (symbols_text x.capabilities) ∷ []) h.timeout,
      flag_again 27 x.dynamic ((x.dynamic_node_properties) ∷ (mapped d.symbol x.distribution_mode) ∷ (x.filter) ∷ (state_text x.default_outcome) ∷ (symbols_text x.outcomes) ∷ (symbols_text x.capabilities) ∷ []),
      map_again 27 x.dynamic_node_properties ((mapped d.symbol x.distribution_mode) ∷ (x.filter) ∷ (state_text x.default_outcome) ∷ (symbols_text x.outcomes) ∷ (symbols_text x.capabilities) ∷ []) h.dynamic_node_properties,
      symbol_again 27 x.distribution_mode ((x.filter) ∷ (state_text x.default_outcome) ∷ (symbols_text x.outcomes) ∷ (symbols_text x.capabilities) ∷ []) h.distribution_mode,
      map_again 27 x.filter ((state_text x.default_outcome) ∷ (symbols_text x.outcomes) ∷ (symbols_text x.capabilities) ∷ []) h.filter,
      state_at_again 23 x.default_outcome ((symbols_text x.outcomes) ∷ (symbols_text x.capabilities) ∷ []) h.default_outcome,
      symbols_again 26 x.outcomes ((symbols_text x.capabilities) ∷ []) h.outcomes,
      symbols_again 26 x.capabilities [] h.capabilities,
      place_ended 28,
      unless_or 0 x.durable,
      unless_or 0 x.timeout,
      policy_or x.expiry_policy,
    ) refl

target_fields_again : (x : Target) → FitsTarget x → target_fields (place 28 (target_texts x)) ≡ Ok x
unfolding target_fields node_at
target_fields_again x h =
    rw (
      address_again 27 x.address ((uint_unless 0 x.durable) ∷ (policy_text x.expiry_policy) ∷ (uint_unless 0 x.timeout) ∷ (flag_text x.dynamic) ∷ (x.dynamic_node_properties) ∷ (symbols_text x.capabilities) ∷ []) h.address,
      uint_unless_again 27 0 x.durable ((policy_text x.expiry_policy) ∷ (uint_unless 0 x.timeout) ∷ (flag_text x.dynamic) ∷ (x.dynamic_node_properties) ∷ (symbols_text x.capabilities) ∷ []) h.durable,
      policy_again 27 x.expiry_policy ((uint_unless 0 x.timeout) ∷ (flag_text x.dynamic) ∷ (x.dynamic_node_properties) ∷ (symbols_text x.capabilities) ∷ []) h.expiry_policy,
      uint_unless_again 27 0 x.timeout ((flag_text x.dynamic) ∷ (x.dynamic_node_properties) ∷ (symbols_text x.capabilities) ∷ []) h.timeout,
      flag_again 27 x.dynamic ((x.dynamic_node_properties) ∷ (symbols_text x.capabilities) ∷ []),
      map_again 27 x.dynamic_node_properties ((symbols_text x.capabilities) ∷ []) h.dynamic_node_properties,
      symbols_again 26 x.capabilities [] h.capabilities,
      place_ended 28,
      unless_or 0 x.durable,
      unless_or 0 x.timeout,
      policy_or x.expiry_policy,
    ) refl

pub source_other : (depth : ℕ) (bytes rest : List ℕ) (n : Option Descriptor) → names_source n ≡ false → source_by depth bytes (opening.Described n, rest) ≡ (carried depth bytes >>= λ x. Ok (Some (source.Other x.0), x.1))
source_other depth bytes rest None h = refl
source_other depth bytes rest (Some is.Open) h = refl
source_other depth bytes rest (Some is.Begin) h = refl
source_other depth bytes rest (Some is.Attach) h = refl
source_other depth bytes rest (Some is.Flow) h = refl
source_other depth bytes rest (Some is.Transfer) h = refl
source_other depth bytes rest (Some is.Disposition) h = refl
source_other depth bytes rest (Some is.Detach) h = refl
source_other depth bytes rest (Some is.End) h = refl
source_other depth bytes rest (Some is.Close) h = refl
source_other depth bytes rest (Some is.Error) h = refl
source_other depth bytes rest (Some is.Received) h = refl
source_other depth bytes rest (Some is.Accepted) h = refl
source_other depth bytes rest (Some is.Rejected) h = refl
source_other depth bytes rest (Some is.Released) h = refl
source_other depth bytes rest (Some is.Modified) h = refl
source_other depth bytes rest (Some is.Source) h = absurd (true≢false h)
source_other depth bytes rest (Some is.Target) h = refl
source_other depth bytes rest (Some is.SaslMechanisms) h = refl
source_other depth bytes rest (Some is.SaslInit) h = refl
source_other depth bytes rest (Some is.SaslChallenge) h = refl
source_other depth bytes rest (Some is.SaslResponse) h = refl
source_other depth bytes rest (Some is.SaslOutcome) h = refl

pub target_other : (depth : ℕ) (bytes rest : List ℕ) (n : Option Descriptor) → names_target n ≡ false → target_by depth bytes (opening.Described n, rest) ≡ (carried depth bytes >>= λ x. Ok (Some (target.Other x.0), x.1))
target_other depth bytes rest None h = refl
target_other depth bytes rest (Some is.Open) h = refl
target_other depth bytes rest (Some is.Begin) h = refl
target_other depth bytes rest (Some is.Attach) h = refl
target_other depth bytes rest (Some is.Flow) h = refl
target_other depth bytes rest (Some is.Transfer) h = refl
target_other depth bytes rest (Some is.Disposition) h = refl
target_other depth bytes rest (Some is.Detach) h = refl
target_other depth bytes rest (Some is.End) h = refl
target_other depth bytes rest (Some is.Close) h = refl
target_other depth bytes rest (Some is.Error) h = refl
target_other depth bytes rest (Some is.Received) h = refl
target_other depth bytes rest (Some is.Accepted) h = refl
target_other depth bytes rest (Some is.Rejected) h = refl
target_other depth bytes rest (Some is.Released) h = refl
target_other depth bytes rest (Some is.Modified) h = refl
target_other depth bytes rest (Some is.Source) h = refl
target_other depth bytes rest (Some is.Target) h = absurd (true≢false h)
target_other depth bytes rest (Some is.SaslMechanisms) h = refl
target_other depth bytes rest (Some is.SaslInit) h = refl
target_other depth bytes rest (Some is.SaslChallenge) h = refl
target_other depth bytes rest (Some is.SaslResponse) h = refl
target_other depth bytes rest (Some is.SaslOutcome) h = refl

source_in_again : (x : Source) (rest : List ℕ) → FitsSource x → source_in 30 (described_text is.Source (source_texts x) ++ rest) ≡ Ok (Some (source.Source x), rest)
unfolding source_in
source_in_again x rest h =
    ap (λ r. r >>= source_by 30 (described_text is.Source (source_texts x) ++ rest)) (opening_again 28 is.Source (source_texts x) rest)
    ∙ fields_again 27 11 fault.WrongKind (source_texts x) rest source_fields (λ y. Some (source.Source y)) x (omega arith) (omega arith) h.whole (source_fields_again x h)

source_in_carried : (bytes rest : List ℕ) → IsOther names_source 30 bytes → source_in 30 (bytes ++ rest) ≡ Ok (Some (source.Other bytes), rest)
unfolding source_in
source_in_carried bytes rest h =
    let v = d.described h.descriptor h.value in
    subst (λ (t : List ℕ). source_in 30 (t ++ rest) ≡ Ok (Some (source.Other t), rest)) (sym h.canonical)
    (ap (λ r. r >>= source_by 30 (spelling v ++ rest)) (opening_carried 28 h.descriptor h.value rest h.fits)
    ∙ source_other 30 (spelling v ++ rest) (spelling h.value ++ rest) (name_of (plain_part h.descriptor)) h.unknown
    ∙ ap (λ r. r >>= λ x. found (Some (source.Other x.0), x.1)) (carried_again 30 v rest h.fits))

source_in_null : (rest : List ℕ) → source_in 30 (0x40 ∷ rest) ≡ Ok (None, rest)
unfolding source_in
source_in_null rest = ap (λ r. r >>= source_by 30 (0x40 ∷ rest)) (opening_null 30 rest)

pub source_at_again : (x : Option SourceTerminus) (fs : List FieldText) → Each FitsSourceTerminus x → source_at (place 30 (source_text x ∷ fs)) ≡ Ok (x, place 30 fs)
unfolding source_at
source_at_again None fs h = in_place-none source_in 30 fs source_in_null
source_at_again (Some (source.Source x)) fs h = in_place-some source_in 30 (described_text is.Source (source_texts x)) (source.Source x) fs (λ rest. source_in_again x rest h)
source_at_again (Some (source.Other bytes)) fs h = in_place-some source_in 30 bytes (source.Other bytes) fs (λ rest. source_in_carried bytes rest h)

target_in_again : (x : Target) (rest : List ℕ) → FitsTarget x → target_in 30 (described_text is.Target (target_texts x) ++ rest) ≡ Ok (Some (target.Target x), rest)
unfolding target_in
target_in_again x rest h =
    ap (λ r. r >>= target_by 30 (described_text is.Target (target_texts x) ++ rest)) (opening_again 28 is.Target (target_texts x) rest)
    ∙ fields_again 27 7 fault.WrongKind (target_texts x) rest target_fields (λ y. Some (target.Target y)) x (omega arith) (omega arith) h.whole (target_fields_again x h)

target_in_carried : (bytes rest : List ℕ) → IsOther names_target 30 bytes → target_in 30 (bytes ++ rest) ≡ Ok (Some (target.Other bytes), rest)
unfolding target_in
target_in_carried bytes rest h =
    let v = d.described h.descriptor h.value in
    subst (λ (t : List ℕ). target_in 30 (t ++ rest) ≡ Ok (Some (target.Other t), rest)) (sym h.canonical)
    (ap (λ r. r >>= target_by 30 (spelling v ++ rest)) (opening_carried 28 h.descriptor h.value rest h.fits)
    ∙ target_other 30 (spelling v ++ rest) (spelling h.value ++ rest) (name_of (plain_part h.descriptor)) h.unknown
    ∙ ap (λ r. r >>= λ x. found (Some (target.Other x.0), x.1)) (carried_again 30 v rest h.fits))

target_in_null : (rest : List ℕ) → target_in 30 (0x40 ∷ rest) ≡ Ok (None, rest)
unfolding target_in
target_in_null rest = ap (λ r. r >>= target_by 30 (0x40 ∷ rest)) (opening_null 30 rest)

pub target_at_again : (x : Option TargetTerminus) (fs : List FieldText) → Each FitsTargetTerminus x → target_at (place 30 (target_text x ∷ fs)) ≡ Ok (x, place 30 fs)
unfolding target_at
target_at_again None fs h = in_place-none target_in 30 fs target_in_null
target_at_again (Some (target.Target x)) fs h = in_place-some target_in 30 (described_text is.Target (target_texts x)) (target.Target x) fs (λ rest. target_in_again x rest h)
target_at_again (Some (target.Other bytes)) fs h = in_place-some target_in 30 bytes (target.Other bytes) fs (λ rest. target_in_carried bytes rest h)
