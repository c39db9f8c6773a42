-- What is written of an error or a delivery state encodes a value.
use Rattle.std.proofs.Common.{◌≡◌, ℕ, suc, ◌+◌, ◌^◌, ◌<◌, Bool, true, false, List, [], ◌∷◌, ◌++◌, length, Option, Some, None, refl, sym, ap, subst, ◌∙◌, arith}
use Rattle.amqp_model.specs.Data as d
use Rattle.amqp_model.specs.Data.{Data, Items, no_items, item}
use Rattle.amqp_model.specs.Data.{count}
use Rattle.amqp_model.specs.ValueSpelling.{list_text, spelling, spellings}
use Rattle.amqp_types.specs.Fitting.{FitsIn, AllItems}
use Rattle.amqp_model.specs.declared.descriptor.Descriptor.{Descriptor}
use Rattle.amqp_model.specs.declared.descriptor.Descriptor.TheVariants as is
use Rattle.amqp_model.specs.declared.state.Fault.{Fault}
use Rattle.amqp_model.specs.declared.state.DeliveryState.{DeliveryState}
use Rattle.amqp_model.specs.declared.state.DeliveryState.TheVariants as state
use Rattle.amqp_model.specs.Descriptors.{code_of}
use Rattle.amqp_model.specs.Texts.{FieldText, given, given_by, field_bytes, joined, described_text, mapped, flag_text}
use Rattle.amqp_model.specs.PerfSpelling.{error_texts, error_text, received_texts, rejected_texts, modified_texts, state_spelling, state_text}
use Rattle.amqp_perf.specs.Fitting.{Each, IsText, IsMap, IsShort, FitsError, FitsState}
use Rattle.amqp_perf.proofs.WrittenLists.{descriptor_spelled, descriptor_fits, given-shorter}
use Rattle.amqp_perf.proofs.WrittenStates.{less_two, nothing_short, received_short}

-- the bytes encode this value
pub record Spelt (depth : ℕ) (bytes : List ℕ) : Type 0 where
  pub value : Data
  pub same : bytes ≡ spelling value
  pub fits : FitsIn depth value

abbrev AllSpelt : ℕ → List FieldText → Type 0
AllSpelt depth [] = Unit {0}
AllSpelt depth (f ∷ fs) = Spelt depth (field_bytes f) × AllSpelt depth fs

given_by_spelt : (depth : ℕ) (f : FieldText) (gs : List FieldText) → Spelt depth (field_bytes f) → AllSpelt depth gs → AllSpelt depth (given_by f gs)
given_by_spelt depth None [] h all = tt
given_by_spelt depth None (g ∷ gs) h all = (h, all)
given_by_spelt depth (Some t) gs h all = (h, all)

given_spelt : (depth : ℕ) (fs : List FieldText) → AllSpelt depth fs → AllSpelt depth (given fs)
unfolding given
given_spelt depth [] all = tt
given_spelt depth (f ∷ fs) all = given_by_spelt depth f (given fs) all.0 (given_spelt depth fs all.1)

record Listed (depth : ℕ) (gs : List FieldText) : Type 0 where
  pub values : Items
  pub counted : length gs ≡ count values
  pub same : joined gs ≡ spellings values
  pub fit : AllItems (FitsIn depth) values

list_spelt : (depth : ℕ) (gs : List FieldText) → AllSpelt depth gs → Listed depth gs
unfolding spellings
list_spelt depth [] all = record { values = no_items; counted = refl; same = refl; fit = tt }
list_spelt depth (g ∷ gs) all =
    let more = list_spelt depth gs all.1 in
    record {
      values = item all.0.value more.values;
      counted = ap suc more.counted;
      same = ap (λ (t : List ℕ). t ++ joined gs) all.0.same ∙ ap (λ (t : List ℕ). spelling all.0.value ++ t) more.same;
      fit = (all.0.fits, more.fit);
    }

pub described_spelt : (depth : ℕ) (name : Descriptor) (fs : List FieldText) → length fs < 256 → IsShort fs → AllSpelt depth fs → Spelt (suc (suc depth)) (described_text name fs)
unfolding described_text spelling FitsIn
described_spelt depth name fs few short all =
    let list = list_spelt depth (given fs) (given_spelt depth fs all) in
    let shorter = given-shorter fs in
    let counted = list.counted in
    let size : length (spellings list.values) + 4 < 2 ^ 32 = subst (λ (t : List ℕ). length t + 4 < 2 ^ 32) list.same short in
    record {
      value = d.described (d.ulong (code_of name)) (d.list list.values);
      same =
          ap (λ n. 0x00 ∷ ((0x53 ∷ code_of name ∷ []) ++ list_text n (joined (given fs)))) list.counted
          ∙ ap (λ (t : List ℕ). 0x00 ∷ ((0x53 ∷ code_of name ∷ []) ++ list_text (count list.values) t)) list.same
          ∙ ap (λ (t : List ℕ). 0x00 ∷ (t ++ list_text (count list.values) (spellings list.values))) (sym (descriptor_spelled name));
      fits = (descriptor_fits name, (omega (arith, shorter, counted, few), size, list.fit));
    }

-- ---- fields

value_spelt : (depth : ℕ) (v : Data) → FitsIn depth v → Spelt depth (spelling v)
value_spelt depth v h = record { value = v; same = refl; fits = h }

null_spelt : (depth : ℕ) → Spelt (suc depth) (0x40 ∷ [])
unfolding spelling FitsIn
null_spelt depth = record { value = d.null; same = refl; fits = tt }

text_spelt : (depth : ℕ) (x : Option (List ℕ)) → Each IsText x → Spelt (suc depth) (field_bytes (mapped d.string x))
unfolding FitsIn
text_spelt depth None h = null_spelt depth
text_spelt depth (Some s) h = value_spelt (suc depth) (d.string s) h

flag_spelt : (depth : ℕ) (b : Bool) → Spelt (suc depth) (field_bytes (flag_text b))
unfolding FitsIn
flag_spelt depth true = value_spelt (suc depth) (d.boolean true) tt
flag_spelt depth false = null_spelt depth

map_spelt : (depth : ℕ) (x : Option (List ℕ)) → Each (IsMap (suc depth)) x → Spelt (suc depth) (field_bytes x)
map_spelt depth None h = null_spelt depth
map_spelt depth (Some bytes) h = record { value = d.map h.pairs; same = h.canonical; fits = h.fits }

-- ---- errors and states

error_spelt : (depth : ℕ) (x : Option Fault) → Each (FitsError (suc (suc (suc depth)))) x → Spelt (suc (suc (suc depth))) (field_bytes (error_text x))
unfolding FitsIn
error_spelt depth None h = null_spelt (suc (suc depth))
error_spelt depth (Some x) h =
    let info : Each (IsMap (suc depth)) x.info = subst (λ n. Each (IsMap n) x.info) (less_two (suc depth)) h.info in
    described_spelt (suc depth) is.Error (error_texts x) (omega arith) h.whole
    (value_spelt (suc depth) (d.symbol x.condition) h.condition, (text_spelt depth x.description h.description, (map_spelt depth x.info info, tt)))

state_is_spelt : (depth : ℕ) (x : DeliveryState) → FitsState (suc (suc (suc (suc (suc depth))))) x → Spelt (suc (suc (suc (suc (suc depth))))) (state_spelling x)
unfolding FitsIn state_spelling
state_is_spelt depth (state.Received x) h =
    described_spelt (suc (suc (suc depth))) is.Received (received_texts x) (omega arith) (received_short x)
    (value_spelt (suc (suc (suc depth))) (d.uint x.section_number) h.section_number, (value_spelt (suc (suc (suc depth))) (d.ulong x.section_offset) h.section_offset, tt))
state_is_spelt depth state.Accepted h = described_spelt (suc (suc (suc depth))) is.Accepted [] (omega arith) nothing_short tt
state_is_spelt depth (state.Rejected x) h =
    let error = subst (λ n. Each (FitsError n) x.error) (less_two (suc (suc (suc depth)))) h.error in
    described_spelt (suc (suc (suc depth))) is.Rejected (rejected_texts x) (omega arith) h.whole (error_spelt depth x.error error, tt)
state_is_spelt depth state.Released h = described_spelt (suc (suc (suc depth))) is.Released [] (omega arith) nothing_short tt
state_is_spelt depth (state.Modified x) h =
    let annotations = subst (λ n. Each (IsMap n) x.message_annotations) (less_two (suc (suc (suc depth)))) h.message_annotations in
    described_spelt (suc (suc (suc depth))) is.Modified (modified_texts x) (omega arith) h.whole
    (flag_spelt (suc (suc depth)) x.delivery_failed, (flag_spelt (suc (suc depth)) x.undeliverable_here, (map_spelt (suc (suc depth)) x.message_annotations annotations, tt)))
state_is_spelt depth (state.Other bytes) h = record { value = d.described h.descriptor h.value; same = h.canonical; fits = h.fits }

-- a state or null
pub state_spelt : (depth : ℕ) (x : Option DeliveryState) → Each (FitsState (suc (suc (suc (suc (suc depth)))))) x → Spelt (suc (suc (suc (suc (suc depth))))) (field_bytes (state_text x))
state_spelt depth None h = null_spelt (suc (suc (suc (suc depth))))
state_spelt depth (Some x) h = state_is_spelt depth x h
