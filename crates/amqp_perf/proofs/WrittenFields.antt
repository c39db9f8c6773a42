-- Fields that were written, read again: each kind of field.
use Rattle.std.proofs.Common.{◌≡◌, ℕ, suc, ◌^◌, ◌<◌, ◌≤◌, Bool, true, false, cond, ◌==◌, List, [], ◌∷◌, length, Option, Some, None, Result, Ok, Err, refl, sym, ap, subst, ◌∙◌, arith}
use Rattle.std.specs.Option.{unwrap_or}
use Rattle.std.proofs.lemmas.Bool.{le-ltb, eqb-true}
use Rattle.arrayvec.specs.ArrayVec.{ArrayVec}
use Rattle.amqp_model.specs.declared.code.Kind.TheVariants as kind
use Rattle.amqp_model.specs.Data as d
use Rattle.amqp_model.specs.Data.{Data, Items, no_items, item}
use Rattle.amqp_model.specs.View.{plain_part}
use Rattle.amqp_model.specs.Data.{count}
use Rattle.amqp_types.specs.Fitting.{FitsIn, AllItems, AreOf}
use Rattle.amqp_model.specs.declared.perf_fault.PerfFault.{PerfFault}
use Rattle.amqp_model.specs.declared.perf_fault.PerfFault.TheVariants as fault
use Rattle.amqp_model.specs.declared.perf.Role.{Role}
use Rattle.amqp_model.specs.declared.perf.Role.TheVariants as role
use Rattle.amqp_perf.specs.Faults.{◌>>=◌}
use Rattle.amqp_perf.specs.Fields.{plain, unless_null, judged, required, or_else, is_boolean, is_ubyte, is_ushort, is_uint, is_ulong, is_text, is_symbol, is_binary, is_map, are_symbols, is_symbols, is_tag, flag, required_flag, ubyte, required_ubyte, ushort, uint, required_uint, ulong, required_ulong, text, required_text, symbol, required_symbol, binary, required_binary, tag, map, symbols, some_symbols, required_symbols}
use Rattle.amqp_perf.specs.Performative.{role_of, required_role}
use Rattle.amqp_model.specs.Texts.{FieldText, spelt, ubyte_unless, uint_unless, ushort_unless, flag_text, symbol_items, symbols_text, mapped}
use Rattle.amqp_model.specs.PerfSpelling.{role_text}
use Rattle.amqp_perf.specs.Fitting.{Each, IsText, IsSymbol, IsBinary, IsTag, AllSymbols, AreSymbols, IsMap}
use Rattle.amqp_perf.proofs.WrittenPlaces.{found, place, plain-some, plain-none, value-some, value-none}

-- ---- what holds something, and what may not

pub kind-some : {A : Type 0} (is : Data → Result A PerfFault) (depth : ℕ) (v : Data) (x : A) (fs : List FieldText)
    → plain_part v ≡ Some v → unless_null v ≡ Some v → is v ≡ Ok x → FitsIn depth v → (plain (place depth (spelt v ∷ fs)) >>= judged is) ≡ Ok (Some x, place depth fs)
kind-some is depth v x fs part some same fits =
    ap (λ r. r >>= judged is) (plain-some depth v fs part fits)
    ∙ ap (λ o. judged is (o, place depth fs)) some
    ∙ ap (λ r. r >>= λ y. found (Some y, place depth fs)) same

pub kind-none : {A : Type 0} (is : Data → Result A PerfFault) (depth : ℕ) (fs : List FieldText) → (plain (place (suc depth) (None ∷ fs)) >>= judged is) ≡ Ok (None, place (suc depth) fs)
kind-none is depth fs = ap (λ r. r >>= judged is) (plain-none depth fs)

kind-mapped : {A : Type 0} (is : Data → Result A PerfFault) (of : A → Data) (Fits : A → Type 0) (depth : ℕ) (x : Option A) (fs : List FieldText)
    → ((y : A) → plain_part (of y) ≡ Some (of y)) → ((y : A) → unless_null (of y) ≡ Some (of y)) → ((y : A) → Fits y → is (of y) ≡ Ok y) → ((y : A) → Fits y → FitsIn (suc depth) (of y))
    → Each Fits x → (plain (place (suc depth) (mapped of x ∷ fs)) >>= judged is) ≡ Ok (x, place (suc depth) fs)
kind-mapped is of Fits depth None fs part some same fits h = kind-none is depth fs
kind-mapped is of Fits depth (Some y) fs part some same fits h = kind-some is (suc depth) (of y) y fs (part y) (some y) (same y h) (fits y h)

-- a value that is not written where it is the default
unfoldable pub unless : ℕ → ℕ → Option ℕ
unless default n = cond (n == default) None (Some n)

pub unless_or : (default n : ℕ) → unwrap_or (unless default n) default ≡ n
unfolding unless
unless_or default n = by_test (n == default) refl
  where
    by_test : (b : Bool) → (n == default) ≡ b → unwrap_or (cond b None (Some n)) default ≡ n
    by_test true e = sym (eqb-true n default e)
    by_test false e = refl

kind-unless : (is : Data → Result ℕ PerfFault) (of : ℕ → Data) (depth default n : ℕ) (fs : List FieldText)
    → plain_part (of n) ≡ Some (of n) → unless_null (of n) ≡ Some (of n) → is (of n) ≡ Ok n → FitsIn (suc depth) (of n)
    → (plain (place (suc depth) (cond (n == default) None (spelt (of n)) ∷ fs)) >>= judged is) ≡ Ok (unless default n, place (suc depth) fs)
unfolding unless
kind-unless is of depth default n fs part some same fits = by_test (n == default)
  where
    by_test : (b : Bool) → (plain (place (suc depth) (cond b None (spelt (of n)) ∷ fs)) >>= judged is) ≡ Ok (cond b None (Some n), place (suc depth) fs)
    by_test true = kind-none is depth fs
    by_test false = kind-some is (suc depth) (of n) n fs part some same fits

-- ---- the kinds

pub flag_again : (depth : ℕ) (b : Bool) (fs : List FieldText) → flag (place (suc depth) (flag_text b ∷ fs)) ≡ Ok (b, place (suc depth) fs)
unfolding flag FitsIn
flag_again depth true fs = ap (λ r. r >>= or_else false) (kind-some is_boolean (suc depth) (d.boolean true) true fs refl refl refl tt)
flag_again depth false fs = ap (λ r. r >>= or_else false) (kind-none is_boolean depth fs)

pub role_again : (depth : ℕ) (x : Role) (fs : List FieldText) → required_role (place (suc depth) (role_text x ∷ fs)) ≡ Ok (x, place (suc depth) fs)
unfolding required_role required_flag FitsIn
role_again depth role.Sender fs = ap (λ r. r >>= required >>= λ y. found (role_of y.0, y.1)) (kind-some is_boolean (suc depth) (d.boolean false) false fs refl refl refl tt)
role_again depth role.Receiver fs = ap (λ r. r >>= required >>= λ y. found (role_of y.0, y.1)) (kind-some is_boolean (suc depth) (d.boolean true) true fs refl refl refl tt)

pub ubyte_again : (depth : ℕ) (x : Option ℕ) (fs : List FieldText) → Each (λ n. n < 2 ^ 8) x → ubyte (place (suc depth) (mapped d.ubyte x ∷ fs)) ≡ Ok (x, place (suc depth) fs)
unfolding ubyte FitsIn
ubyte_again depth x fs h = kind-mapped is_ubyte d.ubyte (λ n. n < 2 ^ 8) depth x fs (λ y. refl) (λ y. refl) (λ y fits. refl) (λ y fits. fits) h

pub ubyte_unless_again : (depth default n : ℕ) (fs : List FieldText) → n < 2 ^ 8 → ubyte (place (suc depth) (ubyte_unless default n ∷ fs)) ≡ Ok (unless default n, place (suc depth) fs)
unfolding ubyte FitsIn
ubyte_unless_again depth default n fs h = kind-unless is_ubyte d.ubyte depth default n fs refl refl refl h

pub required_ubyte_again : (depth n : ℕ) (fs : List FieldText) → n < 2 ^ 8 → required_ubyte (place (suc depth) (spelt (d.ubyte n) ∷ fs)) ≡ Ok (n, place (suc depth) fs)
unfolding required_ubyte FitsIn
required_ubyte_again depth n fs h = ap (λ r. r >>= required) (kind-some is_ubyte (suc depth) (d.ubyte n) n fs refl refl refl h)

pub ushort_again : (depth : ℕ) (x : Option ℕ) (fs : List FieldText) → Each (λ n. n < 2 ^ 16) x → ushort (place (suc depth) (mapped d.ushort x ∷ fs)) ≡ Ok (x, place (suc depth) fs)
unfolding ushort FitsIn
ushort_again depth x fs h = kind-mapped is_ushort d.ushort (λ n. n < 2 ^ 16) depth x fs (λ y. refl) (λ y. refl) (λ y fits. refl) (λ y fits. fits) h

pub ushort_unless_again : (depth default n : ℕ) (fs : List FieldText) → n < 2 ^ 16 → ushort (place (suc depth) (ushort_unless default n ∷ fs)) ≡ Ok (unless default n, place (suc depth) fs)
unfolding ushort FitsIn
ushort_unless_again depth default n fs h = kind-unless is_ushort d.ushort depth default n fs refl refl refl h

pub uint_again : (depth : ℕ) (x : Option ℕ) (fs : List FieldText) → Each (λ n. n < 2 ^ 32) x → uint (place (suc depth) (mapped d.uint x ∷ fs)) ≡ Ok (x, place (suc depth) fs)
unfolding uint FitsIn
uint_again depth x fs h = kind-mapped is_uint d.uint (λ n. n < 2 ^ 32) depth x fs (λ y. refl) (λ y. refl) (λ y fits. refl) (λ y fits. fits) h

pub uint_unless_again : (depth default n : ℕ) (fs : List FieldText) → n < 2 ^ 32 → uint (place (suc depth) (uint_unless default n ∷ fs)) ≡ Ok (unless default n, place (suc depth) fs)
unfolding uint FitsIn
uint_unless_again depth default n fs h = kind-unless is_uint d.uint depth default n fs refl refl refl h

pub required_uint_again : (depth n : ℕ) (fs : List FieldText) → n < 2 ^ 32 → required_uint (place (suc depth) (spelt (d.uint n) ∷ fs)) ≡ Ok (n, place (suc depth) fs)
unfolding required_uint FitsIn
required_uint_again depth n fs h = ap (λ r. r >>= required) (kind-some is_uint (suc depth) (d.uint n) n fs refl refl refl h)

pub ulong_again : (depth : ℕ) (x : Option ℕ) (fs : List FieldText) → Each (λ n. n < 2 ^ 64) x → ulong (place (suc depth) (mapped d.ulong x ∷ fs)) ≡ Ok (x, place (suc depth) fs)
unfolding ulong FitsIn
ulong_again depth x fs h = kind-mapped is_ulong d.ulong (λ n. n < 2 ^ 64) depth x fs (λ y. refl) (λ y. refl) (λ y fits. refl) (λ y fits. fits) h

pub required_ulong_again : (depth n : ℕ) (fs : List FieldText) → n < 2 ^ 64 → required_ulong (place (suc depth) (spelt (d.ulong n) ∷ fs)) ≡ Ok (n, place (suc depth) fs)
unfolding required_ulong FitsIn
required_ulong_again depth n fs h = ap (λ r. r >>= required) (kind-some is_ulong (suc depth) (d.ulong n) n fs refl refl refl h)

pub text_again : (depth : ℕ) (x : Option (List ℕ)) (fs : List FieldText) → Each IsText x → text (place (suc depth) (mapped d.string x ∷ fs)) ≡ Ok (x, place (suc depth) fs)
unfolding text FitsIn
text_again depth x fs h = kind-mapped is_text d.string IsText depth x fs (λ y. refl) (λ y. refl) (λ y fits. refl) (λ y fits. fits) h

pub required_text_again : (depth : ℕ) (s : List ℕ) (fs : List FieldText) → IsText s → required_text (place (suc depth) (spelt (d.string s) ∷ fs)) ≡ Ok (s, place (suc depth) fs)
unfolding required_text FitsIn
required_text_again depth s fs h = ap (λ r. r >>= required) (kind-some is_text (suc depth) (d.string s) s fs refl refl refl h)

pub symbol_again : (depth : ℕ) (x : Option (List ℕ)) (fs : List FieldText) → Each IsSymbol x → symbol (place (suc depth) (mapped d.symbol x ∷ fs)) ≡ Ok (x, place (suc depth) fs)
unfolding symbol FitsIn
symbol_again depth x fs h = kind-mapped is_symbol d.symbol IsSymbol depth x fs (λ y. refl) (λ y. refl) (λ y fits. refl) (λ y fits. fits) h

pub required_symbol_again : (depth : ℕ) (s : List ℕ) (fs : List FieldText) → IsSymbol s → required_symbol (place (suc depth) (spelt (d.symbol s) ∷ fs)) ≡ Ok (s, place (suc depth) fs)
unfolding required_symbol FitsIn
required_symbol_again depth s fs h = ap (λ r. r >>= required) (kind-some is_symbol (suc depth) (d.symbol s) s fs refl refl refl h)

pub binary_again : (depth : ℕ) (x : Option (List ℕ)) (fs : List FieldText) → Each IsBinary x → binary (place (suc depth) (mapped d.binary x ∷ fs)) ≡ Ok (x, place (suc depth) fs)
unfolding binary FitsIn
binary_again depth x fs h = kind-mapped is_binary d.binary IsBinary depth x fs (λ y. refl) (λ y. refl) (λ y fits. refl) (λ y fits. fits) h

pub required_binary_again : (depth : ℕ) (s : List ℕ) (fs : List FieldText) → IsBinary s → required_binary (place (suc depth) (spelt (d.binary s) ∷ fs)) ≡ Ok (s, place (suc depth) fs)
unfolding required_binary FitsIn
required_binary_again depth s fs h = ap (λ r. r >>= required) (kind-some is_binary (suc depth) (d.binary s) s fs refl refl refl h)

tag_is : (t : ArrayVec ℕ) → IsTag t → is_tag (d.binary t.items) ≡ Ok t
tag_is t h = ap (λ b. cond b (Err fault.TagTooLong) (found t)) (le-ltb 32 (length t.items) h)

pub tag_again : (depth : ℕ) (x : Option (ArrayVec ℕ)) (fs : List FieldText) → Each IsTag x → tag (place (suc depth) (mapped (λ t. d.binary t.items) x ∷ fs)) ≡ Ok (x, place (suc depth) fs)
unfolding tag FitsIn
tag_again depth x fs h = kind-mapped is_tag (λ t. d.binary t.items) IsTag depth x fs (λ y. refl) (λ y. refl) tag_is (λ y fits. omega (arith, fits)) h

-- a map is carried as it is encoded
pub map_again : (depth : ℕ) (x : Option (List ℕ)) (fs : List FieldText) → Each (IsMap (suc depth)) x → map (place (suc depth) (x ∷ fs)) ≡ Ok (x, place (suc depth) fs)
unfolding map
map_again depth None fs h = ap (λ r. r >>= judged is_map) (value-none depth fs)
map_again depth (Some bytes) fs h =
    subst (λ (t : List ℕ). map (place (suc depth) (Some t ∷ fs)) ≡ Ok (Some t, place (suc depth) fs)) (sym h.canonical)
    (ap (λ r. r >>= judged is_map) (value-some (suc depth) (d.map h.pairs) fs h.fits))

-- symbols
symbols_are : (ss : List (List ℕ)) → are_symbols (symbol_items ss) ≡ Ok ss
symbols_are [] = refl
symbols_are (s ∷ ss) = ap (λ r. r >>= λ others. found (s ∷ others)) (symbols_are ss)

symbols_fit : (depth : ℕ) (ss : List (List ℕ)) → AllSymbols ss → AllItems (FitsIn (suc depth)) (symbol_items ss) × AreOf kind.Symbol (symbol_items ss)
unfolding FitsIn
symbols_fit depth [] h = (tt, tt)
symbols_fit depth (s ∷ ss) h = let more = symbols_fit depth ss h.1 in ((h.0, more.0), (refl, more.1))

count_symbols : (ss : List (List ℕ)) → count (symbol_items ss) ≡ length ss
count_symbols [] = refl
count_symbols (s ∷ ss) = ap suc (count_symbols ss)

array_fits : (depth : ℕ) (ss : List (List ℕ)) → AreSymbols ss → FitsIn (suc (suc depth)) (d.array kind.Symbol (symbol_items ss))
unfolding FitsIn
array_fits depth ss h =
    let e = count_symbols ss in
    let all = symbols_fit depth ss h.each in
    let few = h.few in
    (omega (arith, e, few), h.short, all.0, all.1, λ wrong. absurd cc)

pub symbols_again : (depth : ℕ) (ss : List (List ℕ)) (fs : List FieldText) → AreSymbols ss → symbols (place (suc (suc depth)) (symbols_text ss ∷ fs)) ≡ Ok (ss, place (suc (suc depth)) fs)
unfolding symbols
symbols_again depth [] fs h = ap (λ r. r >>= judged is_symbols >>= or_else []) (value-none (suc depth) fs)
symbols_again depth (s ∷ ss) fs h =
    ap (λ r. r >>= judged is_symbols >>= or_else []) (value-some (suc (suc depth)) (d.array kind.Symbol (symbol_items (s ∷ ss))) fs (array_fits depth (s ∷ ss) h))
    ∙ ap (λ r. r >>= (λ y. found (Some y, place (suc (suc depth)) fs)) >>= or_else []) (symbols_are (s ∷ ss))

pub required_symbols_again : (depth : ℕ) (ss : List (List ℕ)) (fs : List FieldText) → AreSymbols ss → 1 ≤ length ss → required_symbols (place (suc (suc depth)) (symbols_text ss ∷ fs)) ≡ Ok (ss, place (suc (suc depth)) fs)
unfolding required_symbols
required_symbols_again depth [] fs h some = absurd (omega (arith, some))
required_symbols_again depth (s ∷ ss) fs h some = ap (λ r. r >>= some_symbols) (symbols_again depth (s ∷ ss) fs h)
