-- Texts: what the tests of a string and of a symbol mean.
use Rattle.std.proofs.Common.{◌≡◌, ℕ, zero, suc, ◌<◌, Bool, true, false, cond, List, [], ◌∷◌, nat_lt, ◌&&◌, Ok, Err, IsUtf8, IsAscii, refl, lit<}
use Rattle.std.specs.List.{list_all}
use Rattle.std.specs.Str.{is_utf8}
use Rattle.std.proofs.lemmas.Bool.{ltb-true}
use Rattle.std.proofs.lemmas.Str.{IsUtf8-from_is_utf8, is_utf8-from_IsUtf8, IsUtf8-from_ascii}
use Rattle.amqp_model.specs.declared.type_fault.TypeFault.TheVariants as fault
use Rattle.amqp_model.specs.Data as d
use Rattle.amqp_types.specs.Reading.{string_of, symbol_of, all_ascii}

pub string_ok : (bytes text : List ℕ) → text ≡ bytes → IsUtf8 bytes → string_of bytes ≡ Ok (d.string text)
string_ok bytes text same h = rw (same, is_utf8-from_IsUtf8 bytes h) refl

pub string_bad : (bytes : List ℕ) → (IsUtf8 bytes → ⊥) → string_of bytes ≡ Err fault.BadUtf8
string_bad bytes h = by_test (is_utf8 bytes) refl
  where
    by_test : (b : Bool) → is_utf8 bytes ≡ b → cond b (Ok (d.string bytes)) (Err fault.BadUtf8) ≡ Err fault.BadUtf8
    by_test true e = absurd (h (IsUtf8-from_is_utf8 bytes e))
    by_test false e = refl

pub IsAscii-from_all : (bytes : List ℕ) → list_all (λ b. nat_lt b 128) bytes ≡ true → IsAscii bytes
IsAscii-from_all [] e i = lit< tt
IsAscii-from_all (b ∷ bytes) e zero = by_head (nat_lt b 128) refl e
  where
    by_head : (t : Bool) → nat_lt b 128 ≡ t → (t && list_all (λ b. nat_lt b 128) bytes) ≡ true → b < 128
    by_head true is e = ltb-true b 128 is
    by_head false is e = absurd cc
IsAscii-from_all (b ∷ bytes) e (suc i) = IsAscii-from_all bytes (by_head (nat_lt b 128) e) i
  where
    by_head : (t : Bool) → (t && list_all (λ b. nat_lt b 128) bytes) ≡ true → list_all (λ b. nat_lt b 128) bytes ≡ true
    by_head true e = e
    by_head false e = absurd cc

pub IsUtf8-from_all : (bytes : List ℕ) → list_all (λ b. nat_lt b 128) bytes ≡ true → IsUtf8 bytes
IsUtf8-from_all bytes e = IsUtf8-from_ascii bytes (IsAscii-from_all bytes e)

pub symbol_ok : (bytes name : List ℕ) → name ≡ bytes → all_ascii bytes ≡ true → symbol_of bytes ≡ Ok (d.symbol name)
symbol_ok bytes name same e = rw (same, e) refl
