-- Texts that are read.
use Rattle.std.proofs.Common.{◌≡◌, ℕ, Bool, true, false, cond, List, Result, Ok, Err, IsUtf8, refl}
use Rattle.std.specs.Str.{is_utf8}
use Rattle.std.proofs.lemmas.Str.{IsUtf8-from_is_utf8, is_utf8-from_IsUtf8}
use Rattle.journal_codec.specs.declared.read.ReadFault.{ReadFault}
use Rattle.journal_codec.specs.declared.read.ReadFault.TheVariants.{Misspelt}
use Rattle.journal_codec.specs.Reading.{text_by}

pub text_ok : (bytes rest : List ℕ) → IsUtf8 bytes → text_by (bytes, rest) ≡ Ok (bytes, rest)
text_ok bytes rest h = rw (is_utf8-from_IsUtf8 bytes h) refl

pub text_bad : (bytes rest : List ℕ) → (IsUtf8 bytes → ⊥) → text_by (bytes, rest) ≡ Err Misspelt
text_bad bytes rest h = by_test (is_utf8 bytes) refl
  where
    by_test : (b : Bool) → is_utf8 bytes ≡ b → cond {A = Result (List ℕ × List ℕ) ReadFault} b (Ok (bytes, rest)) (Err Misspelt) ≡ Err Misspelt
    by_test true e = absurd (h (IsUtf8-from_is_utf8 bytes e))
    by_test false e = refl
