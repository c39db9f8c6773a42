-- What the lengths of two files tell: whether one of them has bytes.
use Rattle.std.proofs.Common.{◌≡◌, ◌<◌, ℕ, refl, arith, [], length}
use Rattle.std.proofs.lemmas.List.{nil_from_length}
use Rattle.disk_core.specs.Twin.{Contents}
use Rattle.disk_core.specs.declared.side.Side.{Side}
use Rattle.disk_core.specs.declared.side.Side.TheVariants.{First, Second}
use Rattle.amqr_files.specs.Journals.{HasBytes}

-- no file has any
pub both_empty : (c : Contents) (first second : ℕ) → first ≡ length (c First) → second ≡ length (c Second) → (0 < first → ⊥) → (0 < second → ⊥)
    → (side : Side) → c side ≡ []
both_empty c first second is_first is_second no_first no_second First = nil_from_length (c First) (omega (arith, is_first, no_first))
both_empty c first second is_first is_second no_first no_second Second = nil_from_length (c Second) (omega (arith, is_second, no_second))

pub none_has : (c : Contents) (first second : ℕ) → first ≡ length (c First) → second ≡ length (c Second) → (0 < first → ⊥) → (0 < second → ⊥) → HasBytes c → ⊥
none_has c first second is_first is_second no_first no_second has = has.1 (both_empty c first second is_first is_second no_first no_second has.0)

-- one of them has some
pub has_some : (c : Contents) (side : Side) (n : ℕ) → n ≡ length (c side) → 0 < n → HasBytes c
has_some c side n is above = (side, λ none. omega (arith, is, above, length_of none))
  where
    length_of : c side ≡ [] → length (c side) ≡ 0
    length_of none = rw none refl
