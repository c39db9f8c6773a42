-- A choice between two equal values.
use Rattle.std.proofs.Common.{◌≡◌, Bool, true, false, refl}
use Rattle.std.specs.Prelude.{if◌then◌else◌}

pub either : {A : Type 0} (test : Bool) (x : A) → (if test then x else x) ≡ x
either true x = refl
either false x = refl
