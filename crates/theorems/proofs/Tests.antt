-- Lemmas on tests.
use Rattle.std.proofs.Common.{◌≡◌, refl, Bool, true, false, ◌&&◌}
use Rattle.std.specs.Prelude.{Option, Some, None, is_none}

pub never_both : (a : Bool) → (a && false) ≡ true → ⊥
never_both true h = cc
never_both false h = cc

pub none_is : {A : Type 0} (v : Option A) → is_none v ≡ true → v ≡ None
none_is None h = refl
none_is (Some x) h = absurd cc

pub some_same : {A : Type 0} {x y : A} → Some x ≡ Some y → x ≡ y
some_same e = cc

pub none_not_some : {A : Type 0} {x : A} → None ≡ Some x → ⊥
none_not_some e = cc
