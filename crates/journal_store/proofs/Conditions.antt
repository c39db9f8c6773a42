-- One condition of several, and one act of several.
use Rattle.std.proofs.Common.{◌≡◌, Bool, true, false, Option, Some, None, refl}
use Rattle.book_model.specs.declared.fault.BookFault.{BookFault}
use Rattle.book_model.specs.Book.{unless, or_else}

-- one condition of several
pub holds : (b : Bool) (f : BookFault) (next : Option BookFault) → unless b f next ≡ None → b ≡ true
holds true f next h = refl
holds false f next h = absurd cc

pub next_holds : (b : Bool) (f : BookFault) (next : Option BookFault) → unless b f next ≡ None → next ≡ None
next_holds true f next h = h
next_holds false f next h = absurd cc

-- the first act of some that apply applies, and the others apply after it
pub first_applies : (o rest : Option BookFault) → or_else o rest ≡ None → o ≡ None
first_applies None rest h = refl
first_applies (Some f) rest h = absurd cc

pub rest_applies : (o rest : Option BookFault) → or_else o rest ≡ None → rest ≡ None
rest_applies None rest h = h
rest_applies (Some f) rest h = absurd cc
