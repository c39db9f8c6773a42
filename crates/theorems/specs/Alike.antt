-- What makes no difference.
pub use Rattle.theorems.specs.Alone.{AnsweredAlone}
pub use Rattle.theorems.specs.Takes.{SameWheneverTaken}
pub use Rattle.theorems.specs.Pieces.{SameHoweverCut}
