-- How termini are found by key.
use Rattle.std.specs.Prelude.{◌≡◌, List}
use Rattle.std.specs.List.{AllByRecursion}
use Rattle.book_model.specs.Keys.{key_cmp}
use Rattle.book_model.specs.declared.terminus.LinkKey.{LinkKey}
use Rattle.book_model.specs.declared.terminus.Terminus.{Terminus}
use Rattle.book_core.specs.declared.numbers.Numbers.{Numbers}
use Rattle.book_core.specs.Numbers.{number_at}

-- the number of each terminus is at its key
abbrev pub AllKeyed : Numbers LinkKey → List Terminus → Type 0
AllKeyed keys = AllByRecursion (λ t. number_at key_cmp keys t.key ≡ t.number.0)
