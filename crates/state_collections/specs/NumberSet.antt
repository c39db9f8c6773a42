-- The numbers of a set that is mostly small.
use Rattle.std.specs.Prelude.{◌||◌, ◌+◌, ℕ, Bool, length}
use Rattle.std.specs.Ordering.{nat_cmp}
use Rattle.std.specs.BTreeSet.{contains}
use Rattle.state_collections.specs.Among.{is_among}
use Rattle.state_collections.specs.declared.number_set.NumberSet.{NumberSet}

-- how many places and entries it takes
abbrev pub size : NumberSet → ℕ
size s = s.few.count + length s.more.keys

-- a number is in it
abbrev pub has : NumberSet → ℕ → Bool
has s n = is_among s.few.count s.few.places n || contains nat_cmp s.more n
