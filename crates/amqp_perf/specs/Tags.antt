-- A set of tags, beside the deliveries that it stands for.
use Rattle.std.specs.Prelude.{◌≡◌, ℕ, List}
use Rattle.std.specs.Ordering.{nat_cmp}
use Rattle.std.specs.Cmp.Lexicographic.{slice_cmp}
use Rattle.std.specs.BTreeSet.{BTreeSet, contains}
use Rattle.arrayvec.specs.ArrayVec.{ArrayVec}
use Rattle.amqp_model.specs.declared.state.UnsettledDelivery.{UnsettledDelivery}
use Rattle.amqp_perf.specs.States.{is_among}

-- the set has the tags of the deliveries, and no others
abbrev pub Has : BTreeSet (ArrayVec ℕ) → List UnsettledDelivery → Type 0
Has tags ds = (tag : ArrayVec ℕ) → contains (λ v w. slice_cmp nat_cmp v.items w.items) tags tag ≡ is_among ds tag
