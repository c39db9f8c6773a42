-- The sums that are told.
use Rattle.std.proofs.Common.{◌≡◌, ◌∙◌, sym, ap, ℕ, ◌+◌, Option, Some, None, Result, Ok, Err, IfOk, List, []}
use Rattle.std.specs.List.Sorted.{IsStrictlySortedBy}
use Rattle.route_credit.specs.Giving.{IsGiving}
use Rattle.route_credit.specs.Granting.{grants_of}
use Rattle.route_credit.specs.Links.{amount_at, link_at}
use Rattle.route_credit.specs.Pool.{by_id, IsNext, IsTold, Sharing, unused_at}
use Rattle.route_credit.specs.Tally.{before_others}
use Rattle.route_credit.specs.declared.ids.ProducerId.{ProducerId}
use Rattle.route_credit.specs.declared.tally.Sum.{Sum}
use Rattle.route_credit.proofs.Entries.{InOrder}
use Rattle.route_credit.proofs.Gains.{sums_are}

-- sums in which the same is found
giving_same : (old now : Sharing) (sums other : List (ℕ × ℕ)) → IsGiving old now sums → ((q : ℕ) → link_at other q ≡ link_at sums q) → IsGiving old now other
giving_same old now sums other is same = record {
  granted = is.granted;
  within = is.within;
  some = λ id n h. is.some id n (sym (same id) ∙ h);
  all = is.all;
  keys = is.keys;
  raised = λ id. is.raised id ∙ ap (λ x. unused_at old id + amount_at (λ n. n) x) (sym (same id));
}

one_in_order : (sum : Option Sum) (told : List (ℕ × ℕ)) → told ≡ before_others sum [] → InOrder told
unfolding IsStrictlySortedBy
one_in_order None told is = rw is tt
one_in_order (Some one) told is = rw is (tt, tt)

module _ {T E : Type 0} (read : T → List (ProducerId × ℕ)) where
  -- they are those of all grants
  pub told_sums : (r : Result T E) (old now : Sharing) (sums : List (ℕ × ℕ)) → IsGiving old now sums → InOrder now.producers → IsNext now None
      → IfOk r (λ t. (q : ℕ) → link_at (by_id (read t)) q ≡ link_at sums q) → IfOk r (λ t. InOrder (by_id (read t)))
      → IfOk r (λ t. by_id (read t) ≡ grants_of old)
  told_sums (Ok t) old now sums is ordered none same in_order = sums_are old now (by_id (read t)) (giving_same old now sums (by_id (read t)) is same) ordered none in_order
  told_sums (Err e) old now sums is ordered none same in_order = tt

  -- and each producer that got some is listed once
  pub told_each : (r : Result T E) (old now : Sharing) (sums : List (ℕ × ℕ)) → IsGiving old now sums
      → IfOk r (λ t. (q : ℕ) → link_at (by_id (read t)) q ≡ link_at sums q) → IfOk r (λ t. InOrder (by_id (read t)))
      → IfOk r (λ t. IsTold old now (read t))
  told_each (Ok t) old now sums is same in_order =
      let all : IsGiving old now (by_id (read t)) = giving_same old now sums (by_id (read t)) is same in
      record { ascend = in_order; some = all.some; raised = all.raised }
  told_each (Err e) old now sums is same in_order = tt

  -- a sum that is alone stands in order
  pub alone_in_order : (r : Result T E) (sum : Option Sum) → IfOk r (λ t. by_id (read t) ≡ before_others sum []) → IfOk r (λ t. InOrder (by_id (read t)))
  alone_in_order (Ok t) sum is = one_in_order sum (by_id (read t)) is
  alone_in_order (Err e) sum is = tt
