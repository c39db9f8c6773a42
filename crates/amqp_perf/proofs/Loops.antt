-- Loops of readers.
use Rattle.std.proofs.Common.{◌≡◌, ℕ, suc, ◌+◌, ◌-◌, ◌<◌, ◌≤◌, List, [], ◌∷◌, ◌++◌, Bool, true, false, Result, Ok, Err, refl, sym, ap, ◌∙◌, arith, cond, nat_eq, nat_cmp, not, ◌||◌}
use Rattle.std.specs.Cmp.Lexicographic.{pointwise, slice_cmp, texts_ties}
use Rattle.std.specs.BTreeSet.{BTreeSet, contains, Updates}
use Rattle.std.proofs.lemmas.List.Folds.{list_any-append}
use Rattle.arrayvec.specs.ArrayVec.{ArrayVec}
use Rattle.amqp_perf.specs.Tags.{Has}
use Rattle.amqp_model.specs.declared.perf_fault.PerfFault.{PerfFault}
use Rattle.amqp_model.specs.declared.perf_fault.PerfFault.TheVariants.{DuplicateTag}
use Rattle.amqp_model.specs.declared.state.UnsettledDelivery.{UnsettledDelivery}
use Rattle.amqp_perf.specs.Faults.{◌>>=◌}
use Rattle.amqp_perf.specs.Fields.{At}
use Rattle.amqp_perf.specs.States.{deliveries_at, tag_key, is_among, not_among, state_at}

-- symbols that stand before others
abbrev pub before : List (List ℕ) → Result (List (List ℕ)) PerfFault → Result (List (List ℕ)) PerfFault
before xs read = read >>= λ ys. Ok (xs ++ ys)

-- one delivery, then those that are left
pub one_delivery : (ds : List UnsettledDelivery) (n i : ℕ) (at : At) → i < n
    → deliveries_at ds (n - i) at
    ≡ (tag_key at >>= λ tag. not_among ds tag.0 >>= λ _. state_at tag.1 >>= λ state. deliveries_at (ds ++ record { tag = tag.0; state = state.0 } ∷ []) (n - (i + 1)) state.1)
unfolding deliveries_at
one_delivery ds n i at h = let e : n - i ≡ suc (n - (i + 1)) = omega arith in rw e refl

pub no_delivery : (ds : List UnsettledDelivery) (n i : ℕ) (at : At) → n ≤ i → deliveries_at ds (n - i) at ≡ Ok ds
unfolding deliveries_at
no_delivery ds n i at h = let e : n - i ≡ 0 = omega arith in rw e refl

-- a set with one more tag has those of one more delivery
either : (b x : Bool) → cond b true x ≡ (x || (b || false))
either true true = refl
either true false = refl
either false true = refl
either false false = refl

pub has_more : (old new : BTreeSet (ArrayVec ℕ)) (key : ArrayVec ℕ) (ds : List UnsettledDelivery) (d : UnsettledDelivery)
    → Updates (λ v w. slice_cmp nat_cmp v.items w.items) old new key true → Has old ds → d.tag ≡ key → Has new (ds ++ d ∷ [])
has_more old new key ds d updates has same tag =
    updates.0 tag
    ∙ ap (λ b. cond b true (contains (λ v w. slice_cmp nat_cmp v.items w.items) old tag)) (sym (texts_ties key.items tag.items))
    ∙ ap (λ x. cond (pointwise nat_eq key.items tag.items) true x) (has tag)
    ∙ either (pointwise nat_eq key.items tag.items) (is_among ds tag)
    ∙ ap (λ k. is_among ds tag || (pointwise nat_eq k.items tag.items || false)) (sym same)
    ∙ sym (list_any-append (λ other. pointwise nat_eq other.tag.items tag.items) ds (d ∷ []))

not_false : (b : Bool) → not b ≡ false → b ≡ true
not_false true h = refl
not_false false h = sym h

-- a key that a set already had is a tag of the deliveries
pub among_from_contains : (tags : BTreeSet (ArrayVec ℕ)) (key tag : ArrayVec ℕ) (ds : List UnsettledDelivery) (added : Bool)
    → added ≡ not (contains (λ v w. slice_cmp nat_cmp v.items w.items) tags key) → added ≡ false → key ≡ tag → Has tags ds → not_among ds tag ≡ Err DuplicateTag
among_from_contains tags key tag ds added is was same has =
    let found : is_among ds tag ≡ true = sym (has tag) ∙ ap (λ k. contains (λ v w. slice_cmp nat_cmp v.items w.items) tags k) (sym same) ∙ not_false _ (sym is ∙ was)
    in rw found refl
