use Rattle.std.proofs.Common.{◌≡◌, ◌∙◌, ◌⊎◌, inl, inr, ◌<◌, ap, arith, refl, sym, true, false, true≢false}
use Rattle.state_collections.specs.Among.{is_among}
use Rattle.state_collections.proofs.Among.{at_all, before_it, closed_at, none_so_far, not_there, taken}
use Rattle.state_collections.proofs.few.Few.remove.Goals as goal

pub loop-place-init : goal.loop-place-init
loop-place-init c = record {
  within = omega arith;
  gone = none_so_far c.args.self.now.places c.args.number;
  most = omega arith;
  fewer = inl refl;
  others = λ n other. refl;
}

pub loop-place-preserved-then-at-number : goal.loop-place-preserved-then-at-number
loop-place-preserved-then-at-number c =
    let few = c.loop-place.self in
    let place = c.loop-place.place in
    let number = c.args.number in
    record {
      within = omega (arith, c.loop-place-test.true, c.close.ensures.count);
      gone = ap (λ places. is_among place places number) c.close.ensures.places ∙ before_it place place few.places _ number (omega arith) ∙ c.loop-place.invariant.gone;
      most = omega (arith, c.loop-place.invariant.most, c.close.ensures.count);
      fewer = inr (omega (arith, c.loop-place.invariant.most, c.close.ensures.count));
      others = λ n other. closed_at place c.close.new.self.count few.count few.places c.close.new.self.places number n
          c.loop-place-test.true (omega (arith, few.fits, few.four)) c.close.ensures.count c.close.ensures.places
          (sym c.at.ensures ∙ c.if-at-number.true) other
          ∙ c.loop-place.invariant.others n other;
    }

pub loop-place-preserved : goal.loop-place-preserved
loop-place-preserved c = record {
  within = omega (arith, c.loop-place-test.true);
  gone = not_there c.loop-place.place c.loop-place.self.places c.args.number
      (omega (arith, c.loop-place-test.true, c.loop-place.self.fits, c.loop-place.self.four)) c.loop-place.invariant.gone
      (λ is. c.if-at-number.false (c.at.ensures ∙ is));
  most = c.loop-place.invariant.most;
  fewer = c.loop-place.invariant.fewer;
  others = c.loop-place.invariant.others;
}

pub returns-clause-gone : goal.returns-clause-gone
returns-clause-gone c = λ n. taken c.args.number n (is_among c.loop-place.self.count c.loop-place.self.places) (is_among c.args.self.now.count c.args.self.now.places)
    (at_all c.loop-place.place c.loop-place.self.count c.loop-place.self.places c.args.number c.loop-place.invariant.within c.loop-place-test.false ∙ c.loop-place.invariant.gone)
    (c.loop-place.invariant.others n)

pub returns-clause-fewer : goal.returns-clause-fewer
returns-clause-fewer c = λ was. by_cases c.loop-place.invariant.fewer was
    (at_all c.loop-place.place c.loop-place.self.count c.loop-place.self.places c.args.number c.loop-place.invariant.within c.loop-place-test.false ∙ c.loop-place.invariant.gone)
  where
    by_cases : (is_among c.loop-place.self.count c.loop-place.self.places c.args.number ≡ is_among c.args.self.now.count c.args.self.now.places c.args.number) ⊎ (c.loop-place.self.count < c.args.self.now.count)
        → is_among c.args.self.now.count c.args.self.now.places c.args.number ≡ true → is_among c.loop-place.self.count c.loop-place.self.places c.args.number ≡ false → c.loop-place.self.count < c.args.self.now.count
    by_cases (inl same) was gone = absurd (true≢false (sym was ∙ sym same ∙ gone))
    by_cases (inr less) was gone = less
