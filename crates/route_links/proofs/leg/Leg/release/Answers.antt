use Rattle.std.proofs.Common.{◌≡◌, subst, Option, Some, None, OnErr}
use Rattle.std.specs.Prelude.{IfSome, Result, Ok, Err}
use Rattle.route_links.specs.declared.allowed.Stop.{Stop}
use Rattle.route_links.specs.declared.allowed.Turn.TheVariants.{Stopped}
use Rattle.route_links.specs.Turns.{turn}
use Rattle.route_links.proofs.Runs.{ends}
use Rattle.route_links.proofs.leg.Leg.release.Goals as goal

on_err : {A E : Type 0} (r : Result A E) (P : Type 0) → P → OnErr r P
on_err (Ok x) P p = tt
on_err (Err e) P p = p

pub returns-in_err-stop-clause-err : goal.returns-in_err-stop-clause-err
returns-in_err-stop-clause-err c =
    on_err c.from_residual.result _
    (ends c.args.allowed.now c.args.self.now c.args.out.now.items c.release_one.new.out.items c.release_one.new.self c.release_one.new.still None tt
    (c.release_one.ensures.far c.args.allowed.now c.args.self.now c.args.out.now.items c.turns.invariant))

pub returns-in-Some-clause-ok : goal.returns-in-Some-clause-ok
returns-in-Some-clause-ok c =
    let P : Option Stop → Type 0 = λ r. IfSome r (λ s. turn c.release_one.new.still c.release_one.new.self ≡ Stopped s) in
    ends c.args.allowed.now c.args.self.now c.args.out.now.items c.release_one.new.out.items c.release_one.new.self c.release_one.new.still (Some c.in-Some.stop)
    (subst P c.in-Some.is c.in_ok-stop.ensures.stopped)
    (c.release_one.ensures.far c.args.allowed.now c.args.self.now c.args.out.now.items c.turns.invariant)
