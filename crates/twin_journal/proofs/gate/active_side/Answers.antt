use Rattle.std.proofs.Common.{◌≡◌, Some, None}
use Rattle.twin_journal.specs.declared.gate.Gate.TheVariants.{Open}
use Rattle.twin_journal.proofs.Active.{none_chosen, first_short, second_short}
use Rattle.twin_journal.proofs.gate.active_side.Goals as goal

pub returns-in-Open-Some-Open-Some-clause-none : goal.returns-in-Open-Some-Open-Some-clause-none
returns-in-Open-Some-Open-Some-clause-none c =
    let a = c.in-Open-Some-Open-Some.one in
    let b = c.in-Open-Some-Open-Some.two in
    none_chosen a b c.args.first c.args.second c.newer_side.result (let is : c.args.first ≡ Open (Some a) = cc in is) (let is : c.args.second ≡ Open (Some b) = cc in is) c.newer_side.ensures

pub returns-in-Open-Some-Open-None-clause-none : goal.returns-in-Open-Some-Open-None-clause-none
returns-in-Open-Some-Open-None-clause-none c contents one two =
    second_short contents c.args.first c.args.second (λ shut. absurd cc) (let is : c.args.second ≡ Open None = cc in is) one two

pub returns-in-Open-None-Open-clause-none : goal.returns-in-Open-None-Open-clause-none
returns-in-Open-None-Open-clause-none c contents one two =
    first_short contents c.args.first c.args.second (let is : c.args.first ≡ Open None = cc in is) (λ shut. absurd cc) one two
