use Rattle.std.proofs.Common.{◌∙◌, sym, ap₂, subst}
use Rattle.disk_core.specs.Note.{turns_noted}
use Rattle.disk_core.specs.TurnLaws.{left_each}
use Rattle.disk_core.specs.Turns.{both, LeftNow}
use Rattle.disk_core.specs.Twin.{Contents}
use Rattle.disk_core.proofs.mem_twin.MemTwinCrashTwin.crash.Goals as goal

pub returns-clause-left : goal.returns-clause-left
returns-clause-left c =
    let twin = c.args.self in
    let turns = turns_noted twin.history.notes in
    subst (λ (d : Contents). LeftNow turns d) (sym c.over.ensures.contents)
    (left_each turns _ _ (twin.first_told.left _ c.in_ok-crash.ensures.left) (twin.second_told.left _ c.in_ok-crash-2.ensures.left))

pub returns-clause-oldest : goal.returns-clause-oldest
returns-clause-oldest c zero = c.over.ensures.contents ∙ ap₂ both (c.in_ok-crash.ensures.oldest zero) (c.in_ok-crash-2.ensures.oldest zero)

pub returns-clause-newest : goal.returns-clause-newest
returns-clause-newest c other = c.over.ensures.contents ∙ ap₂ both (c.in_ok-crash.ensures.newest other) (c.in_ok-crash-2.ensures.newest other)

pub returns-clause-durable : goal.returns-clause-durable
returns-clause-durable c = λ d left. c.over.ensures.durable d left ∙ sym c.over.ensures.contents
