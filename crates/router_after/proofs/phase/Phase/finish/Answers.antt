use Rattle.router_trace.specs.Following.{repeated}
use Rattle.router_state.specs.Tables.{TablesFit}
use Rattle.router_after.specs.After.{due_in}
use Rattle.router_after.proofs.Repeating.{at_first, goes_on, stops}
use Rattle.router_after.proofs.phase.Phase.finish.Goals as goal

pub loop-turn-init : goal.loop-turn-init
loop-turn-init c = λ t f. at_first (TablesFit c.args.state.now) (due_in c.args.self) t f

pub returns-then-not-branch : goal.returns-then-not-branch
returns-then-not-branch c = λ t f.
    let done = c.loop-turn.invariant t f in
    let so_far = repeated (due_in c.args.self) c.loop-turn._turn t in
    stops (TablesFit c.turn.new.state) (due_in c.args.self) c.loop-turn._turn t c.loop-turn.auto._turn-end
    (c.in_ok-turn.ensures.over c.if-not-branch.true so_far done) (c.in_ok-turn.ensures.put so_far done)

pub loop-turn-preserved : goal.loop-turn-preserved
loop-turn-preserved c = λ t f.
    goes_on (TablesFit c.turn.new.state) (due_in c.args.self) c.loop-turn._turn t
    (c.in_ok-turn.ensures.put (repeated (due_in c.args.self) c.loop-turn._turn t) (c.loop-turn.invariant t f))
