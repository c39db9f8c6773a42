use Rattle.std.proofs.Common.{rules, ◌≡◌, ◌<◌, sym, subst, List, length, drop}
use Rattle.amqp_model.specs.declared.item.Item.{Item}
use Rattle.serve_streams.specs.declared.greeting.Passing.TheVariants as passing
use Rattle.serve_streams.specs.Greeting.{waits, passed, closed, fate, IsTold}
use Rattle.serve_streams.proofs.Greets.{seen_as, answered_as, begins, goes, tires, stops, breaks, closes, enters}
use Rattle.serve_streams.proofs.greeting.greet_in.Goals as goal

pub loop-turn-init : goal.loop-turn-init
loop-turn-init g c = begins c.args.door.now c.args.frames.now (g.I.Read.remaining c.args.input.now) (g.W.Write.contents c.args.output.now)

pub returns-in-Err : goal.returns-in-Err
returns-in-Err g c =
    let roomy : 0 < length c.loop-turn.piece = search rules in
    stops c.args.door.now c.args.frames.now (g.I.Read.remaining c.args.input.now) (g.W.Write.contents c.args.output.now) c.loop-turn.door c.loop-turn.frames c.read_items.new.frames
    (g.I.Read.remaining c.loop-turn.input) (g.I.Read.remaining c.read_items.new.input) (g.W.Write.contents c.loop-turn.output) c.in-Err.end (length c.loop-turn.piece) roomy c.loop-turn.invariant c.in-Err.ensures.err

pub returns-in-Err-answer : goal.returns-in-Err-answer
returns-in-Err-answer g c =
    let left = g.I.Read.remaining c.loop-turn.input in
    let less = g.I.Read.remaining c.read_items.new.input in
    let seen = c.as_slice.result.now in
    let read = seen_as left less c.loop-turn.frames c.read_items.new.frames c.in-Ok.items.items seen c.as_slice.ensures.value c.in-Ok.ensures.ok in
    breaks c.args.door.now c.args.frames.now (g.I.Read.remaining c.args.input.now) (g.W.Write.contents c.args.output.now) c.loop-turn.door c.loop-turn.frames c.read_items.new.frames
    left less (g.W.Write.contents c.loop-turn.output) (g.W.Write.contents c.answer.new.output) seen c.in-Err-answer.end c.loop-turn.invariant read c.in-Err-answer.ensures.err

pub returns-in-Ended : goal.returns-in-Ended
returns-in-Ended g c =
    let left = g.I.Read.remaining c.loop-turn.input in
    let less = g.I.Read.remaining c.read_items.new.input in
    let seen = c.as_slice.result.now in
    let read = seen_as left less c.loop-turn.frames c.read_items.new.frames c.in-Ok.items.items seen c.as_slice.ensures.value c.in-Ok.ensures.ok in
    let over : closed ≡ fate c.loop-turn.door seen = answered_as c.in-Ok-answer.passing passing.Ended seen (fate c.loop-turn.door seen) c.in-Ended.is c.in-Ok-answer.ensures.answered in
    closes c.args.door.now c.args.frames.now (g.I.Read.remaining c.args.input.now) (g.W.Write.contents c.args.output.now) c.loop-turn.door c.loop-turn.frames c.read_items.new.frames
    left less (g.W.Write.contents c.loop-turn.output) (g.W.Write.contents c.answer.new.output) seen c.loop-turn.invariant read c.in-Ok-answer.ensures.written over

pub returns-in-Up : goal.returns-in-Up
returns-in-Up g c =
    let left = g.I.Read.remaining c.loop-turn.input in
    let less = g.I.Read.remaining c.read_items.new.input in
    let seen = c.as_slice.result.now in
    let read = seen_as left less c.loop-turn.frames c.read_items.new.frames c.in-Ok.items.items seen c.as_slice.ensures.value c.in-Ok.ensures.ok in
    let up : passed c.in-Up.user (drop c.in-Up.at seen) ≡ fate c.loop-turn.door seen =
    answered_as c.in-Ok-answer.passing (passing.Up c.in-Up.user c.in-Up.at) seen (fate c.loop-turn.door seen) c.in-Up.is c.in-Ok-answer.ensures.answered in
    let told : IsTold c.hand_on.result (passed c.in-Up.user (drop c.in-Up.at seen))
    = subst (λ (xs : List Item). IsTold c.hand_on.result (passed c.in-Up.user (drop c.in-Up.at xs))) (sym c.as_slice.ensures.value) c.hand_on.ensures.told in
    enters c.args.door.now c.args.frames.now (g.I.Read.remaining c.args.input.now) (g.W.Write.contents c.args.output.now) c.loop-turn.door c.loop-turn.frames c.read_items.new.frames
    left less (g.W.Write.contents c.loop-turn.output) (g.W.Write.contents c.answer.new.output) seen c.hand_on.result c.in-Up.user (drop c.in-Up.at seen)
    c.loop-turn.invariant read c.in-Ok-answer.ensures.written up told c.hand_on.ensures.written

pub loop-turn-preserved : goal.loop-turn-preserved
loop-turn-preserved g c =
    let left = g.I.Read.remaining c.loop-turn.input in
    let less = g.I.Read.remaining c.read_items.new.input in
    let seen = c.as_slice.result.now in
    let read = seen_as left less c.loop-turn.frames c.read_items.new.frames c.in-Ok.items.items seen c.as_slice.ensures.value c.in-Ok.ensures.ok in
    let waiting : waits ≡ fate c.loop-turn.door seen = answered_as c.in-Ok-answer.passing passing.Waits seen (fate c.loop-turn.door seen) c.in-Waits.is c.in-Ok-answer.ensures.answered in
    goes c.args.door.now c.args.frames.now (g.I.Read.remaining c.args.input.now) (g.W.Write.contents c.args.output.now) c.loop-turn.door c.answer.new.door c.loop-turn.frames c.read_items.new.frames
    left less (g.W.Write.contents c.loop-turn.output) (g.W.Write.contents c.answer.new.output) seen c.loop-turn.invariant read c.in-Ok-answer.ensures.written waiting c.in-Ok-answer.ensures.stage

pub returns : goal.returns
returns g c =
    tires c.args.door.now c.args.frames.now (g.I.Read.remaining c.args.input.now) (g.W.Write.contents c.args.output.now) c.loop-turn.door c.loop-turn.frames
    (g.I.Read.remaining c.loop-turn.input) (g.W.Write.contents c.loop-turn.output) c.loop-turn.invariant
