use Rattle.std.proofs.Common.{rules, ◌<◌, length}
use Rattle.router_serve.proofs.Reading.{begins, goes_on, hindered, hindered_first, refused, stops, tires}
use Rattle.serve_streams.proofs.Streams.{still_roomy}
use Rattle.router_serve.proofs.reader.hand_in_all.Goals as goal

pub returns-in_default : goal.returns-in_default
returns-in_default g c = refused c.args.seat.now c.args.left.items c.args.frames.now (g.I.Read.remaining c.args.input.now)

pub returns-in-Err : goal.returns-in-Err
returns-in-Err g c = hindered_first c.args.seat.now c.hand_in.new.seat c.args.left.items c.args.frames.now (g.I.Read.remaining c.args.input.now) c.in-Err.end c.in-Err.ensures.err

pub loop-turn-init : goal.loop-turn-init
loop-turn-init g c = (
  search rules,
  search rules,
  begins c.args.seat.now c.hand_in.new.seat c.args.left.items c.args.frames.now (g.I.Read.remaining c.args.input.now) c.in_default-hand_in.ensures.all,
)

pub returns-in-Err-read_items : goal.returns-in-Err-read_items
returns-in-Err-read_items g c =
    let roomy : 0 < length c.as_mut_slice.result.now = search rules in
    stops c.args.seat.now c.loop-turn.seat c.args.left.items c.args.frames.now c.loop-turn.frames c.read_items.new.frames (g.I.Read.remaining c.args.input.now)
    (g.I.Read.remaining c.loop-turn.input) (g.I.Read.remaining c.read_items.new.input) c.in-Err-read_items.end (length c.as_mut_slice.result.now) roomy c.loop-turn.invariant.2 c.in-Err-read_items.ensures.err

pub returns-in-Err-hand_in : goal.returns-in-Err-hand_in
returns-in-Err-hand_in g c =
    hindered c.args.seat.now c.loop-turn.seat c.hand_in-in-loop-turn.new.seat c.args.left.items c.args.frames.now c.loop-turn.frames c.read_items.new.frames (g.I.Read.remaining c.args.input.now)
    (g.I.Read.remaining c.loop-turn.input) (g.I.Read.remaining c.read_items.new.input) c.in-Ok-read_items.items.items c.in-Err-hand_in.end c.loop-turn.invariant.2 c.in-Ok-read_items.ensures.ok
    c.in-Err-hand_in.ensures.err

pub loop-turn-preserved : goal.loop-turn-preserved
loop-turn-preserved g c = (
  search rules,
  still_roomy _ _ _ c.loop-turn.invariant.0 c.loop-turn.invariant.1,
  goes_on c.args.seat.now c.loop-turn.seat c.hand_in-in-loop-turn.new.seat c.args.left.items c.args.frames.now c.loop-turn.frames c.read_items.new.frames (g.I.Read.remaining c.args.input.now)
      (g.I.Read.remaining c.loop-turn.input) (g.I.Read.remaining c.read_items.new.input) c.in-Ok-read_items.items.items c.loop-turn.invariant.2 c.in-Ok-read_items.ensures.ok
      c.in_default-hand_in-2.ensures.all c.in_default-hand_in-2.ensures.goes_on,
)

pub returns : goal.returns
returns g c =
    tires c.args.seat.now c.loop-turn.seat c.args.left.items c.args.frames.now c.loop-turn.frames (g.I.Read.remaining c.args.input.now) (g.I.Read.remaining c.loop-turn.input) c.loop-turn.invariant.2
