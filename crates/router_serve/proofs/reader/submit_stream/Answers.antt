use Rattle.router_serve.proofs.Submits.{told}
use Rattle.router_serve.proofs.reader.submit_stream.Goals as goal

pub returns : goal.returns
returns g c = let h = c.report_loss-loss.ensures in
    told c.report_loss-loss.result c.args.seat.now c.hand_in_all-end.new.seat c.report_loss-loss.new.seat c.args.left.items c.args.frames.now c.hand_in_all-end.new.frames
    (g.I.Read.remaining c.args.input.now) (g.I.Read.remaining c.hand_in_all-end.new.input) c.hand_in_all-end.result c.hand_in_all-end.ensures h.not_again h.told h.refused
