use Rattle.std.proofs.Common.{rules, [], ◌∷◌, Some, true}
use Rattle.router_trace.specs.Trace.{puts}
use Rattle.router_trace.specs.LinkFrames.{attach_item, detach_item, fits, refusal_of}
use Rattle.router_trace.specs.Peers.{largest_frame}
use Rattle.router_reply.proofs.Refused.{answer_put}
use Rattle.router_reply.proofs.attaching.refuse_link.Goals as goal

pub returns-in_ok-write_detach-in-Some : goal.returns-in_ok-write_detach-in-Some
returns-in_ok-write_detach-in-Some c = λ t fit.
    answer_put c.write_detach-in-Some.new.state t c.args.conn (fits (largest_frame t c.args.conn) (attach_item c.args.own (refusal_of c.args.attach c.args.handle)))
    (attach_item c.args.own (refusal_of c.args.attach c.args.handle)) c.in-Some.item (detach_item c.args.own c.args.handle true (Some c.args.error))
    (search rules)
    (c.in_ok-write_detach-in-Some.ensures (puts c.args.conn (c.in-Some.item ∷ []) t) (c.in_ok-put-in-Some.ensures t fit))
