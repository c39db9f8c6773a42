use Rattle.std.proofs.Common.{sym, arith}
use Rattle.amqp_frames.proofs.Sizes.{extent_of_size}
use Rattle.amqp_frames.proofs.extent.extent_of.Goals as goal

pub returns : goal.returns
returns c = let e = extent_of_size c.args.bytes.now c.in-len4-up.len_at_least (grind arith) in rw (c.extent_of_frame.ensures, c.from_be_bytes.ensures) (sym e)
