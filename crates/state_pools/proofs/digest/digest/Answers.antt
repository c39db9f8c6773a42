use Rattle.std.proofs.Common.{take_all, rules}
use Rattle.std.proofs.hash.Loops.{byte_more}
use Rattle.state_pools.specs.Digest.{digest_of}
use Rattle.state_pools.proofs.digest.digest.Goals as goal

pub loop-byte-preserved : goal.loop-byte-preserved
loop-byte-preserved c = search (rules, byte_more)

pub returns : goal.returns
unfolding digest_of
returns c = search (rules, take_all)
