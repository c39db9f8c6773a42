use Rattle.std.proofs.Common.{◌∙◌, ap, Some, if◌then◌else◌}
use Rattle.std.specs.Str.{bytes_eq}
use Rattle.state_pools.specs.ByBytes.{at}
use Rattle.state_pools.proofs.Written.{on_ok_then, put}
use Rattle.state_pools.proofs.row.Row.put.Goals as goal

pub returns : goal.returns
returns c = on_ok_then c.put.result _ _ c.put.ensures (λ is share.
    put share (at c.args.self.now.pools) c.args.address.now (at c.put.new.self) c.args.pool
    (λ a. is a ∙ ap (λ q. if bytes_eq q a then Some c.args.pool else at c.args.self.now.pools a) (c.in_ok-key.ensures.items_if_clones_equal (λ x y e. e))))
