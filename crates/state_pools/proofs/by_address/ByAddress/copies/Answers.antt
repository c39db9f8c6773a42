use Rattle.std.proofs.Common.{◌∙◌, sym, ap, None, Some}
use Rattle.std.specs.Prelude.{map}
use Rattle.route_credit.specs.Pool.{copies}
use Rattle.route_credit.specs.declared.ids.ConsumerId.{ConsumerId}
use Rattle.state_collections.specs.NumberMap.{at_number}
use Rattle.state_pools.proofs.Rows.{found, stands}
use Rattle.state_pools.proofs.Written.{no_copies, on_told}
use Rattle.state_pools.proofs.by_address.ByAddress.copies.Goals as goal

pub returns-in-None : goal.returns-in-None
returns-in-None c there share =
    ap (map (λ (k : ConsumerId). k.0)) c.new.ensures.items ∙ sym (no_copies (share c.args.address.now))
    ∙ ap copies (found share (at_number c.args.self.now.rows) c.args.address.now c.args.digest c.requires None c.in-None.ensures)

pub returns-in-Some : goal.returns-in-Some
returns-in-Some c = on_told c.copies.result _ _ c.copies.ensures (λ to is there share.
    is (stands (at_number c.args.self.now.rows) c.args.address.now c.args.digest (Some c.in-Some.row.now) c.requires c.in-Some.ensures there) share
    ∙ ap copies (found share (at_number c.args.self.now.rows) c.args.address.now c.args.digest c.requires (Some c.in-Some.row.now) c.in-Some.ensures))
