use Rattle.std.proofs.Common.{rules, ◌≡◌, ◌<◌, ◌^◌, true, false}
use Rattle.std.specs.Option.{is_some}
use Rattle.state_collections.specs.NumberMap.{at_number}
use Rattle.state_collections.proofs.Ids.{one_lacks, one_there}
use Rattle.state_collections.proofs.by_session.ask.Goals as goal

pub returns-then-is_none : goal.returns-then-is_none
returns-then-is_none g c =
    let first_fits : c.args.first < 2 ^ 32 = search rules in
    let lacks : is_some (at_number c.args.ids.now c.plus-id.result) ≡ false = search rules in
    one_lacks c.args.first c.args.step c.plus-id.result (λ q. is_some (at_number c.args.ids.now q)) c.args.found.now.items first_fits c.plus-id.ensures.sum lacks

pub returns : goal.returns
returns g c =
    let first_fits : c.args.first < 2 ^ 32 = search rules in
    let step_fits : c.args.step < 2 ^ 32 = search rules in
    let has : is_some (at_number c.args.ids.now c.plus-id.result) ≡ true = search rules in
    one_there c.args.first c.args.step c.plus-id.result (λ q. is_some (at_number c.args.ids.now q)) c.args.found.now.items c.push.new.self.items first_fits step_fits c.plus-id.ensures.sum has c.in_ok-push.ensures.items
