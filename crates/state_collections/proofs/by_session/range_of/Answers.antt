use Rattle.std.proofs.Common.{◌∙◌}
use Rattle.std.specs.Option.{is_some}
use Rattle.std.specs.Ordering.{nat_cmp}
use Rattle.std.specs.BTreeMap.{get}
use Rattle.amqp_session.specs.Ranges.{in_range}
use Rattle.state_collections.specs.NumberMap.{at_number}
use Rattle.state_collections.proofs.Ids.{same_within}
use Rattle.state_collections.proofs.by_session.range_of.Goals as goal

pub returns-clause-exact : goal.returns-clause-exact
returns-clause-exact g c = λ q low.
    c.in_ok-found.ensures.exact q low
    ∙ same_within (in_range c.args.first c.args.last q) (is_some (get nat_cmp c.in_ok-there.there.deliveries q)) (is_some (at_number c.args.ids.now q)) (c.in_ok-there.ensures q low)
