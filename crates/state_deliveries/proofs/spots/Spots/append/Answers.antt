use Rattle.std.proofs.Common.{rules, ◌≡◌, ◌++◌}
use Rattle.std.specs.BTreeSet.{keys_between}
use Rattle.std.specs.declared.ops.Bound.TheVariants.{Included}
use Rattle.state_deliveries.specs.Placing.{key, key_cmp, numbers_of}
use Rattle.state_deliveries.proofs.Placed.{found_between}
use Rattle.state_deliveries.proofs.spots.Spots.append.Goals as goal

pub returns-clause-found : goal.returns-clause-found
returns-clause-found c =
    let is : c.append.new.numbers.items ≡ c.args.numbers.now.items ++ numbers_of (keys_between key_cmp (Included (key c.args.low 0)) (Included (key c.args.high 18446744073709551615)) c.args.self.now.keys) = search rules in
    found_between c.args.self.now c.args.low c.args.high c.args.numbers.now.items _ is
