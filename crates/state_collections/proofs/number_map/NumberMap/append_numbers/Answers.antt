use Rattle.state_collections.specs.NumberMap.{in_places}
use Rattle.state_collections.proofs.Remainders.{keys_told}
use Rattle.state_collections.proofs.number_map.NumberMap.append_numbers.Goals as goal

pub returns : goal.returns
returns g c = λ n.
    keys_told c.args.self.now.others n (in_places c.args.self.now.placed n) c.args.numbers.now.items c.append_numbers.new.numbers.items c.append_keys.new.numbers.items
    (c.in_ok-append_numbers.ensures n) c.in_ok-append_keys.ensures
