use Rattle.book_core.proofs.Changes.{earlier_set}
use Rattle.book_core.proofs.numbers.Numbers.set.Goals as goal

pub returns-clause-was : goal.returns-clause-was
returns-clause-was g c =
    rw (c.push.ensures.items, c.unwrap.ensures, c.reserve.ensures.items)
    (earlier_set g.K.Ord.cmp g.met.K.Ord.total c.args.self.now.log.items c.args.copy c.args.key c.in_ok-before.before c.args.number c.args.self.now.numbers c.insert.new.self c.requires c.in_ok-before.ensures.updates.0 c.in_ok-before.ensures.old)
