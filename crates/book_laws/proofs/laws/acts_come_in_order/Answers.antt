use Rattle.book_laws.proofs.Order.{decides_after, forgets_after, drops_after, admits_between, admits_for}
use Rattle.book_laws.proofs.laws.acts_come_in_order.Goals as goal

pub returns-clause-decides : goal.returns-clause-decides
returns-clause-decides c = decides_after

pub returns-clause-forgets : goal.returns-clause-forgets
returns-clause-forgets c = forgets_after

pub returns-clause-drops : goal.returns-clause-drops
returns-clause-drops c = drops_after

pub returns-clause-producers : goal.returns-clause-producers
returns-clause-producers c = admits_between

pub returns-clause-consumers : goal.returns-clause-consumers
returns-clause-consumers c = admits_for
