use Rattle.route_credit.proofs.Lawful.{nobody_where_none_is_free}
use Rattle.route_credit.proofs.laws.nobody_where_none_is_free.Goals as goal

pub returns : goal.returns
returns c = nobody_where_none_is_free
