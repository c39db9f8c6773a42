use Rattle.route_credit.proofs.Gains.{no_more_grants}
use Rattle.route_credit.proofs.laws.grants_leave_none.Goals as goal

pub returns : goal.returns
returns c = no_more_grants
