use Rattle.std.proofs.Common.{◌∙◌, sym}
use Rattle.state_links.proofs.Owing.{owed_follows}
use Rattle.state_links.proofs.Standing.{owing_stands}
use Rattle.state_links.proofs.links.Links.owed.Goals as goal

pub returns-clause-owes : goal.returns-clause-owes
returns-clause-owes c = λ t fit a. owed_follows c.args.self.now.table t _ c.in_ok-owed.ensures fit.table a

pub returns-clause-stands : goal.returns-clause-stands
returns-clause-stands c = λ t fit a e. owing_stands t a (sym (owed_follows c.args.self.now.table t _ c.in_ok-owed.ensures fit.table a) ∙ e)
