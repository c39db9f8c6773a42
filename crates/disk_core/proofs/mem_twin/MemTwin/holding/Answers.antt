use Rattle.std.proofs.Common.{◌∙◌, ap₂}
use Rattle.disk_core.specs.Turns.{both}
use Rattle.disk_core.proofs.mem_twin.MemTwin.holding.Goals as goal

pub returns-clause-contents : goal.returns-clause-contents
returns-clause-contents c = c.over.ensures.contents ∙ ap₂ both c.in_ok-holding.ensures.bytes c.in_ok-holding-2.ensures.bytes

pub returns-clause-synced : goal.returns-clause-synced
returns-clause-synced c = c.over.ensures.synced ∙ ap₂ both c.in_ok-holding.ensures.synced c.in_ok-holding-2.ensures.synced
