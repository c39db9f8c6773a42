use Rattle.std.proofs.Common.{◌∙◌, ap₂}
use Rattle.disk_core.specs.Turns.{both}
use Rattle.disk_core.proofs.mem_twin.MemTwin.new.Goals as goal

pub returns-clause-contents : goal.returns-clause-contents
returns-clause-contents c = c.over.ensures.contents ∙ ap₂ both c.new.ensures.bytes c.new-2.ensures.bytes

pub returns-clause-synced : goal.returns-clause-synced
returns-clause-synced c = c.over.ensures.synced ∙ ap₂ both c.new.ensures.synced c.new-2.ensures.synced
