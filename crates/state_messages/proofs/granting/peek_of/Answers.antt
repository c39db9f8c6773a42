use Rattle.std.proofs.Common.{◌∙◌, sym}
use Rattle.router_trace.specs.Configuration.{distribution}
use Rattle.router_trace.specs.Links.{attachments}
use Rattle.state_messages.specs.Figures.{figure}
use Rattle.state_messages.specs.Messages.{last_chosen}
use Rattle.state_messages.proofs.Chosen.{chooses_none, chooses_some}
use Rattle.state_messages.proofs.Seen.{are_numbered}
use Rattle.state_messages.proofs.granting.peek_of.Goals as goal

pub returns-in-None : goal.returns-in-None
returns-in-None c = λ t address fit is none old.
    chooses_none t address (sym c.in-None.is ∙ c.peek.ensures (distribution t) (figure t) (figure t) (last_chosen t) (attachments t) address old none (are_numbered t) is)

pub returns-in-Some : goal.returns-in-Some
returns-in-Some c = λ t address fit is none old.
    (chooses_some t address c.in-Some.number c.place_of.result (sym c.in-Some.is ∙ c.peek.ensures (distribution t) (figure t) (figure t) (last_chosen t) (attachments t) address old none (are_numbered t) is)
    (c.place_of.ensures t fit)).chosen
