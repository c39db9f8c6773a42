use Rattle.std.proofs.Common.{rules, ◌≡◌, ◌∙◌}
use Rattle.std.specs.Prelude.{Some, None, option_map}
use Rattle.router_trace.specs.Configuration.{distribution}
use Rattle.router_trace.specs.Trace.{Trace}
use Rattle.state_links.specs.Ends.{link_of}
use Rattle.state_links.specs.Looking.{numbered_link}
use Rattle.state_deliveries.specs.Fits.{DeliveriesFit}
use Rattle.state_messages.specs.Fits.{IsTold}
use Rattle.state_messages.specs.Figures.{figure}
use Rattle.state_messages.proofs.Seen.{IsThere, figure_here, figure_nowhere}
use Rattle.state_messages.proofs.figures.tell.Goals as goal

pub returns-in_ok-leave-in-None : goal.returns-in_ok-leave-in-None
returns-in_ok-leave-in-None c = λ t fit stand known other actual last old e really agree.
    let none : None ≡ option_map link_of (numbered_link t c.args.number) = search rules in
    c.in_ok-leave-in-None.ensures.fits (distribution t) known other actual last old (e ∙ figure_nowhere t c.args.number none) really agree

pub returns-in_ok-tell_link-in-Some : goal.returns-in_ok-tell_link-in-Some
returns-in_ok-tell_link-in-Some c = λ t fit stand.
    let is : Some c.in-Some.link.now ≡ option_map link_of (numbered_link t c.args.number) = search rules in
    there_told t stand (figure_here t c.args.number c.in-Some.link.now is)
  where
    there_told : (t : Trace) → DeliveriesFit c.args.deliveries.now t → IsThere t c.args.number c.in-Some.link.now
        → IsTold (distribution t) c.args.pools.now c.tell_link.new.pools c.args.number (figure t c.args.number)
    there_told t stand there known other actual last old e really agree =
        c.in_ok-tell_link-in-Some.ensures t there.link there.is there.number stand known other actual last old (e ∙ there.figure) really agree
