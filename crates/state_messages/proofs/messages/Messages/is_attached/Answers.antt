use Rattle.std.proofs.Common.{rules, ◌≡◌, ◌∙◌, sym, ap}
use Rattle.std.specs.Prelude.{None, Some, option_map}
use Rattle.router_trace.specs.Following.{link_of as view_of}
use Rattle.router_trace.specs.Links.{has_number}
use Rattle.state_links.specs.Ends.{link_of}
use Rattle.state_messages.proofs.Asked.{Sees, nobody, sees}
use Rattle.state_messages.proofs.messages.Messages.is_attached.Goals as goal

pub returns-in-None : goal.returns-in-None
returns-in-None c = λ t fit.
    let is : None ≡ option_map link_of (view_of t c.args.at) = search rules in
    sym (ap (λ v. has_number c.args.at.number v) (nobody (view_of t c.args.at) is))

pub returns-in-Some : goal.returns-in-Some
returns-in-Some c = λ t fit.
    let is : Some c.in-Some.link.now ≡ option_map link_of (view_of t c.args.at) = search rules in
    let there : Sees (view_of t c.args.at) c.in-Some.link.now = sees (view_of t c.args.at) c.in-Some.link.now is in
    c.link_has.ensures there.link there.is ∙ sym (ap (λ v. has_number c.args.at.number v) there.there)
