use Rattle.std.proofs.Common.{rules, ◌≡◌, ◌∙◌, sym, ap, ◌++◌}
use Rattle.std.specs.Prelude.{None, Some, option_map}
use Rattle.router_trace.specs.Links.{place_of}
use Rattle.router_trace.specs.Following.{link_of as view_of}
use Rattle.state_links.specs.Ends.{link_of}
use Rattle.state_messages.proofs.Telling.{IsGranted, grant_here, grant_nowhere, nothing_after}
use Rattle.state_messages.proofs.granting.add_grant.Goals as goal

pub returns-in-None : goal.returns-in-None
returns-in-None c = λ t fit share.
    let none : place_of t c.args.number ≡ None = search rules in
    sym (ap (λ sums. c.args.told.now.items ++ sums) (grant_nowhere t c.args.number c.args.amount none) ∙ nothing_after c.args.told.now.items)

pub returns-in_ok-add_grant_on-in-Some-link : goal.returns-in_ok-add_grant_on-in-Some-link
returns-in_ok-add_grant_on-in-Some-link c = λ t fit share.
    let place : place_of t c.args.number ≡ Some c.in-Some.at = search rules in
    let is : Some c.in-Some-link.link.now ≡ option_map link_of (view_of t c.in-Some.at) = search rules in
    let there : IsGranted t c.args.number c.args.amount c.in-Some.at c.in-Some-link.link.now = grant_here t c.args.number c.args.amount c.in-Some.at c.in-Some-link.link.now place is in
    c.in_ok-add_grant_on-in-Some-link.ensures t there.link share there.is ∙ ap (λ sums. c.args.told.now.items ++ sums) (sym there.grant)
