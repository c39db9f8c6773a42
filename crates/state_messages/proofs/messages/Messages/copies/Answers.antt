use Rattle.std.proofs.Common.{◌≡◌, ◌∙◌, sym, ap}
use Rattle.std.specs.Prelude.{None, option_map}
use Rattle.router_trace.specs.Configuration.{distribution}
use Rattle.router_trace.specs.Following.{link_of}
use Rattle.router_trace.specs.Links.{attachments}
use Rattle.state_links.specs.Ends.{link_of as link_of_view}
use Rattle.state_messages.specs.Asking.{standing}
use Rattle.state_messages.specs.Figures.{figure}
use Rattle.state_messages.specs.Messages.{copies_for, last_chosen}
use Rattle.state_messages.proofs.Copied.{copies_are, copies_nowhere, ids}
use Rattle.state_messages.proofs.Known.{all_known}
use Rattle.state_messages.proofs.Seen.{IsOn, address_on, are_numbered, found_on}
use Rattle.state_messages.proofs.messages.Messages.copies.Goals as goal

pub returns-in-None : goal.returns-in-None
returns-in-None c = λ t none old.
    let gone : None ≡ option_map link_of_view (link_of t c.args.from) = sym (ap (option_map (λ l. l.now)) c.in-None.is) ∙ c.link.ensures t old.links in
    c.new.ensures.items ∙ copies_nowhere t (link_of t c.args.from) gone

pub returns-in_ok-to-in-Some : goal.returns-in_ok-to-in-Some
returns-in_ok-to-in-Some c = λ t none old.
    let from = c.args.from in
    let there : IsOn (link_of t from) c.in-Some.link.now = found_on (link_of t from) c.in-Some.link.now (sym (ap (option_map (λ l. l.now)) c.in-Some.is) ∙ c.link.ensures t old.links) in
    c.in_ok-to-in-Some.ensures t old.links
    ∙ ap (λ consumers. standing t (ids consumers)) c.as_slice.ensures.value
    ∙ copies_are t there.link.address (ids c.in_ok-consumers-in-Some.consumers.items)
    (c.in_ok-consumers-in-Some.ensures (distribution t) (figure t) (figure t) (last_chosen t) (attachments t) there.link.address
    (all_known c.args.self.now t (last_chosen t) none old.pools) none.pools (are_numbered t)
    (address_on t from.conn.0 from.channel from.handle c.in-Some.link.now there))
    ∙ ap (copies_for t) (sym there.is)
