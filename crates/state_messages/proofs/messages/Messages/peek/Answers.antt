use Rattle.std.proofs.Common.{◌∙◌, sym, ap}
use Rattle.std.specs.Prelude.{option_map}
use Rattle.router_trace.specs.Links.{link}
use Rattle.state_messages.specs.Messages.{consumer_of, last_chosen}
use Rattle.state_messages.proofs.Known.{all_known}
use Rattle.state_messages.proofs.Seen.{IsOn, address_on, found_on}
use Rattle.state_messages.proofs.messages.Messages.peek.Goals as goal

pub returns-in-Some : goal.returns-in-Some
returns-in-Some c = λ t none old.
    let there : IsOn (link t c.args.conn c.args.own c.args.handle) c.in-Some.link.now = found_on (link t c.args.conn c.args.own c.args.handle) c.in-Some.link.now (sym (ap (option_map (λ l. l.now)) c.in-Some.is) ∙ c.link.ensures t old.links) in
    c.peek_of.ensures t there.link.address old.links (address_on t c.args.conn c.args.own c.args.handle c.in-Some.link.now there) none.pools (all_known c.args.self.now t (last_chosen t) none old.pools)
    ∙ ap (consumer_of t) (sym there.is)
