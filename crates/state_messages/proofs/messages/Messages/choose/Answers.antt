use Rattle.std.proofs.Common.{◌≡◌, ◌∙◌, refl, sym, ap, subst, inl}
use Rattle.std.specs.Prelude.{Some, option_map}
use Rattle.router_trace.specs.Configuration.{distribution}
use Rattle.router_trace.specs.Following.{link_of}
use Rattle.state_pools.specs.Fits.{PoolsFit, chosen_at}
use Rattle.state_messages.specs.Figures.{figure}
use Rattle.state_messages.specs.Messages.{IsChosen, consumer_of, last_after, last_chosen}
use Rattle.state_messages.proofs.Chosen.{known_last}
use Rattle.state_messages.proofs.Known.{all_known, exchanged}
use Rattle.state_messages.proofs.Rising.{after_below}
use Rattle.state_messages.proofs.Seen.{IsOn, address_on, found_on}
use Rattle.state_messages.proofs.messages.Messages.choose.Goals as goal

pub returns-in-None-clause-chosen : goal.returns-in-None-clause-chosen
returns-in-None-clause-chosen c = λ t known none old.
    let from = c.args.from in
    let there : IsOn (link_of t from) c.in-Some.link.now = found_on (link_of t from) c.in-Some.link.now (sym (ap (option_map (λ l. l.now)) c.in-Some.is) ∙ c.link.ensures t old.links) in
    c.choose_of.ensures.chosen t there.link.address old.links (address_on t from.conn.0 from.channel from.handle c.in-Some.link.now there) none.pools (all_known c.args.self.now t (last_chosen t) none old.pools)
    ∙ ap (consumer_of t) (sym there.is)

pub returns-in-None-clause-fits : goal.returns-in-None-clause-fits
returns-in-None-clause-fits c = λ t known none old.
    let from = c.args.from in
    let there : IsOn (link_of t from) c.in-Some.link.now = found_on (link_of t from) c.in-Some.link.now (sym (ap (option_map (λ l. l.now)) c.in-Some.is) ∙ c.link.ensures t old.links) in
    record {
      links = old.links;
      deliveries = old.deliveries;
      incoming = old.incoming;
      pools = record {
        known = figure t;
        fits = c.choose_of.ensures.fits t there.link.address old.links (address_on t from.conn.0 from.channel from.handle c.in-Some.link.now there) none.pools (all_known c.args.self.now t (last_chosen t) none old.pools);
        same = λ n quiet silent. refl;
        below = after_below t c.choose_of.result old.pools.below;
      };
    }

pub returns-in-Some-known-clause-fits : goal.returns-in-Some-known-clause-fits
returns-in-Some-known-clause-fits c = λ t known none old.
    let from = c.args.from in
    let consumer = c.in-Some-known.consumer in
    let there : IsOn (link_of t from) c.in-Some.link.now = found_on (link_of t from) c.in-Some.link.now (sym (ap (option_map (λ l. l.now)) c.in-Some.is) ∙ c.link.ensures t old.links) in
    let here : consumer_of t (Some there.link) ≡ Some consumer = ap (consumer_of t) (sym there.is) ∙ subst (IsChosen t (link_of t from)) c.in-Some-known.is known in
    let noted : PoolsFit c.note.new.self (distribution t) (figure t) (figure t) (chosen_at there.link.address (Some consumer.number) (last_chosen t)) =
    c.note.ensures.fits (distribution t) (figure t) (last_chosen t) there.link.address (all_known c.args.self.now t (last_chosen t) none old.pools) none.pools (address_on t from.conn.0 from.channel from.handle c.in-Some.link.now there) in
    record {
      links = old.links;
      deliveries = old.deliveries;
      incoming = old.incoming;
      pools = record {
        known = figure t;
        fits = exchanged c.note.new.self (distribution t) (distribution t) (figure t) (figure t) (figure t) (figure t) (chosen_at there.link.address (Some consumer.number) (last_chosen t)) (last_after t (Some consumer))
            (λ a. refl) (λ n. refl) (λ n a e. inl e) (λ a. known_last t there.link.address consumer here a) noted;
        same = λ n quiet silent. refl;
        below = after_below t (Some consumer) old.pools.below;
      };
    }
