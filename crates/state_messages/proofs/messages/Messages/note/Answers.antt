use Rattle.std.proofs.Common.{◌≡◌, ◌∙◌, refl, sym, inl}
use Rattle.std.specs.Prelude.{Some, true, false}
use Rattle.router_trace.specs.Configuration.{distribution}
use Rattle.router_trace.specs.Links.{is_attached}
use Rattle.state_pools.specs.Fits.{chosen_at}
use Rattle.state_messages.specs.Figures.{figure}
use Rattle.state_messages.specs.Messages.{last_after, last_chosen}
use Rattle.state_messages.proofs.Copied.{IsNoted, gone_last, stands_noted}
use Rattle.state_messages.proofs.Known.{all_known, exchanged}
use Rattle.state_messages.proofs.Rising.{after_below}
use Rattle.state_messages.proofs.messages.Messages.note.Goals as goal

pub returns-then-is_attached : goal.returns-then-is_attached
returns-then-is_attached c = λ t none old.
    let a = c.args.consumer in
    let stands : IsNoted t a = stands_noted t a (sym (c.is_attached.ensures t old) ∙ c.if-is_attached.true) in
    record {
      links = old.links;
      deliveries = old.deliveries;
      incoming = old.incoming;
      pools = record {
        known = figure t;
        fits = exchanged c.note.new.self (distribution t) (distribution t) (figure t) (figure t) (figure t) (figure t) (chosen_at stands.address (Some a.number) (last_chosen t)) (last_after t (Some a))
            (λ b. refl) (λ n. refl) (λ n b e. inl e) stands.noted
            (c.note.ensures.fits (distribution t) (figure t) (last_chosen t) stands.address (all_known c.args.self.now t (last_chosen t) none old.pools) none.pools stands.there);
        same = λ n quiet silent. refl;
        below = after_below t (Some a) old.pools.below;
      };
    }

pub returns-else-is_attached : goal.returns-else-is_attached
returns-else-is_attached c = λ t none old.
    let a = c.args.consumer in
    let gone : is_attached t a ≡ false = sym (c.is_attached.ensures t old) ∙ c.if-is_attached.false in
    record {
      links = old.links;
      deliveries = old.deliveries;
      incoming = old.incoming;
      pools = record {
        known = figure t;
        fits = exchanged c.args.self.now.pools (distribution t) (distribution t) (figure t) (figure t) (figure t) (figure t) (last_chosen t) (last_after t (Some a))
            (λ b. refl) (λ n. refl) (λ n b e. inl e) (gone_last t a gone) (all_known c.args.self.now t (last_chosen t) none old.pools);
        same = λ n quiet silent. refl;
        below = after_below t (Some a) old.pools.below;
      };
    }
