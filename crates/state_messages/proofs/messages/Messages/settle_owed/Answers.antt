use Rattle.std.proofs.Common.{◌∙◌, sym}
use Rattle.state_messages.proofs.messages.Messages.settle_owed.Goals as goal

pub returns : goal.returns
returns c = λ t old. record {
  links = c.settle_owed.ensures.fits t old.links;
  deliveries = old.deliveries;
  incoming = old.incoming;
  pools = record {
    known = old.pools.known;
    fits = old.pools.fits;
    same = λ n untouched others. old.pools.same n (sym (c.settle_owed.ensures.touched n) ∙ untouched) others;
    below = old.pools.below;
  };
}
