use Rattle.std.proofs.Common.{refl, arith}
use Rattle.std.specs.Prelude.{None}
use Rattle.state_messages.proofs.messages.Messages.new.Goals as goal

pub returns : goal.returns
returns c g below finds row = record {
  links = c.new.ensures.fits g below;
  deliveries = c.new-2.ensures g below row;
  incoming = c.new-3.ensures g below;
  pools = record { known = λ n. None; fits = c.new-4.ensures g.routing finds (λ n. None) (λ n. refl); same = λ n quiet silent. refl; below = λ a. omega arith };
}
