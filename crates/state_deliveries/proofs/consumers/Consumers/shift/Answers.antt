use Rattle.std.proofs.Common.{◌∙◌, ap}
use Rattle.std.specs.Prelude.{◌==◌, ◌&&◌}
use Rattle.state_deliveries.specs.Tallying.{waiting_at, undecided_at, more, less}
use Rattle.state_deliveries.proofs.Tallied.{all_moved}
use Rattle.state_deliveries.proofs.consumers.Consumers.shift.Goals as goal

pub returns : goal.returns
returns c = λ number waiting undecided waits is fit.
    all_moved c.args.self.now c.drop_at.new.self c.add_at.new.self c.args.link number c.args.before.waits c.args.after.waits c.args.before.undecided c.args.after.undecided waiting undecided
    (λ k. c.drop_at.ensures.waiting k ∙ ap (λ b. less ((c.args.link == k) && b) (waiting_at c.args.self.now k)) c.ends.ensures)
    (λ k. c.drop_at.ensures.undecided k ∙ ap (λ b. less ((c.args.link == k) && b) (undecided_at c.args.self.now k)) c.ends-2.ensures)
    c.drop_at.ensures.needed
    (λ k. c.in_ok-add_at.ensures.waiting k ∙ ap (λ b. more ((c.args.link == k) && b) (waiting_at c.drop_at.new.self k)) c.ends-3.ensures)
    (λ k. c.in_ok-add_at.ensures.undecided k ∙ ap (λ b. more ((c.args.link == k) && b) (undecided_at c.drop_at.new.self k)) c.ends-4.ensures)
    c.in_ok-add_at.ensures.needed waits is fit
