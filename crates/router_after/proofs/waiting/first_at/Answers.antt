use Rattle.std.proofs.Common.{◌∙◌, sym}
use Rattle.router_after.proofs.Going.{first_to_start}
use Rattle.router_after.proofs.waiting.first_at.Goals as goal

pub returns : goal.returns
returns c = λ t f.
    first_to_start t c.args.place c.in_ok-first_waiting.field-0 (c.in_default.ensures t f) (sym (c.in_ok-can_start.ensures t f) ∙ c.if-not-branch.false)
    (c.in_ok-first_waiting.ensures t f)
