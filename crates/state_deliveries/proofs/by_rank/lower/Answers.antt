use Rattle.std.proofs.Common.{◌∙◌, sym, subst}
use Rattle.state_deliveries.specs.Ranking.{IsFirstEntry}
use Rattle.state_deliveries.proofs.Entries.{first_lower, first_higher}
use Rattle.state_deliveries.proofs.by_rank.lower.Goals as goal

pub returns-then-is_after : goal.returns-then-is_after
returns-then-is_after c = λ p q low a b. first_higher p q low c.in-Some-Some.one c.in-Some-Some.other (sym c.is_after.ensures ∙ c.if-is_after.true)
    (subst (IsFirstEntry p low) c.in-Some-Some.is-0 a) (subst (IsFirstEntry q low) c.in-Some-Some.is-1 b)

pub returns-else-is_after : goal.returns-else-is_after
returns-else-is_after c = λ p q low a b. first_lower p q low c.in-Some-Some.one c.in-Some-Some.other (sym c.is_after.ensures ∙ c.if-is_after.false)
    (subst (IsFirstEntry p low) c.in-Some-Some.is-0 a) (subst (IsFirstEntry q low) c.in-Some-Some.is-1 b)
