use Rattle.std.proofs.Common.{◌∙◌, sym, ap, refl, true≢false, is_some, None, if◌then◌else◌}
use Rattle.route_credit.specs.Pool.{has_no_links}
use Rattle.state_pools.specs.Addresses.{rested}
use Rattle.state_pools.proofs.AtAddress.{equal_bytes}
use Rattle.state_pools.specs.ByBytes.{at}
use Rattle.state_pools.proofs.Written.{forgotten, here, rested_new, stayed, unwritten}
use Rattle.state_pools.proofs.row.Row.forget.Goals as goal

pub returns-then-is_empty-clause-rested : goal.returns-then-is_empty-clause-rested
returns-then-is_empty-clause-rested c share shared =
    let found = at c.args.self.now.pools in
    let is_there = here share found c.args.address.now c.in-Some.pool.now c.in-Some.ensures in
    forgotten share found c.args.address.now (at c.remove.new.self) c.in-Some.pool.now c.in-Some.ensures (sym c.is_empty.ensures ∙ c.if-is_empty.true)
    (sym (ap (λ p. p.distribution) is_there) ∙ shared) c.remove.ensures

pub returns-else-is_empty-clause-rested : goal.returns-else-is_empty-clause-rested
returns-else-is_empty-clause-rested c share shared =
    stayed share (at c.args.self.now.pools) c.args.address.now c.in-Some.pool.now c.in-Some.ensures (sym c.is_empty.ensures ∙ c.if-is_empty.false)

pub returns-in_default-clause-rested : goal.returns-in_default-clause-rested
returns-in_default-clause-rested c share shared =
    unwritten share (at c.args.self.now.pools) c.args.address.now (at c.args.self.now.pools) (λ a. refl) rested (rested_new (share c.args.address.now)) c.in_default.ensures

pub returns-then-is_empty-clause-gone : goal.returns-then-is_empty-clause-gone
returns-then-is_empty-clause-gone c share empty = let q = c.args.address.now in ap is_some (c.remove.ensures q ∙ ap (λ b. if b then None else at c.args.self.now.pools q) (equal_bytes q q refl))

pub returns-else-is_empty-clause-gone : goal.returns-else-is_empty-clause-gone
returns-else-is_empty-clause-gone c share empty =
    absurd (true≢false (sym empty ∙ ap has_no_links (here share (at c.args.self.now.pools) c.args.address.now c.in-Some.pool.now c.in-Some.ensures) ∙ sym c.is_empty.ensures ∙ c.if-is_empty.false))

pub returns-in_default-clause-gone : goal.returns-in_default-clause-gone
returns-in_default-clause-gone c share empty = ap is_some (sym c.in_default.ensures)
