use Rattle.std.proofs.Common.{◌≡◌, ◌∙◌, sym, ap, subst, false, None, Some, IfSome, is_some}
use Rattle.route_credit.specs.Pool.{has_no_links}
use Rattle.state_collections.specs.NumberMap.{at_number}
use Rattle.state_pools.specs.Addresses.{rested}
use Rattle.state_pools.specs.Digest.{digest_of}
use Rattle.state_pools.specs.Fits.{has_no_pools, in_row}
use Rattle.state_pools.proofs.Rows.{changed, emptied, found, lent, swept, there, unchanged}
use Rattle.state_pools.proofs.Written.{rested_new}
use Rattle.state_pools.proofs.by_address.ByAddress.forget.Goals as goal

pub returns-then-is_empty-clause-rested : goal.returns-then-is_empty-clause-rested
returns-then-is_empty-clause-rested c share shared =
    let rows = c.args.self.now.rows in
    let q = c.args.address.now in
    let key = c.args.digest in
    let is_row = found share (at_number rows) q key c.requires (Some c.in-Some.row.now) c.in-Some.ensures.value in
    changed share (at_number rows) q key c.requires (at_number c.remove.new.self) (Some c.in-Some.row.now) None rested c.in-Some.ensures.value
    (swept (at_number rows) (at_number (c.get_mut.follows.lender c.forget.new.self)) (at_number c.remove.new.self) key c.in-Some.row.now c.forget.new.self c.in-Some.ensures.value (c.get_mut.follows.holds c.forget.new.self) c.remove.ensures.gone)
    (emptied share c.in-Some.row.now c.forget.new.self q rested (sym c.is_empty.ensures ∙ c.if-is_empty.true) (c.forget.ensures.rested share (ap (λ p. p.distribution) is_row ∙ shared)))

pub returns-else-is_empty-clause-rested : goal.returns-else-is_empty-clause-rested
returns-else-is_empty-clause-rested c share shared =
    let rows = c.args.self.now.rows in
    let rows' = c.get_mut.follows.lender c.forget.new.self in
    let q = c.args.address.now in
    let key = c.args.digest in
    let is_row = found share (at_number rows) q key c.requires (Some c.in-Some.row.now) c.in-Some.ensures.value in
    changed share (at_number rows) q key c.requires (at_number rows') (Some c.in-Some.row.now) (Some c.forget.new.self) rested c.in-Some.ensures.value
    (lent (at_number rows) (at_number rows') key c.in-Some.row.now c.forget.new.self c.in-Some.ensures.value (c.get_mut.follows.holds c.forget.new.self))
    (c.forget.ensures.rested share (ap (λ p. p.distribution) is_row ∙ shared))

pub returns-in_default-clause-rested : goal.returns-in_default-clause-rested
returns-in_default-clause-rested c share shared =
    unchanged share (at_number c.args.self.now.rows) c.args.address.now c.args.digest c.requires (at_number c.get_mut.follows.lender-at-none) (λ i d. c.get_mut.follows.holds-at-none d i)
    rested (rested_new (share c.args.address.now)) c.in_default.ensures.value

pub returns-then-is_empty-clause-gone : goal.returns-then-is_empty-clause-gone
returns-then-is_empty-clause-gone c share empty =
    let rows = c.args.self.now.rows in
    let key = c.args.digest in
    ap (λ r. is_some (in_row r c.args.address.now)) (there (at_number rows) (at_number c.remove.new.self) key None c.args.address.now c.requires
    (swept (at_number rows) (at_number (c.get_mut.follows.lender c.forget.new.self)) (at_number c.remove.new.self) key c.in-Some.row.now c.forget.new.self c.in-Some.ensures.value (c.get_mut.follows.holds c.forget.new.self) c.remove.ensures.gone))

pub returns-else-is_empty-clause-gone : goal.returns-else-is_empty-clause-gone
returns-else-is_empty-clause-gone c share empty =
    let rows = c.args.self.now.rows in
    let rows' = c.get_mut.follows.lender c.forget.new.self in
    let q = c.args.address.now in
    let key = c.args.digest in
    let is_row = found share (at_number rows) q key c.requires (Some c.in-Some.row.now) c.in-Some.ensures.value in
    ap (λ r. is_some (in_row r q)) (there (at_number rows) (at_number rows') key (Some c.forget.new.self) q c.requires
    (lent (at_number rows) (at_number rows') key c.in-Some.row.now c.forget.new.self c.in-Some.ensures.value (c.get_mut.follows.holds c.forget.new.self)))
    ∙ c.forget.ensures.gone share (ap has_no_links is_row ∙ empty)

pub returns-in_default-clause-gone : goal.returns-in_default-clause-gone
returns-in_default-clause-gone c share empty =
    ap (λ r. is_some (in_row r c.args.address.now)) (c.get_mut.follows.holds-at-none (digest_of c.args.address.now))
    ∙ ap (λ r. is_some (in_row r c.args.address.now)) (ap (at_number c.args.self.now.rows) (sym c.requires) ∙ sym c.in_default.ensures.value)

pub returns-then-is_empty-clause-swept : goal.returns-then-is_empty-clause-swept
returns-then-is_empty-clause-swept c =
    let rows = c.args.self.now.rows in
    let key = c.args.digest in
    subst (λ r. IfSome r (λ row. has_no_pools row ≡ false)) (sym (there (at_number rows) (at_number c.remove.new.self) key None c.args.address.now c.requires
    (swept (at_number rows) (at_number (c.get_mut.follows.lender c.forget.new.self)) (at_number c.remove.new.self) key c.in-Some.row.now c.forget.new.self c.in-Some.ensures.value (c.get_mut.follows.holds c.forget.new.self) c.remove.ensures.gone))) tt

pub returns-else-is_empty-clause-swept : goal.returns-else-is_empty-clause-swept
returns-else-is_empty-clause-swept c =
    let rows = c.args.self.now.rows in
    let rows' = c.get_mut.follows.lender c.forget.new.self in
    let key = c.args.digest in
    subst (λ r. IfSome r (λ row. has_no_pools row ≡ false)) (sym (there (at_number rows) (at_number rows') key (Some c.forget.new.self) c.args.address.now c.requires
    (lent (at_number rows) (at_number rows') key c.in-Some.row.now c.forget.new.self c.in-Some.ensures.value (c.get_mut.follows.holds c.forget.new.self)))) (sym c.is_empty.ensures ∙ c.if-is_empty.false)

pub returns-in_default-clause-swept : goal.returns-in_default-clause-swept
returns-in_default-clause-swept c =
    subst (λ r. IfSome r (λ row. has_no_pools row ≡ false))
    (sym (c.get_mut.follows.holds-at-none (digest_of c.args.address.now) ∙ ap (at_number c.args.self.now.rows) (sym c.requires) ∙ sym c.in_default.ensures.value)) tt
