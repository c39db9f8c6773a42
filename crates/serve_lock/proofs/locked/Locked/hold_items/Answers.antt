use Rattle.std.proofs.Common.{◌≡◌, ◌||◌, refl, subst, List, Err}
use Rattle.std.proofs.lemmas.Result.{err_from_is_err_and}
use Rattle.amqp_model.specs.declared.item.Item.{Item}
use Rattle.core_machine.specs.declared.fault.CoreFault.TheVariants.{Disk}
use Rattle.serve_lock.specs.Handing.{Refuses}
use Rattle.serve_lock.proofs.Queues.{all_held, at_first, further, IsFar, handed_on, ok_is_no_fault, refuses}
use Rattle.serve_lock.proofs.locked.Locked.hold_items.Goals as goal

pub loop-turn-init : goal.loop-turn-init
loop-turn-init g c = at_first g.M.Machine.meaning c.args.conn c.args.items.now.items c.args.seat.now c.args.self.now.router c.args.self.now.full c.args.self.now.bounded

pub loop-turn-preserved : goal.loop-turn-preserved
loop-turn-preserved g c = let h = c.in_ok-more.ensures in
    further g.M.Machine.meaning c.args.conn c.args.items.now.items c.loop-turn.items.items c.args.seat.now c.loop-turn.seat c.args.self.now.router c.loop-turn.self.router c.args.self.now.full c.loop-turn.self.full c.loop-turn._turn c.loop-turn.wrote c.loop-turn.invariant
    c.in-Some.item c.pop_front.new.self.items c.hold.new.seat c.hold.new.self.router c.hold.new.self.full c.in_ok-more.more (c.loop-turn.wrote || c.in_ok-more.more)
    c.in-Some.ensures.items h.counted refl h.fits h.wrote h.named h.works h.holds (h.no_other (ok_is_no_fault c.in_ok-more.more Disk)) h.full

-- no item is left
pub returns-in_default-clause-holds : goal.returns-in_default-clause-holds
returns-in_default-clause-holds g c =
    all_held g.M.Machine.meaning c.args.conn c.args.items.now.items c.pop_front.new.self.items c.args.seat.now c.loop-turn.seat c.args.self.now.router c.loop-turn.self.router c.args.self.now.full c.loop-turn.self.full c.loop-turn._turn c.loop-turn.wrote (subst (λ (is : List Item). IsFar g.M.Machine.meaning c.args.conn c.args.items.now.items is c.args.seat.now c.loop-turn.seat c.args.self.now.router c.loop-turn.self.router c.args.self.now.full c.loop-turn.self.full c.loop-turn._turn c.loop-turn.wrote) c.in_default.ensures.items c.loop-turn.invariant)

-- they were 64
pub returns-clause-holds : goal.returns-clause-holds
returns-clause-holds g c =
    all_held g.M.Machine.meaning c.args.conn c.args.items.now.items c.loop-turn.items.items c.args.seat.now c.loop-turn.seat c.args.self.now.router c.loop-turn.self.router c.args.self.now.full c.loop-turn.self.full c.loop-turn._turn c.loop-turn.wrote c.loop-turn.invariant

-- one was refused
pub returns-in_err-more-clause-fault : goal.returns-in_err-more-clause-fault
returns-in_err-more-clause-fault g c =
    let h = c.in_err-more.ensures in
    let fault = c.in_err-more.field-0.0 in
    let told = err_from_is_err_and c.from_residual.result c.from_residual.ensures.1 in
    handed_on c.from_residual.result fault
    (λ f. Refuses g.M.Machine.meaning c.args.conn c.args.items.now.items c.pop_front.new.self.items c.args.self.now.router c.hold.new.self.router c.args.self.now.full c.hold.new.self.full f)
    (let same : c.from_residual.result ≡ Err fault = cc (told.1, told.2) in same)
    (refuses g.M.Machine.meaning c.args.conn c.args.items.now.items c.loop-turn.items.items c.args.seat.now c.loop-turn.seat c.args.self.now.router c.loop-turn.self.router c.args.self.now.full c.loop-turn.self.full c.loop-turn._turn c.loop-turn.wrote c.loop-turn.invariant
    c.in-Some.item c.pop_front.new.self.items c.hold.new.self.router c.hold.new.self.full fault c.in-Some.ensures.items h.refused h.works_on h.failed h.memory h.disk h.cause (λ isnt. h.no_other (λ is. isnt (let same : fault ≡ Disk = cc in same))) h.leaves h.not_full)
