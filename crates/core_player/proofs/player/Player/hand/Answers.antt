use Rattle.std.proofs.Common.{refl}
use Rattle.std.proofs.lemmas.Result.{on_ok_weaker}
use Rattle.core_player.proofs.Handing.{fault_follows, handled_follows}
use Rattle.core_player.proofs.Recording.{fault_recorded, handled_recorded, told_acts, works_before}
use Rattle.core_player.proofs.Telling.{fault_tells, on_ok_all, on_ok_two, works_tells}
use Rattle.core_player.proofs.player.Player.hand.Goals as goal

pub returns-in-Ok-handle-clause-follows : goal.returns-in-Ok-handle-clause-follows
returns-in-Ok-handle-clause-follows g c = on_ok_all c.handled.result
    (λ works s f. handled_follows g.M.Machine.meaning c.args.self.now _ c.args.event s c.in-Ok-handle.ensures.fits c.in-Ok-handle.ensures.keeps c.in-Ok-handle.ensures.taken c.in-Ok-handle.ensures.started c.in-Ok-handle.ensures.named refl refl refl refl f)

pub returns-in-Ok-handle-clause-tells : goal.returns-in-Ok-handle-clause-tells
returns-in-Ok-handle-clause-tells g c = on_ok_two c.handled.result
    (λ entries lengths first h.
    let m = g.M.Machine.meaning in
    let old = c.args.self.now.core in
    let new = c.handle.new.self in
    let working = works_before c.handle.result c.in-Ok-handle.done (m.is_failed old) c.in-Ok-handle.is c.handle.ensures.failed in
    works_tells m first c.args.self.now _ c.in-Ok-handle.ensures.works refl refl
    (handled_recorded m old new c.args.self.now.recorder _ c.args.event c.in-Ok.came c.in-Ok.ensures c.acts_of.result working c.in-Ok-handle.ensures.works c.handle.ensures.named
    c.in-Ok-handle.ensures.fits c.in-Ok-handle.ensures.taken c.in-Ok-handle.ensures.keeps
    (λ t f. told_acts c.in-Ok-handle.done.journal (λ b. b.1.items) c.acts_of.result (m.acts t c.args.event) c.acts_of.ensures.some c.acts_of.ensures.none (c.in-Ok-handle.ensures.written t f) (c.in-Ok-handle.ensures.silent t f))
    entries lengths c.handled.ensures.cut first) h)
    c.handled.ensures.entries c.handled.ensures.lengths

pub returns-in-Err-clause-follows : goal.returns-in-Err-clause-follows
returns-in-Err-clause-follows g c = on_ok_weaker c.fail.result
    (λ said works s f. fault_follows g.M.Machine.meaning c.args.self.now _ c.fail.new.self c.in-Err.fault c.args.event s c.requires.not_start c.in-Err.ensures.refused c.in-Err.ensures.unchanged c.in-Err.ensures.memory c.in-Err.ensures.disk
    refl refl refl refl said works f)
    c.fail.ensures.said

pub returns-in-Err-clause-tells : goal.returns-in-Err-clause-tells
returns-in-Err-clause-tells g c = on_ok_weaker c.fail.result
    (λ said first h.
    let m = g.M.Machine.meaning in
    let e = c.handle.ensures in
    fault_tells m first c.args.self.now _ c.fail.new.self c.in-Err.fault (λ is. (c.in-Err.ensures.refused is).0) (λ is. (c.in-Err.ensures.unchanged is).0) refl refl
    (fault_recorded m first c.args.self.now.core c.handle.new.self c.args.self.now.recorder c.failed.new.self c.args.event c.in-Ok.came c.batch-batches.result c.handle.result c.in-Ok.ensures c.batch-batches.ensures e.named
    e.journal e.failed e.refuses c.failed.ensures.entries c.failed.ensures.lengths c.in-Err.fault c.in-Err.is c.in-Err.ensures.refused c.in-Err.ensures.unchanged c.in-Err.ensures.memory c.in-Err.ensures.disk c.failed.ensures.cut)
    c.fail.ensures.kept said h)
    c.fail.ensures.said
