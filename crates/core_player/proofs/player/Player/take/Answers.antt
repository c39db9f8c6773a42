use Rattle.std.proofs.Common.{◌≡◌, ◌-◌, ◌++◌, ℕ, List, length, subst, refl}
use Rattle.std.specs.Prelude.{◌==◌, if◌then◌else◌}
use Rattle.amqp_model.specs.declared.item.Item.{Item}
use Rattle.std.proofs.lemmas.Result.{on_ok_weaker}
use Rattle.core_player.specs.Script.{Scene}
use Rattle.core_player.specs.Entries.{took_entry}
use Rattle.core_player.specs.Playing.{Follows}
use Rattle.core_player.specs.Recording.{lengths_of}
use Rattle.core_player.proofs.Recording.{take_recorded, taken_recorded, works_before}
use Rattle.core_player.proofs.Scenes.{taken_follows, taken_scene}
use Rattle.core_player.proofs.Telling.{fault_tells, works_tells}
use Rattle.core_player.proofs.player.Player.take.Goals as goal

pub returns-in_ok-took-in-Ok-clause-follows : goal.returns-in_ok-took-in-Ok-clause-follows
returns-in_ok-took-in-Ok-clause-follows g c = on_ok_weaker c.send.result
    (λ h works s f ready.
    let is = c.in-Ok.ensures.batch s.trace f.core.0
    in subst (λ (u : Scene). Follows g.M.Machine.meaning c.send.new.self u) (taken_scene c.args.conn c.in-Ok.batch s is)
    (h _ (taken_follows g.M.Machine.meaning c.args.self.now _ c.args.conn c.in-Ok.batch s f (c.in-Ok.ensures.fits s.trace f.core.0, c.in-Ok.ensures.keeps s.trace f.core.1) is c.in-Ok.ensures.named refl refl refl refl)))
    c.send.ensures.follows

pub returns-in_ok-took-in-Ok-clause-tells : goal.returns-in_ok-took-in-Ok-clause-tells
returns-in_ok-took-in-Ok-clause-tells g c = on_ok_weaker c.send.result
    (λ t first h.
    let m = g.M.Machine.meaning in
    let e = c.take.ensures in
    let working = works_before c.take.result c.in-Ok.batch (m.is_failed c.args.self.now.core) c.in-Ok.is e.failed in
    t first (works_tells m first c.args.self.now _ c.in-Ok.ensures.works refl refl
    (taken_recorded m c.args.self.now.core c.take.new.machine c.args.self.now.recorder c.took.new.self c.args.conn c.in-Ok.batch working c.in-Ok.ensures.works e.named
    c.in-Ok.ensures.fits c.in-Ok.ensures.batch c.in-Ok.ensures.keeps
    (subst (λ (ys : List Item). c.took.new.self.entries.items ≡ c.args.self.now.recorder.entries.items ++ took_entry c.args.conn (length ys)) c.items.ensures c.in_ok-took-in-Ok.ensures.entries)
    (subst (λ (ys : List Item). (d : ℕ) → lengths_of c.took.new.self d ≡ (if c.args.conn.0 == d then lengths_of c.args.self.now.recorder d - length ys else lengths_of c.args.self.now.recorder d)) c.items.ensures c.in_ok-took-in-Ok.ensures.lengths)
    c.took.ensures.cut first) h))
    c.send.ensures.tells

pub returns-in-Err-clause-tells : goal.returns-in-Err-clause-tells
returns-in-Err-clause-tells g c = on_ok_weaker c.fail.result
    (λ said first h.
    let m = g.M.Machine.meaning in
    let e = c.take.ensures in
    fault_tells m first c.args.self.now _ c.fail.new.self c.in-Err.fault (λ is. (c.in-Err.ensures.refused is).0) (λ is. (c.in-Err.ensures.unchanged is).0) refl refl
    (take_recorded m first c.args.self.now.core c.take.new.machine c.args.self.now.recorder c.in-Err.fault c.take.result c.in-Err.is e.named c.in-Err.ensures.still e.failed
    (λ is. (c.in-Err.ensures.refused is).0) (λ is. (c.in-Err.ensures.unchanged is).0) c.in-Err.ensures.memory c.in-Err.ensures.no_disk)
    c.fail.ensures.kept said h)
    c.fail.ensures.said
