use Rattle.std.proofs.Common.{refl, ◌∙◌, sym}
use Rattle.core_player.proofs.Handing.{fused_follows}
use Rattle.core_player.proofs.Recording.{fused_recorded}
use Rattle.core_player.proofs.Telling.{works_tells}
use Rattle.core_player.proofs.player.Player.fuse.Goals as goal

pub returns-clause-follows : goal.returns-clause-follows
returns-clause-follows g c = λ s f.
    let e = c.fuse.ensures in fused_follows g.M.Machine.meaning c.args.self.now _ s e.fits e.keeps e.named refl refl refl refl f

pub returns-clause-stays : goal.returns-clause-stays
returns-clause-stays g c = λ h. c.fuse.ensures.works ∙ h

pub returns-clause-tells : goal.returns-clause-tells
returns-clause-tells g c = λ first h.
    let m = g.M.Machine.meaning in
    let e = c.fuse.ensures in
    let works = sym c.is_failed.ensures ∙ c.if-is_failed.false in
    works_tells m first c.args.self.now _ (e.works ∙ works) refl refl
    (fused_recorded m first c.args.self.now.core c.fuse.new.self c.args.self.now.recorder works (e.works ∙ works) e.named e.fits e.keeps) h
