use Rattle.std.proofs.Common.{◌∙◌, sym, ap, subst, List, ◌++◌}
use Rattle.core_player.specs.declared.line.Line.{Line}
use Rattle.core_player.specs.Telling.{TellsOf}
use Rattle.core_player.proofs.Recording.{shown}
use Rattle.core_player.proofs.Telling.{tells_after}
use Rattle.core_player.proofs.player.play.Goals as goal

pub returns-clause-plays : goal.returns-clause-plays
returns-clause-plays g c = λ none named from opened.
    let works = (c.in_ok-played.ensures.tells c.args.core (c.new-player.ensures.tells c.requires.works)).known none
    in let r = c.in_ok-played.ensures.follows works c.args.config.now from (c.new-player.ensures.begun named from opened)
    in (r.0, r.1, c.in_ok-append.ensures ∙ ap (λ ls. c.args.lines.now.items ++ ls) r.2.lines, r.2.core)

pub returns-clause-told : goal.returns-clause-told
returns-clause-told g c =
    subst (λ (ls : List Line). TellsOf c.run-played.new.self.fault ls) (sym c.in_ok-append.ensures)
    (tells_after c.run-played.new.self.fault c.args.lines.now.items c.run-played.new.self.lines.items (c.in_ok-played.ensures.tells c.args.core (c.new-player.ensures.tells c.requires.works)).told)

pub returns-clause-more : goal.returns-clause-more
returns-clause-more g c = (c.run-played.new.self.lines.items, c.in_ok-append.ensures)

pub returns-clause-shown : goal.returns-clause-shown
returns-clause-shown g c =
    let m = g.M.Machine.meaning in
    let told = c.in_ok-played.ensures.tells c.args.core (c.new-player.ensures.tells c.requires.works) in (
      c.run-played.new.self.recorder.entries.items,
      c.in_ok-cut.ensures.entries,
      shown m c.args.core c.run-played.new.self.core c.run-played.new.self.recorder c.in_ok-cut.cut c.in_ok-cut.ensures.cut told.recorded,
    )
