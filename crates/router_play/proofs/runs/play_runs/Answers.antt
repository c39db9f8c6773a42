use Rattle.std.proofs.Common.{◌∙◌, ◌+◌, ◌++◌, sym, ap, refl, subst, List, ℕ, [], ◌∷◌, arith}
use Rattle.std.specs.Prelude.{Option}
use Rattle.core_machine.specs.declared.fault.CoreFault.{CoreFault}
use Rattle.core_player.specs.declared.line.Line.{Line}
use Rattle.core_player.proofs.Telling.{tells_more}
use Rattle.router_play.specs.Ending.{TellsOf, size_line}
use Rattle.router_play.specs.Script.{PlaysAll, no_book}
use Rattle.router_play.proofs.Carried.{runs_carry}
use Rattle.router_play.proofs.Scenes.{runs_done, runs_more, steps_of}
use Rattle.router_play.proofs.Stops.{one_more_ends}
use Rattle.router_play.proofs.Telling.{graver_none, graver_tells}
use Rattle.reply_rows.specs.Acts.{journaled}
use Rattle.router_play.proofs.runs.play_runs.Goals as goal

pub loop-run-init : goal.loop-run-init
loop-run-init g c = record {
  counted = refl;
  plays = λ none first holds. (first, holds, λ others rest. subst (λ (ls : List Line). PlaysAll c.args.config 1 first (steps_of c.args.runs.now) no_book (ls ++ others)) (sym c.new-lines.ensures.items) rest);
  told = tt;
  lives = λ past t lives opens. ([], t, refl, lives, opens, c.new-entries.ensures.items);
}

pub loop-run-preserved : goal.loop-run-preserved
loop-run-preserved g c = record {
  counted = omega (arith, c.loop-run.invariant.counted);
  plays = λ none first holds.
      let both = graver_none c.loop-run.failed c.in-Ok.ended.failed (sym c.graver-failed.ensures ∙ none) in
      let before = c.loop-run.invariant.plays both.0 first holds in
      let run = c.in-Ok.ensures.plays both.1 before.0 before.1 in (
        journaled run.0.trace,
        run.4,
        λ others rest. runs_more c.args.config (c.loop-run.number + 1) first before.0 c.args.runs.now c.loop-run.run-index c.run-item.result run.0 (size_line c.loop-run.size) (size_line c.in-Ok.ended.size)
            c.loop-run.lines.items c.play_run.new.lines.items others c.run-item.is c.loop-run-test.true run.1 run.2 run.3 before.2 rest,
      );
  told = subst (λ (f : Option CoreFault). TellsOf f c.play_run.new.lines.items) (sym c.graver-failed.ensures)
      (graver_tells c.loop-run.failed c.in-Ok.ended.failed c.play_run.new.lines.items
      (subst (λ (ls : List Line). TellsOf c.loop-run.failed ls) (sym c.in-Ok.ensures.more.1)
      (tells_more c.loop-run.failed c.loop-run.lines.items c.in-Ok.ensures.more.0 c.loop-run.invariant.told))
      c.in-Ok.ensures.told);
  lives = λ past t lives opens.
      one_more_ends c.args.config.router_id past c.loop-run.number (g.C.Twin.seen c.loop-run.last) (g.C.Twin.seen c.in-Ok.ended.twin) c.loop-run.entries.items c.play_run.new.entries.items
      (c.loop-run.invariant.lives past t lives opens) c.in-Ok.ensures.lives;
}

pub returns-in-Ok-say-clause-plays : goal.returns-in-Ok-say-clause-plays
returns-in-Ok-say-clause-plays g c = λ done none first holds.
    let before = c.loop-run.invariant.plays none first holds in
    runs_done c.args.config (c.loop-run.number + 1) first before.0 c.args.runs.now c.loop-run.run-index (size_line c.loop-run.size) c.loop-run.lines.items c.say.new.lines.items
    c.loop-run-test.false before.2 (c.in-Ok-say.ensures ∙ ap (λ (l : Line). c.loop-run.lines.items ++ l ∷ []) c.line_of.ensures)

pub returns-in-Ok-say-clause-carries : goal.returns-in-Ok-say-clause-carries
returns-in-Ok-say-clause-carries g c = λ done none first holds.
    runs_carry c.args.config 1 first (steps_of c.args.runs.now) no_book c.say.new.lines.items (returns-in-Ok-say-clause-plays g c done none first holds)

pub returns-in-Ok-say-clause-told : goal.returns-in-Ok-say-clause-told
returns-in-Ok-say-clause-told g c = λ done.
    subst (λ (ls : List Line). TellsOf c.loop-run.failed ls) (sym (c.in-Ok-say.ensures ∙ ap (λ (l : Line). c.loop-run.lines.items ++ l ∷ []) c.line_of.ensures))
    (tells_more c.loop-run.failed c.loop-run.lines.items (size_line c.loop-run.size ∷ []) c.loop-run.invariant.told)
