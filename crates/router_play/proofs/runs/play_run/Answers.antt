use Rattle.std.proofs.Common.{◌∙◌, ap, subst, sym, List, ◌++◌, ◌∷◌, [], append_assoc}
use Rattle.std.specs.Prelude.{Option}
use Rattle.router_trace.specs.Trace.{Beginning}
use Rattle.reply_rows.specs.Acts.{book_in}
use Rattle.router_core.specs.Handling.{kept_book}
use Rattle.core_machine.specs.declared.fault.CoreFault.{CoreFault}
use Rattle.core_machine.specs.Opened.{IsOpened}
use Rattle.core_player.specs.declared.entry.Entry.{Entry}
use Rattle.core_player.specs.declared.entry.Entry.TheVariants as entry
use Rattle.core_player.specs.declared.script.Step.{Step}
use Rattle.core_player.specs.declared.line.Line.{Line}
use Rattle.journal_store.proofs.Opened.{opens_to_one}
use Rattle.router_core.specs.Machine.{core_meaning, opening_of}
use Rattle.router_play.specs.Ending.{TellsOf}
use Rattle.router_play.specs.Script.{Scene, opening_on, router_on, run_line, Plays}
use Rattle.core_player.proofs.Telling.{on_ok_all}
use Rattle.router_play.proofs.Beginning.{opening_is}
use Rattle.router_play.proofs.Stops.{if_ok_one, if_ok_three, if_ok_two, left_holds, one_more, opened_on}
use Rattle.router_play.proofs.Telling.{size_told}
use Rattle.router_play.proofs.runs.play_run.Goals as goal

pub returns-in-Ok-clause-plays : goal.returns-in-Ok-clause-plays
returns-in-Ok-clause-plays g c =
    if_ok_three c.end_run.result _ _ _ _
    (λ ended failed size left none j holds.
    let twin = g.C.Twin in
    let config = c.args.config.now in
    let opened = c.in_ok-core.ensures in
    let same = opened_on twin.seen twin.may_leave twin.failures (twin.seen c.args.twin) config c.in_ok-core.core j holds opened.stands opened.seen in
    let begins = subst (λ (b : Beginning). IsOpened (core_meaning twin.seen twin.may_leave twin.failures) b c.in_ok-core.core) same opened.opened in
    let r = c.in-Ok.ensures.plays (sym failed ∙ none) opened.named (router_on config j) begins in (
      r.0,
      subst (λ (ys : List Step). Plays ys (opening_on config j) r.0) c.deref.ensures.value (subst (λ (s : Scene). Plays c.deref.result.now s r.0) (opening_is config j) r.1),
      r.2 ∙ ap (λ (ls : List Line). ls ++ r.0.lines) c.in_ok-say_run.ensures,
      size_told c.in-Ok.played.core r.0.trace ended.size size r.3.0,
      left_holds twin.seen twin.may_leave twin.failures c.in-Ok.played.core r.0.trace (twin.seen ended.twin) r.3 left,
    ))
    c.end_run.ensures.failed c.end_run.ensures.size c.end_run.ensures.left

pub returns-in-Ok-clause-told : goal.returns-in-Ok-clause-told
returns-in-Ok-clause-told g c =
    if_ok_one c.end_run.result _ _ (λ ended failed. subst (λ (f : Option CoreFault). TellsOf f c.play.new.lines.items) (sym failed) c.in-Ok.ensures.told) c.end_run.ensures.failed

pub returns-in-Ok-clause-lives : goal.returns-in-Ok-clause-lives
returns-in-Ok-clause-lives g c =
    if_ok_two c.end_run.result _ _ _
    (λ ended left told past t lives opens.
    let twin = g.C.Twin in
    let config = c.args.config.now in
    let opened = c.in_ok-core.ensures in
    let shown = c.in-Ok.ensures.shown in
    let stop : List Entry = entry.Stop ∷ [] in (
      shown.0 ++ told.0 ++ stop,
      told.2
          ∙ ap (λ (es : List Entry). es ++ told.0 ++ stop) shown.1
          ∙ ap (λ (es : List Entry). es ++ stop) (append_assoc c.args.entries.now.items shown.0 told.0)
          ∙ append_assoc c.args.entries.now.items (shown.0 ++ told.0) stop,
      one_more twin.seen twin.may_leave twin.failures config.router_id (opening_of config c.in_ok-core.core) past t lives
          (opens_to_one (twin.seen c.args.twin) (kept_book c.in_ok-core.core) (book_in t) opened.book opens) c.in_ok-core.core c.in-Ok.played.core (twin.seen ended.twin) c.in-Ok.played.cut shown.0 told.0
          opened.named opened.opened shown.2 left told.1,
    ))
    c.end_run.ensures.left c.end_run.ensures.told

pub returns-in-Ok-clause-more : goal.returns-in-Ok-clause-more
returns-in-Ok-clause-more g c =
    on_ok_all c.end_run.result
    (let more = c.in-Ok.ensures.more in
    (run_line c.args.number ++ more.0, more.1 ∙ ap (λ (ls : List Line). ls ++ more.0) c.in_ok-say_run.ensures ∙ append_assoc c.args.lines.now.items (run_line c.args.number) more.0))
