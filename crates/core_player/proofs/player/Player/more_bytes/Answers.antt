use Rattle.std.proofs.Common.{rules, ◌≡◌, ◌∙◌, ap, sym, ◌++◌, [], append_assoc, append-nil}
use Rattle.core_player.proofs.Scenes.{back}
use Rattle.core_player.proofs.Feeding.{nothing_left, silent_read, reads_over, reads_all, next_piece}
use Rattle.core_player.proofs.player.Player.more_bytes.Goals as goal

pub returns-clause-continues : goal.returns-clause-continues
returns-clause-continues g c = λ works s v k before is h f.
    let none : c.loop-behind.behind.now ≡ [] = nothing_left c.loop-behind.behind.now (sym c.is_empty.ensures ∙ c.loop-behind-test.false)
    in let a = c.loop-behind.invariant.continues works s v k before is h f
    in (a.0, reads_all g.M.Machine.meaning c.args.conn a.1 (before ++ c.args.bytes.now) s a.0 k (sym (append-nil a.1) ∙ ap (λ bs. a.1 ++ bs) (sym none) ∙ a.2) a.3, a.4)

pub returns-in-None-clause-continues : goal.returns-in-None-clause-continues
returns-in-None-clause-continues g c = λ works s v k before is h f.
    let a = c.loop-behind.invariant.continues (ap g.M.Machine.meaning.is_failed (sym c.read.ensures.core) ∙ works) s v k before is h f
    in let x = silent_read g.M.Machine.meaning c.args.conn c.split_at.result.0.now a.0 (a.0.sockets c.args.conn.0) c.read.new.self
    (let read = c.in_ok-read.ensures.reads a.0 a.4 in rw c.in-None.is at read)
    in let y = reads_over g.M.Machine.meaning c.read.new.self c.args.conn a.1 c.loop-behind.behind.now s a.0 k is a.3 x.0 x.1
    in (y.0, reads_all g.M.Machine.meaning c.args.conn (a.1 ++ c.loop-behind.behind.now) (before ++ c.args.bytes.now) s y.0 k a.2 y.1, y.2)

pub loop-behind-preserved : goal.loop-behind-preserved
loop-behind-preserved g c =
    let cut : c.loop-behind.behind.now ≡ c.split_at.result.0.now ++ c.split_at.result.1.now = search rules
    in record {
      continues = λ works s v k before is h f.
          let entered = back (g.M.Machine.meaning.is_failed c.read.new.self.core) (g.M.Machine.meaning.is_failed c.enter_all.new.self.core) c.enter_all.ensures.stays works
          in let a = c.loop-behind.invariant.continues (ap g.M.Machine.meaning.is_failed (sym c.read.ensures.core) ∙ entered) s v k before is h f
          in let x = next_piece g.M.Machine.meaning c.args.conn a.1 c.split_at.result.0.now s a.0 k c.read.new.self c.enter_all.new.self c.in-Some.items.items is a.3
          (let read = c.in_ok-read.ensures.reads a.0 a.4 in rw c.in-Some.is at read) (c.in_ok-enter_all-in-Some.ensures.follows works)
          in (x.0, a.1 ++ c.split_at.result.0.now, append_assoc a.1 c.split_at.result.0.now c.split_at.result.1.now ∙ ap (λ bs. a.1 ++ bs) (sym cut) ∙ a.2, x.1, x.2);
      stays = λ h. c.enter_all.ensures.stays (ap g.M.Machine.meaning.is_failed c.read.ensures.core ∙ c.loop-behind.invariant.stays h);
      tells = λ first h. c.in_ok-enter_all-in-Some.ensures.tells first (c.in_ok-read.ensures.tells first (c.loop-behind.invariant.tells first h));
    }
