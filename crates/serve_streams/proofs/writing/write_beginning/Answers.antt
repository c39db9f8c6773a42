use Rattle.std.proofs.Common.{rules, take, ℕ, subst, sym}
use Rattle.std.specs.Io.KnownBytes.{Appends}
use Rattle.serve_streams.proofs.Appending.{appends_more, appends_kept}
use Rattle.serve_streams.proofs.writing.write_beginning.Goals as goal
use Rattle.serve_streams.proofs.writing.write_beginning.Goals.{in-Ok, in-Err+else-ne}

pub loop-turn-preserved : goal.loop-turn-preserved
loop-turn-preserved g c =
    let old = g.W.Write.contents c.args.output.now in
    let mid = g.W.Write.contents c.loop-turn.output in
    let new = g.W.Write.contents c.write.new.self in
    let kept = c.loop-turn.invariant in elim c.match-write.branch [
      | in-Ok w ↦ (
        let bound = w.in-Ok.ensures.bound in search rules,
        subst (λ (d : ℕ). Appends old new (take d c.args.bytes.now)) (sym w.done-is)
            (appends_more old mid new c.loop-turn.done w.in-Ok.count c.args.bytes.now _ (let h = c.split_at.ensures in search (h, rules)) kept.1 w.in-Ok.ensures.bytes),
      )
      | in-Err+else-ne w ↦ (
        search rules,
        subst (λ (d : ℕ). Appends old new (take d c.args.bytes.now)) (sym w.done-is)
            (appends_kept old mid new (take c.loop-turn.done c.args.bytes.now) kept.1 w.in-Err.ensures.bytes),
      )
    ]
