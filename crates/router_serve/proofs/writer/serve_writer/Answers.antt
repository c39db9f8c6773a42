use Rattle.core_machine.specs.History.{IsGiven}
use Rattle.router_serve.proofs.Batches.{counts_one, ends, goes, is_answer}
use Rattle.router_serve.proofs.writer.serve_writer.Goals as goal

pub loop-turn-preserved : goal.loop-turn-preserved
loop-turn-preserved g c = let h = c.wait_batch-answer.ensures in let r = c.wait_batch-answer.result in
    goes (λ b. ∥ IsGiven g.M.Machine.meaning g.G.Ledgers.opening c.args.conn b ∥₁) c.args.conn c.loop-turn.next c.in-Ok.behind _ _ _ c.args.seat c.loop-turn.seat c.wait_batch-answer.new.seat r
    c.loop-turn.invariant (is_answer (λ b. ∥ IsGiven g.M.Machine.meaning g.G.Ledgers.opening c.args.conn b ∥₁) c.args.conn r h.given h.whose) c.in-Ok.ensures.goes_on (counts_one r _ _ h.counted h.uncounted)

pub returns-in-Err : goal.returns-in-Err
returns-in-Err g c = let h = c.wait_batch-answer.ensures in let r = c.wait_batch-answer.result in
    ends (λ b. ∥ IsGiven g.M.Machine.meaning g.G.Ledgers.opening c.args.conn b ∥₁) c.args.conn c.loop-turn.next _ _ _ c.args.seat c.loop-turn.seat c.wait_batch-answer.new.seat r c.in-Err.end
    c.loop-turn.invariant (is_answer (λ b. ∥ IsGiven g.M.Machine.meaning g.G.Ledgers.opening c.args.conn b ∥₁) c.args.conn r h.given h.whose) c.in-Err.ensures.ends (counts_one r _ _ h.counted h.uncounted)
