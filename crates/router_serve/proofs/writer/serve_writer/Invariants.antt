use Rattle.core_machine.specs.History.{IsGiven}
use Rattle.router_serve.proofs.Batches.{IsFar}
use Rattle.router_serve.proofs.writer.serve_writer.Given as goal

abbrev pub invariant-loop-turn : goal.invariant-loop-turn
invariant-loop-turn g l =
    IsFar (λ b. ∥ IsGiven g.M.Machine.meaning g.G.Ledgers.opening l.conn b ∥₁) l.conn l.next (g.W.Write.contents l.fn.output) (g.W.Write.contents l.output) l.fn.seat l.seat
