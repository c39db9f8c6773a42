use Rattle.std.proofs.Common.{◌≡◌, ◌∙◌, ◌-◌, ◌≤◌, ℕ, zero, sym, ap, arith}
use Rattle.router_trace.specs.Links.{first_free_below, is_free_handle}
use Rattle.state_collections.specs.Places.{at}
use Rattle.state_links.proofs.Free.{none_below, found, further}
use Rattle.state_links.proofs.handles.HandleTable.first_free.Goals as goal

pub returns-then-is_free : goal.returns-then-is_free
returns-then-is_free c =
    let free = is_free_handle c.args.most (at c.args.self.now.answered c.args.conn c.args.own) in
    sym (found 64 free c.loop-handle.handle c.loop-handle-test.true (sym c.is_free.ensures ∙ c.if-is_free.true)) ∙ c.loop-handle.invariant

pub loop-handle-preserved : goal.loop-handle-preserved
loop-handle-preserved c =
    let free = is_free_handle c.args.most (at c.args.self.now.answered c.args.conn c.args.own) in
    sym (further 64 free c.loop-handle.handle c.loop-handle-test.true (sym c.is_free.ensures ∙ c.if-is_free.false)) ∙ c.loop-handle.invariant

none_left : (h : ℕ) → 64 ≤ h → 64 - h ≡ zero
none_left h reached = omega (arith, reached)

pub returns : goal.returns
returns c =
    let free = is_free_handle c.args.most (at c.args.self.now.answered c.args.conn c.args.own) in
    sym (none_below free c.loop-handle.handle) ∙ sym (ap (λ n. first_free_below n free c.loop-handle.handle) (none_left c.loop-handle.handle c.loop-handle-test.false)) ∙ c.loop-handle.invariant
