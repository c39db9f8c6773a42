use Rattle.std.proofs.Common.{inl, ◌++◌, ◌∷◌, [], ◌⊎◌, ℕ, List, Result, Ok, Err}
use Rattle.std.specs.Prelude.{OnOk}
use Rattle.disk_core.specs.DiskLaws.{widened, joined}
use Rattle.journal_codec.specs.Batches.{Holds}
use Rattle.gate_journal.proofs.Outcomes.{first_leaves, second_leaves, stored}
use Rattle.gate_journal.proofs.store.store.Goals as goal

on_ok : {T E P Q R : Type 0} (r : Result T E) → (P → Q → R) → OnOk r P → OnOk r Q → OnOk r R
on_ok (Ok x) f p q = f p q
on_ok (Err e) f p q = tt

pub returns-in_err-put-clause-any_moment : goal.returns-in_err-put-clause-any_moment
returns-in_err-put-clause-any_moment g c bs acts at is_block is applies =
    let moments = rw c.in-Some.ensures.1 at c.put.ensures.moments in
    widened g.D.Disk.moment g.D.Disk.left_since c.args.disk.now c.put.new.disk _ (λ f. Holds f bs ⊎ Holds f (bs ++ acts ∷ [])) (moments _ at.durable)
    (λ f left. inl (first_leaves _ _ _ _ c.args.place bs acts c.args.block.now at is_block is applies f left))

pub returns-clause-any_moment : goal.returns-clause-any_moment
returns-clause-any_moment g c bs acts at is_block is applies =
    let moments = rw c.in-Some.ensures.1 at c.put.ensures.moments in
    let written = rw c.in-Some.ensures.1 at c.in_ok-put.ensures.written in
    let P = λ (f : List ℕ). Holds f bs ⊎ Holds f (bs ++ acts ∷ []) in
    joined g.D.Disk.moment g.D.Disk.left_since c.args.disk.now c.put.new.disk c.put-2.new.disk P
    (widened g.D.Disk.moment g.D.Disk.left_since c.args.disk.now c.put.new.disk _ P (moments _ at.durable)
    (λ f left. inl (first_leaves _ _ _ _ c.args.place bs acts c.args.block.now at is_block is applies f left)))
    (widened g.D.Disk.moment g.D.Disk.left_since c.put.new.disk c.put-2.new.disk _ P (c.put-2.ensures.moments _ c.in_ok-put.ensures.durable)
    (λ f left. second_leaves _ _ _ _ c.args.place bs acts c.args.block.now at is_block is applies _ written f left))

pub returns-clause-done : goal.returns-clause-done
returns-clause-done g c =
    on_ok c.put-2.result
    (λ gated durable bs acts at is_block is applies.
    let written = rw c.in-Some.ensures.1 at c.in_ok-put.ensures.written in
    stored _ _ _ _ c.args.place bs acts c.args.block.now at is_block is applies _ _ _ written gated durable)
    c.put-2.ensures.written c.put-2.ensures.durable
