use Rattle.std.proofs.Common.{ℕ, ◌-◌, List, ◌++◌, ◌∷◌, [], length, arith, ap, sym, ◌∙◌, length-append}
use Rattle.journal_codec.specs.Format.{in_4, acts_bytes, batch}
use Rattle.journal_codec.proofs.Spelled.{length-in_4, sealed, sealed_batch, length-batch}
use Rattle.journal_codec.proofs.spell.block_of.Goals as goal

pub overflow_sub-len : goal.overflow_sub-len
overflow_sub-len c =
    let items = c.in_ok-put_acts.ensures.put ∙ ap (λ (l : List ℕ). l ++ acts_bytes c.args.acts.now) (c.in_ok-put_4.ensures ∙ ap (λ (l : List ℕ). l ++ in_4 0) c.new-block.ensures.items) in
    omega (arith, ap length items, length-append (in_4 0) (acts_bytes c.args.acts.now), length-in_4 0, c.put_acts.new.out.ok, c.len.ensures)

pub seal-requires : goal.seal-requires
seal-requires c =
    let items = c.in_ok-put_acts.ensures.put ∙ ap (λ (l : List ℕ). l ++ acts_bytes c.args.acts.now) (c.in_ok-put_4.ensures ∙ ap (λ (l : List ℕ). l ++ in_4 0) c.new-block.ensures.items) in
    omega (arith, ap length c.deref_mut.ensures.value, ap length items, length-append (in_4 0) (acts_bytes c.args.acts.now), length-in_4 0)

-- the bytes in the end
block_items : goal.returns-clause-block
block_items c =
    let items = c.in_ok-put_acts.ensures.put ∙ ap (λ (l : List ℕ). l ++ acts_bytes c.args.acts.now) (c.in_ok-put_4.ensures ∙ ap (λ (l : List ℕ). l ++ in_4 0) c.new-block.ensures.items) in
    c.in_ok-put_byte.ensures
    ∙ ap (λ (l : List ℕ). l ++ 0 ∷ [])
    (sealed _ _ _ (acts_bytes c.args.acts.now) c.in-Ok.len _ items (sym c.put_acts.new.out.ok.0) c.deref_mut.ensures.value (c.in-Ok.ensures.1 ∙ ap (λ n. n - 4) c.len.ensures) c.seal.ensures ∙ sealed_batch c.args.acts.now)

pub returns-clause-block : goal.returns-clause-block
returns-clause-block c = block_items c

pub returns-clause-len : goal.returns-clause-len
returns-clause-len c =
    omega (arith, c.put_byte.new.out.ok, ap length (block_items c), length-append (batch c.args.acts.now) (0 ∷ []), length-batch c.args.acts.now)
