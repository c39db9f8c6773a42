use Rattle.std.proofs.Common.{◌≡◌, ◌∙◌, arith, ap, List, ℕ, ◌++◌, ◌∷◌, [], length}
use Rattle.book_model.specs.Restoring.{acts_of_book}
use Rattle.journal_codec.specs.Format.{in_4, in_8}
use Rattle.twin_journal.specs.Format.{checkpoint_bytes}
use Rattle.twin_journal.proofs.Stamped.{filled, filled_length}
use Rattle.twin_journal.proofs.stamp.fill_of.Goals as goal

-- the checkpoint's bytes
abbrev checkpoint : goal.After-drop-acts-2 → List ℕ
checkpoint c = checkpoint_bytes c.args.book.now.next_terminus c.args.book.now.next_row (acts_of_book c.args.book.now)

sized : (c : goal.After-drop-acts-2) → c.in-Ok.size ≡ length (checkpoint c)
sized c = omega (arith, c.in-Ok.ensures.1, c.in_ok-count.ensures c.args.book.now (c.as_slice.ensures.value ∙ c.in_ok-acts.ensures))

-- the bytes in the end
spelled : (c : goal.After-drop-acts-2) → c.push.new.self.items ≡ in_8 c.args.epoch ++ in_8 c.args.base ++ in_4 c.in-Ok.size ++ checkpoint c ++ 0 ∷ []
spelled c =
    c.in_ok-push.ensures.items
    ∙ ap (λ (l : List ℕ). l ++ 0 ∷ [])
    (c.in_ok-put_checkpoint.ensures.put
    ∙ ap (λ (l : List ℕ). l ++ checkpoint c)
    (c.in_ok-put_4.ensures
    ∙ ap (λ (l : List ℕ). l ++ in_4 c.in-Ok.size)
    (c.in_ok-put_8-2.ensures ∙ ap (λ (l : List ℕ). l ++ in_8 c.args.base) (c.in_ok-put_8.ensures ∙ ap (λ (l : List ℕ). l ++ in_8 c.args.epoch) c.in_ok-bytes.ensures.empty))))

pub returns-clause-fill : goal.returns-clause-fill
returns-clause-fill c written =
    filled c.push.new.self.items (checkpoint c) c.args.epoch c.args.base c.in-Ok.size c.in-Ok.size c.args.book.now (omega (arith, c.if-epoch-gt-LARGEST.false)) (omega (arith, c.if-base-gt-LARGEST.false))
    (omega (arith, c.in-Ok.ensures.0, c.in-Ok.ensures.1)) (sized c) (sized c) (c.in_ok-put_checkpoint.ensures.is_read written) (spelled c)

pub returns-clause-size : goal.returns-clause-size
returns-clause-size c = sized c

pub returns-clause-len : goal.returns-clause-len
returns-clause-len c = omega (arith, ap length (spelled c), filled_length (checkpoint c) c.args.epoch c.args.base c.in-Ok.size, sized c)
