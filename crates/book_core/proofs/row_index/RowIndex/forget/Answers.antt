use Rattle.std.proofs.Common.{ap, ◌∙◌, ◌-◌}
use Rattle.std.specs.Ordering.{nat_cmp}
use Rattle.book_core.specs.Indexed.{one_for, left_by}
use Rattle.book_core.specs.Numbers.{number_at}
use Rattle.book_core.proofs.Counted.{indexed_forgotten}
use Rattle.book_core.proofs.row_index.RowIndex.forget.Goals as goal

pub returns-clause-indexed : goal.returns-clause-indexed
returns-clause-indexed c rs n up s found free =
    indexed_forgotten c.args.self.now (record { names = c.set_name.new.names; from = c.take_one.new.counts; unforgotten = c.take_one-2.new.counts; waiting = c.args.self.now.waiting }) rs s up n c.args.row.now found free
    c.in_ok-set_name.ensures.set
    (λ m. c.in_ok-take_one.ensures.counts m ∙ ap (λ t. number_at nat_cmp c.args.self.now.from m - one_for t m) (c.left_by.ensures ∙ ap (λ b. left_by b c.args.row.now) c.is_some.ensures))
    c.in_ok-take_one-2.ensures.counts
    (λ m i. number_at nat_cmp c.args.self.now.waiting m)
