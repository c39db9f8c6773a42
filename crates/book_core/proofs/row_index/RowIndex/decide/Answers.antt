use Rattle.std.proofs.Common.{ap, ◌∙◌, ◌-◌}
use Rattle.std.specs.Ordering.{nat_cmp}
use Rattle.book_core.specs.Indexed.{one_for}
use Rattle.book_core.specs.Named.{name_cmp}
use Rattle.book_core.specs.Numbers.{number_at}
use Rattle.book_core.proofs.Counted.{indexed_decided}
use Rattle.book_core.proofs.row_index.RowIndex.decide.Goals as goal

pub returns-clause-indexed : goal.returns-clause-indexed
returns-clause-indexed c rs n outcome up s found undecided =
    indexed_decided c.args.self.now (record { names = c.args.self.now.names; from = c.take_one.new.counts; unforgotten = c.args.self.now.unforgotten; waiting = c.take_one-2.new.counts }) rs s up n c.args.row.now found outcome undecided
    (λ q i. number_at name_cmp c.args.self.now.names q)
    (λ m. c.in_ok-take_one.ensures.counts m ∙ ap (λ t. number_at nat_cmp c.args.self.now.from m - one_for t m) c.left_by.ensures) (λ m i. number_at nat_cmp c.args.self.now.unforgotten m) c.in_ok-take_one-2.ensures.counts
