use Rattle.std.proofs.Common.{ap, ◌∙◌, sym}
use Rattle.std.specs.Prelude.{is_some}
use Rattle.book_model.specs.Book.{has_tag}
use Rattle.book_core.specs.Slots.{rows_in}
use Rattle.book_core.proofs.Found.{any_found, is_copied}
use Rattle.book_core.proofs.look.has_named.Goals as goal

pub returns : goal.returns
returns c = λ up named.
    c.is_some.ensures ∙ sym (is_copied c.row_named.result) ∙ ap is_some (c.row_named.ensures up named)
    ∙ sym (any_found (has_tag c.args.producer.0 c.args.tag.now.items) (rows_in c.args.slots.now))
