use Rattle.std.proofs.Common.{ap, ◌∙◌, sym}
use Rattle.std.specs.Prelude.{is_some}
use Rattle.book_model.specs.Book.{same_key}
use Rattle.book_core.specs.Slots.{termini_in}
use Rattle.book_model.specs.declared.terminus.Terminus.{Terminus}
use Rattle.book_core.proofs.Found.{any_found, is_copied}
use Rattle.book_core.proofs.look.has_key.Goals as goal

pub returns : goal.returns
returns c = λ up keyed.
    c.is_some.ensures ∙ sym (is_copied c.terminus_with.result) ∙ ap is_some (c.terminus_with.ensures up keyed)
    ∙ sym (any_found (λ (t : Terminus). same_key t.key c.args.key.now) (termini_in c.args.slots.now))
