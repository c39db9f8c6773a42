use Rattle.std.proofs.Common.{sym, ◌∙◌}
use Rattle.book_core.proofs.Looked.{terminus_found, terminus_missing}
use Rattle.book_core.proofs.look.terminus.Goals as goal

pub returns-in-None : goal.returns-in-None
returns-in-None c = λ up. sym (terminus_missing _ _ (c.in-None.ensures.missing up))

pub returns-in-Some : goal.returns-in-Some
returns-in-Some c = λ up. c.as_ref.ensures.value ∙ sym (terminus_found c.args.number.0 c.args.slots.now c.in-Some.at c.index-slots-at.result up c.in-Some.ensures.found)
