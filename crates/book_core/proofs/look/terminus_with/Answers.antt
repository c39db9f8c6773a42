use Rattle.std.proofs.Common.{◌∙◌, sym, Some, None}
use Rattle.book_model.specs.Book.{same_key}
use Rattle.book_model.specs.declared.terminus.Terminus.{Terminus}
use Rattle.book_core.proofs.Found.{passes, fails}
use Rattle.book_core.proofs.Keyed.{looked}
use Rattle.book_core.proofs.look.terminus_with.Goals as goal

pub returns-in-None : goal.returns-in-None
returns-in-None c = λ up keyed. sym (looked c.args.keys.now c.args.key.now c.args.slots.now None c.at.result c.at.ensures c.in-None.ensures up keyed)

pub returns-then-is_key : goal.returns-then-is_key
returns-then-is_key c = λ up keyed.
    sym (looked c.args.keys.now c.args.key.now c.args.slots.now (Some c.in-Some.terminus.now) c.at.result c.at.ensures c.in-Some.ensures up keyed
    ∙ passes (λ (t : Terminus). same_key t.key c.args.key.now) c.in-Some.terminus.now (sym c.is_key.ensures ∙ c.if-is_key.true))

pub returns-else-is_key : goal.returns-else-is_key
returns-else-is_key c = λ up keyed.
    sym (looked c.args.keys.now c.args.key.now c.args.slots.now (Some c.in-Some.terminus.now) c.at.result c.at.ensures c.in-Some.ensures up keyed
    ∙ fails (λ (t : Terminus). same_key t.key c.args.key.now) c.in-Some.terminus.now (sym c.is_key.ensures ∙ c.if-is_key.false))
