use Rattle.std.proofs.Common.{ap, ◌∙◌, sym, Some, None}
use Rattle.book_model.specs.Book.{has_tag}
use Rattle.book_core.proofs.Found.{passes, fails}
use Rattle.book_core.proofs.Named.{looked}
use Rattle.book_core.proofs.look.row_named.Goals as goal

pub returns-in-None : goal.returns-in-None
returns-in-None c = λ up named.
    sym (looked c.args.names.now c.new-name.result c.args.producer.0 c.args.tag.now.items c.args.slots.now None c.at.result c.new-name.ensures.producer (ap (λ t. t.items) c.new-name.ensures.tag) c.at.ensures c.in-None.ensures up named)

pub returns-then-is_named : goal.returns-then-is_named
returns-then-is_named c = λ up named.
    sym (looked c.args.names.now c.new-name.result c.args.producer.0 c.args.tag.now.items c.args.slots.now (Some c.in-Some.row.now) c.at.result c.new-name.ensures.producer (ap (λ t. t.items) c.new-name.ensures.tag) c.at.ensures c.in-Some.ensures up named
    ∙ passes (has_tag c.args.producer.0 c.args.tag.now.items) c.in-Some.row.now (sym c.is_named.ensures ∙ c.if-is_named.true))

pub returns-else-is_named : goal.returns-else-is_named
returns-else-is_named c = λ up named.
    sym (looked c.args.names.now c.new-name.result c.args.producer.0 c.args.tag.now.items c.args.slots.now (Some c.in-Some.row.now) c.at.result c.new-name.ensures.producer (ap (λ t. t.items) c.new-name.ensures.tag) c.at.ensures c.in-Some.ensures up named
    ∙ fails (has_tag c.args.producer.0 c.args.tag.now.items) c.in-Some.row.now (sym c.is_named.ensures ∙ c.if-is_named.false))
