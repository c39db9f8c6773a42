use Rattle.std.proofs.Common.{◌∙◌, sym, refl}
use Rattle.std.proofs.lemmas.Result.{on_ok_weaker}
use Rattle.std.specs.Prelude.{Some, None}
use Rattle.std.specs.Option.{option_copied}
use Rattle.book_model.specs.Book.{terminus_of}
use Rattle.router_reply.proofs.Held.{held_with}
use Rattle.router_reply.proofs.holding.hold_rows.Goals as goal

pub returns-in-None : goal.returns-in-None
returns-in-None c = λ t fit.
    held_with c.args.state.now c.args.book.now c.args.key.now t None (terminus_of c.args.key.now c.args.book.now.termini) (sym c.in-None.is ∙ c.holder.ensures.now t fit) refl fit

pub returns-in-Some : goal.returns-in-Some
returns-in-Some c = on_ok_weaker c.hold_terminus.result
    (λ is t fit. held_with c.hold_terminus.new.state c.args.book.now c.args.key.now t (Some c.in-Some.at) (option_copied c.terminus_of.result)
    (sym c.in-Some.is ∙ c.holder.ensures.now t fit) c.terminus_of.ensures (is t fit))
    c.hold_terminus.ensures
