use Rattle.std.proofs.Common.{◌∙◌, ap, List, ℕ}
use Rattle.std.proofs.lemmas.Result.{IfOk-weaker}
use Rattle.std.specs.Prelude.{Option, option_map}
use Rattle.amqp_link.specs.declared.part.Delivery.{Delivery as Told}
use Rattle.book_model.specs.declared.row.Row.{Row}
use Rattle.book_model.specs.declared.terminus.LinkKey.{LinkKey}
use Rattle.router_trace.specs.Links.{link, durable_key}
use Rattle.reply_rows.proofs.Taken.{key_there}
use Rattle.reply_transfers.specs.Joining.{row_joined}
use Rattle.reply_rows.specs.Joining.{row_alone, settled_whole}
use Rattle.reply_rows.proofs.transfer.settling.settled_on_link.Goals as goal

pub returns : goal.returns
returns c = IfOk-weaker c.row_alone.result _ _
    (λ rows is t conn own handle found at. is
    ∙ ap row_alone (c.row_joined-row.ensures
    ∙ ap (λ (k : Option LinkKey). row_joined c.args.book.now k (option_map (λ g. g.now.items) c.settled_whole-tag.result)) (found.key ∙ key_there t conn own c.args.transfer.now.handle handle at)
    ∙ ap (λ (g : Option (List ℕ)). row_joined c.args.book.now (durable_key (link t conn own handle)) g)
    (c.settled_whole-tag.ensures ∙ ap (λ (d : Option Told). settled_whole c.args.transfer.now d) found.middle)))
    c.row_alone.ensures
