use Rattle.std.proofs.Common.{◌≡◌, ◌∙◌, sym, ap, subst, ℕ, true, List}
use Rattle.std.proofs.lemmas.Result.{on_ok_weaker}
use Rattle.std.specs.Prelude.{Option}
use Rattle.amqp_link.specs.declared.part.Part.{Part}
use Rattle.amqp_model.specs.declared.state.UnsettledDelivery.{UnsettledDelivery}
use Rattle.book_model.specs.Book.{BookView}
use Rattle.book_model.specs.declared.row.RowNumber.{RowNumber}
use Rattle.router_trace.specs.Trace.{Entry, Put, goes, puts}
use Rattle.router_trace.specs.Sessions.{theirs, maps}
use Rattle.router_trace.specs.Links.{link_place}
use Rattle.router_trace.specs.Settling.{part_of}
use Rattle.router_trace.specs.declared.event.Event.TheVariants as event
use Rattle.state_links.specs.Fits.{channel_of}
use Rattle.router_state.specs.Tables.{TablesFit}
use Rattle.reply_rows.specs.declared.answer.Answer.{Answer}
use Rattle.reply_rows.specs.declared.answer.Answer.TheVariants.{Taken, Settle}
use Rattle.reply_rows.specs.Rows.{said}
use Rattle.reply_rows.proofs.Mapped.{IsHere, answer_here}
use Rattle.reply_rows.specs.Acts.{book_in, found_journal, full_at}
use Rattle.reply_rows.specs.Admitting.{ChosenFor}
use Rattle.router_reply.specs.Heard.{ids_named, ids_found}
use Rattle.reply_rows.specs.Resuming.{told_map}
use Rattle.reply_transfers.specs.Transfers.{given_after, disposition_in}
use Rattle.router_reply.specs.Replies.{attach_put, after_answer, settled_put, row_found}
use Rattle.router_reply.proofs.After.{taken_is, settled_is, other_is, taken_left, settled_left}
use Rattle.router_reply.proofs.events.begin_item.Goals as goal

pub returns-in-Taken : goal.returns-in-Taken
returns-in-Taken c = on_ok_weaker c.take_part.result
    (λ is t after fit heard chosen answer book row.
    let id = c.args.id.now in
    let item = c.args.item.now in
    let conn = c.args.conn.0 in
    let phase = c.args.phase in
    let own = c.in-Taken.own in
    let handle = c.in-Taken.handle in
    let ours : Answer → List UnsettledDelivery = told_map t (event.Item c.args.conn item) in
    let here : maps (theirs t conn (channel_of item)) own ≡ true =
    subst (λ (a : Answer). IsHere (maps (theirs t conn (channel_of item))) a) (sym answer ∙ c.in-Taken.is) (answer_here (full_at t (event.Item c.args.conn item)) (found_journal t).book phase t conn item) in
    let u : List Entry = given_after (book_in t) after conn own handle (row_found t) (part_of item (link_place t conn own)) in
    let same : goes (attach_put u conn (ours (Taken own handle)) item (Taken own handle)) u ≡ after_answer id t after conn phase item (Taken own handle) =
    ap (λ (ps : List Put). goes ps u) (taken_left u conn (ours (Taken own handle)) item own handle) ∙ sym (taken_is id t after conn phase item own handle) in (
      u,
      subst (λ (p : Option Part). TablesFit c.take_part.new.state (given_after (book_in t) after conn own handle (row_found t) p)) (c.take.ensures.value ∙ heard.part own here)
          (subst (λ (r : Option RowNumber). TablesFit c.take_part.new.state (given_after (book_in t) after conn own handle r c.take.result)) row
          (subst (λ (b : BookView). TablesFit c.take_part.new.state (given_after b after conn own handle c.args.row c.take.result)) book
          (is after (subst (λ (a : Answer). ChosenFor after conn a c.args.consumer) c.in-Taken.is chosen) fit))),
      subst (λ (a : Answer). goes (attach_put u conn (ours a) item a) u ≡ after_answer id t after conn phase item a) (sym c.in-Taken.is) same,
    ))
    c.take_part.ensures

pub returns-in-Settle : goal.returns-in-Settle
returns-in-Settle c = on_ok_weaker c.on_settle.result
    (λ is t after fit heard chosen answer book row.
    let id = c.args.id.now in
    let item = c.args.item.now in
    let conn = c.args.conn.0 in
    let phase = c.args.phase in
    let own = c.in-Settle.own in
    let ours : Answer → List UnsettledDelivery = told_map t (event.Item c.args.conn item) in
    let u : List Entry = goes (settled_put t conn own (disposition_in item)) after in
    let same : goes (attach_put u conn (ours (Settle own)) item (Settle own)) u ≡ after_answer id t after conn phase item (Settle own) =
    ap (λ (ps : List Put). goes ps u) (settled_left u conn (ours (Settle own)) item own) ∙ sym (settled_is id t after conn phase item own) in (
      u,
      is t after fit (subst (λ (l : List ℕ). ids_named t conn own (disposition_in item) l) (sym c.deref.ensures.value) (subst (λ (a : Answer). ids_found t conn item a c.args.heard.now.ids.items) c.in-Settle.is heard.ids)),
      subst (λ (a : Answer). goes (attach_put u conn (ours a) item a) u ≡ after_answer id t after conn phase item a) (sym c.in-Settle.is) same,
    ))
    c.on_settle.ensures

pub returns-in_default : goal.returns-in_default
returns-in_default c = on_ok_weaker c.say.result
    (λ is t after fit heard chosen answer book row.
    let id = c.args.id.now in
    let item = c.args.item.now in
    let conn = c.args.conn.0 in
    let phase = c.args.phase in (
      puts conn (said id phase c.args.answer.now) after,
      is after fit,
      sym (other_is id t after conn phase item c.args.answer.now c.in_default.not-Taken c.in_default.not-Settle),
    ))
    c.say.ensures
