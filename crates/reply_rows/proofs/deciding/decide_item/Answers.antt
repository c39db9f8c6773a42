use Rattle.std.proofs.Common.{◌≡◌, ◌∙◌, ap, refl, subst, sym, ℕ, List}
use Rattle.std.specs.Prelude.{Option}
use Rattle.amqp_conn.specs.declared.conn.Conn.{Conn}
use Rattle.journal_store.specs.Store.{book_of}
use Rattle.router_state.specs.Tables.{TablesAt, at_finds}
use Rattle.router_trace.specs.declared.event.Event.TheVariants as event
use Rattle.reply_rows.specs.Booking.{TakesFound}
use Rattle.reply_rows.specs.Acts.{live_answer}
use Rattle.reply_rows.specs.Planning.{IsChange}
use Rattle.reply_rows.proofs.Planned.{item_planned, live_takes}
use Rattle.reply_rows.proofs.deciding.decide_item.Goals as goal

pub returns-clause-plan : goal.returns-clause-plan
returns-clause-plan g c = λ t at phase.
    let conn = c.args.conn in
    let item = c.args.item.now in
    let given = c.book-book.result.now in
    let finds = c.find-found.ensures t (at_finds at) in
    let answer = c.in_ok-answer.ensures t (at_finds at) finds in
    let takes = live_takes c.args.full given t conn.0 item c.args.plan.now.phase c.find-found.result finds in
    let there : TablesAt c.args.state.now t (event.Item conn item) c.deref.result.now =
    subst (λ (cs : List ℕ). TablesAt c.args.state.now t (event.Item conn item) cs) (sym c.deref.ensures.value) at in
    let change : IsChange c.args.plan.now.ends.items (event.Item conn item) c.find-found.result.own c.in_ok-does.does.change =
    subst (λ (cs : List ℕ). IsChange cs (event.Item conn item) c.find-found.result.own c.in_ok-does.does.change) c.deref.ensures.value c.in_ok-does.ensures.change in
    item_planned c.args.full c.args.plan.now.ends.items (book_of c.args.store.now) given t conn item _ _ _ _ c.book-book.ensures refl phase
    (answer ∙ ap (λ (s : Option Conn). live_answer c.args.full given t conn.0 item s) phase)
    c.in_ok-plan.ensures.acts (c.in_ok-does.ensures.decided t there finds.own)
    (c.in_ok-does.ensures.forgotten t there finds.own (subst (TakesFound t conn.0 item c.find-found.result.link) (sym answer) takes))
    (c.in_ok-does.ensures.terminus t there) (c.in_ok-does.ensures.resumed t there) finds.own change refl
