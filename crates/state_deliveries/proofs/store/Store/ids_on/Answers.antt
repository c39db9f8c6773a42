use Rattle.std.proofs.Common.{◌∙◌, ◌||◌, ◌+◌, ℕ, sym, ap, drop, Option}
use Rattle.std.specs.List.{list_any}
use Rattle.state_collections.specs.NumberMap.{at_number}
use Rattle.std.proofs.lemmas.List.{drop_more, drop_all}
use Rattle.amqp_session.specs.Ranges.{has}
use Rattle.router_trace.specs.Deliveries.{Delivery, is_id}
use Rattle.state_deliveries.specs.Hearing.{id_of}
use Rattle.state_deliveries.specs.Indexing.{standing}
use Rattle.state_deliveries.proofs.Detached.{any_of}
use Rattle.state_deliveries.proofs.Picked.{one_more, at_end}
use Rattle.state_deliveries.proofs.store.Store.ids_on.Goals as goal

pub loop-number-preserved : goal.loop-number-preserved
loop-number-preserved c = λ id.
    let pick = λ (n : ℕ). is_id (id_of (at_number c.args.self.now.deliveries n)) id in
    let numbers = c.deref-number-items.result.now in
    let before = has id c.loop-number.ids.items in
    one_more pick _ (drop (c.loop-number.number-index + 1) numbers) before _ _ (c.in_ok-add_id.ensures id) (ap (λ (v : Option Delivery). is_id (id_of v) id) c.get.ensures)
    ∙ sym (ap (λ l. before || list_any pick l) (drop_more numbers c.loop-number.number-index 0 c.loop-number-test.true))
    ∙ c.loop-number.invariant id

pub returns : goal.returns
returns c = λ indexed n id concerned is.
    let numbers = c.deref-number-items.result.now in
    at_end (λ (m : ℕ). is_id (id_of (at_number c.args.self.now.deliveries m)) id) (drop c.loop-number.number-index numbers) (has id c.loop-number.ids.items) _
    (drop_all c.loop-number.number-index numbers c.loop-number-test.false) (c.loop-number.invariant id)
    ∙ any_of c.args.self.now id n numbers
    (ap (has n) c.deref-number-items.ensures.value ∙ c.in_ok-numbers.ensures (λ m. standing (at_number c.args.self.now.deliveries m)) indexed.indexes n concerned) is
