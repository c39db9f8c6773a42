use Rattle.std.proofs.Common.{◌∷◌, refl, sym, subst, true, None}
use Rattle.std.specs.Prelude.{◌==◌}
use Rattle.std.specs.Option.{option_and_then}
use Rattle.state_collections.specs.NumberMap.{at_number}
use Rattle.amqp_model.specs.declared.perf.Perf.{Perf}
use Rattle.amqp_model.specs.declared.perf.Perf.TheVariants as perf
use Rattle.amqp_model.specs.declared.item.Item.TheVariants as item
use Rattle.router_trace.specs.Trace.{Entry, Out}
use Rattle.router_trace.specs.Deliveries.{is_id, delivery, number_named, number_tagged, tag_in, named, named_in}
use Rattle.state_collections.specs.Ids.{at_id}
use Rattle.state_deliveries.specs.Fits.{StoreFit}
use Rattle.state_deliveries.specs.Naming.{NamesFit, kept_name}
use Rattle.state_deliveries.specs.Calling.{at_name, Knows}
use Rattle.state_deliveries.proofs.Low.{low_named}
use Rattle.state_deliveries.proofs.Known.{known_tagged}
use Rattle.state_deliveries.proofs.Asked.{numbers_of}
use Rattle.state_deliveries.proofs.Named.{still, same_row, set_row, small_end, remembers_kept, unnamed, quiet_row}
use Rattle.state_deliveries.proofs.names.Names.put_perf.Goals as goal

pub returns-in_ok-begin-in-Transfer : goal.returns-in_ok-begin-in-Transfer
returns-in_ok-begin-in-Transfer c = λ t sasl payload at fit.
    let x = c.in-Transfer.transfer in
    let conn = c.args.conn in
    let own = c.args.own in
    let entry : Perf → Entry = λ p. Out conn (item.Frame sasl own p payload) in
    let begins = entry (perf.Transfer x) in
    subst (λ (p : Perf). StoreFit c.args.store.now (entry p ∷ t) → NamesFit c.begin.new.self (entry p ∷ t)) (sym c.in-Transfer.is)
    (λ there. record {
      names = λ d o id. set_row (begins ∷ t) (conn == d) (own == o) (is_id x.delivery_id id) _ (kept_name c.begun-number.result (at_number c.args.store.now.deliveries))
          (at_id c.args.self.now.ids d o id) (option_and_then (number_tagged (number_named t)) (tag_in x)) (named t d o id)
          (c.in_ok-begin-in-Transfer.ensures.named d o id)
          (remembers_kept (begins ∷ t) c.begun-number.result (option_and_then (number_tagged (number_named t)) (tag_in x)) (at_number c.args.store.now.deliveries) there.deliveries
          (subst (λ v. Knows (delivery (begins ∷ t)) v (option_and_then (number_tagged (number_named t)) (tag_in x))) (sym c.begun-number.ensures)
          (known_tagged (delivery (begins ∷ t)) (at_name c.args.store.now.by_name) (number_named t) (numbers_of c.args.store.now (begins ∷ t) there) (tag_in x))))
          (still begins t (at_id c.args.self.now.ids d o id) (named t d o id) (low_named t d o id) (fit.names d o id));
      small = c.in_ok-begin-in-Transfer.ensures.small fit.small;
    }) at

pub returns-in-End : goal.returns-in-End
returns-in-End c = λ t sasl payload at fit.
    let conn = c.args.conn in
    let own = c.args.own in
    let ends = Out conn (item.Frame sasl own (perf.End c.in-End.field-0) payload) in
    subst (λ (p : Perf). NamesFit (record { alloc = c.args.self.now.alloc; ids = c.end.new.self }) (Out conn (item.Frame sasl own p payload) ∷ t)) (sym c.in-End.is)
    (record {
      names = λ d o id. set_row (ends ∷ t) (conn == d) (own == o) true _ None (at_id c.args.self.now.ids d o id) None (named t d o id)
          (c.end.ensures d o id) tt (still ends t (at_id c.args.self.now.ids d o id) (named t d o id) (low_named t d o id) (fit.names d o id));
      small = λ d o id. small_end (conn == d) (own == o) id _ (at_id c.args.self.now.ids d o id) (c.end.ensures d o id) (fit.small d o id);
    })

pub returns-in_default : goal.returns-in_default
returns-in_default c = λ t sasl payload at fit.
    let body = c.args.perf.now in
    let puts = Out c.args.conn (item.Frame sasl c.args.own body payload) in
    record {
      names = λ d o id. same_row (puts ∷ t) _ (at_id c.args.self.now.ids d o id) (named t d o id) _ refl
          (quiet_row (c.args.conn == d) (named_in (number_named t) body c.args.own o id (named t d o id)) (named t d o id) (unnamed (number_named t) body c.args.own o id (named t d o id) c.in_default.not-Transfer c.in_default.not-End c.in_default.not-Close))
          (still puts t (at_id c.args.self.now.ids d o id) (named t d o id) (low_named t d o id) (fit.names d o id));
      small = fit.small;
    }

pub returns-in-Close : goal.returns-in-Close
returns-in-Close c = λ t sasl payload at fit.
    let conn = c.args.conn in
    let old = at_id c.args.self.now.ids in
    let closes = Out conn (item.Frame sasl c.args.own (perf.Close c.in-Close.field-0) payload) in
    subst (λ (p : Perf). NamesFit (record { alloc = c.args.self.now.alloc; ids = c.forget.new.self }) (Out conn (item.Frame sasl c.args.own p payload) ∷ t)) (sym c.in-Close.is)
    (record {
      names = λ d o id. set_row (closes ∷ t) (conn == d) true true _ None (old d o id) None (named t d o id)
          (c.forget.ensures d o id) tt (still closes t (old d o id) (named t d o id) (low_named t d o id) (fit.names d o id));
      small = λ d o id. small_end (conn == d) true id _ (old d o id) (c.forget.ensures d o id) (fit.small d o id);
    })
