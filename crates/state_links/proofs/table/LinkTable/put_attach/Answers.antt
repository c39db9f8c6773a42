use Rattle.std.proofs.Common.{◌≡◌, ◌∙◌, ◌+◌, refl, sym, ap, Some, None}
use Rattle.std.specs.Prelude.{◌==◌, if◌then◌else◌, Option, option_map, is_some}
use Rattle.std.specs.Ordering.{nat_cmp, is_eq}
use Rattle.std.specs.BTreeMap.{get}
use Rattle.std.specs.BTreeSet.{contains}
use Rattle.state_collections.specs.NumberSet.{has}
use Rattle.std.proofs.lemmas.Bool.{eqb-true}
use Rattle.amqp_model.specs.declared.item.Item.TheVariants as item
use Rattle.amqp_model.specs.declared.perf.Perf.TheVariants as perf
use Rattle.book_model.specs.Keys.{key_cmp}
use Rattle.router_trace.specs.declared.handle.Asked.{Asked}
use Rattle.router_trace.specs.Links.{link, attachments, asked, key_at, address_by, attached}
use Rattle.state_links.specs.Ends.{begun}
use Rattle.state_links.specs.Fits.{attachment}
use Rattle.state_links.specs.Naming.{on_handle}
use Rattle.state_collections.specs.Places.{at}
use Rattle.state_links.proofs.Attached.{names_put, names_taken, attach_goes}
use Rattle.state_links.proofs.Rows.{attached_row, over, none_at, begun_there, counted, uncounted, set_owes, same_key_of}
use Rattle.state_links.proofs.Touches.{left_touches, joined_touches}
use Rattle.state_collections.specs.NumberMap.{at_number}
use Rattle.state_links.proofs.table.LinkTable.put_attach.Goals as goal

pub returns-in_default-clause-fits : goal.returns-in_default-clause-fits
returns-in_default-clause-fits c = λ t sasl payload key last fit.
    let a = c.args.attach.now in
    let conn = c.args.conn in
    let own = c.args.own in
    let none : None ≡ address_by a.role a = ap (option_map (λ x. x.now)) (sym c.in_default.is) ∙ c.address_by.ensures in
    record {
      links = λ d o h. attached_row (conn == d) (own == o) (a.handle == h) None _ (at c.args.self.now.links d o h)
          (attached (attachments t + 1) (key_at t d a) a (asked t d) (address_by a.role a)) (link t d o h)
          (c.leave.ensures.links d o h) (fit.links d o h) (λ e. none_at (attachments t + 1) (key_at t d a) a (asked t d) (address_by a.role a) none);
      count = fit.count ∙ uncounted (address_by a.role a) (attachments t) (attachments t + 1) (ap is_some (sym none));
      names = names_put conn (item.Frame sasl own (perf.Attach a) payload) t (on_handle conn own a.handle) _ _ (ap is_some (sym none))
          (attach_goes conn own sasl a payload t) c.leave.ensures.names fit.names;
      owing = λ d o h e. set_owes (conn == d) (own == o) (a.handle == h) None _ (at c.args.self.now.links d o h) (c.leave.ensures.links d o h) refl (fit.owing d o h e);
    }

pub returns-clause-fits : goal.returns-clause-fits
returns-clause-fits c = λ t sasl payload key last fit.
    let a = c.args.attach.now in
    let conn = c.args.conn in
    let own = c.args.own in
    let count = c.args.self.now.count in
    let there : Some c.in-Some.address.now ≡ address_by a.role a = ap (option_map (λ x. x.now)) (sym c.in-Some.is) ∙ c.address_by.ensures in
    let known : c.in-Some-key.key ≡ key_at t conn a = same_key_of _ _ (sym c.in-Some-key.is ∙ key) in
    let asks : Option Asked = option_map (λ x. x.now) c.args.last in
    let n = Some (begun (count + 1) c.in-Some-key.key a asks c.in-Some.address.now) in
    record {
      links = λ d o h. attached_row (conn == d) (own == o) (a.handle == h) n _ (at c.args.self.now.links d o h)
          (attached (attachments t + 1) (key_at t d a) a (asked t d) (address_by a.role a)) (link t d o h)
          (over (conn == d) (own == o) (a.handle == h) n _ _ (at c.args.self.now.links d o h) (c.in_ok-join.ensures.links d o h) (c.leave.ensures.links d o h))
          (fit.links d o h)
          (λ e. begun_there count (attachments t) c.in-Some-key.key (key_at t d a) a asks (asked t d) c.in-Some.address.now (address_by a.role a)
          fit.count (known ∙ ap (λ k. key_at t k a) (eqb-true conn d e)) (last ∙ ap (asked t) (eqb-true conn d e)) there);
      count = c.in_ok-join.ensures.count ∙ ap (λ m. m + 1) fit.count ∙ counted (address_by a.role a) (attachments t) (attachments t + 1) (ap is_some (sym there));
      names = names_taken conn own sasl a payload t (on_handle conn own a.handle) c.args.self.now.names c.leave.new.names _ (attachment (count + 1) conn own a.handle)
          (ap (λ m. attachment (m + 1) conn own a.handle) fit.count) (ap is_some (sym there))
          (attach_goes conn own sasl a payload t) c.leave.ensures.names
          (λ k. c.in_ok-join.ensures.keys k ∙ ap (λ q. if is_eq (key_cmp q k) then Some (attachment (count + 1) conn own a.handle) else get key_cmp c.leave.new.names.keys.entries k) known)
          c.in_ok-join.ensures.numbers fit.names;
      owing = λ d o h e. set_owes (conn == d) (own == o) (a.handle == h) n _ (at c.args.self.now.links d o h)
          (over (conn == d) (own == o) (a.handle == h) n _ _ (at c.args.self.now.links d o h) (c.in_ok-join.ensures.links d o h) (c.leave.ensures.links d o h))
          refl (fit.owing d o h (ap (λ s. contains nat_cmp s d) (sym c.join.ensures.owing) ∙ e));
    }

pub returns-in_default-clause-touches : goal.returns-in_default-clause-touches
returns-in_default-clause-touches c = left_touches c.args.conn c.args.own c.args.attach.now.handle _ _ c.in_ok-touch_at.ensures c.leave.ensures.links c.leave.ensures.others

pub returns-clause-touches : goal.returns-clause-touches
returns-clause-touches c =
    let a = c.args.attach.now in
    let count = c.args.self.now.count in
    let n = begun (count + 1) c.in-Some-key.key a (option_map (λ x. x.now) c.args.last) c.in-Some.address.now in
    joined_touches c.args.conn c.args.own a.handle n (attachment (count + 1) c.args.conn c.args.own a.handle) _ _
    (has c.touch_at.new.touched) (at_number c.leave.new.names.numbers.entries)
    c.in_ok-touch_at.ensures c.in_ok-join.ensures.touched
    (λ d o h. over (c.args.conn == d) (c.args.own == o) (a.handle == h) (Some n) _ _ (at c.args.self.now.links d o h) (c.in_ok-join.ensures.links d o h) (c.leave.ensures.links d o h))
    c.leave.ensures.others c.in_ok-join.ensures.numbers
