use Rattle.std.proofs.Common.{rules, ◌≡◌, ◌∙◌, ◌+◌, ap, sym, Bool}
use Rattle.std.specs.Prelude.{is_none, if◌then◌else◌}
use Rattle.router_trace.specs.declared.binding.DeliveryName.{DeliveryName}
use Rattle.router_trace.specs.Deliveries.{bindings, counters, last_with, name_in, name_of, rank_in, rank_of}
use Rattle.state_deliveries.proofs.Bound.{store_bound, sending_bound, names_bound}
use Rattle.state_deliveries.proofs.deliveries.Deliveries.bind.Goals as goal

pub returns-clause-fits : goal.returns-clause-fits
returns-clause-fits c = λ t new fit.
    let row = c.args.binding.row in
    let number : c.in-Some.number ≡ c.args.self.now.bindings + 1 = search rules in
    let counter : c.in-Some-checked_add.counter ≡ c.args.self.now.counters + 1 = search rules in
    let next : c.in-Some-checked_add.counter ≡ counters t + 1 = counter ∙ ap (λ k. k + 1) fit.counters in
    let named : c.name_of-name.result ≡ name_in t c.args.binding = c.name_of-name.ensures ∙ ap (name_of row) next in
    let ranked : c.rank-rank.result ≡ rank_in t c.args.binding =
    c.rank-rank.ensures ∙ ap (λ (x : DeliveryName). rank_of x c.args.self.now.last_row) named ∙ ap (rank_of (name_in t c.args.binding)) fit.last_row in
    record {
      bindings = number ∙ ap (λ k. k + 1) fit.bindings ∙ sym (ap (λ (x : Bool). if x then bindings t + 1 else bindings t) new);
      counters = c.counted-self.ensures ∙ ap (λ k. if is_none row then k else c.args.self.now.counters) next ∙ ap (λ k. if is_none row then counters t + 1 else k) fit.counters;
      last_row = c.last_with-self.ensures ∙ ap (last_with c.args.binding) fit.last_row;
      store = store_bound c.args.self.now.store _ c.args.binding t c.in-Some.number c.name_of-name.result c.rank-rank.result new (number ∙ ap (λ k. k + 1) fit.bindings) named ranked
          fit.store c.in_ok-bind.ensures.deliveries c.in_ok-bind.ensures.indexed;
      sending = sending_bound c.args.self.now.sending c.args.binding t fit.sending;
      names = names_bound c.args.self.now.names c.args.binding t fit.names;
      next_ids = record { ids = λ d o. fit.next_ids.ids d o };
    }
