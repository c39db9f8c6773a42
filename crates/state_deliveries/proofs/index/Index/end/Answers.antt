use Rattle.state_deliveries.proofs.index.Index.end.Goals as goal

pub returns : goal.returns
returns c = λ known fit. record {
  consumers = fit.consumers;
  unsent = fit.unsent;
  held = fit.held;
  to_tell = fit.to_tell;
  on = c.in_ok-end.ensures (λ n. (known n).consumer.on) fit.on;
  from = c.in_ok-end-2.ensures (λ n. (known n).producer.from) fit.from;
  by_id = c.in_ok-end-3.ensures (λ n. (known n).producer.by_id) fit.by_id;
  durable = fit.durable;
}
