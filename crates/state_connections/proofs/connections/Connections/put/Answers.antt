use Rattle.std.proofs.Common.{ap, ◌∙◌, rules}
use Rattle.state_collections.specs.NumberMap.{at_number}
use Rattle.state_connections.proofs.Turns.{put_fits}
use Rattle.state_connections.proofs.connections.Connections.put.Goals as goal

pub returns : goal.returns
returns c = λ t fit. put_fits c.args.self.now c.note.new.self t c.args.conn c.args.item c.in_ok-fill.fill.over c.in_ok-fill.fill.full (record {
  rows = λ k. ap (λ m. at_number m k) c.note.ensures.rows ∙ c.in_ok-fill.ensures.rows k;
  live = c.note.ensures.live;
  last = c.note.ensures.last;
  roomy = search rules;
  is_over = c.in_ok-fill.ensures.over;
  is_full_now = c.in_ok-fill.ensures.full;
}) fit
