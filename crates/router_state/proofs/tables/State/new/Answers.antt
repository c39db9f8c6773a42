use Rattle.router_state.proofs.tables.State.new.Goals as goal

pub returns : goal.returns
returns c g below finds row = record {
  connections = c.new.ensures g below;
  ready = c.new-2.ensures;
  clocks = c.new-3.ensures g below;
  peers = c.new-4.ensures g below;
  sessions = c.new-5.ensures g below;
  messages = c.new-6.ensures g below finds row;
}
