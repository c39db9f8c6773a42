use Rattle.state_messages.proofs.Quiet.{ticked_fits}
use Rattle.router_state.proofs.tables.State.tick.Goals as goal

pub returns : goal.returns
returns c = λ t ends at. record {
  connections = record { rows = at.connections.rows; live = at.connections.live; last = at.connections.last; rise = at.connections.rise; roomy = at.connections.roomy };
  ready = at.ready;
  clocks = c.tick.ensures t at.clocks;
  peers = record { users = at.peers.users; containers = at.peers.containers };
  sessions = record {
    rows = record { offered = at.sessions.rows.offered; awaited = at.sessions.rows.awaited; answered = at.sessions.rows.answered; theirs = at.sessions.rows.theirs; windows = at.sessions.rows.windows };
    marks = at.sessions.marks;
  };
  messages = ticked_fits c.args.self.now.messages c.args.moment t at.messages;
}
