use Rattle.state_messages.proofs.Quiet.{started_fits}
use Rattle.router_state.proofs.tables.State.start.Goals as goal

pub returns : goal.returns
returns c = λ t ends at. record {
  connections = record { rows = at.connections.rows; live = at.connections.live; last = at.connections.last; rise = at.connections.rise; roomy = at.connections.roomy };
  ready = at.ready;
  clocks = record { moment = at.clocks.moment; terms = at.clocks.terms; written = at.clocks.written };
  peers = record { users = at.peers.users; containers = at.peers.containers };
  sessions = record {
    rows = record { offered = at.sessions.rows.offered; awaited = at.sessions.rows.awaited; answered = at.sessions.rows.answered; theirs = at.sessions.rows.theirs; windows = at.sessions.rows.windows };
    marks = at.sessions.marks;
  };
  messages = started_fits c.args.self.now.messages t at.messages;
}
