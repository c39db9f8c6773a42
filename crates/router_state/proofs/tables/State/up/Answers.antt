use Rattle.std.proofs.Common.{rules}
use Rattle.state_messages.proofs.Quiet.{risen_fits}
use Rattle.router_state.proofs.tables.State.up.Goals as goal

pub returns : goal.returns
returns c = λ t ends at rises. record {
  connections = c.in_ok-up.ensures t at.connections rises;
  ready = (search rules);
  clocks = record { moment = at.clocks.moment; terms = at.clocks.terms; written = at.clocks.written };
  peers = c.in_ok-up-2.ensures t at.peers;
  sessions = record {
    rows = record { offered = at.sessions.rows.offered; awaited = at.sessions.rows.awaited; answered = at.sessions.rows.answered; theirs = at.sessions.rows.theirs; windows = at.sessions.rows.windows };
    marks = at.sessions.marks;
  };
  messages = risen_fits c.args.self.now.messages c.args.conn c.args.peer.now t at.messages;
}
