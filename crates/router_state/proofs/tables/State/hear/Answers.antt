use Rattle.std.proofs.Common.{◌≡◌, ◌∙◌, sym, ap, ℕ}
use Rattle.std.specs.Prelude.{Option}
use Rattle.router_trace.specs.Sessions.{theirs}
use Rattle.state_deliveries.specs.Hearing.{heard_change}
use Rattle.state_links.specs.Fits.{channel_of}
use Rattle.router_state.proofs.Bound.{part_on_session, found_on_session}
use Rattle.router_state.proofs.Channels.{on_session}
use Rattle.router_state.proofs.tables.State.hear.Goals as goal

pub returns-clause-part : goal.returns-clause-part
returns-clause-part c = λ t ends o at is here.
    c.in_ok-part.ensures.part t at.messages
    ∙ part_on_session t c.args.conn.0 c.args.own c.args.item.now o
    (on_session c.args.own (theirs t c.args.conn.0 (channel_of c.args.item.now)) is o ∙ here)

pub returns-clause-fits : goal.returns-clause-fits
returns-clause-fits c = λ t at is made first gives.
    let channel = channel_of c.args.item.now in
    let found = c.none_if_ended-found.result in
    let on = on_session c.args.own (theirs t c.args.conn.0 channel) is in
    let here = found_on_session t c.args.conn.0 channel c.args.own found c.args.ends.now on first
    c.none_if_ended-found.ensures in
    let change : c.args.change ≡ heard_change c.args.conn.0 found c.args.item.now =
    made ∙ ap (λ (o : Option ℕ). heard_change c.args.conn.0 o c.args.item.now) (sym c.none_if_ended-found.ensures) in
    record {
      connections = record {
        rows = at.connections.rows;
        live = at.connections.live;
        last = at.connections.last;
        rise = at.connections.rise;
        roomy = at.connections.roomy;
      };
      ready = at.ready;
      clocks = c.in_ok-hear.ensures t at.clocks;
      peers = c.in_ok-hear-2.ensures t at.peers;
      sessions = c.in_ok-hear-3.ensures t at.sessions;
      messages = c.in_ok-part.ensures.fits t on here (c.answered-answered.ensures t at.sessions) change gives at.messages;
    }
