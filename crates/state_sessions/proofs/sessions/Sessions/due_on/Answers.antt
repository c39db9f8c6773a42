use Rattle.std.proofs.Common.{◌≡◌, ◌∙◌, ◌++◌, ◌<◌, ◌≤◌, ℕ, false, sym, ap, arith}
use Rattle.std.specs.Prelude.{Option}
use Rattle.std.proofs.lemmas.List.{append-nil}
use Rattle.amqp_session.specs.declared.window.Window.{Window}
use Rattle.router_trace.specs.Trace.{puts_of}
use Rattle.router_trace.specs.Sessions.{session}
use Rattle.state_sessions.specs.Windows.{is_narrow_window}
use Rattle.state_sessions.specs.Fits.{window_by}
use Rattle.state_sessions.proofs.Quiet.{quiet}
use Rattle.state_sessions.proofs.sessions.Sessions.due_on.Goals as goal

pub returns-else-contains : goal.returns-else-contains
returns-else-contains c = λ t fit.
    let wide : (o : ℕ) → o < 15 → is_narrow_window (window_by (session t c.args.conn o)) ≡ false
    = λ o below. ap (λ (v : Option Window). is_narrow_window v) (sym (fit.rows.windows c.args.conn o)) ∙ fit.marks c.args.conn o (sym c.contains.ensures ∙ c.if-contains.false) below in
    let within : 15 ≤ 15 = omega arith in
    sym (ap (λ xs. (puts_of c.args.flows.now.items) ++ xs) (quiet c.args.conn (session t c.args.conn) wide 15 within) ∙ append-nil (puts_of c.args.flows.now.items))
