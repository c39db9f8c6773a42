use Rattle.std.proofs.Common.{◌≡◌, ◌∙◌, ◌<◌, ℕ, false, sym, ap}
use Rattle.std.specs.Prelude.{Option}
use Rattle.amqp_session.specs.declared.window.Window.{Window}
use Rattle.router_trace.specs.Connection.{live}
use Rattle.router_trace.specs.Sessions.{session}
use Rattle.state_sessions.specs.Windows.{is_narrow_window}
use Rattle.state_sessions.specs.Fits.{window_by}
use Rattle.state_sessions.proofs.Quiet.{all_quiet}
use Rattle.router_state.proofs.tables.State.is_calm.Goals as goal

pub returns : goal.returns
returns c = λ calm t fit.
    let wide : (k o : ℕ) → o < 15 → is_narrow_window (window_by (session t k o)) ≡ false
    = λ k o below. ap (λ (v : Option Window). is_narrow_window v) (sym (fit.sessions.rows.windows k o)) ∙ fit.sessions.marks k o (c.is_calm.ensures calm k) below in
    all_quiet t wide (live t)
