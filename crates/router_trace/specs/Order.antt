-- The order in which items are written on a connection (AMQP 1.0 part 2, sections 2.2, 2.4 and 2.5).
use Rattle.std.specs.Prelude.{ℕ, Bool, true, false, not, ◌==◌, if◌then◌else◌, List, [], ◌∷◌}
use Rattle.amqp_model.specs.declared.perf.Perf.{Perf}
use Rattle.amqp_model.specs.declared.perf.Perf.TheVariants as perf
use Rattle.amqp_model.specs.declared.item.Item.{Item}
use Rattle.amqp_model.specs.declared.item.Item.TheVariants as item
use Rattle.amqp_conn.specs.declared.conn.Conn.{Conn}
use Rattle.router_trace.specs.Connection.{phase_after}

-- what was written on a connection: its phase, and the channels with a session that is begun and not ended
pub record Written : Type 0 where
  pub phase : Conn
  pub begun : ℕ → Bool

-- nothing is written yet
abbrev pub unwritten : Written
unwritten = record { phase = record { header = false; opened = false; closed = false }; begun = λ o. false }

-- what was written, with one more item after it
abbrev pub begun_after_perf : Perf → ℕ → (ℕ → Bool) → ℕ → Bool
begun_after_perf (perf.Begin b) own begun o = if own == o then true else begun o
begun_after_perf (perf.End x) own begun o = if own == o then false else begun o
begun_after_perf _ own begun o = begun o

abbrev pub begun_after : Item → (ℕ → Bool) → ℕ → Bool
begun_after (item.Frame sasl own body payload) begun o = begun_after_perf body own begun o
begun_after _ begun o = begun o

abbrev pub written_after : Item → Written → Written
written_after i w = record { phase = phase_after i w.phase; begun = begun_after i w.begun }

-- the connection is open: its open is written, its close is not
abbrev pub is_open : Conn → Bool
is_open p = if p.opened then not p.closed else false

-- An item may be written next: a header and an open once, a close only after an open, and nothing after a
-- close; a heartbeat, and all frames of sessions, between open and close; a begin on a channel without a session, and every other
-- frame of a session on a channel that has one (2.2, 2.4.1, 2.4.3, 2.4.5, 2.5.1 and 2.5.4).
abbrev pub of_session : Written → ℕ → Bool
of_session w own = if is_open w.phase then w.begun own else false

abbrev pub perf_has_turn : Written → ℕ → Perf → Bool
perf_has_turn w own (perf.Open o) = if w.phase.opened then false else not w.phase.closed
perf_has_turn w own (perf.Close x) = is_open w.phase
perf_has_turn w own (perf.Begin b) = if is_open w.phase then not (w.begun own) else false
perf_has_turn w own (perf.Attach x) = of_session w own
perf_has_turn w own (perf.Flow f) = of_session w own
perf_has_turn w own (perf.Transfer x) = of_session w own
perf_has_turn w own (perf.Disposition x) = of_session w own
perf_has_turn w own (perf.Detach x) = of_session w own
perf_has_turn w own (perf.End x) = of_session w own
perf_has_turn w own _ = false

abbrev pub has_turn : Written → Item → Bool
has_turn w (item.Header id major minor revision) = if w.phase.header then false else not w.phase.closed
has_turn w (item.Frame sasl own body payload) = perf_has_turn w own body
has_turn w (item.Beat channel) = is_open w.phase
has_turn w (item.Bad f) = false

-- all of these items may be written, one after another
abbrev pub have_turns : Written → List Item → Bool
have_turns w [] = true
have_turns w (i ∷ is) = if has_turn w i then have_turns (written_after i w) is else false
