-- What holds of every trace of the router: the order on its connections, that links are on live connections, and what was told.
use Rattle.std.proofs.Common.{◌≡◌, ◌∙◌, sym, ap, refl, subst, ℕ, false, List, [], ◌∷◌}
use Rattle.std.specs.Prelude.{◌==◌}
use Rattle.amqp_conn.specs.declared.conn.Conn.{Conn}
use Rattle.router_trace.specs.Trace.{Beginning, Entry, Took, Booked, Step}
use Rattle.router_trace.specs.Configuration.{beginning}
use Rattle.book_model.specs.declared.act.Act.{Act}
use Rattle.router_trace.specs.declared.event.Event.{Event}
use Rattle.router_trace.specs.Connection.{conn}
use Rattle.router_trace.specs.Refusing.{refuses}
use Rattle.reply_rows.specs.Acts.{booked}
use Rattle.router_core.specs.Replies.{handled}
use Rattle.core_machine.specs.Moves.{Taking, took_one}
use Rattle.router_core.specs.Moves.{Goes, IsTrace}
use Rattle.core_machine.specs.Moves.{Move, handles, takes}
use Rattle.state_connections.proofs.Lists.{by_test}
use Rattle.router_core.proofs.Booking.{booked_keeps, taken_booked}
use Rattle.router_core.proofs.Lively.{Lively, answered_lively, took_lively}
use Rattle.router_core.proofs.Ordered.{Ordered}
use Rattle.router_core.proofs.Told.{Told}
use Rattle.router_core.proofs.Order.{took_inv, took_turns, batch_turns, ordered_start}
use Rattle.router_core.proofs.Replied.{answered_turns, answered_told}

-- takes
pub took_told : (t : List Entry) (d n : ℕ) → Told t → Told (Took d n ∷ t)
took_told t d n told = record {
  told = λ c w is live some. by_test (d == c)
      (λ e. let v = took_inv n (conn t c) w (rw e at is) live
      in sym (ap (λ (p : Conn). p.opened) v.2) ∙ told.told c v.0 v.1 (ap (λ (p : Conn). p.closed) v.2 ∙ live) some)
      (λ e. told.told c w (rw e at is) live some);
  strange = told.strange;
}

-- what holds along moves
pub record Holds (t : List Entry) : Type 0 where
  pub ordered : Ordered t
  pub lively : Lively t
  pub told : Told t

holds_batch : (t : List Entry) (acts : List Act) {full : List ℕ} → Holds t → Holds (Booked acts full ∷ t)
holds_batch t acts was = record {
  ordered = batch_turns t acts was.ordered;
  lively = was.lively;
  told = record { told = was.told.told; strange = was.told.strange };
}

pub holds_booked : (t : List Entry) (e : Event) → Holds t → Holds (booked t e)
holds_booked t e was = booked_keeps Holds t e (λ acts w. holds_batch t acts w) was

pub holds_handled : (id : List ℕ) (t : List Entry) (s : Step) → refuses t s.event ≡ false → Holds t → Holds (handled id t s)
holds_handled id t s goes was =
    let b : List Entry = booked t s.event
    in let now : Holds b = holds_booked t s.event was
    in let taken : refuses b s.event ≡ false = taken_booked t s.event goes
    in record {
      ordered = answered_turns id b s.event now.ordered now.told taken;
      lively = answered_lively id b s.event now.ordered now.lively taken;
      told = answered_told id b s.event now.ordered now.told taken;
    }

pub holds_took : (t : List Entry) (x : Taking) → Holds t → Holds (took_one x t)
holds_took t x was = record {
  ordered = took_turns t x.conn.0 _ was.ordered;
  lively = took_lively t x.conn.0 _ was.lively;
  told = took_told t x.conn.0 _ was.told;
}

goes_holds : (id : List ℕ) (ms : List Move) (t u : List Entry) → Holds t → Goes id ms t u → Holds u
goes_holds id [] t u was goes = subst (λ (w : List Entry). Holds w) (sym goes) was
goes_holds id (handles s ∷ ms) t u was goes = goes_holds id ms (handled id t s) u (holds_handled id t s goes.0 was) goes.1
goes_holds id (takes x ∷ ms) t u was goes = goes_holds id ms (took_one x t) u (holds_took t x was) goes

pub holds_start : (g : Beginning) → Holds (beginning g)
holds_start g = record {
  ordered = ordered_start g;
  lively = λ c o h some. absurd cc;
  told = record { told = λ c v is live some. absurd cc; strange = λ c absent. refl };
}

pub trace_holds : (id : List ℕ) (g : Beginning) (u : List Entry) → IsTrace id g u → Holds u
trace_holds id g u trace = goes_holds id trace.0 (beginning g) u (holds_start g) trace.1
