-- The router's disposition leaves the table of sessions as it is.
use Rattle.std.proofs.Common.{◌≡◌, ◌∙◌, ◌∷◌, ℕ, Bool, true, false, refl, ap, List}
use Rattle.std.specs.Prelude.{◌==◌, if◌then◌else◌}
use Rattle.amqp_model.specs.declared.perf.Disposition.{Disposition}
use Rattle.amqp_model.specs.declared.perf.Perf.TheVariants as perf
use Rattle.amqp_model.specs.declared.item.Item.TheVariants as item
use Rattle.router_trace.specs.Trace.{Trace, Out}
use Rattle.router_trace.specs.Sessions.{offered, awaited, answered_channel, theirs, session}
use Rattle.state_sessions.specs.declared.sessions.Sessions.{Sessions}
use Rattle.state_sessions.specs.Fits.{SessionsFit, window_by}

either_way : {A : Type 0} (b : Bool) (v : A) → v ≡ (if b then v else v)
either_way true v = refl
either_way false v = refl

pub disposed : (s : Sessions) (d own : ℕ) (sasl : Bool) (x : Disposition) (payload : List ℕ) (t : Trace) → SessionsFit s t
    → SessionsFit s (Out d (item.Frame sasl own (perf.Disposition x) payload) ∷ t)
disposed s d own sasl x payload t fit = record {
  rows = record {
    offered = λ c. fit.rows.offered c ∙ either_way (d == c) (offered t c);
    awaited = λ c o. fit.rows.awaited c o ∙ either_way (d == c) (awaited t c o);
    answered = λ c o. fit.rows.answered c o ∙ either_way (d == c) (answered_channel t c o);
    theirs = λ c p. fit.rows.theirs c p ∙ either_way (d == c) (theirs t c p);
    windows = λ c o. fit.rows.windows c o ∙ ap window_by (either_way (d == c) (session t c o));
  };
  marks = fit.marks;
}
