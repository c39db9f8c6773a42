-- What follows an event's rows may be written in its order.
use Rattle.std.proofs.Common.{◌≡◌, sym, subst, true, ℕ, List, [], ◌∷◌}
use Rattle.amqp_model.specs.declared.perf.Perf.{Perf}
use Rattle.amqp_model.specs.declared.perf.Perf.TheVariants as perf
use Rattle.amqp_model.specs.declared.item.Item.{Item}
use Rattle.router_trace.specs.Trace.{Entry, Put}
use Rattle.router_trace.specs.Order.{Written, of_session, perf_has_turn, has_turn}
use Rattle.router_trace.specs.Following.{tells, sends_due, drains_due}
use Rattle.state_messages.specs.Messages.{grants_due}
use Rattle.router_after.specs.After.{followed}
use Rattle.router_core.proofs.Attached.{session_known}
use Rattle.router_core.proofs.Due.{goes_on_link, OnLink, AllOnLinks, tells_on, sends_on, drains_on, grants_on}
use Rattle.router_core.proofs.Flowing.{perf_is_quiet, IsQuiet, Fits, AllFit, goes_turns, widened_turns}
use Rattle.router_core.proofs.Following.{Steps, passed_on, passed_keeps}
use Rattle.router_core.proofs.Ordered.{Ordered, wrote}

kind_turn : (body : Perf) (own : ℕ) (w : Written) → goes_on_link body ≡ true → of_session w own ≡ true → perf_has_turn w own body ≡ true
kind_turn (perf.Flow f) own w kind begun = begun
kind_turn (perf.Transfer x) own w kind begun = begun
kind_turn (perf.Disposition x) own w kind begun = begun
kind_turn _ own w kind begun = absurd cc

kind_quiet : (body : Perf) → goes_on_link body ≡ true → perf_is_quiet body
kind_quiet (perf.Flow f) kind = tt
kind_quiet (perf.Transfer x) kind = tt
kind_quiet (perf.Disposition x) kind = tt
kind_quiet _ kind = absurd cc

on_fits : (t : List Entry) (p : Put) → Ordered t → OnLink t p → Fits t p
on_fits t p ord on_link =
    let begun : of_session (wrote t p.conn) on_link.own ≡ true = ord.linked p.conn on_link.own on_link.handle on_link.linked
    in record {
      known = session_known t p.conn on_link.own ord begun;
      turn = subst (λ (i : Item). has_turn (wrote t p.conn) i ≡ true) (sym on_link.frame) (kind_turn on_link.body on_link.own (wrote t p.conn) on_link.kind begun);
      quiet = subst (λ (i : Item). IsQuiet i) (sym on_link.frame) (kind_quiet on_link.body on_link.kind);
    }

all_fit : (t : List Entry) (ps : List Put) → Ordered t → AllOnLinks t ps → AllFit t ps
all_fit t [] ord all = tt
all_fit t (p ∷ ps) ord all = (on_fits t p ord all.0, all_fit t ps ord all.1)

pub passed_steps : Steps Ordered
passed_steps = record {
  telling = λ t ord. goes_turns (tells t) t ord (all_fit t (tells t) ord (tells_on t));
  sending = λ t ord. goes_turns (sends_due t) t ord (all_fit t (sends_due t) ord (sends_on t));
  draining = λ t ord. goes_turns (drains_due t) t ord (all_fit t (drains_due t) ord (drains_on t));
  granting = λ t ord. goes_turns (grants_due t) t ord (all_fit t (grants_due t) ord (grants_on t));
}

pub passed_turns : (t : List Entry) → Ordered t → Ordered (passed_on t)
passed_turns t ord = passed_keeps Ordered passed_steps t ord

pub followed_turns : (t : List Entry) → Ordered t → Ordered (followed t)
followed_turns t ord = widened_turns (passed_on t) (passed_turns t ord)
