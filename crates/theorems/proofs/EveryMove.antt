-- What every entry keeps, each event with its moves keeps.
use Rattle.std.proofs.Common.{sym, subst, ℕ, List, [], ◌∷◌}
use Rattle.std.specs.Prelude.{Option, Some, None}
use Rattle.amqp_model.specs.declared.item.Item.{Item}
use Rattle.router_trace.specs.declared.binding.Binding.{Binding}
use Rattle.router_trace.specs.declared.condition.Condition.TheVariants.{ResourceLimitExceeded}
use Rattle.router_trace.specs.declared.event.Event.{Event}
use Rattle.router_trace.specs.Connection.{conn, due}
use Rattle.router_trace.specs.Trace.{Trace, Did, Out, Took, Bound, Put, Step, goes, puts, each_to}
use Rattle.state_messages.specs.Messages.{with_bound}
use Rattle.reply_rows.specs.Acts.{booked}
use Rattle.router_reply.specs.Replies.{closing_of, ends, heard, bound_by, own_row, replied}
use Rattle.router_reply.specs.Resuming.{resumed}
use Rattle.router_core.specs.Replies.{handled}
use Rattle.core_machine.specs.Moves.{Move, handles, takes, took_one}
use Rattle.router_core.proofs.Copied.{copied_keeps}
use Rattle.router_core.proofs.Following.{all_keep}
use Rattle.router_core.proofs.Resuming.{resumed_keeps}
use Rattle.theorems.specs.Lives.{GoesInTurn}

module _ (P : Trace → Type 0) (comes : (s : Step) (t : Trace) → P t → P (Did s ∷ t)) (out : (c : ℕ) (i : Item) (t : Trace) → P t → P (Out c i ∷ t))
    (took : (c n : ℕ) (t : Trace) → P t → P (Took c n ∷ t)) (bound : (b : Binding) (t : Trace) → P t → P (Bound b ∷ t)) (acts : (t : Trace) (e : Event) → P t → P (booked t e)) where
  put_all : (ps : List Put) (t : Trace) → P t → P (goes ps t)
  put_all [] t was = was
  put_all (p ∷ ps) t was = put_all ps (Out p.conn p.item ∷ t) (out p.conn p.item t was)

  end_all : (id : List ℕ) (cs : List ℕ) (t : Trace) → P t → P (ends id cs t)
  end_all id [] t was = was
  end_all id (c ∷ cs) t was =
      let items : List Item = closing_of id (conn t c) ResourceLimitExceeded in
      end_all id cs (puts c items t) (put_all (each_to c items) t was)

  bind : (b : Option Binding) (t : Trace) → P t → P (with_bound b t)
  bind None t was = was
  bind (Some b) t was = bound b t was

  reply : (id : List ℕ) (t : Trace) (s : Step) → P t → P (replied id t s)
  reply id t s was =
      let u : Trace = heard id t s in
      copied_keeps P bound t u s.event (goes (own_row id t u s.event) (with_bound (bound_by t u s.event) u))
      (put_all (own_row id t u s.event) (with_bound (bound_by t u s.event) u) (bind (bound_by t u s.event) u (end_all id (due t s.event) (Did s ∷ t) (comes s t was))))

  pub handled_keep : (id : List ℕ) (t : Trace) (s : Step) → P t → P (handled id t s)
  handled_keep id t s was =
      let at : Trace = booked t s.event in
      all_keep P put_all (resumed at s.event (replied id at s)) (resumed_keeps P bound at s.event (replied id at s) (reply id at s (acts t s.event was)))

  pub moves_keep_all : (id : List ℕ) (ms : List Move) (t u : Trace) → P t → GoesInTurn id ms t u → P u
  moves_keep_all id [] t u was went = subst P (sym went) was
  moves_keep_all id (handles s ∷ ms) t u was went = moves_keep_all id ms (handled id t s) u (handled_keep id t s was) went.1
  moves_keep_all id (takes x ∷ ms) t u was went = moves_keep_all id ms (took_one x t) u (took _ _ t was) went
