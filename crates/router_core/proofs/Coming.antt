-- The items received on a connection depend on the events only, not on what is put out.
use Rattle.std.proofs.Common.{◌≡◌, ◌∙◌, ap, refl, ℕ, List, [], ◌∷◌}
use Rattle.std.specs.Prelude.{Option, Some, None}
use Rattle.router_trace.specs.declared.binding.Binding.{Binding}
use Rattle.router_trace.specs.declared.event.Event.{Event}
use Rattle.router_trace.specs.Trace.{Entry, Out, Put, did, goes, each_to, puts, step_of}
use Rattle.router_trace.specs.Connection.{conn, due}
use Rattle.router_trace.specs.declared.condition.Condition.TheVariants.{ResourceLimitExceeded}
use Rattle.router_reply.specs.Replies.{closing_of, ends, heard, bound_by, own_row, replied}
use Rattle.state_messages.specs.Messages.{with_bound}
use Rattle.reply_rows.specs.Acts.{booked}
use Rattle.router_reply.specs.Resuming.{resumed}
use Rattle.router_core.specs.Replies.{answered, handled}
use Rattle.router_core.specs.Moves.{with_came, ins}
use Rattle.router_core.proofs.Booking.{booked_same}
use Rattle.router_core.proofs.Copied.{copied_same}
use Rattle.router_core.proofs.Following.{all_keep}
use Rattle.router_core.proofs.Resuming.{resumed_same}

pub ins_goes : (ps : List Put) (t : List Entry) (c : ℕ) → ins (goes ps t) c ≡ ins t c
ins_goes [] t c = refl
ins_goes (p ∷ ps) t c = ins_goes ps (Out p.conn p.item ∷ t) c

pub ins_ends : (id : List ℕ) (cs : List ℕ) (t : List Entry) (c : ℕ) → ins (ends id cs t) c ≡ ins t c
ins_ends id [] t c = refl
ins_ends id (d ∷ ds) t c =
    ins_ends id ds (puts d (closing_of id (conn t d) ResourceLimitExceeded) t) c ∙ ins_goes (each_to d (closing_of id (conn t d) ResourceLimitExceeded)) t c

ins_bound : (b : Option Binding) (t : List Entry) (c : ℕ) → ins (with_bound b t) c ≡ ins t c
ins_bound None t c = refl
ins_bound (Some b) t c = refl

pub ins_replied : (id : List ℕ) (t : List Entry) (e : Event) (c : ℕ) → ins (replied id t (step_of e)) c ≡ with_came e c (ins t c)
ins_replied id t e c =
    let u : List Entry = heard id t (step_of e)
    in copied_same (λ (v : List Entry). ins v c) (λ b v. refl) t u e (goes (own_row id t u e) (with_bound (bound_by t u e) u))
    ∙ ins_goes (own_row id t u e) (with_bound (bound_by t u e) u) c ∙ ins_bound (bound_by t u e) u c ∙ ins_ends id (due t e) (did e ∷ t) c

pub ins_answered : (id : List ℕ) (t : List Entry) (e : Event) (c : ℕ) → ins (answered id t (step_of e)) c ≡ with_came e c (ins t c)
ins_answered id t e c =
    all_keep (λ (u : List Entry). ins u c ≡ with_came e c (ins t c)) (λ ps u h. ins_goes ps u c ∙ h) (resumed t e (replied id t (step_of e)))
    (resumed_same (λ (u : List Entry). ins u c) (λ b u. refl) t e (replied id t (step_of e)) ∙ ins_replied id t e c)

pub ins_handled : (id : List ℕ) (t : List Entry) (e : Event) (c : ℕ) → ins (handled id t (step_of e)) c ≡ with_came e c (ins t c)
ins_handled id t e c = ins_answered id (booked t e) e c ∙ ap (with_came e c) (booked_same (λ (u : List Entry). ins u c) t e (λ acts. refl))
