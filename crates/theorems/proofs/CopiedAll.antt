-- In every trace of the router the copies of a message are bound all together.
use Rattle.std.proofs.Common.{◌≡◌, sym, refl, subst, ℕ, List, [], ◌∷◌}
use Rattle.std.specs.Prelude.{Option, Some, None}
use Rattle.amqp_model.specs.declared.item.Item.{Item}
use Rattle.router_trace.specs.declared.binding.Binding.{Binding}
use Rattle.router_trace.specs.declared.binding.BindingKind.{BindingKind}
use Rattle.router_trace.specs.declared.condition.Condition.TheVariants.{ResourceLimitExceeded}
use Rattle.router_trace.specs.declared.event.Event.{Event}
use Rattle.router_trace.specs.Trace.{Beginning, Trace, Did, Out, Took, Booked, Began, Put, Step, did, goes, puts, each_to, step_of}
use Rattle.router_trace.specs.Configuration.{beginning, opened}
use Rattle.router_trace.specs.Connection.{conn, due}
use Rattle.state_messages.specs.Messages.{with_bound}
use Rattle.reply_rows.specs.Acts.{acts_of, booked}
use Rattle.router_reply.specs.Replies.{bound_by, closing_of, ends, heard, own_row, replied}
use Rattle.router_reply.specs.Resuming.{resumed}
use Rattle.router_core.specs.Replies.{handled}
use Rattle.router_core.specs.Moves.{Goes, IsTrace}
use Rattle.core_machine.specs.Moves.{Move, handles, takes, took_one}
use Rattle.router_core.proofs.Following.{all_keep}
use Rattle.theorems.specs.Came.{just_handled, BindsAs, CopiesAreForAll, alone, entry, start}
use Rattle.theorems.proofs.AllSound.{acted_sound, ends_handled, event_binds, handled_sound}
use Rattle.theorems.proofs.Copying.{all_made}
use Rattle.theorems.proofs.Resumed.{replied_book, replied_found, resumed_takes}
use Rattle.theorems.proofs.Rows.{Rows, handled_rows, start_rows, took_rows}
use Rattle.theorems.proofs.Sound.{Sound, joins_as, sound_start, took_sound}

goes_made : (ps : List Put) (t : Trace) → CopiesAreForAll t → CopiesAreForAll (goes ps t)
goes_made [] t was = was
goes_made (p ∷ ps) t was = goes_made ps (Out p.conn p.item ∷ t) (entry (Out p.conn p.item) t refl was)

ends_made : (id : List ℕ) (cs : List ℕ) (t : Trace) → CopiesAreForAll t → CopiesAreForAll (ends id cs t)
ends_made id [] t was = was
ends_made id (c ∷ cs) t was =
    let items : List Item = closing_of id (conn t c) ResourceLimitExceeded in
    ends_made id cs (puts c items t) (goes_made (each_to c items) t was)

bound_made : (b : Option Binding) (t : Trace) → ((x : Binding) → b ≡ Some x → BindsAs x.kind t x) → CopiesAreForAll t → CopiesAreForAll (with_bound b t)
bound_made None t binds was = was
bound_made (Some b) t binds was = alone b t (binds b refl) was

handled_made : (id : List ℕ) (t : Trace) (s : Step) → Sound (booked t s.event) → CopiesAreForAll t → CopiesAreForAll (handled id t s)
handled_made id t s sound was =
    let e : Event = s.event in
    let at : Trace = booked t e in
    let u : Trace = heard id at s in
    let begun : CopiesAreForAll (Did s ∷ at) = entry (Did s) at refl (entry (Booked (acts_of t e) (due t e)) t refl was) in
    let came : CopiesAreForAll u = ends_made id (due at e) (Did s ∷ at) begun in
    let just : just_handled u ≡ Some (record { step = s; found = at }) = ends_handled id (due at e) (Did s ∷ at) (Some (record { step = s; found = at })) refl in
    let put : CopiesAreForAll (goes (own_row id at u e) (with_bound (bound_by at u e) u)) =
    goes_made (own_row id at u e) (with_bound (bound_by at u e) u) (bound_made (bound_by at u e) u (λ x is. event_binds id at s x sound is) came) in
    let rows : CopiesAreForAll (replied id at s) = all_made id at u s just came put in
    all_keep CopiesAreForAll goes_made (resumed at e (replied id at s))
    (resumed_takes CopiesAreForAll at e (replied id at s)
    (λ v b takes known before. alone b v (subst (λ (k : BindingKind). BindsAs k v b) (sym takes.taken) takes) before)
    (λ v b q to is quiet binds book before. alone b v (subst (λ (k : BindingKind). BindsAs k v b) (sym is) (joins_as v b q quiet binds)) before)
    (replied_found id at s) (replied_book id at s) rows)

pub moves_made : (id : List ℕ) (ms : List Move) (t u : Trace) → Rows t → Sound t → CopiesAreForAll t → Goes id ms t u → CopiesAreForAll u
moves_made id [] t u rows sound was went = subst CopiesAreForAll (sym went) was
moves_made id (handles s ∷ ms) t u rows sound was went =
    moves_made id ms (handled id t s) u (handled_rows id t s rows) (handled_sound id t s rows sound) (handled_made id t s (acted_sound t s.event sound) was) went.1
moves_made id (takes x ∷ ms) t u rows sound was went =
    moves_made id ms (took_one x t) u (took_rows _ _ t rows) (took_sound _ _ t sound) (entry (Took _ _) t refl was) went

pub trace_made : (id : List ℕ) (g : Beginning) (u : Trace) → IsTrace id g u → CopiesAreForAll u
trace_made id g u trace = moves_made id trace.0 (beginning g) u (start_rows g) (sound_start g) (entry (Began g) [] refl start) trace.1

-- over runs

pub opened_made : (g : Beginning) (below : Trace) → CopiesAreForAll below → CopiesAreForAll (opened g below)
opened_made g below was = entry (Began g) below refl was

pub cut_made : (t : Trace) (e : Event) → CopiesAreForAll t → CopiesAreForAll (did e ∷ booked t e)
cut_made t e was = entry (Did (step_of e)) (booked t e) refl (entry (Booked (acts_of t e) (due t e)) t refl was)
