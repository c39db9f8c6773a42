-- A connection that isn't live stays so, until it comes up.
use Rattle.std.proofs.Common.{◌≡◌, ◌∙◌, ap, refl, true≢false, ℕ, Bool, true, false, not, ◌&&◌, List, [], ◌∷◌}
use Rattle.std.specs.Prelude.{◌==◌, length, Option, Some, None, option_map, option_and_then, if◌then◌else◌}
use Rattle.amqp_model.specs.declared.item.Item.{Item}
use Rattle.router_trace.specs.declared.binding.Binding.{Binding}
use Rattle.router_trace.specs.declared.event.Event.{Event}
use Rattle.router_trace.specs.declared.event.Event.TheVariants as event
use Rattle.router_trace.specs.declared.condition.Condition.TheVariants.{ResourceLimitExceeded}
use Rattle.router_trace.specs.Trace.{Entry, Out, Put, did, goes, each_to, puts, ups, step_of}
use Rattle.router_trace.specs.Connection.{Connection, conn, phase_after, with_item, took, unless_empty, drained, is_live, has, due, found, live_of, at_event}
use Rattle.state_messages.specs.Messages.{with_bound}
use Rattle.router_reply.specs.Resuming.{resumed}
use Rattle.router_reply.specs.Replies.{closing_of, ends as ends_of, heard, bound_by, own_row, replied}
use Rattle.reply_rows.specs.Acts.{booked}
use Rattle.router_core.specs.Replies.{answered, handled}
use Rattle.router_core.specs.Moves.{ins, with_came}
use Rattle.state_connections.proofs.Lists.{by_test}
use Rattle.state_connections.proofs.Turns.{over_lives, stays}
use Rattle.router_core.proofs.Booking.{booked_same}
use Rattle.router_core.proofs.Copied.{copied_keeps}
use Rattle.router_core.proofs.Following.{all_keep}
use Rattle.router_core.proofs.Resuming.{resumed_keeps}

-- a connection that isn't live stays so, until it comes up

-- the same items were received on a connection, and it isn't live if it wasn't
pub record Alike (t u : List Entry) (c : ℕ) : Type 0 where
  pub came : ins u c ≡ ins t c
  pub over : is_live (conn t c) ≡ false → is_live (conn u c) ≡ false

pub alike_same : (t u : List Entry) (c : ℕ) → u ≡ t → Alike t u c
alike_same t u c e = record {
  came = ap (λ (w : List Entry). ins w c) e;
  over = λ h. ap (λ (w : List Entry). is_live (conn w c)) e ∙ h;
}

pub alike_on : (t u v : List Entry) (c : ℕ) → Alike t u c → Alike u v c → Alike t v c
alike_on t u v c first rest = record {
  came = rest.came ∙ first.came;
  over = λ h. rest.over (first.over h);
}

over_item : (i : Item) (v : Option Connection) → is_live v ≡ false → is_live (option_map (with_item i) v) ≡ false
over_item i None h = refl
over_item i (Some v) h =
    by_test (phase_after i v.phase).closed (λ e. rw e refl) (λ e. let was : v.phase.closed ≡ false = stays i v.phase e in absurd (true≢false (rw was at h)))

over_put : (b : Bool) (i : Item) (v : Option Connection) → is_live v ≡ false → is_live (if b then option_map (with_item i) v else v) ≡ false
over_put true i v h = over_item i v h
over_put false i v h = h

over_goes : (ps : List Put) (t : List Entry) (c : ℕ) → is_live (conn t c) ≡ false → is_live (conn (goes ps t) c) ≡ false
over_goes [] t c h = h
over_goes (p ∷ ps) t c h = over_goes ps (Out p.conn p.item ∷ t) c (over_put (p.conn == c) p.item (conn t c) h)

over_ends : (id : List ℕ) (cs : List ℕ) (t : List Entry) (c : ℕ) → is_live (conn t c) ≡ false → is_live (conn (ends_of id cs t) c) ≡ false
over_ends id [] t c h = h
over_ends id (d ∷ ds) t c h =
    let items : List Item = closing_of id (conn t d) ResourceLimitExceeded
    in over_ends id ds (puts d items t) c (over_goes (each_to d items) t c h)

over_gone : (b : Bool) (v : Connection) (rest : List Item) → is_live (Some v) ≡ false → is_live (if b then unless_empty v rest else Some v) ≡ false
over_gone true v [] h = refl
over_gone true v (i ∷ is) h = h
over_gone false v rest h = h

pub over_took : (n : ℕ) (v : Option Connection) → is_live v ≡ false → is_live (option_and_then (took n) v) ≡ false
over_took n None h = refl
over_took n (Some v) h = over_gone v.phase.closed (drained n v) (drained n v).waiting h

-- an event about a connection: that it came up, or an item of it
abbrev pub is_about : Event → ℕ → Bool
is_about (event.Up d p) c = d.0 == c
is_about (event.Item d i) c = d.0 == c
is_about _ c = false

over_event : (e : Event) (c n : ℕ) (v : Option Connection) → is_about e c ≡ false → is_live v ≡ false → is_live (at_event e c n v) ≡ false
over_event (event.Up d p) c n v other h = rw other h
over_event (event.Item d i) c n v other h = h
over_event (event.Down d) c n v other h = by_test (d.0 == c) (λ e. rw e refl) (λ e. rw e h)
over_event (event.Tick ms) c n v other h = h
over_event event.Start c n v other h = h

over_did : (t : List Entry) (e : Event) (c : ℕ) → is_about e c ≡ false → is_live (conn t c) ≡ false → is_live (conn (did e ∷ t) c) ≡ false
over_did t e c other h =
    over_event e c (length (live_of (ups t) (found t e))) (found t e c) other
    (over_lives (has c (due t e)) (conn t c) ∙ ap (λ (b : Bool). b && not (has c (due t e))) h)

over_bound : (b : Option Binding) (t : List Entry) (c : ℕ) → is_live (conn t c) ≡ false → is_live (conn (with_bound b t) c) ≡ false
over_bound None t c h = h
over_bound (Some b) t c h = h

over_answered : (id : List ℕ) (t : List Entry) (e : Event) (c : ℕ) → is_about e c ≡ false → is_live (conn t c) ≡ false → is_live (conn (answered id t (step_of e)) c) ≡ false
over_answered id t e c other h =
    let u : List Entry = heard id t (step_of e)
    in all_keep (λ (v : List Entry). is_live (conn v c) ≡ false) (λ ps v over. over_goes ps v c over) (resumed t e (replied id t (step_of e)))
    (resumed_keeps (λ (v : List Entry). is_live (conn v c) ≡ false) (λ b v over. over_bound (Some b) v c over) t e (replied id t (step_of e))
    (copied_keeps (λ (v : List Entry). is_live (conn v c) ≡ false) (λ b v over. over_bound (Some b) v c over) t u e (goes (own_row id t u e) (with_bound (bound_by t u e) u))
    (over_goes (own_row id t u e) (with_bound (bound_by t u e) u) c (over_bound (bound_by t u e) u c (over_ends id (due t e) (did e ∷ t) c (over_did t e c other h))))))

pub over_handled : (id : List ℕ) (t : List Entry) (e : Event) (c : ℕ) → is_about e c ≡ false → is_live (conn t c) ≡ false → is_live (conn (handled id t (step_of e)) c) ≡ false
over_handled id t e c other h = over_answered id (booked t e) e c other (booked_same (λ (u : List Entry). is_live (conn u c)) t e (λ acts. refl) ∙ h)

pub came_other : (e : Event) (c : ℕ) (is : List Item) → is_about e c ≡ false → with_came e c is ≡ is
came_other (event.Item d i) c is other = rw other refl
came_other (event.Up d p) c is other = refl
came_other (event.Down d) c is other = refl
came_other (event.Tick ms) c is other = refl
came_other event.Start c is other = refl
