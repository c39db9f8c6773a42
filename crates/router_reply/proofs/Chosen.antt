-- The consumer that was chosen for a message is chosen after the closes because of full outboxes too: none was by an event that makes one.
use Rattle.std.proofs.Common.{◌≡◌, sym, subst, ℕ, List, [], ◌∷◌}
use Rattle.std.specs.Prelude.{Option, None}
use Rattle.reply_rows.specs.declared.answer.Answer.{Answer}
use Rattle.reply_rows.specs.declared.answer.Answer.TheVariants.{Taken}
use Rattle.amqp_model.specs.declared.item.Item.{Item}
use Rattle.router_trace.specs.declared.event.ConnectionId.{ConnectionId}
use Rattle.router_trace.specs.declared.event.Event.{Event}
use Rattle.router_trace.specs.declared.event.Event.TheVariants as event
use Rattle.router_trace.specs.declared.handle.Attachment.{Attachment}
use Rattle.router_trace.specs.Trace.{Entry}
use Rattle.reply_rows.specs.Admitting.{ChosenFor, EventChose, ChoseUnlessEnds}
use Rattle.router_reply.specs.Replies.{ends}

pub none_for : (after : List Entry) (c : ℕ) (answer : Answer) → ChosenFor after c answer None
none_for after c (Taken own handle) = tt
none_for after c _ = tt

pub none_chosen : (after : List Entry) (e : Event) (answer : Answer) → EventChose after e answer None
none_chosen after (event.Item c i) answer = none_for after c.0 answer
none_chosen after _ answer = tt

-- what none was chosen for, and what an item's was
pub none_chose : (closed : List ℕ) (t : List Entry) (e : Event) (answer : Answer) (consumer : Option Attachment) → consumer ≡ None → ChoseUnlessEnds closed t e answer consumer
none_chose [] t e answer consumer none = subst (EventChose t e answer) (sym none) (none_chosen t e answer)
none_chose (c ∷ cs) t e answer consumer none = none

pub item_chose : (closed : List ℕ) (t : List Entry) (e : Event) (d : ConnectionId) (i : Item) (answer : Answer) (consumer : Option Attachment) → e ≡ event.Item d i → closed ≡ []
    → ChosenFor t d.0 answer consumer → ChoseUnlessEnds closed t e answer consumer
item_chose closed t e d i answer consumer is none chosen =
    subst (λ (cs : List ℕ). ChoseUnlessEnds cs t e answer consumer) (sym none)
    (subst (λ (x : Event). EventChose t x answer consumer) (sym is) chosen)

pub chose_after : (id : List ℕ) (closed : List ℕ) (t : List Entry) (e : Event) (answer : Answer) (consumer : Option Attachment) → ChoseUnlessEnds closed t e answer consumer
    → EventChose (ends id closed t) e answer consumer
chose_after id [] t e answer consumer is = is
chose_after id (c ∷ cs) t e answer consumer is = subst (EventChose (ends id (c ∷ cs) t) e answer) (sym is) (none_chosen (ends id (c ∷ cs) t) e answer)
