-- The trace after an item, by its answer.
use Rattle.std.proofs.Common.{◌≡◌, ◌∙◌, ap, refl, ℕ, true, false, List, []}
use Rattle.std.specs.Prelude.{Option, Some, None}
use Rattle.amqp_model.specs.declared.perf.Attach.{Attach as AnAttach}
use Rattle.amqp_model.specs.declared.perf.Disposition.{Disposition as ADisposition}
use Rattle.amqp_model.specs.Parts.{attach_of}
use Rattle.amqp_model.specs.declared.perf.Perf.TheVariants as perf
use Rattle.amqp_model.specs.declared.item.Item.{Item}
use Rattle.amqp_model.specs.declared.item.Item.TheVariants as item
use Rattle.amqp_model.specs.declared.state.UnsettledDelivery.{UnsettledDelivery}
use Rattle.amqp_conn.specs.declared.conn.Conn.{Conn}
use Rattle.router_trace.specs.declared.condition.Condition.{Condition}
use Rattle.router_trace.specs.Trace.{Entry, Put, goes, each_to, puts}
use Rattle.router_trace.specs.Links.{link_place}
use Rattle.router_trace.specs.Settling.{part_of}
use Rattle.router_trace.specs.declared.binding.Binding.{Binding}
use Rattle.state_messages.specs.Messages.{with_bound}
use Rattle.reply_rows.specs.declared.answer.Answer.{Answer}
use Rattle.reply_rows.specs.declared.answer.Answer.TheVariants.{Attach, Refuse, Taken, Settle}
use Rattle.reply_rows.specs.Rows.{said}
use Rattle.reply_rows.specs.Acts.{answer_of, book_found, book_in}
use Rattle.reply_rows.specs.Resuming.{key_in, attach_within, map_for}
use Rattle.reply_transfers.specs.Transfers.{part_put, part_bound, part_copied, disposition_in, given_after}
use Rattle.router_reply.specs.Replies.{item_row, item_bound, item_copied, item_put, links_put, put_for_transfer, put_for_disposition, bound_for, copied_for, settled_put, put_for_attach, put_if_attach, attach_put, row_found, after_answer}
use Rattle.router_reply.proofs.Puts.{goes_both}

-- an answer takes no transfer, or answers no disposition
abbrev pub NotTaken : Answer → Type 0
NotTaken a = (own handle : ℕ) → a ≡ Taken own handle → ⊥

abbrev pub NotSettled : Answer → Type 0
NotSettled a = (own : ℕ) → a ≡ Settle own → ⊥

-- what is put, by the answer
taken_put : (t u : List Entry) (c : ℕ) (i : Item) (own handle : ℕ)
    → links_put t u c i (Taken own handle) ≡ each_to c (part_put (book_in t) u c own handle (row_found t) (part_of i (link_place t c own)))
taken_put t u c (item.Frame true channel (perf.Attach x) payload) own handle = refl
taken_put t u c (item.Frame true channel (perf.Transfer x) payload) own handle = refl
taken_put t u c (item.Frame true channel (perf.Disposition x) payload) own handle = refl
taken_put t u c (item.Frame true channel _ payload) own handle = refl
taken_put t u c (item.Frame false channel (perf.Attach x) payload) own handle = refl
taken_put t u c (item.Frame false channel (perf.Transfer x) payload) own handle = refl
taken_put t u c (item.Frame false channel (perf.Disposition x) payload) own handle = refl
taken_put t u c (item.Frame false channel _ payload) own handle = refl
taken_put t u c _ own handle = refl

settled_by : (t u : List Entry) (c : ℕ) (i : Item) (own : ℕ) → links_put t u c i (Settle own) ≡ settled_put t c own (disposition_in i)
settled_by t u c (item.Frame sasl channel (perf.Attach x) payload) own = refl
settled_by t u c (item.Frame sasl channel (perf.Transfer x) payload) own = refl
settled_by t u c (item.Frame sasl channel (perf.Disposition x) payload) own = refl
settled_by t u c (item.Frame sasl channel _ payload) own = refl
settled_by t u c _ own = refl

untaken : (t u : List Entry) (c : ℕ) (i : Item) (a : Answer) → NotTaken a → put_for_transfer t u c i a ≡ []
untaken t u c i (Taken own handle) none = absurd (none own handle refl)
untaken t u c i _ none = refl

unsettled : (t : List Entry) (c : ℕ) (x : ADisposition) (a : Answer) → NotSettled a → put_for_disposition t c x a ≡ []
unsettled t c x (Settle own) none = absurd (none own refl)
unsettled t c x _ none = refl

-- the router's map in the answer to an attach
abbrev pub map_in : List Entry → ℕ → Item → Answer → List UnsettledDelivery
map_in t c i a = map_for (book_found t) (attach_within i) (key_in t c i a)

attach_by : (t u : List Entry) (c : ℕ) (i : Item) (a : Answer) → NotTaken a → NotSettled a → links_put t u c i a ≡ attach_put u c (map_in t c i a) i a
attach_by t u c (item.Frame sasl channel (perf.Attach x) payload) a taken settled = refl
attach_by t u c (item.Frame sasl channel (perf.Transfer x) payload) a taken settled = untaken t u c (item.Frame sasl channel (perf.Transfer x) payload) a taken
attach_by t u c (item.Frame sasl channel (perf.Disposition x) payload) a taken settled = unsettled t c x a settled
attach_by t u c (item.Frame sasl channel _ payload) a taken settled = refl
attach_by t u c _ a taken settled = refl

unbound : (t u : List Entry) (c : ℕ) (i : Item) (a : Answer) → NotTaken a → bound_for t u c i a ≡ None
unbound t u c i (Taken own handle) none = absurd (none own handle refl)
unbound t u c i _ none = refl

uncopied : (t after : List Entry) (c : ℕ) (i : Item) (a : Answer) (u : List Entry) → NotTaken a → copied_for t after c i a u ≡ u
uncopied t after c i (Taken own handle) u none = absurd (none own handle refl)
uncopied t after c i _ u none = refl

-- the trace after it
pub taken_is : (id : List ℕ) (t after : List Entry) (c : ℕ) (p : Conn) (i : Item) (own handle : ℕ)
    → after_answer id t after c p i (Taken own handle) ≡ given_after (book_in t) after c own handle (row_found t) (part_of i (link_place t c own))
taken_is id t after c p i own handle =
    let part = part_of i (link_place t c own) in
    ap (λ (ps : List Put). part_copied after c own handle part (goes ps (with_bound (part_bound (book_in t) after c own handle (row_found t) part) after)))
    (taken_put t after c i own handle)

pub settled_is : (id : List ℕ) (t after : List Entry) (c : ℕ) (p : Conn) (i : Item) (own : ℕ)
    → after_answer id t after c p i (Settle own) ≡ goes (settled_put t c own (disposition_in i)) after
settled_is id t after c p i own = ap (λ (ps : List Put). goes ps after) (settled_by t after c i own)

pub other_is : (id : List ℕ) (t after : List Entry) (c : ℕ) (p : Conn) (i : Item) (a : Answer) → NotTaken a → NotSettled a
    → after_answer id t after c p i a ≡ goes (attach_put (puts c (said id p a) after) c (map_in t c i a) i a) (puts c (said id p a) after)
other_is id t after c p i a taken settled =
    uncopied t after c i a (goes (item_put id t after c p i a) (with_bound (bound_for t after c i a) after)) taken
    ∙ ap (λ (b : Option Binding). goes (item_put id t after c p i a) (with_bound b after)) (unbound t after c i a taken)
    ∙ goes_both (each_to c (said id p a)) (links_put t (puts c (said id p a) after) c i a) after
    ∙ ap (λ (ps : List Put). goes ps (puts c (said id p a) after)) (attach_by t (puts c (said id p a) after) c i a taken settled)

-- a transfer that is taken and an answered disposition put nothing for an attach
pub taken_left : (u : List Entry) (c : ℕ) (ours : List UnsettledDelivery) (i : Item) (own handle : ℕ) → attach_put u c ours i (Taken own handle) ≡ []
taken_left u c ours (item.Frame sasl channel (perf.Attach x) payload) own handle = refl
taken_left u c ours (item.Frame sasl channel _ payload) own handle = refl
taken_left u c ours _ own handle = refl

pub settled_left : (u : List Entry) (c : ℕ) (ours : List UnsettledDelivery) (i : Item) (own : ℕ) → attach_put u c ours i (Settle own) ≡ []
settled_left u c ours (item.Frame sasl channel (perf.Attach x) payload) own = refl
settled_left u c ours (item.Frame sasl channel _ payload) own = refl
settled_left u c ours _ own = refl

-- and so does what is no answer to an attach
unattached_by : (t : List Entry) (c : ℕ) (ours : List UnsettledDelivery) (x : AnAttach) (a : Answer) → ((own : ℕ) → a ≡ Attach own → ⊥) → ((own handle : ℕ) (e : Condition) → a ≡ Refuse own handle e → ⊥) → put_for_attach t c ours x a ≡ []
unattached_by t c ours x (Attach own) taken refused = absurd (taken own refl)
unattached_by t c ours x (Refuse own handle e) taken refused = absurd (refused own handle e refl)
unattached_by t c ours x _ taken refused = refl

unattached_in : (t : List Entry) (c : ℕ) (ours : List UnsettledDelivery) (x : Option AnAttach) (a : Answer) → ((own : ℕ) → a ≡ Attach own → ⊥) → ((own handle : ℕ) (e : Condition) → a ≡ Refuse own handle e → ⊥) → put_if_attach t c ours x a ≡ []
unattached_in t c ours None a taken refused = refl
unattached_in t c ours (Some x) a taken refused = unattached_by t c ours x a taken refused

pub unattached : (t : List Entry) (c : ℕ) (ours : List UnsettledDelivery) (i : Item) (a : Answer) → ((own : ℕ) → a ≡ Attach own → ⊥) → ((own handle : ℕ) (e : Condition) → a ≡ Refuse own handle e → ⊥) → attach_put t c ours i a ≡ []
unattached t c ours (item.Frame sasl channel body payload) a taken refused = unattached_in t c ours (attach_of body) a taken refused
unattached t c ours _ a taken refused = refl

-- the trace after an item, by what was found of its connection
abbrev pub after_item : List ℕ → List Entry → List Entry → ℕ → Item → Option Conn → List Entry
after_item id t after c i s = item_copied t after c i s (goes (item_row id t after c i s) (with_bound (item_bound t after c i s) after))

pub decided : (id : List ℕ) (t after : List Entry) (c : ℕ) (p : Conn) (i : Item) (a : Answer) (s : Option Conn) → a ≡ answer_of t c p i → Some p ≡ s
    → after_answer id t after c p i a ≡ after_item id t after c i s
decided id t after c p i a s row live =
    ap (λ (x : Answer). after_answer id t after c p i x) row ∙ ap (λ (v : Option Conn). after_item id t after c i v) live
