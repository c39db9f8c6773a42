-- The rows that an event's attach takes up are bound one after another, and so are those that are joined to a producer's link: what a binding keeps, all of
-- them keep.
use Rattle.std.proofs.Common.{◌≡◌, ◌∙◌, ap, refl, sym, subst, ℕ, List, [], ◌∷◌}
use Rattle.std.specs.Prelude.{Option, Some, None}
use Rattle.amqp_model.specs.declared.item.Item.{Item}
use Rattle.amqp_model.specs.declared.item.Item.TheVariants as item
use Rattle.amqp_model.specs.declared.perf.Attach.{Attach as AnAttach}
use Rattle.amqp_model.specs.declared.perf.Perf.{Perf}
use Rattle.amqp_model.specs.declared.perf.Perf.TheVariants as perf
use Rattle.book_model.specs.Book.{BookView}
use Rattle.book_model.specs.declared.act.Act.{Act}
use Rattle.book_model.specs.declared.act.Act.TheVariants.{Make, Admit, Decide, Forget, Drop}
use Rattle.book_model.specs.declared.row.Row.{Row as ARow}
use Rattle.book_model.specs.declared.row.RowNumber.{RowNumber}
use Rattle.book_model.specs.declared.terminus.LinkKey.{LinkKey}
use Rattle.router_trace.specs.declared.binding.Binding.{Binding}
use Rattle.router_trace.specs.declared.binding.DeliveryName.TheVariants.{Row}
use Rattle.router_trace.specs.declared.binding.Holding.TheVariants as holding
use Rattle.router_trace.specs.declared.binding.Origin.{Origin}
use Rattle.router_trace.specs.declared.event.Event.{Event}
use Rattle.router_trace.specs.declared.event.Event.TheVariants as event
use Rattle.router_trace.specs.declared.handle.Attachment.{Attachment}
use Rattle.router_trace.specs.Trace.{Entry, Bound, Booked}
use Rattle.router_trace.specs.Connection.{due}
use Rattle.router_trace.specs.Deliveries.{called, joined_by, owned_in}
use Rattle.router_trace.specs.Links.{holder}
use Rattle.state_messages.specs.Asking.{consumer_with}
use Rattle.state_messages.specs.Messages.{taken_up_by}
use Rattle.router_state.specs.declared.tables.State.{State}
use Rattle.router_state.specs.Tables.{TablesFit}
use Rattle.resume_core.specs.declared.consumer.Sending.{Sending}
use Rattle.reply_rows.specs.declared.answer.Answer.{Answer}
use Rattle.reply_rows.specs.declared.answer.Answer.TheVariants.{Attach}
use Rattle.reply_rows.specs.declared.attach.resuming.Resumption.{Resumption}
use Rattle.reply_rows.specs.Acts.{acts_of, booked, book_found, book_in, found_acts, answer_to_event}
use Rattle.router_reply.specs.Holding.{as_held, freed, freed_by, freed_from, held_if, held_to, rows_held, with_held}
use Rattle.reply_rows.specs.Asking.{held_key, if_sends}
use Rattle.reply_rows.specs.Resuming.{Resumes, key_taken, key_by, key_in, taken_key, if_receives, resumed_key, attach_in, map_for, rows_for, key_held, key_resumed, rows_resumed}
use Rattle.router_reply.specs.Resuming.{rows_taken, bound_to, bound_if, with_rows, attached_by, resumed_by, resumed}

pub rows_keep : (P : List Entry → Type 0) → ((b : Binding) (t : List Entry) → P t → P (Bound b ∷ t)) → (at : Attachment) (rs : List Sending) (u : List Entry) → P u → P (bound_to at rs u)
rows_keep P step at [] u was = was
rows_keep P step at (r ∷ rs) u was =
    rows_keep P step at rs (Bound (taken_up_by u r.row r.how r.format r.payload at) ∷ u) (step (taken_up_by u r.row r.how r.format r.payload at) u was)

-- for a link that is attached, or isn't
if_keeps : (P : List Entry → Type 0) → ((b : Binding) (t : List Entry) → P t → P (Bound b ∷ t)) → (at : Option Attachment) (rs : List Sending) (u : List Entry) → P u → P (bound_if at rs u)
if_keeps P step None rs u was = was
if_keeps P step (Some at) rs u was = rows_keep P step at rs u was

pub with_rows_keep : (P : List Entry → Type 0) → ((b : Binding) (t : List Entry) → P t → P (Bound b ∷ t)) → (key : Option LinkKey) (rs : List Sending) (u : List Entry) → P u → P (with_rows key rs u)
with_rows_keep P step None rs u was = was
with_rows_keep P step (Some k) rs u was = if_keeps P step (consumer_with u k) rs u was

-- Nor do the rows that are joined to a producer's link, or that acts settle there.
held_keep : (P : List Entry → Type 0) → ((b : Binding) (t : List Entry) → P t → P (Bound b ∷ t)) → (at : Attachment) (rs : List ARow) (u : List Entry) → P u → P (held_to at rs u)
held_keep P step at [] u was = was
held_keep P step at (r ∷ rs) u was =
    held_keep P step at rs (Bound (joined_by u (as_held at r) r.number r.outcome) ∷ u) (step (joined_by u (as_held at r) r.number r.outcome) u was)

held_if_keeps : (P : List Entry → Type 0) → ((b : Binding) (t : List Entry) → P t → P (Bound b ∷ t)) → (at : Option Attachment) (rs : List ARow) (u : List Entry) → P u → P (held_if at rs u)
held_if_keeps P step None rs u was = was
held_if_keeps P step (Some at) rs u was = held_keep P step at rs u was

pub with_held_keep : (P : List Entry → Type 0) → ((b : Binding) (t : List Entry) → P t → P (Bound b ∷ t)) → (b : BookView) (key : Option LinkKey) (u : List Entry) → P u → P (with_held b key u)
with_held_keep P step b None u was = was
with_held_keep P step b (Some k) u was = held_if_keeps P step (holder u k) (rows_held b k) u was

freed_keeps : (P : List Entry → Type 0) → ((b : Binding) (t : List Entry) → P t → P (Bound b ∷ t)) → (owner : Option Origin) (n : RowNumber) (u : List Entry) → P u → P (freed_from owner n u)
freed_keeps P step None n u was = was
freed_keeps P step (Some p) n u was = step (joined_by u (holding.Settled p.link) n None) u was

one_freed_keeps : (P : List Entry → Type 0) → ((b : Binding) (t : List Entry) → P t → P (Bound b ∷ t)) → (act : Act) (u : List Entry) → P u → P (freed_by act u)
one_freed_keeps P step (Forget n) u was = freed_keeps P step (owned_in (called u (Row n))) n u was
one_freed_keeps P step (Make x) u was = was
one_freed_keeps P step (Admit x) u was = was
one_freed_keeps P step (Decide x) u was = was
one_freed_keeps P step (Drop n) u was = was

pub all_freed_keep : (P : List Entry → Type 0) → ((b : Binding) (t : List Entry) → P t → P (Bound b ∷ t)) → (acts : List Act) (u : List Entry) → P u → P (freed acts u)
all_freed_keep P step [] u was = was
all_freed_keep P step (act ∷ acts) u was = all_freed_keep P step acts (freed_by act u) (one_freed_keeps P step act u was)

pub resumed_keeps : (P : List Entry → Type 0) → ((b : Binding) (t : List Entry) → P t → P (Bound b ∷ t)) → (t : List Entry) (e : Event) (u : List Entry) → P u → P (resumed t e u)
resumed_keeps P step t e u was =
    all_freed_keep P step (found_acts t) (attached_by t e (answer_to_event t e) u)
    (with_held_keep P step (book_in t) (held_key t e (answer_to_event t e)) (with_rows (resumed_key t e (answer_to_event t e)) (rows_taken t e (answer_to_event t e)) u)
    (with_rows_keep P step (resumed_key t e (answer_to_event t e)) (rows_taken t e (answer_to_event t e)) u was))

-- a view that is the same after a binding is the same after all of them
pub resumed_same : {A : Type 0} (view : List Entry → A) → ((b : Binding) (t : List Entry) → view (Bound b ∷ t) ≡ view t) → (t : List Entry) (e : Event) (u : List Entry) → view (resumed t e u) ≡ view u
resumed_same view same t e u = resumed_keeps (λ (v : List Entry). view v ≡ view u) (λ b v is. same b v ∙ is) t e u refl

-- If a key and rows are those of an event, by the answer and the book that the router has, then tables that agree with
-- these rows bound agree with what the event takes up.
pub resumes_as : (s : State) (t : List Entry) (e : Event) (a : Answer) (x : Option Resumption) (b : BookView) (acts : List Act) (u : List Entry)
    → a ≡ answer_to_event t e → b ≡ book_in t → acts ≡ found_acts t → key_resumed x ≡ resumed_key t e a → key_held x ≡ held_key t e a → rows_resumed x ≡ rows_taken t e a
    → TablesFit s (freed acts (with_held b (key_held x) (with_rows (key_resumed x) (rows_resumed x) u))) → TablesFit s (resumed t e u)
resumes_as s t e a x b acts u answer book done key held rows fits =
    subst (λ (w : Answer). TablesFit s (resumed_by t e w u)) answer
    (subst (λ (k : Option LinkKey). TablesFit s (freed (found_acts t) (with_held (book_in t) (held_key t e a) (with_rows k (rows_taken t e a) u)))) key
    (subst (λ (rs : List Sending). TablesFit s (freed (found_acts t) (with_held (book_in t) (held_key t e a) (with_rows (key_resumed x) rs u)))) rows
    (subst (λ (k : Option LinkKey). TablesFit s (freed (found_acts t) (with_held (book_in t) k (with_rows (key_resumed x) (rows_resumed x) u)))) held
    (subst (λ (w : BookView). TablesFit s (freed (found_acts t) (with_held w (key_held x) (with_rows (key_resumed x) (rows_resumed x) u)))) book
    (subst (λ (xs : List Act). TablesFit s (freed xs (with_held b (key_held x) (with_rows (key_resumed x) (rows_resumed x) u)))) done fits)))))

-- The same once the router's map was told, and is no longer in it.
pub resumes_told : (s : State) (t : List Entry) (e : Event) (a : Answer) (x z : Option Resumption) (b : BookView) (acts : List Act) (u : List Entry)
    → a ≡ answer_to_event t e → b ≡ book_in t → acts ≡ found_acts t → Resumes (book_found t) t e a x → key_resumed z ≡ key_resumed x → key_held z ≡ key_held x
    → rows_resumed z ≡ rows_resumed x
    → TablesFit s (freed acts (with_held b (key_held z) (with_rows (key_resumed z) (rows_resumed z) u))) → TablesFit s (resumed t e u)
resumes_told s t e a x z b acts u answer book done is key held rows fits =
    resumes_as s t e a z b acts u answer book done (key ∙ is.key) (held ∙ is.held) (rows ∙ is.rows) fits

-- What an event takes up again is the same after its acts: by the book that it finds.
taken_booked : (acts : List Act) (full : List ℕ) (t : List Entry) (c : ℕ) (x : AnAttach) (a : Answer) → key_taken (Booked acts full ∷ t) c x a ≡ key_taken t c x a
taken_booked acts full t c x (Attach own) = refl
taken_booked acts full t c x _ = refl

by_booked : (acts : List Act) (full : List ℕ) (t : List Entry) (c : ℕ) (body : Perf) (a : Answer) → key_by (Booked acts full ∷ t) c body a ≡ key_by t c body a
by_booked acts full t c (perf.Attach x) a = taken_booked acts full t c x a
by_booked acts full t c _ a = refl

in_booked : (acts : List Act) (full : List ℕ) (t : List Entry) (c : ℕ) (i : Item) (a : Answer) → key_in (Booked acts full ∷ t) c i a ≡ key_in t c i a
in_booked acts full t c (item.Frame sasl channel body payload) a = by_booked acts full t c body a
in_booked acts full t c _ a = refl

key_booked : (acts : List Act) (full : List ℕ) (t : List Entry) (e : Event) (a : Answer) → taken_key (Booked acts full ∷ t) e a ≡ taken_key t e a
key_booked acts full t (event.Item c i) a = in_booked acts full t c.0 i a
key_booked acts full t _ a = refl

pub resumes_booked : (b : BookView) (t : List Entry) (e : Event) (a : Answer) (x : Option Resumption) → b ≡ book_in t → Resumes b t e a x → Resumes (book_found (booked t e)) (booked t e) e a x
resumes_booked b t e a x book r =
    let taken : taken_key t e a ≡ taken_key (booked t e) e a = sym (key_booked (acts_of t e) (due t e) t e a) in
    let same : resumed_key t e a ≡ resumed_key (booked t e) e a = ap (if_receives (attach_in e)) taken in
    record {
      key = r.key ∙ same;
      held = r.held ∙ ap (if_sends (attach_in e)) taken;
      map = r.map ∙ ap (λ (w : BookView). map_for w (attach_in e) (taken_key t e a)) book ∙ ap (map_for (book_in t) (attach_in e)) taken;
      rows = r.rows ∙ ap (λ (w : BookView). rows_for w (attach_in e) (resumed_key t e a)) book ∙ ap (rows_for (book_in t) (attach_in e)) same;
    }
