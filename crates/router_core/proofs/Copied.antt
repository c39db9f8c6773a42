-- The copies of a message are bound one after another: what a binding keeps, all of them keep, and what each of them is.
use Rattle.std.proofs.Common.{◌≡◌, ◌∙◌, refl, sym, ap, subst, append_assoc, ℕ, Bool, true, false, List, [], ◌∷◌, ◌++◌}
use Rattle.std.specs.Prelude.{if◌then◌else◌, is_some, Option, Some, None, option_map, unwrap_or}
use Rattle.amqp_conn.specs.declared.conn.Conn.{Conn}
use Rattle.amqp_link.specs.declared.part.Delivery.{Delivery as Told}
use Rattle.amqp_link.specs.declared.part.Part.{Part}
use Rattle.amqp_link.specs.declared.part.Part.TheVariants as part
use Rattle.amqp_model.specs.declared.item.Item.{Item}
use Rattle.amqp_model.specs.declared.item.Item.TheVariants as item
use Rattle.amqp_model.specs.declared.perf.Perf.{Perf}
use Rattle.amqp_model.specs.declared.perf.Perf.TheVariants as perf
use Rattle.book_model.specs.declared.row.RowNumber.{RowNumber}
use Rattle.router_trace.specs.declared.binding.Binding.{Binding}
use Rattle.router_trace.specs.declared.event.ConnectionId.{ConnectionId}
use Rattle.router_trace.specs.declared.event.Event.{Event}
use Rattle.router_trace.specs.declared.event.Event.TheVariants as event
use Rattle.router_trace.specs.declared.handle.Attachment.{Attachment}
use Rattle.router_trace.specs.Trace.{Entry, Bound, each_to, goes}
use Rattle.router_trace.specs.Connection.{found, standing}
use Rattle.router_trace.specs.Links.{Link, link, link_place}
use Rattle.router_trace.specs.Settling.{part_of}
use Rattle.state_messages.specs.Messages.{binding_to, consumer_of, copies_for, copy_to, with_bound}
use Rattle.state_messages.proofs.OneOrCopies.{one_or_copies}
use Rattle.router_state.specs.Copying.{copied_to}
use Rattle.reply_rows.specs.declared.answer.Answer.{Answer}
use Rattle.reply_rows.specs.declared.answer.Answer.TheVariants.{Taken}
use Rattle.reply_rows.specs.Acts.{answer_of, book_in}
use Rattle.reply_transfers.specs.Transfers.{claimed_id, consumer_for, fresh_bound, fresh_copied, from_link, lasts_on, may_pass, origin_of, part_bound, part_copied, part_put, resumed_bound, resumed_put, unbound_put}
use Rattle.router_reply.specs.Replies.{bound_by, bound_for, copied_by, copied_for, item_bound, item_copied, item_put, item_row, own_row, row_found}
use Rattle.state_connections.proofs.Lists.{by_test}

-- What is copied after an event: a whole delivery that came on a link, which its producer doesn't resume and has settled.
pub record Copies (t after : List Entry) (e : Event) : Type 0 where
  pub conn : ConnectionId
  pub item : Item
  pub came : e ≡ event.Item conn item
  pub phase : Conn
  pub stands : standing (found t e conn.0) ≡ Some phase
  pub own : ℕ
  pub handle : ℕ
  pub answer : answer_of t conn.0 phase item ≡ Taken own handle
  pub message : Told
  pub payload : List ℕ
  pub whole : part_of item (link_place t conn.0 own) ≡ Some (part.Whole message payload)
  pub fresh : message.resume ≡ false
  pub settled : claimed_id after conn.0 own handle message.id ≡ None

-- the trace u with copies for these consumers
abbrev pub made : {t after : List Entry} {e : Event} → Copies t after e → List Attachment → List Entry → List Entry
made x ats u = copied_to (unwrap_or x.message.format 0) x.payload ats u

-- What the copy for each consumer keeps, after those for the consumers before it.
abbrev pub CopyStep : List Entry → List Entry → Event → List Entry → (List Entry → Type 0) → Type 0
CopyStep t after e u P =
    (x : Copies t after e) (before : List Attachment) (a : Attachment) (later : List Attachment)
    → copies_for after (link after x.conn.0 x.own x.handle) ≡ before ++ a ∷ later
    → P (made x before u)
    → P (Bound (copy_to (made x before u) (unwrap_or x.message.format 0) x.payload a) ∷ made x before u)

pub one_more : (format : ℕ) (payload : List ℕ) (before : List Attachment) (a : Attachment) (u : List Entry)
    → copied_to format payload (before ++ a ∷ []) u ≡ Bound (copy_to (copied_to format payload before u) format payload a) ∷ copied_to format payload before u
one_more format payload [] a u = refl
one_more format payload (b ∷ before) a u = one_more format payload before a (Bound (copy_to u format payload b) ∷ u)

all_copies : (P : List Entry → Type 0) (format : ℕ) (payload : List ℕ) (u : List Entry) (all : List Attachment)
    → ((before : List Attachment) (a : Attachment) (later : List Attachment) → all ≡ before ++ a ∷ later → P (copied_to format payload before u)
    → P (Bound (copy_to (copied_to format payload before u) format payload a) ∷ copied_to format payload before u))
    → (before rest : List Attachment) → all ≡ before ++ rest → P (copied_to format payload before u) → P (copied_to format payload rest (copied_to format payload before u))
all_copies P format payload u all step before [] is was = was
all_copies P format payload u all step before (a ∷ rest) is was =
    let one : copied_to format payload (before ++ a ∷ []) u ≡ Bound (copy_to (copied_to format payload before u) format payload a) ∷ copied_to format payload before u
    = one_more format payload before a u in
    subst (λ (v : List Entry). P (copied_to format payload rest v)) one
    (all_copies P format payload u all step (before ++ a ∷ []) rest (is ∙ sym (append_assoc before (a ∷ []) rest))
    (subst (λ (v : List Entry). P v) (sym one) (step before a rest is was)))

-- Nothing is copied, or all these copies are made.
pub copied_cases : (P : List Entry → Type 0) (t after : List Entry) (e : Event) (u : List Entry) → P u
    → ((x : Copies t after e) → P (made x (copies_for after (link after x.conn.0 x.own x.handle)) u)) → P (copied_by t after e u)
copied_cases P t after (event.Item c i) u was all = by_phase (standing (found t (event.Item c i) c.0)) refl
  where
    by_settled : (p : Conn) → standing (found t (event.Item c i) c.0) ≡ Some p → (own handle : ℕ) → answer_of t c.0 p i ≡ Taken own handle → (d : Told) (payload : List ℕ)
        → part_of i (link_place t c.0 own) ≡ Some (part.Whole d payload) → d.resume ≡ false → (q : Option ℕ) → claimed_id after c.0 own handle d.id ≡ q
        → P (fresh_copied after c.0 own handle (unwrap_or d.format 0) payload q u)
    by_settled p stands own handle answer d payload whole fresh (Some id) claimed = was
    by_settled p stands own handle answer d payload whole fresh None claimed = all (record {
      conn = c;
      item = i;
      came = refl;
      phase = p;
      stands = stands;
      own = own;
      handle = handle;
      answer = answer;
      message = d;
      payload = payload;
      whole = whole;
      fresh = fresh;
      settled = claimed;
    })

    by_part : (p : Conn) → standing (found t (event.Item c i) c.0) ≡ Some p → (own handle : ℕ) → answer_of t c.0 p i ≡ Taken own handle → (q : Option Part)
        → part_of i (link_place t c.0 own) ≡ q → P (part_copied after c.0 own handle q u)
    by_part p stands own handle answer (Some (part.Whole d payload)) whole =
        by_test d.resume (λ r. rw r was) (λ r. rw r (by_settled p stands own handle answer d payload whole r (claimed_id after c.0 own handle d.id) refl))
    by_part p stands own handle answer _ whole = was

    by_answer : (p : Conn) → standing (found t (event.Item c i) c.0) ≡ Some p → (a : Answer) → answer_of t c.0 p i ≡ a → P (copied_for t after c.0 i a u)
    by_answer p stands (Taken own handle) answer = by_part p stands own handle answer (part_of i (link_place t c.0 own)) refl
    by_answer p stands _ answer = was

    by_phase : (q : Option Conn) → standing (found t (event.Item c i) c.0) ≡ q → P (item_copied t after c.0 i q u)
    by_phase None stands = was
    by_phase (Some p) stands = by_answer p stands (answer_of t c.0 p i) refl
copied_cases P t after _ u was all = was

pub copied_takes : (P : List Entry → Type 0) (t after : List Entry) (e : Event) (u : List Entry) → CopyStep t after e u P → P u → P (copied_by t after e u)
copied_takes P t after e u step was =
    copied_cases P t after e u was
    (λ x. all_copies P (unwrap_or x.message.format 0) x.payload u (copies_for after (link after x.conn.0 x.own x.handle))
    (λ before a later is now. step x before a later is now) [] (copies_for after (link after x.conn.0 x.own x.handle)) refl was)

-- what a binding keeps, all of them keep
pub copied_keeps : (P : List Entry → Type 0) → ((b : Binding) (t : List Entry) → P t → P (Bound b ∷ t)) → (t after : List Entry) (e : Event) (u : List Entry) → P u → P (copied_by t after e u)
copied_keeps P step t after e u was =
    copied_takes P t after e u (λ x before a later is now. step (copy_to (made x before u) (unwrap_or x.message.format 0) x.payload a) (made x before u) now) was

-- a view that is the same after a binding is the same after all of them
pub copied_same : {A : Type 0} (view : List Entry → A) → ((b : Binding) (t : List Entry) → view (Bound b ∷ t) ≡ view t)
    → (t after : List Entry) (e : Event) (u : List Entry) → view (copied_by t after e u) ≡ view u
copied_same view same t after e u = copied_keeps (λ (v : List Entry). view v ≡ view u) (λ b v is. same b v ∙ is) t after e u refl

-- and what a copy keeps, of whatever message
pub copies_keep : (P : List Entry → Type 0) → ((u : List Entry) (format : ℕ) (payload : List ℕ) (a : Attachment) → P u → P (Bound (copy_to u format payload a) ∷ u))
    → (t after : List Entry) (e : Event) (u : List Entry) → P u → P (copied_by t after e u)
copies_keep P step t after e u was =
    copied_takes P t after e u (λ x before a later is now. step (made x before u) (unwrap_or x.message.format 0) x.payload a now) was

-- copies are all that is bound, and nothing is put with them

pub all_copied : (P : List Entry → Type 0) → ((b : Binding) (t : List Entry) → P t → P (Bound b ∷ t)) → (format : ℕ) (payload : List ℕ) (ats : List Attachment) (u : List Entry)
    → P u → P (copied_to format payload ats u)
all_copied P step format payload [] u was = was
all_copied P step format payload (a ∷ ats) u was =
    all_copied P step format payload ats (Bound (copy_to u format payload a) ∷ u) (step (copy_to u format payload a) u was)

none_chosen : (after : List Entry) (l : Option Link) (before : List Attachment) (a : Attachment) (later : List Attachment) → copies_for after l ≡ before ++ a ∷ later → consumer_of after l ≡ None
none_chosen after l before a later copies = by (consumer_of after l) refl
  where
    some_made : (xs : List Attachment) → [] ≡ xs ++ a ∷ later → ⊥
    some_made [] e = absurd cc
    some_made (x ∷ xs) e = absurd cc

    by : (v : Option Attachment) → consumer_of after l ≡ v → v ≡ None
    by None e = refl
    by (Some x) e = absurd (some_made before (sym (one_or_copies after l (ap is_some e)) ∙ copies))

abbrev nothing : Option Part
nothing = None

no_part : (sasl : Bool) → (if sasl then nothing else nothing) ≡ nothing
no_part true = refl
no_part false = refl

no_whole : {q : Part} → nothing ≡ Some q → ⊥
no_whole e = cc

-- of the item
module _ (id : List ℕ) (t after : List Entry) (c : ℕ) (p : Conn) (own handle : ℕ) (d : Told) (payload : List ℕ) (fresh : d.resume ≡ false)
    (settled : claimed_id after c own handle d.id ≡ None) where
  none_put : (row : Option RowNumber) → part_put (book_in t) after c own handle row (Some (part.Whole d payload)) ≡ []
  none_put row = by_fresh d.resume fresh
    where
      by_claim : (q : Option ℕ) (v : Option Attachment) → q ≡ None → unbound_put after c own handle q v ≡ []
      by_claim None None e = refl
      by_claim None (Some a) e = refl
      by_claim (Some k) v e = absurd cc

      by_fresh : (b : Bool) → b ≡ false
          → (if b then resumed_put (book_in t) after c own handle (claimed_id after c own handle d.id)
          else unbound_put after c own handle (claimed_id after c own handle d.id) (consumer_for after c own handle d row)) ≡ []
      by_fresh true e = absurd cc
      by_fresh false e = by_claim (claimed_id after c own handle d.id) (consumer_for after c own handle d row) settled

  items_alone : (i : Item) → part_of i (link_place t c own) ≡ Some (part.Whole d payload) → item_put id t after c p i (Taken own handle) ≡ []
  items_alone (item.Frame sasl channel body carried) whole = by_perf body whole
    where
      by_perf : (body : Perf) → part_of (item.Frame sasl channel body carried) (link_place t c own) ≡ Some (part.Whole d payload)
          → item_put id t after c p (item.Frame sasl channel body carried) (Taken own handle) ≡ []
      by_perf (perf.Transfer x) whole =
          ap (λ (q : Option Part). each_to c (part_put (book_in t) after c own handle (row_found t) q)) whole ∙ ap (each_to c) (none_put (row_found t))
      by_perf _ whole = absurd (no_whole (sym (no_part sasl) ∙ whole))
  items_alone _ whole = absurd (no_whole whole)

  none_fresh : (row : Option RowNumber) (v : Option Link) → link after c own handle ≡ v → consumer_of after (link after c own handle) ≡ None → fresh_bound after c own handle d row payload v ≡ None
  none_fresh row None at none = refl
  none_fresh row (Some l) at none =
      ap (λ (o : Option Attachment). if may_pass (lasts_on (link after c own handle)) (claimed_id after c own handle d.id) row
      then option_map (binding_to after (option_map (origin_of (from_link c own handle l)) (claimed_id after c own handle d.id)) row (unwrap_or d.format 0) payload) o else None) none
      ∙ by (may_pass (lasts_on (link after c own handle)) (claimed_id after c own handle d.id) row)
    where
      unbound : Option Binding
      unbound = None

      by : (b : Bool) → (if b then unbound else unbound) ≡ None
      by true = refl
      by false = refl

  bound_alone : (row : Option RowNumber) → consumer_of after (link after c own handle) ≡ None → part_bound (book_in t) after c own handle row (Some (part.Whole d payload)) ≡ None
  bound_alone row none = by_fresh d.resume fresh
    where
      by_fresh : (b : Bool) → b ≡ false
          → (if b then resumed_bound (book_in t) after c own handle (claimed_id after c own handle d.id) (link after c own handle)
          else fresh_bound after c own handle d row payload (link after c own handle)) ≡ None
      by_fresh true e = absurd cc
      by_fresh false e = none_fresh row (link after c own handle) refl none

item_alone : (id : List ℕ) (t after : List Entry) (c : ConnectionId) (i : Item) (p : Conn) (own handle : ℕ) (d : Told) (payload : List ℕ)
    → standing (found t (event.Item c i) c.0) ≡ Some p → answer_of t c.0 p i ≡ Taken own handle → part_of i (link_place t c.0 own) ≡ Some (part.Whole d payload)
    → d.resume ≡ false → claimed_id after c.0 own handle d.id ≡ None → consumer_of after (link after c.0 own handle) ≡ None
    → goes (own_row id t after (event.Item c i)) (with_bound (bound_by t after (event.Item c i)) after) ≡ after
item_alone id t after c i p own handle d payload stands answer whole fresh settled none =
    let put : own_row id t after (event.Item c i) ≡ []
    = ap (item_row id t after c.0 i) stands ∙ ap (item_put id t after c.0 p i) answer ∙ items_alone id t after c.0 p own handle d payload fresh settled i whole in
    let bound : bound_by t after (event.Item c i) ≡ None
    = ap (item_bound t after c.0 i) stands ∙ ap (bound_for t after c.0 i) answer
    ∙ ap (part_bound (book_in t) after c.0 own handle (row_found t)) whole ∙ bound_alone id t after c.0 p own handle d payload fresh settled (row_found t) none in
    λ j. goes (put j) (with_bound (bound j) after)

pub copied_alone : (id : List ℕ) (t after : List Entry) (e : Event) (x : Copies t after e) (before : List Attachment) (a : Attachment) (later : List Attachment)
    → copies_for after (link after x.conn.0 x.own x.handle) ≡ before ++ a ∷ later → goes (own_row id t after e) (with_bound (bound_by t after e) after) ≡ after
copied_alone id t after e x before a later copies =
    subst (λ (z : Event). goes (own_row id t after z) (with_bound (bound_by t after z) after) ≡ after) (sym x.came)
    (item_alone id t after x.conn x.item x.phase x.own x.handle x.message x.payload (subst (λ (z : Event). standing (found t z x.conn.0) ≡ Some x.phase) x.came x.stands) x.answer
    x.whole x.fresh x.settled (none_chosen after (link after x.conn.0 x.own x.handle) before a later copies))
