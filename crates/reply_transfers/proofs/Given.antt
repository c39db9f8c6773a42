-- What a transfer that is taken makes of its delivery, for the link on which it was received.
use Rattle.std.proofs.Common.{◌≡◌, ℕ, Bool, true, false, refl, sym, ap, subst, List, [], Option, Some, None, ◌∷◌}
use Rattle.std.specs.Prelude.{if◌then◌else◌, option_map, unwrap_or, is_some}
use Rattle.amqp_model.specs.declared.item.Item.{Item}
use Rattle.amqp_link.specs.declared.part.Delivery.{Delivery as Told}
use Rattle.book_model.specs.Book.{BookView}
use Rattle.book_model.specs.declared.row.Row.{Row}
use Rattle.book_model.specs.declared.row.RowNumber.{RowNumber}
use Rattle.router_trace.specs.declared.binding.Binding.{Binding}
use Rattle.router_trace.specs.declared.handle.Attachment.{Attachment}
use Rattle.router_trace.specs.Trace.{Trace, Bound, puts}
use Rattle.router_trace.specs.Links.{Link, link}
use Rattle.router_trace.specs.Following.{link_of}
use Rattle.router_trace.specs.declared.binding.Origin.{Origin}
use Rattle.state_messages.specs.Messages.{IsChosen, consumer_of, copies_for, binding_to, binding_for, standing_at, with_bound}
use Rattle.state_messages.proofs.OneOrCopies.{one_or_copies}
use Rattle.router_state.specs.Copying.{copied_to}
use Rattle.router_state.specs.declared.tables.State.{State}
use Rattle.router_state.specs.Tables.{TablesFit}
use Rattle.reply_transfers.specs.Joining.{row_under}
use Rattle.reply_transfers.specs.Transfers.{claimed_id, from_link, fresh_bound, fresh_copied, ignored_put, join_from, joined_if, joined_on, lasts_on, let_down, may_pass, origin_of, resumed_bound, resumed_put, unbound_put, unless_joined, consumer_for, whole_bound, whole_copied, whole_put}

-- what is put and bound for a delivery that isn't resumed, by whether it may be bound
abbrev fresh_put : Trace → ℕ → ℕ → ℕ → Told → Bool → List Item
fresh_put t c own handle d may = unbound_put t c own handle (claimed_id t c own handle d.id) (if may then consumer_of t (link t c own handle) else None)

-- a consumer that was chosen for the link on a handle was chosen for its attachment
pub known_from : (t : Trace) (c own handle : ℕ) (from : Attachment) (known : Option Attachment) (l : Option Link) → l ≡ link t c own handle → Some from ≡ option_map (standing_at c own handle) l
    → IsChosen t (link t c own handle) known → IsChosen t (link_of t from) known
known_from t c own handle from known None here stands chosen = absurd cc
known_from t c own handle from known (Some k) here stands chosen =
    subst (λ (a : Attachment). IsChosen t (link_of t a) known) (sym (is stands)) chosen
  where
    is : Some from ≡ Some (from_link c own handle k) → from ≡ from_link c own handle k
    is e = cc

-- it may not be bound
pub unfit_given : (P : Trace → Type 0) (t : Trace) (c own handle : ℕ) (d : Told) (row : Option RowNumber) (payload : List ℕ) (claimed : Option ℕ)
    → claimed ≡ claimed_id t c own handle d.id → may_pass (lasts_on (link t c own handle)) (claimed_id t c own handle d.id) row ≡ false
    → P (puts c (unbound_put t c own handle claimed None) t)
    → P (puts c (unbound_put t c own handle (claimed_id t c own handle d.id) (consumer_for t c own handle d row)) (with_bound (fresh_bound t c own handle d row payload (link t c own handle)) t))
unfit_given P t c own handle d row payload claimed id unfit fit =
    subst (λ (may : Bool). P (puts c (fresh_put t c own handle d may) (with_bound (by_link may (link t c own handle)) t))) (sym unfit)
    (subst (λ (b : Option Binding). P (puts c (unbound_put t c own handle (claimed_id t c own handle d.id) None) (with_bound b t))) (sym (none (link t c own handle)))
    (subst (λ (q : Option ℕ). P (puts c (unbound_put t c own handle q None) t)) id fit))
  where
    by_link : Bool → Option Link → Option Binding
    by_link may None = None
    by_link may (Some l) =
        if may then binding_for t (from_link c own handle l) (option_map (origin_of (from_link c own handle l)) (claimed_id t c own handle d.id)) row (unwrap_or d.format 0) payload else None

    none : (l : Option Link) → by_link false l ≡ None
    none None = refl
    none (Some l) = refl

-- a message of the link on a handle, that may be bound
pub fresh_given : (P : Trace → Type 0) (t : Trace) (c own handle : ℕ) (d : Told) (row : Option RowNumber) (payload : List ℕ) (claimed : Option ℕ) (format : ℕ) (from : Attachment) (l : Option Link)
    → claimed ≡ claimed_id t c own handle d.id → may_pass (lasts_on (link t c own handle)) (claimed_id t c own handle d.id) row ≡ true
    → format ≡ unwrap_or d.format 0 → Some from ≡ option_map (standing_at c own handle) l → l ≡ link t c own handle
    → P (puts from.conn.0 (unbound_put t from.conn.0 from.channel from.handle claimed (consumer_of t (link_of t from)))
    (with_bound (binding_for t from (option_map (origin_of from) claimed) row format payload) t))
    → P (puts c (unbound_put t c own handle (claimed_id t c own handle d.id) (consumer_for t c own handle d row)) (with_bound (fresh_bound t c own handle d row payload (link t c own handle)) t))
fresh_given P t c own handle d row payload claimed format from None id may as_told stands here fit = absurd cc
fresh_given P t c own handle d row payload claimed format from (Some k) id may as_told stands here fit =
    subst (λ v. P (puts c (unbound_put t c own handle (claimed_id t c own handle d.id) (consumer_for t c own handle d row)) (with_bound (fresh_bound t c own handle d row payload v) t)))
    here
    (subst (λ (b : Bool). P (puts c (fresh_put t c own handle d b)
    (with_bound (if b then binding_for t (from_link c own handle k) (option_map (origin_of (from_link c own handle k)) (claimed_id t c own handle d.id)) row (unwrap_or d.format 0) payload else None) t)))
    (sym may)
    (subst (λ (q : Option ℕ). P (puts c (unbound_put t c own handle q (consumer_of t (link t c own handle)))
    (with_bound (binding_for t (from_link c own handle k) (option_map (origin_of (from_link c own handle k)) q) row (unwrap_or d.format 0) payload) t)))
    id
    (subst (λ (n : ℕ). P (puts c (unbound_put t c own handle claimed (consumer_of t (link t c own handle)))
    (with_bound (binding_for t (from_link c own handle k) (option_map (origin_of (from_link c own handle k)) claimed) row n payload) t)))
    as_told
    (subst (λ (a : Attachment). P (puts a.conn.0 (unbound_put t a.conn.0 a.channel a.handle claimed (consumer_of t (link_of t a)))
    (with_bound (binding_for t a (option_map (origin_of a) claimed) row format payload) t)))
    (is stands) fit))))
  where
    is : Some from ≡ Some (from_link c own handle k) → from ≡ from_link c own handle k
    is e = cc

-- its link isn't attached
pub linkless_given : (P : Trace → Type 0) (t : Trace) (c own handle : ℕ) (d : Told) (row : Option RowNumber) (payload : List ℕ) (claimed : Option ℕ)
    → claimed ≡ claimed_id t c own handle d.id → link t c own handle ≡ None
    → P (puts c (unbound_put t c own handle claimed None) t)
    → P (puts c (unbound_put t c own handle (claimed_id t c own handle d.id) (consumer_for t c own handle d row)) (with_bound (fresh_bound t c own handle d row payload (link t c own handle)) t))
linkless_given P t c own handle d row payload claimed id gone fit =
    subst (λ (b : Option Binding). P (puts c (unbound_put t c own handle (claimed_id t c own handle d.id) (consumer_for t c own handle d row)) (with_bound b t)))
    (sym (ap (fresh_bound t c own handle d row payload) gone))
    (subst (λ (at : Option Attachment). P (puts c (unbound_put t c own handle (claimed_id t c own handle d.id) at) t))
    (sym (nobody (may_pass (lasts_on (link t c own handle)) (claimed_id t c own handle d.id) row)))
    (subst (λ (q : Option ℕ). P (puts c (unbound_put t c own handle q None) t)) id fit))
  where
    none_of : consumer_of t (link t c own handle) ≡ None
    none_of = ap (consumer_of t) gone

    nobody : (may : Bool) → (if may then consumer_of t (link t c own handle) else None) ≡ None
    nobody true = none_of
    nobody false = refl

-- a resumed delivery joins a row, if its link is attached
pub joined_nowhere : (s : State) (t : Trace) (c own handle id : ℕ) (r : Row) (v : Option Link) → None ≡ option_map (standing_at c own handle) v
    → TablesFit s t → TablesFit s (with_bound (joined_on t c own handle id r v) t)
joined_nowhere s t c own handle id r None gone fit = fit
joined_nowhere s t c own handle id r (Some l) gone fit = absurd cc

pub joined_here : (s : State) (t : Trace) (c own handle id : ℕ) (r : Row) (v : Option Link) (from : Attachment) → Some from ≡ option_map (standing_at c own handle) v
    → TablesFit s (Bound (join_from t from id r) ∷ t) → TablesFit s (with_bound (joined_on t c own handle id r v) t)
joined_here s t c own handle id r None from stands fit = absurd cc
joined_here s t c own handle id r (Some l) from stands fit =
    subst (λ (a : Attachment). TablesFit s (Bound (join_from t a id r) ∷ t)) (is stands) fit
  where
    is : Some from ≡ Some (from_link c own handle l) → from ≡ from_link c own handle l
    is e = cc

-- a resumed delivery that its producer hasn't settled, by the row that it finds
abbrev resumed_by : BookView → Trace → ℕ → ℕ → ℕ → Option ℕ → Trace
resumed_by b t c own handle claimed = puts c (resumed_put b t c own handle claimed) (with_bound (resumed_bound b t c own handle claimed (link t c own handle)) t)

abbrev resumed_with : Trace → ℕ → ℕ → ℕ → ℕ → Option Row → Trace
resumed_with t c own handle id v = puts c (unless_joined v (ignored_put t c own handle (Some id))) (with_bound (joined_if t c own handle id v (link t c own handle)) t)

pub settled_given : (s : State) (b : BookView) (t : Trace) (c own handle : ℕ) (claimed : Option ℕ) → claimed ≡ None → TablesFit s t
    → TablesFit s (resumed_by b t c own handle claimed)
settled_given s b t c own handle claimed none fit = subst (λ (q : Option ℕ). TablesFit s (resumed_by b t c own handle q)) (sym none) fit

pub ignored_given : (s : State) (b : BookView) (t : Trace) (c own handle id : ℕ) (claimed : Option ℕ) → claimed ≡ Some id → row_under b t c own id ≡ None
    → TablesFit s (puts c (ignored_put t c own handle (Some id)) t) → TablesFit s (resumed_by b t c own handle claimed)
ignored_given s b t c own handle id claimed some none fit =
    subst (λ (q : Option ℕ). TablesFit s (resumed_by b t c own handle q)) (sym some)
    (subst (λ (v : Option Row). TablesFit s (resumed_with t c own handle id v)) (sym none) fit)

pub joined_given : (s : State) (b : BookView) (t : Trace) (c own handle id : ℕ) (claimed : Option ℕ) (r : Row) → claimed ≡ Some id → row_under b t c own id ≡ Some r
    → TablesFit s (with_bound (joined_on t c own handle id r (link t c own handle)) t) → TablesFit s (resumed_by b t c own handle claimed)
joined_given s b t c own handle id claimed r some row fit =
    subst (λ (q : Option ℕ). TablesFit s (resumed_by b t c own handle q)) (sym some)
    (subst (λ (v : Option Row). TablesFit s (resumed_with t c own handle id v)) (sym row) fit)

-- a whole delivery that is resumed
pub resumed_given : (P : Trace → Type 0) (b : BookView) (t : Trace) (c own handle : ℕ) (d : Told) (row : Option RowNumber) (payload : List ℕ) (claimed : Option ℕ) → d.resume ≡ true
    → claimed ≡ claimed_id t c own handle d.id → P (resumed_by b t c own handle claimed)
    → P (puts c (whole_put b t c own handle d row) (with_bound (whole_bound b t c own handle d row payload) t))
resumed_given P b t c own handle d row payload claimed resumed id fit =
    subst (λ (q : Bool). P (puts c (if q then resumed_put b t c own handle (claimed_id t c own handle d.id)
    else unbound_put t c own handle (claimed_id t c own handle d.id) (consumer_for t c own handle d row))
    (with_bound (if q then resumed_bound b t c own handle (claimed_id t c own handle d.id) (link t c own handle)
    else fresh_bound t c own handle d row payload (link t c own handle)) t))) (sym resumed)
    (subst (λ (q : Option ℕ). P (resumed_by b t c own handle q)) id fit)

-- any other is bound or let down
pub anew_given : (P : Trace → Type 0) (b : BookView) (t : Trace) (c own handle : ℕ) (d : Told) (row : Option RowNumber) (payload : List ℕ) → d.resume ≡ false
    → P (puts c (unbound_put t c own handle (claimed_id t c own handle d.id) (consumer_for t c own handle d row)) (with_bound (fresh_bound t c own handle d row payload (link t c own handle)) t))
    → P (puts c (whole_put b t c own handle d row) (with_bound (whole_bound b t c own handle d row payload) t))
anew_given P b t c own handle d row payload anew fit =
    subst (λ (q : Bool). P (puts c (if q then resumed_put b t c own handle (claimed_id t c own handle d.id)
    else unbound_put t c own handle (claimed_id t c own handle d.id) (consumer_for t c own handle d row))
    (with_bound (if q then resumed_bound b t c own handle (claimed_id t c own handle d.id) (link t c own handle)
    else fresh_bound t c own handle d row payload (link t c own handle)) t))) (sym anew) fit

-- one for which a consumer is chosen is bound, and nothing is put
pub bound_given : (found : State) (t : Trace) (from : Attachment) (claimed : Option ℕ) (row : Option RowNumber) (format : ℕ) (payload : List ℕ) (origin : Option Origin)
    → origin ≡ option_map (origin_of from) claimed → is_some (consumer_of t (link_of t from)) ≡ true → TablesFit found (with_bound (binding_for t from origin row format payload) t)
    → TablesFit found (puts from.conn.0 (unbound_put t from.conn.0 from.channel from.handle claimed (consumer_of t (link_of t from)))
    (with_bound (binding_for t from (option_map (origin_of from) claimed) row format payload) t))
bound_given found t from claimed row format payload origin same some fit = by (consumer_of t (link_of t from)) some fit
  where
    by : (at : Option Attachment) → is_some at ≡ true → TablesFit found (with_bound (option_map (binding_to t origin row format payload) at) t)
        → TablesFit found (puts from.conn.0 (unbound_put t from.conn.0 from.channel from.handle claimed at)
        (with_bound (option_map (binding_to t (option_map (origin_of from) claimed) row format payload) at) t))
    by None is fit = absurd cc
    by (Some at) is fit = subst (λ (o : Option Origin). TablesFit found (Bound (binding_to t o row format payload at) ∷ t)) same fit

-- one for which no consumer is chosen is let down
pub let_down_given : (found left : State) (t : Trace) (from : Attachment) (claimed : Option ℕ) (row : Option RowNumber) (format : ℕ) (payload : List ℕ) (origin : Option Origin)
    → is_some (consumer_of t (link_of t from)) ≡ false → TablesFit found (with_bound (binding_for t from origin row format payload) t)
    → ((u : Trace) → TablesFit found u → TablesFit left (puts from.conn.0 (let_down u from.conn.0 from.channel from.handle claimed) u))
    → TablesFit left (puts from.conn.0 (unbound_put t from.conn.0 from.channel from.handle claimed (consumer_of t (link_of t from)))
    (with_bound (binding_for t from (option_map (origin_of from) claimed) row format payload) t))
let_down_given found left t from claimed row format payload origin none fit down = by (consumer_of t (link_of t from)) none fit
  where
    by : (at : Option Attachment) → is_some at ≡ false → TablesFit found (with_bound (option_map (binding_to t origin row format payload) at) t)
        → TablesFit left (puts from.conn.0 (unbound_put t from.conn.0 from.channel from.handle claimed at)
        (with_bound (option_map (binding_to t (option_map (origin_of from) claimed) row format payload) at) t))
    by None is same = down t same
    by (Some at) is same = absurd cc

-- Copies. A delivery that its producer hasn't settled has none, nor has one whose link isn't attached, nor one that is resumed.
pub unsettled_uncopied : (s : State) (t u : Trace) (c own handle format : ℕ) (payload : List ℕ) (claimed : Option ℕ) (id : ℕ) → claimed ≡ Some id → TablesFit s u
    → TablesFit s (fresh_copied t c own handle format payload claimed u)
unsettled_uncopied s t u c own handle format payload claimed id is fit = subst (λ (q : Option ℕ). TablesFit s (fresh_copied t c own handle format payload q u)) (sym is) fit

pub unlinked_uncopied : (s : State) (t u : Trace) (c own handle format : ℕ) (payload : List ℕ) (claimed : Option ℕ) → link t c own handle ≡ None → TablesFit s u
    → TablesFit s (fresh_copied t c own handle format payload claimed u)
unlinked_uncopied s t u c own handle format payload (Some id) gone fit = fit
unlinked_uncopied s t u c own handle format payload None gone fit = subst (λ (l : Option Link). TablesFit s (copied_to format payload (copies_for t l) u)) (sym gone) fit

-- one that may not be bound is unsettled
pub unfit_uncopied : (s : State) (t u : Trace) (c own handle format : ℕ) (payload : List ℕ) (claimed : Option ℕ) (durable : Bool) (row : Option RowNumber) → may_pass durable claimed row ≡ false
    → TablesFit s u → TablesFit s (fresh_copied t c own handle format payload claimed u)
unfit_uncopied s t u c own handle format payload (Some id) durable row unfit fit = fit
unfit_uncopied s t u c own handle format payload None durable row unfit fit = absurd cc

-- Of one that its producer has settled nothing is put.
nothing_put : (t : Trace) (c own handle : ℕ) (at : Option Attachment) → unbound_put t c own handle None at ≡ []
nothing_put t c own handle None = refl
nothing_put t c own handle (Some at) = refl

pub settled_bound : (s : State) (t : Trace) (from : Attachment) (claimed : Option ℕ) (row : Option RowNumber) (format : ℕ) (payload : List ℕ) → claimed ≡ None
    → TablesFit s (copied_to format payload (copies_for t (link_of t from)) (with_bound (binding_for t from None row format payload) t))
    → TablesFit s (fresh_copied t from.conn.0 from.channel from.handle format payload claimed
    (puts from.conn.0 (unbound_put t from.conn.0 from.channel from.handle claimed (consumer_of t (link_of t from)))
    (with_bound (binding_for t from (option_map (origin_of from) claimed) row format payload) t)))
settled_bound s t from claimed row format payload settled fit =
    subst (λ (q : Option ℕ). TablesFit s (fresh_copied t from.conn.0 from.channel from.handle format payload q
    (puts from.conn.0 (unbound_put t from.conn.0 from.channel from.handle q (consumer_of t (link_of t from)))
    (with_bound (binding_for t from (option_map (origin_of from) q) row format payload) t)))) (sym settled)
    (subst (λ (is : List Item). TablesFit s (copied_to format payload (copies_for t (link_of t from)) (puts from.conn.0 is (with_bound (binding_for t from None row format payload) t))))
    (sym (nothing_put t from.conn.0 from.channel from.handle (consumer_of t (link_of t from)))) fit)

-- It is bound to one consumer, or copied for each.
pub one_given : (s : State) (t : Trace) (from : Attachment) (row : Option RowNumber) (format : ℕ) (payload : List ℕ) → is_some (consumer_of t (link_of t from)) ≡ true
    → TablesFit s (with_bound (binding_for t from None row format payload) t)
    → TablesFit s (copied_to format payload (copies_for t (link_of t from)) (with_bound (binding_for t from None row format payload) t))
one_given s t from row format payload some fit =
    subst (λ (to : List Attachment). TablesFit s (copied_to format payload to (with_bound (binding_for t from None row format payload) t))) (sym (one_or_copies t (link_of t from) some)) fit

pub none_given : (s found : State) (t : Trace) (from : Attachment) (row : Option RowNumber) (format : ℕ) (payload : List ℕ) → is_some (consumer_of t (link_of t from)) ≡ false
    → TablesFit found (with_bound (binding_for t from None row format payload) t)
    → (TablesFit found t → TablesFit s (copied_to format payload (copies_for t (link_of t from)) t))
    → TablesFit s (copied_to format payload (copies_for t (link_of t from)) (with_bound (binding_for t from None row format payload) t))
none_given s found t from row format payload none fit copy = by (consumer_of t (link_of t from)) none fit
  where
    by : (at : Option Attachment) → is_some at ≡ false → TablesFit found (with_bound (option_map (binding_to t None row format payload) at) t)
        → TablesFit s (copied_to format payload (copies_for t (link_of t from)) (with_bound (option_map (binding_to t None row format payload) at) t))
    by None is same = copy same
    by (Some at) is same = absurd cc

-- a copy of the message of the link on a handle
pub fresh_copies : (s : State) (t u : Trace) (c own handle format as_told : ℕ) (payload : List ℕ) (claimed told : Option ℕ) (from : Attachment) (l : Option Link) → l ≡ link t c own handle
    → Some from ≡ option_map (standing_at c own handle) l → format ≡ as_told → claimed ≡ told
    → TablesFit s (fresh_copied t from.conn.0 from.channel from.handle format payload claimed u) → TablesFit s (fresh_copied t c own handle as_told payload told u)
fresh_copies s t u c own handle format as_told payload claimed told from None here stands same id fit = absurd cc
fresh_copies s t u c own handle format as_told payload claimed told from (Some k) here stands same id fit =
    subst (λ (q : Option ℕ). TablesFit s (fresh_copied t c own handle as_told payload q u)) id
    (subst (λ (n : ℕ). TablesFit s (fresh_copied t c own handle n payload claimed u)) same
    (subst (λ (a : Attachment). TablesFit s (fresh_copied t a.conn.0 a.channel a.handle format payload claimed u)) (is stands) fit))
  where
    is : Some from ≡ Some (from_link c own handle k) → from ≡ from_link c own handle k
    is e = cc

-- a whole delivery, resumed or not
pub resumed_uncopied : (s : State) (t u : Trace) (c own handle : ℕ) (d : Told) (payload : List ℕ) → d.resume ≡ true → TablesFit s u → TablesFit s (whole_copied t c own handle d payload u)
resumed_uncopied s t u c own handle d payload is fit =
    subst (λ (q : Bool). TablesFit s (if q then u else fresh_copied t c own handle (unwrap_or d.format 0) payload (claimed_id t c own handle d.id) u)) (sym is) fit

pub anew_copied : (s : State) (t u : Trace) (c own handle : ℕ) (d : Told) (payload : List ℕ) → d.resume ≡ false
    → TablesFit s (fresh_copied t c own handle (unwrap_or d.format 0) payload (claimed_id t c own handle d.id) u) → TablesFit s (whole_copied t c own handle d payload u)
anew_copied s t u c own handle d payload is fit =
    subst (λ (q : Bool). TablesFit s (if q then u else fresh_copied t c own handle (unwrap_or d.format 0) payload (claimed_id t c own handle d.id) u)) (sym is) fit
