-- A number of an attachment never comes again, and a link keeps its address: what consumes at an address after an entry did so before, or has a number above all attachments.
use Rattle.std.proofs.Common.{◌≡◌, ◌∙◌, ◌+◌, ◌<◌, ◌≤◌, ◌⊎◌, inl, inr, ℕ, Bool, true, false, refl, sym, ap, subst, List, ◌∷◌, Option, Some, None, arith}
use Rattle.std.specs.Prelude.{◌&&◌, ◌==◌, if◌then◌else◌, bytes_eq, is_some, nat_lt, option_map}
use Rattle.std.proofs.lemmas.Bool.{ltb-true, ltb-false}
use Rattle.amqp_model.specs.declared.perf.Attach.{Attach}
use Rattle.amqp_model.specs.declared.perf.Flow.{Flow}
use Rattle.amqp_model.specs.declared.perf.Perf.{Perf}
use Rattle.amqp_model.specs.declared.perf.Perf.TheVariants as perf
use Rattle.amqp_model.specs.declared.perf.Transfer.{Transfer}
use Rattle.amqp_model.specs.declared.item.Item.{Item}
use Rattle.amqp_model.specs.declared.item.Item.TheVariants as item
use Rattle.book_model.specs.declared.terminus.LinkKey.{LinkKey}
use Rattle.router_trace.specs.declared.channel.PeerChannel.{PeerChannel}
use Rattle.router_trace.specs.declared.event.Event.{Event}
use Rattle.router_trace.specs.declared.event.Event.TheVariants as event
use Rattle.router_trace.specs.declared.handle.Asked.{Asked}
use Rattle.router_trace.specs.declared.handle.Attachment.{Attachment}
use Rattle.router_trace.specs.declared.handle.PeerHandle.{PeerHandle}
use Rattle.router_trace.specs.Following.{link_of}
use Rattle.router_trace.specs.Links.{Link, Happened, sends, receives, address_by, asked, attached, attachments, after_our_flow, after_our_transfer, after_their_flow, after_their_transfer, begins, came_to, ends_handle_in, flowed_from, flowed_to, has_number, heard_link, initial_of, is_handle, is_taken, key_at, link, link_at, link_after, link_by, link_in, names, names_by, numbered, started, their_handle}
use Rattle.router_trace.specs.Sessions.{maps, theirs}
use Rattle.router_trace.specs.Trace.{Trace, Entry, Did, Out, Began, is_opening}
use Rattle.state_links.specs.Fits.{attachment}
use Rattle.state_links.proofs.Numbered.{not_next, old_number}
use Rattle.state_links.proofs.Standing.{stands_where}
use Rattle.state_pools.specs.Fits.{offers}
use Rattle.state_messages.specs.Figures.{figure, figure_at, figure_by, figure_on}
use Rattle.state_messages.specs.Messages.{is_of, last_after, last_chosen}
use Rattle.state_messages.proofs.Seen.{by_test}

-- a link with this number has a consumer at the address
abbrev is_sent_to : List ℕ → List ℕ → Happened → Bool
is_sent_to address at (sends list) = bytes_eq at address
is_sent_to address at (receives list) = false

abbrev consumes : ℕ → List ℕ → Option Link → Bool
consumes n a None = false
consumes n a (Some l) = (l.number == n) && is_sent_to a l.address l.happened

abbrev stands : Trace → ℕ → List ℕ → Option Attachment → Bool
stands t n a None = false
stands t n a (Some at) = consumes n a (link_of t at)

some_if : {X : Type 0} (b : Bool) (x : X) → is_some (if b then Some x else None) ≡ b
some_if true x = refl
some_if false x = refl

by_happened : (t : Trace) (a : List ℕ) (l : Link) (h : Happened) → offers (Some (figure_by t l h)) a ≡ is_sent_to a l.address h
by_happened t a l (sends list) = some_if (bytes_eq l.address a) _
by_happened t a l (receives list) = refl

by_equal : (t : Trace) (a : List ℕ) (l : Link) (b : Bool) → offers (if b then Some (figure_by t l l.happened) else None) a ≡ (b && is_sent_to a l.address l.happened)
by_equal t a l true = by_happened t a l l.happened
by_equal t a l false = refl

on_link : (t : Trace) (n : ℕ) (a : List ℕ) (v : Option Link) → offers (figure_on t n v) a ≡ consumes n a v
on_link t n a None = refl
on_link t n a (Some l) = by_equal t a l (l.number == n)

-- so what a number offers is read from its link
offered_is : (t : Trace) (n : ℕ) (a : List ℕ) → offers (figure t n) a ≡ stands t n a (numbered t n)
offered_is t n a = by_number (numbered t n)
  where
    by_number : (v : Option Attachment) → offers (figure_at t n v) a ≡ stands t n a v
    by_number None = refl
    by_number (Some at) = on_link t n a (link_of t at)

-- a link that isn't such a consumer doesn't become one
if_stays : (n : ℕ) (a : List ℕ) (b : Bool) (x y : Option Link) → consumes n a x ≡ false → consumes n a y ≡ false → consumes n a (if b then x else y) ≡ false
if_stays n a true x y e f = e
if_stays n a false x y e f = f

map_stays : (n : ℕ) (a : List ℕ) (f : Link → Link) → ((l : Link) → consumes n a (Some (f l)) ≡ consumes n a (Some l)) → (v : Option Link)
    → consumes n a v ≡ false → consumes n a (option_map f v) ≡ false
map_stays n a f keeps None e = refl
map_stays n a f keeps (Some l) e = keeps l ∙ e

to_same : (f : Flow) (a at : List ℕ) (h : Happened) → is_sent_to a at (flowed_to f h) ≡ is_sent_to a at h
to_same f a at (sends list) = refl
to_same f a at (receives list) = refl

from_same : (f : Flow) (a at : List ℕ) (h : Happened) → is_sent_to a at (flowed_from f h) ≡ is_sent_to a at h
from_same f a at (sends list) = refl
from_same f a at (receives list) = refl

came_same : (x : Transfer) (payload a at : List ℕ) (h : Happened) → is_sent_to a at (came_to x payload h) ≡ is_sent_to a at h
came_same x payload a at (sends list) = refl
came_same x payload a at (receives list) = refl

started_same : (going_on : Bool) (a at : List ℕ) (h : Happened) → is_sent_to a at (started going_on h) ≡ is_sent_to a at h
started_same going_on a at (sends list) = refl
started_same going_on a at (receives list) = refl

heard_stays : (n : ℕ) (a : List ℕ) (body : Perf) (payload : List ℕ) (h : ℕ) (known : ℕ → Option PeerHandle) (v : Option Link)
    → consumes n a v ≡ false → consumes n a (heard_link body payload h known v) ≡ false
heard_stays n a (perf.Flow f) payload h known v e =
    if_stays n a (names_by f.handle known h) _ _ (map_stays n a (after_their_flow f) (λ l. ap (λ b. (l.number == n) && b) (to_same f a l.address l.happened)) v e) e
heard_stays n a (perf.Transfer x) payload h known v e =
    if_stays n a (names (known x.handle) h) _ _ (map_stays n a (after_their_transfer x payload) (λ l. ap (λ b. (l.number == n) && b) (came_same x payload a l.address l.happened)) v e) e
heard_stays n a _ payload h known v e = e

item_stays : (n : ℕ) (a : List ℕ) (i : Item) (o h : ℕ) (channels : ℕ → Option PeerChannel) (handles : ℕ → Option PeerHandle) (v : Option Link)
    → consumes n a v ≡ false → consumes n a (link_by i o h channels handles v) ≡ false
item_stays n a (item.Frame sasl channel body payload) o h channels handles v e =
    if_stays n a sasl _ _ e (if_stays n a (maps (channels channel) o) _ _ (heard_stays n a body payload h handles v e) e)
item_stays n a _ o h channels handles v e = e

event_stays : (n : ℕ) (a : List ℕ) (x : Event) (c o h : ℕ) (channels : ℕ → Option PeerChannel) (handles : ℕ → Option PeerHandle) (v : Option Link)
    → consumes n a v ≡ false → consumes n a (link_at x c o h channels handles v) ≡ false
event_stays n a (event.Item d i) c o h channels handles v e = if_stays n a (d.0 == c) _ _ (item_stays n a i o h channels handles v e) e
event_stays n a (event.Down d) c o h channels handles v e = if_stays n a (d.0 == c) None v refl e
event_stays n a _ c o h channels handles v e = e

attached_other : (n : ℕ) (a : List ℕ) (number : ℕ) (key : LinkKey) (x : Attach) (last : Option Asked) (address : Option (List ℕ))
    → (number == n) ≡ false → consumes n a (attached number key x last address) ≡ false
attached_other n a number key x last None e = refl
attached_other n a number key x last (Some at) e = ap (λ b. b && is_sent_to a at (begins x.role x.initial_delivery_count (initial_of last))) e

put_stays : (n : ℕ) (a : List ℕ) (body : Perf) (own o h number : ℕ) (key : Attach → LinkKey) (last : Option Asked) (v : Option Link)
    → (number == n) ≡ false → consumes n a v ≡ false → consumes n a (link_in body own o h number key last v) ≡ false
put_stays n a (perf.Attach x) own o h number key last v new e =
    if_stays n a ((own == o) && (x.handle == h)) _ _ (attached_other n a number (key x) x last (address_by x.role x) new) e
put_stays n a (perf.Flow f) own o h number key last v new e =
    if_stays n a ((own == o) && is_handle f.handle h) _ _ (map_stays n a (after_our_flow f) (λ l. ap (λ b. (l.number == n) && b) (from_same f a l.address l.happened)) v e) e
put_stays n a (perf.Transfer x) own o h number key last v new e =
    if_stays n a ((own == o) && (x.handle == h)) _ _ (map_stays n a (after_our_transfer x) (λ l. ap (λ b. (l.number == n) && b) (started_same l.going_on a l.address l.happened)) v e) e
put_stays n a body own o h number key last v new e = if_stays n a (ends_handle_in body own o h) None v refl e

after_stays : (n : ℕ) (a : List ℕ) (i : Item) (o h number : ℕ) (key : Attach → LinkKey) (last : Option Asked) (v : Option Link)
    → (number == n) ≡ false → consumes n a v ≡ false → consumes n a (link_after i o h number key last v) ≡ false
after_stays n a (item.Frame sasl own body payload) o h number key last v new e = put_stays n a body own o h number key last v new e
after_stays n a _ o h number key last v new e = e

entry_stays : (x : Entry) (t : Trace) (n : ℕ) (a : List ℕ) (c o h : ℕ) → n ≤ attachments t → consumes n a (link t c o h) ≡ false → consumes n a (link (x ∷ t) c o h) ≡ false
entry_stays (Did s) t n a c o h low e = event_stays n a s.event c o h (theirs t c) (their_handle t c o) (link t c o h) e
entry_stays (Out d i) t n a c o h low e =
    if_stays n a (d == c) _ _ (after_stays n a i o h (attachments t + 1) (key_at t c) (asked t c) (link t c o h) (not_next (attachments t) n low) e) e
entry_stays (Began g) t n a c o h low e = refl
entry_stays _ t n a c o h low e = e

first : (b c : Bool) → (b && c) ≡ true → b ≡ true
first true c e = refl
first false c e = e

turned : (b c : Bool) → (b ≡ false → c ≡ false) → c ≡ true → b ≡ true
turned true c f e = refl
turned false c f e = sym (f refl) ∙ e

has_if : (n : ℕ) (a : List ℕ) (v : Option Link) → consumes n a v ≡ true → has_number n v ≡ true
has_if n a None e = e
has_if n a (Some l) e = first (l.number == n) (is_sent_to a l.address l.happened) e

-- an attached consumer was there before the last entry, at the same address
stood_before : (x : Entry) (t : Trace) (n : ℕ) (a : List ℕ) → n ≤ attachments t → offers (figure (x ∷ t) n) a ≡ true → offers (figure t n) a ≡ true
stood_before x t n a low e = by_number (numbered (x ∷ t) n) (sym (offered_is (x ∷ t) n a) ∙ e)
  where
    by_number : (v : Option Attachment) → stands (x ∷ t) n a v ≡ true → offers (figure t n) a ≡ true
    by_number None e = absurd cc
    by_number (Some at) e =
        let old : consumes n a (link_of t at) ≡ true =
        turned (consumes n a (link_of t at)) (consumes n a (link_of (x ∷ t) at)) (entry_stays x t n a at.conn.0 at.channel at.handle low) e in
        offered_is t n a ∙ ap (stands t n a) (stands_where t at.conn.0 at.channel at.handle n (has_if n a (link_of t at) old)) ∙ old

-- what consumes in a trace consumed in one before it, or attached since then
abbrev pub Rises : Trace → Trace → Type 0
Rises t w = (n : ℕ) (a : List ℕ) → offers (figure w n) a ≡ true → (offers (figure t n) a ≡ true) ⊎ (attachments t < n)

pub entry_rises : (x : Entry) (t : Trace) → Rises t (x ∷ t)
entry_rises x t n a e = by_test (nat_lt (attachments t) n) (λ l. inr (ltb-true (attachments t) n l)) (λ l. inl (stood_before x t n a (ltb-false (attachments t) n l) e))

-- and where no link and no number changed
pub same_rises : (t w : Trace) → ((n : ℕ) → numbered w n ≡ numbered t n) → ((c o h : ℕ) → link w c o h ≡ link t c o h) → Rises t w
same_rises t w numbers links n a e = inl (offered_is t n a ∙ sym (by_number (numbered t n)) ∙ ap (stands w n a) (sym (numbers n)) ∙ sym (offered_is w n a) ∙ e)
  where
    by_number : (v : Option Attachment) → stands w n a v ≡ stands t n a v
    by_number None = refl
    by_number (Some at) = ap (consumes n a) (links at.conn.0 at.channel at.handle)

-- no entry of a run lowers the count of attachments
at_least : (b : Bool) (n : ℕ) → n ≤ (if b then n + 1 else n)
at_least true n = omega arith
at_least false n = omega arith

pub entry_counts : (x : Entry) (t : Trace) → is_opening x ≡ false → attachments t ≤ attachments (x ∷ t)
entry_counts (Out d i) t run = at_least (is_taken i) (attachments t)
entry_counts (Began g) t run = absurd cc
entry_counts _ t run = omega arith

-- a number that is chosen is that of an attachment
number_below : (t : Trace) (at : Attachment) → has_number at.number (link_of t at) ≡ true → at.number ≤ attachments t
number_below t at has = old_number t at.number (attachment at.number at.conn.0 at.channel at.handle) (stands_where t at.conn.0 at.channel at.handle at.number has)

is_of_has : (a : List ℕ) (v : Option Link) (n : ℕ) → is_of a v n ≡ true → has_number n v ≡ true
is_of_has a None n e = e
is_of_has a (Some l) n e = first (l.number == n) (bytes_eq l.address a) e

pub after_below : (t : Trace) (v : Option Attachment) → ((a : List ℕ) → last_chosen t a ≤ attachments t) → (a : List ℕ) → last_after t v a ≤ attachments t
after_below t None below a = below a
after_below t (Some at) below a = by_test (is_of a (link_of t at) at.number)
    (λ e. subst (λ b. (if b then at.number else last_chosen t a) ≤ attachments t) (sym e) (number_below t at (is_of_has a (link_of t at) at.number e)))
    (λ e. subst (λ b. (if b then at.number else last_chosen t a) ≤ attachments t) (sym e) (below a))
