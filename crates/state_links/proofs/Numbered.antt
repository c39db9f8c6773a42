-- Attachment numbers: those in a trace are at most its count, and a link that ends or changes never gets a number
-- again.
use Rattle.std.proofs.Common.{◌≡◌, ◌∙◌, ◌+◌, ◌≤◌, ℕ, Bool, true, false, refl, sym, ap, List, [], ◌∷◌, Option, Some, None, arith}
use Rattle.std.specs.Prelude.{◌&&◌, ◌==◌, if◌then◌else◌, option_map, is_some}
use Rattle.std.proofs.lemmas.Bool.{ne_eqb}
use Rattle.amqp_model.specs.declared.perf.Attach.{Attach}
use Rattle.amqp_model.specs.declared.perf.Perf.{Perf}
use Rattle.amqp_model.specs.declared.perf.Perf.TheVariants as perf
use Rattle.amqp_model.specs.declared.item.Item.{Item}
use Rattle.amqp_model.specs.declared.item.Item.TheVariants as item
use Rattle.book_model.specs.declared.terminus.LinkKey.{LinkKey}
use Rattle.router_trace.specs.declared.channel.PeerChannel.{PeerChannel}
use Rattle.router_trace.specs.declared.event.Event.{Event}
use Rattle.router_trace.specs.declared.event.Event.TheVariants as event
use Rattle.router_trace.specs.declared.handle.Asked.{Asked}
use Rattle.router_trace.specs.declared.handle.Attachment.{Attachment}
use Rattle.router_trace.specs.declared.handle.PeerHandle.{PeerHandle}
use Rattle.router_trace.specs.Trace.{Trace, Did, Out, Took, Bound, Booked, Routed, Began, did}
use Rattle.router_trace.specs.Sessions.{theirs, maps}
use Rattle.router_trace.specs.Links.{Link, address_by, is_taken, is_taken_in, attachments, attached, asked, key_at, link, link_in, link_after, link_at, link_by, heard_link, names, names_by, their_handle, is_handle, ends_handle_in, has_number, is_attached, newest_in, newest_by, last_of_key, numbered, same_key, after_their_flow, after_their_transfer, after_our_flow, after_our_transfer}

-- a number that is found is at most the count
bound_if : (taken pass : Bool) (new : Attachment) (n : ℕ) (v : Option Attachment) (a : Attachment) → new.number ≡ n + 1
    → ((b : Attachment) → v ≡ Some b → b.number ≤ n) → (if taken && pass then Some new else v) ≡ Some a → a.number ≤ (if taken then n + 1 else n)
bound_if true true new n v a is old e = newest new a is e
  where
    newest : (new a : Attachment) → new.number ≡ n + 1 → Some new ≡ Some a → a.number ≤ n + 1
    newest new a is e = let same : a.number ≡ n + 1 = sym (ap number e) ∙ is in omega (arith, same)
      where
        number : Option Attachment → ℕ
        number None = 0
        number (Some b) = b.number
bound_if true false new n v a is old e = let below : a.number ≤ n = old a e in omega (arith, below)
bound_if false pass new n v a is old e = old a e

bound_in : (body : Perf) (own c n : ℕ) (passes : Attach → Bool) (v : Option Attachment) (a : Attachment)
    → ((b : Attachment) → v ≡ Some b → b.number ≤ n) → newest_in body own c (n + 1) passes v ≡ Some a → a.number ≤ (if is_taken_in body then n + 1 else n)
bound_in (perf.Attach x) own c n passes v a old e = bound_if (is_some (address_by x.role x)) (passes x) _ n v a refl old e
bound_in _ own c n passes v a old e = old a e

bound_by : (i : Item) (c n : ℕ) (passes : Attach → Bool) (v : Option Attachment) (a : Attachment)
    → ((b : Attachment) → v ≡ Some b → b.number ≤ n) → newest_by i c (n + 1) passes v ≡ Some a → a.number ≤ (if is_taken i then n + 1 else n)
bound_by (item.Frame sasl own body payload) c n passes v a old e = bound_in body own c n passes v a old e
bound_by _ c n passes v a old e = old a e

pub old_key : (t : Trace) (k : LinkKey) (a : Attachment) → last_of_key t k ≡ Some a → a.number ≤ attachments t
old_key [] k a e = absurd cc
old_key (Did s ∷ t) k a e = old_key t k a e
old_key (Out d i ∷ t) k a e = bound_by i d (attachments t) (λ x. same_key (key_at t d x) k) (last_of_key t k) a (old_key t k) e
old_key (Took d n ∷ t) k a e = old_key t k a e
old_key (Bound b ∷ t) k a e = old_key t k a e
old_key (Booked acts full ∷ t) k a e = old_key t k a e
old_key (Routed passage ∷ t) k a e = old_key t k a e
old_key (Began g ∷ t) k a e = absurd cc

pub old_number : (t : Trace) (m : ℕ) (a : Attachment) → numbered t m ≡ Some a → a.number ≤ attachments t
old_number [] m a e = absurd cc
old_number (Did s ∷ t) m a e = old_number t m a e
old_number (Out d i ∷ t) m a e = bound_by i d (attachments t) (λ x. attachments t + 1 == m) (numbered t m) a (old_number t m) e
old_number (Took d n ∷ t) m a e = old_number t m a e
old_number (Bound b ∷ t) m a e = old_number t m a e
old_number (Booked acts full ∷ t) m a e = old_number t m a e
old_number (Routed passage ∷ t) m a e = old_number t m a e
old_number (Began g ∷ t) m a e = absurd cc

-- an item that takes no link doesn't change the newest
newest_in_same : (body : Perf) (own c n : ℕ) (passes : Attach → Bool) (v : Option Attachment) → is_taken_in body ≡ false → newest_in body own c n passes v ≡ v
newest_in_same (perf.Attach x) own c n passes v e = rw e refl
newest_in_same _ own c n passes v e = refl

pub newest_same : (i : Item) (c n : ℕ) (passes : Attach → Bool) (v : Option Attachment) → is_taken i ≡ false → newest_by i c n passes v ≡ v
newest_same (item.Frame sasl own body payload) c n passes v e = newest_in_same body own c n passes v e
newest_same _ c n passes v e = refl

-- a link that doesn't have a number doesn't get it
pub number_if : (n : ℕ) (b : Bool) (x y : Option Link) → has_number n x ≡ false → has_number n y ≡ false → has_number n (if b then x else y) ≡ false
number_if n true x y e f = e
number_if n false x y e f = f

pub number_map : (n : ℕ) (f : Link → Link) → ((l : Link) → (f l).number ≡ l.number) → (v : Option Link) → has_number n v ≡ false → has_number n (option_map f v) ≡ false
number_map n f keeps None e = refl
number_map n f keeps (Some l) e = ap (λ m. m == n) (keeps l) ∙ e

heard_stays : (n : ℕ) (body : Perf) (payload : List ℕ) (h : ℕ) (known : ℕ → Option PeerHandle) (v : Option Link)
    → has_number n v ≡ false → has_number n (heard_link body payload h known v) ≡ false
heard_stays n (perf.Flow f) payload h known v e = number_if n (names_by f.handle known h) _ _ (number_map n (after_their_flow f) (λ l. refl) v e) e
heard_stays n (perf.Transfer x) payload h known v e = number_if n (names (known x.handle) h) _ _ (number_map n (after_their_transfer x payload) (λ l. refl) v e) e
heard_stays n _ payload h known v e = e

item_stays : (n : ℕ) (i : Item) (o h : ℕ) (channels : ℕ → Option PeerChannel) (handles : ℕ → Option PeerHandle) (v : Option Link)
    → has_number n v ≡ false → has_number n (link_by i o h channels handles v) ≡ false
item_stays n (item.Frame sasl channel body payload) o h channels handles v e =
    number_if n sasl _ _ e (number_if n (maps (channels channel) o) _ _ (heard_stays n body payload h handles v e) e)
item_stays n _ o h channels handles v e = e

pub event_stays : (n : ℕ) (x : Event) (c o h : ℕ) (channels : ℕ → Option PeerChannel) (handles : ℕ → Option PeerHandle) (v : Option Link)
    → has_number n v ≡ false → has_number n (link_at x c o h channels handles v) ≡ false
event_stays n (event.Item d i) c o h channels handles v e = number_if n (d.0 == c) _ _ (item_stays n i o h channels handles v e) e
event_stays n (event.Down d) c o h channels handles v e = number_if n (d.0 == c) None v refl e
event_stays n _ c o h channels handles v e = e

pub did_stays : (x : Event) (t : Trace) (a : Attachment) → is_attached t a ≡ false → is_attached (did x ∷ t) a ≡ false
did_stays x t a e = event_stays a.number x a.conn.0 a.channel a.handle (theirs t a.conn.0) (their_handle t a.conn.0 a.channel) (link t a.conn.0 a.channel a.handle) e

pub attached_other : (n number : ℕ) (key : LinkKey) (a : Attach) (last : Option Asked) (address : Option (List ℕ))
    → (number == n) ≡ false → has_number n (attached number key a last address) ≡ false
attached_other n number key a last None e = refl
attached_other n number key a last (Some address) e = e

put_stays : (n : ℕ) (body : Perf) (own o h number : ℕ) (key : Attach → LinkKey) (last : Option Asked) (v : Option Link)
    → (number == n) ≡ false → has_number n v ≡ false → has_number n (link_in body own o h number key last v) ≡ false
put_stays n (perf.Attach a) own o h number key last v new e =
    number_if n ((own == o) && (a.handle == h)) _ _ (attached_other n number (key a) a last (address_by a.role a) new) e
put_stays n (perf.Flow f) own o h number key last v new e =
    number_if n ((own == o) && is_handle f.handle h) _ _ (number_map n (after_our_flow f) (λ l. refl) v e) e
put_stays n (perf.Transfer x) own o h number key last v new e =
    number_if n ((own == o) && (x.handle == h)) _ _ (number_map n (after_our_transfer x) (λ l. refl) v e) e
put_stays n body own o h number key last v new e = number_if n (ends_handle_in body own o h) None v refl e

pub after_stays : (n : ℕ) (i : Item) (o h number : ℕ) (key : Attach → LinkKey) (last : Option Asked) (v : Option Link)
    → (number == n) ≡ false → has_number n v ≡ false → has_number n (link_after i o h number key last v) ≡ false
after_stays n (item.Frame sasl own body payload) o h number key last v new e = put_stays n body own o h number key last v new e
after_stays n _ o h number key last v new e = e

pub not_next : (n m : ℕ) → m ≤ n → (n + 1 == m) ≡ false
not_next n m below = ne_eqb (n + 1) m (λ e. above n m below e)
  where
    above : (n m : ℕ) → m ≤ n → n + 1 ≡ m → ⊥
    above n m below e = omega (arith, below, e)

pub out_stays : (d : ℕ) (i : Item) (t : Trace) (a : Attachment) → a.number ≤ attachments t → is_attached t a ≡ false → is_attached (Out d i ∷ t) a ≡ false
out_stays d i t a below e =
    number_if a.number (d == a.conn.0) _ _
    (after_stays a.number i a.channel a.handle (attachments t + 1) (key_at t a.conn.0) (asked t a.conn.0) (link t a.conn.0 a.channel a.handle) (not_next (attachments t) a.number below) e) e
