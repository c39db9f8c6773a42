-- How items and events change links: only an attach of the router begins one, on a session, and only on the connection on which it is put out.
use Rattle.std.proofs.Common.{◌≡◌, sym, refl, subst, true≢false, ℕ, Bool, true, false, not, List}
use Rattle.std.specs.Prelude.{◌==◌, Option, Some, None, is_some, option_map, if◌then◌else◌}
use Rattle.std.proofs.lemmas.Bool.{eqb-true}
use Rattle.amqp_model.specs.declared.perf.Perf.{Perf}
use Rattle.amqp_model.specs.declared.perf.Perf.TheVariants as perf
use Rattle.amqp_model.specs.declared.item.Item.{Item}
use Rattle.amqp_model.specs.declared.item.Item.TheVariants as item
use Rattle.router_trace.specs.declared.channel.PeerChannel.{PeerChannel}
use Rattle.router_trace.specs.declared.event.Event.{Event}
use Rattle.router_trace.specs.declared.event.Event.TheVariants as event
use Rattle.router_trace.specs.declared.handle.Asked.{Asked}
use Rattle.router_trace.specs.declared.handle.Attachment.{Attachment}
use Rattle.router_trace.specs.declared.handle.PeerHandle.{PeerHandle}
use Rattle.router_trace.specs.Trace.{Entry}
use Rattle.router_trace.specs.Connection.{after_perf}
use Rattle.router_trace.specs.Sessions.{maps}
use Rattle.router_trace.specs.Links.{Link, link, link_in, link_after, heard_link, link_by, link_at, has_number, is_attached, if_attached, key_at}
use Rattle.router_trace.specs.Order.{Written, begun_after_perf, written_after, is_open, of_session, perf_has_turn, has_turn}
use Rattle.router_core.specs.Attaches.{is_attach_in, is_attach}
use Rattle.state_connections.proofs.Lists.{by_test}
use Rattle.router_core.proofs.RowOrder.{written_of}

mapped_was : (q : Bool) (f : Link → Link) (v : Option Link) → is_some (if q then option_map f v else v) ≡ true → is_some v ≡ true
mapped_was true f None some = some
mapped_was true f (Some l) some = refl
mapped_was false f v some = some

kept_was : (q : Bool) (v : Option Link) → is_some (if q then None else v) ≡ true → is_some v ≡ true
kept_was true v some = absurd cc
kept_was false v some = some

pub none_if : (v : Option Link) → (is_some v ≡ true → ⊥) → v ≡ None
none_if None never = refl
none_if (Some l) never = absurd (never refl)

-- a link that exists after an item that isn't an attach existed before
was_perf : (body : Perf) (own o h n : ℕ) (t : List Entry) (c : ℕ) (last : Option Asked) (v : Option Link)
    → is_attach_in body ≡ false → is_some (link_in body own o h n (key_at t c) last v) ≡ true → is_some v ≡ true
was_perf (perf.Attach a) own o h n t c last v none some = absurd cc
was_perf (perf.Flow f) own o h n t c last v none some = mapped_was _ _ v some
was_perf (perf.Transfer x) own o h n t c last v none some = mapped_was _ _ v some
was_perf (perf.Detach x) own o h n t c last v none some = kept_was _ v some
was_perf (perf.End x) own o h n t c last v none some = kept_was _ v some
was_perf (perf.Close x) own o h n t c last v none some = absurd cc
was_perf _ own o h n t c last v none some = some

pub link_was : (i : Item) (o h n : ℕ) (t : List Entry) (c : ℕ) (last : Option Asked) (v : Option Link)
    → is_attach i ≡ false → is_some (link_after i o h n (key_at t c) last v) ≡ true → is_some v ≡ true
link_was (item.Frame sasl own body payload) o h n t c last v none some = was_perf body own o h n t c last v none some
link_was _ o h n t c last v none some = some

-- a link that exists after an event existed before
heard_was : (body : Perf) (payload : List ℕ) (h : ℕ) (known : ℕ → Option PeerHandle) (v : Option Link) → is_some (heard_link body payload h known v) ≡ true → is_some v ≡ true
heard_was (perf.Flow f) payload h known v some = mapped_was _ _ v some
heard_was (perf.Transfer x) payload h known v some = mapped_was _ _ v some
heard_was _ payload h known v some = some

came_was : (i : Item) (o h : ℕ) (channels : ℕ → Option PeerChannel) (handles : ℕ → Option PeerHandle) (v : Option Link)
    → is_some (link_by i o h channels handles v) ≡ true → is_some v ≡ true
came_was (item.Frame sasl channel body payload) o h channels handles v some =
    by sasl (maps (channels channel) o) (heard_link body payload h handles v) (heard_was body payload h handles v) some
  where
    by : (s m : Bool) (w : Option Link) → (is_some w ≡ true → is_some v ≡ true) → is_some (if s then v else (if m then w else v)) ≡ true → is_some v ≡ true
    by true m w was some = some
    by false true w was some = was some
    by false false w was some = some
came_was _ o h channels handles v some = some

pub linked_before : (e : Event) (c o h : ℕ) (channels : ℕ → Option PeerChannel) (handles : ℕ → Option PeerHandle) (v : Option Link)
    → is_some (link_at e c o h channels handles v) ≡ true → is_some v ≡ true
linked_before (event.Item d i) c o h channels handles v some =
    by_test (d.0 == c) (λ e. came_was i o h channels handles v (rw e at some)) (λ e. rw e at some)
linked_before (event.Down d) c o h channels handles v some = by_test (d.0 == c) (λ e. absurd (true≢false (sym (rw e at some)))) (λ e. rw e at some)
linked_before (event.Up d p) c o h channels handles v some = some
linked_before (event.Tick ms) c o h channels handles v some = some
linked_before event.Start c o h channels handles v some = some

-- a link is on a session
open_still : (q r : Bool) → (if q then r else false) ≡ true → (if q then true else false) ≡ true
open_still true r h = refl
open_still false r h = h

opened_still : (o c r : Bool) → (if (if o then not c else false) then r else false) ≡ true → (if not c then r else false) ≡ true
opened_still true c r h = h
opened_still false c r h = absurd cc

linked_perf : (body : Perf) (w : Written) (own o h n : ℕ) (t : List Entry) (c : ℕ) (last : Option Asked) (v : Option Link)
    → perf_has_turn w own body ≡ true → (is_some v ≡ true → of_session w o ≡ true) → is_some (link_in body own o h n (key_at t c) last v) ≡ true
    → of_session (written_of (after_perf body w.phase) (begun_after_perf body own w.begun)) o ≡ true
linked_perf (perf.Attach a) w own o h n t c last v turn was some =
    by_test (own == o) (λ e. subst (λ (m : ℕ). of_session w m ≡ true) (eqb-true own o e) turn) (λ e. was (rw e at some))
linked_perf (perf.Flow f) w own o h n t c last v turn was some = was (mapped_was _ _ v some)
linked_perf (perf.Transfer x) w own o h n t c last v turn was some = was (mapped_was _ _ v some)
linked_perf (perf.Detach x) w own o h n t c last v turn was some = was (kept_was _ v some)
linked_perf (perf.Begin x) w own o h n t c last v turn was some =
    by_test (own == o) (λ e. rw e (open_still (is_open w.phase) (w.begun o) (was some))) (λ e. rw e (was some))
linked_perf (perf.End x) w own o h n t c last v turn was some =
    by_test (own == o) (λ e. absurd (true≢false (sym (rw e at some)))) (λ e. rw e (was (rw e at some)))
linked_perf (perf.Open x) w own o h n t c last v turn was some = opened_still w.phase.opened w.phase.closed (w.begun o) (was some)
linked_perf (perf.Close x) w own o h n t c last v turn was some = absurd cc
linked_perf _ w own o h n t c last v turn was some = was some

pub linked_more : (i : Item) (w : Written) (o h n : ℕ) (t : List Entry) (c : ℕ) (last : Option Asked) (v : Option Link)
    → has_turn w i ≡ true → (is_some v ≡ true → of_session w o ≡ true) → is_some (link_after i o h n (key_at t c) last v) ≡ true
    → of_session (written_after i w) o ≡ true
linked_more (item.Frame sasl own body payload) w o h n t c last v turn was some = linked_perf body w own o h n t c last v turn was some
linked_more _ w o h n t c last v turn was some = was some

-- the attachment with a key has its link
pub numbered_some : (n : ℕ) (v : Option Link) → has_number n v ≡ true → is_some v ≡ true
numbered_some n None h = h
numbered_some n (Some l) h = refl

pub holder_linked : (t : List Entry) (v : Option Attachment) (x : Attachment) → if_attached t v ≡ Some x → is_some (link t x.conn.0 x.channel x.handle) ≡ true
holder_linked t None x is = absurd cc
holder_linked t (Some a) x is = by_test (is_attached t a) (λ e. same a (rw e at is) e) (λ e. let no : None ≡ Some x = rw e at is in absurd cc)
  where
    same : (a : Attachment) → Some a ≡ Some x → is_attached t a ≡ true → is_some (link t x.conn.0 x.channel x.handle) ≡ true
    same a e h =
        let here : a ≡ x = cc
        in numbered_some x.number (link t x.conn.0 x.channel x.handle) (subst (λ (y : Attachment). is_attached t y ≡ true) here h)
