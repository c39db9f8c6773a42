-- What the producer's delivery of a row claims, after an event: its id stays claimed until the producer is done with it.
use Rattle.std.proofs.Common.{◌≡◌, ◌∙◌, sym, ap, refl, subst, ◌⊎◌, inl, inr, ℕ, Bool, true, false, not, ◌&&◌, ◌||◌, List, [], ◌∷◌}
use Rattle.std.specs.Prelude.{◌==◌, Option, Some, None, is_some, option_and_then, option_map, if◌then◌else◌}
use Rattle.std.proofs.lemmas.Bool.{eqb-true, eq-eqb}
use Rattle.amqp_model.specs.declared.perf.Disposition.{Disposition}
use Rattle.amqp_model.specs.declared.perf.Perf.{Perf}
use Rattle.amqp_model.specs.declared.perf.Perf.TheVariants as perf
use Rattle.amqp_model.specs.declared.perf.Role.{Role}
use Rattle.amqp_model.specs.declared.perf.Role.TheVariants.{Sender, Receiver}
use Rattle.amqp_model.specs.declared.perf.Transfer.{Transfer}
use Rattle.amqp_model.specs.declared.item.Item.{Item}
use Rattle.amqp_model.specs.declared.item.Item.TheVariants as item
use Rattle.amqp_session.specs.Ranges.{in_range}
use Rattle.router_trace.specs.Connection.{has}
use Rattle.amqp_link.specs.Deliveries.{Frame, delivery as told_of, first}
use Rattle.amqp_link.specs.Receiving.{Received, middle, is_beyond}
use Rattle.router_trace.specs.declared.binding.Origin.{Origin}
use Rattle.router_trace.specs.declared.channel.PeerChannel.{PeerChannel}
use Rattle.router_trace.specs.declared.event.ConnectionId.{ConnectionId}
use Rattle.router_trace.specs.declared.event.Event.{Event}
use Rattle.router_trace.specs.declared.event.Event.TheVariants as event
use Rattle.router_trace.specs.declared.handle.Attachment.{Attachment}
use Rattle.router_trace.specs.declared.handle.PeerHandle.{PeerHandle}
use Rattle.router_trace.specs.declared.handle.PeerHandle.TheVariants as handle
use Rattle.router_trace.specs.Trace.{Entry, Did, Step}
use Rattle.router_trace.specs.Deliveries.{Delivery, acts_found, after_ends, after_event, after_origin, channels_found, delivery, disposed, either_origin, ended, ended_first, forsaken, is_gone_with, is_settled_at, last_of, named, none_if_ended, sender, source, unless_over, untold}
use Rattle.router_trace.specs.Sessions.{maps, theirs}
use Rattle.router_trace.specs.Claims.{Claim, claim, claims, claim_at, claim_by, claim_in, claimed, claimed_by, claimed_in, claimed_later, claimed_on, is_named, settled_by, unless_claimed}
use Rattle.router_trace.specs.Links.{Link, Happened, sends, receives, link, their_handle, is_lost}
use Rattle.state_deliveries.specs.declared.change.Change.{Change}
use Rattle.state_deliveries.specs.declared.change.Change.TheVariants as change
use Rattle.state_deliveries.specs.declared.change.Gone.{Gone}
use Rattle.state_deliveries.specs.declared.change.Gone.TheVariants as gone
use Rattle.state_deliveries.specs.Deciding.{changed_by}
use Rattle.state_deliveries.specs.Stepping.{changed, is_gone}
use Rattle.theorems.proofs.Bindings.{of_what}
use Rattle.theorems.proofs.Begun.{AreBegun, SaidIs, NewSaid, came_said, named_is}
use Rattle.theorems.proofs.Changing.{leaves_by}
use Rattle.theorems.proofs.Claimed.{HasClaim}
use Rattle.theorems.proofs.Facts.{DidClaims}
use Rattle.theorems.proofs.Middles.{Said, said_in, said_first, said_by, said_of}
use Rattle.theorems.proofs.Owning.{ends_it, is_ending}
use Rattle.theorems.proofs.Standing.{place}
use Rattle.theorems.proofs.Tests.{some_same, none_not_some}
use Rattle.theorems.proofs.Undecided.{was_did}

clash : true ≡ false → ⊥
clash e = cc

-- a delivery whose producer isn't done with it comes on a link that no change ends

kept_from : (gone_is : Attachment → Bool) (d : Delivery) (p : Origin) → source (after_origin gone_is d) ≡ Some p → gone_is p.link ≡ false
kept_from gone_is d p from = by (is_gone_with gone_is (sender d)) refl from
  where
    by : (q : Bool) → is_gone_with gone_is (sender d) ≡ q → source (if q then forsaken d else d) ≡ Some p → gone_is p.link ≡ false
    by true e from = absurd (none_not_some from)
    by false e from = sym (ap (λ (o : Option Origin). is_gone_with gone_is (either_origin (either_origin o d.owned) d.early)) from) ∙ e

spared_one : (x : Change) (d : Delivery) (p : Origin) → source (changed x d) ≡ Some p → ends_it x p.link ≡ false
spared_one (change.Ends g closed) d p from = kept_from (is_gone g) (if is_gone g d.link then ended closed d else d) p from
spared_one (change.Untold c o first last) d p from = refl
spared_one (change.Told c o first last) d p from = refl
spared_one (change.Decided c o first last made) d p from = refl

neither : (a b : Bool) → a ≡ false → b ≡ false → (a || b) ≡ false
neither true b e f = e
neither false b e f = f

pub spared_by : (ys : List Change) (d : Delivery) (p : Origin) → source (changed_by ys d) ≡ Some p → is_ending ys p.link ≡ false
spared_by [] d p from = refl
spared_by (x ∷ ys) d p from =
    neither (ends_it x p.link) (is_ending ys p.link) (spared_one x d p ((leaves_by ys (changed x d)).comes p from)) (spared_by ys (changed x d) p from)

ends_place : (x : Change) (a : Attachment) → ends_it x (place a.conn.0 a.channel a.handle) ≡ ends_it x a
ends_place (change.Ends (gone.Link c o h) closed) a = refl
ends_place (change.Ends (gone.Session c o) closed) a = refl
ends_place (change.Ends (gone.Connection c) closed) a = refl
ends_place (change.Untold c o first last) a = refl
ends_place (change.Told c o first last) a = refl
ends_place (change.Decided c o first last made) a = refl

pub ending_place : (ys : List Change) (a : Attachment) → is_ending ys (place a.conn.0 a.channel a.handle) ≡ is_ending ys a
ending_place [] a = refl
ending_place (x ∷ ys) a = λ j. ends_place x a j || ending_place ys a j

-- a disposition of the peer that settles the delivery

settled_gone : (x : Disposition) (c : ℕ) (v : Option PeerChannel) (names : ℕ → Option ℕ) (n : ℕ) (d : Delivery) (p : Origin) (r : Role) → r ≡ Sender → x.settled ≡ true → in_range x.first (last_of x) p.id ≡ true
    → (p.link.conn.0 == c) ≡ true → source (disposed r x c v names n d) ≡ Some p → maps v p.link.channel ≡ false
settled_gone x c v names n d p Receiver is settled listed here from = absurd cc
settled_gone x c v names n d p Sender is settled listed here from = by (is_settled_at x c v (source d)) refl from
  where
    by : (q : Bool) → is_settled_at x c v (source d) ≡ q → source (if q then untold d else d) ≡ Some p → maps v p.link.channel ≡ false
    by true e from = absurd (none_not_some from)
    by false e from = on (maps v p.link.channel) (sym (rw (settled, here, listed) (refl_of (maps v p.link.channel))) ∙ (sym (ap (is_settled_at x c v) from) ∙ e))
      where
        refl_of : (m : Bool) → (true && ((true && m) && true)) ≡ m
        refl_of true = refl
        refl_of false = refl

        on : (m : Bool) → m ≡ false → m ≡ false
        on m e = e

-- what an event leaves of a claim

pub came_claims : (s : Step) (t : List Entry) (ys : List Change) → AreBegun s t ys → ((a : Attachment) → has a.conn.0 (ended_first t) ≡ true → is_ending ys a ≡ true) → DidClaims s t ys
came_claims s t ys begun closes n e p tag now from ours = record {
  claim = v;
  there = ap (claim_at s.event c o (theirs t c) (their_handle t c o) (link t c o) k) ours.there ∙ keeps s.event refl;
  on_link = ours.on_link;
  tagged = ours.tagged;
  apart = λ said is same. still said same (came_said s t c o h said is);
}
  where
    c : ℕ
    c = p.link.conn.0

    o : ℕ
    o = p.link.channel

    h : ℕ
    h = p.link.handle

    k : ℕ
    k = p.id

    v : Claim
    v = ours.claim

    comes : source e ≡ Some p
    comes = (leaves_by ys e).comes p from

    free : is_ending ys p.link ≡ false
    free = spared_by ys e p from

    still : (said : Said) → said.id ≡ Some k → SaidIs s t c o h said → ⊥
    still said same (inl old) = ours.apart said old same
    still said same (inr new) =
        none_not_some (sym ((begun c o h new.x new.first (ending_place ys p.link ∙ free)).fresh k (sym (ap (λ (x : Said). x.id) new.says) ∙ same)) ∙ ours.there)

    -- a transfer
    later : (g : ℕ) (l : Link) (list : Received) (f : Frame) (fs : List Frame) (x : Transfer) → link t c o g ≡ Some l → l.happened ≡ receives list → middle list ≡ f ∷ fs
        → (q : Bool) → is_named (told_of f fs).id k ≡ q → (if q then claimed_later g x (Some v) else Some v) ≡ Some v
    later g l list f fs x there receiving some false e = refl
    later g l list f fs x there receiving some true e = by (v.handle == g) refl
      where
        by : (q : Bool) → (v.handle == g) ≡ q → (if q then claim g v.tag x else Some v) ≡ Some v
        by false f = refl
        by true e2 =
            let same : g ≡ h = sym (eqb-true v.handle g e2) ∙ ours.on_link in
            absurd (ours.apart (said_in (first f fs).transfer)
            (ap (λ (j : ℕ). said_of (link t c o j)) (sym same) ∙ ap said_of there ∙ ap said_by receiving ∙ ap said_first some) (named_is (told_of f fs).id k e))

    by_frames : (g : ℕ) (l : Link) (list : Received) (x : Transfer) → link t c o g ≡ Some l → l.happened ≡ receives list → (fs : List Frame) → middle list ≡ fs
        → claimed_in g x fs (is_beyond list) k (Some v) ≡ Some v
    by_frames g l list x there receiving [] none = by (is_named x.delivery_id k && not (is_beyond list))
      where
        by : (q : Bool) → (if q then Some v else Some v) ≡ Some v
        by true = refl
        by false = refl
    by_frames g l list x there receiving (f ∷ fs) some = later g l list f fs x there receiving some (is_named (told_of f fs).id k) refl

    by_happened : (g : ℕ) (l : Link) (x : Transfer) → link t c o g ≡ Some l → (w : Happened) → l.happened ≡ w → claimed_by g x w k (Some v) ≡ Some v
    by_happened g l x there (sends list) is = refl
    by_happened g l x there (receives list) is = by_frames g l list x there is (middle list) refl

    by_link : (g : ℕ) (x : Transfer) (w : Option Link) → link t c o g ≡ w → claimed_on g x w k (Some v) ≡ Some v
    by_link g x None there = refl
    by_link g x (Some l) there = by_happened g l x there l.happened refl

    by_handle : (x : Transfer) (w : Option PeerHandle) → claimed x w (link t c o) k (Some v) ≡ Some v
    by_handle x None = refl
    by_handle x (Some handle.Detaching) = refl
    by_handle x (Some (handle.Mapped g)) = by_link g x (link t c o g) refl

    -- a disposition
    settles : (d : ConnectionId) (channel : ℕ) (x : Disposition) (payload : List ℕ) → s.event ≡ event.Item d (item.Frame false channel (perf.Disposition x) payload) → (d.0 == c) ≡ true
        → maps (theirs t c channel) o ≡ true → x.role ≡ Sender → x.settled ≡ true → in_range x.first (last_of x) k ≡ true → ⊥
    settles d channel x payload came here session role settled listed = by (has d.0 (ended_first t)) refl
      where
        before : Delivery
        before = (of_what (after_event s.event (channels_found t) (named t) (acts_found t) n) (delivery t n) e now).0

        is_it : source (disposed x.role x d.0 (channels_found t d.0 channel) (named t d.0 before.link.channel) n before) ≡ Some p
        is_it =
            sym (ap (λ (z : Event). source (after_event z (channels_found t) (named t) (acts_found t) n before)) came)
            ∙ sym (ap source (of_what (after_event s.event (channels_found t) (named t) (acts_found t) n) (delivery t n) e now).2) ∙ comes

        conn : c ≡ d.0
        conn = sym (eqb-true d.0 c here)

        unmapped : maps (channels_found t d.0 channel) o ≡ false
        unmapped = settled_gone x d.0 (channels_found t d.0 channel) (named t d.0 before.link.channel) n before p x.role role settled listed (eq-eqb c d.0 conn) is_it

        by : (q : Bool) → has d.0 (ended_first t) ≡ q → ⊥
        by true f = clash (sym (closes p.link (ap (λ (j : ℕ). has j (ended_first t)) conn ∙ f)) ∙ free)
        by false f =
            let last : maps (if has d.0 (ended_first t) then None else theirs t d.0 channel) o ≡ false = unmapped in
            let mapped : maps (theirs t d.0 channel) o ≡ true = ap (λ (j : ℕ). maps (theirs t j channel) o) (sym conn) ∙ session in
            clash (sym mapped ∙ sym (ap (λ (q : Bool). maps (if q then None else theirs t d.0 channel) o) f) ∙ last)

    by_range : (d : ConnectionId) (channel : ℕ) (x : Disposition) (payload : List ℕ) → s.event ≡ event.Item d (item.Frame false channel (perf.Disposition x) payload) → (d.0 == c) ≡ true
        → maps (theirs t c channel) o ≡ true → x.role ≡ Sender → (q : Bool) → x.settled ≡ q → (r : Bool) → in_range x.first (last_of x) k ≡ r → (if q && r then None else Some v) ≡ Some v
    by_range d channel x payload came here session role true e true f = absurd (settles d channel x payload came here session role e f)
    by_range d channel x payload came here session role true e false f = refl
    by_range d channel x payload came here session role false e r f = refl

    by_role : (d : ConnectionId) (channel : ℕ) (x : Disposition) (payload : List ℕ) → s.event ≡ event.Item d (item.Frame false channel (perf.Disposition x) payload) → (d.0 == c) ≡ true
        → maps (theirs t c channel) o ≡ true → (r : Role) → x.role ≡ r → settled_by r x k (Some v) ≡ Some v
    by_role d channel x payload came here session Sender role = by_range d channel x payload came here session role x.settled refl (in_range x.first (last_of x) k) refl
    by_role d channel x payload came here session Receiver role = refl

    heard : (d : ConnectionId) (channel : ℕ) (body : Perf) (payload : List ℕ) → s.event ≡ event.Item d (item.Frame false channel body payload) → (d.0 == c) ≡ true → maps (theirs t c channel) o ≡ true
        → claim_in body (their_handle t c o) (link t c o) k (Some v) ≡ Some v
    heard d channel (perf.Transfer x) payload came here session = by_handle x (their_handle t c o x.handle)
    heard d channel (perf.Disposition x) payload came here session = by_role d channel x payload came here session x.role refl
    heard d channel body payload came here session = refl

    item_here : (d : ConnectionId) (i : Item) → s.event ≡ event.Item d i → (d.0 == c) ≡ true → claim_by i o (theirs t c) (their_handle t c o) (link t c o) k (Some v) ≡ Some v
    item_here d (item.Frame true channel body payload) came here = refl
    item_here d (item.Frame false channel body payload) came here = test (maps (theirs t c channel) o) refl
      where
        test : (q : Bool) → maps (theirs t c channel) o ≡ q → (if q then claim_in body (their_handle t c o) (link t c o) k (Some v) else Some v) ≡ Some v
        test true f = heard d channel body payload came here f
        test false f = refl
    item_here d i came here = refl

    spared : is_lost s.event c ≡ false
    spared = (was_did s t n e now).keeps p comes

    keeps : (z : Event) → s.event ≡ z → claim_at z c o (theirs t c) (their_handle t c o) (link t c o) k (Some v) ≡ Some v
    keeps (event.Item d i) came = test (d.0 == c) refl
      where
        test : (q : Bool) → (d.0 == c) ≡ q → (if q then claim_by i o (theirs t c) (their_handle t c o) (link t c o) k (Some v) else Some v) ≡ Some v
        test true f = item_here d i came f
        test false f = refl
    keeps (event.Down d) came = test (d.0 == c) refl
      where
        test : (q : Bool) → (d.0 == c) ≡ q → (if q then None else Some v) ≡ Some v
        test true f = absurd (clash (sym f ∙ sym (ap (λ (z : Event). is_lost z c) came) ∙ spared))
        test false f = refl
    keeps (event.Up d p) came = refl
    keeps (event.Tick ms) came = refl
    keeps event.Start came = refl
