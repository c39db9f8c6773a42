-- What an attach puts keeps what holds: the older link with its key is detached, and the new one is attached where nothing was.
use Rattle.std.proofs.Common.{◌||◌, ◌≡◌, ◌∙◌, sym, ap, refl, subst, ℕ, zero, suc, ◌+◌, Bool, true, false, not, ◌&&◌, List, [], ◌∷◌}
use Rattle.std.specs.Prelude.{◌==◌, nat_le, Option, Some, None, is_some, is_none, unwrap_or, if◌then◌else◌}
use Rattle.std.proofs.lemmas.Bool.{eqb-true, eq-eqb}
use Rattle.amqp_model.specs.declared.perf.Attach.{Attach as AnAttach}
use Rattle.amqp_model.specs.declared.perf.Role.{Role}
use Rattle.amqp_model.specs.declared.perf.Role.TheVariants.{Sender, Receiver}
use Rattle.amqp_model.specs.declared.state.UnsettledDelivery.{UnsettledDelivery}
use Rattle.amqp_model.specs.declared.terminus.SourceTerminus.{SourceTerminus}
use Rattle.amqp_model.specs.declared.terminus.TargetTerminus.{TargetTerminus}
use Rattle.amqp_model.specs.declared.item.Item.{Item}
use Rattle.book_model.specs.declared.row.RowNumber.{RowNumber}
use Rattle.book_model.specs.declared.terminus.LinkKey.{LinkKey}
use Rattle.router_trace.specs.declared.binding.Origin.{Origin}
use Rattle.router_trace.specs.declared.condition.Condition.{Condition}
use Rattle.router_trace.specs.declared.condition.Condition.TheVariants.{FrameSizeTooSmall, Stolen}
use Rattle.router_trace.specs.declared.handle.Attachment.{Attachment}
use Rattle.router_trace.specs.Durable.{is_durable}
use Rattle.router_trace.specs.Trace.{Trace, Out, goes, each_to}
use Rattle.router_trace.specs.Deliveries.{Delivery, delivery, source, is_gone_with, after_origin, ended, decided_at_end, suspended_at_end, sender, forsaken, either_origin}
use Rattle.router_trace.specs.LinkFrames.{other, source_answer, target_answer, plain_answer, lasting_by, answer_to, refused_source, refused_target, refusal_of, attach_item, detach_item, fits}
use Rattle.router_trace.specs.Links.{Link, answered_handle, asked, address_by, link, has_number, is_attached, if_attached, key_at, last_of_key, holder, is_free_handle, first_free_below, free_handle, highest_handle, attached, attachments}
use Rattle.router_trace.specs.Peers.{largest_frame}
use Rattle.state_deliveries.specs.declared.change.Change.{Change}
use Rattle.state_deliveries.specs.declared.change.Change.TheVariants as change
use Rattle.state_deliveries.specs.declared.change.Gone.TheVariants as gone
use Rattle.state_deliveries.specs.Stepping.{is_gone, changed}
use Rattle.reply_rows.specs.Booking.{wanted_key}
use Rattle.reply_rows.specs.Acts.{book_in}
use Rattle.reply_rows.specs.Deciding.{stolen_from}
use Rattle.router_reply.specs.Replies.{stolen_by, with_map, attach_answer, taken_after, taken, refused}
use Rattle.state_connections.proofs.Lists.{by_test}
use Rattle.theorems.proofs.Changing.{Alike, leaves_changed, alike_ends}
use Rattle.theorems.proofs.Facts.{RowFact, fact_moved}
use Rattle.theorems.proofs.Keeping.{mapped_key, mapped_handle}
use Rattle.theorems.proofs.Keeps.{Kept, quiet_kept, next_kept}
use Rattle.theorems.proofs.Owning.{is_ending, gone_owned}
use Rattle.theorems.proofs.Standing.{Standing, WasLink, place}
use Rattle.theorems.proofs.Tests.{some_same, none_not_some}

clash : true ≡ false → ⊥
clash e = cc

-- on a handle that is free nothing is attached

free_passes : (n : ℕ) (free : ℕ → Bool) (at k : ℕ) → first_free_below n free at ≡ Some k → free k ≡ true
unfolding first_free_below
free_passes zero free at k is = absurd (none_not_some is)
free_passes (suc n) free at k is =
    by_test (free at)
    (λ e. let first : Some at ≡ Some k = rw e at is in subst (λ (j : ℕ). free j ≡ true) (some_same first) e)
    (λ e. free_passes n free (at + 1) k (rw e at is))

free_is : (most : ℕ) (known : ℕ → Option ℕ) (h : ℕ) → is_free_handle most known h ≡ true → known h ≡ None
free_is most known h is = by (nat_le h most) (known h) is
  where
    by : (b : Bool) (v : Option ℕ) → (if b then is_none v else false) ≡ true → v ≡ None
    by true None e = refl
    by true (Some k) e = absurd (clash (sym e))
    by false v e = absurd (clash (sym e))

pub free_answered : (w : Trace) (c o h : ℕ) → free_handle w c o ≡ Some h → answered_handle w c o h ≡ None
unfolding free_handle
free_answered w c o h is = free_is (unwrap_or (highest_handle w c o) 63) (answered_handle w c o) h (free_passes 64 (is_free_handle (unwrap_or (highest_handle w c o) 63) (answered_handle w c o)) 0 h is)

nothing_there : (w : Trace) → Standing w → (c o h : ℕ) → answered_handle w c o h ≡ None → link w c o h ≡ None
nothing_there w standing c o h none = by (link w c o h) refl
  where
    by : (v : Option Link) → link w c o h ≡ v → v ≡ None
    by None is = refl
    by (Some l) is = absurd (clash (sym (standing.answered c o h l is) ∙ ap is_some none))

-- a place on which nothing is attached is no undecided delivery's, nor a producer's

three : (a b d : Bool) → (a && (b && d)) ≡ true → (a ≡ true) × (b ≡ true) × (d ≡ true)
three true true true h = (refl, refl, refl)
three true true false h = absurd (clash (sym h))
three true false d h = absurd (clash (sym h))
three false b d h = absurd (clash (sym h))

not_on : (w : Trace) (c own handle : ℕ) (a : Attachment) (l : Link) → link w c own handle ≡ None → link w a.conn.0 a.channel a.handle ≡ Some l → ((a.conn.0 == c) && ((own == a.channel) && (handle == a.handle))) ≡ false
not_on w c own handle a l none there = by ((a.conn.0 == c) && ((own == a.channel) && (handle == a.handle))) refl
  where
    by : (b : Bool) → ((a.conn.0 == c) && ((own == a.channel) && (handle == a.handle))) ≡ b → b ≡ false
    by false is = refl
    by true is =
        let e = three (a.conn.0 == c) (own == a.channel) (handle == a.handle) is in
        let same : link w a.conn.0 a.channel a.handle ≡ link w c own handle =
        ap (λ (k : ℕ). link w k a.channel a.handle) (eqb-true a.conn.0 c e.0) ∙ ap (λ (k : ℕ). link w c k a.handle) (sym (eqb-true own a.channel e.1)) ∙ ap (λ (k : ℕ). link w c own k) (sym (eqb-true handle a.handle e.2)) in
        absurd (none_not_some (sym none ∙ sym same ∙ there))

pub attached_link : (a : Attachment) (v : Option Link) → has_number a.number v ≡ true → (l : Link) × (v ≡ Some l) × (l.number ≡ a.number)
attached_link a None h = absurd (clash (sym h))
attached_link a (Some l) h = (l, refl, eqb-true l.number a.number h)

-- a detach there
detached_kept : (w : Trace) (c own handle : ℕ) (closed : Bool) (x : Option Condition) → link w c own handle ≡ None → Kept w [] → Kept (Out c (detach_item own handle closed x) ∷ w) []
detached_kept w c own handle closed x none was =
    quiet_kept c (detach_item own handle closed x) w tt refl
    (λ n d there undecided. let at = was.standing.consumers n d there undecided in not_on w c own handle d.link at.at none at.there) was

-- an older link that is no longer attached

source_ended : (closed : Bool) (d : Delivery) → source (ended closed d) ≡ source d
source_ended closed d = by d.suspended (d.lasting && not closed)
  where
    by : (s l : Bool) → source (if s then d else (if l then suspended_at_end d else decided_at_end d)) ≡ source d
    by true l = refl
    by false true = refl
    by false false = refl

source_spared : (closed : Bool) (gone_is : Attachment → Bool) (d : Delivery) (p : Origin) → source d ≡ Some p → gone_is p.link ≡ false
    → source (after_origin gone_is (if gone_is d.link then ended closed d else d)) ≡ Some p
source_spared closed gone_is d p from spared = by (gone_is d.link)
  where
    kept : (e : Delivery) → source e ≡ Some p → source (after_origin gone_is e) ≡ Some p
    kept e is = on (is_gone_with gone_is (sender e)) (ap (λ (o : Option Origin). is_gone_with gone_is (either_origin (either_origin o e.owned) e.early)) is ∙ spared)
      where
        on : (b : Bool) → b ≡ false → source (if b then forsaken e else e) ≡ Some p
        on true f = absurd (clash f)
        on false f = is

    by : (b : Bool) → source (after_origin gone_is (if b then ended closed d else d)) ≡ Some p
    by true = kept (ended closed d) (source_ended closed d ∙ from)
    by false = kept d from

drop_kept : (u : Trace) (c o h : ℕ) → link u c o h ≡ None → Kept u (change.Ends (gone.Link c o h) false ∷ []) → Kept u []
drop_kept u c o h none was = record {
  law = was.law;
  own = was.own;
  apart = was.apart;
  facts = λ n d r there name. fact n d r there (was.facts n d r there name);
  volatile = λ n d k p there name from. was.volatile n d k p there name (stays n d p there from);
  standing = was.standing;
  named = was.named;
  ordered = was.ordered;
  owned = gone_owned u (x ∷ []) [] (λ a b k over left. gone_link a b k over) was.owned;
}
  where
    x : Change
    x = change.Ends (gone.Link c o h) false

    gone_link : (a b k : ℕ) → is_ending (x ∷ []) (place a b k) ≡ true → link u a b k ≡ None
    gone_link a b k over = by (a == c) refl (o == b) refl (h == k) refl over
      where
        by : (p : Bool) → (a == c) ≡ p → (q : Bool) → (o == b) ≡ q → (r : Bool) → (h == k) ≡ r → ((p && (q && r)) || false) ≡ true → link u a b k ≡ None
        by true e true f true g over =
            ap (λ (n : ℕ). link u n b k) (eqb-true a c e) ∙ ap (λ (n : ℕ). link u c n k) (sym (eqb-true o b f)) ∙ ap (link u c o) (sym (eqb-true h k g)) ∙ none
        by true e true f false g over = absurd (clash (sym over))
        by true e false f r g over = absurd (clash (sym over))
        by false e q f r g over = absurd (clash (sym over))

    stays : (n : ℕ) (d : Delivery) (p : Origin) → delivery u n ≡ Some d → source d ≡ Some p → source (changed x d) ≡ Some p
    stays n d p there from =
        let at = attached_link p.link (link u p.link.conn.0 p.link.channel p.link.handle) (was.standing.producers n d p there from) in
        source_spared false (is_gone (gone.Link c o h)) d p from (not_on u c o h p.link at.0 none at.1)

    fact : (n : ℕ) (d : Delivery) (r : RowNumber) → delivery u n ≡ Some d → RowFact u (book_in u) r (changed x d) → RowFact u (book_in u) r d
    fact n d r there known =
        let settled : d.presettled ≡ false = sym (leaves_changed x d).settled ∙ known.settled in
        let alike : Alike d (changed x d) = alike_ends false (is_gone (gone.Link c o h)) d settled
        (λ undecided. let at = was.standing.consumers n d there undecided in not_on u c o h d.link at.at none at.there) in
        fact_moved u u (book_in u) r (changed x d) d
        (record {
          named = sym alike.named;
          settled = sym alike.settled;
          outcome = sym alike.outcome;
          comes = λ p from. stays n d p there from;
        })
        (λ p key from durable. durable) (λ p tag from has. has) known

-- what the closes leave of the connection on which an attach came

pub record AttachAt (t u : Trace) (c : ℕ) (a : AnAttach) : Type 0 where
  pub key : (h : ℕ) → key_at u c (answer_to a h) ≡ wanted_key t c a
  pub answered : (o h : ℕ) → answered_handle u c o h ≡ answered_handle t c o h
  pub came : is_some (asked u c) ≡ true
  pub last : (k : LinkKey) → last_of_key u k ≡ last_of_key t k
  pub links : (k o h : ℕ) (m : Link) → link u k o h ≡ Some m → WasLink t k o h m

-- an attach that is put

answer_handle : (r : Role) (d : Bool) (p : AnAttach) → (if d then lasting_by r p else p).handle ≡ p.handle
answer_handle Sender true p = refl
answer_handle Receiver true p = refl
answer_handle r false p = refl

handle_is : (a : AnAttach) (h : ℕ) → (answer_to a h).handle ≡ h
handle_is a h = answer_handle (plain_answer a h).role (is_durable (plain_answer a h).role (plain_answer a h)) (plain_answer a h)

never : (b : Bool) → (b && false) ≡ false
never true = refl
never false = refl

put_answer : (w : Trace) (c own largest : ℕ) (ours : List UnsettledDelivery) (a : AnAttach) (k : LinkKey) → ((h : ℕ) → key_at w c (answer_to a h) ≡ k) → holder w k ≡ None → is_some (asked w c) ≡ true → Kept w []
    → Kept (goes (each_to c (attach_answer largest own (free_handle w c own) ours a)) w) []
put_answer w c own largest ours a k keyed none came was = by (free_handle w c own) refl
  where
    answer : ℕ → AnAttach
    answer h = with_map ours (answer_to a h)

    put : (h : ℕ) → answered_handle w c own h ≡ None → (b : Bool)
        → Kept (goes (each_to c (if b then attach_item own (answer h) ∷ [] else detach_item own h (not (is_durable (answer h).role (answer h))) (Some FrameSizeTooSmall) ∷ [])) w) []
    put h free true =
        quiet_kept c (attach_item own (answer h)) w
        (subst (λ (j : ℕ). answered_handle w c own j ≡ None) (sym (mapped_handle ours (answer_to a h) ∙ handle_is a h)) free, came, λ taken. ap (holder w) (mapped_key ours w c (answer_to a h) ∙ keyed h) ∙ none)
        refl (λ n d there undecided. never (d.link.conn.0 == c)) was
    put h free false = detached_kept w c own h (not (is_durable (answer h).role (answer h))) (Some FrameSizeTooSmall) (nothing_there w was.standing c own h free) was

    by : (v : Option ℕ) → free_handle w c own ≡ v → Kept (goes (each_to c (attach_answer largest own v ours a)) w) []
    by None is = was
    by (Some h) is = put h (free_answered w c own h is) (fits largest (attach_item own (answer h)))

-- the link that held the key

pub held_is : (w : Trace) (v : Option Attachment) (x : Attachment) → if_attached w v ≡ Some x → (v ≡ Some x) × (is_attached w x ≡ true)
held_is w None x is = absurd (none_not_some is)
held_is w (Some y) x is =
    by_test (is_attached w y)
    (λ e. let same : Some y ≡ Some x = rw e at is in (same, subst (λ (z : Attachment). is_attached w z ≡ true) (some_same same) e))
    (λ e. absurd (none_not_some (rw e at is)))

pub held_where : (w : Trace) (v : Option Attachment) (x : Attachment) → v ≡ Some x → is_attached w x ≡ true → if_attached w v ≡ Some x
held_where w v x is here = ap (if_attached w) is ∙ ap (λ (b : Bool). if b then Some x else None) here

pub numbered_link : (n : ℕ) (v : Option Link) (l : Link) → v ≡ Some l → l.number ≡ n → has_number n v ≡ true
numbered_link n v l is number = subst (λ (w : Option Link). has_number n w ≡ true) (sym is) (eq-eqb l.number n number)

pub detached_none : (u : Trace) (x : Attachment) (closed : Bool) (e : Option Condition) → link (Out x.conn.0 (detach_item x.channel x.handle closed e) ∷ u) x.conn.0 x.channel x.handle ≡ None
detached_none u x closed e = rw (eq-eqb x.conn.0 x.conn.0 refl, eq-eqb x.channel x.channel refl, eq-eqb x.handle x.handle refl) refl

pub taken_kept : (t u : Trace) (c own : ℕ) (ours : List UnsettledDelivery) (a : AnAttach) → AttachAt t u c a → Kept u (stolen_from (holder t (wanted_key t c a)))
    → Kept (goes (taken u c own ours a) u) []
taken_kept t u c own ours a at was = by (holder u (key_at u c (answer_to a 0))) refl
  where
    key : LinkKey
    key = wanted_key t c a

    moved : (v : Option Attachment) → holder u (key_at u c (answer_to a 0)) ≡ v → holder u key ≡ v
    moved v is = ap (holder u) (sym (at.key 0)) ∙ is

    -- no link holds the key now: the one that did is gone
    gone_one : (b : Attachment) → holder t key ≡ Some b → holder u key ≡ None → link u b.conn.0 b.channel b.handle ≡ None
    gone_one b held none = on (link u b.conn.0 b.channel b.handle) refl
      where
        was_held : (last_of_key t key ≡ Some b) × (is_attached t b ≡ true)
        was_held = held_is t (last_of_key t key) b held

        on : (v : Option Link) → link u b.conn.0 b.channel b.handle ≡ v → v ≡ None
        on None is = refl
        on (Some m) is =
            let old = at.links b.conn.0 b.channel b.handle m is in
            let here = attached_link b (link t b.conn.0 b.channel b.handle) was_held.1 in
            let number : m.number ≡ b.number = old.same.number ∙ ap (λ (l : Link). l.number) (some_same (sym old.there ∙ here.1)) ∙ here.2 in
            let still : holder u key ≡ Some b = held_where u (last_of_key u key) b (at.last key ∙ was_held.0) (numbered_link b.number (link u b.conn.0 b.channel b.handle) m is number) in
            absurd (none_not_some (sym none ∙ still))

    dropped : (v : Option Attachment) → holder t key ≡ v → holder u key ≡ None → Kept u (stolen_from v) → Kept u []
    dropped None held none kept = kept
    dropped (Some b) held none kept = drop_kept u b.conn.0 b.channel b.handle (gone_one b held none) kept

    -- the one that holds it now held it before
    held_before : (x : Attachment) → holder u key ≡ Some x → holder t key ≡ Some x
    held_before x is =
        let now = held_is u (last_of_key u key) x is in
        let here = attached_link x (link u x.conn.0 x.channel x.handle) now.1 in
        let old = at.links x.conn.0 x.channel x.handle here.0 here.1 in
        held_where t (last_of_key t key) x (sym (at.last key) ∙ now.0) (numbered_link x.number (link t x.conn.0 x.channel x.handle) old.before old.there (sym old.same.number ∙ here.2))

    none_then : (x : Attachment) → holder u key ≡ Some x → holder (Out x.conn.0 (detach_item x.channel x.handle false (Some Stolen)) ∷ u) key ≡ None
    none_then x is =
        let w : Trace = Out x.conn.0 (detach_item x.channel x.handle false (Some Stolen)) ∷ u in
        let now = held_is u (last_of_key u key) x is in
        ap (if_attached w) now.0
        ∙ ap (λ (v : Option Link). if has_number x.number v then Some x else None) (detached_none u x false (Some Stolen))

    asked_then : (x : Attachment) → is_some (asked (Out x.conn.0 (detach_item x.channel x.handle false (Some Stolen)) ∷ u) c) ≡ true
    asked_then x = by_test (x.conn.0 == c) (λ e. rw e at.came) (λ e. rw e at.came)

    key_then : (x : Attachment) (h : ℕ) → key_at (Out x.conn.0 (detach_item x.channel x.handle false (Some Stolen)) ∷ u) c (answer_to a h) ≡ key
    key_then x h = by_test (x.conn.0 == c) (λ e. rw e (at.key h)) (λ e. rw e (at.key h))

    by : (v : Option Attachment) → holder u (key_at u c (answer_to a 0)) ≡ v → Kept (goes (taken_after u c own ours a (stolen_by v)) u) []
    by None is = put_answer u c own (largest_frame u c) ours a key at.key (moved None is) at.came (dropped (holder t key) refl (moved None is) was)
    by (Some x) is =
        let holds : holder u key ≡ Some x = moved (Some x) is in
        let out : Item = detach_item x.channel x.handle false (Some Stolen) in
        let first : Kept u (change.Ends (gone.Link x.conn.0 x.channel x.handle) false ∷ []) = subst (λ (v : Option Attachment). Kept u (stolen_from v)) (held_before x holds) was in
        put_answer (Out x.conn.0 out ∷ u) c own (largest_frame u c) ours a key (key_then x) (none_then x holds) (asked_then x)
        (next_kept x.conn.0 out u (change.Ends (gone.Link x.conn.0 x.channel x.handle) false) [] tt refl tt tt tt (λ n d. refl) (λ a e. e) first)

-- an attach that is refused

no_address : (r : Role) (s : Option SourceTerminus) (g : Option TargetTerminus) (p : AnAttach) → address_by (other r) (record p { source = refused_source r s; target = refused_target r g }) ≡ None
no_address Sender s g p = refl
no_address Receiver s g p = refl

refused_none : (u : Trace) (c own handle : ℕ) (a : AnAttach) → link (Out c (attach_item own (refusal_of a handle)) ∷ u) c own handle ≡ None
refused_none u c own handle a =
    rw (eq-eqb c c refl, eq-eqb own own refl, eq-eqb handle handle refl)
    (ap (λ (v : Option (List ℕ)). attached (attachments u + 1) (key_at u c (refusal_of a handle)) (refusal_of a handle) (asked u c) v)
    (no_address a.role (source_answer a.source) (target_answer a.target) (plain_answer a handle)))

pub refused_kept : (t u : Trace) (c own handle largest : ℕ) (x : Condition) (a : AnAttach) → AttachAt t u c a → free_handle t c own ≡ Some handle → Kept u []
    → Kept (goes (each_to c (refused largest own handle x a)) u) []
refused_kept t u c own handle largest x a at free was = by (fits largest (attach_item own (refusal_of a handle)))
  where
    empty : answered_handle u c own handle ≡ None
    empty = at.answered own handle ∙ free_answered t c own handle free

    unaddressed : is_some (address_by (refusal_of a handle).role (refusal_of a handle)) ≡ true → ⊥
    unaddressed is =
        clash (sym is ∙ ap is_some (no_address a.role (source_answer a.source) (target_answer a.target) (plain_answer a handle)))

    by : (b : Bool) → Kept (goes (each_to c (if b then attach_item own (refusal_of a handle) ∷ detach_item own handle true (Some x) ∷ [] else detach_item own handle true (Some x) ∷ [])) u) []
    by true =
        detached_kept (Out c (attach_item own (refusal_of a handle)) ∷ u) c own handle true (Some x) (refused_none u c own handle a)
        (quiet_kept c (attach_item own (refusal_of a handle)) u (empty, at.came, λ taken. absurd (unaddressed taken)) refl (λ n d there undecided. never (d.link.conn.0 == c)) was)
    by false = detached_kept u c own handle true (Some x) (nothing_there u was.standing c own handle empty) was
