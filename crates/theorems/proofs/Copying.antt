-- A copy of a message is what came, bound for one of the consumers that get one; each gets one copy, and is a link on which the router sends.
use Rattle.std.proofs.Common.{◌≡◌, ◌∙◌, sym, ap, refl, subst, ℕ, ◌+◌, ◌<◌, Bool, true, false, List, [], ◌∷◌, ◌++◌, arith}
use Rattle.std.specs.Prelude.{◌==◌, filter, if◌then◌else◌, is_some, nat_lt, Option, Some, None, unwrap_or}
use Rattle.std.specs.List.Sorted.{IsStrictlySortedBy}
use Rattle.std.specs.Map.{keys_of}
use Rattle.std.proofs.lemmas.Bool.{eqb-true}
use Rattle.amqp_model.specs.declared.item.Item.{Item}
use Rattle.amqp_model.specs.declared.item.Item.TheVariants as item
use Rattle.amqp_model.specs.declared.perf.Perf.{Perf}
use Rattle.amqp_model.specs.declared.perf.Perf.TheVariants as perf
use Rattle.amqp_link.specs.declared.part.Part.{Part}
use Rattle.amqp_link.specs.declared.part.Part.TheVariants as part
use Rattle.route_credit.specs.Pool.{copies_by}
use Rattle.route_credit.specs.declared.offer.Offer.{Offer}
use Rattle.route_credit.proofs.Entries.{Above, InOrder, is_less}
use Rattle.route_table.specs.declared.sections.Distribution.{Distribution}
use Rattle.route_table.specs.declared.sections.Distribution.TheVariants.{Balanced, Closest, Multicast}
use Rattle.router_trace.specs.declared.event.Event.TheVariants as event
use Rattle.router_trace.specs.declared.handle.Attachment.{Attachment}
use Rattle.router_trace.specs.Configuration.{distribution, is_multicast}
use Rattle.router_trace.specs.Trace.{Trace, Step, Did, Out, Took, Bound, Booked, Routed, Began, goes}
use Rattle.router_trace.specs.Links.{Link, attachments, link, link_place, numbered}
use Rattle.router_trace.specs.Sessions.{theirs}
use Rattle.router_trace.specs.Settling.{part_of}
use Rattle.state_pools.specs.Sharing.{offer_at}
use Rattle.state_pools.proofs.Listed.{listed_ordered}
use Rattle.state_messages.specs.Figures.{figure}
use Rattle.state_messages.specs.Messages.{copies_at, copies_for, copy_to, is_there, places_of, pool_of, with_bound}
use Rattle.state_messages.proofs.Granted.{Pass, listed_pass}
use Rattle.state_messages.proofs.Numbered.{number_is}
use Rattle.router_state.specs.Copying.{copied_to}
use Rattle.reply_rows.specs.declared.answer.Answer.{Answer}
use Rattle.reply_rows.specs.declared.answer.Answer.TheVariants.{Taken}
use Rattle.reply_rows.specs.Acts.{answer_of, found_journal, full_at}
use Rattle.reply_rows.proofs.Transfers.{IfTaken, transfer_taken}
use Rattle.router_reply.specs.Replies.{bound_by, own_row, replied_after}
use Rattle.state_connections.proofs.Lists.{by_test}
use Rattle.router_core.proofs.Copied.{Copies, copied_alone, copied_cases, made}
use Rattle.theorems.specs.Came.{Handled, just_handled, bound_to_since, IsCopied, BindsCopy, CopiesAreForAll, copies}
use Rattle.theorems.proofs.Arriving.{CameAt, came_whole, none_since}
use Rattle.theorems.proofs.Consuming.{by_number}
use Rattle.theorems.proofs.Standing.{Sends}
use Rattle.theorems.proofs.Tests.{none_not_some}

clash : true ≡ false → ⊥
clash e = cc

-- The numbers of consumers with free credit rise.

abbrev Rise : ℕ → List ℕ → Type 0
Rise low [] = Unit {0}
Rise low (n ∷ ns) = (low < n) × Rise n ns

rise_more : (low high : ℕ) (ns : List ℕ) → low < high → Rise high ns → Rise low ns
rise_more low high [] l rise = tt
rise_more low high (n ∷ ns) l rise = (let k : high < n = rise.0 in omega (arith, l, k), rise.1)

free_rise : (low : ℕ) (links : List (ℕ × Offer)) → Above low (keys_of links) → InOrder links → Rise low (keys_of (filter (λ consumer. nat_lt 0 consumer.1.free) links))
unfolding IsStrictlySortedBy
free_rise low [] above ordered = tt
free_rise low (l ∷ ls) above ordered = by (nat_lt 0 l.1.free) (free_rise l.0 ls ordered.0 ordered.1)
  where
    here : low < l.0
    here = is_less low l.0 above.0

    by : (b : Bool) → Rise l.0 (keys_of (filter (λ consumer. nat_lt 0 consumer.1.free) ls))
        → Rise low (keys_of (if b then l ∷ filter (λ consumer. nat_lt 0 consumer.1.free) ls else filter (λ consumer. nat_lt 0 consumer.1.free) ls))
    by true more = (here, more)
    by false more = rise_more low l.0 (keys_of (filter (λ consumer. nat_lt 0 consumer.1.free) ls)) here more

abbrev Ascend : List ℕ → Type 0
Ascend [] = Unit {0}
Ascend (n ∷ ns) = Rise n ns

after_rise : (low : ℕ) (ns : List ℕ) → Rise low ns → Ascend ns
after_rise low [] rise = tt
after_rise low (n ∷ ns) rise = rise.1

free_ascend : (links : List (ℕ × Offer)) → InOrder links → Ascend (keys_of (filter (λ consumer. nat_lt 0 consumer.1.free) links))
unfolding IsStrictlySortedBy
free_ascend [] ordered = tt
free_ascend (l ∷ ls) ordered = by (nat_lt 0 l.1.free) (free_ascend ls ordered.1)
  where
    by : (b : Bool) → Ascend (keys_of (filter (λ consumer. nat_lt 0 consumer.1.free) ls))
        → Ascend (keys_of (if b then l ∷ filter (λ consumer. nat_lt 0 consumer.1.free) ls else filter (λ consumer. nat_lt 0 consumer.1.free) ls))
    by true more = free_rise l.0 ls ordered.0 ordered.1
    by false more = more

-- Each is of a link of the address, to which the router sends.

abbrev Offering : Trace → List ℕ → List ℕ → Type 0
Offering t address [] = Unit {0}
Offering t address (n ∷ ns) = (is_some (offer_at address (figure t n)) ≡ true) × Offering t address ns

free_offer : (t : Trace) (address : List ℕ) (links : List (ℕ × Offer)) → Pass (λ n. is_some (offer_at address (figure t n))) links
    → Offering t address (keys_of (filter (λ consumer. nat_lt 0 consumer.1.free) links))
free_offer t address [] all = tt
free_offer t address (l ∷ ls) all = by (nat_lt 0 l.1.free) (free_offer t address ls all.1)
  where
    by : (b : Bool) → Offering t address (keys_of (filter (λ consumer. nat_lt 0 consumer.1.free) ls))
        → Offering t address (keys_of (if b then l ∷ filter (λ consumer. nat_lt 0 consumer.1.free) ls else filter (λ consumer. nat_lt 0 consumer.1.free) ls))
    by true more = (all.0, more)
    by false more = more

-- both, of those that get copies of a message of an address
record AreChosen (t : Trace) (address ns : List ℕ) : Type 0 where
  ascend : Ascend ns
  offer : Offering t address ns

none_chosen : (t : Trace) (address : List ℕ) → AreChosen t address []
none_chosen t address = record { ascend = tt; offer = tt }

chosen_by : (t : Trace) (address : List ℕ) (d : Distribution) (links : List (ℕ × Offer)) → InOrder links → Pass (λ n. is_some (offer_at address (figure t n))) links
    → AreChosen t address (copies_by d links)
chosen_by t address Balanced links ordered all = none_chosen t address
chosen_by t address Closest links ordered all = none_chosen t address
chosen_by t address Multicast links ordered all = record { ascend = free_ascend links ordered; offer = free_offer t address links all }

are_chosen : (t : Trace) (address : List ℕ) → AreChosen t address (copies_at t address)
unfolding copies_at
are_chosen t address =
    chosen_by t address (distribution t address) (pool_of t address).consumers
    (listed_ordered (λ n. offer_at address (figure t n)) (attachments t)) (listed_pass (λ n. offer_at address (figure t n)) (attachments t))

-- The same of their attachments.

abbrev RiseTo : ℕ → List Attachment → Type 0
RiseTo low [] = Unit {0}
RiseTo low (a ∷ rest) = (low < a.number) × RiseTo a.number rest

abbrev AscendTo : List Attachment → Type 0
AscendTo [] = Unit {0}
AscendTo (a ∷ rest) = RiseTo a.number rest

places_rise : (t : Trace) (low : ℕ) (ns : List ℕ) → Rise low ns → RiseTo low (places_of t ns)
places_rise t low [] rise = tt
places_rise t low (n ∷ ns) rise = by (numbered t n) refl (places_rise t low ns (rise_more low n ns rise.0 rise.1)) (places_rise t n ns rise.1)
  where
    by : (v : Option Attachment) → numbered t n ≡ v → RiseTo low (places_of t ns) → RiseTo n (places_of t ns) → RiseTo low (is_there v ++ places_of t ns)
    by None at more above = more
    by (Some a) at more above =
        let same : a.number ≡ n = number_is t n a at in
        (subst (λ (k : ℕ). low < k) (sym same) rise.0, subst (λ (k : ℕ). RiseTo k (places_of t ns)) (sym same) above)

places_ascend : (t : Trace) (ns : List ℕ) → Ascend ns → AscendTo (places_of t ns)
places_ascend t [] ascend = tt
places_ascend t (n ∷ ns) ascend = by (numbered t n) refl (places_ascend t ns (after_rise n ns ascend))
  where
    by : (v : Option Attachment) → numbered t n ≡ v → AscendTo (places_of t ns) → AscendTo (is_there v ++ places_of t ns)
    by None at more = more
    by (Some a) at more = subst (λ (k : ℕ). RiseTo k (places_of t ns)) (sym (number_is t n a at)) (places_rise t n ns ascend)

abbrev AllSend : Trace → List Attachment → Type 0
AllSend t [] = Unit {0}
AllSend t (a ∷ rest) = Sends t a × AllSend t rest

places_send : (t : Trace) (address ns : List ℕ) → Offering t address ns → AllSend t (places_of t ns)
places_send t address [] all = tt
places_send t address (n ∷ ns) all = by (numbered t n) refl (places_send t address ns all.1)
  where
    by : (v : Option Attachment) → numbered t n ≡ v → AllSend t (places_of t ns) → AllSend t (is_there v ++ places_of t ns)
    by None at more = more
    by (Some a) at more = (by_number t address n a at all.0, more)

send_there : (t : Trace) (before : List Attachment) (a : Attachment) (later : List Attachment) → AllSend t (before ++ a ∷ later) → Sends t a
send_there t [] a later all = all.0
send_there t (b ∷ before) a later all = send_there t before a later all.1

copies_ascend : (t : Trace) (l : Option Link) → AscendTo (copies_for t l)
copies_ascend t None = tt
copies_ascend t (Some l) = places_ascend t (copies_at t l.address) (are_chosen t l.address).ascend

copies_send : (t : Trace) (l : Option Link) → AllSend t (copies_for t l)
copies_send t None = tt
copies_send t (Some l) = places_send t l.address (copies_at t l.address) (are_chosen t l.address).offer

-- the router sends on the link of each of these consumers
pub copy_sends : (t : Trace) (l : Option Link) (before : List Attachment) (a : Attachment) (later : List Attachment) → copies_for t l ≡ before ++ a ∷ later → Sends t a
copy_sends t l before a later those_made = send_there t before a later (subst (AllSend t) those_made (copies_send t l))

-- none of them is another's
abbrev AllOther : ℕ → List Attachment → Type 0
AllOther n [] = Unit {0}
AllOther n (a ∷ rest) = ((a.number == n) ≡ false) × AllOther n rest

less_other : (j k : ℕ) → j < k → (j == k) ≡ false
less_other j k l = by_test (j == k) (λ e. let same : j ≡ k = eqb-true j k e in absurd (omega (arith, l, same))) (λ e. e)

record Others (low : ℕ) (before : List Attachment) (a : Attachment) : Type 0 where
  less : low < a.number
  other : AllOther a.number before

others_rise : (low : ℕ) (before : List Attachment) (a : Attachment) (later : List Attachment) → RiseTo low (before ++ a ∷ later) → Others low before a
others_rise low [] a later rise = record { less = rise.0; other = tt }
others_rise low (b ∷ before) a later rise =
    let rest : Others b.number before a = others_rise b.number before a later rise.1 in
    record { less = below rise.0 rest.less; other = (less_other b.number a.number rest.less, rest.other) }
  where
    below : {i j k : ℕ} → i < j → j < k → i < k
    below l m = omega (arith, l, m)

others_ascend : (before : List Attachment) (a : Attachment) (later : List Attachment) → AscendTo (before ++ a ∷ later) → AllOther a.number before
others_ascend [] a later ascend = tt
others_ascend (b ∷ before) a later ascend =
    let rest : Others b.number before a = others_rise b.number before a later ascend in (less_other b.number a.number rest.less, rest.other)

-- so none gets two copies
none_to : (t : Trace) (h : Handled) (n : ℕ) → just_handled t ≡ Some h → bound_to_since t n ≡ 0
none_to [] h n just = refl
none_to (Did s ∷ t) h n just = refl
none_to (Out c i ∷ t) h n just = none_to t h n just
none_to (Took c k ∷ t) h n just = absurd (none_not_some just)
none_to (Bound b ∷ t) h n just = absurd (none_not_some just)
none_to (Booked acts full ∷ t) h n just = absurd (none_not_some just)
none_to (Routed passage ∷ t) h n just = none_to t h n just
none_to (Began g ∷ t) h n just = absurd (none_not_some just)

copied_other : (format : ℕ) (payload : List ℕ) (before : List Attachment) (n : ℕ) (u : Trace) → AllOther n before → bound_to_since u n ≡ 0 → bound_to_since (copied_to format payload before u) n ≡ 0
copied_other format payload [] n u all none = none
copied_other format payload (b ∷ before) n u all none =
    copied_other format payload before n (Bound (copy_to u format payload b) ∷ u) all.1
    (ap (λ (q : Bool). bound_to_since u n + (if q then 1 else 0)) all.0 ∙ plain (bound_to_since u n) none)
  where
    plain : (k : ℕ) → k ≡ 0 → k + 0 ≡ 0
    plain k e = omega (arith, e)

-- The address is one whose messages go to every consumer.

nothing_made : (a : Attachment) (before later : List Attachment) → [] ≡ before ++ a ∷ later → ⊥
nothing_made a [] later e = absurd cc
nothing_made a (b ∷ before) later e = absurd cc

made_by : (t : Trace) (d : Distribution) (links : List (ℕ × Offer)) (before : List Attachment) (a : Attachment) (later : List Attachment) → places_of t (copies_by d links) ≡ before ++ a ∷ later
    → is_multicast d ≡ true
made_by t Balanced links before a later those_made = absurd (nothing_made a before later those_made)
made_by t Closest links before a later those_made = absurd (nothing_made a before later those_made)
made_by t Multicast links before a later those_made = refl

copies_to_all : (t : Trace) (address : List ℕ) (before : List Attachment) (a : Attachment) (later : List Attachment) → places_of t (copies_at t address) ≡ before ++ a ∷ later
    → is_multicast (distribution t address) ≡ true
unfolding copies_at
copies_to_all t address before a later those_made = made_by t (distribution t address) (pool_of t address).consumers before a later those_made

-- The message came whole, with the event.

abbrev nothing : Option Part
nothing = None

no_part : (sasl : Bool) → (if sasl then nothing else nothing) ≡ nothing
no_part true = refl
no_part false = refl

abbrev Came : (t after : Trace) (s : Step) → Copies t after s.event → Item → Type 0
Came t after s x i =
    s.event ≡ event.Item x.conn i → answer_of t x.conn.0 x.phase i ≡ Taken x.own x.handle → part_of i (link_place t x.conn.0 x.own) ≡ Some (part.Whole x.message x.payload)
    → CameAt t after x.conn.0 x.own x.handle x.message x.payload

copy_came : (t after : Trace) (s : Step) (x : Copies t after s.event) → just_handled after ≡ Some (record { step = s; found = t }) → CameAt t after x.conn.0 x.own x.handle x.message x.payload
copy_came t after s x just = by x.item x.came x.answer x.whole
  where
    by_perf : (sasl : Bool) (channel : ℕ) (body : Perf) (carried : List ℕ) → Came t after s x (item.Frame sasl channel body carried)
    by_perf sasl channel (perf.Transfer y) carried came answer whole =
        came_whole t after s x.conn sasl channel y carried x.own x.handle x.message x.payload came just
        (subst (λ (a : Answer). IfTaken sasl (theirs t x.conn.0 channel) (λ own. link_place t x.conn.0 own y.handle) a) answer
        (transfer_taken (full_at t (event.Item (record { 0 = x.conn.0 }) (item.Frame sasl channel (perf.Transfer y) carried))) (found_journal t).book x.phase t x.conn.0 sasl channel y carried))
        whole
    by_perf sasl channel _ carried came answer whole = absurd (none_not_some (sym (no_part sasl) ∙ whole))

    by : (i : Item) → Came t after s x i
    by (item.Frame sasl channel body carried) = by_perf sasl channel body carried
    by _ = λ came answer whole. absurd (none_not_some whole)

-- What is copied.
is_copied : (t after : Trace) (s : Step) (x : Copies t after s.event) → just_handled after ≡ Some (record { step = s; found = t })
    → (l : Link) → link after x.conn.0 x.own x.handle ≡ Some l → (before : List Attachment) (a : Attachment) (later : List Attachment) → copies_for after (Some l) ≡ before ++ a ∷ later
    → IsCopied after
is_copied t after s x just l at before a later those_made =
    let here : CameAt t after x.conn.0 x.own x.handle x.message x.payload = copy_came t after s x just in
    record {
      conn = x.conn.0;
      own = x.own;
      handle = x.handle;
      message = x.message;
      payload = x.payload;
      came = here.came;
      none_before = none_since after here.came.handled here.came.just;
      not_resumed = x.fresh;
      settled = x.settled;
      producer = l;
      attached = at;
      to_all = copies_to_all after l.address before a later those_made;
    }

-- What a copy is.
pub copy_binds : (id : List ℕ) (t after : Trace) (s : Step) (x : Copies t after s.event) → just_handled after ≡ Some (record { step = s; found = t })
    → (before : List Attachment) (a : Attachment) (later : List Attachment) → copies_for after (link after x.conn.0 x.own x.handle) ≡ before ++ a ∷ later
    → BindsCopy (made x before (goes (own_row id t after s.event) (with_bound (bound_by t after s.event) after)))
    (copy_to (made x before (goes (own_row id t after s.event) (with_bound (bound_by t after s.event) after))) (unwrap_or x.message.format 0) x.payload a)
unfolding is_copied
copy_binds id t after s x just before a later those_made = by (link after x.conn.0 x.own x.handle) refl
  where
    put : Trace
    put = goes (own_row id t after s.event) (with_bound (bound_by t after s.event) after)

    nothing_put : put ≡ after
    nothing_put = copied_alone id t after s.event x before a later those_made

    other : AllOther a.number before
    other = others_ascend before a later (subst AscendTo those_made (copies_ascend after (link after x.conn.0 x.own x.handle)))

    by : (v : Option Link) → link after x.conn.0 x.own x.handle ≡ v → BindsCopy (made x before put) (copy_to (made x before put) (unwrap_or x.message.format 0) x.payload a)
    by None at = absurd (nothing_made a before later (sym (ap (copies_for after) at) ∙ those_made))
    by (Some l) at =
        let those : copies_for after (Some l) ≡ before ++ a ∷ later = sym (ap (copies_for after) at) ∙ those_made in
        record {
          whole = after;
          copied = is_copied t after s x just l at before a later those;
          before = before;
          later = later;
          consumers = those;
          earlier = ap (copied_to (unwrap_or x.message.format 0) x.payload before) nothing_put;
          once = copied_other (unwrap_or x.message.format 0) x.payload before a.number put other
              (ap (λ (w : Trace). bound_to_since w a.number) nothing_put ∙ none_to after (record { step = s; found = t }) a.number just);
          copy = refl;
        }

-- All copies are made, one after another.
pub all_made : (id : List ℕ) (t after : Trace) (s : Step) → just_handled after ≡ Some (record { step = s; found = t }) → CopiesAreForAll after
    → CopiesAreForAll (goes (own_row id t after s.event) (with_bound (bound_by t after s.event) after)) → CopiesAreForAll (replied_after id t after s.event)
unfolding copies_at is_copied
all_made id t after s just before was =
    copied_cases CopiesAreForAll t after s.event put was (λ x. by x (link after x.conn.0 x.own x.handle) refl (copies_for after (link after x.conn.0 x.own x.handle)) refl)
  where
    put : Trace
    put = goes (own_row id t after s.event) (with_bound (bound_by t after s.event) after)

    by : (x : Copies t after s.event) (v : Option Link) → link after x.conn.0 x.own x.handle ≡ v → (ats : List Attachment) → copies_for after (link after x.conn.0 x.own x.handle) ≡ ats
        → CopiesAreForAll (made x ats put)
    by x v at [] those = was
    by x None at (a ∷ later) those = absurd (nothing_made a [] later (sym (ap (copies_for after) at) ∙ those))
    by x (Some l) at (a ∷ later) those =
        let same : copies_for after (Some l) ≡ a ∷ later = sym (ap (copies_for after) at) ∙ those in
        subst (λ (w : Trace). CopiesAreForAll (made x (a ∷ later) w)) (sym (copied_alone id t after s.event x [] a later those))
        (subst (λ (ats : List Attachment). CopiesAreForAll (made x ats after)) same (copies after (is_copied t after s x just l at [] a later same) before))
