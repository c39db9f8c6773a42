-- What holds of a trace in which outcomes are kept first, and which items keep it.
use Rattle.std.proofs.Common.{◌||◌, ◌≡◌, ◌∙◌, sym, ap, refl, inl, inr, ℕ, zero, suc, ◌+◌, Bool, true, false, not, ◌&&◌, List, [], ◌∷◌, ◌++◌}
use Rattle.std.specs.Prelude.{◌==◌, Option, Some, None, option_map}
use Rattle.amqp_model.specs.declared.perf.Disposition.{Disposition}
use Rattle.amqp_model.specs.declared.perf.Perf.{Perf}
use Rattle.amqp_model.specs.declared.perf.Perf.TheVariants as perf
use Rattle.amqp_model.specs.declared.perf.Role.{Role}
use Rattle.amqp_model.specs.declared.perf.Role.TheVariants.{Sender, Receiver}
use Rattle.amqp_model.specs.declared.perf.Transfer.{Transfer}
use Rattle.amqp_model.specs.declared.state.DeliveryState.{DeliveryState}
use Rattle.amqp_model.specs.declared.item.Item.{Item}
use Rattle.amqp_model.specs.declared.item.Item.TheVariants as item
use Rattle.amqp_session.specs.Session.{Session}
use Rattle.book_model.specs.declared.row.Row.{Row as ARow}
use Rattle.book_model.specs.declared.row.RowNumber.{RowNumber}
use Rattle.book_model.specs.Book.{row_at}
use Rattle.gate_journal.specs.Ordered.{IsOrdered}
use Rattle.journal_store.specs.Acting.{journal_outcome}
use Rattle.router_trace.specs.declared.binding.DeliveryName.{DeliveryName}
use Rattle.router_trace.specs.declared.binding.DeliveryName.TheVariants.{Row, Counter}
use Rattle.router_trace.specs.declared.binding.Origin.{Origin}
use Rattle.router_trace.specs.Trace.{Trace, Out, Took, Put, goes, each_to}
use Rattle.router_trace.specs.Connection.{live}
use Rattle.router_trace.specs.DeliveryFrames.{kept_outcome}
use Rattle.router_trace.specs.declared.handle.Attachment.{Attachment}
use Rattle.router_trace.specs.Deliveries.{Delivery, either_origin, source, bindings, has_row, number_named, delivery, sending, is_undecided, ended_by, after_put, rank_at}
use Rattle.router_trace.specs.Following.{is_to_be_told, outcome_to, tell, tells_of, tells, sends_due, drains_due}
use Rattle.router_trace.specs.Claims.{claims}
use Rattle.router_trace.specs.Links.{durable_key, ends_handle_in, link}
use Rattle.router_trace.specs.Sessions.{session}
use Rattle.state_sessions.specs.Windows.{is_narrow, flow_due, flows_below, windows_over, windows}
use Rattle.state_deliveries.specs.declared.change.Change.{Change}
use Rattle.state_deliveries.specs.Deciding.{changed_by}
use Rattle.state_deliveries.specs.Stepping.{changed}
use Rattle.state_messages.specs.Messages.{grants_due}
use Rattle.reply_rows.specs.Acts.{book_in}
use Rattle.state_connections.proofs.Lists.{by_test}
use Rattle.router_core.proofs.Due.{ranked_elim, goes_on_link, AllOnLinks, drains_on}
use Rattle.router_core.proofs.Following.{Steps, passed_on, passed_keeps}
use Rattle.router_core.proofs.Granting.{AllGrants, all_grants}
use Rattle.theorems.specs.Each.{EachOut}
use Rattle.theorems.specs.Told.{TellsOutcome}
use Rattle.theorems.specs.Carried.{HasSmallNumbers}
use Rattle.theorems.specs.OwnRow.{IsOwnRow, role_tells_own, perf_tells_own, TellsItsOwnRow}
use Rattle.theorems.specs.Kept.{IsDecidedAs, RowIsDecided, role_is_decided, perf_is_decided, OutcomeIsKept}
use Rattle.theorems.proofs.Changing.{alike_it, alike_item}
use Rattle.theorems.proofs.Claimed.{HasClaim}
use Rattle.theorems.proofs.Facts.{kept_form, FromTerminus, KeptAs, Agrees, Facts, FactsOf, out_facts, took_facts}
use Rattle.theorems.proofs.Owning.{Owned, ends_it, is_ending, out_owned, took_owned}
use Rattle.theorems.proofs.Naming.{AreNamed, is_sent_in, is_sent, out_named, IsNaming, sent_named, sends_elim}
use Rattle.theorems.proofs.Quiet.{drains_quiet}
use Rattle.theorems.proofs.Sound.{is_loud_in, is_loud, QuietPut}
use Rattle.theorems.proofs.Standing.{Standing, fresh_in, IsFresh, out_standing, took_standing}
use Rattle.theorems.proofs.Followed.{item_left}
use Rattle.theorems.proofs.Undecided.{Comes, comes_left, comes_frames}
use Rattle.theorems.proofs.Volatile.{Volatile, VolatileOf, TellsVolatile, item_volatile, out_all_volatile, took_all_volatile}

clash : true ≡ false → ⊥
clash e = cc

-- after an entry of an event, while these changes of it are still to come
pub record Kept (t : Trace) (xs : List Change) : Type 0 where
  pub law : EachOut OutcomeIsKept t
  pub own : EachOut TellsItsOwnRow t
  pub apart : EachOut TellsVolatile t
  pub facts : Facts t xs
  pub volatile : Volatile t xs
  pub standing : Standing t
  pub named : AreNamed t
  pub ordered : IsOrdered (book_in t)
  pub owned : Owned t xs

-- after the acts of an event, before its entry, which gives deliveries outcomes first
pub record Ahead (t : Trace) (g : Delivery → Delivery) (xs : List Change) : Type 0 where
  pub law : EachOut OutcomeIsKept t
  pub own : EachOut TellsItsOwnRow t
  pub apart : EachOut TellsVolatile t
  pub facts : FactsOf t g xs
  pub volatile : VolatileOf t g xs
  pub standing : Standing t
  pub named : AreNamed t
  pub ordered : IsOrdered (book_in t)
  pub owned : Owned t []

-- the law of an item, where no change is to come

decided_as : (t : Trace) (v : Option ARow) (d : Delivery) (p : Origin) (s : DeliveryState) (told : Option DeliveryState) → source d ≡ Some p → d.outcome ≡ Some s → told ≡ Some (kept_outcome s)
    → Agrees t (book_in t) v d → IsDecidedAs v told
decided_as t None d p s told from decided is agrees = agrees p from
decided_as t (Some row) d p s told from decided is agrees = by agrees.outcome
  where
    by : KeptAs row.outcome d.outcome → IsDecidedAs (Some row) told
    by (inl kept) = inl (kept ∙ ap (option_map kept_form) decided ∙ sym (ap (option_map journal_outcome) is))
    by (inr kept) = inr (is ∙ ap (option_map kept_outcome) (sym (kept ∙ decided)))

row_decided : (t : Trace) (c own : ℕ) (x : Disposition) → Facts t [] → (report : TellsOutcome t c own x) → (name : DeliveryName) → report.of.name ≡ name → RowIsDecided (book_in t) name x.state
row_decided t c own x facts report (Counter k) is = tt
row_decided t c own x facts report (Row r) is =
    decided_as t (row_at r.0 (book_in t).rows) report.of report.origin report.outcome x.state (ap (λ (o : Option Origin). either_origin o report.of.told) report.producer) report.was_decided report.told
    (facts report.number report.of r report.there is).agrees

role_decided : (role : Role) (t : Trace) (c own : ℕ) (x : Disposition) → Facts t [] → role_is_decided role t c own x
role_decided Receiver t c own x facts = λ report. row_decided t c own x facts report report.of.name refl
role_decided Sender t c own x facts = tt

perf_decided : (body : Perf) (t : Trace) (c own : ℕ) → Facts t [] → perf_is_decided body t c own
perf_decided (perf.Disposition x) t c own facts = role_decided x.role t c own x facts
perf_decided _ t c own facts = tt

item_decided : (i : Item) (t : Trace) (c : ℕ) → Facts t [] → OutcomeIsKept t c i
item_decided (item.Frame sasl own body payload) t c facts = perf_decided body t c own facts
item_decided _ t c facts = tt

-- the row is that of the producer that is told

own_row : (t : Trace) (c own : ℕ) (x : Disposition) (report : TellsOutcome t c own x) (r : RowNumber) (v : Option ARow) → row_at r.0 (book_in t).rows ≡ v → Agrees t (book_in t) v report.of
    → IsOwnRow t c own report.origin.link.handle x.first r
own_row t c own x report r v there agrees = by v there agrees
  where
    p : Origin
    p = report.origin

    from : source report.of ≡ Some p
    from = ap (λ (o : Option Origin). either_origin o report.of.told) report.producer

    by : (v : Option ARow) → row_at r.0 (book_in t).rows ≡ v → Agrees t (book_in t) v report.of → IsOwnRow t c own p.link.handle x.first r
    by None there agrees = absurd (agrees p from)
    by (Some row) there agrees =
        let at : FromTerminus t (book_in t) p row.producer.0 = agrees.from p from in
        let has : HasClaim t p row.tag.items = agrees.claimed p from in
        record {
          row = row;
          in_the_book = there;
          unforgotten = agrees.waits p from;
          key = at.key;
          durable = ap (λ (k : ℕ). durable_key (link t k own p.link.handle)) (sym report.on_connection)
              ∙ ap (λ (k : ℕ). durable_key (link t p.link.conn.0 k p.link.handle)) (sym report.on_session) ∙ at.durable;
          terminus = at.at;
          of_key = at.found;
          its_producer = sym at.number;
          claim = has.claim;
          claimed = ap (λ (k : ℕ). claims t k own x.first) (sym report.on_connection) ∙ ap (λ (k : ℕ). claims t p.link.conn.0 k x.first) (sym report.on_session)
              ∙ ap (claims t p.link.conn.0 p.link.channel) (sym report.its_id) ∙ has.there;
          on_link = has.on_link;
          same_tag = has.tagged;
        }

role_own : (role : Role) (t : Trace) (c own : ℕ) (x : Disposition) → Facts t [] → role_tells_own role t c own x
role_own Receiver t c own x facts = λ report r is. own_row t c own x report r (row_at r.0 (book_in t).rows) refl (facts report.number report.of r report.there is).agrees
role_own Sender t c own x facts = tt

perf_own : (body : Perf) (t : Trace) (c own : ℕ) → Facts t [] → perf_tells_own body t c own
perf_own (perf.Disposition x) t c own facts = role_own x.role t c own x facts
perf_own _ t c own facts = tt

item_own : (i : Item) (t : Trace) (c : ℕ) → Facts t [] → TellsItsOwnRow t c i
item_own (item.Frame sasl own body payload) t c facts = perf_own body t c own facts
item_own _ t c facts = tt

-- items

no_ending : (a : Attachment) → is_ending [] a ≡ true → is_ending [] a ≡ false → ⊥
no_ending a e f = absurd (clash (sym e))

no_more : (q : Bool) → q ≡ true → q ≡ false → ⊥
no_more q e f = absurd (clash (sym e ∙ f))

next_one : (a b : Bool) → (a || b) ≡ true → b ≡ false → a ≡ true
next_one true b e f = refl
next_one false b e f = absurd (clash (sym e ∙ f))

abbrev pub Spares : Trace → ℕ → Item → Type 0
Spares t c i = (n : ℕ) (d : Delivery) → delivery t n ≡ Some d → is_undecided d ≡ true → ended_by i c d.link ≡ false

pub quiet_kept : (c : ℕ) (i : Item) (t : Trace) → IsFresh t c i → is_sent i ≡ false → Spares t c i → Kept t [] → Kept (Out c i ∷ t) []
quiet_kept c i t fresh quiet spares was = record {
  law = (item_decided i t c was.facts, was.law);
  own = (item_own i t c was.facts, was.own);
  apart = (item_volatile i t c was.volatile, was.apart);
  facts = out_facts c i t [] [] was.standing fresh (λ n d there settled. alike_item (number_named t) i c n (sending t c) d settled (spares n d there)) was.facts;
  volatile = out_all_volatile c i t [] [] was.standing fresh (λ n d. item_left Comes comes_left comes_frames (number_named t) i c n (sending t c) d) was.volatile;
  standing = out_standing c i t fresh was.standing;
  named = out_named c i t quiet was.named;
  ordered = was.ordered;
  owned = out_owned c i t [] [] fresh was.standing (λ a e f. absurd (no_ending a e f)) was.owned;
}

-- one that is the next of the changes to come, and one that changes nothing
pub next_kept : (c : ℕ) (i : Item) (t : Trace) (x : Change) (ys : List Change) → IsFresh t c i → is_sent i ≡ false → OutcomeIsKept t c i → TellsItsOwnRow t c i → TellsVolatile t c i
    → ((n : ℕ) (d : Delivery) → after_put (number_named t) i c n (sending t c) d ≡ changed x d) → ((a : Attachment) → ends_it x a ≡ true → ended_by i c a ≡ true) → Kept t (x ∷ ys) → Kept (Out c i ∷ t) ys
next_kept c i t x ys fresh quiet keeps owns apart is ends was = record {
  law = (keeps, was.law);
  own = (owns, was.own);
  apart = (apart, was.apart);
  facts = out_facts c i t (x ∷ ys) ys was.standing fresh (λ n d there settled. alike_it (changed_by ys (changed x d)) (changed_by ys (after_put (number_named t) i c n (sending t c) d)) (ap (changed_by ys) (is n d))) was.facts;
  volatile = out_all_volatile c i t (x ∷ ys) ys was.standing fresh (λ n d p from. ap (λ (e : Delivery). source (changed_by ys e)) (sym (is n d)) ∙ from) was.volatile;
  standing = out_standing c i t fresh was.standing;
  named = out_named c i t quiet was.named;
  ordered = was.ordered;
  owned = out_owned c i t (x ∷ ys) ys fresh was.standing (λ a e f. ends a (next_one (ends_it x a) (is_ending ys a) e f)) was.owned;
}

pub same_kept : (c : ℕ) (i : Item) (t : Trace) (ys : List Change) → IsFresh t c i → is_sent i ≡ false → OutcomeIsKept t c i → TellsItsOwnRow t c i → TellsVolatile t c i
    → ((n : ℕ) (d : Delivery) → after_put (number_named t) i c n (sending t c) d ≡ d) → Kept t ys → Kept (Out c i ∷ t) ys
same_kept c i t ys fresh quiet keeps owns apart is was = record {
  law = (keeps, was.law);
  own = (owns, was.own);
  apart = (apart, was.apart);
  facts = out_facts c i t ys ys was.standing fresh (λ n d there settled. alike_it (changed_by ys d) (changed_by ys (after_put (number_named t) i c n (sending t c) d)) (ap (changed_by ys) (is n d))) was.facts;
  volatile = out_all_volatile c i t ys ys was.standing fresh (λ n d p from. ap (λ (e : Delivery). source (changed_by ys e)) (sym (is n d)) ∙ from) was.volatile;
  standing = out_standing c i t fresh was.standing;
  named = out_named c i t quiet was.named;
  ordered = was.ordered;
  owned = out_owned c i t ys ys fresh was.standing (λ a e f. absurd (no_more (is_ending ys a) e f)) was.owned;
}

-- plain items attach nothing, send nothing, and end no link

abbrev pub is_plain_in : Perf → Bool
is_plain_in (perf.Attach a) = false
is_plain_in (perf.Transfer x) = false
is_plain_in (perf.Detach x) = false
is_plain_in (perf.End x) = false
is_plain_in (perf.Close x) = false
is_plain_in _ = true

abbrev pub is_plain : Item → Bool
is_plain (item.Frame sasl own body payload) = is_plain_in body
is_plain _ = true

plain_fresh : (body : Perf) (t : Trace) (c own : ℕ) → is_plain_in body ≡ true → fresh_in body t c own
plain_fresh (perf.Attach a) t c own plain = absurd (clash (sym plain))
plain_fresh _ t c own plain = tt

plain_sent : (body : Perf) → is_plain_in body ≡ true → is_sent_in body ≡ false
plain_sent (perf.Transfer x) plain = absurd (clash (sym plain))
plain_sent _ plain = refl

plain_ends : (body : Perf) (own o h : ℕ) → is_plain_in body ≡ true → ends_handle_in body own o h ≡ false
plain_ends (perf.Detach x) own o h plain = absurd (clash (sym plain))
plain_ends (perf.End x) own o h plain = absurd (clash (sym plain))
plain_ends (perf.Close x) own o h plain = absurd (clash (sym plain))
plain_ends _ own o h plain = refl

never : (b : Bool) → (b && false) ≡ false
never true = refl
never false = refl

pub plain_kept : (c : ℕ) (i : Item) (t : Trace) → is_plain i ≡ true → Kept t [] → Kept (Out c i ∷ t) []
plain_kept c (item.Frame sasl own body payload) t plain was =
    quiet_kept c (item.Frame sasl own body payload) t (plain_fresh body t c own plain) (plain_sent body plain)
    (λ n d there undecided. ap (λ (b : Bool). (d.link.conn.0 == c) && b) (plain_ends body own d.link.channel d.link.handle plain) ∙ never (d.link.conn.0 == c)) was
plain_kept c (item.Header id major minor revision) t plain was = quiet_kept c (item.Header id major minor revision) t tt refl (λ n d there undecided. never (d.link.conn.0 == c)) was
plain_kept c (item.Beat channel) t plain was = quiet_kept c (item.Beat channel) t tt refl (λ n d there undecided. never (d.link.conn.0 == c)) was
plain_kept c (item.Bad f) t plain was = quiet_kept c (item.Bad f) t tt refl (λ n d there undecided. never (d.link.conn.0 == c)) was

abbrev pub Plain : List Item → Type 0
Plain [] = Unit {0}
Plain (i ∷ is) = (is_plain i ≡ true) × Plain is

abbrev pub PlainPut : List Put → Type 0
PlainPut [] = Unit {0}
PlainPut (p ∷ ps) = (is_plain p.item ≡ true) × PlainPut ps

pub plain_to : (c : ℕ) (is : List Item) → Plain is → PlainPut (each_to c is)
plain_to c [] plain = tt
plain_to c (i ∷ is) plain = (plain.0, plain_to c is plain.1)

pub plain_both : (ps qs : List Put) → PlainPut ps → PlainPut qs → PlainPut (ps ++ qs)
plain_both [] qs first rest = rest
plain_both (p ∷ ps) qs first rest = (first.0, plain_both ps qs first.1 rest)

pub plain_goes : (ps : List Put) (t : Trace) → PlainPut ps → Kept t [] → Kept (goes ps t) []
plain_goes [] t plain was = was
plain_goes (p ∷ ps) t plain was = plain_goes ps (Out p.conn p.item ∷ t) plain.1 (plain_kept p.conn p.item t plain.0 was)

pub took_kept : (c k : ℕ) (t : Trace) → Kept t [] → Kept (Took c k ∷ t) []
took_kept c k t was = record {
  law = was.law;
  own = was.own;
  apart = was.apart;
  facts = took_facts c k t [] was.facts;
  volatile = took_all_volatile c k t [] was.volatile;
  standing = took_standing c k t was.standing;
  named = was.named;
  ordered = was.ordered;
  owned = took_owned c k t [] was.owned;
}

-- what follows an event's rows

told_plain : (p : Option Origin) (settled : Bool) (s : Option DeliveryState) → PlainPut (outcome_to p settled s)
told_plain None settled s = tt
told_plain (Some p) settled None = tt
told_plain (Some p) settled (Some s) = (refl, tt)

tell_plain : (v : Option Delivery) → PlainPut (tell v)
tell_plain None = tt
tell_plain (Some d) = told_plain d.origin (not (has_row d.name)) d.outcome

tells_plain : (t : Trace) → PlainPut (tells t)
tells_plain t = ranked_elim (rank_at t) (bindings t + 1) (λ n. is_to_be_told t (delivery t n)) (λ x. PlainPut (tells_of t x)) tt (λ n e. tell_plain (delivery t n))

flow_plain : (body : Perf) → goes_on_link body ≡ true → is_loud_in body ≡ false → is_plain_in body ≡ true
flow_plain (perf.Flow f) kind quiet = refl
flow_plain (perf.Transfer x) kind quiet = absurd (clash quiet)
flow_plain (perf.Disposition x) kind quiet = refl
flow_plain _ kind quiet = absurd (clash (sym kind))

on_plain : (t : Trace) (ps : List Put) → AllOnLinks t ps → QuietPut ps → PlainPut ps
on_plain t [] on quiet = tt
on_plain t (p ∷ ps) on quiet = (ap is_plain on.0.frame ∙ flow_plain on.0.body on.0.kind (sym (ap is_loud on.0.frame) ∙ quiet.0), on_plain t ps on.1 quiet.1)

granted_plain : (t : Trace) (ps : List Put) → AllGrants t ps → PlainPut ps
granted_plain t [] all = tt
granted_plain t (p ∷ ps) all = (ap is_plain all.0.flow, granted_plain t ps all.1)

window_plain : (c o : ℕ) (v : Option Session) → PlainPut (flow_due c o v)
window_plain c o None = tt
window_plain c o (Some h) = by_test (is_narrow h) (λ e. rw e (refl, tt)) (λ e. rw e tt)

below_plain : (c : ℕ) (known : ℕ → Option Session) (n : ℕ) → PlainPut (flows_below c known n)
unfolding flows_below
below_plain c known zero = tt
below_plain c known (suc n) = plain_both (flows_below c known n) (flow_due c n (known n)) (below_plain c known n) (window_plain c n (known n))

over_plain : (t : Trace) (cs : List ℕ) → PlainPut (windows_over t cs)
over_plain t [] = tt
over_plain t (c ∷ cs) = plain_both (flows_below c (session t c) 15) (windows_over t cs) (below_plain c (session t c) 15) (over_plain t cs)

-- as long as numbers are small

pub small_before : (ps : List Put) (t : Trace) → HasSmallNumbers (goes ps t) → HasSmallNumbers t
small_before [] t small = small
small_before (p ∷ ps) t small = small_before ps (Out p.conn p.item ∷ t) small

abbrev pub SmallKept : Trace → Type 0
SmallKept t = HasSmallNumbers t → Kept t []

sent_kept : (t : Trace) → HasSmallNumbers t → Kept t [] → Kept (goes (sends_due t) t) []
sent_kept t small was = sends_elim t (λ ps. Kept (goes ps t) []) small was (λ n d x payload there is. one n d x payload there is)
  where
    one : (n : ℕ) (d : Delivery) (x : Transfer) (payload : List ℕ) → delivery t n ≡ Some d → IsNaming t n d x
        → Kept (Out d.link.conn.0 (item.Frame false d.link.channel (perf.Transfer x) payload) ∷ t) []
    one n d x payload there is =
        let i : Item = item.Frame false d.link.channel (perf.Transfer x) payload in
        record {
          law = (item_decided i t d.link.conn.0 was.facts, was.law);
          own = (item_own i t d.link.conn.0 was.facts, was.own);
          apart = (item_volatile i t d.link.conn.0 was.volatile, was.apart);
          facts = out_facts d.link.conn.0 i t [] [] was.standing tt
              (λ m e here settled. alike_item (number_named t) i d.link.conn.0 m (sending t d.link.conn.0) e settled (λ undecided. never (e.link.conn.0 == d.link.conn.0))) was.facts;
          volatile = out_all_volatile d.link.conn.0 i t [] [] was.standing tt (λ m e. item_left Comes comes_left comes_frames (number_named t) i d.link.conn.0 m (sending t d.link.conn.0) e) was.volatile;
          standing = out_standing d.link.conn.0 i t tt was.standing;
          named = sent_named t n d false x payload there is was.named;
          ordered = was.ordered;
          owned = out_owned d.link.conn.0 i t [] [] tt was.standing (λ a e f. absurd (no_ending a e f)) was.owned;
        }

steps_kept : Steps SmallKept
steps_kept = record {
  telling = λ t was small. plain_goes (tells t) t (tells_plain t) (was (small_before (tells t) t small));
  sending = λ t was small. let few = small_before (sends_due t) t small in sent_kept t few (was few);
  draining = λ t was small. plain_goes (drains_due t) t (on_plain t (drains_due t) (drains_on t) (drains_quiet t)) (was (small_before (drains_due t) t small));
  granting = λ t was small. plain_goes (grants_due t) t (granted_plain t (grants_due t) (all_grants t)) (was (small_before (grants_due t) t small));
}

pub followed_kept : (t : Trace) → SmallKept t → SmallKept (goes (windows (passed_on t)) (passed_on t))
followed_kept t was small =
    plain_goes (windows (passed_on t)) (passed_on t) (over_plain (passed_on t) (live (passed_on t)))
    (passed_keeps SmallKept steps_kept t was (small_before (windows (passed_on t)) (passed_on t) small))
