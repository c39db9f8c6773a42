-- What the book has of the deliveries with rows: each row that its producer isn't done with is there, and has the outcome that its delivery has after the changes
-- that are still to come.
use Rattle.std.proofs.Common.{◌≡◌, ◌∙◌, sym, ap, refl, subst, ◌⊎◌, inl, inr, ℕ, ◌<◌, true, false, List, [], ◌∷◌}
use Rattle.std.specs.Prelude.{◌==◌, ◌&&◌, if◌then◌else◌, Bool, Option, Some, None, is_none, option_map}
use Rattle.amqp_model.specs.declared.state.DeliveryState.{DeliveryState}
use Rattle.std.proofs.lemmas.Bool.{eqb-true, eq-eqb}
use Rattle.amqp_model.specs.declared.perf.Disposition.{Disposition}
use Rattle.amqp_model.specs.declared.perf.Perf.{Perf}
use Rattle.amqp_model.specs.declared.perf.Perf.TheVariants as perf
use Rattle.amqp_model.specs.declared.perf.Role.{Role}
use Rattle.amqp_model.specs.declared.perf.Role.TheVariants.{Sender, Receiver}
use Rattle.amqp_model.specs.declared.item.Item.{Item}
use Rattle.amqp_model.specs.declared.item.Item.TheVariants as item
use Rattle.amqp_session.specs.Ranges.{in_range}
use Rattle.book_model.specs.declared.row.Row.{Row as ARow}
use Rattle.book_model.specs.declared.row.RowNumber.{RowNumber}
use Rattle.book_model.specs.declared.terminus.LinkKey.{LinkKey}
use Rattle.book_model.specs.declared.terminus.LinkRole.TheVariants.{Producer, Consumer}
use Rattle.book_model.specs.declared.terminus.TerminusNumber.{TerminusNumber}
use Rattle.book_model.specs.declared.terminus.Terminus.{Terminus}
use Rattle.book_model.specs.Book.{BookView, row_at, terminus_at, terminus_of, same_role}
use Rattle.router_trace.specs.declared.binding.Holding.{Holding}
use Rattle.router_trace.specs.declared.binding.Binding.{Binding}
use Rattle.router_trace.specs.declared.binding.DeliveryName.TheVariants.{Row}
use Rattle.router_trace.specs.declared.binding.Origin.{Origin}
use Rattle.router_trace.specs.declared.handle.Attachment.{Attachment}
use Rattle.router_trace.specs.Trace.{Trace, Entry, Did, Out, Took, Bound, Step}
use Rattle.router_trace.specs.Claims.{Claim, answered_by, bind_claim, bound_claim, claim_after, claim_after_in, claims, unless_ended}
use Rattle.router_trace.specs.Deliveries.{Delivery, source, told, ended_by, is_meant, origin_id, last_of, bound, origin_of, stands_on, name_in, name_of, number_named, delivery, sending, named, after_put, after_event, channels_found, acts_found, rank_in, holds_standing, held_by}
use Rattle.router_trace.specs.Following.{link_of}
use Rattle.router_trace.specs.Links.{link, durable_key, ends_handle, ends_handle_in}
use Rattle.state_deliveries.specs.declared.change.Change.{Change}
use Rattle.state_deliveries.specs.Deciding.{changed_by}
use Rattle.reply_rows.specs.Acts.{book_in}
use Rattle.theorems.proofs.Bindings.{of_what}
use Rattle.theorems.proofs.Changing.{leaves_by, Alike}
use Rattle.theorems.proofs.Claimed.{HasClaim}
use Rattle.theorems.proofs.Middles.{Said, said_of, out_said}
pub use Rattle.theorems.proofs.KeptForm.{kept_form}
use Rattle.theorems.proofs.Rebound.{AfterBound, after_bound, held_name}
use Rattle.theorems.proofs.Rebound.AfterBound.{is_new, is_joined, is_old}
use Rattle.theorems.proofs.Standing.{Standing, IsFresh, out_durable, did_durable}
use Rattle.theorems.proofs.Tests.{some_same, none_not_some}
use Rattle.theorems.proofs.Undecided.{Comes, comes_left, was_did, was_out}
use Rattle.theorems.proofs.Followed.{ends_left}
use Rattle.router_core.proofs.Due.{both_true}
use Rattle.state_connections.proofs.Lists.{by_test}

-- The outcome that the book has of a row is that of its delivery, as the journal keeps it; or itself, of a row that was decided before it was bound.
abbrev pub KeptAs : Option DeliveryState → Option DeliveryState → Type 0
KeptAs kept outcome = (kept ≡ option_map kept_form outcome) ⊎ (kept ≡ outcome)

pub kept_none : (kept outcome : Option DeliveryState) → KeptAs kept outcome → outcome ≡ None → kept ≡ None
kept_none kept outcome (inl is) none = is ∙ ap (option_map kept_form) none
kept_none kept outcome (inr is) none = is ∙ none

pub kept_some : (kept outcome : Option DeliveryState) (s : DeliveryState) → KeptAs kept outcome → outcome ≡ Some s → is_none kept ≡ false
kept_some kept outcome s (inl is) some = ap is_none (is ∙ ap (option_map kept_form) some)
kept_some kept outcome s (inr is) some = ap is_none (is ∙ some)

-- a producer's link is durable, and the book has its terminus under this number
pub record FromTerminus (t : Trace) (b : BookView) (p : Origin) (n : ℕ) : Type 0 where
  pub key : LinkKey
  pub durable : durable_key (link_of t p.link) ≡ Some key
  pub at : Terminus
  pub found : terminus_of key b.termini ≡ Some at
  pub number : at.number.0 ≡ n
  pub role : same_role at.key.role Producer ≡ true

-- a row has the outcome of its delivery, as the journal keeps it, and isn't forgotten, as long as the producer isn't done with it
pub record IsHeld (t : Trace) (b : BookView) (row : ARow) (e : Delivery) : Type 0 where
  pub outcome : KeptAs row.outcome e.outcome
  pub waits : (p : Origin) → source e ≡ Some p → row.forgotten ≡ false
  pub from : (p : Origin) → source e ≡ Some p → FromTerminus t b p row.producer.0
  pub claimed : (p : Origin) → source e ≡ Some p → HasClaim t p row.tag.items

abbrev pub Agrees : Trace → BookView → Option ARow → Delivery → Type 0
Agrees t b None e = (p : Origin) → source e ≡ Some p → ⊥
Agrees t b (Some row) e = IsHeld t b row e

pub record RowFact (t : Trace) (b : BookView) (r : RowNumber) (e : Delivery) : Type 0 where
  pub settled : e.presettled ≡ false
  pub known : r.0 < b.next_row
  pub agrees : Agrees t b (row_at r.0 b.rows) e

-- each delivery with a row, as it will be after these changes
abbrev pub Facts : Trace → List Change → Type 0
Facts t xs = (n : ℕ) (d : Delivery) (r : RowNumber) → delivery t n ≡ Some d → d.name ≡ Row r → RowFact t (book_in t) r (changed_by xs d)

-- the same where the event's entry gives it an outcome first (`given`)
abbrev pub FactsOf : Trace → (Delivery → Delivery) → List Change → Type 0
FactsOf t g xs = (n : ℕ) (d : Delivery) (r : RowNumber) → delivery t n ≡ Some d → d.name ≡ Row r → RowFact t (book_in t) r (changed_by xs (g d))

-- over another trace with the same book, where the links of producers stay

agrees_moved : (t u : Trace) (b : BookView) (v : Option ARow) (e f : Delivery) → Alike e f
    → ((p : Origin) (key : LinkKey) → source f ≡ Some p → durable_key (link_of t p.link) ≡ Some key → durable_key (link_of u p.link) ≡ Some key)
    → ((p : Origin) (tag : List ℕ) → source f ≡ Some p → HasClaim t p tag → HasClaim u p tag) → Agrees t b v e → Agrees u b v f
agrees_moved t u b None e f alike stays claims was = λ p from. was p (alike.comes p from)
agrees_moved t u b (Some row) e f alike stays claims was = record {
  outcome = subst (KeptAs row.outcome) (sym alike.outcome) was.outcome;
  waits = λ p from. was.waits p (alike.comes p from);
  from = λ p from. let at = was.from p (alike.comes p from) in record { key = at.key; durable = stays p at.key from at.durable; at = at.at; found = at.found; number = at.number; role = at.role };
  claimed = λ p from. claims p row.tag.items from (was.claimed p (alike.comes p from));
}

pub fact_moved : (t u : Trace) (b : BookView) (r : RowNumber) (e f : Delivery) → Alike e f
    → ((p : Origin) (key : LinkKey) → source f ≡ Some p → durable_key (link_of t p.link) ≡ Some key → durable_key (link_of u p.link) ≡ Some key)
    → ((p : Origin) (tag : List ℕ) → source f ≡ Some p → HasClaim t p tag → HasClaim u p tag) → RowFact t b r e → RowFact u b r f
fact_moved t u b r e f alike stays claims was = record {
  settled = alike.settled ∙ was.settled;
  known = was.known;
  agrees = agrees_moved t u b (row_at r.0 b.rows) e f alike stays claims was.agrees;
}

-- An entry leaves what the producer's delivery of a row claims, as long as the producer isn't done with it after the changes that are still to come.
abbrev pub DidClaims : Step → List Entry → List Change → Type 0
DidClaims s t ys = (n : ℕ) (e : Delivery) (p : Origin) (tag : List ℕ) → delivery (Did s ∷ t) n ≡ Some e → source (changed_by ys e) ≡ Some p → HasClaim t p tag → HasClaim (Did s ∷ t) p tag

-- a link that stays keeps its claims
unended : (body : Perf) (own : ℕ) (p : Origin) (v : Claim) → v.handle ≡ p.link.handle → ends_handle_in body own p.link.channel p.link.handle ≡ false → unless_ended body own p.link.channel (Some v) ≡ Some v
unended body own p v handle spared = ap (λ (q : Bool). if q then None else Some v) (ap (ends_handle_in body own p.link.channel) handle ∙ spared)

-- one that the router settles is told to the delivery
untold_gone : (role : Role) (x : Disposition) (c own : ℕ) (d : Delivery) (p : Origin) → role ≡ Receiver → x.settled ≡ true → is_meant x (origin_id (source d) c own) ≡ true → source (told role x c own d) ≡ Some p → ⊥
untold_gone Sender x c own d p is settled meant from = absurd cc
untold_gone Receiver x c own d p is settled meant from = none_not_some (rw (meant, settled) at from)

-- what an item leaves of a claim, unless it settles its id, or ends its link
left_claim : (body : Perf) (own : ℕ) (p : Origin) (v : Claim) → v.handle ≡ p.link.handle → ends_handle_in body own p.link.channel p.link.handle ≡ false
    → ((x : Disposition) → body ≡ perf.Disposition x → x.role ≡ Receiver → x.settled ≡ true → own ≡ p.link.channel → in_range x.first (last_of x) p.id ≡ true → ⊥)
    → claim_after_in body own p.link.channel p.id (Some v) ≡ Some v
left_claim (perf.Disposition x) own p v handle spared settles = by (own == p.link.channel) refl x.role refl
  where
    by : (q : Bool) → (own == p.link.channel) ≡ q → (r : Role) → x.role ≡ r → (if q then answered_by r x p.id (Some v) else Some v) ≡ Some v
    by false e r role = refl
    by true e Sender role = refl
    by true e Receiver role = by_test (x.settled && in_range x.first (last_of x) p.id) (λ f. absurd (gone f)) (λ f. rw f refl)
      where
        gone : (x.settled && in_range x.first (last_of x) p.id) ≡ true → ⊥
        gone f = let both = both_true x.settled (in_range x.first (last_of x) p.id) f in settles x refl role both.0 (eqb-true own p.link.channel e) both.1
left_claim body own p v handle spared settles = unended body own p v handle spared

pub out_claims : (c : ℕ) (i : Item) (t : List Entry) (n : ℕ) (e : Delivery) (p : Origin) (tag : List ℕ) → delivery (Out c i ∷ t) n ≡ Some e → source e ≡ Some p → HasClaim t p tag → HasClaim (Out c i ∷ t) p tag
out_claims c i t n e p tag now from has = record { claim = has.claim; there = by_test (c == p.link.conn.0) (λ f. rw f (here f)) (λ f. rw f has.there); on_link = has.on_link; tagged = has.tagged; apart = λ said is same. still said same is (out_said c i t p.link.conn.0 p.link.channel p.link.handle) }
  where
    still : (said : Said) → said.id ≡ Some p.id → said_of (link (Out c i ∷ t) p.link.conn.0 p.link.channel p.link.handle) ≡ Some said
        → (said_of (link (Out c i ∷ t) p.link.conn.0 p.link.channel p.link.handle) ≡ None)
        ⊎ (said_of (link (Out c i ∷ t) p.link.conn.0 p.link.channel p.link.handle) ≡ said_of (link t p.link.conn.0 p.link.channel p.link.handle)) → ⊥
    still said same is (inl none) = none_not_some (sym none ∙ is)
    still said same is (inr stays) = has.apart said (sym stays ∙ is) same

    spared : (c == p.link.conn.0) ≡ true → ends_handle i p.link.channel p.link.handle ≡ false
    spared f = on (p.link.conn.0 == c) (eq-eqb p.link.conn.0 c (sym (eqb-true c p.link.conn.0 f))) ((was_out c i t n e now).keeps p from)
      where
        on : (q : Bool) → q ≡ true → (q && ends_handle i p.link.channel p.link.handle) ≡ false → ends_handle i p.link.channel p.link.handle ≡ false
        on true g h = h
        on false g h = absurd cc

    -- a disposition that settles its id
    settles : (sasl : Bool) (own : ℕ) (payload : List ℕ) (x : Disposition) → i ≡ item.Frame sasl own (perf.Disposition x) payload → c ≡ p.link.conn.0 → x.role ≡ Receiver → x.settled ≡ true
        → own ≡ p.link.channel → in_range x.first (last_of x) p.id ≡ true → ⊥
    settles sasl own payload x is conn role settled channel listed =
        let w = was_out c i t n e now in
        let before = of_what (after_put (number_named t) i c n (sending t c)) (delivery t n) e now in
        let came : source before.0 ≡ Some p = ap source (some_same (sym before.1 ∙ w.there)) ∙ w.comes p from in
        let put : Delivery = told x.role x c own before.0 in
        let after : source (after_put (number_named t) (item.Frame sasl own (perf.Disposition x) payload) c n (sending t c) before.0) ≡ Some p =
        ap (λ (j : Item). source (after_put (number_named t) j c n (sending t c) before.0)) (sym is) ∙ sym (ap source before.2) ∙ from in
        let still : source put ≡ Some p = ends_left Comes comes_left false (ended_by (item.Frame sasl own (perf.Disposition x) payload) c) put p after in
        let meant : is_meant x (origin_id (source before.0) c own) ≡ true =
        ap (λ (v : Option Origin). is_meant x (origin_id v c own)) came
        ∙ ap (λ (q : Bool). is_meant x (if q then Some p.id else None)) (stands c own conn channel) ∙ listed in
        untold_gone x.role x c own before.0 p role settled meant still
      where
        stands : (c own : ℕ) → c ≡ p.link.conn.0 → own ≡ p.link.channel → stands_on p.link c own ≡ true
        stands c own e f = rw (eq-eqb p.link.conn.0 c (sym e), eq-eqb p.link.channel own (sym f)) refl

    here : (c == p.link.conn.0) ≡ true → claim_after i p.link.channel p.id (claims t p.link.conn.0 p.link.channel p.id) ≡ Some has.claim
    here f = ap (claim_after i p.link.channel p.id) has.there ∙ by i refl (spared f)
      where
        by : (j : Item) → i ≡ j → ends_handle j p.link.channel p.link.handle ≡ false → claim_after j p.link.channel p.id (Some has.claim) ≡ Some has.claim
        by (item.Frame sasl own body payload) is free =
            left_claim body own p has.claim has.on_link free
            (λ x same role settled channel listed. settles sasl own payload x (is ∙ ap (λ (b : Perf). item.Frame sasl own b payload) same) (eqb-true c p.link.conn.0 f) role settled channel listed)
        by (item.Header id major minor revision) is free = refl
        by (item.Beat channel) is free = refl
        by (item.Bad fault) is free = refl

pub did_facts : (s : Step) (t : List Entry) (g : Delivery → Delivery) (xs ys : List Change) → Standing t
    → ((n : ℕ) (d : Delivery) → delivery t n ≡ Some d → Alike (changed_by xs (g d)) (changed_by ys (after_event s.event (channels_found t) (named t) (acts_found t) n d)))
    → DidClaims s t ys → FactsOf t g xs → Facts (Did s ∷ t) ys
did_facts s t g xs ys standing alike claims was n e r now name =
    let before = of_what (after_event s.event (channels_found t) (named t) (acts_found t) n) (delivery t n) e now in
    let w = was_did s t n e now in
    let d : Delivery = before.0 in
    let same : d ≡ w.before = some_same (sym before.1 ∙ w.there) in
    let called : d.name ≡ Row r = ap (λ (x : Delivery). x.name) same ∙ sym w.follows.name ∙ name in
    subst (λ (x : Delivery). RowFact (Did s ∷ t) (book_in t) r (changed_by ys x)) (sym before.2)
    (fact_moved t (Did s ∷ t) (book_in t) r (changed_by xs (g d)) (changed_by ys (after_event s.event (channels_found t) (named t) (acts_found t) n d)) (alike n d before.1)
    (λ p key from durable. did_durable s t p.link key durable (w.keeps p ((leaves_by ys e).comes p (ap (λ (x : Delivery). source (changed_by ys x)) before.2 ∙ from))))
    (λ p tag from has. claims n e p tag now (ap (λ (x : Delivery). source (changed_by ys x)) before.2 ∙ from) has)
    (was n d r before.1 called))

pub out_facts : (c : ℕ) (i : Item) (t : List Entry) (xs ys : List Change) → Standing t → IsFresh t c i
    → ((n : ℕ) (d : Delivery) → delivery t n ≡ Some d → (changed_by xs d).presettled ≡ false → Alike (changed_by xs d) (changed_by ys (after_put (number_named t) i c n (sending t c) d)))
    → Facts t xs → Facts (Out c i ∷ t) ys
out_facts c i t xs ys standing fresh alike was n e r now name =
    let before = of_what (after_put (number_named t) i c n (sending t c)) (delivery t n) e now in
    let w = was_out c i t n e now in
    let d : Delivery = before.0 in
    let same : d ≡ w.before = some_same (sym before.1 ∙ w.there) in
    let called : d.name ≡ Row r = ap (λ (x : Delivery). x.name) same ∙ sym w.follows.name ∙ name in
    let fact : RowFact t (book_in t) r (changed_by xs d) = was n d r before.1 called in
    subst (λ (x : Delivery). RowFact (Out c i ∷ t) (book_in t) r (changed_by ys x)) (sym before.2)
    (fact_moved t (Out c i ∷ t) (book_in t) r (changed_by xs d) (changed_by ys (after_put (number_named t) i c n (sending t c) d)) (alike n d before.1 fact.settled)
    (λ p key from durable. out_durable c i t fresh standing p.link key durable (w.keeps p ((leaves_by ys e).comes p (ap (λ (x : Delivery). source (changed_by ys x)) before.2 ∙ from))))
    (λ p tag from has. out_claims c i t n e p tag now ((leaves_by ys e).comes p (ap (λ (x : Delivery). source (changed_by ys x)) before.2 ∙ from)) has)
    fact)

fact_stays : (t u : Trace) (b : BookView) (r : RowNumber) (e : Delivery) → ((a : Attachment) → link_of u a ≡ link_of t a) → ((p : Origin) (tag : List ℕ) → HasClaim t p tag → HasClaim u p tag)
    → RowFact t b r e → RowFact u b r e
fact_stays t u b r e same claims was =
    fact_moved t u b r e e (record { named = refl; settled = refl; outcome = refl; comes = λ p from. from }) (λ p key from durable. ap durable_key (same p.link) ∙ durable)
    (λ p tag from has. claims p tag has) was

pub took_claims : (c k : ℕ) (t : Trace) (p : Origin) (tag : List ℕ) → HasClaim t p tag → HasClaim (Took c k ∷ t) p tag
took_claims c k t p tag has = record { claim = has.claim; there = has.there; on_link = has.on_link; tagged = has.tagged; apart = has.apart }

-- a binding leaves the claim's link and its tag
pub bound_claims : (b : Binding) (t : Trace) (p : Origin) (tag : List ℕ) → HasClaim t p tag → HasClaim (Bound b ∷ t) p tag
bound_claims b t p tag has = by (origin_of b.kind)
  where
    Has : Option Claim → Type 0
    Has v = (claim : Claim) × (v ≡ Some claim) × (claim.handle ≡ p.link.handle) × (claim.tag ≡ Some tag)

    one : (q : Bool) → Has (if q then option_map bound_claim (claims t p.link.conn.0 p.link.channel p.id) else claims t p.link.conn.0 p.link.channel p.id)
    one true = (bound_claim has.claim, ap (option_map bound_claim) has.there, has.on_link, has.tagged)
    one false = (has.claim, has.there, has.on_link, has.tagged)

    found : (o : Option Origin) → Has (bind_claim o p.link.conn.0 p.link.channel p.id (claims t p.link.conn.0 p.link.channel p.id))
    found None = (has.claim, has.there, has.on_link, has.tagged)
    found (Some q) = one (stands_on q.link p.link.conn.0 p.link.channel && (q.id == p.id))

    by : (o : Option Origin) → HasClaim (Bound b ∷ t) p tag
    by o = let is = found (origin_of b.kind) in record { claim = is.0; there = is.1; on_link = is.2; tagged = is.3; apart = has.apart }

pub took_facts : (c k : ℕ) (t : List Entry) (xs : List Change) → Facts t xs → Facts (Took c k ∷ t) xs
took_facts c k t xs was n d r now name = fact_stays t (Took c k ∷ t) (book_in t) r (changed_by xs d) (λ a. refl) (took_claims c k t) (was n d r now name)

-- a message that is bound, with its row

named_row : (row : Option RowNumber) (k : ℕ) (r : RowNumber) → name_of row k ≡ Row r → row ≡ Some r
named_row None k r is = absurd cc
named_row (Some q) k r is = cc

pub bound_facts : (b : Binding) (t : List Entry) → (holds_standing b.kind ≡ None → (r : RowNumber) → b.row ≡ Some r → RowFact t (book_in t) r (bound (name_in t b) (rank_in t b) b))
    → ((r : RowNumber) (q : Holding) (d : Delivery) → holds_standing b.kind ≡ Some q → b.row ≡ Some r → RowFact t (book_in t) r d → RowFact t (book_in t) r (held_by q d))
    → Facts t [] → Facts (Bound b ∷ t) []
bound_facts b t new joined was n d r now name =
    by (after_bound b t n d now)
  where
    by : AfterBound b t n d → RowFact (Bound b ∷ t) (book_in t) r d
    by (is_new made) =
        fact_stays t (Bound b ∷ t) (book_in t) r d (λ a. refl) (bound_claims b t)
        (subst (λ (x : Delivery). RowFact t (book_in t) r x) made.is (new made.numbered r (named_row b.row _ r (ap (λ (x : Delivery). x.name) made.is ∙ name))))
    by (is_joined joins) =
        let named : joins.before.name ≡ Row r = sym (held_name joins.holding joins.before) ∙ ap (λ (x : Delivery). x.name) joins.is ∙ name in
        fact_stays t (Bound b ∷ t) (book_in t) r d (λ a. refl) (bound_claims b t)
        (subst (λ (x : Delivery). RowFact t (book_in t) r x) joins.is
        (joined r joins.holding joins.before joins.joins (named_row b.row _ r (sym joins.named ∙ named)) (was n joins.before r joins.there named)))
    by (is_old there) = fact_stays t (Bound b ∷ t) (book_in t) r d (λ a. refl) (bound_claims b t) (was n d r there name)
