-- Over every list of runs, what producers are told of their durable deliveries is true.
use Rattle.std.proofs.Common.{◌≡◌, ◌∙◌, sym, ap, refl, subst, ◌⊎◌, inl, inr, ℕ, Bool, true, false, not, ◌&&◌, List, [], ◌∷◌, ◌++◌}
use Rattle.std.specs.Prelude.{◌==◌, find, Option, Some, None, option_map, if◌then◌else◌}
use Rattle.std.proofs.lemmas.Bool.{eq-eqb}
use Rattle.std.proofs.lemmas.Slice.Eq.{bytes_eq-Decides}
use Rattle.amqp_model.specs.declared.perf.Attach.{Attach}
use Rattle.amqp_model.specs.declared.perf.Disposition.{Disposition}
use Rattle.amqp_model.specs.declared.perf.Perf.TheVariants as perf
use Rattle.amqp_model.specs.declared.perf.Role.{Role}
use Rattle.amqp_model.specs.declared.perf.Role.TheVariants.{Sender, Receiver}
use Rattle.amqp_model.specs.declared.state.DeliveryState.{DeliveryState}
use Rattle.amqp_model.specs.declared.state.DeliveryState.TheVariants as state
use Rattle.amqp_model.specs.declared.state.UnsettledDelivery.{UnsettledDelivery}
use Rattle.amqp_model.specs.declared.item.Item.{Item}
use Rattle.amqp_model.specs.declared.item.Item.TheVariants as item
use Rattle.book_laws.proofs.Lists.{Pairs, pairs_of}
use Rattle.book_model.specs.declared.row.Row.{Row as ARow}
use Rattle.book_model.specs.declared.row.RowNumber.{RowNumber}
use Rattle.book_model.specs.declared.terminus.LinkKey.{LinkKey}
use Rattle.book_model.specs.declared.terminus.Terminus.{Terminus}
use Rattle.book_model.specs.Book.{BookView, has_tag, row_at, terminus_of}
use Rattle.book_model.specs.Sound.{IsSound}
use Rattle.router_trace.specs.declared.binding.DeliveryName.{DeliveryName}
use Rattle.router_trace.specs.declared.binding.DeliveryName.TheVariants.{Row, Counter}
use Rattle.router_trace.specs.Claims.{Claim, claims}
use Rattle.journal_store.specs.Acting.{journal_outcome}
use Rattle.router_trace.specs.DeliveryFrames.{kept_outcome}
use Rattle.router_trace.specs.Deliveries.{acts_found, outcome_among}
use Rattle.router_trace.specs.Links.{durable_key, key_at, link}
use Rattle.router_trace.specs.Trace.{Trace, Did, Out, Took, Bound, Booked, Routed, Began}
use Rattle.resume_core.specs.Resuming.{entries_of, brief_outcome}
use Rattle.reply_rows.specs.Acts.{book_in}
use Rattle.reply_transfers.specs.Joining.{named_row, row_joined}
use Rattle.theorems.specs.Came.{last_found}
use Rattle.theorems.specs.Each.{EachOut}
use Rattle.theorems.specs.Kept.{IsDecidedAs, RowIsDecided, OutcomeIsKept, role_is_decided}
use Rattle.theorems.specs.Lives.{InSmallLives}
use Rattle.theorems.specs.Mapped.{EachEntry, EachTold, IsBoundEntry, IsEntry, IsToldOf, MapIsOfBook}
use Rattle.theorems.specs.OwnRow.{IsOwnRow, TellsItsOwnRow, role_tells_own}
use Rattle.theorems.specs.Told.{TellsAsGiven, TellsOutcome, TellsProducer, ReleasesMessage, role_tells}
use Rattle.theorems.specs.ToldRightly.{EntryIsTold, EntryTells, TellsOfIt, ToldRightly, WasDecided, map_tells_rightly, role_tells_rightly}
use Rattle.theorems.proofs.AcceptedFirst.{Known, brief_accepted, each_true, lives_known, row_there, told_truly}
use Rattle.theorems.proofs.Among.{Stands, stands_after, parts}
use Rattle.theorems.proofs.DecidedFirst.{decided_in}
use Rattle.theorems.proofs.Joins.{row_among}
use Rattle.theorems.proofs.Lives.{lives_mapped, lives_outcomes, lives_sound, lives_tell_own, lives_tell_volatile}
use Rattle.theorems.proofs.OwnConsumer.{BindingFacts, lives_facts}
use Rattle.theorems.proofs.Tests.{some_same, none_not_some}
use Rattle.theorems.proofs.Volatile.{TellsVolatile, role_tells_volatile}

-- In a sound book a terminus has one unforgotten row under a tag.

abbrev OtherTag : ARow → ARow → Type 0
OtherTag r s = has_tag s.producer.0 s.tag.items r ≡ false

own_tag : (n : ℕ) (tag : List ℕ) (row : ARow) → row.producer.0 ≡ n → row.forgotten ≡ false → row.tag.items ≡ tag → has_tag n tag row ≡ true
own_tag n tag row producer unforgotten same = λ j. eq-eqb row.producer.0 n producer j && not (unforgotten j) && (bytes_eq-Decides row.tag.items tag).1 same j

found_tag : (n : ℕ) (tag : List ℕ) (earlier later : List ARow) (row : ARow) → row.producer.0 ≡ n → row.forgotten ≡ false → row.tag.items ≡ tag → Pairs OtherTag (earlier ++ row ∷ later)
    → find (has_tag n tag) (earlier ++ row ∷ later) ≡ Some row
found_tag n tag [] later row producer unforgotten same apart =
    ap (λ (q : Bool). if q then Some row else find (has_tag n tag) later) (own_tag n tag row producer unforgotten same)
found_tag n tag (r ∷ earlier) later row producer unforgotten same apart =
    ap (λ (q : Bool). if q then Some r else find (has_tag n tag) (earlier ++ row ∷ later)) other
    ∙ found_tag n tag earlier later row producer unforgotten same apart.1
  where
    other : has_tag n tag r ≡ false
    other =
        ap (λ (k : ℕ). has_tag k tag r) (sym producer) ∙ ap (λ (bytes : List ℕ). has_tag row.producer.0 bytes r) (sym same)
        ∙ row_among (OtherTag r) earlier later row apart.0

joined_is : (b : BookView) (key : LinkKey) (tag : List ℕ) (x : Terminus) (earlier later : List ARow) (row : ARow) → IsSound b → terminus_of key b.termini ≡ Some x → b.rows ≡ earlier ++ row ∷ later
    → row.producer.0 ≡ x.number.0 → row.forgotten ≡ false → row.tag.items ≡ tag → row_joined b (Some key) (Some tag) ≡ Some row
joined_is b key tag x earlier later row sound found kept producer unforgotten same =
    ap (λ (v : Option Terminus). named_row v tag b.rows) found
    ∙ ap (find (has_tag x.number.0 tag)) kept
    ∙ found_tag x.number.0 tag earlier later row producer unforgotten same (subst (λ (rows : List ARow). Pairs OtherTag rows) kept (pairs_of OtherTag b.rows sound.tags))

-- What the book has of a row was decided.

was_decided : (t : Trace) (row : ARow) (s : DeliveryState) → BindingFacts t → Known t → Stands ARow row (book_in t).rows → row.outcome ≡ Some s → WasDecided t row
was_decided t row s facts known there is = record {
  outcome = s;
  its_outcome = is;
  decided = decided_in s t facts.continues row there is;
  accepted = λ e. known.accepted facts row there (is ∙ ap (λ (o : DeliveryState). Some o) e);
}

-- dispositions

some_outcome : (o told : Option DeliveryState) (k : DeliveryState) → told ≡ Some k → (o ≡ option_map journal_outcome told) ⊎ (told ≡ option_map kept_outcome o) → (s : DeliveryState) × (o ≡ Some s)
some_outcome (Some s) told k is decides = (s, refl)
some_outcome None told k is (inl now) = absurd (none_not_some (now ∙ ap (option_map journal_outcome) is))
some_outcome None told k is (inr before) = absurd (none_not_some (sym before ∙ is))

tells_own : (t : Trace) (c own : ℕ) (x : Disposition) → BindingFacts t → Known t → (report : TellsOutcome t c own x) (r : RowNumber) → IsOwnRow t c own report.origin.link.handle x.first r
    → IsDecidedAs (row_at r.0 (book_in t).rows) x.state → (claim : Claim) (key : LinkKey) → claims t c own x.first ≡ Some claim → durable_key (link t c own claim.handle) ≡ Some key
    → TellsOfIt t (row_joined (book_in t) (Some key) claim.tag) x.state
tells_own t c own x facts known report r it decides claim key claimed durable =
    subst (λ (v : Option ARow). TellsOfIt t v x.state) (sym found)
    (record {
      was = was_decided t row outcome.0 facts known at.0 outcome.1;
      as_decided = decided;
      truly = λ accepted.
          told_truly t row.number (Some row) (ap (λ (k : ℕ). row_at k b.rows) at.1 ∙ it.in_the_book) (subst (λ (o : Option DeliveryState). IsDecidedAs (Some row) o) accepted decided)
          (known.accepted facts);
    })
  where
    b : BookView
    b = book_in t

    row : ARow
    row = it.row

    at : Stands ARow row b.rows × (row.number.0 ≡ r.0)
    at = row_there r.0 b.rows row it.in_the_book

    decided : IsDecidedAs (Some row) x.state
    decided = subst (λ (v : Option ARow). IsDecidedAs v x.state) it.in_the_book decides

    outcome : (s : DeliveryState) × (row.outcome ≡ Some s)
    outcome = some_outcome row.outcome x.state (kept_outcome report.outcome) report.told decided

    same : claim ≡ it.claim
    same = some_same (sym claimed ∙ it.claimed)

    keyed : key ≡ it.key
    keyed = some_same (sym durable ∙ ap (λ (h : ℕ). durable_key (link t c own h)) (ap (λ (v : Claim). v.handle) same ∙ it.on_link) ∙ it.durable)

    found : row_joined b (Some key) claim.tag ≡ Some row
    found =
        let place = parts ARow row b.rows at.0 in
        ap (row_joined b (Some key)) (ap (λ (v : Claim). v.tag) same ∙ it.same_tag)
        ∙ ap (λ (k : LinkKey). row_joined b (Some k) (Some row.tag.items)) keyed
        ∙ joined_is b it.key row.tag.items it.terminus place.0 place.1 row known.sound it.of_key place.2 it.its_producer it.unforgotten refl

-- what holds of each disposition: law 5, that outcomes are kept first, that rows are the producer's own, and that
-- others aren't told on durable links
abbrev pub Told : Trace → ℕ → Item → Type 0
Told t c i = (TellsAsGiven t c i × OutcomeIsKept t c i) × (TellsItsOwnRow t c i × TellsVolatile t c i)

tells_rightly : (t : Trace) (c own : ℕ) (x : Disposition) → BindingFacts t → Known t → TellsProducer t c own x → role_is_decided Receiver t c own x → role_tells_own Receiver t c own x
    → role_tells_volatile Receiver t c own x → role_tells_rightly Receiver t c own x
tells_rightly t c own x facts known tells kept owns apart = (tells.one, λ claim key claimed durable. by claim key claimed durable tells.of)
  where
    by_name : (claim : Claim) (key : LinkKey) → claims t c own x.first ≡ Some claim → durable_key (link t c own claim.handle) ≡ Some key → (report : TellsOutcome t c own x) (name : DeliveryName)
        → report.of.name ≡ name → RowIsDecided (book_in t) name x.state → TellsOfIt t (row_joined (book_in t) (Some key) claim.tag) x.state
    by_name claim key claimed durable report (Row r) is decided = tells_own t c own x facts known report r (owns report r is) decided claim key claimed durable
    by_name claim key claimed durable report (Counter k) is decided = absurd (none_not_some (sym (apart report k is claim claimed) ∙ durable))

    by : (claim : Claim) (key : LinkKey) → claims t c own x.first ≡ Some claim → durable_key (link t c own claim.handle) ≡ Some key → TellsOutcome t c own x ⊎ ReleasesMessage t c own x
        → TellsOfIt t (row_joined (book_in t) (Some key) claim.tag) x.state ⊎ ReleasesMessage t c own x
    by claim key claimed durable (inl report) = inl (by_name claim key claimed durable report report.of.name refl (kept report))
    by claim key claimed durable (inr releases) = inr releases

role_rightly : (role : Role) (t : Trace) (c own : ℕ) (x : Disposition) → BindingFacts t → Known t → role_tells role t c own x → role_is_decided role t c own x → role_tells_own role t c own x
    → role_tells_volatile role t c own x → role_tells_rightly role t c own x
role_rightly Receiver t c own x facts known tells kept owns apart = tells_rightly t c own x facts known tells kept owns apart
role_rightly Sender t c own x facts known tells kept owns apart = tt

-- maps

brief_some : (o : Option DeliveryState) (told : DeliveryState) → option_map brief_outcome o ≡ Some told → (s : DeliveryState) × (o ≡ Some s)
brief_some None told is = absurd (none_not_some is)
brief_some (Some s) told is = (s, refl)

entry_told : (t : Trace) (c : ℕ) (a : Attach) (entry : UnsettledDelivery) → BindingFacts t → Known t → IsEntry t c a entry → EntryIsTold t c a entry
entry_told t c a entry facts known of = record {
  row = of.row;
  its_row = joined_is (book_in t) (key_at t c a) entry.tag.items of.terminus of.earlier of.later of.row known.sound of.of_key of.kept of.its_producer of.unforgotten (sym of.same_tag);
  tells = by entry.state of.state;
}
  where
    there : Stands ARow of.row (book_in t).rows
    there = subst (λ (rows : List ARow). Stands ARow of.row rows) (sym of.kept) (stands_after ARow of.row of.earlier of.later)

    by : (v : Option DeliveryState) → IsToldOf v (outcome_among (acts_found (last_found t)) of.row.number) of.row.outcome
        → EntryTells t of.row (outcome_among (acts_found (last_found t)) of.row.number) v
    by None is = is
    by (Some told) is =
        let outcome = brief_some of.row.outcome told is in (
          was_decided t of.row outcome.0 facts known there outcome.1,
          is,
          λ accepted. known.accepted facts of.row there (brief_accepted of.row.outcome (is ∙ ap (λ (o : DeliveryState). Some o) accepted)),
        )

entries_told : (t : Trace) (c : ℕ) (a : Attach) (entries : List UnsettledDelivery) → BindingFacts t → Known t → EachEntry (IsEntry t c a) entries → EachEntry (EntryIsTold t c a) entries
entries_told t c a [] facts known of = tt
entries_told t c a (d ∷ ds) facts known of = (entry_told t c a d facts known of.0, entries_told t c a ds facts known of.1)

map_rightly : (role : Role) (t : Trace) (c : ℕ) (a : Attach) → BindingFacts t → Known t → EachTold (IsEntry t c) (IsBoundEntry t c) role a → map_tells_rightly role t c a
map_rightly Receiver t c a facts known of = entries_told t c a (entries_of a.unsettled) facts known of
map_rightly Sender t c a facts known of = tt

-- each item

item_rightly : (t : Trace) (c : ℕ) (i : Item) → Told t c i × MapIsOfBook t c i → BindingFacts t → Known t → ToldRightly t c i
item_rightly t c (item.Frame sasl own (perf.Disposition x) payload) is facts known = role_rightly x.role t c own x facts known is.0.0.0 is.0.0.1 is.0.1.0 is.0.1.1
item_rightly t c (item.Frame sasl own (perf.Attach a) payload) is facts known = map_rightly a.role t c a facts known is.1
item_rightly t c (item.Frame sasl own _ payload) is facts known = tt
item_rightly t c _ is facts known = tt

module _ (P Q : Trace → ℕ → Item → Type 0) where
  each_both : (t : Trace) → EachOut P t → EachOut Q t → EachOut (λ u c i. P u c i × Q u c i) t
  each_both [] first second = tt
  each_both (Did s ∷ t) first second = each_both t first second
  each_both (Out c i ∷ t) first second = ((first.0, second.0), each_both t first.1 second.1)
  each_both (Took c n ∷ t) first second = each_both t first second
  each_both (Bound b ∷ t) first second = each_both t first second
  each_both (Booked acts full ∷ t) first second = each_both t first second
  each_both (Routed passage ∷ t) first second = each_both t first second
  each_both (Began g ∷ t) first second = each_both t first second

pub lives_told_rightly : InSmallLives (EachOut ToldRightly)
lives_told_rightly = λ id lives u all small.
    each_true (λ t c i. Told t c i × MapIsOfBook t c i) ToldRightly item_rightly u
    (each_both Told MapIsOfBook u
    (each_both (λ t c i. TellsAsGiven t c i × OutcomeIsKept t c i) (λ t c i. TellsItsOwnRow t c i × TellsVolatile t c i) u
    (each_both TellsAsGiven OutcomeIsKept u (lives_sound id lives u all).tells (lives_outcomes id lives u all small))
    (each_both TellsItsOwnRow TellsVolatile u (lives_tell_own id lives u all small) (lives_tell_volatile id lives u all small)))
    (lives_mapped id lives u all))
    (lives_facts id lives u all) (lives_known id lives u all).each
