-- The laws of plans.
use Rattle.std.proofs.Common.{◌≡◌, ℕ, ◌<◌, ◌≤◌, ◌^◌, Bool, true, false, not, ◌&&◌, List, [], ◌∷◌, Option, Some, None, refl, ap, sym, ◌∙◌, arith, w64, subst, length}
use Rattle.std.specs.Prelude.{is_some, map, filter, option_map, All}
use Rattle.std.specs.Int.{from_be_bytes}
use Rattle.std.specs.List.{IsDistinct, AllByRecursion}
use Rattle.std.proofs.lemmas.Bool.{false_from_ne_true}
use Rattle.std.proofs.lemmas.Nat.{from_be_bytes-to_be_bytes_8}
use Rattle.std.proofs.lemmas.Slice.Eq.{bytes_eq-Decides}
use Rattle.amqp_model.specs.PerfSpelling.{state_spelling}
use Rattle.amqp_model.specs.declared.state.DeliveryState.{DeliveryState}
use Rattle.amqp_model.specs.declared.state.DeliveryState.TheVariants as state
use Rattle.amqp_model.specs.declared.state.UnsettledDelivery.{UnsettledDelivery}
use Rattle.book_core.specs.Rising.{AllAbove, AllBelow, Rises}
use Rattle.book_model.specs.declared.act.Decision.{Decision}
use Rattle.book_model.specs.declared.row.Row.{Row}
use Rattle.book_model.specs.Book.{same_bytes}
use Rattle.reply_frames.proofs.Tags.{bytes_of_row}
use Rattle.reply_frames.proofs.Short.{kept_len}
use Rattle.router_trace.specs.Deliveries.{eight_bytes, terminal}
use Rattle.router_trace.specs.DeliveryFrames.{kept_outcome}
use Rattle.router_trace.specs.declared.binding.Resumed.{Resumed}
use Rattle.resume_core.specs.declared.consumer.Sending.{Sending}
use Rattle.resume_core.specs.Resuming.{is_unforgotten, is_forgotten_by, is_unsettled_after, is_due, is_decided_by, is_sent, forgotten_rows, producer_map, due_tags, producer_entry, row_tag, is_told_of, told_of, told_in, outcome_told, outcome_given, decided_by, decision_of, outcome_after, listed_entry, resumed_as, consumer_entry, is_listed, either_outcome, sent_as, sending_as, sending_of, decisions, consumer_map, sendings, map_entry}
use Rattle.resume_core.proofs.Kept.{given_of, all_given, find_among, same_kept, same_given, each, same_tests, no_tests, fewer_apart, all_pass, twice}

-- Producers' rows.

pub incomplete_forgets : (theirs : List UnsettledDelivery) (rows : List Row) → forgotten_rows false theirs rows ≡ []
incomplete_forgets theirs rows = ap (map (λ r. r.number)) (no_tests (is_forgotten_by false theirs) (λ r. refl) rows)

with_true : (f : Bool) → (not f && not false) ≡ not f
with_true true = refl
with_true false = refl

pub incomplete_keeps : (theirs : List UnsettledDelivery) (rows : List Row) → producer_map false theirs rows ≡ map producer_entry (filter is_unforgotten rows)
incomplete_keeps theirs rows = ap (map producer_entry) (same_tests (is_unsettled_after false theirs) is_unforgotten (λ r. with_true r.forgotten) rows)

pub empty_forgets : (rows : List Row) → forgotten_rows true [] rows ≡ map (λ r. r.number) (filter is_unforgotten rows)
empty_forgets rows = ap (map (λ r. r.number)) (same_tests (is_forgotten_by true []) is_unforgotten (λ r. with_true r.forgotten) rows)

none_left : (f : Bool) → (not f && not (not f && not false)) ≡ false
none_left true = refl
none_left false = refl

pub empty_keeps : (rows : List Row) → producer_map true [] rows ≡ []
empty_keeps rows = ap (map producer_entry) (no_tests (is_unsettled_after true []) (λ r. none_left r.forgotten) rows)

told_too : (f t : Bool) → ((not f && not (not f && not t)) && t) ≡ (not f && not (not f && not t))
told_too true true = refl
told_too true false = refl
told_too false true = refl
told_too false false = refl

pub complete_agrees : (theirs : List UnsettledDelivery) (rows : List Row) → due_tags true theirs rows ≡ map (λ d. d.tag) (producer_map true theirs rows)
complete_agrees theirs rows =
    ap (map (λ r. r.tag)) (same_tests (is_due true theirs) (is_unsettled_after true theirs) (λ r. told_too r.forgotten (is_some (told_in theirs r.tag.items))) rows)
    ∙ sym (twice producer_entry (λ d. d.tag) (filter (is_unsettled_after true theirs) rows))

pub kept_rows : (complete : Bool) (theirs : List UnsettledDelivery) (rows : List Row)
    → map (λ d. d.tag.items) (producer_map complete theirs rows) ≡ map (λ r. r.tag.items) (filter (is_unsettled_after complete theirs) rows)
kept_rows complete theirs rows = twice producer_entry (λ d. d.tag.items) (filter (is_unsettled_after complete theirs) rows)

first_true : (a b : Bool) → (a && b) ≡ true → a ≡ true
first_true true b h = refl
first_true false b h = h

pub producer_apart : (complete : Bool) (theirs : List UnsettledDelivery) (rows : List Row)
    → IsDistinct same_bytes (map (λ r. r.tag.items) (filter is_unforgotten rows))
    → IsDistinct same_bytes (map (λ d. d.tag.items) (producer_map complete theirs rows))
producer_apart complete theirs rows apart =
    subst (IsDistinct same_bytes) (sym (kept_rows complete theirs rows))
    (fewer_apart same_bytes (λ r. r.tag.items) is_unforgotten (is_unsettled_after complete theirs) (λ r. first_true (is_unforgotten r) (not (is_forgotten_by complete theirs r))) rows apart)

-- Consumers' rows.

mapped_is : {X Y : Type 0} (f : X → Y) (o : Option X) → is_some (option_map f o) ≡ is_some o
mapped_is f None = refl
mapped_is f (Some x) = refl

decision_row : (r : Row) (o : Option DeliveryState) (d : Decision) → option_map (λ (outcome : DeliveryState). record { row = r.number; outcome = outcome }) o ≡ Some d → d.row ≡ r.number
decision_row r None d e = cc
decision_row r (Some s) d e = let same : record { row = r.number; outcome = s } ≡ d = cc in ap (λ (x : Decision). x.row) (sym same)

pub decisions_rows : (theirs : List UnsettledDelivery) (rows : List Row)
    → map (λ d. d.row) (decisions theirs rows) ≡ map (λ r. r.number) (filter (is_decided_by theirs) rows)
decisions_rows theirs rows =
    given_of (decision_of theirs) (λ d. d.row) (λ r. r.number) (is_decided_by theirs)
    (λ r. mapped_is (λ (outcome : DeliveryState). record { row = r.number; outcome = outcome }) (decided_by theirs r))
    (λ r. decision_row r (decided_by theirs r)) rows

sending_row : (r : Row) (o : Option Resumed) (s : Sending) → option_map (sending_as r) o ≡ Some s → s.row ≡ r.number
sending_row r None s e = cc
sending_row r (Some how) s e = let same : sending_as r how ≡ s = cc in ap (λ (x : Sending). x.row) (sym same)

pub sendings_rows : (complete : Bool) (theirs : List UnsettledDelivery) (rows : List Row)
    → map (λ s. s.row) (sendings complete theirs rows) ≡ map (λ r. r.number) (filter (is_sent complete theirs) rows)
sendings_rows complete theirs rows =
    given_of (sending_of complete theirs) (λ s. s.row) (λ r. r.number) (is_sent complete theirs)
    (λ r. mapped_is (sending_as r) (sent_as complete theirs r))
    (λ r. sending_row r (sent_as complete theirs r)) rows

listed_if_sent : (tag : List ℕ) (told : Bool) (o : Option DeliveryState) → is_some (listed_entry tag told o) ≡ is_some (resumed_as true told o)
listed_if_sent tag true None = refl
listed_if_sent tag true (Some s) = refl
listed_if_sent tag false None = refl
listed_if_sent tag false (Some s) = refl

tag_listed : (tag : List ℕ) (told : Bool) (o : Option DeliveryState) (d : UnsettledDelivery) → listed_entry tag told o ≡ Some d → d.tag.items ≡ tag
tag_listed tag true None d e = let same : map_entry tag None ≡ d = cc in ap (λ (x : UnsettledDelivery). x.tag.items) (sym same)
tag_listed tag true (Some s) d e = let same : map_entry tag (Some s) ≡ d = cc in ap (λ (x : UnsettledDelivery). x.tag.items) (sym same)
tag_listed tag false None d e = let same : map_entry tag None ≡ d = cc in ap (λ (x : UnsettledDelivery). x.tag.items) (sym same)
tag_listed tag false (Some s) d e = cc

tags_listed : (theirs : List UnsettledDelivery) (rows : List Row)
    → map (λ d. d.tag.items) (consumer_map theirs rows) ≡ map row_tag (filter (is_sent true theirs) rows)
tags_listed theirs rows =
    given_of (consumer_entry theirs) (λ d. d.tag.items) row_tag (is_sent true theirs)
    (λ r. listed_if_sent (row_tag r) (is_told_of theirs r) (outcome_after theirs r))
    (λ r. tag_listed (row_tag r) (is_told_of theirs r) (outcome_after theirs r)) rows

pub listed_rows : (theirs : List UnsettledDelivery) (rows : List Row)
    → map (λ d. d.tag.items) (consumer_map theirs rows) ≡ map row_tag (filter (is_listed theirs) rows)
listed_rows theirs rows =
    given_of (consumer_entry theirs) (λ d. d.tag.items) row_tag (is_listed theirs) (λ r. refl)
    (λ r. tag_listed (row_tag r) (is_told_of theirs r) (outcome_after theirs r)) rows

pub complete_sends : (theirs : List UnsettledDelivery) (rows : List Row)
    → map row_tag (filter (is_sent true theirs) rows) ≡ map (λ d. d.tag.items) (consumer_map theirs rows)
complete_sends theirs rows = sym (tags_listed theirs rows)

pub stays_undecided : (theirs : List UnsettledDelivery) (r : Row) (outcome : DeliveryState) → r.outcome ≡ Some outcome → decision_of theirs r ≡ None
stays_undecided theirs r outcome is = rw is refl

pub stays_same : (theirs : List UnsettledDelivery) (r : Row) (outcome : DeliveryState) → r.outcome ≡ Some outcome → outcome_after theirs r ≡ Some outcome
stays_same theirs r outcome is = rw is refl

-- the tags of two rows differ
back : (n : ℕ) → n < 2 ^ 64 → from_be_bytes w64 (eight_bytes n) ≡ n
back n small = ap (from_be_bytes w64) (sym (bytes_of_row n)) ∙ from_be_bytes-to_be_bytes_8 n small

tags_differ : (n m : ℕ) → n < m → n < 2 ^ 64 → m < 2 ^ 64 → same_bytes (eight_bytes n) (eight_bytes m) ≡ false
tags_differ n m below small large = false_from_ne_true (same_bytes (eight_bytes n) (eight_bytes m)) (λ same.
    let tags : eight_bytes n ≡ eight_bytes m = (bytes_eq-Decides (eight_bytes n) (eight_bytes m)).0 same in
    let numbers : n ≡ m = sym (back n small) ∙ ap (from_be_bytes w64) tags ∙ back m large in
    omega arith)

tags_above : (n : ℕ) (rows : List Row) → n < 2 ^ 64 → AllAbove (λ (r : Row). r.number.0) n rows → AllBelow (λ (r : Row). r.number.0) (2 ^ 64) rows
    → AllByRecursion (λ tag. same_bytes (eight_bytes n) tag ≡ false) (map row_tag rows)
tags_above n [] small above below = tt
tags_above n (r ∷ rows) small above below = (tags_differ n r.number.0 above.0 small below.0, tags_above n rows small above.1 below.1)

tags_apart : (rows : List Row) → Rises (λ (r : Row). r.number.0) rows → AllBelow (λ (r : Row). r.number.0) (2 ^ 64) rows → IsDistinct same_bytes (map row_tag rows)
unfolding IsDistinct
tags_apart [] rises below = tt
tags_apart (r ∷ rows) rises below = (tags_above r.number.0 rows below.0 rises.0 below.1, tags_apart rows rises.1 below.1)

pub consumer_apart : (theirs : List UnsettledDelivery) (rows : List Row) → Rises (λ (r : Row). r.number.0) rows → AllBelow (λ (r : Row). r.number.0) (2 ^ 64) rows
    → IsDistinct same_bytes (map (λ d. d.tag.items) (consumer_map theirs rows))
consumer_apart theirs rows rises below =
    subst (IsDistinct same_bytes) (sym (tags_listed theirs rows))
    (fewer_apart same_bytes row_tag (λ _. true) (is_sent true theirs) (λ r _. refl) rows
    (subst (λ rs. IsDistinct same_bytes (map row_tag rs)) (sym (all_pass rows)) (tags_apart rows rises below)))

-- an outcome that is given is that of a terminal state
some_terminal : (o : Option DeliveryState) (s : DeliveryState) → terminal o ≡ Some s → is_some (terminal (Some s)) ≡ true
some_terminal None s e = cc
some_terminal (Some (state.Received r)) s e = cc
some_terminal (Some (state.Other v)) s e = cc
some_terminal (Some state.Accepted) s e = let same : state.Accepted ≡ s = cc in subst (λ x. is_some (terminal (Some x)) ≡ true) same refl
some_terminal (Some (state.Rejected r)) s e = let same : state.Rejected r ≡ s = cc in subst (λ x. is_some (terminal (Some x)) ≡ true) same refl
some_terminal (Some state.Released) s e = let same : state.Released ≡ s = cc in subst (λ x. is_some (terminal (Some x)) ≡ true) same refl
some_terminal (Some (state.Modified m)) s e = let same : state.Modified m ≡ s = cc in subst (λ x. is_some (terminal (Some x)) ≡ true) same refl

told_terminal : (told : Option UnsettledDelivery) (s : DeliveryState) → outcome_told told ≡ Some s → is_some (terminal (Some s)) ≡ true
told_terminal None s e = cc
told_terminal (Some d) s e = some_terminal d.state s e

kept_short : (r : Row) (o : Option DeliveryState) → ((s : DeliveryState) → o ≡ Some s → is_some (terminal (Some s)) ≡ true) → (d : Decision)
    → option_map (λ (outcome : DeliveryState). record { row = r.number; outcome = outcome }) (option_map kept_outcome o) ≡ Some d → length (state_spelling d.outcome) ≤ 400
kept_short r None ends d e = cc
kept_short r (Some s) ends d e =
    let same : record { row = r.number; outcome = kept_outcome s } ≡ d = cc in
    subst (λ (x : Decision). length (state_spelling x.outcome) ≤ 400) same (kept_len s (ends s refl))

given_short : (r : Row) (told : Option UnsettledDelivery) (o : Option DeliveryState) (d : Decision)
    → option_map (λ (outcome : DeliveryState). record { row = r.number; outcome = outcome }) (outcome_given told o) ≡ Some d → length (state_spelling d.outcome) ≤ 400
given_short r told (Some outcome) d e = cc
given_short r told None d e = kept_short r (outcome_told told) (told_terminal told) d e

pub decisions_short : (theirs : List UnsettledDelivery) (rows : List Row) → All (λ d. length (state_spelling d.outcome) ≤ 400) (decisions theirs rows)
decisions_short theirs rows = all_given (λ d. length (state_spelling d.outcome) ≤ 400) (decision_of theirs) (λ r. given_short r (told_of theirs r) r.outcome) rows

-- Entries of other tags.

abbrev pub HasOwn : (UnsettledDelivery → Bool) → List ℕ → Type 0
HasOwn own tag = (d : UnsettledDelivery) → d.tag.items ≡ tag → own d ≡ true

told_among : (own : UnsettledDelivery → Bool) (theirs : List UnsettledDelivery) (tag : List ℕ) → HasOwn own tag → told_in (filter own theirs) tag ≡ told_in theirs tag
told_among own theirs tag has = find_among (λ d. same_bytes d.tag.items tag) own (λ d same. has d ((bytes_eq-Decides d.tag.items tag).0 same)) theirs

pub forgotten_among : (own : UnsettledDelivery → Bool) (complete : Bool) (theirs : List UnsettledDelivery) (rows : List Row)
    → All (λ r. HasOwn own r.tag.items) rows → forgotten_rows complete (filter own theirs) rows ≡ forgotten_rows complete theirs rows
forgotten_among own complete theirs rows has =
    ap (map (λ r. r.number)) (same_kept (is_forgotten_by complete (filter own theirs)) (is_forgotten_by complete theirs) rows
    (each (λ r. HasOwn own r.tag.items) (λ r. is_forgotten_by complete (filter own theirs) r ≡ is_forgotten_by complete theirs r)
    (λ r h. ap (λ told. complete && (is_unforgotten r && not (is_some told))) (told_among own theirs r.tag.items h)) rows has))

pub kept_among : (own : UnsettledDelivery → Bool) (complete : Bool) (theirs : List UnsettledDelivery) (rows : List Row)
    → All (λ r. HasOwn own r.tag.items) rows → producer_map complete (filter own theirs) rows ≡ producer_map complete theirs rows
kept_among own complete theirs rows has =
    ap (map producer_entry) (same_kept (is_unsettled_after complete (filter own theirs)) (is_unsettled_after complete theirs) rows
    (each (λ r. HasOwn own r.tag.items) (λ r. is_unsettled_after complete (filter own theirs) r ≡ is_unsettled_after complete theirs r)
    (λ r h. ap (λ told. is_unforgotten r && not (complete && (is_unforgotten r && not (is_some told)))) (told_among own theirs r.tag.items h)) rows has))

pub due_among : (own : UnsettledDelivery → Bool) (complete : Bool) (theirs : List UnsettledDelivery) (rows : List Row)
    → All (λ r. HasOwn own r.tag.items) rows → due_tags complete (filter own theirs) rows ≡ due_tags complete theirs rows
due_among own complete theirs rows has =
    ap (map (λ r. r.tag)) (same_kept (is_due complete (filter own theirs)) (is_due complete theirs) rows
    (each (λ r. HasOwn own r.tag.items) (λ r. is_due complete (filter own theirs) r ≡ is_due complete theirs r)
    (λ r h. ap (λ told. (is_unforgotten r && not (complete && (is_unforgotten r && not (is_some told)))) && is_some told) (told_among own theirs r.tag.items h)) rows has))

pub decided_among : (own : UnsettledDelivery → Bool) (theirs : List UnsettledDelivery) (rows : List Row)
    → All (λ r. HasOwn own (row_tag r)) rows → decisions (filter own theirs) rows ≡ decisions theirs rows
decided_among own theirs rows has =
    same_given (decision_of (filter own theirs)) (decision_of theirs) rows
    (each (λ r. HasOwn own (row_tag r)) (λ r. decision_of (filter own theirs) r ≡ decision_of theirs r)
    (λ r h. ap (λ told. option_map (λ (outcome : DeliveryState). record { row = r.number; outcome = outcome }) (outcome_given told r.outcome)) (told_among own theirs (row_tag r) h)) rows has)

pub listed_among : (own : UnsettledDelivery → Bool) (theirs : List UnsettledDelivery) (rows : List Row)
    → All (λ r. HasOwn own (row_tag r)) rows → consumer_map (filter own theirs) rows ≡ consumer_map theirs rows
listed_among own theirs rows has =
    same_given (consumer_entry (filter own theirs)) (consumer_entry theirs) rows
    (each (λ r. HasOwn own (row_tag r)) (λ r. consumer_entry (filter own theirs) r ≡ consumer_entry theirs r)
    (λ r h. ap (λ told. listed_entry (row_tag r) (is_some told) (either_outcome r.outcome (outcome_given told r.outcome))) (told_among own theirs (row_tag r) h)) rows has)

pub sent_among : (own : UnsettledDelivery → Bool) (complete : Bool) (theirs : List UnsettledDelivery) (rows : List Row)
    → All (λ r. HasOwn own (row_tag r)) rows → sendings complete (filter own theirs) rows ≡ sendings complete theirs rows
sent_among own complete theirs rows has =
    same_given (sending_of complete (filter own theirs)) (sending_of complete theirs) rows
    (each (λ r. HasOwn own (row_tag r)) (λ r. sending_of complete (filter own theirs) r ≡ sending_of complete theirs r)
    (λ r h. ap (λ told. option_map (sending_as r) (resumed_as complete (is_some told) (either_outcome r.outcome (outcome_given told r.outcome))))
    (told_among own theirs (row_tag r) h)) rows has)
