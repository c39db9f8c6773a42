-- What acts that apply say of the rows and termini of their book: the laws, and the forms that a crate above may cite.
use Rattle.std.proofs.Common.{◌≡◌, ◌∙◌, sym, ap, refl, subst, ℕ, ◌≤◌, ◌<◌, Bool, true, false, cond, not, ◌&&◌, List, Option, Some, None}
use Rattle.std.specs.Prelude.{◌==◌, find, filter, is_some, option_map, if◌then◌else◌}
use Rattle.std.specs.List.{AllPairs}
use Rattle.std.proofs.lemmas.Bool.{and_parts, eqb-true, not-true}
use Rattle.amqp_model.specs.declared.state.DeliveryState.{DeliveryState}
use Rattle.book_model.specs.declared.act.Act.{Act}
use Rattle.book_model.specs.declared.act.Admission.{Admission}
use Rattle.book_model.specs.declared.row.Row.{Row}
use Rattle.book_model.specs.declared.terminus.LinkKey.{LinkKey}
use Rattle.book_model.specs.declared.terminus.LinkRole.TheVariants.{Producer}
use Rattle.book_model.specs.declared.terminus.Terminus.{Terminus}
use Rattle.book_model.specs.Book.{row_at, row_named, terminus_at, terminus_of, has_tag, same_key, same_bytes, has_role, may_bind}
use Rattle.book_laws.specs.Said.{Apply, book_of, makes_in, admits_in, decides_in, forgets_in, drops_in, admission, decision, is_forgotten, is_open, row_of, row_said, rows_said, stands_under, standing_row, times_standing, made, is_dropped, terminus_said, termini_said, stands_at, standing_terminus, termini_standing}
use Rattle.book_laws.proofs.Keys.{bytes_of, key_of}
use Rattle.book_laws.proofs.Numbers.{rises_filter, rises_mapped, rises_pairs}
use Rattle.book_laws.proofs.Searching.{none_not_some, some_same, found_kept, found_both, found_mapped, found_number, found_passes, found_alone}
use Rattle.book_laws.proofs.Says.{kinds_of, Found, row_found, terminus_found, row_looked, terminus_looked, number_of_admit, number_of_make, stays_by}
use Rattle.book_laws.proofs.Telling.{says_of}

-- rows

unforgotten_open : (p q : Bool) → not q ≡ true → not (p && q) ≡ true
unforgotten_open true q e = e
unforgotten_open false q e = refl

pub rows_are : (acts : List Act) → Apply acts → (book_of acts).rows ≡ rows_said acts
rows_are acts apply = (says_of acts apply).rows

pub row_is : (acts : List Act) (n : ℕ) → Apply acts → row_at n (book_of acts).rows ≡ row_said acts n
row_is acts n apply = ap (row_at n) (rows_are acts apply)
    ∙ row_looked (decides_in acts) (forgets_in acts) (admits_in acts) n

-- a row of the book: its Admit, and what is said of it
pub record IsSaid (acts : List Act) (n : ℕ) (r : Row) : Type 0 where
  pub admit : Admission
  pub is : admission acts n ≡ Some admit
  pub row : r ≡ row_of acts admit
  pub number : r.number.0 ≡ n
  pub outcome : r.outcome ≡ decision acts n
  pub forgotten : r.forgotten ≡ is_forgotten acts n

pub row_in_book : (acts : List Act) (n : ℕ) (r : Row) → Apply acts → row_at n (book_of acts).rows ≡ Some r
    → IsSaid acts n r
row_in_book acts n r apply is =
    let found : Found (kinds_of acts) n r = row_found (kinds_of acts) (book_of acts) n r (says_of acts apply) is in
    record {
      admit = found.admission;
      is = found.is;
      row = found.row;
      number = ap (λ (x : Row). x.number.0) found.row ∙ found.number;
      outcome = ap (λ (x : Row). x.outcome) found.row ∙ ap (decision acts) found.number;
      forgotten = ap (λ (x : Row). x.forgotten) found.row ∙ ap (is_forgotten acts) found.number;
    }

-- an admitted row that is open is in the book
pub open_row_is : (acts : List Act) (n : ℕ) (a : Admission) → Apply acts → admission acts n ≡ Some a
    → is_open acts n ≡ true → row_at n (book_of acts).rows ≡ Some (row_of acts a)
open_row_is acts n a apply is opened =
    row_is acts n apply ∙ ap (λ (b : Bool). if b then option_map (row_of acts) (admission acts n) else None) opened
    ∙ ap (option_map (row_of acts)) is

-- so is one that is undecided, and one that isn't forgotten
pub undecided_row_is : (acts : List Act) (n : ℕ) (a : Admission) → Apply acts → admission acts n ≡ Some a
    → decision acts n ≡ None → row_at n (book_of acts).rows ≡ Some (row_of acts a)
undecided_row_is acts n a apply is undecided =
    open_row_is acts n a apply is (ap (λ (o : Option DeliveryState). not (is_some o && is_forgotten acts n)) undecided)

pub unforgotten_row_is : (acts : List Act) (n : ℕ) (a : Admission) → Apply acts → admission acts n ≡ Some a
    → is_forgotten acts n ≡ false → row_at n (book_of acts).rows ≡ Some (row_of acts a)
unforgotten_row_is acts n a apply is unforgotten =
    open_row_is acts n a apply is (unforgotten_open (is_some (decision acts n)) (is_forgotten acts n)
    (ap not unforgotten))

-- one that isn't open isn't
pub closed_row_is : (acts : List Act) (n : ℕ) → Apply acts → is_open acts n ≡ false
    → row_at n (book_of acts).rows ≡ None
closed_row_is acts n apply closed = row_is acts n apply
    ∙ ap (λ (b : Bool). if b then option_map (row_of acts) (admission acts n) else None) closed

-- the number of what a search found
pub admission_number : (acts : List Act) (n : ℕ) (a : Admission) → admission acts n ≡ Some a → a.row.0 ≡ n
admission_number acts n a is = found_number number_of_admit n (admits_in acts) a is

pub made_number : (acts : List Act) (n : ℕ) (t : Terminus) → made acts n ≡ Some t → t.number.0 ≡ n
made_number acts n t is = found_number number_of_make n (makes_in acts) t is

-- termini

pub termini_are : (acts : List Act) → Apply acts → (book_of acts).termini ≡ termini_said acts
termini_are acts apply = (says_of acts apply).termini

pub terminus_is : (acts : List Act) (n : ℕ) → Apply acts → terminus_at n (book_of acts).termini ≡ terminus_said acts n
terminus_is acts n apply = ap (terminus_at n) (termini_are acts apply)
    ∙ terminus_looked (drops_in acts) (makes_in acts) n ∙ by (is_dropped acts n)
  where
    by : (b : Bool) → cond (not b) (made acts n) None ≡ (if b then None else made acts n)
    by true = refl
    by false = refl

pub terminus_of_key_is : (acts : List Act) (key : LinkKey) → Apply acts
    → terminus_of key (book_of acts).termini ≡ standing_terminus acts key
terminus_of_key_is acts key apply = ap (terminus_of key) (termini_are acts apply)
    ∙ found_both (λ (t : Terminus). same_key t.key key) (stays_by (drops_in acts)) (makes_in acts)

pub one_terminus : (acts : List Act) (key : LinkKey) → Apply acts → termini_standing acts key ≤ 1
one_terminus acts key apply = (says_of acts apply).keys key

-- the termini of an Admit were made, in their roles

pub producer_made : (acts : List Act) (n : ℕ) (a : Admission) → Apply acts → admission acts n ≡ Some a
    → has_role Producer (made acts a.producer.0) ≡ true
producer_made acts n a apply is = ((says_of acts apply).between n a is).producer

pub consumer_made : (acts : List Act) (n : ℕ) (a : Admission) → Apply acts → admission acts n ≡ Some a
    → may_bind a.consumer (makes_in acts) ≡ true
consumer_made acts n a apply is = ((says_of acts apply).between n a is).consumer

-- they stand, the producer's until the row is forgotten, the consumer's until it is decided

pub producer_stands : (acts : List Act) (n : ℕ) (a : Admission) → Apply acts → admission acts n ≡ Some a
    → is_forgotten acts n ≡ false → has_role Producer (terminus_said acts a.producer.0) ≡ true
producer_stands acts n a apply is unforgotten =
    ap (has_role Producer) (sym (terminus_is acts a.producer.0 apply))
    ∙ ((says_of acts apply).kept n a is).producer (ap (is_forgotten acts) (admission_number acts n a is) ∙ unforgotten)

pub consumer_stands : (acts : List Act) (n : ℕ) (a : Admission) → Apply acts → admission acts n ≡ Some a
    → decision acts n ≡ None → may_bind a.consumer (termini_said acts) ≡ true
consumer_stands acts n a apply is undecided =
    ap (may_bind a.consumer) (sym (termini_are acts apply))
    ∙ ((says_of acts apply).kept n a is).consumer (ap (decision acts) (admission_number acts n a is) ∙ undecided)

-- tags

middle : (p q r : Bool) → (p && q && r) ≡ true → q ≡ true
middle true true r e = refl
middle true false r e = absurd cc
middle false q r e = absurd cc

pub row_named_is : (acts : List Act) (producer : ℕ) (tag : List ℕ) → Apply acts
    → row_named producer tag (book_of acts).rows ≡ standing_row acts producer tag
row_named_is acts producer tag apply =
    ap (row_named producer tag) (rows_are acts apply)
    ∙ found_mapped (has_tag producer tag) (row_of acts) (filter (λ a. is_open acts a.row.0) (admits_in acts))
    ∙ ap (option_map (row_of acts)) (found_kept (stands_under acts producer tag)
    (λ (a : Admission). is_open acts a.row.0) opened (admits_in acts))
  where
    opened : (a : Admission) → stands_under acts producer tag a ≡ true → is_open acts a.row.0 ≡ true
    opened a e = unforgotten_open (is_some (decision acts a.row.0)) (is_forgotten acts a.row.0)
        (middle (a.producer.0 == producer) (not (is_forgotten acts a.row.0)) (same_bytes a.tag.items tag) e)

pub one_standing : (acts : List Act) (producer : ℕ) (tag : List ℕ) → Apply acts → times_standing acts producer tag ≤ 1
one_standing acts producer tag apply = (says_of acts apply).tags producer tag

-- a standing row: its Admit, which is that of its number
pub record Stands (acts : List Act) (producer : ℕ) (tag : List ℕ) (r : Row) : Type 0 where
  pub admit : Admission
  pub is : admission acts r.number.0 ≡ Some admit
  pub row : r ≡ row_of acts admit
  pub unforgotten : is_forgotten acts r.number.0 ≡ false
  pub from : admit.producer.0 ≡ producer
  pub under : admit.tag.items ≡ tag

pub standing_row_is : (acts : List Act) (producer : ℕ) (tag : List ℕ) (r : Row) → Apply acts
    → standing_row acts producer tag ≡ Some r → Stands acts producer tag r
standing_row_is acts producer tag r apply is = by (find (stands_under acts producer tag) (admits_in acts)) refl is
  where
    by : (o : Option Admission) → find (stands_under acts producer tag) (admits_in acts) ≡ o
        → option_map (row_of acts) o ≡ Some r → Stands acts producer tag r
    by None found e = absurd (none_not_some e)
    by (Some a) found e =
        let row : row_of acts a ≡ r = some_same e in
        let stands : stands_under acts producer tag a ≡ true =
        found_passes (stands_under acts producer tag) (admits_in acts) a found in
        let both = and_parts (a.producer.0 == producer && not (is_forgotten acts a.row.0))
        (same_bytes a.tag.items tag) stands in
        let first = and_parts (a.producer.0 == producer) (not (is_forgotten acts a.row.0)) both.0 in
        let number : a.row.0 ≡ r.number.0 = ap (λ (x : Row). x.number.0) row in
        let alone : admission acts a.row.0 ≡ Some a =
        found_alone number_of_admit (stands_under acts producer tag) (admits_in acts) a found
        ((says_of acts apply).admits.once a.row.0) in
        record {
          admit = a;
          is = ap (admission acts) (sym number) ∙ alone;
          row = sym row;
          unforgotten = ap (is_forgotten acts) (sym number) ∙ not-true (is_forgotten acts a.row.0) first.1;
          from = eqb-true a.producer.0 producer first.0;
          under = bytes_of a.tag.items tag both.1;
        }

pub row_named_in_book : (acts : List Act) (producer : ℕ) (tag : List ℕ) (r : Row) → Apply acts
    → row_named producer tag (book_of acts).rows ≡ Some r → Stands acts producer tag r
row_named_in_book acts producer tag r apply is =
    standing_row_is acts producer tag r apply (sym (row_named_is acts producer tag apply) ∙ is)

-- it is what is said of the row of its number
pub standing_row_said : (acts : List Act) (producer : ℕ) (tag : List ℕ) (r : Row) → Apply acts
    → standing_row acts producer tag ≡ Some r → row_said acts r.number.0 ≡ Some r
standing_row_said acts producer tag r apply is =
    let stands : Stands acts producer tag r = standing_row_is acts producer tag r apply is in
    let opened : is_open acts r.number.0 ≡ true =
    unforgotten_open (is_some (decision acts r.number.0)) (is_forgotten acts r.number.0)
    (ap not stands.unforgotten) in
    ap (λ (b : Bool). if b then option_map (row_of acts) (admission acts r.number.0) else None) opened
    ∙ ap (option_map (row_of acts)) stands.is ∙ ap Some (sym stands.row)

-- a terminus of the book: its Make
pub terminus_in_book : (acts : List Act) (n : ℕ) (t : Terminus) → Apply acts
    → terminus_at n (book_of acts).termini ≡ Some t → (made acts n ≡ Some t) × (is_dropped acts n ≡ false)
terminus_in_book acts n t apply is =
    let found = terminus_found (kinds_of acts) (book_of acts) n t (says_of acts apply) is in (found.is, found.stays)

-- a standing terminus: its Make is that of its number
pub record StandsAt (acts : List Act) (key : LinkKey) (t : Terminus) : Type 0 where
  pub is : made acts t.number.0 ≡ Some t
  pub undropped : is_dropped acts t.number.0 ≡ false
  pub at : t.key ≡ key

pub standing_terminus_is : (acts : List Act) (key : LinkKey) (t : Terminus) → Apply acts
    → standing_terminus acts key ≡ Some t → StandsAt acts key t
standing_terminus_is acts key t apply is =
    let both = and_parts (not (is_dropped acts t.number.0)) (same_key t.key key)
    (found_passes (stands_at acts key) (makes_in acts) t is) in
    record {
      is = found_alone number_of_make (stands_at acts key) (makes_in acts) t is
          ((says_of acts apply).makes.once t.number.0);
      undropped = not-true (is_dropped acts t.number.0) both.0;
      at = key_of t.key key both.1;
    }

pub terminus_of_key_in_book : (acts : List Act) (key : LinkKey) (t : Terminus) → Apply acts
    → terminus_of key (book_of acts).termini ≡ Some t → StandsAt acts key t
terminus_of_key_in_book acts key t apply is =
    standing_terminus_is acts key t apply (sym (terminus_of_key_is acts key apply) ∙ is)

-- numbers rise

pub rows_rise : (acts : List Act) → Apply acts → AllPairs (λ (r s : Row). r.number.0 < s.number.0) (book_of acts).rows
rows_rise acts apply =
    subst (AllPairs (λ (r s : Row). r.number.0 < s.number.0)) (sym (rows_are acts apply))
    (rises_pairs (λ (r : Row). r.number.0) (rows_said acts)
    (rises_mapped number_of_admit (λ (r : Row). r.number.0) (row_of acts) (λ a. refl)
    (filter (λ a. is_open acts a.row.0) (admits_in acts))
    (rises_filter number_of_admit (λ (a : Admission). is_open acts a.row.0) (admits_in acts)
    (says_of acts apply).admits_rise)))

pub termini_rise : (acts : List Act) → Apply acts
    → AllPairs (λ (t u : Terminus). t.number.0 < u.number.0) (book_of acts).termini
termini_rise acts apply =
    subst (AllPairs (λ (t u : Terminus). t.number.0 < u.number.0)) (sym (termini_are acts apply))
    (rises_pairs number_of_make (termini_said acts)
    (rises_filter number_of_make (stays_by (drops_in acts)) (makes_in acts) (says_of acts apply).makes_rise))
