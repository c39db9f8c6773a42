-- What the acts so far, by their kinds, say of a book.
use Rattle.std.proofs.Common.{◌≡◌, ◌∙◌, sym, ap, refl, ℕ, ◌≤◌, Bool, true, false, cond, not, ◌&&◌, ◌||◌, List, [], ◌∷◌, ◌++◌, map, arith, Option, Some, None}
use Rattle.std.specs.Prelude.{◌==◌, find, filter, count_by, is_some, option_map, if◌then◌else◌}
use Rattle.std.specs.List.{list_any}
use Rattle.std.specs.Option.{option_or}
use Rattle.std.proofs.lemmas.List.Folds.{find-append, list_any-append}
use Rattle.amqp_model.specs.declared.state.DeliveryState.{DeliveryState}
use Rattle.book_model.specs.declared.act.Act.{Act}
use Rattle.book_model.specs.declared.act.Act.TheVariants.{Make, Admit, Decide, Forget, Drop}
use Rattle.book_model.specs.declared.act.Admission.{Admission}
use Rattle.book_model.specs.declared.act.Decision.{Decision}
use Rattle.book_model.specs.declared.row.Row.{Row}
use Rattle.book_model.specs.declared.row.RowNumber.{RowNumber}
use Rattle.book_model.specs.declared.terminus.LinkKey.{LinkKey}
use Rattle.book_model.specs.declared.terminus.LinkRole.TheVariants.{Producer}
use Rattle.book_model.specs.declared.terminus.Terminus.{Terminus}
use Rattle.book_model.specs.declared.terminus.TerminusNumber.{TerminusNumber}
use Rattle.book_model.specs.Book.{BookView, empty_book, admitted, row_at, terminus_at, has_role, may_bind, same_key, same_bytes}
use Rattle.book_laws.specs.Said.{makes_in, admits_in, decides_in, forgets_in, drops_in}
use Rattle.book_laws.proofs.Numbers.{Once, Rises, once_none}
use Rattle.book_laws.proofs.Searching.{found_among, found_mapped, found_number, none_not_some, some_same}

-- the acts of each kind
pub record Kinds : Type 0 where
  pub makes : List Terminus
  pub admits : List Admission
  pub decides : List Decision
  pub forgets : List RowNumber
  pub drops : List TerminusNumber

abbrev pub kinds_of : List Act → Kinds
kinds_of acts = record {
  makes = makes_in acts;
  admits = admits_in acts;
  decides = decides_in acts;
  forgets =
      forgets_in acts;
  drops = drops_in acts;
}

-- with one more act
abbrev pub put : Kinds → Act → Kinds
put k (Make t) = record k { makes = k.makes ++ t ∷ [] }
put k (Admit a) = record k { admits = k.admits ++ a ∷ [] }
put k (Decide d) = record k { decides = k.decides ++ d ∷ [] }
put k (Forget n) = record k { forgets = k.forgets ++ n ∷ [] }
put k (Drop n) = record k { drops = k.drops ++ n ∷ [] }

abbrev pub number_of_make : Terminus → ℕ
number_of_make t = t.number.0

abbrev pub number_of_admit : Admission → ℕ
number_of_admit a = a.row.0

abbrev pub number_of_decide : Decision → ℕ
number_of_decide d = d.row.0

abbrev pub number_of_forget : RowNumber → ℕ
number_of_forget n = n.0

abbrev pub number_of_drop : TerminusNumber → ℕ
number_of_drop n = n.0

-- the words of `Said`, of lists of one kind
abbrev pub decision_by : List Decision → ℕ → Option DeliveryState
decision_by ds n = option_map (λ d. d.outcome) (find (λ d. d.row.0 == n) ds)

abbrev pub forgotten_by : List RowNumber → ℕ → Bool
forgotten_by ns n = list_any (λ m. m.0 == n) ns

abbrev pub open_by : List Decision → List RowNumber → ℕ → Bool
open_by ds ns n = not (is_some (decision_by ds n) && forgotten_by ns n)

abbrev pub row_with : Admission → Option DeliveryState → Bool → Row
row_with a outcome forgotten = record (admitted a) { outcome = outcome; forgotten = forgotten }

abbrev pub row_by : List Decision → List RowNumber → Admission → Row
row_by ds ns a = row_with a (decision_by ds a.row.0) (forgotten_by ns a.row.0)

abbrev pub rows_by : List Decision → List RowNumber → List Admission → List Row
rows_by ds ns xs = map (row_by ds ns) (filter (λ a. open_by ds ns a.row.0) xs)

abbrev pub dropped_by : List TerminusNumber → ℕ → Bool
dropped_by ns n = list_any (λ m. m.0 == n) ns

abbrev pub stays_by : List TerminusNumber → Terminus → Bool
stays_by ns t = not (dropped_by ns t.number.0)

abbrev pub stands_by : List RowNumber → ℕ → List ℕ → Admission → Bool
stands_by ns producer tag a = a.producer.0 == producer && not (forgotten_by ns a.row.0) && same_bytes a.tag.items tag

abbrev pub holds_key : List TerminusNumber → LinkKey → Terminus → Bool
holds_key ns key t = not (dropped_by ns t.number.0) && same_key t.key key

-- the termini of an Admit are made, in their roles
pub record IsBetween (makes : List Terminus) (a : Admission) : Type 0 where
  pub producer : has_role Producer (terminus_at a.producer.0 makes) ≡ true
  pub consumer : may_bind a.consumer makes ≡ true

-- its termini stand: the producer's until it is forgotten, the consumer's until it is decided
pub record IsKept (ds : List Decision) (ns : List RowNumber) (ts : List Terminus) (a : Admission) : Type 0 where
  pub producer : forgotten_by ns a.row.0 ≡ false → has_role Producer (terminus_at a.producer.0 ts) ≡ true
  pub consumer : decision_by ds a.row.0 ≡ None → may_bind a.consumer ts ≡ true

pub record Says (k : Kinds) (b : BookView) : Type 0 where
  pub rows : b.rows ≡ rows_by k.decides k.forgets k.admits
  pub termini : b.termini ≡ filter (stays_by k.drops) k.makes
  pub makes : Once number_of_make b.next_terminus k.makes
  pub admits : Once number_of_admit b.next_row k.admits
  pub decides : Once number_of_decide b.next_row k.decides
  pub forgets : Once number_of_forget b.next_row k.forgets
  pub drops : Once number_of_drop b.next_terminus k.drops
  pub makes_rise : Rises number_of_make k.makes
  pub admits_rise : Rises number_of_admit k.admits
  pub tags : (producer : ℕ) (tag : List ℕ) → count_by (stands_by k.forgets producer tag) k.admits ≤ 1
  pub keys : (key : LinkKey) → count_by (holds_key k.drops key) k.makes ≤ 1
  pub between : (n : ℕ) (a : Admission) → find (λ a. a.row.0 == n) k.admits ≡ Some a → IsBetween k.makes a
  pub kept : (n : ℕ) (a : Admission) → find (λ a. a.row.0 == n) k.admits ≡ Some a
      → IsKept k.decides k.forgets b.termini a

pub says_nothing : Says (kinds_of []) empty_book
says_nothing = record {
  rows = refl;
  termini = refl;
  makes = once_none number_of_make 1;
  admits = once_none number_of_admit 1;
  decides = once_none number_of_decide 1;
  forgets = once_none number_of_forget 1;
  drops = once_none number_of_drop 1;
  makes_rise = tt;
  admits_rise = tt;
  tags = λ producer tag. omega arith;
  keys = λ key. omega arith;
  between = λ n a is. absurd (none_not_some is);
  kept = λ n a is. absurd (none_not_some is);
}

-- one more of a kind, as the words see it

pub decision_push : (ds : List Decision) (d : Decision) (n : ℕ)
    → decision_by (ds ++ d ∷ []) n ≡ option_or (decision_by ds n) (cond (d.row.0 == n) (Some d.outcome) None)
decision_push ds d n = ap (option_map (λ (d : Decision). d.outcome))
    (find-append (λ (d : Decision). d.row.0 == n) ds (d ∷ [])) ∙ by (find (λ d. d.row.0 == n) ds) (d.row.0 == n)
  where
    by : (o : Option Decision) (b : Bool)
        → option_map (λ (d : Decision). d.outcome) (option_or o (cond b (Some d) None))
        ≡ option_or (option_map (λ (d : Decision). d.outcome) o) (cond b (Some d.outcome) None)
    by None true = refl
    by None false = refl
    by (Some c) b = refl

pub forgotten_push : (ns : List RowNumber) (m : RowNumber) (n : ℕ)
    → forgotten_by (ns ++ m ∷ []) n ≡ (forgotten_by ns n || (m.0 == n || false))
forgotten_push ns m n = list_any-append (λ (m : RowNumber). m.0 == n) ns (m ∷ [])

pub dropped_push : (ns : List TerminusNumber) (m : TerminusNumber) (n : ℕ)
    → dropped_by (ns ++ m ∷ []) n ≡ (dropped_by ns n || (m.0 == n || false))
dropped_push ns m n = list_any-append (λ (m : TerminusNumber). m.0 == n) ns (m ∷ [])

-- the look-ups of a book

pub row_looked : (ds : List Decision) (ns : List RowNumber) (xs : List Admission) (n : ℕ)
    → row_at n (rows_by ds ns xs) ≡ (if open_by ds ns n then option_map (row_by ds ns)
    (find (λ a. a.row.0 == n) xs) else None)
row_looked ds ns xs n =
    found_mapped (λ (r : Row). r.number.0 == n) (row_by ds ns) (filter (λ a. open_by ds ns a.row.0) xs)
    ∙ ap (option_map (row_by ds ns)) (found_among number_of_admit (open_by ds ns) n xs)
    ∙ by (open_by ds ns n) (find (λ a. a.row.0 == n) xs)
  where
    by : (b : Bool) (o : Option Admission)
        → option_map (row_by ds ns) (cond b o None) ≡ cond b (option_map (row_by ds ns) o) None
    by true o = refl
    by false o = refl

pub terminus_looked : (ns : List TerminusNumber) (ts : List Terminus) (n : ℕ)
    → terminus_at n (filter (stays_by ns) ts) ≡ cond (not (dropped_by ns n)) (terminus_at n ts) None
terminus_looked ns ts n = found_among number_of_make (λ k. not (dropped_by ns k)) n ts

-- a row that is found in a book: it is admitted, and what is said of it
pub record Found (k : Kinds) (n : ℕ) (r : Row) : Type 0 where
  pub admission : Admission
  pub is : find (λ a. a.row.0 == n) k.admits ≡ Some admission
  pub number : admission.row.0 ≡ n
  pub row : r ≡ row_by k.decides k.forgets admission
  pub opened : open_by k.decides k.forgets n ≡ true

pub row_found : (k : Kinds) (b : BookView) (n : ℕ) (r : Row) → Says k b → row_at n b.rows ≡ Some r → Found k n r
row_found k b n r says is = by (open_by k.decides k.forgets n) (find (λ a. a.row.0 == n) k.admits) refl refl
    (sym (ap (row_at n) says.rows ∙ row_looked k.decides k.forgets k.admits n) ∙ is)
  where
    by : (p : Bool) (o : Option Admission) → open_by k.decides k.forgets n ≡ p → find (λ a. a.row.0 == n) k.admits ≡ o
        → cond p (option_map (row_by k.decides k.forgets) o) None ≡ Some r → Found k n r
    by false o open_is found h = absurd (none_not_some h)
    by true None open_is found h = absurd (none_not_some h)
    by true (Some a) open_is found h = record {
      admission = a;
      is = found;
      number =
          found_number number_of_admit n k.admits a found;
      row = sym (some_same h);
      opened = open_is;
    }

pub record FoundTerminus (k : Kinds) (n : ℕ) (t : Terminus) : Type 0 where
  pub is : terminus_at n k.makes ≡ Some t
  pub stays : dropped_by k.drops n ≡ false

pub terminus_found : (k : Kinds) (b : BookView) (n : ℕ) (t : Terminus) → Says k b → terminus_at n b.termini ≡ Some t
    → FoundTerminus k n t
terminus_found k b n t says is = by (dropped_by k.drops n) refl
    (sym (ap (terminus_at n) says.termini ∙ terminus_looked k.drops k.makes n) ∙ is)
  where
    by : (p : Bool) → dropped_by k.drops n ≡ p → cond (not p) (terminus_at n k.makes) None ≡ Some t
        → FoundTerminus k n t
    by true stays h = absurd (none_not_some h)
    by false stays h = record { is = h; stays = stays }
