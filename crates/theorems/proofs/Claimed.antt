-- The row of a producer's unsettled delivery: what is known of one that is found.
use Rattle.std.proofs.Common.{◌≡◌, ◌∙◌, sym, ap, refl, subst, ℕ, zero, suc, ◌+◌, ◌%◌, ◌^◌, ◌<◌, ◌≤◌, Bool, true, false, not, ◌&&◌, ◌||◌, List, [], ◌∷◌, ◌++◌, arith}
use Rattle.std.specs.Prelude.{◌==◌, nat_lt, nat_le, find, filter, Option, Some, None, if◌then◌else◌}
use Rattle.std.proofs.lemmas.Bool.{eqb-true, ltb-true, ltb-false}
use Rattle.std.proofs.lemmas.Bool.Decides.{nat_tests}
use Rattle.std.proofs.lemmas.List.Folds.{list_any-append}
use Rattle.amqp_session.specs.Serials.{distance}
use Rattle.amqp_session.specs.Ranges.{has, in_range}
use Rattle.std.proofs.lemmas.Slice.Eq.{bytes_eq-Decides}
use Rattle.book_model.specs.declared.row.Row.{Row}
use Rattle.book_model.specs.declared.terminus.LinkKey.{LinkKey}
use Rattle.book_model.specs.declared.terminus.Terminus.{Terminus}
use Rattle.book_model.specs.Book.{BookView, terminus_of, row_named, has_tag, is_from, same_bytes}
use Rattle.router_trace.specs.Trace.{Trace}
use Rattle.router_trace.specs.declared.binding.Origin.{Origin}
use Rattle.router_trace.specs.Claims.{Claim, claims}
use Rattle.router_trace.specs.Settling.{ids_from, ids_between}
use Rattle.router_trace.specs.Links.{link, durable_key}
use Rattle.reply_transfers.specs.Joining.{named_row, row_joined, row_claimed, row_under}
use Rattle.theorems.proofs.Middles.{Said, said_of}
use Rattle.theorems.proofs.Tests.{none_not_some, some_same}

-- one that is found is among those that are searched
pub record Parts (p : Row → Bool) (rs : List Row) (row : Row) : Type 0 where
  pub earlier : List Row
  pub later : List Row
  pub kept : rs ≡ earlier ++ row ∷ later
  pub passes : p row ≡ true

pub found_parts : (p : Row → Bool) (rs : List Row) (row : Row) → find p rs ≡ Some row → Parts p rs row
found_parts p [] row is = absurd (none_not_some is)
found_parts p (r ∷ rs) row is = by (p r) refl is (found_parts p rs row)
  where
    by : (q : Bool) → p r ≡ q → (if q then Some r else find p rs) ≡ Some row → (find p rs ≡ Some row → Parts p rs row) → Parts p (r ∷ rs) row
    by true e is rest = let same : r ≡ row = some_same is in record { earlier = []; later = rs; kept = ap (λ (x : Row). x ∷ rs) same; passes = ap p (sym same) ∙ e }
    by false e is rest = let found = rest is in record { earlier = r ∷ found.earlier; later = found.later; kept = ap (λ (xs : List Row). r ∷ xs) found.kept; passes = found.passes }

-- the unforgotten row of the terminus of a durable link with a tag
pub record JoinedRow (b : BookView) (key : Option LinkKey) (tag : Option (List ℕ)) (row : Row) : Type 0 where
  pub of_link : LinkKey
  pub durable : key ≡ Some of_link
  pub terminus : Terminus
  pub of_key : terminus_of of_link b.termini ≡ Some terminus
  pub earlier : List Row
  pub later : List Row
  pub kept : b.rows ≡ earlier ++ row ∷ later
  pub named : find (has_tag terminus.number.0 row.tag.items) b.rows ≡ Some row
  pub its_producer : row.producer.0 ≡ terminus.number.0
  pub same_tag : tag ≡ Some row.tag.items
  pub unforgotten : row.forgotten ≡ false

pub joined_row : (b : BookView) (key : Option LinkKey) (tag : Option (List ℕ)) (row : Row) → row_joined b key tag ≡ Some row → JoinedRow b key tag row
joined_row b None None row is = absurd (none_not_some is)
joined_row b None (Some tag) row is = absurd (none_not_some is)
joined_row b (Some key) None row is = absurd (none_not_some is)
joined_row b (Some key) (Some tag) row is = by (terminus_of key b.termini) refl is
  where
    three : (f g h : Bool) → (f && g && h) ≡ true → (f ≡ true) × (g ≡ true) × (h ≡ true)
    three true true true is = (refl, refl, refl)
    three true true false is = absurd cc
    three true false h is = absurd cc
    three false true h is = absurd cc
    three false false h is = absurd cc

    open_one : (f : Bool) → not f ≡ true → f ≡ false
    open_one true e = absurd cc
    open_one false e = refl

    at : (x : Terminus) → terminus_of key b.termini ≡ Some x → row_named x.number.0 tag b.rows ≡ Some row → JoinedRow b (Some key) (Some tag) row
    at x found is =
        let parts = found_parts (has_tag x.number.0 tag) b.rows row is in
        let facts = three (is_from x.number.0 row) (not row.forgotten) (same_bytes row.tag.items tag) parts.passes in
        let same : row.tag.items ≡ tag = (bytes_eq-Decides row.tag.items tag).0 facts.2 in
        record {
          of_link = key;
          durable = refl;
          terminus = x;
          of_key = found;
          earlier = parts.earlier;
          later = parts.later;
          kept = parts.kept;
          named = ap (λ (tag : List ℕ). find (has_tag x.number.0 tag) b.rows) same ∙ is;
          its_producer = eqb-true row.producer.0 x.number.0 facts.0;
          same_tag = ap (λ (tag : List ℕ). Some tag) (sym same);
          unforgotten = open_one row.forgotten facts.1;
        }

    by : (v : Option Terminus) → terminus_of key b.termini ≡ v → named_row v tag b.rows ≡ Some row → JoinedRow b (Some key) (Some tag) row
    by None found is = absurd (none_not_some is)
    by (Some x) found is = at x found is

-- by a claimed id
pub record ClaimedRow (b : BookView) (t : Trace) (c own id : ℕ) (row : Row) : Type 0 where
  pub claim : Claim
  pub claimed : claims t c own id ≡ Some claim
  pub joined : JoinedRow b (durable_key (link t c own claim.handle)) claim.tag row

pub claimed_row : (b : BookView) (t : Trace) (c own id : ℕ) (row : Row) → row_under b t c own id ≡ Some row → ClaimedRow b t c own id row
claimed_row b t c own id row is = by (claims t c own id) refl is
  where
    by : (v : Option Claim) → claims t c own id ≡ v → row_claimed b t c own v ≡ Some row → ClaimedRow b t c own id row
    by None e is = absurd (none_not_some is)
    by (Some v) e is = record { claim = v; claimed = e; joined = joined_row b (durable_key (link t c own v.handle)) v.tag row is }

-- the ids of a range that are listed are in it

filtered_has : (p : ℕ → Bool) (id : ℕ) (xs : List ℕ) → has id (filter p xs) ≡ true → has id xs ≡ true
filtered_has p id [] is = absurd cc
filtered_has p id (x ∷ xs) is = by (p x) is (filtered_has p id xs)
  where
    first : (q : Bool) → (q || has id (filter p xs)) ≡ true → (has id (filter p xs) ≡ true → has id xs ≡ true) → (q || has id xs) ≡ true
    first true is rest = refl
    first false is rest = rest is

    later : (q : Bool) → has id xs ≡ true → (q || has id xs) ≡ true
    later true is = refl
    later false is = is

    by : (q : Bool) → has id (if q then x ∷ filter p xs else filter p xs) ≡ true → (has id (filter p xs) ≡ true → has id xs ≡ true) → ((id == x) || has id xs) ≡ true
    by true is rest = first (id == x) is rest
    by false is rest = later (id == x) (rest is)

-- (whatever the first one is)
near : (first n : ℕ) → n < 2 ^ 32 → distance first ((first + n) % 2 ^ 32) ≤ n
near first n l = by (nat_lt first (2 ^ 32)) refl (nat_lt first (2 ^ 33)) refl
  where
    low : first < 2 ^ 32 → distance first ((first + n) % 2 ^ 32) ≤ n
    low f = grind arith

    middle : 2 ^ 32 ≤ first → first < 2 ^ 33 → distance first ((first + n) % 2 ^ 32) ≤ n
    middle e f = grind arith

    high : 2 ^ 33 ≤ first → distance first ((first + n) % 2 ^ 32) ≤ n
    high e = grind arith

    by : (p : Bool) → nat_lt first (2 ^ 32) ≡ p → (q : Bool) → nat_lt first (2 ^ 33) ≡ q → distance first ((first + n) % 2 ^ 32) ≤ n
    by true e q f = low (ltb-true first (2 ^ 32) e)
    by false e true f = middle (ltb-false first (2 ^ 32) e) (ltb-true first (2 ^ 33) f)
    by false e false f = high (ltb-false first (2 ^ 33) f)

from_near : (first n id : ℕ) → n ≤ 2 ^ 31 → has id (ids_from first n) ≡ true → nat_lt (distance first id) n ≡ true
unfolding ids_from
from_near first zero id l is = absurd cc
from_near first (suc n) id l is =
    by (has id (ids_from first n)) refl (id == (first + n) % 2 ^ 32) refl
    (sym (list_any-append (λ other. id == other) (ids_from first n) ((first + n) % 2 ^ 32 ∷ [])) ∙ is) (from_near first n id (omega (arith, l)))
  where
    lower : nat_lt (distance first id) n ≡ true → nat_lt (distance first id) (suc n) ≡ true
    lower e = grind (arith, nat_tests)

    here : id ≡ (first + n) % 2 ^ 32 → nat_lt (distance first id) (suc n) ≡ true
    here e = subst (λ (k : ℕ). nat_lt (distance first k) (suc n) ≡ true) (sym e) (below (distance first ((first + n) % 2 ^ 32)) (near first n (omega (arith, l))))
      where
        below : (d : ℕ) → d ≤ n → nat_lt d (suc n) ≡ true
        below d low = grind (arith, nat_tests)

    by : (p : Bool) → has id (ids_from first n) ≡ p → (q : Bool) → (id == (first + n) % 2 ^ 32) ≡ q → (p || (q || false)) ≡ true
        → (has id (ids_from first n) ≡ true → nat_lt (distance first id) n ≡ true) → nat_lt (distance first id) (suc n) ≡ true
    by true e q f is rest = lower (rest e)
    by false e true f is rest = here (eqb-true id ((first + n) % 2 ^ 32) f)
    by false e false f is rest = absurd cc

pub between_is : (first last id : ℕ) → has id (ids_between first last) ≡ true → in_range first last id ≡ true
between_is first last id is = by (nat_lt (distance first last) (2 ^ 31)) refl is
  where
    up_to : (d e : ℕ) → nat_lt d (e + 1) ≡ true → nat_le d e ≡ true
    up_to d e h = grind (arith, nat_tests)

    by : (q : Bool) → nat_lt (distance first last) (2 ^ 31) ≡ q → has id (if q then ids_from first (distance first last + 1) else []) ≡ true → (q && nat_le (distance first id) (distance first last)) ≡ true
    by true e is =
        let close : distance first last < 2 ^ 31 = ltb-true (distance first last) (2 ^ 31) e in
        up_to (distance first id) (distance first last) (from_near first (distance first last + 1) id (omega (arith, close)) is)
    by false e is = absurd cc

pub listed_is : (p : ℕ → Bool) (first last id : ℕ) → has id (filter p (ids_between first last)) ≡ true → in_range first last id ≡ true
listed_is p first last id is = between_is first last id (filtered_has p id (ids_between first last) is)

-- the delivery in the middle of an origin's link has another id
abbrev pub IsApart : Trace → Origin → Type 0
IsApart t p = (said : Said) → said_of (link t p.link.conn.0 p.link.channel p.link.handle) ≡ Some said → said.id ≡ Some p.id → ⊥

-- what the producer's delivery of a row claims: its id, with the row's tag
pub record HasClaim (t : Trace) (p : Origin) (tag : List ℕ) : Type 0 where
  pub claim : Claim
  pub there : claims t p.link.conn.0 p.link.channel p.id ≡ Some claim
  pub on_link : claim.handle ≡ p.link.handle
  pub tagged : claim.tag ≡ Some tag
  pub apart : IsApart t p

-- no two claims of a durable link have one tag
abbrev pub OneTag : Trace → Type 0
OneTag t = (c own j k : ℕ) (v w : Claim) (key : LinkKey) (tag : List ℕ) → durable_key (link t c own v.handle) ≡ Some key → claims t c own j ≡ Some v → claims t c own k ≡ Some w → v.handle ≡ w.handle → v.tag ≡ Some tag → w.tag ≡ Some tag → j ≡ k
