-- A link that wasn't touched hasn't changed.
use Rattle.std.proofs.Common.{◌≡◌, ◌∙◌, ℕ, Bool, true, false, refl, sym, ap, List, [], ◌∷◌, Option, Some, None}
use Rattle.std.specs.Prelude.{◌||◌, ◌==◌, if◌then◌else◌, Result, Ok, Err, OnOk, option_map}
use Rattle.std.specs.List.{list_any}
use Rattle.std.specs.Map.{lookup}
use Rattle.std.specs.Ordering.{nat_cmp}
use Rattle.std.specs.BTreeMap.{BTreeMap, get, is_at}
use Rattle.state_collections.specs.NumberSet.{has}
use Rattle.std.proofs.lemmas.Bool.{eqb-true}
use Rattle.router_trace.specs.Links.{is_handle}
use Rattle.router_trace.specs.Sessions.{is_channel}
use Rattle.router_trace.specs.declared.handle.Attachment.{Attachment}
use Rattle.state_links.specs.declared.link.Link.{Link}
use Rattle.state_links.specs.declared.table.LinkTable.{LinkTable}
use Rattle.state_collections.specs.Places.{in_map, at}
use Rattle.state_links.specs.Touching.{is_numbered, if_number, named_link, in_session, in_connection, Touched}
use Rattle.state_collections.specs.NumberMap.{at_number}

pub neither : (a b : Bool) → (a || b) ≡ false → (a ≡ false) × (b ≡ false)
neither true b e = absurd cc
neither false b e = (refl, e)

pub untrue : (a b : Bool) → (if a then true else b) ≡ false → (a ≡ false) × (b ≡ false)
untrue true b e = absurd cc
untrue false b e = (refl, e)

-- if a call succeeds, what it ensures holds, and so does what follows from it
pub then_ok : {A E P Q : Type 0} → (r : Result A E) → (P → Q) → OnOk r P → OnOk r Q
then_ok (Ok x) f p = f p
then_ok (Err x) f p = tt

pub untouched : (s : LinkTable) → Touched s s
untouched s = record { before = λ k e. e; links = λ k e c o h. refl; numbers = λ k e. refl }

unnumbered : (k : ℕ) (v : Option Link) → is_numbered k v ≡ false → if_number k v ≡ None
unnumbered k None e = refl
unnumbered k (Some l) e = rw e refl

-- a row that changes at one place
changed_row : (k : ℕ) (here own handle : Bool) (n x old hit : Option Link)
    → x ≡ (if here then (if own then (if handle then n else old) else old) else old)
    → (here ≡ true → own ≡ true → handle ≡ true → old ≡ hit) → is_numbered k hit ≡ false
    → (is_numbered k old ≡ false → is_numbered k n ≡ false) → if_number k old ≡ if_number k x
changed_row k false own handle n x old hit is same un new = ap (if_number k) (sym is)
changed_row k true false handle n x old hit is same un new = ap (if_number k) (sym is)
changed_row k true true false n x old hit is same un new = ap (if_number k) (sym is)
changed_row k true true true n x old hit is same un new =
    let old_un : is_numbered k old ≡ false = ap (is_numbered k) (same refl refl refl) ∙ un in
    unnumbered k old old_un ∙ sym (unnumbered k n (new old_un)) ∙ ap (if_number k) (sym is)

place_same : (links : ℕ → ℕ → ℕ → Option Link) (conn d o h : ℕ) (own handle : Option ℕ)
    → (conn == d) ≡ true → is_channel own o ≡ true → is_handle handle h ≡ true → links d o h ≡ named_link own handle (links conn)
place_same links conn d o h None handle e f g = absurd cc
place_same links conn d o h (Some p) None e f g = absurd cc
place_same links conn d o h (Some p) (Some q) e f g =
    ap (λ c. links c o h) (sym (eqb-true conn d e)) ∙ ap (λ c. links conn c h) (sym (eqb-true p o f)) ∙ ap (links conn p) (sym (eqb-true q h g))

-- after a link is removed at a place
pub left_touches : (conn own handle : ℕ) (old new : LinkTable)
    → ((k : ℕ) → has new.touched k ≡ (if is_numbered k (at old.links conn own handle) then true else has old.touched k))
    → ((c o h : ℕ) → at new.links c o h ≡ (if conn == c then (if own == o then (if handle == h then None else at old.links c o h) else at old.links c o h) else at old.links c o h))
    → ((k : ℕ) → is_numbered k (at old.links conn own handle) ≡ false → at_number old.names.numbers.entries k ≡ at_number new.names.numbers.entries k)
    → Touched old new
left_touches conn own handle old new touched links numbers =
    let un : (k : ℕ) → has new.touched k ≡ false → (is_numbered k (at old.links conn own handle) ≡ false) × (has old.touched k ≡ false) =
    λ k e. untrue _ _ (sym (touched k) ∙ e) in
    record {
      before = λ k e. (un k e).1;
      links = λ k e c o h. changed_row k (conn == c) (own == o) (handle == h) None _ (at old.links c o h) (at old.links conn own handle)
          (links c o h) (place_same (at old.links) conn c o h (Some own) (Some handle)) (un k e).0 (λ e. refl);
      numbers = λ k e. numbers k (un k e).0;
    }

-- after a link, if there is one at a place, has changed and kept its number
still_unnumbered : (k : ℕ) (f : Link → Link) → ((l : Link) → (f l).number ≡ l.number) → (v : Option Link)
    → is_numbered k v ≡ false → is_numbered k (option_map f v) ≡ false
still_unnumbered k f kept None e = refl
still_unnumbered k f kept (Some l) e = ap (λ n. n == k) (kept l) ∙ e

pub changed_touches : (conn own : ℕ) (handle : Option ℕ) (f : Link → Link) (old new : LinkTable)
    → ((l : Link) → (f l).number ≡ l.number)
    → ((k : ℕ) → has new.touched k ≡ (if is_numbered k (named_link (Some own) handle (at old.links conn)) then true else has old.touched k))
    → ((c o h : ℕ) → at new.links c o h ≡ (if conn == c then (if own == o then (if is_handle handle h then option_map f (at old.links c o h) else at old.links c o h) else at old.links c o h) else at old.links c o h))
    → ((k : ℕ) → at_number old.names.numbers.entries k ≡ at_number new.names.numbers.entries k)
    → Touched old new
changed_touches conn own handle f old new kept touched links numbers =
    let un : (k : ℕ) → has new.touched k ≡ false → (is_numbered k (named_link (Some own) handle (at old.links conn)) ≡ false) × (has old.touched k ≡ false) =
    λ k e. untrue _ _ (sym (touched k) ∙ e) in
    record {
      before = λ k e. (un k e).1;
      links = λ k e c o h. changed_row k (conn == c) (own == o) (is_handle handle h) (option_map f (at old.links c o h)) _ (at old.links c o h)
          (named_link (Some own) handle (at old.links conn)) (links c o h) (place_same (at old.links) conn c o h (Some own) handle) (un k e).0
          (still_unnumbered k f kept (at old.links c o h));
      numbers = λ k e. numbers k;
    }

-- after a link is taken at a place where another may have been
pub joined_touches : (conn own handle : ℕ) (l : Link) (a : Attachment) (old new : LinkTable) (touched : ℕ → Bool) (middle : ℕ → Option Attachment)
    → ((k : ℕ) → touched k ≡ (if is_numbered k (at old.links conn own handle) then true else has old.touched k))
    → ((k : ℕ) → has new.touched k ≡ (if l.number == k then true else touched k))
    → ((c o h : ℕ) → at new.links c o h ≡ (if conn == c then (if own == o then (if handle == h then Some l else at old.links c o h) else at old.links c o h) else at old.links c o h))
    → ((k : ℕ) → is_numbered k (at old.links conn own handle) ≡ false → at_number old.names.numbers.entries k ≡ middle k)
    → ((k : ℕ) → at_number new.names.numbers.entries k ≡ (if l.number == k then Some a else middle k))
    → Touched old new
joined_touches conn own handle l a old new touched middle left joined links before behind =
    let un : (k : ℕ) → has new.touched k ≡ false → ((l.number == k) ≡ false) × (touched k ≡ false) = λ k e. untrue _ _ (sym (joined k) ∙ e) in
    let gone : (k : ℕ) → has new.touched k ≡ false → (is_numbered k (at old.links conn own handle) ≡ false) × (has old.touched k ≡ false) =
    λ k e. untrue _ _ (sym (left k) ∙ (un k e).1) in
    record {
      before = λ k e. (gone k e).1;
      links = λ k e c o h. changed_row k (conn == c) (own == o) (handle == h) (Some l) _ (at old.links c o h) (at old.links conn own handle)
          (links c o h) (place_same (at old.links) conn c o h (Some own) (Some handle)) (gone k e).0 (λ f. (un k e).0);
      numbers = λ k e. before k (gone k e).0 ∙ sym (behind k ∙ ap (λ b. if b then Some a else middle k) (un k e).0);
    }

-- of a session or a connection that ends
lookup_unnumbered : (k : ℕ) (test : ℕ → Bool) (es : List (ℕ × Link)) → list_any (λ e. e.1.number == k) es ≡ false → is_numbered k (lookup test es) ≡ false
lookup_unnumbered k test [] e = refl
lookup_unnumbered k test (x ∷ es) e =
    let parts = neither (x.1.number == k) (list_any (λ (e : ℕ × Link). e.1.number == k) es) e in
    either (test x.0) parts.0 (lookup_unnumbered k test es parts.1)
  where
    either : (b : Bool) → (x.1.number == k) ≡ false → is_numbered k (lookup test es) ≡ false → is_numbered k (if b then Some x.1 else lookup test es) ≡ false
    either true one rest = one
    either false one rest = rest

session_unnumbered : (k h : ℕ) (m : BTreeMap ℕ Link) → in_session k m ≡ false → is_numbered k (get nat_cmp m h) ≡ false
session_unnumbered k h m e = lookup_unnumbered k (is_at (nat_cmp h)) m.entries e

-- a link that may be there
abbrev pub in_ended : ℕ → Option (BTreeMap ℕ Link) → Bool
in_ended k None = false
in_ended k (Some m) = in_session k m

abbrev pub in_lost : ℕ → Option (BTreeMap ℕ (BTreeMap ℕ Link)) → Bool
in_lost k None = false
in_lost k (Some m) = in_connection k m

ended_unnumbered : (k h : ℕ) (m : Option (BTreeMap ℕ Link)) → in_ended k m ≡ false → is_numbered k (in_map m h) ≡ false
ended_unnumbered k h None e = refl
ended_unnumbered k h (Some m) e = session_unnumbered k h m e

lookup_ended : (k : ℕ) (test : ℕ → Bool) (es : List (ℕ × BTreeMap ℕ Link)) → list_any (λ e. in_session k e.1) es ≡ false → in_ended k (lookup test es) ≡ false
lookup_ended k test [] e = refl
lookup_ended k test (x ∷ es) e =
    let parts = neither (in_session k x.1) (list_any (λ (e : ℕ × BTreeMap ℕ Link). in_session k e.1) es) e in
    either (test x.0) parts.0 (lookup_ended k test es parts.1)
  where
    either : (b : Bool) → in_session k x.1 ≡ false → in_ended k (lookup test es) ≡ false → in_ended k (if b then Some x.1 else lookup test es) ≡ false
    either true one rest = one
    either false one rest = rest

lost_unnumbered : (k o h : ℕ) (m : Option (BTreeMap ℕ (BTreeMap ℕ Link))) → in_lost k m ≡ false → is_numbered k (in_map (in_map m o) h) ≡ false
lost_unnumbered k o h None e = refl
lost_unnumbered k o h (Some m) e = ended_unnumbered k h (get nat_cmp m o) (lookup_ended k (is_at (nat_cmp o)) m.entries e)

ended_row : (k : ℕ) (here own : Bool) (x old : Option Link) → x ≡ (if here then (if own then None else old) else old)
    → (here ≡ true → own ≡ true → is_numbered k old ≡ false) → if_number k old ≡ if_number k x
ended_row k false own x old is un = ap (if_number k) (sym is)
ended_row k true false x old is un = ap (if_number k) (sym is)
ended_row k true true x old is un = unnumbered k old (un refl refl) ∙ ap (if_number k) (sym is)

lost_row : (k : ℕ) (here : Bool) (x old : Option Link) → x ≡ (if here then None else old)
    → (here ≡ true → is_numbered k old ≡ false) → if_number k old ≡ if_number k x
lost_row k false x old is un = ap (if_number k) (sym is)
lost_row k true x old is un = unnumbered k old (un refl) ∙ ap (if_number k) (sym is)

pub ended_touches : (conn own : ℕ) (ended : Option (BTreeMap ℕ Link)) (old new : LinkTable)
    → ended ≡ in_map (at_number old.links.rows conn) own
    → ((k : ℕ) → has new.touched k ≡ (in_ended k ended || has old.touched k))
    → ((c o h : ℕ) → at new.links c o h ≡ (if conn == c then (if own == o then None else at old.links c o h) else at old.links c o h))
    → ((k : ℕ) → in_ended k ended ≡ false → at_number old.names.numbers.entries k ≡ at_number new.names.numbers.entries k)
    → Touched old new
ended_touches conn own ended old new gives touched links numbers =
    let un : (k : ℕ) → has new.touched k ≡ false → (in_ended k ended ≡ false) × (has old.touched k ≡ false) = λ k e. neither _ _ (sym (touched k) ∙ e) in
    let row : (k c o h : ℕ) → has new.touched k ≡ false → (conn == c) ≡ true → (own == o) ≡ true → is_numbered k (at old.links c o h) ≡ false =
    λ k c o h e f g. ap (λ d. is_numbered k (at old.links d o h)) (sym (eqb-true conn c f)) ∙ ap (λ d. is_numbered k (at old.links conn d h)) (sym (eqb-true own o g))
    ∙ ap (λ m. is_numbered k (in_map m h)) (sym gives) ∙ ended_unnumbered k h ended (un k e).0 in
    record {
      before = λ k e. (un k e).1;
      links = λ k e c o h. ended_row k (conn == c) (own == o) _ (at old.links c o h) (links c o h) (row k c o h e);
      numbers = λ k e. numbers k (un k e).0;
    }

pub lost_touches : (conn : ℕ) (lost : Option (BTreeMap ℕ (BTreeMap ℕ Link))) (old new : LinkTable)
    → lost ≡ at_number old.links.rows conn
    → ((k : ℕ) → has new.touched k ≡ (in_lost k lost || has old.touched k))
    → ((c o h : ℕ) → at new.links c o h ≡ (if conn == c then None else at old.links c o h))
    → ((k : ℕ) → in_lost k lost ≡ false → at_number old.names.numbers.entries k ≡ at_number new.names.numbers.entries k)
    → Touched old new
lost_touches conn lost old new gives touched links numbers =
    let un : (k : ℕ) → has new.touched k ≡ false → (in_lost k lost ≡ false) × (has old.touched k ≡ false) = λ k e. neither _ _ (sym (touched k) ∙ e) in
    let row : (k c o h : ℕ) → has new.touched k ≡ false → (conn == c) ≡ true → is_numbered k (at old.links c o h) ≡ false =
    λ k c o h e f. ap (λ d. is_numbered k (at old.links d o h)) (sym (eqb-true conn c f))
    ∙ ap (λ m. is_numbered k (in_map (in_map m o) h)) (sym gives) ∙ lost_unnumbered k o h lost (un k e).0 in
    record {
      before = λ k e. (un k e).1;
      links = λ k e c o h. lost_row k (conn == c) _ (at old.links c o h) (links c o h) (row k c o h e);
      numbers = λ k e. numbers k (un k e).0;
    }
