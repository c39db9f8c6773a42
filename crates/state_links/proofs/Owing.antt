-- Gathering the links that owe a drain.
use Rattle.std.proofs.Common.{◌≡◌, ◌∙◌, ℕ, Bool, true, false, refl, sym, ap, subst, arith, List, [], ◌∷◌, ◌++◌, append_assoc, append-nil, Option, Some, None}
use Rattle.std.specs.Prelude.{◌&&◌, ◌||◌, ◌==◌, if◌then◌else◌, is_some, option_map}
use Rattle.std.specs.List.{list_any, flat_map}
use Rattle.std.specs.Map.{keys_of, lookup}
use Rattle.std.specs.Ordering.{nat_cmp}
use Rattle.std.specs.BTreeMap.{BTreeMap, get, is_at}
use Rattle.std.specs.BTreeSet.{BTreeSet, contains}
use Rattle.std.proofs.lemmas.Bool.{eqb-true}
use Rattle.std.proofs.lemmas.Bool.Decides.{nat_tests}
use Rattle.std.proofs.lemmas.List.Folds.{list_any-append}
use Rattle.router_trace.specs.declared.handle.Attachment.{Attachment}
use Rattle.router_trace.specs.Trace.{Trace}
use Rattle.router_trace.specs.Links as view
use Rattle.router_trace.specs.Links.{Happened, sends, receives, link}
use Rattle.router_trace.specs.Following.{is_sending, owes_one}
use Rattle.state_links.specs.declared.link.Link.{Link}
use Rattle.state_links.specs.declared.table.LinkTable.{LinkTable}
use Rattle.state_links.specs.Ends.{end_of, link_of}
use Rattle.state_links.specs.Fits.{TableFit, owes}
use Rattle.state_links.specs.Looking.{sends_at}
use Rattle.state_links.specs.Naming.{NamesFit}
use Rattle.state_links.specs.Owed.{is_same, is_listed, owed_at, owed_of_session, owed_of_connection, owed_of, owes_in_session, owes_on}
use Rattle.state_collections.specs.Places.{in_map, at}
use Rattle.state_collections.specs.NumberMap.{at_number}

-- one turn of a loop that gathers, and its end
pub turn : (old here new all : List Attachment) (f : ℕ → List Attachment) (ks rest : List ℕ) (k : ℕ)
    → new ≡ old ++ here → here ≡ f k → ks ≡ k ∷ rest → old ++ flat_map f ks ≡ all → new ++ flat_map f rest ≡ all
turn old here new all f ks rest k more is whole so_far =
    ap (λ xs. xs ++ flat_map f rest) more ∙ append_assoc old here (flat_map f rest) ∙ ap (λ xs. old ++ (xs ++ flat_map f rest)) is
    ∙ ap (λ xs. old ++ flat_map f xs) (sym whole) ∙ so_far

pub done : (old all : List Attachment) (f : ℕ → List Attachment) (ks : List ℕ) → ks ≡ [] → old ++ flat_map f ks ≡ all → old ≡ all
done old all f ks is so_far = sym (append-nil old) ∙ ap (λ xs. old ++ flat_map f xs) (sym is) ∙ so_far

-- a number is among others
abbrev has : ℕ → List ℕ → Bool
has q ks = list_any (λ k. k == q) ks

absorbed : (h r : Bool) → (r || (h && r)) ≡ r
absorbed h true = refl
absorbed true false = refl
absorbed false false = refl

-- what is listed of one key is listed of all
any_gathered : (p : Attachment → Bool) (f : ℕ → List Attachment) (q : ℕ) (r : ℕ → Bool)
    → ((k : ℕ) → list_any p (f k) ≡ ((k == q) && r k)) → (ks : List ℕ) → list_any p (flat_map f ks) ≡ (has q ks && r q)
any_gathered p f q r each [] = refl
any_gathered p f q r each (k ∷ ks) =
    list_any-append p (f k) (flat_map f ks) ∙ ap (λ b. b || list_any p (flat_map f ks)) (each k) ∙ ap (λ b. ((k == q) && r k) || b) (any_gathered p f q r each ks)
    ∙ both (k == q) refl
  where
    both : (b : Bool) → (k == q) ≡ b → ((b && r k) || (has q ks && r q)) ≡ ((b || has q ks) && r q)
    both true e = ap (λ n. r n || (has q ks && r q)) (eqb-true k q e) ∙ absorbed (has q ks) (r q)
    both false e = refl

same_test : (a b : ℕ) → is_at (nat_cmp a) b ≡ (b == a)
same_test a b = grind (arith, nat_tests)

pub at_mark : (q k : ℕ) → is_at (nat_cmp q) k ≡ true → k ≡ q
at_mark q k e = eqb-true k q (sym (same_test q k) ∙ e)

-- a map has the keys at which something is found
has_key : {X : Type 0} → (q : ℕ) (es : List (ℕ × X)) → has q (keys_of es) ≡ is_some (lookup (is_at (nat_cmp q)) es)
has_key q [] = refl
has_key {X} q (e ∷ es) =
    ap (λ b. b || has q (keys_of es)) (sym (same_test q e.0)) ∙ ap (λ b. is_at (nat_cmp q) e.0 || b) (has_key q es) ∙ either (is_at (nat_cmp q) e.0)
  where
    either : (b : Bool) → (b || is_some (lookup (is_at (nat_cmp q)) es)) ≡ is_some (if b then Some e.1 else lookup (is_at (nat_cmp q)) es)
    either true = refl
    either false = refl

-- a link with this number owes a drain, and the router is its sender
abbrev passes : ℕ → Option Link → Bool
passes n None = false
passes n (Some l) = (l.number == n) && (l.owes_drain && sends_at l.end)

never : (b : Bool) → (b && false) ≡ false
never true = refl
never false = refl

grouped : (a b x : Bool) → ((a && b) && x) ≡ (a && (b && x))
grouped true b x = refl
grouped false b x = refl

one_link : (b here there nn : Bool) (x : Attachment) (p : Attachment → Bool) → p x ≡ (here && (there && nn)) → list_any p (if b then x ∷ [] else []) ≡ (here && (there && (nn && b)))
one_link true here there nn x p is = ap (λ y. y || false) is ∙ as_is here there nn
  where
    as_is : (a b c : Bool) → ((a && (b && c)) || false) ≡ (a && (b && (c && true)))
    as_is true true true = refl
    as_is true true false = refl
    as_is true false c = refl
    as_is false b c = refl
one_link false here there nn x p is = sym (not_at_all here there nn)
  where
    not_at_all : (a b c : Bool) → (a && (b && (c && false))) ≡ false
    not_at_all true true true = refl
    not_at_all true true false = refl
    not_at_all true false c = refl
    not_at_all false b c = refl

at_handle : (a : Attachment) (c o h : ℕ) (v : Option Link)
    → is_listed a (owed_at c o h v) ≡ ((h == a.handle) && (((o == a.channel) && (c == a.conn.0)) && passes a.number v))
at_handle a c o h None = sym (ap (λ b. (h == a.handle) && b) (never ((o == a.channel) && (c == a.conn.0))) ∙ never (h == a.handle))
at_handle a c o h (Some l) = one_link (l.owes_drain && sends_at l.end) (h == a.handle) ((o == a.channel) && (c == a.conn.0)) (l.number == a.number) _ (λ b. is_same b a) refl

found_there : (v : Option Link) (here : Bool) (n : ℕ) → (is_some v && (here && passes n v)) ≡ (here && passes n v)
found_there None here n = sym (never here)
found_there (Some l) here n = refl

in_a_session : (a : Attachment) (c o : ℕ) (m : Option (BTreeMap ℕ Link))
    → is_listed a (owed_of_session c o m) ≡ ((o == a.channel) && ((c == a.conn.0) && passes a.number (in_map m a.handle)))
in_a_session a c o None = sym (ap (λ b. (o == a.channel) && b) (never (c == a.conn.0)) ∙ never (o == a.channel))
in_a_session a c o (Some m) =
    let here = (o == a.channel) && (c == a.conn.0) in
    any_gathered (λ b. is_same b a) (λ h. owed_at c o h (get nat_cmp m h)) a.handle (λ h. here && passes a.number (get nat_cmp m h)) (λ h. at_handle a c o h (get nat_cmp m h)) (keys_of m.entries)
    ∙ ap (λ b. b && (here && passes a.number (get nat_cmp m a.handle))) (has_key a.handle m.entries)
    ∙ found_there (get nat_cmp m a.handle) here a.number
    ∙ grouped (o == a.channel) (c == a.conn.0) (passes a.number (get nat_cmp m a.handle))

session_there : (m : Option (BTreeMap ℕ Link)) (here : Bool) (h n : ℕ) → (is_some m && (here && passes n (in_map m h))) ≡ (here && passes n (in_map m h))
session_there None here h n = sym (never here)
session_there (Some m) here h n = refl

in_a_connection : (a : Attachment) (c : ℕ) (s : Option (BTreeMap ℕ (BTreeMap ℕ Link)))
    → is_listed a (owed_of_connection c s) ≡ ((c == a.conn.0) && passes a.number (in_map (in_map s a.channel) a.handle))
in_a_connection a c None = sym (never (c == a.conn.0))
in_a_connection a c (Some s) =
    any_gathered (λ b. is_same b a) (λ o. owed_of_session c o (get nat_cmp s o)) a.channel (λ o. (c == a.conn.0) && passes a.number (in_map (get nat_cmp s o) a.handle))
    (λ o. in_a_session a c o (get nat_cmp s o)) (keys_of s.entries)
    ∙ ap (λ b. b && ((c == a.conn.0) && passes a.number (in_map (get nat_cmp s a.channel) a.handle))) (has_key a.channel s.entries)
    ∙ session_there (get nat_cmp s a.channel) (c == a.conn.0) a.handle a.number

has_mark : (q : ℕ) (ks : List ℕ) → has q ks ≡ list_any (is_at (nat_cmp q)) ks
has_mark q [] = refl
has_mark q (k ∷ ks) = ap (λ b. b || has q ks) (sym (same_test q k)) ∙ ap (λ b. is_at (nat_cmp q) k || b) (has_mark q ks)

not_owed : (n : ℕ) (v : Option Link) → owes v ≡ false → passes n v ≡ false
not_owed n None e = refl
not_owed n (Some l) e = ap (λ b. (l.number == n) && (b && sends_at l.end)) e ∙ never (l.number == n)

marked_only : (marked : Bool) (n : ℕ) (v : Option Link) → (marked ≡ false → owes v ≡ false) → (marked && passes n v) ≡ passes n v
marked_only true n v un = refl
marked_only false n v un = sym (not_owed n v (un refl))

sends_same : (h : Happened) → sends_at (end_of h) ≡ is_sending h
sends_same (sends list) = refl
sends_same (receives list) = refl

owes_same : (n : ℕ) (v : Option view.Link) → passes n (option_map link_of v) ≡ owes_one v n
owes_same n None = refl
owes_same n (Some l) = ap (λ b. (l.number == n) && (l.owes_drain && b)) (sends_same l.happened)

pub owed_follows : (s : LinkTable) (t : Trace) (xs : List Attachment) → xs ≡ owed_of (at_number s.links.rows) s.owing.keys → TableFit s t
    → (a : Attachment) → is_listed a xs ≡ owes_one (link t a.conn.0 a.channel a.handle) a.number
owed_follows s t xs are fit a =
    ap (is_listed a) are
    ∙ any_gathered (λ b. is_same b a) (λ c. owed_of_connection c (at_number s.links.rows c)) a.conn.0 (λ c. passes a.number (in_map (in_map (at_number s.links.rows c) a.channel) a.handle))
    (λ c. in_a_connection a c (at_number s.links.rows c)) s.owing.keys
    ∙ ap (λ b. b && passes a.number (at s.links a.conn.0 a.channel a.handle)) (has_mark a.conn.0 s.owing.keys)
    ∙ marked_only (contains nat_cmp s.owing a.conn.0) a.number (at s.links a.conn.0 a.channel a.handle) (fit.owing a.conn.0 a.channel a.handle)
    ∙ ap (passes a.number) (fit.links a.conn.0 a.channel a.handle)
    ∙ owes_same a.number (link t a.conn.0 a.channel a.handle)

-- marks that are removed
neither : (a b : Bool) → (a || b) ≡ false → (a ≡ false) × (b ≡ false)
neither true b e = absurd cc
neither false b e = (refl, e)

settled_session : (test : ℕ → Bool) (es : List (ℕ × Link)) → list_any (λ e. e.1.owes_drain) es ≡ false → owes (lookup test es) ≡ false
settled_session test [] e = refl
settled_session test (x ∷ es) e =
    let parts = neither x.1.owes_drain (list_any (λ (e : ℕ × Link). e.1.owes_drain) es) e in
    either (test x.0) parts.0 (settled_session test es parts.1)
  where
    either : (b : Bool) → x.1.owes_drain ≡ false → owes (lookup test es) ≡ false → owes (if b then Some x.1 else lookup test es) ≡ false
    either true one rest = one
    either false one rest = rest

abbrev owes_of : Option (BTreeMap ℕ Link) → Bool
owes_of None = false
owes_of (Some m) = owes_in_session m

settled_sessions : (test : ℕ → Bool) (es : List (ℕ × BTreeMap ℕ Link)) → list_any (λ e. owes_in_session e.1) es ≡ false → owes_of (lookup test es) ≡ false
settled_sessions test [] e = refl
settled_sessions test (x ∷ es) e =
    let parts = neither (owes_in_session x.1) (list_any (λ (e : ℕ × BTreeMap ℕ Link). owes_in_session e.1) es) e in
    either (test x.0) parts.0 (settled_sessions test es parts.1)
  where
    either : (b : Bool) → owes_in_session x.1 ≡ false → owes_of (lookup test es) ≡ false → owes_of (if b then Some x.1 else lookup test es) ≡ false
    either true one rest = one
    either false one rest = rest

settled_of : (h : ℕ) (m : Option (BTreeMap ℕ Link)) → owes_of m ≡ false → owes (in_map m h) ≡ false
settled_of h None e = refl
settled_of h (Some m) e = settled_session (is_at (nat_cmp h)) m.entries e

settled_on : (o h : ℕ) (s : Option (BTreeMap ℕ (BTreeMap ℕ Link))) → owes_on s ≡ false → owes (in_map (in_map s o) h) ≡ false
settled_on o h None e = refl
settled_on o h (Some s) e = settled_of h (get nat_cmp s o) (settled_sessions (is_at (nat_cmp o)) s.entries e)

pub still_owing : (s : LinkTable) (marks : BTreeSet ℕ) → ((c : ℕ) → contains nat_cmp marks c ≡ (owes_on (at_number s.links.rows c) && contains nat_cmp s.owing c))
    → (c o h : ℕ) → (contains nat_cmp s.owing c ≡ false → owes (at s.links c o h) ≡ false) → contains nat_cmp marks c ≡ false → owes (at s.links c o h) ≡ false
still_owing s marks are c o h fit e = either (owes_on (at_number s.links.rows c)) refl (sym (are c) ∙ e)
  where
    either : (b : Bool) → owes_on (at_number s.links.rows c) ≡ b → (b && contains nat_cmp s.owing c) ≡ false → owes (at s.links c o h) ≡ false
    either true x f = fit f
    either false x f = settled_on o h (at_number s.links.rows c) x

pub settled_fits : (s u : LinkTable) (t : Trace) → u ≡ record s { owing = u.owing }
    → ((c : ℕ) → contains nat_cmp u.owing c ≡ (owes_on (at_number s.links.rows c) && contains nat_cmp s.owing c))
    → TableFit s t → TableFit u t
settled_fits s u t is marks fit = record {
  links = λ c o h. ap (λ (x : LinkTable). at x.links c o h) is ∙ fit.links c o h;
  count = ap (λ (x : LinkTable). x.count) is ∙ fit.count;
  names = subst (λ (x : LinkTable). NamesFit x.names t) (sym is) fit.names;
  owing = λ c o h e. ap (λ (x : LinkTable). owes (at x.links c o h)) is ∙ still_owing s u.owing marks c o h (fit.owing c o h) e;
}
