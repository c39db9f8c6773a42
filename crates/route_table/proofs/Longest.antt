-- The longest prefix that matches is found by looking up each prefix of the address, the longest first.
use Rattle.std.proofs.Common.{◌≡◌, ℕ, Bool, true, false, cond, List, [], ◌∷◌, length, take, drop, Option, Some, None, IfSome, option_map, refl, sym, ◌∙◌, ap, subst, arith, ◌≤◌, ◌<◌, ◌+◌, ◌-◌, ◌&&◌, zero, suc, nat_lt, nat_eq, add-one}
use Rattle.std.proofs.lemmas.List.{length-take-le, length-take}
use Rattle.std.specs.Str.{bytes_eq}
use Rattle.std.specs.Map.{lookup}
use Rattle.std.proofs.lemmas.Slice.Eq.{bytes_eq-Decides}
use Rattle.std.proofs.lemmas.Bool.Decides.{nat_tests}
use Rattle.route_table.specs.Prefixes.{FindSame, best, candidate, longer, matches, goes_on, value_at}
use Rattle.std.specs.Prelude.{unwrap_or}
use Rattle.route_table.specs.declared.sections.Address.{Address}
use Rattle.route_table.specs.declared.sections.LinkRoute.{LinkRoute}
use Rattle.route_table.specs.declared.sections.Direction.TheVariants.{In, Out}
use Rattle.route_table.specs.declared.sections.Distribution.TheVariants.{Balanced}
use Rattle.route_table.specs.Places.{Routing, routing_of, address_pairs, route_pairs, FindsAs}
use Rattle.route_table.specs.Settings.{Settings}
use Rattle.route_table.proofs.Entries.{or_else}

length_at : (prefix a : List ℕ) (n : ℕ) → n ≤ length a → bytes_eq (take n a) prefix ≡ true → length prefix ≡ n
length_at prefix a n le same = sym (ap length ((bytes_eq-Decides (take n a) prefix).0 same)) ∙ length-take-le n a le

module _ {V : Type 0} where
  -- the entry for the first n bytes, where a prefix may end there; else the other
  abbrev pub asked : List (List ℕ × V) → List ℕ → ℕ → Option (List ℕ × V) → Option (List ℕ × V)
  asked es a n less = cond (goes_on (drop n a)) (or_else (option_map (λ v. (take n a, v)) (lookup (bytes_eq (take n a)) es)) less) less

  -- the entry for the longest prefix of fewer than n bytes
  abbrev pub scan : List (List ℕ × V) → List ℕ → ℕ → Option (List ℕ × V)
  scan es a zero = None
  scan es a (suc n) = asked es a n (scan es a n)

  -- the entry, where it matches and is shorter than n bytes
  abbrev pub short : ℕ → List ℕ × V → List ℕ → Option (List ℕ × V)
  short n e a = cond (nat_lt (length e.0) n) (candidate e a) None

  short_zero : (e : List ℕ × V) (a : List ℕ) → short 0 e a ≡ None
  short_zero e a = grind (arith, nat_tests)

  short_more : (e : List ℕ × V) (a : List ℕ) (n : ℕ) → short (suc n) e a ≡ cond (nat_eq (length e.0) n) (candidate e a) (short n e a)
  short_more e a n = grind (arith, nat_tests)

  more_short : (less : Option (List ℕ × V)) (n : ℕ) → IfSome less (λ y. length y.0 < n) → IfSome less (λ y. length y.0 < suc n)
  more_short None n h = h
  more_short (Some y) n h = omega arith

  short_by : (b : Bool) (l : Option V) (less : Option (List ℕ × V)) (p : List ℕ) (n : ℕ) → length p ≡ n → IfSome less (λ y. length y.0 < n) → IfSome (cond b (or_else (option_map (λ v. (p, v)) l) less) less) (λ y. length y.0 < suc n)
  short_by false l less p n is h = more_short less n h
  short_by true None less p n is h = more_short less n h
  short_by true (Some v) less p n is h = omega arith

  -- what is found is shorter than n
  pub scan_short : (es : List (List ℕ × V)) (a : List ℕ) (n : ℕ) → n ≤ length a + 1 → IfSome (scan es a n) (λ y. length y.0 < n)
  scan_short es a zero le = tt
  scan_short es a (suc n) le = short_by (goes_on (drop n a)) (lookup (bytes_eq (take n a)) es) (scan es a n) (take n a) n (let le' : n ≤ length a = omega arith in length-take-le n a le') (scan_short es a n (omega arith))

  -- the longer of two, where the first is shorter, or not
  longer_second : (x : Option (List ℕ × V)) (y : List ℕ × V) → IfSome x (λ e. length e.0 < length y.0) → longer x (Some y) ≡ Some y
  longer_second None y h = refl
  longer_second (Some e) y h = let test : nat_lt (length e.0) (length y.0) ≡ true = grind (arith, nat_tests) in rw test refl

  longer_first : (e : List ℕ × V) (y : Option (List ℕ × V)) → IfSome y (λ f. length f.0 < length e.0 + 1) → longer (Some e) y ≡ Some e
  longer_first e None h = refl
  longer_first e (Some f) h = let test : nat_lt (length e.0) (length f.0) ≡ false = grind (arith, nat_tests) in rw test refl

  longer_none : (x : Option (List ℕ × V)) → longer x None ≡ x
  longer_none None = refl
  longer_none (Some e) = refl

  -- one more entry e, of the length of the prefix p or not; m: they are equal; ends: a match may end after p
  same_length : (ends m : Bool) (e : List ℕ × V) (p : List ℕ) (l : Option V) (less : Option (List ℕ × V)) → (m ≡ true → p ≡ e.0) → IfSome (cond ends (or_else (option_map (λ v. (p, v)) l) less) less) (λ f. length f.0 < length e.0 + 1)
      → cond ends (or_else (option_map (λ v. (p, v)) (cond m (Some e.1) l)) less) less ≡ longer (cond (m && ends) (Some e) None) (cond ends (or_else (option_map (λ v. (p, v)) l) less) less)
  same_length false true e p l less is h = refl
  same_length false false e p l less is h = refl
  same_length true false e p l less is h = refl
  same_length true true e p l less is h = ap (λ q. Some (q, e.1)) (is refl) ∙ sym (longer_first e (or_else (option_map (λ v. (p, v)) l) less) h)

  other_length : (ends : Bool) (p : List ℕ) (l : Option V) (shorter less : Option (List ℕ × V)) → IfSome shorter (λ e. length e.0 < length p)
      → cond ends (or_else (option_map (λ v. (p, v)) l) (longer shorter less)) (longer shorter less) ≡ longer shorter (cond ends (or_else (option_map (λ v. (p, v)) l) less) less)
  other_length false p l shorter less h = refl
  other_length true p None shorter less h = refl
  other_length true p (Some v) shorter less h = sym (longer_second shorter (p, v) h)

  short_shorter : (n : ℕ) (e : List ℕ × V) (a : List ℕ) → IfSome (short n e a) (λ f. length f.0 < n)
  short_shorter n e a = by_test (nat_lt (length e.0) n) (matches e.0 a) refl
    where
      by_test : (b c : Bool) → nat_lt (length e.0) n ≡ b → IfSome (cond b (cond c (Some e) None) None) (λ f. length f.0 < n)
      by_test false c h = tt
      by_test true false h = tt
      by_test true true h = grind (arith, nat_tests)

  scan_same : (e : List ℕ × V) (es : List (List ℕ × V)) (a : List ℕ) → length e.0 ≤ length a → scan (e ∷ es) a (length e.0) ≡ longer (short (length e.0) e a) (scan es a (length e.0))
      → scan (e ∷ es) a (suc (length e.0)) ≡ longer (candidate e a) (scan es a (suc (length e.0)))
  scan_same e es a le more =
      let not_short : nat_lt (length e.0) (length e.0) ≡ false = grind (arith, nat_tests) in
      let less : scan (e ∷ es) a (length e.0) ≡ scan es a (length e.0) = rw not_short at more in
      let bound : IfSome (scan es a (suc (length e.0))) (λ f. length f.0 < length e.0 + 1) = rw add-one (scan_short es a (suc (length e.0)) (omega arith)) in
      rw less (same_length (goes_on (drop (length e.0) a)) (bytes_eq (take (length e.0) a) e.0) e (take (length e.0) a) (lookup (bytes_eq (take (length e.0) a)) es) (scan es a (length e.0)) (λ m. (bytes_eq-Decides (take (length e.0) a) e.0).0 m) bound)

  differs : (e : List ℕ × V) (a : List ℕ) (n : ℕ) → n ≤ length a → nat_eq (length e.0) n ≡ false → bytes_eq (take n a) e.0 ≡ false
  differs e a n le other = by_test (bytes_eq (take n a) e.0) refl
    where
      by_test : (b : Bool) → bytes_eq (take n a) e.0 ≡ b → b ≡ false
      by_test false is = refl
      by_test true is = let same : length e.0 ≡ n = length_at e.0 a n le is in absurd (grind (arith, nat_tests))

  scan_step : (e : List ℕ × V) (es : List (List ℕ × V)) (a : List ℕ) (n : ℕ) (b : Bool) → n ≤ length a → nat_eq (length e.0) n ≡ b → scan (e ∷ es) a n ≡ longer (short n e a) (scan es a n)
      → scan (e ∷ es) a (suc n) ≡ longer (cond b (candidate e a) (short n e a)) (scan es a (suc n))
  scan_step e es a n true le is more =
      let same : length e.0 ≡ n = grind (arith, nat_tests) in
      let P : ℕ → Type 0 = λ k. k ≤ length a → scan (e ∷ es) a k ≡ longer (short k e a) (scan es a k) → scan (e ∷ es) a (suc k) ≡ longer (candidate e a) (scan es a (suc k)) in
      subst P same (λ le h. scan_same e es a le h) le more
  scan_step e es a n false le is more =
      let bound : IfSome (short n e a) (λ f. length f.0 < length (take n a)) = rw (length-take-le n a le) (short_shorter n e a) in
      rw (differs e a n le is, more) (other_length (goes_on (drop n a)) (take n a) (lookup (bytes_eq (take n a)) es) (short n e a) (scan es a n) bound)

  -- the scan of one more entry
  pub scan_more : (e : List ℕ × V) (es : List (List ℕ × V)) (a : List ℕ) (n : ℕ) → n ≤ length a + 1 → scan (e ∷ es) a n ≡ longer (short n e a) (scan es a n)
  scan_more e es a zero le = rw (short_zero e a) refl
  scan_more e es a (suc n) le = rw (short_more e a n) (scan_step e es a n (nat_eq (length e.0) n) (omega arith) refl (scan_more e es a n (omega arith)))

  -- an entry that matches is no longer than the address
  pub short_all : (e : List ℕ × V) (a : List ℕ) → short (length a + 1) e a ≡ candidate e a
  short_all e a = by_test (bytes_eq (take (length e.0) a) e.0) (goes_on (drop (length e.0) a)) (nat_lt (length e.0) (length a + 1)) refl refl
    where
      by_test : (m g b : Bool) → bytes_eq (take (length e.0) a) e.0 ≡ m → nat_lt (length e.0) (length a + 1) ≡ b → cond b (cond (m && g) (Some e) None) None ≡ cond (m && g) (Some e) None
      by_test m g true is le = refl
      by_test false g false is le = refl
      by_test true g false is le =
          let same : take (length e.0) a ≡ e.0 = (bytes_eq-Decides (take (length e.0) a) e.0).0 is in
          let len : length (take (length e.0) a) ≡ length e.0 = ap length same in
          absurd (grind (arith, nat_tests, length-take (length e.0) a))

  scan_none : (a : List ℕ) (n : ℕ) → scan [] a n ≡ None
  scan_none a zero = refl
  scan_none a (suc n) = by_test (goes_on (drop n a)) (scan [] a n) (scan_none a n)
    where
      by_test : (b : Bool) (less : Option (List ℕ × V)) → less ≡ None → cond b (or_else None less) less ≡ None
      by_test true less h = h
      by_test false less h = h

  -- the scan of all prefixes of the address finds the best
  pub scan_best : (es : List (List ℕ × V)) (a : List ℕ) → scan es a (length a + 1) ≡ best es a
  scan_best [] a = scan_none a (length a + 1)
  scan_best (e ∷ es) a = scan_more e es a (length a + 1) (omega arith) ∙ rw (short_all e a, scan_best es a) refl

  -- the scan uses look-ups alone
  pub scan_by_lookup : (es fs : List (List ℕ × V)) (a : List ℕ) (n : ℕ) → FindSame es fs → scan es a n ≡ scan fs a n
  scan_by_lookup es fs a zero same = refl
  scan_by_lookup es fs a (suc n) same = rw (same (take n a), scan_by_lookup es fs a n same) refl

  -- so does the best
  pub best_by_lookup : (es fs : List (List ℕ × V)) (a : List ℕ) → FindSame es fs → best es a ≡ best fs a
  best_by_lookup es fs a same = sym (scan_best es a) ∙ scan_by_lookup es fs a (length a + 1) same ∙ scan_best fs a

  -- where a value is found at n, and where none is
  pub found_here : (es : List (List ℕ × V)) (a : List ℕ) (n : ℕ) (v : V) → Some v ≡ value_at es a n → scan es a (n + 1) ≡ best es a → Some v ≡ option_map (λ e. e.1) (best es a)
  found_here es a n v here whole = by_test (goes_on (drop n a)) (lookup (bytes_eq (take n a)) es) (scan es a n) (take n a) here (sym whole ∙ rw add-one refl)
    where
      by_test : (g : Bool) (l : Option V) (less : Option (List ℕ × V)) (p : List ℕ) → Some v ≡ cond g l None → best es a ≡ cond g (or_else (option_map (λ w. (p, w)) l) less) less → Some v ≡ option_map (λ e. e.1) (best es a)
      by_test true (Some w) less p h is = h ∙ sym (ap (λ r. option_map (λ e. e.1) r) is)
      by_test true None less p h is = absurd cc
      by_test false l less p h is = absurd cc

  pub not_here : (es : List (List ℕ × V)) (a : List ℕ) (n : ℕ) → None ≡ value_at es a n → scan es a (n + 1) ≡ scan es a n
  not_here es a n here = rw add-one (by_test (goes_on (drop n a)) (lookup (bytes_eq (take n a)) es) (scan es a n) (take n a) here)
    where
      by_test : (g : Bool) (l : Option V) (less : Option (List ℕ × V)) (p : List ℕ) → None ≡ cond g l None → cond g (or_else (option_map (λ w. (p, w)) l) less) less ≡ less
      by_test true (Some w) less p h = absurd cc
      by_test true None less p h = refl
      by_test false l less p h = refl

  -- the next step of the search, and its end
  pub next_shorter : (es : List (List ℕ × V)) (a : List ℕ) (n : ℕ) → 0 < n → None ≡ value_at es a n → scan es a (n + 1) ≡ best es a → scan es a (n - 1 + 1) ≡ best es a
  next_shorter es a n some here whole = let same : n - 1 + 1 ≡ n = omega arith in rw same (sym (not_here es a n here) ∙ whole)

  pub none_left : (es : List (List ℕ × V)) (a : List ℕ) (n : ℕ) → n ≡ 0 → None ≡ value_at es a n → scan es a (n + 1) ≡ best es a → None ≡ option_map (λ e. e.1) (best es a)
  none_left es a n zero_is here whole = rw (sym whole ∙ not_here es a n here ∙ ap (λ k. scan es a k) zero_is) refl

-- a table that finds a configuration's entries finds what the configuration says
pub finds : (table : Routing) (settings : Settings) (addresses : List Address) (ins outs : List LinkRoute)
    → addresses ≡ settings.addresses → ins ≡ settings.link_routes → outs ≡ settings.link_routes
    → FindSame table.addresses (address_pairs addresses) → FindSame table.routes_in (route_pairs In ins) → FindSame table.routes_out (route_pairs Out outs)
    → FindsAs table (routing_of settings)
finds table settings addresses ins outs a i o same_a same_i same_o = record {
  distribution = λ address. ap (λ e. unwrap_or (option_map (λ p. p.1) e) Balanced) (best_by_lookup table.addresses (address_pairs addresses) address same_a ∙ ap (λ s. best (address_pairs s) address) a);
  route_in = λ address. ap (λ e. option_map (λ p. p.1) e) (best_by_lookup table.routes_in (route_pairs In ins) address same_i ∙ ap (λ s. best (route_pairs In s) address) i);
  route_out = λ address. ap (λ e. option_map (λ p. p.1) e) (best_by_lookup table.routes_out (route_pairs Out outs) address same_o ∙ ap (λ s. best (route_pairs Out s) address) o);
}
