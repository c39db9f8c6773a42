-- Where links are, and that a pool is there.
use Rattle.std.proofs.Common.{◌≡◌, ◌∙◌, sym, ap, refl, subst, ℕ, Bool, true, false, true≢false, ◌||◌, Option, Some, None, option_map, is_some, List}
use Rattle.std.specs.Prelude.{◌==◌, if◌then◌else◌}
use Rattle.std.proofs.lemmas.Bool.{eqb-true}
use Rattle.route_table.specs.declared.sections.Distribution.{Distribution}
use Rattle.state_collections.specs.NumberMap.{at_number}
use Rattle.route_credit.specs.Pool.{Sharing}
use Rattle.std.specs.Str.{bytes_eq}
use Rattle.state_pools.specs.Addresses.{among}
use Rattle.state_pools.specs.Due.{is_copied, is_in, is_number, is_place, link_place}
use Rattle.state_pools.specs.declared.due.Due.{Due}
use Rattle.state_pools.specs.Fits.{Fits, in_row, is_due, is_touched, NoneTouched, place_of, pool_at, PoolsFit, row_of, table_of}
use Rattle.state_pools.specs.Sharing.{address_in, Figure}
use Rattle.state_pools.specs.declared.pools.Pools.{Pools}
use Rattle.state_pools.specs.declared.seat.Seat.{Seat}
use Rattle.state_pools.proofs.Among.{either_right, left_false, neither, right_false}
use Rattle.state_pools.proofs.AtAddress.{by_test, equal_bytes, same_bytes}
use Rattle.state_pools.proofs.Fitting.{at_place}
use Rattle.state_pools.proofs.Rows.{has_pool}

-- where a link is there is a pool
pub seat_has : (s : Pools) (apart : ℕ → Bool) (share : List ℕ → Distribution) (due : List ℕ → Bool) (known actual : ℕ → Option Figure) (last : List ℕ → ℕ) → Fits apart (table_of s) share (pool_at s) (place_of s) due known actual last
    → (n : ℕ) (q : List ℕ) → place_of s n ≡ Some q → is_some (in_row (row_of s.pools q) q) ≡ true
seat_has s apart share due known actual last fits n q at =
    has_pool (table_of s q) (in_row (row_of s.pools q) q) n (fits.seated n q (ap (λ p. is_place p q) at ∙ equal_bytes q q refl))

module _ (s : Pools) (share : List ℕ → Distribution) (known actual : ℕ → Option Figure) (last : List ℕ → ℕ) (fits : PoolsFit s share known actual last) (none : NoneTouched s) (n : ℕ) (a : List ℕ) (is : address_in (known n) ≡ Some a) where
  there : is_place (place_of s n) a ≡ true
  there = at_place (is_touched s) (table_of s) share (pool_at s) (place_of s) (is_due s) known actual last fits n a (none n) is

  -- a link of which an address is known has a seat
  pub has_seat : None ≡ at_number s.seats n → ⊥
  has_seat e = true≢false (sym there ∙ ap (λ x. is_place (option_map (λ (seat : Seat). seat.address.items) x) a) (sym e))

  -- at that address
  pub seat_is : (seat : Seat) → Some seat ≡ at_number s.seats n → seat.address.items ≡ a
  seat_is seat e = same_bytes seat.address.items a (ap (λ x. is_place (option_map (λ (seat : Seat). seat.address.items) x) a) e ∙ there)

-- a link that comes to a place lets each address be due that was
pub comes_due : (place place' : ℕ → Option (List ℕ)) (n : ℕ) (x : Option (List ℕ)) → place n ≡ None → ((m : ℕ) → place' m ≡ (if n == m then x else place m)) → (link : Option ℕ) (a : List ℕ)
    → is_place (link_place link place') a ≡ false → is_place (link_place link place) a ≡ false
comes_due place place' n x nowhere moves None a none = refl
comes_due place place' n x nowhere moves (Some m) a none = by_test (n == m)
    (λ e. ap (λ k. is_place (place k) a) (sym (eqb-true n m e)) ∙ ap (λ p. is_place p a) nowhere)
    (λ e. sym (ap (λ p. is_place p a) (moves m ∙ ap (λ b. if b then x else place m) e)) ∙ none)

-- what is left where that link is left out
pub left_out : (place place' : ℕ → Option (List ℕ)) (n : ℕ) (x : Option (List ℕ)) → place n ≡ None → ((m : ℕ) → place' m ≡ (if n == m then x else place m)) → (m : ℕ) → place m ≡ (if n == m then None else place' m)
left_out place place' n x nowhere moves m = by_test (n == m)
    (λ e. sym (ap place (eqb-true n m e)) ∙ nowhere ∙ ap (λ b. if b then None else place' m) (sym e))
    (λ e. sym (moves m ∙ ap (λ b. if b then x else place m) e) ∙ ap (λ b. if b then None else place' m) (sym e))

-- where none was to be removed, all stay
pub none_removed : {V : Type 0} (f g : ℕ → Option V) (n : ℕ) → None ≡ f n → ((m : ℕ) → g m ≡ (if n == m then None else f m)) → (m : ℕ) → f m ≡ g m
none_removed f g n none gone m = by_test (n == m)
    (λ e. sym (ap f (eqb-true n m e)) ∙ sym none ∙ sym (gone m ∙ ap (λ b. if b then None else f m) e))
    (λ e. sym (gone m ∙ ap (λ b. if b then None else f m) e))

pub moved_places : (apart : ℕ → Bool) (table share : List ℕ → Distribution) (pools : List ℕ → Sharing) (due : Due) (known actual : ℕ → Option Figure) (last : List ℕ → ℕ) (place place' : ℕ → Option (List ℕ)) → ((n : ℕ) → place n ≡ place' n)
    → Fits apart table share pools place (is_in due place) known actual last → Fits apart table share pools place' (is_in due place') known actual last
moved_places apart table share pools due known actual last place place' same fits = subst (λ p. Fits apart table share pools p (is_in due p) known actual last) (λ i n. same n i) fits

pub moved_due : (due : Due) (place place' : ℕ → Option (List ℕ)) → ((n : ℕ) → place n ≡ place' n) → (a : List ℕ) → is_in due place' a ≡ false → is_in due place a ≡ false
moved_due due place place' same a none = ap (λ (p : ℕ → Option (List ℕ)). is_in due p a) (λ i n. same n i) ∙ none

-- a link stands for the address that it is at
pub stands_for : (place : ℕ → Option (List ℕ)) (n : ℕ) (q : List ℕ) (copied : Bool) → place n ≡ Some q → (is_place (link_place (Some n) place) q || copied) ≡ true
stands_for place n q copied at = ap (λ p. is_place p q || copied) at ∙ ap (λ b. b || copied) (equal_bytes q q refl)

-- Notes that leave the address of a link due: the link is set, another one is there, or the address is copied.
pub set_due : (due new : Due) (place : ℕ → Option (List ℕ)) (n : ℕ) (q : List ℕ) → new.link ≡ Some n → place n ≡ Some q → is_in new place q ≡ true
set_due due new place n q link at = ap (λ l. is_place (link_place l place) q || is_copied new q) link ∙ stands_for place n q (is_copied new q) at

pub set_still : (due new : Due) (place : ℕ → Option (List ℕ)) (a : List ℕ) → due.link ≡ None → new.more ≡ due.more → is_in new place a ≡ false → is_in due place a ≡ false
set_still due new place a none more e =
    ap (λ l. is_place (link_place l place) a || is_copied due a) none ∙ ap (λ m. among m.keys (λ k. k.items) a) (sym more) ∙ right_false (is_place (link_place new.link place) a) (is_copied new a) e

pub there_due : (due : Due) (place : ℕ → Option (List ℕ)) (link : ℕ) (q : List ℕ) → due.link ≡ Some link → is_place (place link) q ≡ true → is_in due place q ≡ true
there_due due place link q is there = ap (λ l. is_place (link_place l place) q || is_copied due q) is ∙ ap (λ b. b || is_copied due q) there

pub copied_due : (new : Due) (place : ℕ → Option (List ℕ)) (q : List ℕ) → is_copied new q ≡ true → is_in new place q ≡ true
copied_due new place q copied = either_right (is_place (link_place new.link place) q) (is_copied new q) copied

pub copied_still : (due new : Due) (place : ℕ → Option (List ℕ)) (a : List ℕ) → new.link ≡ due.link → (is_copied new a ≡ false → is_copied due a ≡ false) → is_in new place a ≡ false → is_in due place a ≡ false
copied_still due new place a link others e = neither (is_place (link_place due.link place) a) (is_copied due a)
    (ap (λ l. is_place (link_place l place) a) (sym link) ∙ left_false (is_place (link_place new.link place) a) (is_copied new a) e)
    (others (right_false (is_place (link_place new.link place) a) (is_copied new a) e))

-- a link leaves an address that is copied then
pub left_still : (due new : Due) (place other : ℕ → Option (List ℕ)) (n : ℕ) (q : List ℕ) → place n ≡ Some q → is_copied new q ≡ true → ((a : List ℕ) → is_copied new a ≡ false → is_copied due a ≡ false)
    → (link : Option ℕ) → due.link ≡ link → new.link ≡ (if is_number n link then None else link) → ((m : ℕ) → (n == m) ≡ false → other m ≡ place m)
    → (a : List ℕ) → is_in new other a ≡ false → is_in due place a ≡ false
left_still due new place other n q at copied others None is now elsewhere a e =
    neither (is_place (link_place due.link place) a) (is_copied due a) (ap (λ l. is_place (link_place l place) a) is) (others a (right_false (is_place (link_place new.link other) a) (is_copied new a) e))
left_still due new place other n q at copied others (Some m) is now elsewhere a e =
    neither (is_place (link_place due.link place) a) (is_copied due a) (ap (λ l. is_place (link_place l place) a) is ∙ by_number) (others a none)
  where
    none : is_copied new a ≡ false
    none = right_false (is_place (link_place new.link other) a) (is_copied new a) e

    by_number : is_place (place m) a ≡ false
    by_number = by_test (n == m)
        (λ f. ap (λ k. is_place (place k) a) (sym (eqb-true n m f)) ∙ ap (λ p. is_place p a) at
        ∙ by_test (bytes_eq q a) (λ g. absurd (true≢false (sym copied ∙ ap (is_copied new) (same_bytes q a g) ∙ none))) (λ g. g))
        (λ f. ap (λ p. is_place p a) (sym (elsewhere m f)) ∙ sym (ap (λ l. is_place (link_place l other) a) (now ∙ ap (λ b. if b then None else Some m) f)) ∙ left_false (is_place (link_place new.link other) a) (is_copied new a) e)
