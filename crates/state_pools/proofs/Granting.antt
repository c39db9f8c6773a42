-- The grants of the first address that has any.
use Rattle.std.proofs.Common.{◌≡◌, ◌∙◌, sym, ap, ℕ, false, List, [], Option}
use Rattle.std.specs.Cmp.Lexicographic.{slice_cmp}
use Rattle.std.specs.Ordering.{nat_cmp}
use Rattle.std.specs.declared.cmp.Ordering.TheVariants.{Less}
use Rattle.route_credit.specs.Granting.{grants_of}
use Rattle.route_table.specs.declared.sections.Distribution.{Distribution}
use Rattle.state_pools.specs.Due.{is_copied, is_in, is_place, link_place}
use Rattle.state_pools.specs.Fits.{AreFirst, is_due, is_touched, NoneTouched, place_of, pool_at, PoolsFit, table_of}
use Rattle.state_pools.specs.Sharing.{AreNumbered, Figure, sharing}
use Rattle.state_pools.specs.declared.due.Due.{Due}
use Rattle.state_pools.specs.declared.pools.Pools.{Pools}
use Rattle.state_pools.proofs.Among.{neither}
use Rattle.state_pools.proofs.Listed.{grants_are}

-- an address that isn't due has none
pub none_granted : (s : Pools) (share : List ℕ → Distribution) (known actual : ℕ → Option Figure) (last : List ℕ → ℕ) (count : ℕ) → PoolsFit s share known actual last → NoneTouched s → AreNumbered known count
    → (a : List ℕ) → is_due s a ≡ false → grants_of (sharing (share a) known count (last a) a) ≡ []
none_granted s share known actual last count fits none numbered a not_due =
    sym (grants_are (is_touched s) (table_of s) share (pool_at s) (place_of s) (is_due s) known actual last count a fits none numbered) ∙ fits.quiet a not_due

-- an address is the first if none before it is due
pub first_is : (s : Pools) (q : List ℕ) (sums : List (ℕ × ℕ)) → ((share : List ℕ → Distribution) (known actual : ℕ → Option Figure) (last : List ℕ → ℕ) → PoolsFit s share known actual last → sums ≡ grants_of (pool_at s q))
    → ((a : List ℕ) → slice_cmp nat_cmp a q ≡ Less → is_due s a ≡ false) → AreFirst s sums
first_is s q sums is before = record {
  address = q;
  granted = λ share known actual last count fits none numbered.
      is share known actual last fits ∙ grants_are (is_touched s) (table_of s) share (pool_at s) (place_of s) (is_due s) known actual last count q fits none numbered;
  below = λ share known actual last count fits none numbered a less. none_granted s share known actual last count fits none numbered a (before a less);
}

-- and it still is where the pools changed only what agrees with the same
pub first_still : (old now : Pools) → ((share : List ℕ → Distribution) (known actual : ℕ → Option Figure) (last : List ℕ → ℕ) → PoolsFit old share known actual last → PoolsFit now share known actual last)
    → ((n : ℕ) → is_touched now n ≡ is_touched old n) → (sums : List (ℕ × ℕ)) → AreFirst now sums → AreFirst old sums
first_still old now keeps touched sums first = record {
  address = first.address;
  granted = λ share known actual last count fits none numbered. first.granted share known actual last count (keeps share known actual last fits) (λ n. touched n ∙ none n) numbered;
  below = λ share known actual last count fits none numbered. first.below share known actual last count (keeps share known actual last fits) (λ n. touched n ∙ none n) numbered;
}

-- what is due, where a link stands for it alone, and where none does
pub not_due : (due : Due) (place : ℕ → Option (List ℕ)) (v : Option ℕ) (a : List ℕ) → due.link ≡ v → is_place (link_place v place) a ≡ false → is_copied due a ≡ false → is_in due place a ≡ false
not_due due place v a is nowhere none = neither (is_place (link_place due.link place) a) (is_copied due a) (ap (λ l. is_place (link_place l place) a) is ∙ nowhere) none
