-- What a crash leaves while a disk is synced and read: something that it might have left before.
use Rattle.std.proofs.Common.{ℕ, List}
use Rattle.disk_core.specs.Disk.{NoMore, Elapses, LeavesOnly}
use Rattle.disk_core.specs.DiskLaws.{started, goes_on}

module _ {D : Type 0} (moment : D → ℕ) (left_since : D → ℕ → List ℕ → Type 0) (may_leave : D → List ℕ → Type 0) where
  pub first_call : (old new : D) → ((c : List ℕ) → left_since old (moment old) c → may_leave old c)
      → Elapses (moment old) (moment new) (left_since old) (left_since new) (may_leave new) → NoMore (may_leave old) (may_leave new)
      → LeavesOnly moment left_since old new (may_leave old)
  first_call old new only_now time less =
      goes_on moment left_since old old new (may_leave old) (may_leave new) (started moment left_since old (may_leave old) only_now) time less

  pub next_call : (old mid new : D) → LeavesOnly moment left_since old mid (may_leave old) → NoMore (may_leave old) (may_leave mid)
      → Elapses (moment mid) (moment new) (left_since mid) (left_since new) (may_leave new) → NoMore (may_leave mid) (may_leave new)
      → LeavesOnly moment left_since old new (may_leave old)
  next_call old mid new so_far less time still = goes_on moment left_since old mid new (may_leave old) (may_leave new) so_far time (λ c left. less c (still c left))
