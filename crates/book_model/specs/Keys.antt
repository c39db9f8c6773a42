-- The order of links' keys.
use Rattle.std.specs.Prelude.{ℕ}
use Rattle.std.specs.Cmp.{IsTotalOrder, then_total, on_total, nat_cmp_total}
use Rattle.std.specs.Cmp.Lexicographic.{slice_cmp, nat_list_cmp_total}
use Rattle.std.specs.Ordering.{nat_cmp, ordering_then}
use Rattle.std.specs.declared.cmp.Ordering.{Ordering}
use Rattle.book_model.specs.declared.terminus.LinkKey.{LinkKey}
use Rattle.book_model.specs.declared.terminus.LinkRole.{LinkRole}
use Rattle.book_model.specs.declared.terminus.LinkRole.TheVariants.{Producer, Consumer}

-- producers come first
abbrev pub rank : LinkRole → ℕ
rank Producer = 0
rank Consumer = 1

-- by name, then by container, by user and by role
abbrev pub key_cmp : LinkKey → LinkKey → Ordering
key_cmp k l =
    ordering_then (slice_cmp nat_cmp k.name l.name) (
    ordering_then (slice_cmp nat_cmp k.container l.container) (
    ordering_then (slice_cmp nat_cmp k.user l.user) (
    nat_cmp (rank k.role) (rank l.role))))

pub keys_total : IsTotalOrder key_cmp
keys_total =
    then_total (on_total (λ (k : LinkKey). k.name) nat_list_cmp_total)
    (then_total (on_total (λ (k : LinkKey). k.container) nat_list_cmp_total)
    (then_total (on_total (λ (k : LinkKey). k.user) nat_list_cmp_total)
    (on_total (λ (k : LinkKey). rank k.role) nat_cmp_total)))
