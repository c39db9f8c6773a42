-- The tests of keys and of tags show whether they are the same.
use Rattle.std.proofs.Common.{◌≡◌, refl, ℕ, true, ◌&&◌, List}
use Rattle.std.proofs.lemmas.Bool.{and_parts}
use Rattle.std.proofs.lemmas.Slice.Eq.{bytes_eq-Decides}
use Rattle.book_model.specs.declared.terminus.LinkKey.{LinkKey}
use Rattle.book_model.specs.declared.terminus.LinkRole.{LinkRole}
use Rattle.book_model.specs.declared.terminus.LinkRole.TheVariants.{Producer, Consumer}
use Rattle.book_model.specs.Book.{same_key, same_role, same_bytes}

pub role_of : (a b : LinkRole) → same_role a b ≡ true → a ≡ b
role_of Producer Producer h = refl
role_of Producer Consumer h = absurd cc
role_of Consumer Producer h = absurd cc
role_of Consumer Consumer h = refl

pub bytes_of : (a b : List ℕ) → same_bytes a b ≡ true → a ≡ b
bytes_of a b h = (bytes_eq-Decides a b).0 h

pub key_of : (a b : LinkKey) → same_key a b ≡ true → a ≡ b
key_of a b h =
    let names = and_parts (same_role a.role b.role && same_bytes a.user b.user && same_bytes a.container b.container)
    (same_bytes a.name b.name) h in
    let containers = and_parts (same_role a.role b.role && same_bytes a.user b.user)
    (same_bytes a.container b.container) names.0 in
    let users = and_parts (same_role a.role b.role) (same_bytes a.user b.user) containers.0 in
    let role = role_of a.role b.role users.0 in
    let user = bytes_of a.user b.user users.1 in
    let container = bytes_of a.container b.container containers.1 in
    let name = bytes_of a.name b.name names.1 in
    λ i. record { role = role i; user = user i; container = container i; name = name i }
