-- The addresses that may have grants: one that a link is at, and copies of others.
use Rattle.std.specs.Prelude.{ℕ, Bool, false, ◌==◌, ◌||◌, ◌+◌, List, length, Option, None, Some}
use Rattle.std.specs.Str.{bytes_eq}
use Rattle.state_pools.specs.Addresses.{among}
use Rattle.state_pools.specs.declared.due.Due.{Due}

abbrev pub is_place : Option (List ℕ) → List ℕ → Bool
is_place None address = false
is_place (Some place) address = bytes_eq place address

-- where a link is, if there is one
abbrev pub link_place : Option ℕ → (ℕ → Option (List ℕ)) → Option (List ℕ)
link_place None place = None
link_place (Some number) place = place number

-- whether this is the number of a link
abbrev pub is_number : ℕ → Option ℕ → Bool
is_number number None = false
is_number number (Some link) = number == link

-- whether an address was copied
abbrev pub is_copied : Due → List ℕ → Bool
is_copied due address = among due.more.keys (λ k. k.items) address

-- whether an address may have grants, with these places of links
abbrev pub is_in : Due → (ℕ → Option (List ℕ)) → List ℕ → Bool
is_in due place address = is_place (link_place due.link place) address || is_copied due address

-- a measure of how many there are: a link counts more than its copied address
abbrev pub weight : Option ℕ → ℕ
weight None = 0
weight (Some number) = 2

abbrev pub count : Due → ℕ
count due = weight due.link + length due.more.keys
