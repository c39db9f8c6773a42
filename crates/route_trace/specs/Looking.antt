-- Looking for the ends of routed links, each by searching all links.
use Rattle.std.specs.Prelude.{ℕ, zero, suc, Bool, true, false, not, ◌&&◌, ◌||◌, ◌==◌, bytes_eq, if◌then◌else◌, is_none, is_some, List, [], ◌++◌, Option, Some, None, option_to_list, option_and_then, unwrap_or}
use Rattle.amqp_model.specs.declared.perf.Attach.{Attach}
use Rattle.amqp_model.specs.declared.perf.Role.{Role}
use Rattle.amqp_model.specs.declared.perf.Role.TheVariants.{Sender, Receiver}
use Rattle.book_model.specs.declared.terminus.LinkRole.{LinkRole}
use Rattle.book_model.specs.declared.terminus.LinkRole.TheVariants.{Producer, Consumer}
use Rattle.router_trace.specs.LinkFrames.{other}
use Rattle.router_trace.specs.Links.{Link, link, way_of, answered_handle, highest_handle, is_free_handle, first_free_below}
use Rattle.router_trace.specs.Trace.{Trace}
use Rattle.route_trace.specs.declared.ends.LinkEnd.{LinkEnd}
use Rattle.route_trace.specs.declared.ends.RoutedAt.{RoutedAt}
use Rattle.route_trace.specs.declared.ends.RoutedAt.TheVariants as found
use Rattle.route_trace.specs.declared.ends.Side.{Side}
use Rattle.route_trace.specs.declared.ends.Side.TheVariants.{Near, Far}
use Rattle.route_trace.specs.Ends.{End, is_on, is_out, is_waiting, is_awaited, stands_for}
use Rattle.route_trace.specs.Pairs.{Pair, pair, routed_links}

-- the ends of a link
abbrev pub end_of : Pair → Side → Option End
end_of v Near = v.near
end_of v Far = v.far

abbrev pub other_side : Side → Side
other_side Near = Far
other_side Far = Near

abbrev pub end_at : Trace → LinkEnd → Option End
end_at t e = option_and_then (λ v. end_of v e.side) (pair t e.link.0)

-- The first link, and the end of it, that passes a test on its pair, its side and its end. (On each handle there is one end at most.)
abbrev pub Test : Type 0
Test = Pair → Side → End → Bool

abbrev pub passes : Test → Pair → Side → Option End → Bool
passes test v s None = false
passes test v s (Some e) = test v s e

abbrev pub side_in : Test → Pair → Option Side
side_in test v = if passes test v Near v.near then Some Near else if passes test v Far v.far then Some Far else None

abbrev pub found_in : Test → ℕ → Option Pair → Option LinkEnd
found_in test n None = None
found_in test n (Some v) = found_at n (side_in test v)
  where
    found_at : ℕ → Option Side → Option LinkEnd
    found_at n None = None
    found_at n (Some s) = Some (record { link = record { 0 = n }; side = s })

abbrev pub or_else : {A : Type 0} → Option A → Option A → Option A
or_else None second = second
or_else (Some first) second = Some first

unfoldable pub first_end : Test → ℕ → (ℕ → Option Pair) → Option LinkEnd
first_end test zero known = None
first_end test (suc n) known = or_else (first_end test n known) (found_in test n (known n))

abbrev pub look : Test → Trace → Option LinkEnd
look test t = first_end test (routed_links t) (pair t)

-- the end on a handle of the router, and that for which a peer's handle stands
abbrev pub is_at : ℕ → ℕ → ℕ → Test
is_at c o h v s e = is_on c o e.place && (e.place.handle == h)

abbrev pub on_handle : Trace → ℕ → ℕ → ℕ → Option LinkEnd
on_handle t c o h = look (is_at c o h) t

abbrev pub stands_at : ℕ → ℕ → ℕ → Test
stands_at c o p v s e = is_on c o e.place && stands_for e.theirs p

abbrev pub named_end : Trace → ℕ → ℕ → ℕ → Option LinkEnd
named_end t c o p = look (stands_at c o p) t

-- What a peer's handle stands for on the session with this router's channel: an end; or one that the router detached, until the peer's detach.
abbrev pub unless_out : LinkEnd → Option End → RoutedAt
unless_out e None = found.Nowhere
unless_out e (Some v) = if is_out v.ours then found.Detaching else found.On e

abbrev pub routed_by_end : Trace → Option LinkEnd → RoutedAt
routed_by_end t None = found.Nowhere
routed_by_end t (Some e) = unless_out e (end_at t e)

abbrev pub routed_at : Trace → ℕ → ℕ → ℕ → RoutedAt
routed_at t c o p = routed_by_end t (named_end t c o p)

-- The link that an attach on a session answers: the router attached there with that name, in the other role, and awaits the peer's attach.
abbrev pub is_role : Role → Role → Bool
is_role Sender Sender = true
is_role Receiver Receiver = true
is_role _ _ = false

-- the router's role on an end: the client's on the far one, the other one on the near one
abbrev pub role_on : Side → Role → Role
role_on Near role = other role
role_on Far role = role

abbrev pub has_name : List ℕ → Role → Pair → Side → Bool
has_name name role v s = bytes_eq v.name name && is_role (role_on s v.role) role

abbrev pub is_answered : ℕ → ℕ → Attach → Test
is_answered c o a v s e = is_on c o e.place && (has_name a.name (other a.role) v s && (is_awaited e.theirs && not (is_waiting e.ours)))

abbrev pub answers : Trace → ℕ → ℕ → Attach → Option LinkEnd
answers t c o a = look (is_answered c o a) t

-- A name is in use on a session, with this role of the router's: by a routed link, or by one that ends at the router.
abbrev pub uses_name : ℕ → ℕ → List ℕ → Role → Test
uses_name c o name role v s e = is_on c o e.place && has_name name role v s

abbrev pub is_way : LinkRole → LinkRole → Bool
is_way Producer Producer = true
is_way Consumer Consumer = true
is_way _ _ = false

abbrev pub has_key_name : List ℕ → Role → Option Link → Bool
has_key_name name role None = false
has_key_name name role (Some l) = bytes_eq l.key.name name && is_way l.key.role (way_of role)

unfoldable pub any_below : ℕ → (ℕ → Bool) → Bool
any_below zero test = false
any_below (suc n) test = any_below n test || test n

abbrev pub is_name_used : Trace → ℕ → ℕ → List ℕ → Role → Bool
is_name_used t c o name role = is_some (look (uses_name c o name role) t) || any_below 64 (λ h. has_key_name name role (link t c o h))

-- The router's lowest handle that is free, of 64 and up to the highest that the peer accepts: no link and no routed end has it.
abbrev pub is_free_for : ℕ → (ℕ → Option ℕ) → (ℕ → Option LinkEnd) → ℕ → Bool
is_free_for most known routed h = if is_free_handle most known h then is_none (routed h) else false

unfoldable pub free_for : Trace → ℕ → ℕ → Option ℕ
free_for t c o = first_free_below 64 (is_free_for (unwrap_or (highest_handle t c o) 63) (answered_handle t c o) (on_handle t c o)) 0

-- the ends on a session, in the order of the router's handles; and those on a connection, in the order of the router's channels, too
unfoldable pub up_to : {A : Type 0} → ℕ → (ℕ → List A) → List A
up_to zero each = []
up_to (suc n) each = up_to n each ++ each n

abbrev pub ends_on : Trace → ℕ → ℕ → List LinkEnd
ends_on t c o = up_to 64 (λ h. option_to_list (on_handle t c o h))

abbrev pub ends_of : Trace → ℕ → List LinkEnd
ends_of t c = up_to 15 (ends_on t c)
