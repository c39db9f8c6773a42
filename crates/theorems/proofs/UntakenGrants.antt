-- What takes don't change: a trace without its takes has the same grants, and chooses the same consumers.
use Rattle.std.proofs.Common.{◌≡◌, ◌∙◌, ap, refl, ℕ, ◌+◌, ◌==◌, ◌&&◌, List, [], ◌∷◌, ◌++◌}
use Rattle.std.specs.Prelude.{length, ◌||◌, Option, Some, None, if◌then◌else◌}
use Rattle.amqp_link.specs.Credit as credit
use Rattle.route_credit.specs.Granting.{choice, grants_of}
use Rattle.route_credit.specs.Pool.{copies}
use Rattle.state_pools.specs.Sharing.{Figure, consumer, producer, sharing}
use Rattle.router_trace.specs.declared.handle.Attachment.{Attachment}
use Rattle.router_trace.specs.Trace.{Entry, Did, Out, Took, Bound, Booked, Routed, Began}
use Rattle.route_table.specs.Places.{distribution_of}
use Rattle.router_trace.specs.Configuration.{routing, distribution}
use Rattle.router_trace.specs.Links.{Link, Happened, sends, receives, if_attached, numbered, place_of, attachments}
use Rattle.router_trace.specs.Deliveries.{is_message, waits_on, undecided_on, held_from}
use Rattle.router_trace.specs.Following.{link_of}
use Rattle.router_trace.specs.Numbers.{count_below}
use Rattle.state_links.specs.Looking.{link_on, numbered_link}
use Rattle.state_messages.specs.declared.grant.LinkGrant.{LinkGrant}
use Rattle.state_messages.specs.Figures.{waiting, undecided, held, lacks_rows, free_of, unused_credit, owed_by, figure_by, figure_on, figure_at, figure}
use Rattle.state_messages.specs.Messages.{is_of, last_chosen, pool_of, choice_of, is_there, places_of, copies_at, copies_for, grant_by, grant_on, grant_at, grants_on, if_some, wants, lower, lowest_below, owed_at, lent_first, first_address, with_newest, is_owed_at, sums_at, grants_of_address, grants, grant_flow, grant_flows, grants_due}
use Rattle.theorems.specs.Takes.{untaken}
use Rattle.theorems.proofs.Untaken.{same_session}
use Rattle.theorems.proofs.UntakenLinks.{same_attached, same_attachments, same_link}
use Rattle.theorems.proofs.UntakenDeliveries.{same_bindings, same_delivery, same_numbered}

-- how addresses are shared

same_routing : (t : List Entry) → routing t ≡ routing (untaken t)
same_routing [] = refl
same_routing (Did s ∷ t) = same_routing t
same_routing (Out c i ∷ t) = same_routing t
same_routing (Took c n ∷ t) = same_routing t
same_routing (Bound b ∷ t) = same_routing t
same_routing (Booked acts full ∷ t) = same_routing t
same_routing (Routed passage ∷ t) = same_routing t
same_routing (Began g ∷ t) = refl

pub same_distribution : (t : List Entry) (address : List ℕ) → distribution t address ≡ distribution (untaken t) address
same_distribution t address = λ j. distribution_of (same_routing t j) address

-- what each link has

same_waiting : (t : List Entry) (number : ℕ) → waiting t number ≡ waiting (untaken t) number
same_waiting t number = λ j. count_below (same_bindings t j + 1) (λ n. waits_on number (same_delivery t n j))

same_undecided : (t : List Entry) (number : ℕ) → undecided t number ≡ undecided (untaken t) number
same_undecided t number = λ j. count_below (same_bindings t j + 1) (λ n. undecided_on number (same_delivery t n j))

same_held : (t : List Entry) (number : ℕ) → held t number ≡ held (untaken t) number
same_held t number = λ j. count_below (same_bindings t j + 1) (λ n. held_from number (same_delivery t n j))

same_figure_by : (t : List Entry) (l : Link) (h : Happened) → figure_by t l h ≡ figure_by (untaken t) l h
same_figure_by t l (sends list) =
    λ j. consumer l.address (free_of (l.drains || lacks_rows l) (credit.credit list) (same_waiting t l.number j) (same_undecided t l.number j)) (same_undecided t l.number j)
same_figure_by t l (receives list) =
    λ j. producer l.address (unused_credit list + owed_by (same_distribution t l.address j) l.owes_due) (length l.due) (same_held t l.number j)

same_figure_on : (t : List Entry) (number : ℕ) (v : Option Link) → figure_on t number v ≡ figure_on (untaken t) number v
same_figure_on t number None = refl
same_figure_on t number (Some l) = λ j. if l.number == number then Some (same_figure_by t l l.happened j) else None

same_figure_at : (t : List Entry) (number : ℕ) (v : Option Attachment) → figure_at t number v ≡ figure_at (untaken t) number v
same_figure_at t number None = refl
same_figure_at t number (Some a) =
    (λ j. figure_on t number (same_link t a.conn.0 a.channel a.handle j)) ∙ same_figure_on t number (link_of (untaken t) a)

same_figure : (t : List Entry) (number : ℕ) → figure t number ≡ figure (untaken t) number
same_figure t number = (λ j. figure_at t number (same_numbered t number j)) ∙ same_figure_at t number (numbered (untaken t) number)

-- pools, and the consumers chosen

same_last : (t : List Entry) (address : List ℕ) → last_chosen t address ≡ last_chosen (untaken t) address
same_last [] address = refl
same_last (Did s ∷ t) address = same_last t address
same_last (Out c i ∷ t) address = same_last t address
same_last (Took c n ∷ t) address = same_last t address
same_last (Began g ∷ t) address = refl
same_last (Bound b ∷ t) address =
    λ j. if is_message b.kind && is_of address (same_link t b.consumer.conn.0 b.consumer.channel b.consumer.handle j) b.consumer.number then b.consumer.number else same_last t address j
same_last (Booked acts full ∷ t) address = same_last t address
same_last (Routed passage ∷ t) address = same_last t address

same_pool : (t : List Entry) (address : List ℕ) → pool_of t address ≡ pool_of (untaken t) address
same_pool t address = λ j. sharing (same_distribution t address j) (λ n. same_figure t n j) (same_attachments t j) (same_last t address j) address

pub same_choice : (t : List Entry) (address : List ℕ) → choice_of t address ≡ choice_of (untaken t) address
unfolding choice_of
same_choice t address = λ j. choice (same_pool t address j)

-- the consumers that get copies

same_places : (t : List Entry) (numbers : List ℕ) → places_of t numbers ≡ places_of (untaken t) numbers
same_places t [] = refl
same_places t (n ∷ ns) = λ j. is_there (same_numbered t n j) ++ same_places t ns j

same_copies_at : (t : List Entry) (address : List ℕ) → copies_at t address ≡ copies_at (untaken t) address
unfolding copies_at
same_copies_at t address = λ j. copies (same_pool t address j)

pub same_copies : (t : List Entry) (l : Option Link) → copies_for t l ≡ copies_for (untaken t) l
same_copies t None = refl
same_copies t (Some l) = (λ j. places_of t (same_copies_at t l.address j)) ∙ same_places t (copies_at (untaken t) l.address)

-- what producers are granted

same_grant_on : (t : List Entry) (number : ℕ) (a : Attachment) (amount : ℕ) (v : Option Link) → grant_on t number a amount v ≡ grant_on (untaken t) number a amount v
same_grant_on t number a amount None = refl
same_grant_on t number a amount (Some l) =
    λ j. if l.number == number then grant_by a (owed_by (same_distribution t l.address j) l.owes_due + amount) l.happened else []

same_grant_at : (t : List Entry) (number amount : ℕ) (v : Option Attachment) → grant_at t number amount v ≡ grant_at (untaken t) number amount v
same_grant_at t number amount None = refl
same_grant_at t number amount (Some a) =
    (λ j. grant_on t number a amount (same_link t a.conn.0 a.channel a.handle j)) ∙ same_grant_on t number a amount (link_of (untaken t) a)

same_grants_on : (t : List Entry) (sums : List (ℕ × ℕ)) → grants_on t sums ≡ grants_on (untaken t) sums
same_grants_on t [] = refl
same_grants_on t (sum ∷ sums) =
    λ j. ((λ i. grant_at t sum.0 sum.1 (same_numbered t sum.0 i)) ∙ same_grant_at t sum.0 sum.1 (numbered (untaken t) sum.0)) j ++ same_grants_on t sums j

same_wants_of : (t : List Entry) (v : Option Figure) → wants t v ≡ wants (untaken t) v
same_wants_of t None = refl
same_wants_of t (Some (consumer address free pending)) = refl
same_wants_of t (Some (producer address unused due kept)) = λ j. if_some (grants_of (same_pool t address j)) address

same_wants : (t : List Entry) (n : ℕ) → wants t (figure t n) ≡ wants (untaken t) (figure (untaken t) n)
same_wants t n = (λ j. wants t (same_figure t n j)) ∙ same_wants_of t (figure (untaken t) n)

-- what the newest link is owed

same_link_on : (t : List Entry) (v : Option Attachment) → link_on t v ≡ link_on (untaken t) v
same_link_on t None = refl
same_link_on t (Some a) = same_link t a.conn.0 a.channel a.handle

same_place : (t : List Entry) (n : ℕ) → place_of t n ≡ place_of (untaken t) n
same_place t n = same_attached t (numbered t n) ∙ ap (if_attached (untaken t)) (same_numbered t n)

same_numbered_link : (t : List Entry) (n : ℕ) → numbered_link t n ≡ numbered_link (untaken t) n
same_numbered_link t n = (λ j. link_on t (same_place t n j)) ∙ same_link_on t (place_of (untaken t) n)

same_owed_at : (t : List Entry) → owed_at (numbered_link t (attachments t)) ≡ owed_at (numbered_link (untaken t) (attachments (untaken t)))
same_owed_at t = (λ j. owed_at (numbered_link t (same_attachments t j))) ∙ ap owed_at (same_numbered_link t (attachments (untaken t)))

-- the grants of the first address

same_lent_first : (t : List Entry) → lent_first t ≡ lent_first (untaken t)
unfolding lent_first
same_lent_first t = λ j. lowest_below (same_attachments t j + 1) (λ n. same_wants t n j)

same_first : (t : List Entry) → first_address t ≡ first_address (untaken t)
same_first t = λ j. lower (same_lent_first t j) (same_owed_at t j)

same_sums : (t : List Entry) (address : List ℕ) → sums_at t address ≡ sums_at (untaken t) address
same_sums t address =
    λ j. if is_owed_at (same_owed_at t j) address then with_newest (same_attachments t j) (grants_of (same_pool t address j)) else grants_of (same_pool t address j)

same_of_address : (t : List Entry) (v : Option (List ℕ)) → grants_of_address t v ≡ grants_of_address (untaken t) v
same_of_address t None = refl
same_of_address t (Some address) = (λ j. grants_on t (same_sums t address j)) ∙ same_grants_on t (sums_at (untaken t) address)

same_granted : (t : List Entry) → grants t ≡ grants (untaken t)
unfolding grants
same_granted t = (λ j. grants_of_address t (same_first t j)) ∙ same_of_address t (first_address (untaken t))

-- the flows that carry the grants

same_flows : (t : List Entry) (gs : List LinkGrant) → grant_flows t gs ≡ grant_flows (untaken t) gs
same_flows t [] = refl
same_flows t (g ∷ gs) = λ j. grant_flow g (same_session t g.at.conn.0 g.at.channel j) ++ same_flows t gs j

pub same_grants : (t : List Entry) → grants_due t ≡ grants_due (untaken t)
same_grants t = (λ j. grant_flows t (same_granted t j)) ∙ same_flows t (grants (untaken t))
