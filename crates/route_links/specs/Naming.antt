-- Which deliveries of a routed link the delivery-ids of its two ends name (AMQP 1.0 part 2, sections 2.6.12 and 2.7.6).
-- A delivery is told by its number: how many were started on the link before it.
use Rattle.std.specs.Prelude.{◌≡◌, ℕ, ◌==◌, ◌<◌, ◌+◌, ◌-◌, Bool, true, false, ◌||◌, not, if◌then◌else◌, List, [], ◌∷◌, Option, None, Some, option_map, option_and_then}
use Rattle.std.specs.Option.{is_some}
use Rattle.route_links.specs.declared.ids.Known.{Known}

-- what happens to the ids of a link
pub data Step : Type 0 where
  -- a delivery came from the sender: under this id, or settled, so that it needs none
  Came : ℕ → Step
  CameSettled : Step
  -- the first delivery that hasn't gone yet goes to the receiver, under this id
  Went : ℕ → Step
  -- it came from either end that this delivery is settled, or aborted
  Settled : ℕ → Step
  -- a disposition that names this delivery is held; it goes out
  Held : ℕ → Step
  Told : ℕ → Step
  -- the sender's detach came, and is held behind what came before it
  Leaves : Step
  -- a detach went out, or the receiver's came
  Ended : Step

-- the newest first
abbrev pub History : Type 0
History = List Step

-- how many deliveries were started, and how many of them went
abbrev pub started : History → ℕ
started [] = 0
started (Came i ∷ h) = started h + 1
started (CameSettled ∷ h) = started h + 1
started (_ ∷ h) = started h

abbrev pub gone : History → ℕ
gone [] = 0
gone (Went o ∷ h) = gone h + 1
gone (_ ∷ h) = gone h

-- What is known of a delivery: its ids, whether it is unsettled on both ends, and how many dispositions are held that
-- name it.
abbrev pub came_under : ℕ → Known
came_under i = record { id_in = i; id_out = None; is_unsettled = true; held = 0 }

abbrev pub going_under : ℕ → Known → Known
going_under o k = record k { id_out = Some o }

abbrev pub one_more : Known → Known
one_more k = record k { held = k.held + 1 }

-- It is forgotten when it is settled and nothing that is held names it.
abbrev pub unless_over : Known → Option Known
unless_over k = if k.is_unsettled || not (k.held == 0) then Some k else None

abbrev pub when_settled : Known → Option Known
when_settled k = unless_over (record k { is_unsettled = false })

abbrev pub one_less : Known → Option Known
one_less k = unless_over (record k { held = k.held - 1 })

abbrev pub known : History → ℕ → Option Known
known [] n = None
known (Came i ∷ h) n = if started h == n then Some (came_under i) else known h n
known (CameSettled ∷ h) n = known h n
known (Went o ∷ h) n = if gone h == n then option_map (going_under o) (known h n) else known h n
known (Settled m ∷ h) n = if m == n then option_and_then when_settled (known h n) else known h n
known (Held m ∷ h) n = if m == n then option_map one_more (known h n) else known h n
known (Told m ∷ h) n = if m == n then option_and_then one_less (known h n) else known h n
known (Leaves ∷ h) n = known h n
known (Ended ∷ h) n = None

-- this delivery, if it is another one
abbrev pub unless : ℕ → Option ℕ → Option ℕ
unless m None = None
unless m (Some n) = if m == n then None else Some n

-- the delivery that an id of the sender names, also while the sender's detach is held: the last that came under it,
-- unless it is settled
abbrev pub claimed : History → ℕ → Option ℕ
claimed [] i = None
claimed (Came j ∷ h) i = if j == i then Some (started h) else claimed h i
claimed (Settled m ∷ h) i = unless m (claimed h i)
claimed (Ended ∷ h) i = None
claimed (_ ∷ h) i = claimed h i

abbrev pub leaves : History → Bool
leaves [] = false
leaves (Leaves ∷ h) = true
leaves (Ended ∷ h) = false
leaves (_ ∷ h) = leaves h

-- which delivery the sender means by an id: none once its detach came
abbrev pub number_in : History → ℕ → Option ℕ
number_in h i = if leaves h then None else claimed h i

-- the ids of a delivery: of one that is unsettled, and the one under which it goes of any
abbrev pub open_in : Option Known → Option ℕ
open_in None = None
open_in (Some k) = if k.is_unsettled then Some k.id_in else None

abbrev pub out_of : Option Known → Option ℕ
out_of None = None
out_of (Some k) = k.id_out

abbrev pub open_out : Option Known → Option ℕ
open_out None = None
open_out (Some k) = if k.is_unsettled then k.id_out else None

abbrev pub if_unsettled : ℕ → Option Known → Option ℕ
if_unsettled n None = None
if_unsettled n (Some k) = if k.is_unsettled then Some n else None

-- which delivery the receiver means by an id: the last that went under it, unless it is settled
abbrev pub number_out : History → ℕ → Option ℕ
number_out [] o = None
number_out (Went p ∷ h) o = if p == o then if_unsettled (gone h) (known h (gone h)) else number_out h o
number_out (Settled m ∷ h) o = unless m (number_out h o)
number_out (Ended ∷ h) o = None
number_out (_ ∷ h) o = number_out h o

-- how many dispositions that name this delivery are held
abbrev pub waiting : History → ℕ → ℕ
waiting [] n = 0
waiting (Held m ∷ h) n = if m == n then waiting h n + 1 else waiting h n
waiting (Told m ∷ h) n = if m == n then waiting h n - 1 else waiting h n
waiting (Ended ∷ h) n = 0
waiting (_ ∷ h) n = waiting h n

-- No delivery comes, or goes, under an id that names another one; none goes that hasn't come; and what is held names one
-- that is known.
abbrev pub IsLawful : History → Type 0
IsLawful [] = Unit {0}
IsLawful (Came i ∷ h) = (claimed h i ≡ None) × IsLawful h
IsLawful (Went o ∷ h) = (number_out h o ≡ None) × (gone h < started h) × IsLawful h
IsLawful (Held m ∷ h) = (is_some (known h m) ≡ true) × IsLawful h
IsLawful (_ ∷ h) = IsLawful h

-- a delivery's id, if it has one, names it no longer
abbrev pub released : Option ℕ → ℕ → ℕ → Option ℕ → Option ℕ
released None m q found = found
released (Some id) m q found = if id == q then unless m found else found
