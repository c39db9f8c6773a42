-- What happened on a link, newest first, and the credit that it gives (AMQP 1.0 part 2, sections 2.6.7 and 2.6.8). The same
-- list holds at both ends. Each figure is looked up: the last value announced, and the deliveries started since.
use Rattle.std.specs.Prelude.{ℕ, Bool, true, false, ◌+◌, ◌%◌, ◌^◌, ◌≤◌, nat_lt, if◌then◌else◌, List, [], ◌∷◌, count_by, Option, Some, None, unwrap_or}
use Rattle.amqp_session.specs.Serials.{distance}
use Rattle.amqp_link.specs.declared.grant.Grant.{Grant}

pub data Happened : Type 0 where
  -- the sender's attach, with its initial-delivery-count
  Attached : ℕ → Happened
  -- a flow of the receiver that has a link-credit: its delivery-count, where it has one, and its link-credit
  Granted : Option ℕ → ℕ → Happened
  -- a transfer of the sender that starts a delivery
  Started : Happened
  -- a flow of the sender that gives its delivery-count
  Counted : ℕ → Happened

abbrev pub Link : Type 0
Link = List Happened

-- the events after the newest one that passes the test
abbrev pub since : (Happened → Bool) → Link → Link
since tells [] = []
since tells (h ∷ t) = if tells h then [] else h ∷ since tells t

-- the newest event that passes the test, and those before it
abbrev pub from : (Happened → Bool) → Link → Link
from tells [] = []
from tells (h ∷ t) = if tells h then h ∷ t else from tells t

abbrev pub is_start : Happened → Bool
is_start Started = true
is_start _ = false

-- the sender's initial delivery-count
abbrev pub initial : Link → ℕ
initial [] = 0
initial (Attached n ∷ t) = n
initial (_ ∷ t) = initial t

-- The sender's delivery-count: the last one from its attach or a flow, and one more for each delivery started since.
abbrev pub tells_count : Happened → Bool
tells_count (Attached n) = true
tells_count (Counted n) = true
tells_count _ = false

abbrev pub count_told : Link → ℕ
count_told [] = 0
count_told (Attached n ∷ t) = n
count_told (Counted n ∷ t) = n
count_told (_ ∷ t) = count_told t

abbrev pub count : Link → ℕ
count t = (count_told t + count_by is_start (since tells_count t)) % 2 ^ 32

-- What the receiver granted last since the attach, if anything. A flow without a delivery-count, whose sender knows none yet,
-- grants from the initial one.
abbrev pub is_grant : Happened → Bool
is_grant (Granted c k) = true
is_grant _ = false

abbrev pub granted : Link → Option Grant
granted [] = None
granted (Attached n ∷ t) = None
granted (Granted c k ∷ t) = Some (record { count = unwrap_or c (initial t); credit = k })
granted (_ ∷ t) = granted t

-- the delivery-count at which all that is granted is used up
abbrev pub limit : Grant → ℕ
limit g = (g.count + g.credit) % 2 ^ 32

-- what is left up to a limit at a delivery-count: the distance, and none where it is 2^31 or more, which is past the limit
abbrev pub left : ℕ → ℕ → ℕ
left end at = if nat_lt (distance at end) (2 ^ 31) then distance at end else 0

-- the credit left of a grant, if there is one
abbrev pub left_of : Option Grant → ℕ → ℕ
left_of None at = 0
left_of (Some g) at = left (limit g) at

-- The credit left on a link.
abbrev pub credit : Link → ℕ
credit t = left_of (granted t) (count t)

-- No start is beyond the credit: before each delivery was started at least 1 was left, and each count that the sender gave
-- was its own or ahead of it by no more than the credit left.
abbrev pub WithinCredit : Link → Type 0
WithinCredit [] = Unit {0}
WithinCredit (Started ∷ t) = (1 ≤ credit t) × WithinCredit t
WithinCredit (Counted n ∷ t) = (distance (count t) n ≤ credit t) × WithinCredit t
WithinCredit (_ ∷ t) = WithinCredit t
