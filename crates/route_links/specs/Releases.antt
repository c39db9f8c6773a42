-- What a release lets go: frames, each of which is what the turn gives of what is allowed behind those before it.
use Rattle.std.specs.Prelude.{◌≡◌, ℕ, ◌+◌, ◌-◌, ◌%◌, ◌^◌, ◌≤◌, Bool, true, false, if◌then◌else◌, List, [], ◌∷◌, ◌++◌, count_by, length, Option, Some, None, is_some, IfSome}
use Rattle.route_links.specs.declared.allowed.Allowed.{Allowed}
use Rattle.route_links.specs.declared.allowed.Stop.{Stop}
use Rattle.route_links.specs.declared.allowed.Turn.TheVariants.{Stopped, Passed}
use Rattle.route_links.specs.declared.passing.Passing.{Passing}
use Rattle.route_links.specs.declared.passing.Passing.TheVariants as pass
use Rattle.route_links.specs.Parts.{Part, parts_of}
use Rattle.route_links.specs.Cutting.{size}
use Rattle.route_links.specs.Legs.{Held, Mirrors}
use Rattle.route_links.specs.Turns.{turn, behind}

abbrev pub is_transfer : Passing → Bool
is_transfer (pass.Transfer x payload) = true
is_transfer _ = false

-- the delivery-id of a frame that goes out: a transfer has one exactly if it starts a delivery
abbrev pub id_of : Passing → Option ℕ
id_of (pass.Transfer x payload) = x.delivery_id
id_of _ = None

abbrev pub is_start : Passing → Bool
is_start f = is_some (id_of f)

-- what is allowed behind a frame, and behind frames
abbrev pub less : Allowed → Passing → Allowed
less a f =
    if is_start f then record a { window = a.window - 1; credit = a.credit - 1; next_id = (a.next_id + 1) % 2 ^ 32; free_ids = a.free_ids - 1 }
    else if is_transfer f then record a { window = a.window - 1 }
    else a

abbrev pub left : Allowed → List Passing → Allowed
left a [] = a
left a (f ∷ fs) = left (less a f) fs

-- the frames that go one after another from a leg, and the leg behind them
abbrev pub Turns : Allowed → Held → List Passing → Held → Type 0
Turns a leg [] now = now ≡ leg
Turns a leg (f ∷ fs) now = (turn a leg ≡ Passed f) × Turns (less a f) (behind a leg) fs now

-- the starts have the delivery-ids from this one on, in order
abbrev pub HaveIds : ℕ → List Passing → Type 0
HaveIds id [] = Unit {0}
HaveIds id (f ∷ fs) = (is_start f ≡ true → id_of f ≡ Some id) × HaveIds (if is_start f then (id + 1) % 2 ^ 32 else id) fs

-- a transfer's frame has at most so many bytes
abbrev pub FitsFrame : ℕ → Passing → Type 0
FitsFrame largest (pass.Transfer x payload) = size x payload ≤ largest
FitsFrame largest _ = Unit {0}

abbrev pub AllFit : ℕ → List Passing → Type 0
AllFit largest [] = Unit {0}
AllFit largest (f ∷ fs) = FitsFrame largest f × AllFit largest fs

-- how far a release has come: what it appended to a list, the leg behind it, and what is still allowed
pub record IsFar (a : Allowed) (before : Held) (old new : List Passing) (now : Held) (still : Allowed) : Type 0 where
  pub frames : List Passing
  pub appended : new ≡ old ++ frames
  pub turns : Turns a before frames now
  pub allowed : still ≡ left a frames

-- where a turn lets a frame go, the window and what is held shrink together
abbrev pub size_left : Allowed → Held → ℕ
size_left a leg = a.window + length leg.queue

-- What a release appended to a list, and why it ended. What went out grows by exactly the parts of the frames; there are no more transfers than the
-- window takes, and no more starts than the credit and the free ids let start; the starts have the next ids; each transfer fits.
pub record Release (a : Allowed) (before : Held) (old new : List Passing) (now : Held) (why : Option Stop) : Type 0 where
  pub frames : List Passing
  pub appended : new ≡ old ++ frames
  pub turns : Turns a before frames now
  pub stopped : IfSome why (λ s. turn (left a frames) now ≡ Stopped s)
  pub mirror : (came went : List Part) → Mirrors before came went → Mirrors now came (went ++ parts_of before.went frames)
  pub window : count_by is_transfer frames ≤ a.window
  pub credit : count_by is_start frames ≤ a.credit
  pub free : count_by is_start frames ≤ a.free_ids
  pub ids : HaveIds a.next_id frames
  pub fit : AllFit a.largest frames
