-- When a heartbeat is due (AMQP 1.0 part 2, section 2.4.5).
use Rattle.std.specs.Prelude.{ℕ, ◌-◌, ◌/◌, Bool, false, nat_lt, nat_le, if◌then◌else◌, Option, Some, None}

-- how long the peer waits for a frame, when the last one was written, and the time now: half of the idle-time-out has
-- passed, or more
abbrev pub is_due : Option ℕ → ℕ → ℕ → Bool
is_due None written now = false
is_due (Some idle) written now = if nat_lt 0 idle then nat_le (idle / 2) (now - written) else false
