-- What one line of a script means.
use Rattle.std.specs.Prelude.{◌≡◌, ℕ, ◌==◌, ◌||◌, if◌then◌else◌, Bool, List, [], ◌∷◌, slice_index, codes, Option, Some, None, Result, Ok, Err, ⊤}
use Rattle.std.specs.List.{list_all}
use Rattle.std.specs.Str.{bytes_eq}
use Rattle.amqr_commands.specs.Words.{Text, cut_at, number_of, bytes_of}
use Rattle.core_player.specs.declared.script.Step.{Step}
use Rattle.core_player.specs.declared.script.Step.TheVariants.{Up, In, Down, Tick, Fuse}
use Rattle.router_trace.specs.declared.event.PeerRole.TheVariants.{Normal, RouteContainer}
use Rattle.router_play.specs.declared.script.Stop.{Stop}
use Rattle.router_play.specs.declared.script.Stop.TheVariants.{Old, New}
use Rattle.amqr_commands.specs.declared.script.line.Instruction.{Instruction}
use Rattle.amqr_commands.specs.declared.script.line.Instruction.TheVariants.{Play, Stop as Stopping}
use Rattle.amqr_commands.specs.declared.script.line.LineFault.{LineFault}
use Rattle.amqr_commands.specs.declared.script.line.LineFault.TheVariants.{Wrong, Memory}

-- a line says nothing, or a step, or a stop, or something that a script may not say
pub data Saying : Type 0 where
  nothing : Saying
  step : Step → Saying
  stop : Stop → Saying
  wrong : Saying

-- a comment, whose first character is `#`
abbrev pub is_comment : Text → Bool
is_comment line = slice_index line 0 == 35

-- nothing, or only spaces and tabs
abbrev pub is_blank : Text → Bool
is_blank line = list_all (λ byte. byte == 32 || byte == 9) line

abbrev pub said : Option Step → Saying
said (Some x) = step x
said None = wrong

-- from two words, a verb and a number: `up N`, `down N`, `tick MS`, `fuse K`
abbrev pub with_number : Text → Option ℕ → Option Step
with_number verb None = None
with_number verb (Some n) =
    if bytes_eq verb (codes "up") then Some (Up (record { 0 = n }) Normal)
    else if bytes_eq verb (codes "down") then Some (Down (record { 0 = n }))
    else if bytes_eq verb (codes "tick") then Some (Tick n)
    else if bytes_eq verb (codes "fuse") then Some (Fuse n)
    else None

-- from three words: `in N HEX`
abbrev pub with_bytes : Text → Option ℕ → Option Text → Option Step
with_bytes verb (Some n) (Some bytes) = if bytes_eq verb (codes "in") then Some (In (record { 0 = n }) bytes) else None
with_bytes verb _ _ = None

-- `up N route-container`
abbrev pub with_role : Option ℕ → Text → Option Step
with_role None role = None
with_role (Some n) role = if bytes_eq role (codes "route-container") then Some (Up (record { 0 = n }) RouteContainer) else None

abbrev pub with_word : Text → Option ℕ → Text → Option Step
with_word verb number word = if bytes_eq verb (codes "up") then with_role number word else with_bytes verb number (bytes_of word)

-- the step that these words say
abbrev pub step_by : List Text → Option Step
step_by (verb ∷ number ∷ []) = with_number verb (number_of number)
step_by (verb ∷ number ∷ word ∷ []) = with_word verb (number_of number) word
step_by _ = None

-- `stop old`, `stop new`
abbrev pub stop_in : Text → Option Stop
stop_in line = if bytes_eq line (codes "stop old") then Some Old else if bytes_eq line (codes "stop new") then Some New else None

abbrev pub said_or : Option Stop → Saying → Saying
said_or (Some how) other = stop how
said_or None other = other

-- what a line says; its words are one space apart, with none before or after them
unfoldable pub saying_of : Text → Saying
saying_of line = if is_comment line || is_blank line then nothing else said_or (stop_in line) (said (step_by (cut_at 32 line)))

-- what a function read from a line is what it says, unless memory ran out
abbrev pub Says : Result (Option Instruction) LineFault → Saying → Type 0
Says (Ok None) saying = saying ≡ nothing
Says (Ok (Some (Play x))) saying = saying ≡ step x
Says (Ok (Some (Stopping how))) saying = saying ≡ stop how
Says (Err Wrong) saying = saying ≡ wrong
Says (Err Memory) saying = ⊤
