-- What a script says: its steps, or its first faulty line.
use Rattle.std.specs.Prelude.{◌≡◌, ◌≢◌, ◌+◌, ℕ, ◌==◌, List, [], ◌∷◌, ◌++◌, length, take, ⊤, ◌⊎◌}
use Rattle.std.specs.List.{count_by}
use Rattle.std.specs.Str.{IsUtf8, IsValidUpTo}
use Rattle.amqr_commands.specs.Words.{Text, cut_at}
use Rattle.amqr_commands.specs.Lines.{Saying, nothing, step, stop, wrong, saying_of}
use Rattle.core_player.specs.declared.script.Step.{Step}
use Rattle.router_play.specs.declared.script.Stop.{Stop}
use Rattle.router_play.specs.declared.script.Stop.TheVariants.{Old}
use Rattle.amqr_commands.specs.declared.script.line.Instruction.{Instruction}
use Rattle.amqr_commands.specs.declared.script.line.Instruction.TheVariants.{Play, Stop as Stopping}
use Rattle.amqr_commands.specs.declared.script.ScriptFault.{ScriptFault}
use Rattle.amqr_commands.specs.declared.script.ScriptFault.TheVariants.{Line, Memory}

-- a text's lines; after a last line feed there is an empty line, which says nothing
abbrev pub lines_of : Text → List Text
lines_of text = cut_at 10 text

-- each line says a step or nothing
unfoldable pub AllSay : List Text → Type 0
AllSay [] = ⊤
AllSay (line ∷ lines) = (saying_of line ≢ wrong) × AllSay lines

abbrev pub instructions_in : Saying → List Instruction
instructions_in nothing = []
instructions_in (step x) = Play x ∷ []
instructions_in (stop how) = Stopping how ∷ []
instructions_in wrong = []

-- the steps and stops that lines say, in order
unfoldable pub instructions_of : List Text → List Instruction
instructions_of [] = []
instructions_of (line ∷ lines) = instructions_in (saying_of line) ++ instructions_of lines

-- the runs of a script, of which these steps are the first of its first one: each stop ends one, and so does the script's end, which leaves what was
-- synced last
abbrev pub runs_from : List Step → List Instruction → List (List Step × Stop)
runs_from steps [] = (steps, Old) ∷ []
runs_from steps (Play x ∷ rest) = runs_from (steps ++ x ∷ []) rest
runs_from steps (Stopping how ∷ rest) = (steps, how) ∷ runs_from [] rest

-- the n-th line, counted from 1, is the first that says something that a script may not say
abbrev pub IsFirstWrong : List Text → ℕ → Type 0
IsFirstWrong lines n = (before : List Text) × (line : Text) × (behind : List Text) × (lines ≡ before ++ line ∷ behind) × AllSay before × (saying_of line ≡ wrong) × (n ≡ length before + 1)

-- the number of the line, counted from 1, that follows this much of a text
abbrev pub line_of : Text → ℕ
line_of before = count_by (λ byte. byte == 10) before + 1

-- the n-th line, counted from 1, has the first byte that isn't UTF-8
abbrev pub IsFirstBroken : Text → ℕ → Type 0
IsFirstBroken text n = (place : ℕ) × IsValidUpTo text place × (n ≡ line_of (take place text))

-- the text is a script of these steps and stops
abbrev pub HasInstructions : Text → List Instruction → Type 0
HasInstructions text instructions = IsUtf8 text × AllSay (lines_of text) × (instructions ≡ instructions_of (lines_of text))

-- the text is a script of these runs
abbrev pub HasRuns : Text → List (List Step × Stop) → Type 0
HasRuns text runs = (instructions : List Instruction) × HasInstructions text instructions × (runs ≡ runs_from [] instructions)

-- the text is at fault in this line: text that isn't UTF-8 comes before lines that are wrong
abbrev pub IsFaulty : Text → ScriptFault → Type 0
IsFaulty text (Line n) = ((IsUtf8 text → ⊥) × IsFirstBroken text n) ⊎ (IsUtf8 text × IsFirstWrong (lines_of text) n)
IsFaulty text Memory = ⊤
