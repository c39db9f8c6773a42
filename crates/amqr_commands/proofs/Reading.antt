-- The lines of a script, read one after another.
use Rattle.std.proofs.Common.{◌≡◌, ◌≢◌, ℕ, ◌<◌, ◌+◌, ◌^◌, ◌==◌, List, [], ◌∷◌, ◌++◌, length, refl, sym, ◌∙◌, ap, arith, append_assoc, append-nil, subst}
use Rattle.std.specs.Prelude.{Some, Ok}
use Rattle.std.proofs.lemmas.List.{length-append}
use Rattle.std.proofs.lemmas.List.Splits.{length-slice_split}
use Rattle.std.proofs.lemmas.List.Sums.{count_by-le-length}
use Rattle.amqr_commands.specs.Words.{Text, cut_at}
use Rattle.amqr_commands.specs.Lines.{Saying, nothing, step, stop, wrong, saying_of, Says}
use Rattle.amqr_commands.specs.Script.{AllSay, instructions_of, instructions_in, IsFirstWrong}
use Rattle.core_player.specs.declared.script.Step.{Step}
use Rattle.amqr_commands.specs.declared.script.line.Instruction.{Instruction}
use Rattle.amqr_commands.specs.declared.script.line.Instruction.TheVariants.{Play, Stop as Stopping}
use Rattle.router_play.specs.declared.script.Stop.{Stop}

-- this many of these lines were read; they say these steps, and these lines are left
abbrev pub ReadSoFar : List Text → List Text → ℕ → List Instruction → Type 0
ReadSoFar lines left n steps = (before : List Text) × (lines ≡ before ++ left) × AllSay before × (steps ≡ instructions_of before) × (n ≡ length before)

-- nothing was read yet
pub read_nothing : (lines : List Text) → ReadSoFar lines lines 0 []
unfolding AllSay instructions_of
read_nothing lines = ([], refl, tt, refl, refl)

AllSay_push : (before : List Text) (line : Text) → AllSay before → saying_of line ≢ wrong → AllSay (before ++ line ∷ [])
unfolding AllSay
AllSay_push [] line h k = (k, tt)
AllSay_push (x ∷ xs) line h k = (h.0, AllSay_push xs line h.1 k)

steps_push : (before : List Text) (line : Text) → instructions_of (before ++ line ∷ []) ≡ instructions_of before ++ instructions_in (saying_of line)
unfolding instructions_of
steps_push [] line = append-nil (instructions_in (saying_of line))
steps_push (x ∷ xs) line = ap (λ (l : List Instruction). instructions_in (saying_of x) ++ l) (steps_push xs line) ∙ sym (append_assoc (instructions_in (saying_of x)) (instructions_of xs) (instructions_in (saying_of line)))

-- one more line was read
read_line : (lines left behind : List Text) (n : ℕ) (steps : List Instruction) (line : Text) (saying : Saying) → ReadSoFar lines left n steps → left ≡ line ∷ behind → saying_of line ≡ saying → saying ≢ wrong → ReadSoFar lines behind (n + 1) (steps ++ instructions_in saying)
read_line lines left behind n steps line saying h cut says good = (
  h.0 ++ line ∷ [],
  h.1 ∙ ap (λ (l : List Text). h.0 ++ l) cut ∙ sym (append_assoc h.0 (line ∷ []) behind),
  AllSay_push h.0 line h.2 (λ e. good (sym says ∙ e)),
  rw (h.3, ← says) (sym (steps_push h.0 line)),
  let e = length-append h.0 (line ∷ []) in rw h.4 (sym e),
)

-- a line that says nothing
pub read_silent : (lines left behind : List Text) (n : ℕ) (steps : List Instruction) (line : Text) → ReadSoFar lines left n steps → left ≡ line ∷ behind → saying_of line ≡ nothing → ReadSoFar lines behind (n + 1) steps
read_silent lines left behind n steps line h cut says =
    let P : List Instruction → Type 0 = λ l. ReadSoFar lines behind (n + 1) l in
    subst P (append-nil steps) (read_line lines left behind n steps line nothing h cut says (λ e. cc))

-- a line that says a stop
read_stop : (lines left behind : List Text) (n : ℕ) (steps : List Instruction) (line : Text) (how : Stop) → ReadSoFar lines left n steps → left ≡ line ∷ behind → saying_of line ≡ stop how → ReadSoFar lines behind (n + 1) (steps ++ Stopping how ∷ [])
read_stop lines left behind n steps line how h cut says = read_line lines left behind n steps line (stop how) h cut says (λ e. cc)

-- a line that says a step
read_step : (lines left behind : List Text) (n : ℕ) (steps : List Instruction) (line : Text) (x : Step) → ReadSoFar lines left n steps → left ≡ line ∷ behind → saying_of line ≡ step x → ReadSoFar lines behind (n + 1) (steps ++ Play x ∷ [])
read_step lines left behind n steps line x h cut says = read_line lines left behind n steps line (step x) h cut says (λ e. cc)

-- a line that says an instruction
pub read_instruction : (lines left behind : List Text) (n : ℕ) (steps : List Instruction) (line : Text) (x : Instruction) → ReadSoFar lines left n steps → left ≡ line ∷ behind → Says (Ok (Some x)) (saying_of line) → ReadSoFar lines behind (n + 1) (steps ++ x ∷ [])
read_instruction lines left behind n steps line (Play x) h cut says = read_step lines left behind n steps line x h cut says
read_instruction lines left behind n steps line (Stopping how) h cut says = read_stop lines left behind n steps line how h cut says

-- a line that is wrong
pub read_wrong : (lines left behind : List Text) (n : ℕ) (steps : List Instruction) (line : Text) → ReadSoFar lines left n steps → left ≡ line ∷ behind → saying_of line ≡ wrong → IsFirstWrong lines (n + 1)
read_wrong lines left behind n steps line h cut says = (h.0, line, behind, h.1 ∙ ap (λ (l : List Text). h.0 ++ l) cut, h.2, says, rw h.4 refl)

-- no line is left
pub read_all : (lines : List Text) (n : ℕ) (steps : List Instruction) → ReadSoFar lines [] n steps → AllSay lines × (steps ≡ instructions_of lines)
read_all lines n steps h =
    let e : lines ≡ h.0 = h.1 ∙ append-nil h.0 in
    (rw e h.2, rw e h.3)

length_more : (line : Text) (behind : List Text) → length (line ∷ behind) ≡ length behind + 1
length_more line behind = omega arith

-- the next line has a number
pub line_fits : (mark : ℕ) (text : Text) (left : List Text) (n : ℕ) (steps : List Instruction) (line : Text) (behind : List Text) → ReadSoFar (cut_at mark text) left n steps → left ≡ line ∷ behind → length text < 2 ^ 63 → n + 1 < 2 ^ 64
line_fits mark text left n steps line behind h cut short =
    let lines = length-slice_split (λ byte. byte == mark) text in
    let marks = count_by-le-length (λ byte. byte == mark) text in
    let whole : length (cut_at mark text) ≡ length h.0 + length left = ap length h.1 ∙ length-append h.0 left in
    let some : length left ≡ length behind + 1 = ap length cut ∙ length_more line behind in
    omega (arith, lines, marks, whole, some, h.4, short)
