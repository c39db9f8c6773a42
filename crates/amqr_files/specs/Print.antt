-- What is printed.
use Rattle.std.specs.Prelude.{ℕ, List, [], ◌∷◌, Option, Some, IfSome}
use Rattle.std.specs.Fmt.{option_append, with_newline}
use Rattle.std.specs.Io.KnownBytes.{Appends}
use Rattle.amqr_files.specs.Status.{refusal_text}
use Rattle.amqr_files.specs.declared.status.Refusal.{Refusal}

-- the text of each line and a line feed after it, where the lines have a text
unfoldable pub printed : {L : Type 0} → (L → Option (List ℕ)) → List L → Option (List ℕ)
printed text [] = Some []
printed text (line ∷ lines) = option_append (with_newline (text line)) (printed text lines)

-- a writer that held these bytes, where they are known, now holds one more line: why nothing is done
abbrev pub Refuses : Refusal → Option (List ℕ) → Option (List ℕ) → Type 0
Refuses r old new = IfSome (printed (λ x. Some (refusal_text x)) (r ∷ [])) (Appends old new)
