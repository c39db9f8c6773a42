-- What `cut` gives: the text before a mark and the text after it.
use Rattle.std.specs.Prelude.{ℕ, List, [], ◌∷◌, Option, Some, None}
use Rattle.std.specs.Borrow.{Bor}
use Rattle.amqr_commands.specs.Words.{Text, cut_at}

-- the texts that are cut off at each such mark, of those after the first
abbrev pub behind : ℕ → Option (Bor Text) → List Text
behind mark None = []
behind mark (Some text) = cut_at mark text.now

abbrev pub parts : ℕ → Bor Text × Option (Bor Text) → List Text
parts mark cut = cut.0.now ∷ behind mark cut.1
