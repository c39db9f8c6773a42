use Rattle.std.proofs.Common.{◌≡◌, length, take}
use Rattle.journal_codec.specs.Format.{acts_bytes}
use Rattle.journal_codec.proofs.spell.acts_len.Given as goal

abbrev pub invariant-loop-act : goal.invariant-loop-act
invariant-loop-act l = l.len ≡ length (acts_bytes (take l.act-index l.acts))
