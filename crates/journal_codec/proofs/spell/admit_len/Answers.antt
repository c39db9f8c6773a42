use Rattle.std.proofs.Common.{◌≡◌, ℕ, subst, arith, IfSome}
use Rattle.journal_codec.proofs.Counted.{admit_counted}
use Rattle.journal_codec.proofs.spell.admit_len.Goals as goal

pub returns : goal.returns
returns c =
    subst (λ (k : ℕ). IfSome c.total.result (λ (n : ℕ). n ≡ k)) (omega (arith, admit_counted c.args.admission.now, c.len.ensures.value, c.len-2.ensures.value))
    c.total.ensures
