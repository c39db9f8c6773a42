use Rattle.std.proofs.Common.{◌≡◌, ℕ, List, length, subst, ap, arith, IfSome}
use Rattle.journal_codec.proofs.Counted.{make_counted}
use Rattle.journal_codec.proofs.spell.make_len.Goals as goal

pub returns : goal.returns
returns c =
    subst (λ (k : ℕ). IfSome c.total.result (λ (n : ℕ). n ≡ k)) (omega (
      arith,
      make_counted c.args.terminus.now,
      ap (λ (t : List ℕ). length t) c.as_str-user.ensures,
      ap (λ (t : List ℕ). length t) c.as_str-container.ensures,
      ap (λ (t : List ℕ). length t) c.as_str-name.ensures,
      ap (λ (t : List ℕ). length t) c.as_str-address.ensures,
    )) c.total.ensures
