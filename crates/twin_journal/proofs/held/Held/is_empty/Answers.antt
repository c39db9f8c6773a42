use Rattle.std.proofs.Common.{◌≡◌, ap, length, List, ℕ, arith}
use Rattle.std.proofs.lemmas.Bool.{eq-eqb, eqb-true}
use Rattle.twin_journal.proofs.Ahead.{none_are_held, one_byte_held}
use Rattle.twin_journal.proofs.held.Held.is_empty.Goals as goal

pub returns-clause-told : goal.returns-clause-told
returns-clause-told c figures lists held =
    let bytes : List ℕ = c.args.self.now.bytes.items in
    let counted : c.len.result ≡ length bytes = omega (arith, c.len.ensures, c.args.self.now.bytes.ok.0) in
    (λ one. none_are_held lists bytes held.bytes (omega (arith, counted, eqb-true c.len.result 1 one)), λ none. eq-eqb c.len.result 1 (omega (arith, counted, one_byte_held lists bytes held.bytes none)))

pub returns-clause-bytes : goal.returns-clause-bytes
returns-clause-bytes c is = eq-eqb c.len.result 1 (omega (arith, c.len.ensures, c.args.self.now.bytes.ok.0, ap length is))
