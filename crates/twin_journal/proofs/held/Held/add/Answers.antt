use Rattle.std.proofs.Common.{◌∙◌, ap, ◌∷◌, ◌-◌, [], length, length-append, refl, arith}
use Rattle.journal_codec.specs.Format.{blocks}
use Rattle.twin_journal.proofs.Ahead.{ahead_more, gate_opened}
use Rattle.twin_journal.proofs.held.Held.add.Goals as goal

pub returns-clause-added : goal.returns-clause-added
returns-clause-added c figures lists acts held spelled = record {
  bytes =
      gate_opened lists acts c.args.self.now.bytes.items c.args.block.now c.extend_from_slice.new.self.items (c.len-gate.result - 1) held.bytes spelled c.in_ok-extend_from_slice.ensures.items
      (omega (arith, c.len-gate.ensures, c.args.self.now.bytes.ok.0, ap length held.bytes, length-append (blocks lists) (0 ∷ [])));
  ahead = c.in-Some.ensures ∙ ahead_more figures c.args.self.now lists acts c.args.block.now _ held spelled refl;
}
