use Rattle.std.proofs.Common.{◌≡◌, ◌++◌, take}
use Rattle.journal_codec.specs.Format.{acts_bytes}
use Rattle.journal_codec.specs.Batches.{HaveOutcomes, HaveTermini, AreWritable}
use Rattle.journal_codec.proofs.spell.put_acts.Given as goal

abbrev pub invariant-loop-act : goal.invariant-loop-act
invariant-loop-act l = record {
  put : l.out.items ≡ l.fn.out.items ++ acts_bytes (take l.act-index l.acts);
  writable : HaveOutcomes (take l.act-index l.acts) → HaveTermini (take l.act-index l.acts) → AreWritable (take l.act-index l.acts);
}
