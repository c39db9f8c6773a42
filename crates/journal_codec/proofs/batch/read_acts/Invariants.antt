use Rattle.std.proofs.Common.{◌≡◌, ◌++◌, length}
use Rattle.journal_codec.specs.Format.{acts_bytes}
use Rattle.journal_codec.specs.Batches.{AreWritable}
use Rattle.journal_codec.proofs.batch.read_acts.Given as goal

abbrev pub invariant-loop-rest : goal.invariant-loop-rest
invariant-loop-rest l = record {
  spelled : l.bytes ≡ acts_bytes l.acts.items ++ l.rest;
  writable : AreWritable l.acts.items;
}

abbrev pub decreases-loop-rest : goal.decreases-loop-rest
decreases-loop-rest l = length l.rest
