use Rattle.std.proofs.Common.{◌≡◌, arith}
use Rattle.journal_codec.proofs.Scans.{read_more, read_shorter, none_left}
use Rattle.journal_codec.specs.declared.read.ReadFault.TheVariants.{Misspelt}
use Rattle.journal_codec.proofs.batch.read_acts.Goals as goal

pub returns-in-Err-clause-none : goal.returns-in-Err-clause-none
returns-in-Err-clause-none c misspelt =
    none_left c.args.bytes.now c.loop-rest.acts.items c.loop-rest.rest.now c.in-Err.fault (rw c.is_empty.ensures at c.loop-rest-test.true) c.loop-rest.invariant.spelled c.loop-rest.invariant.writable c.in-Err.ensures (let is : c.in-Err.fault ≡ Misspelt = cc in is)

pub loop-rest-preserved : goal.loop-rest-preserved
loop-rest-preserved c =
    let step = read_more c.args.bytes.now c.loop-rest.acts.items c.loop-rest.rest.now c.in-Ok.read c.in-Ok.behind.now (record { each = λ i. omega (arith, c.type_inv.bytes i) }) c.loop-rest.invariant.spelled c.loop-rest.invariant.writable c.in-Ok.ensures in
    rw c.in_ok-push-in-Ok.ensures.items (record { spelled = step.spelled; writable = step.writable })

pub loop-rest-smaller : goal.loop-rest-smaller
loop-rest-smaller c =
    read_shorter c.args.bytes.now c.loop-rest.acts.items c.loop-rest.rest.now c.in-Ok.read c.in-Ok.behind.now (record { each = λ i. omega (arith, c.type_inv.bytes i) }) c.loop-rest.invariant.spelled c.in-Ok.ensures
