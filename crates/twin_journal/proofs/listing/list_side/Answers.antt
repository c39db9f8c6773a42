use Rattle.std.proofs.Common.{refl}
use Rattle.twin_journal.proofs.Found.{listed, explained}
use Rattle.twin_journal.proofs.listing.list_side.Goals as goal

pub returns-in-Err-clause-fault : goal.returns-in-Err-clause-fault
returns-in-Err-clause-fault c contents read =
    explained c.args.active.now contents read c.as_slice-bytes.result.now c.as_slice-bytes.ensures.value c.in_ok-stamp.stamp.epoch c.in_ok-stamp.stamp.base c.in_ok-stamp.stamp.size c.in_ok-stamp.stamp.book c.in_ok-stamp.behind.now
    c.in_ok-stamp.ensures.read c.in-Err.fault c.in-Err.ensures.fault

pub returns-clause-listed : goal.returns-clause-listed
returns-clause-listed c contents read =
    listed c.args.active.now contents read c.as_slice-bytes.result.now c.as_slice-bytes.ensures.value c.in_ok-stamp.stamp.epoch c.in_ok-stamp.stamp.base c.in_ok-stamp.stamp.size c.in_ok-stamp.stamp.book c.in_ok-stamp.behind.now
    c.in_ok-stamp.ensures.read _ c.in-Ok.listed.entries.items c.in-Ok.listed.place c.in-Ok.listed.book refl refl c.row_count.ensures c.terminus_count.ensures c.in-Ok.ensures.listed
