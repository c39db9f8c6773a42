use Rattle.twin_journal.proofs.Found.{found, explained}
use Rattle.twin_journal.proofs.opened.scan.Goals as goal

pub returns-in-Err-clause-fault : goal.returns-in-Err-clause-fault
returns-in-Err-clause-fault c contents read =
    explained c.args.active.now contents read c.as_slice-bytes.result.now c.as_slice-bytes.ensures.value c.in_ok-stamp.stamp.epoch c.in_ok-stamp.stamp.base c.in_ok-stamp.stamp.size c.in_ok-stamp.stamp.book c.in_ok-stamp.behind.now
    c.in_ok-stamp.ensures.read c.in-Err.fault c.in-Err.ensures.fault

pub returns-clause-found : goal.returns-clause-found
returns-clause-found c contents read =
    found c.args.active.now contents read c.as_slice-bytes.result.now c.as_slice-bytes.ensures.value c.in_ok-stamp.stamp.epoch c.in_ok-stamp.stamp.base c.in_ok-stamp.stamp.size c.in_ok-stamp.stamp.book c.in_ok-stamp.behind.now
    c.in_ok-stamp.ensures.read c.in-Ok.found.book c.in-Ok.found.place c.in-Ok.found.count c.in-Some.last c.in-Ok.ensures.found c.in-Some.ensures.1
