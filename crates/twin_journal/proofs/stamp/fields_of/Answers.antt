use Rattle.twin_journal.proofs.Stamped.{if_none, no_epoch, no_base, no_checkpoint, these_fields}
use Rattle.twin_journal.proofs.stamp.fields_of.Goals as goal

pub returns-in_err-epoch-clause-none : goal.returns-in_err-epoch-clause-none
returns-in_err-epoch-clause-none c = if_none c.from_residual.result (no_epoch c.args.bytes.now c.in_err-epoch.ensures.none)

pub returns-in_err-base-clause-none : goal.returns-in_err-base-clause-none
returns-in_err-base-clause-none c =
    if_none c.from_residual-in_err-base.result
    (no_base c.args.bytes.now c.in_ok-epoch.epoch c.in_ok-epoch.behind_epoch.now c.in_ok-epoch.ensures.some c.in_ok-epoch.ensures.small c.in_err-base.ensures.none)

pub returns-in_err-checkpoint-clause-none : goal.returns-in_err-checkpoint-clause-none
returns-in_err-checkpoint-clause-none c =
    if_none c.from_residual-in_err-checkpoint.result
    (no_checkpoint c.args.bytes.now c.in_ok-epoch.epoch c.in_ok-epoch.behind_epoch.now c.in_ok-epoch.ensures.some c.in_ok-epoch.ensures.small
    c.in_ok-base.base c.in_ok-base.behind_base.now c.in_ok-base.ensures.some c.in_ok-base.ensures.small c.in_err-checkpoint.ensures.none)

pub returns-clause-some : goal.returns-clause-some
returns-clause-some c =
    these_fields c.args.bytes.now c.in_ok-epoch.epoch c.in_ok-epoch.behind_epoch.now c.in_ok-epoch.ensures.some c.in_ok-epoch.ensures.small
    c.in_ok-base.base c.in_ok-base.behind_base.now c.in_ok-base.ensures.some c.in_ok-base.ensures.small c.in_ok-checkpoint.checkpoint.now c.in_ok-checkpoint.behind.now c.in_ok-checkpoint.ensures.some
