use Rattle.std.proofs.Common.{subst, sym}
use Rattle.disk_core.specs.Twin.{Contents}
use Rattle.router_play.specs.Entries.{Survives}
use Rattle.router_play.proofs.runs.end_run.Goals as goal

pub returns-clause-left : goal.returns-clause-left
returns-clause-left g c =
    let twin = g.C.Twin in
    subst (λ (k : _). twin.may_leave k (twin.seen c.add_last.new.twin)) c.into_twin.ensures
    (subst (λ (k : Contents). twin.may_leave c.into_twin.result k) (sym c.in_ok-add_last.ensures.seen) c.in_ok-twin.ensures.left)

pub returns-clause-told : goal.returns-clause-told
returns-clause-told g c =
    let last = c.in_ok-add_last.ensures.added in
    (last.0, subst (λ (k : Contents). Survives c.args.played.cut k last.0) (sym c.in_ok-add_last.ensures.seen) last.1, last.2)
