use Rattle.gate_journal.proofs.Moments.{first_call, next_call}
use Rattle.gate_journal.proofs.whole.read_all.Goals as goal

pub returns-in_err-sync-clause-moments : goal.returns-in_err-sync-clause-moments
returns-in_err-sync-clause-moments g c =
    first_call g.D.Disk.moment g.D.Disk.left_since g.D.Disk.may_leave c.args.disk.now c.sync.new.self (g.met.D.Disk.only_now c.args.disk.now) c.sync.ensures.time c.sync.ensures.crash

pub returns-in_err-len-clause-moments : goal.returns-in_err-len-clause-moments
returns-in_err-len-clause-moments g c =
    next_call g.D.Disk.moment g.D.Disk.left_since g.D.Disk.may_leave c.args.disk.now c.sync.new.self c.len.new.self
    (first_call g.D.Disk.moment g.D.Disk.left_since g.D.Disk.may_leave c.args.disk.now c.sync.new.self (g.met.D.Disk.only_now c.args.disk.now) c.sync.ensures.time c.sync.ensures.crash)
    c.sync.ensures.crash c.len.ensures.time c.len.ensures.crash

pub returns-in_err-resize-clause-moments : goal.returns-in_err-resize-clause-moments
returns-in_err-resize-clause-moments g c =
    next_call g.D.Disk.moment g.D.Disk.left_since g.D.Disk.may_leave c.args.disk.now c.sync.new.self c.len.new.self
    (first_call g.D.Disk.moment g.D.Disk.left_since g.D.Disk.may_leave c.args.disk.now c.sync.new.self (g.met.D.Disk.only_now c.args.disk.now) c.sync.ensures.time c.sync.ensures.crash)
    c.sync.ensures.crash c.len.ensures.time c.len.ensures.crash

pub returns-in_err-count-clause-moments : goal.returns-in_err-count-clause-moments
returns-in_err-count-clause-moments g c =
    let moment = g.D.Disk.moment in
    let left_since = g.D.Disk.left_since in
    let may_leave = g.D.Disk.may_leave in
    let synced = first_call moment left_since may_leave c.args.disk.now c.sync.new.self (g.met.D.Disk.only_now c.args.disk.now) c.sync.ensures.time c.sync.ensures.crash in
    let asked = next_call moment left_since may_leave c.args.disk.now c.sync.new.self c.len.new.self synced c.sync.ensures.crash c.len.ensures.time c.len.ensures.crash in
    next_call moment left_since may_leave c.args.disk.now c.len.new.self c.read_at.new.self asked (λ f left. c.sync.ensures.crash f (c.len.ensures.crash f left)) c.read_at.ensures.time c.read_at.ensures.crash

pub returns-clause-moments : goal.returns-clause-moments
returns-clause-moments g c =
    let moment = g.D.Disk.moment in
    let left_since = g.D.Disk.left_since in
    let may_leave = g.D.Disk.may_leave in
    let synced = first_call moment left_since may_leave c.args.disk.now c.sync.new.self (g.met.D.Disk.only_now c.args.disk.now) c.sync.ensures.time c.sync.ensures.crash in
    let asked = next_call moment left_since may_leave c.args.disk.now c.sync.new.self c.len.new.self synced c.sync.ensures.crash c.len.ensures.time c.len.ensures.crash in
    next_call moment left_since may_leave c.args.disk.now c.len.new.self c.read_at.new.self asked (λ f left. c.sync.ensures.crash f (c.len.ensures.crash f left)) c.read_at.ensures.time c.read_at.ensures.crash
