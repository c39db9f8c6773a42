use Rattle.std.proofs.Common.{◌≡◌, ◌∙◌, ◌+◌, length}
use Rattle.disk_core.specs.Disk.{between}
use Rattle.disk_core.specs.DiskLaws.{goes_on}
use Rattle.disk_core.specs.Twin.{other}
use Rattle.disk_core.specs.TwinLaws.{SpoiltOn, only_side}
use Rattle.twin_journal.proofs.Moments.{begun, opened, synced, on_ok}
use Rattle.twin_journal.proofs.device.put.Goals as goal

pub returns-in_err-write_at-clause-moments : goal.returns-in_err-write_at-clause-moments
returns-in_err-write_at-clause-moments g c only =
    let twin = c.args.twin.now in
    let T = g.T.Twin in
    let places = between c.args.at (c.args.at + length c.args.bytes.now) in
    goes_on T.moment T.left_since twin twin c.write_at.new.self (SpoiltOn c.args.side places (T.seen twin)) (T.may_leave c.write_at.new.self)
    (begun T.moment T.left_since T.may_leave T.seen c.args.side twin (g.met.T.Twin.only_now twin) only places) c.write_at.ensures.time
    (opened T.moment T.left_since T.may_leave T.seen c.args.side twin (g.met.T.Twin.only_now twin) only places c.write_at.new.self c.write_at.ensures.crash c.write_at.ensures.other_crash)

pub returns-clause-moments : goal.returns-clause-moments
returns-clause-moments g c only =
    let twin = c.args.twin.now in
    let T = g.T.Twin in
    let places = between c.args.at (c.args.at + length c.args.bytes.now) in
    let leaves = opened T.moment T.left_since T.may_leave T.seen c.args.side twin (g.met.T.Twin.only_now twin) only places c.write_at.new.self c.write_at.ensures.crash c.write_at.ensures.other_crash in
    let written = goes_on T.moment T.left_since twin twin c.write_at.new.self (SpoiltOn c.args.side places (T.seen twin)) (T.may_leave c.write_at.new.self)
    (begun T.moment T.left_since T.may_leave T.seen c.args.side twin (g.met.T.Twin.only_now twin) only places) c.write_at.ensures.time leaves in
    goes_on T.moment T.left_since twin c.write_at.new.self c.sync.new.self (SpoiltOn c.args.side places (T.seen twin)) (T.may_leave c.sync.new.self)
    written c.sync.ensures.time (λ d now. leaves d (c.sync.ensures.crash d now))

pub returns-clause-durable : goal.returns-clause-durable
returns-clause-durable g c =
    let T = g.T.Twin in
    on_ok c.sync.result
    (λ here only.
    synced c.args.side (T.seen c.sync.new.self) (T.may_leave c.args.twin.now) (T.may_leave c.write_at.new.self) (T.may_leave c.sync.new.self) (T.seen c.args.twin.now (other c.args.side))
    (let same : T.seen c.sync.new.self (other c.args.side) ≡ T.seen c.args.twin.now (other c.args.side) = c.sync.ensures.other ∙ c.write_at.ensures.other in same)
    (only_side (other c.args.side) (T.seen c.args.twin.now) (T.may_leave c.args.twin.now) only)
    c.write_at.ensures.other_crash c.sync.ensures.crash here)
    c.sync.ensures.durable
