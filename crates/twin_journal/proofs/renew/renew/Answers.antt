use Rattle.std.proofs.Common.{◌∙◌, arith, ◌+◌}
use Rattle.twin_journal.proofs.Renewed.{ready}
use Rattle.twin_journal.proofs.renew.renew.Goals as goal

pub returns-in_err-write_checkpoint-clause-any_moment : goal.returns-in_err-write_checkpoint-clause-any_moment
returns-in_err-write_checkpoint-clause-any_moment g c stamp start bs at leaves =
    let T = g.T.Twin in
    let f = ready c.args.figures (T.seen c.args.twin.now) (T.may_leave c.args.twin.now) stamp start c.args.book.now bs at leaves c.in_ok-fill.fill.bytes.items c.other.result c.in-Some.epoch c.in_ok-fill.fill.size (8 + c.len.result)
    c.in_ok-fill.ensures.fill c.other.ensures c.in-Some.ensures.1 (omega (arith, c.len.ensures, c.in_ok-fill.fill.bytes.ok.0)) in
    c.write_checkpoint.ensures.any_moment stamp f.stamp start c.args.book.now bs _ at f.renewed (c.as_slice.ensures.value ∙ f.is)

pub returns-clause-done : goal.returns-clause-done
returns-clause-done g c stamp start bs at leaves =
    let T = g.T.Twin in
    let f = ready c.args.figures (T.seen c.args.twin.now) (T.may_leave c.args.twin.now) stamp start c.args.book.now bs at leaves c.in_ok-fill.fill.bytes.items c.other.result c.in-Some.epoch c.in_ok-fill.fill.size (8 + c.len.result)
    c.in_ok-fill.ensures.fill c.other.ensures c.in-Some.ensures.1 (omega (arith, c.len.ensures, c.in_ok-fill.fill.bytes.ok.0)) in
    record { stamp = f.stamp; at = c.in_ok-write_checkpoint.ensures.done stamp f.stamp start c.args.book.now bs _ at f.renewed (c.as_slice.ensures.value ∙ f.is) }

pub returns-clause-any_moment : goal.returns-clause-any_moment
returns-clause-any_moment g c stamp start bs at leaves =
    let T = g.T.Twin in
    let f = ready c.args.figures (T.seen c.args.twin.now) (T.may_leave c.args.twin.now) stamp start c.args.book.now bs at leaves c.in_ok-fill.fill.bytes.items c.other.result c.in-Some.epoch c.in_ok-fill.fill.size (8 + c.len.result)
    c.in_ok-fill.ensures.fill c.other.ensures c.in-Some.ensures.1 (omega (arith, c.len.ensures, c.in_ok-fill.fill.bytes.ok.0)) in
    c.write_checkpoint.ensures.any_moment stamp f.stamp start c.args.book.now bs _ at f.renewed (c.as_slice.ensures.value ∙ f.is)
