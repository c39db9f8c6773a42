use Rattle.router_core.proofs.Grouped.{first_moment, group_written, written_moment}
use Rattle.router_core.proofs.router.Core.handle_all.Goals as goal

pub returns-then-self-clause-any_moment : goal.returns-then-self-clause-any_moment
returns-then-self-clause-any_moment g c = λ t f stands.
    first_moment g.T.Twin.seen g.T.Twin.may_leave g.T.Twin.moment g.T.Twin.left_since g.T.Twin.failures (λ twin. g.met.T.Twin.only_now twin) c.args.events.now.items c.args.self.now t f stands

pub returns-in-Ok-write_held-clause-fits : goal.returns-in-Ok-write_held-clause-fits
returns-in-Ok-write_held-clause-fits g c = λ t f.
    group_written g.T.Twin.seen g.T.Twin.may_leave g.T.Twin.moment g.T.Twin.left_since g.T.Twin.failures c.args.events.now.items c.args.self.now c.hold_all.new.self c.write_held.new.self c.hold_all.new.events.items c.args.most
    c.in-Ok.done.items c.write_held.ensures.counts c.in-Ok-write_held.ensures.fits t (c.in-Ok.ensures.fits t f)

pub returns-in-Ok-write_held-clause-stands : goal.returns-in-Ok-write_held-clause-stands
returns-in-Ok-write_held-clause-stands g c = λ stands.
    let k = c.in-Ok.ensures.behind stands in c.in-Ok-write_held.ensures.stands k.0 k.1

pub returns-in-Ok-write_held-clause-any_moment : goal.returns-in-Ok-write_held-clause-any_moment
returns-in-Ok-write_held-clause-any_moment g c = λ t f stands.
    written_moment g.T.Twin.seen g.T.Twin.may_leave g.T.Twin.moment g.T.Twin.left_since g.T.Twin.failures c.args.events.now.items c.args.self.now c.hold_all.new.self c.write_held.new.self c.hold_all.new.events.items c.args.most
    c.in-Ok.done.items t (c.in-Ok.ensures.fits t f) (c.in-Ok.ensures.kept t f stands) (c.hold_all.ensures.any_moment t f stands) c.write_held.ensures.any_moment

pub returns-in-Err-write_held-clause-any_moment : goal.returns-in-Err-write_held-clause-any_moment
returns-in-Err-write_held-clause-any_moment g c = λ t f stands.
    written_moment g.T.Twin.seen g.T.Twin.may_leave g.T.Twin.moment g.T.Twin.left_since g.T.Twin.failures c.args.events.now.items c.args.self.now c.hold_all.new.self c.write_held.new.self c.hold_all.new.events.items c.args.most
    c.in-Ok.done.items t (c.in-Ok.ensures.fits t f) (c.in-Ok.ensures.kept t f stands) (c.hold_all.ensures.any_moment t f stands) c.write_held.ensures.any_moment
