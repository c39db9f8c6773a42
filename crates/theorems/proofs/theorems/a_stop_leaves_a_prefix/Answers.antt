use Rattle.std.proofs.Common.{◌∙◌, sym}
use Rattle.disk_core.specs.DiskLaws.{widened}
use Rattle.core_runs.specs.Runs.{events_of}
use Rattle.theorems.proofs.Stops.{opens_to_book, ends_life, count_of, end_answered}
use Rattle.theorems.proofs.theorems.a_stop_leaves_a_prefix.Goals as goal

pub returns : goal.returns
returns g c = (
  c.drive.ensures.any_moment,
  λ none s. (
    c.drive.ensures.stands none s,
    λ t f.
        let w = c.drive.ensures.ran none t f
        in let stands = c.drive.ensures.stands none s
        in (w.0, w.1, opens_to_book g.T.Twin.seen g.T.Twin.may_leave c.drive.new.core w.0 w.2 stands),
  ),
  c.drive.ensures.left,
  λ life lives t way f s.
      widened g.T.Twin.moment g.T.Twin.left_since _ _ _ _ (c.drive.ensures.any_moment t f s) (ends_life _ life lives t (events_of c.args.groups.items) way),
  λ life lives t way f s contents left.
      end_answered _ life lives t (events_of c.args.groups.items) c.drive.result _ way contents
      (λ none. c.drive.ensures.all none ∙ sym (count_of c.args.groups.items))
      (λ none.
      let w = c.drive.ensures.ran none t f
      in let stands = c.drive.ensures.stands none s
      in (w.0, w.1, opens_to_book g.T.Twin.seen g.T.Twin.may_leave c.drive.new.core w.0 w.2 stands contents left))
      (λ after. after t f s contents left) c.drive.ensures.left,
)
