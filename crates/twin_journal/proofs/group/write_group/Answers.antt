use Rattle.std.proofs.Common.{◌≡◌, ◌⊎◌, inl, ◌++◌, true, false, sym, subst, ◌∙◌}
use Rattle.disk_core.specs.DiskLaws.{started}
use Rattle.disk_core.specs.Twin.{Contents}
use Rattle.twin_journal.specs.declared.figures.Figures.{Figures}
use Rattle.twin_journal.specs.Figures.{IsAt}
use Rattle.twin_journal.specs.Holding.{TwinHolds}
use Rattle.twin_journal.specs.Keeping.{left_holds}
use Rattle.twin_journal.proofs.Ahead.{filled, none_written}
use Rattle.twin_journal.proofs.Moments.{on_ok}
use Rattle.twin_journal.proofs.group.write_group.Goals as goal

pub returns-then-is_empty-clause-done : goal.returns-then-is_empty-clause-done
returns-then-is_empty-clause-done g c stamp start bs lists ahead =
    let T = g.T.Twin in
    none_written c.args.figures c.args.held.now (T.seen c.args.twin.now) (T.may_leave c.args.twin.now) stamp start bs lists ahead ((c.is_empty.ensures.told c.args.figures lists ahead.are_held).0 c.if-is_empty.true)

pub returns-then-is_empty-clause-any_moment : goal.returns-then-is_empty-clause-any_moment
returns-then-is_empty-clause-any_moment g c stamp start bs lists ahead =
    let T = g.T.Twin in
    let twin = c.args.twin.now in
    started T.moment T.left_since twin (λ (d : Contents). TwinHolds d c.args.figures.base start bs ⊎ TwinHolds d c.args.figures.base start (bs ++ lists))
    (λ d left. inl (left_holds d c.args.figures (T.seen twin) (T.may_leave twin) stamp start bs ahead.at (g.met.T.Twin.only_now twin d left)))

pub returns-clause-done : goal.returns-clause-done
returns-clause-done g c =
    let T = g.T.Twin in
    on_ok c.store.result
    (λ done stamp start bs lists ahead.
    let fill = c.fill.ensures c.args.figures lists ahead.are_held (λ none. absurd (let bad : true ≡ false = sym ((c.is_empty.ensures.told c.args.figures lists ahead.are_held).1 none) ∙ c.if-is_empty.false in cc)) in
    subst (λ (f : Figures). IsAt f (T.seen c.store.new.twin) (T.may_leave c.store.new.twin) stamp start (bs ++ lists))
    (filled c.args.figures c.args.held.now lists ahead.are_held c.fill.result.now fill) (done stamp start bs lists ahead.at fill ahead.apply))
    c.store.ensures.done

pub returns-clause-any_moment : goal.returns-clause-any_moment
returns-clause-any_moment g c stamp start bs lists ahead =
    let fill = c.fill.ensures c.args.figures lists ahead.are_held (λ none. absurd (let bad : true ≡ false = sym ((c.is_empty.ensures.told c.args.figures lists ahead.are_held).1 none) ∙ c.if-is_empty.false in cc)) in
    c.store.ensures.any_moment stamp start bs lists ahead.at fill ahead.apply

pub returns-clause-still : goal.returns-clause-still
returns-clause-still g c none = absurd (let bad : true ≡ false = sym (c.is_empty.ensures.bytes none) ∙ c.if-is_empty.false in cc)
