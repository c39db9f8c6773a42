use Rattle.std.proofs.Common.{◌⊎◌, inl, inr, ⊎_elim, ◌++◌, [], ℕ, subst}
use Rattle.disk_core.specs.DiskLaws.{joined, started, widened}
use Rattle.disk_core.specs.Twin.{Contents}
use Rattle.twin_journal.specs.declared.figures.Figures.{Figures}
use Rattle.twin_journal.specs.Figures.{IsAt}
use Rattle.twin_journal.specs.Holding.{TwinHolds}
use Rattle.twin_journal.specs.Keeping.{left_holds}
use Rattle.twin_journal.proofs.Ahead.{ahead_is, base_is}
use Rattle.twin_journal.proofs.Keeping.{if_ok}
use Rattle.twin_journal.proofs.group.make_room.Goals as goal

pub returns-then-not-due-clause-any_moment : goal.returns-then-not-due-clause-any_moment
returns-then-not-due-clause-any_moment g c stamp start bs lists ahead leaves =
    let T = g.T.Twin in
    let twin = c.args.twin.now in
    let figures = c.args.figures in
    started T.moment T.left_since twin
    (λ (d : Contents). TwinHolds d figures.base start bs ⊎ TwinHolds d figures.base start (bs ++ lists) ⊎ TwinHolds d c.args.held.now.ahead.last c.args.book.now [])
    (λ d left. inl (left_holds d figures (T.seen twin) (T.may_leave twin) stamp start bs ahead.at (g.met.T.Twin.only_now twin d left)))

pub returns-in_err-write_group-clause-any_moment : goal.returns-in_err-write_group-clause-any_moment
returns-in_err-write_group-clause-any_moment g c stamp start bs lists ahead leaves =
    let T = g.T.Twin in
    let figures = c.args.figures in
    widened T.moment T.left_since c.args.twin.now c.write_group.new.twin
    (λ (d : Contents). TwinHolds d figures.base start bs ⊎ TwinHolds d figures.base start (bs ++ lists))
    (λ (d : Contents). TwinHolds d figures.base start bs ⊎ TwinHolds d figures.base start (bs ++ lists) ⊎ TwinHolds d c.args.held.now.ahead.last c.args.book.now [])
    (c.write_group.ensures.any_moment stamp start bs lists ahead) (λ d either. ⊎_elim (λ before. inl before) (λ all. inr (inl all)) either)

pub returns-clause-renewed : goal.returns-clause-renewed
returns-clause-renewed g c =
    let T = g.T.Twin in
    if_ok c.renew.result
    (λ new done stamp start bs lists ahead leaves due.
    done stamp start (bs ++ lists)
    (subst (λ (f : Figures). IsAt f (T.seen c.write_group.new.twin) (T.may_leave c.write_group.new.twin) stamp start (bs ++ lists)) (ahead_is c.args.figures c.args.held.now lists ahead.are_held)
    (c.in_ok-write_group.ensures.done stamp start bs lists ahead)) leaves)
    c.renew.ensures.done

pub returns-clause-any_moment : goal.returns-clause-any_moment
returns-clause-any_moment g c stamp start bs lists ahead leaves =
    let T = g.T.Twin in
    let figures = c.args.figures in
    let held = c.args.held.now in
    let P = λ (d : Contents). TwinHolds d figures.base start bs ⊎ TwinHolds d figures.base start (bs ++ lists) ⊎ TwinHolds d held.ahead.last c.args.book.now [] in
    let at = subst (λ (f : Figures). IsAt f (T.seen c.write_group.new.twin) (T.may_leave c.write_group.new.twin) stamp start (bs ++ lists)) (ahead_is figures held lists ahead.are_held)
    (c.in_ok-write_group.ensures.done stamp start bs lists ahead) in
    joined T.moment T.left_since c.args.twin.now c.write_group.new.twin c.renew.new.twin P
    (widened T.moment T.left_since c.args.twin.now c.write_group.new.twin
    (λ (d : Contents). TwinHolds d figures.base start bs ⊎ TwinHolds d figures.base start (bs ++ lists)) P
    (c.write_group.ensures.any_moment stamp start bs lists ahead) (λ d either. ⊎_elim (λ before. inl before) (λ all. inr (inl all)) either))
    (widened T.moment T.left_since c.write_group.new.twin c.renew.new.twin
    (λ (d : Contents). TwinHolds d held.ahead.base start (bs ++ lists) ⊎ TwinHolds d held.ahead.last c.args.book.now []) P
    (c.renew.ensures.any_moment stamp start (bs ++ lists) at leaves)
    (λ d either. ⊎_elim (λ all. inr (inl (subst (λ (n : ℕ). TwinHolds d n start (bs ++ lists)) (base_is figures held lists ahead.are_held) all))) (λ renewed. inr (inr renewed)) either))
