use Rattle.std.proofs.Common.{◌⊎◌, inl, refl, subst, [], List, ℕ}
use Rattle.disk_core.specs.DiskLaws.{widened, joined}
use Rattle.disk_core.specs.Twin.{other, Contents}
use Rattle.twin_journal.specs.Figures.{IsFilled}
use Rattle.twin_journal.specs.Holding.{TwinHolds}
use Rattle.twin_journal.proofs.Moments.{on_ok}
use Rattle.twin_journal.proofs.Renewed.{renewed_shut}
use Rattle.twin_journal.proofs.renew.write_checkpoint.Goals as goal

pub returns-in_err-shut_idle-clause-any_moment : goal.returns-in_err-shut_idle-clause-any_moment
returns-in_err-shut_idle-clause-any_moment g c stamp renewed start book bs next at is filled =
    let T = g.T.Twin in
    widened T.moment T.left_since c.args.twin.now c.shut_idle.new.twin (λ (d : Contents). TwinHolds d c.args.figures.base start bs) (λ (d : Contents). TwinHolds d c.args.figures.base start bs ⊎ TwinHolds d c.args.figures.last book [])
    (c.shut_idle.ensures.any_moment stamp start bs at) (λ d holds. inl holds)

pub returns-in_err-fill_idle-clause-any_moment : goal.returns-in_err-fill_idle-clause-any_moment
returns-in_err-fill_idle-clause-any_moment g c stamp renewed start book bs next at is filled =
    let T = g.T.Twin in
    let P = λ (d : Contents). TwinHolds d c.args.figures.base start bs in
    widened T.moment T.left_since c.args.twin.now c.fill_idle.new.twin P (λ (d : Contents). TwinHolds d c.args.figures.base start bs ⊎ TwinHolds d c.args.figures.last book [])
    (joined T.moment T.left_since c.args.twin.now c.shut_idle.new.twin c.fill_idle.new.twin P (c.shut_idle.ensures.any_moment stamp start bs at) (c.fill_idle.ensures.any_moment stamp start bs refl (c.in_ok-shut_idle.ensures.done stamp start bs at)))
    (λ d holds. inl holds)

pub returns-clause-done : goal.returns-clause-done
returns-clause-done g c =
    let T = g.T.Twin in
    on_ok c.open_idle.result
    (λ done stamp renewed start book bs next at is filled.
    let shut = c.in_ok-shut_idle.ensures.done stamp start bs at in
    done stamp renewed start book bs next (c.in_ok-fill_idle.ensures.done stamp start bs refl shut) (renewed_shut c.args.figures next renewed book is)
    (subst (λ (l : List ℕ). IsFilled l (T.seen c.fill_idle.new.twin (other c.args.figures.side))) filled (c.in_ok-fill_idle.ensures.filled stamp start bs refl shut)))
    c.open_idle.ensures.done

pub returns-clause-any_moment : goal.returns-clause-any_moment
returns-clause-any_moment g c stamp renewed start book bs next at is filled =
    let T = g.T.Twin in
    let P = λ (d : Contents). TwinHolds d c.args.figures.base start bs in
    let Q = λ (d : Contents). TwinHolds d c.args.figures.base start bs ⊎ TwinHolds d c.args.figures.last book [] in
    let shut = c.in_ok-shut_idle.ensures.done stamp start bs at in
    joined T.moment T.left_since c.args.twin.now c.fill_idle.new.twin c.open_idle.new.twin Q
    (widened T.moment T.left_since c.args.twin.now c.fill_idle.new.twin P Q
    (joined T.moment T.left_since c.args.twin.now c.shut_idle.new.twin c.fill_idle.new.twin P (c.shut_idle.ensures.any_moment stamp start bs at) (c.fill_idle.ensures.any_moment stamp start bs refl shut))
    (λ d holds. inl holds))
    (c.open_idle.ensures.any_moment stamp renewed start book bs next (c.in_ok-fill_idle.ensures.done stamp start bs refl shut) (renewed_shut c.args.figures next renewed book is)
    (subst (λ (l : List ℕ). IsFilled l (T.seen c.fill_idle.new.twin (other c.args.figures.side))) filled (c.in_ok-fill_idle.ensures.filled stamp start bs refl shut)))
