use Rattle.std.proofs.Common.{refl}
use Rattle.route_links.proofs.Fitted.{fits_not_come, on_err}
use Rattle.route_links.proofs.ids.Ids.start.Goals as goal

pub returns-in_err-add-in-Some-clause-err : goal.returns-in_err-add-in-Some-clause-err
returns-in_err-add-in-Some-clause-err c =
    let told = c.in_err-add-in-Some.ensures in
    on_err c.from_residual.result (λ h fit. fits_not_come c.args.self.now _ h refl refl refl told.deliveries_err told.numbers_err (λ q. refl) fit)
