use Rattle.std.proofs.Common.{◌∙◌, ap, sym}
use Rattle.state_deliveries.specs.Indexing.{concerns}
use Rattle.state_deliveries.proofs.index.Index.append_concerned.Goals as goal

pub returns-in_ok-append_ids-in-Untold : goal.returns-in_ok-append_ids-in-Untold
returns-in_ok-append_ids-in-Untold c = λ known fit n there.
    c.in_ok-append_ids-in-Untold.ensures.found (λ m. (known m).producer.by_id) fit.by_id n (ap (λ x. concerns x (known n)) (sym c.in-Untold.is) ∙ there)

pub returns-in_ok-append_ids-in-Told : goal.returns-in_ok-append_ids-in-Told
returns-in_ok-append_ids-in-Told c = λ known fit n there.
    c.in_ok-append_ids-in-Told.ensures.found (λ m. (known m).producer.by_id) fit.by_id n (ap (λ x. concerns x (known n)) (sym c.in-Told.is) ∙ there)
