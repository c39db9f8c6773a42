use Rattle.std.proofs.Common.{◌≡◌, ◌∙◌, refl, sym, ap, inl}
use Rattle.std.specs.Prelude.{None, Some, option_map}
use Rattle.route_credit.specs.declared.ids.ConsumerId.{ConsumerId}
use Rattle.router_trace.specs.Configuration.{distribution}
use Rattle.router_trace.specs.Links.{attachments}
use Rattle.state_pools.specs.Fits.{chosen_at}
use Rattle.state_messages.specs.Figures.{figure}
use Rattle.state_messages.specs.Messages.{last_after, last_chosen}
use Rattle.state_messages.proofs.Chosen.{Chooses, chooses_none, chooses_some, none_last}
use Rattle.state_messages.proofs.Known.{exchanged}
use Rattle.state_messages.proofs.Seen.{are_numbered}
use Rattle.state_messages.proofs.granting.choose_of.Goals as goal

pub returns-in-None-clause-chosen : goal.returns-in-None-clause-chosen
returns-in-None-clause-chosen c = λ t address fit is none old.
    let ids : option_map (λ (k : ConsumerId). k.0) c.choose.result ≡ None = ap (option_map (λ (k : ConsumerId). k.0)) c.in-None.is in
    chooses_none t address (sym ids ∙ c.choose.ensures.chosen (distribution t) (figure t) (figure t) (last_chosen t) (attachments t) address old none (are_numbered t) is)

pub returns-in-None-clause-fits : goal.returns-in-None-clause-fits
returns-in-None-clause-fits c = λ t address fit is none old.
    let ids : option_map (λ (k : ConsumerId). k.0) c.choose.result ≡ None = ap (option_map (λ (k : ConsumerId). k.0)) c.in-None.is in
    exchanged c.choose.new.self (distribution t) (distribution t) (figure t) (figure t) (figure t) (figure t) (chosen_at address (option_map (λ (k : ConsumerId). k.0) c.choose.result) (last_chosen t)) (last_after t None)
    (λ a. refl) (λ n. refl) (λ n a e. inl e) (λ a. none_last t address a ∙ ap (λ v. chosen_at address v (last_chosen t) a) (sym ids)) (c.choose.ensures.fits (distribution t) (figure t) (last_chosen t) address old none is)

pub returns-in-Some-clause-chosen : goal.returns-in-Some-clause-chosen
returns-in-Some-clause-chosen c = λ t address fit is none old.
    let ids : option_map (λ (k : ConsumerId). k.0) c.choose.result ≡ Some c.in-Some.chosen.0 = ap (option_map (λ (k : ConsumerId). k.0)) c.in-Some.is in
    (chooses_some t address c.in-Some.chosen.0 c.place_of.result (sym ids ∙ c.choose.ensures.chosen (distribution t) (figure t) (figure t) (last_chosen t) (attachments t) address old none (are_numbered t) is)
    (c.place_of.ensures t fit)).chosen

pub returns-in-Some-clause-fits : goal.returns-in-Some-clause-fits
returns-in-Some-clause-fits c = λ t address fit is none old.
    let ids : option_map (λ (k : ConsumerId). k.0) c.choose.result ≡ Some c.in-Some.chosen.0 = ap (option_map (λ (k : ConsumerId). k.0)) c.in-Some.is in
    let chosen : Chooses t address c.in-Some.chosen.0 c.place_of.result =
    chooses_some t address c.in-Some.chosen.0 c.place_of.result (sym ids ∙ c.choose.ensures.chosen (distribution t) (figure t) (figure t) (last_chosen t) (attachments t) address old none (are_numbered t) is) (c.place_of.ensures t fit) in
    exchanged c.choose.new.self (distribution t) (distribution t) (figure t) (figure t) (figure t) (figure t) (chosen_at address (option_map (λ (k : ConsumerId). k.0) c.choose.result) (last_chosen t)) (last_after t c.place_of.result)
    (λ a. refl) (λ n. refl) (λ n a e. inl e) (λ a. chosen.noted a ∙ ap (λ v. chosen_at address v (last_chosen t) a) (sym ids)) (c.choose.ensures.fits (distribution t) (figure t) (last_chosen t) address old none is)
