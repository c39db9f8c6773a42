-- A leg on which nothing is held.
use Rattle.std.proofs.Common.{◌≡◌, ◌∙◌, refl, sym, ap, List, [], ◌∷◌, ◌++◌, length, Option, None, arith}
use Rattle.std.specs.Prelude.{option_to_list}
use Rattle.route_links.specs.declared.allowed.Allowed.{Allowed}
use Rattle.route_links.specs.declared.allowed.Stop.TheVariants as stop
use Rattle.route_links.specs.declared.allowed.Turn.TheVariants.{Stopped}
use Rattle.route_links.specs.declared.passing.Passing.{Passing}
use Rattle.route_links.specs.Legs.{Held}
use Rattle.route_links.specs.Turns.{turn, turn_of, behind, behind_of}

pub no_items : (fs : List Passing) → length fs ≡ 0 → fs ≡ []
no_items [] h = refl
no_items (f ∷ fs) h = absurd (omega arith)

pub empty_turn : (a : Allowed) (leg : Held) → leg.queue ≡ [] → Stopped stop.Empty ≡ turn a leg
empty_turn a leg h = ap (turn_of a leg) (sym h)

pub empty_behind : (a : Allowed) (leg : Held) (first : Option Passing) (others : List Passing) (inside : Held) → inside ≡ leg → leg.queue ≡ [] → first ≡ None → others ≡ [] → record inside { queue = option_to_list first ++ others } ≡ behind a leg
empty_behind a leg first others inside same nothing none empty =
    ap (λ (o : Option Passing). record inside { queue = option_to_list o ++ others }) none
    ∙ (ap (λ (fs : List Passing). record inside { queue = fs }) empty
    ∙ (ap (λ (l : Held). record l { queue = [] }) same
    ∙ (ap (λ (fs : List Passing). record leg { queue = fs }) (sym nothing)
    ∙ ap (behind_of a leg) (sym nothing))))
