-- What stands between brackets.
use Rattle.std.proofs.Common.{◌≡◌, ◌≢◌, ◌∙◌, sym, ap, ℕ, List, ◌∷◌, ◌++◌, [], drop, Bor}
use Rattle.std.specs.Prelude.{Option, Some, None, MatchOption}
use Rattle.amqr_files.specs.Endpoint.{in_brackets}

-- a text that begins with `[` stands in brackets exactly if the rest ends with `]`
pub between : (text rest : List ℕ) (r : Option (Bor (List ℕ))) → text ≡ 91 ∷ rest
    → MatchOption r ((front : List ℕ) → rest ≢ front ++ (93 ∷ [])) (λ x. rest ≡ x.now ++ (93 ∷ []))
    → MatchOption r ((inner : List ℕ) → text ≢ in_brackets inner) (λ inner. text ≡ in_brackets inner.now)
between text rest None e h = λ inner q. h inner (ap (λ l. drop 1 l) (sym e ∙ q))
between text rest (Some x) e h = e ∙ ap (λ l. 91 ∷ l) h
