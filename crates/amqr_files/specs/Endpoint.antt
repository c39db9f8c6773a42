-- Where a listener listens.
use Rattle.std.specs.Prelude.{ℕ, List, Bool, [], ◌∷◌, ◌++◌, ◌≡◌, ◌≢◌, ◌==◌, ◌⊎◌, if◌then◌else◌, codes, decimal}
use Rattle.std.specs.List.{list_any}

-- a text with `[` (byte 91) before it and `]` (byte 93) after it
abbrev pub in_brackets : List ℕ → List ℕ
in_brackets text = 91 ∷ (text ++ (93 ∷ []))

-- the host that was given, in brackets or not, is this one
abbrev pub IsBare : List ℕ → List ℕ → Type 0
IsBare given host = (given ≡ in_brackets host) ⊎ ((host ≡ given) × ((inner : List ℕ) → given ≢ in_brackets inner))

-- a colon (byte 58) stands in a text: in each address of IPv6, and in no name
abbrev pub has_colon : List ℕ → Bool
has_colon text = list_any (λ byte. byte == 58) text

-- `HOST:PORT`, with an address of IPv6 in brackets
abbrev pub endpoint_text : List ℕ → ℕ → List ℕ
endpoint_text host port =
    if has_colon host then codes "[" ++ (host ++ (codes "]:" ++ decimal port))
    else host ++ (codes ":" ++ decimal port)
