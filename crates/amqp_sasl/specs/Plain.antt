-- Messages of PLAIN (RFC 4616, section 2): `[authzid] NUL authcid NUL passwd`, no part having a NUL inside.
use Rattle.std.specs.Prelude.{◌≡◌, ◌≢◌, ℕ, List, ◌∷◌, ◌++◌, All}

abbrev pub NoNul : List ℕ → Type 0
NoNul bytes = All (λ b. b ≢ 0) bytes

pub record IsPlain (message authorization authentication password : List ℕ) : Type 0 where
  pub spelt : message ≡ authorization ++ 0 ∷ (authentication ++ 0 ∷ password)
  pub authorization_whole : NoNul authorization
  pub authentication_whole : NoNul authentication
  pub password_whole : NoNul password
