-- Which user a peer's first message proves it to be (AMQP 1.0 part 5, section 5.3.3.2; RFC 4505; RFC 4616).
use Rattle.std.specs.Prelude.{◌≡◌, ℕ, ◌⊎◌, List, [], Option, Some, None, Contains, codes}
use Rattle.amqp_model.specs.declared.perf.SaslInit.{SaslInit}
use Rattle.amqp_sasl.specs.declared.mechanism.Mechanism.{Mechanism}
use Rattle.amqp_sasl.specs.declared.mechanism.Mechanism.TheVariants.{Anonymous, Plain}
use Rattle.amqp_sasl.specs.declared.user.User.{User}
use Rattle.amqp_sasl.specs.Names.{name_of}
use Rattle.amqp_sasl.specs.Users.{user_of}
use Rattle.amqp_sasl.specs.Plain.{IsPlain}

-- what a server knows: its users, and the mechanisms that it offers, in order
pub record Logins : Type 0 where
  pub users : List User
  pub mechanisms : List Mechanism

-- the init takes this mechanism, and the server offers it
abbrev pub Takes : Logins → SaslInit → Mechanism → Type 0
Takes server init m = Contains server.mechanisms m × (init.mechanism ≡ name_of m)

-- a message of PLAIN with the name and the password of a user, who acts as itself
pub record IsPlainLogin (users : List User) (message name : List ℕ) : Type 0 where
  pub authorization : List ℕ
  pub password : List ℕ
  pub read : IsPlain message authorization name password
  pub as_itself : (authorization ≡ []) ⊎ (authorization ≡ name)
  pub known : Contains users (user_of name password)

-- the first message, if there is one, is such a message
abbrev pub LogsInPlain : List User → Option (List ℕ) → List ℕ → Type 0
LogsInPlain users None name = ⊥
LogsInPlain users (Some message) name = IsPlainLogin users message name

-- an init proves the peer to be this user: `anonymous` by ANONYMOUS, whatever it says, and one of the users by PLAIN
abbrev pub LogsIn : Logins → SaslInit → List ℕ → Type 0
LogsIn server init name = (Takes server init Anonymous × (name ≡ codes "anonymous"))
    ⊎ (Takes server init Plain × LogsInPlain server.users init.initial_response name)
