-- The one answer that a server has to each body, as a function: it is the answer by the standard, since there is only one.
use Rattle.std.specs.Prelude.{ℕ, Bool, ◌&&◌, ◌||◌, if◌then◌else◌, nat_eq, List, [], ◌∷◌, Option, Some, None, find, codes}
use Rattle.std.specs.Str.{bytes_eq}
use Rattle.std.specs.List.{list_any, slice_split}
use Rattle.amqp_model.specs.declared.perf.Perf.{Perf}
use Rattle.amqp_model.specs.declared.perf.Perf.TheVariants as perf
use Rattle.amqp_model.specs.declared.perf.SaslInit.{SaslInit}
use Rattle.amqp_sasl.specs.declared.mechanism.Mechanism.{Mechanism}
use Rattle.amqp_sasl.specs.declared.mechanism.Mechanism.TheVariants.{Anonymous, Plain}
use Rattle.amqp_sasl.specs.declared.user.User.{User}
use Rattle.amqp_sasl.specs.declared.server.SaslAnswer.{SaslAnswer}
use Rattle.amqp_sasl.specs.declared.server.SaslAnswer.TheVariants as answer
use Rattle.amqp_sasl.specs.Names.{name_of}
use Rattle.amqp_sasl.specs.Login.{Logins}
use Rattle.amqp_sasl.specs.Answer.{outcome_of}

abbrev pub is_user : List User → List ℕ → List ℕ → Bool
is_user users name password = list_any (λ u. bytes_eq u.name name && bytes_eq u.password password) users

-- the user by the parts of a message: three parts, where the user acts as itself
abbrev pub user_by_parts : List User → List (List ℕ) → Option (List ℕ)
user_by_parts users (authorization ∷ name ∷ password ∷ []) =
    if (bytes_eq authorization [] || bytes_eq authorization name) && is_user users name password then Some name else None
user_by_parts users _ = None

-- by a message, cut at its NULs
abbrev pub user_by_message : List User → Option (List ℕ) → Option (List ℕ)
user_by_message users None = None
user_by_message users (Some message) = user_by_parts users (slice_split (λ b. nat_eq b 0) message)

abbrev pub user_by_mechanism : List User → Option (List ℕ) → Option Mechanism → Option (List ℕ)
user_by_mechanism users response (Some Anonymous) = Some (codes "anonymous")
user_by_mechanism users response (Some Plain) = user_by_message users response
user_by_mechanism users response None = None

-- by an init: the first of the mechanisms that has the name that it says
abbrev pub user_by_init : Logins → SaslInit → Option (List ℕ)
user_by_init server init =
    user_by_mechanism server.users init.initial_response (find (λ m. bytes_eq (name_of m) init.mechanism) server.mechanisms)

abbrev pub answer_to : Logins → Perf → SaslAnswer
answer_to server (perf.SaslInit init) = outcome_of (user_by_init server init)
answer_to server _ = answer.Refuse
