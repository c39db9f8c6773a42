-- The users of a server.
use Rattle.std.specs.Prelude.{◌≡◌, ◌<◌, ℕ, List, length, slice_index_or}
use Rattle.amqp_sasl.specs.declared.user.User.{User}

-- the user of this name and this password
abbrev pub user_of : List ℕ → List ℕ → User
user_of name password = record { name = name; password = password }

-- it stands at place k
abbrev pub HasUser : List User → List ℕ → List ℕ → ℕ → Type 0
HasUser users name password k = (k < length users) × (slice_index_or users k (user_of name password) ≡ user_of name password)
