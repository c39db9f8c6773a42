-- Who passes the door (AMQP 1.0 part 5, section 5.3.2).
use Rattle.std.specs.Prelude.{◌≡◌, ℕ, true, false, ◌⊎◌, List, [], ◌∷◌, Option, Some, None, codes}
use Rattle.amqp_model.specs.declared.perf.Perf.TheVariants as perf
use Rattle.amqp_model.specs.declared.perf.SaslInit.{SaslInit}
use Rattle.amqp_model.specs.declared.item.Item.{Item}
use Rattle.amqp_model.specs.declared.item.Item.TheVariants as item
use Rattle.amqp_sasl.specs.Login.{Logins, LogsIn}
use Rattle.route_table.specs.declared.sections.Listener.{Listener}
use Rattle.route_table.specs.Settings.{Settings}
use Rattle.router_trace.specs.Frames.{header_item}
use Rattle.core_door.specs.declared.door.Door.{Door}
use Rattle.core_door.specs.Door.{Verdict, says, passes, ends, door, door_after, door_of, logins_of, sasl_header}

-- the user that a connection passes as with these items, if it passes
abbrev pub user_by : Verdict → Option (List ℕ) → Option (List ℕ)
user_by (says items) later = later
user_by (passes user) later = Some user
user_by (ends items) later = None

abbrev pub user_past : Door → List Item → Option (List ℕ)
user_past d [] = None
user_past d (i ∷ is) = user_by (door d i) (user_past (door_after d i) is)

-- it begins with the AMQP header at a listener that needs no login, and is `anonymous`
pub record ComesPlain (listener : Listener) (items : List Item) (user : List ℕ) : Type 0 where
  pub rest : List Item
  pub came : items ≡ header_item ∷ rest
  pub free : listener.authenticate_peer ≡ false
  pub named : user ≡ codes "anonymous"

-- it begins with the SASL header, then an init that proves it to be this user, then the AMQP header
pub record LoggedIn (server : Logins) (items : List Item) (user : List ℕ) : Type 0 where
  pub init : SaslInit
  pub channel : ℕ
  pub payload : List ℕ
  pub rest : List Item
  pub came : items ≡ sasl_header ∷ item.Frame true channel (perf.SaslInit init) payload ∷ header_item ∷ rest
  pub proved : LogsIn server init user

-- the users that may pass at a listener
abbrev pub MayPass : Settings → Listener → List Item → List ℕ → Type 0
MayPass config listener items user = ComesPlain listener items user ⊎ LoggedIn (logins_of config listener) items user

-- only they pass, and they all do
abbrev pub TheyAlonePass : Type 0
TheyAlonePass = (config : Settings) (listener : Listener) (items : List Item) (user : List ℕ)
    → user_past (door_of config listener) items ≡ Some user → MayPass config listener items user

abbrev pub TheyPass : Type 0
TheyPass = (config : Settings) (listener : Listener) (items : List Item) (user : List ℕ)
    → MayPass config listener items user → user_past (door_of config listener) items ≡ Some user
