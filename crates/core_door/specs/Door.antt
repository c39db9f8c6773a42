-- Headers and logins before a connection is up (AMQP 1.0 part 2, section 2.2, and part 5, section 5.3).
use Rattle.std.specs.Prelude.{ℕ, Bool, true, ◌==◌, ◌&&◌, if◌then◌else◌, List, [], ◌∷◌, Some, None, map, codes}
use Rattle.amqp_model.specs.declared.perf.Perf.{Perf}
use Rattle.amqp_model.specs.declared.perf.Perf.TheVariants as perf
use Rattle.amqp_model.specs.declared.item.Item.{Item}
use Rattle.amqp_model.specs.declared.item.Item.TheVariants as item
use Rattle.amqp_sasl.specs.declared.code.SaslCode.{SaslCode}
use Rattle.amqp_sasl.specs.declared.code.SaslCode.TheVariants as code
use Rattle.amqp_sasl.specs.declared.mechanism.Mechanism.{Mechanism}
use Rattle.amqp_sasl.specs.declared.mechanism.Mechanism.TheVariants as mechanism
use Rattle.amqp_sasl.specs.declared.server.SaslAnswer.{SaslAnswer}
use Rattle.amqp_sasl.specs.declared.server.SaslAnswer.TheVariants as sasl
use Rattle.amqp_sasl.specs.declared.user.User.{User}
use Rattle.amqp_sasl.specs.Codes.{number_of}
use Rattle.amqp_sasl.specs.Names.{name_of}
use Rattle.amqp_sasl.specs.Judging.{answer_to}
use Rattle.amqp_sasl.specs.Login.{Logins}
use Rattle.route_table.specs.declared.sections.Listener.{Listener}
use Rattle.route_table.specs.declared.sections.Mechanism.{Mechanism as Word}
use Rattle.route_table.specs.declared.sections.Mechanism.TheVariants as word
use Rattle.route_table.specs.declared.sections.Role.{Role}
use Rattle.route_table.specs.declared.sections.Role.TheVariants as role
use Rattle.route_table.specs.declared.sections.User.{User as Known}
use Rattle.route_table.specs.Settings.{Settings}
use Rattle.router_trace.specs.declared.event.PeerRole.{PeerRole}
use Rattle.router_trace.specs.declared.event.PeerRole.TheVariants as peer
use Rattle.router_trace.specs.Frames.{header_item}
use Rattle.core_door.specs.declared.door.Door.{Door}
use Rattle.core_door.specs.declared.door.DoorAnswer.{DoorAnswer}
use Rattle.core_door.specs.declared.door.DoorAnswer.TheVariants as answer
use Rattle.core_door.specs.declared.door.Protocol.{Protocol}
use Rattle.core_door.specs.declared.door.Protocol.TheVariants.{Amqp, Sasl, Other}
use Rattle.core_door.specs.declared.door.Stage.{Stage}
use Rattle.core_door.specs.declared.door.Stage.TheVariants as stage
use Rattle.core_door.specs.declared.door.Answered.{Answered}

-- the door's answer to an item: these items are sent and the next one is awaited; the connection is up, with this user,
-- and the item goes on to the router; or these items are sent and the connection is over
pub data Verdict : Type 0 where
  says : List Item → Verdict
  passes : List ℕ → Verdict
  ends : List Item → Verdict

-- an item's verdict, and the connection's stage after it
pub record Turn : Type 0 where
  pub verdict : Verdict
  pub stage : Stage

abbrev pub goes_on : List Item → Stage → Turn
goes_on items next = record { verdict = says items; stage = next }

abbrev pub lets_in : List ℕ → Turn
lets_in user = record { verdict = passes user; stage = stage.Done }

abbrev pub over : List Item → Turn
over items = record { verdict = ends items; stage = stage.Done }

-- the protocol header of SASL 1.0.0
abbrev pub sasl_header : Item
sasl_header = item.Header 3 1 0 0

-- a SASL frame
abbrev pub sasl_frame : Perf → Item
sasl_frame body = item.Frame true 0 body []

-- the mechanisms, in order
abbrev pub offer : List Mechanism → Item
offer mechanisms = sasl_frame (perf.SaslMechanisms (record { mechanisms = map name_of mechanisms }))

-- the outcome of a login
abbrev pub outcome : SaslCode → Item
outcome c = sasl_frame (perf.SaslOutcome (record { code = number_of c; additional_data = None }))

-- what a header asks for
abbrev pub protocol_of : ℕ → ℕ → ℕ → ℕ → Protocol
protocol_of id major minor revision =
    if major == 1 && minor == 0 && revision == 0 then (if id == 0 then Amqp else if id == 3 then Sasl else Other) else Other

-- the first header, whether a peer has to pass SASL or not: a SASL header is answered by the same and the mechanisms; any other
-- ends the connection if the peer has to, and is answered by the header that is required; else the AMQP header passes
abbrev pub refused_by : Bool → Item
refused_by authenticate = if authenticate then sasl_header else header_item

abbrev pub first : Door → Protocol → Turn
first d Sasl = goes_on (sasl_header ∷ offer d.server.mechanisms ∷ []) stage.Init
first d Amqp = if d.authenticate_peer then over (sasl_header ∷ []) else lets_in (codes "anonymous")
first d Other = over (refused_by d.authenticate_peer ∷ [])

-- the answer to a SASL body: the outcome is sent, and only after code 0 does the connection go on
abbrev pub told : SaslAnswer → Turn
told (sasl.Outcome code.Ok (Some user)) = goes_on (outcome code.Ok ∷ []) (stage.LoggedIn user)
told (sasl.Outcome c _) = over (outcome c ∷ [])
told sasl.Refuse = over []

-- the header after an outcome of code 0
abbrev pub last : List ℕ → Protocol → Turn
last user Amqp = lets_in user
last user _ = over []

-- an item, by the connection's stage
abbrev pub turn_at : Door → Stage → Item → Turn
turn_at d stage.Header (item.Header id major minor revision) = first d (protocol_of id major minor revision)
turn_at d stage.Init (item.Frame true channel body payload) = told (answer_to d.server body)
turn_at d (stage.LoggedIn user) (item.Header id major minor revision) = last user (protocol_of id major minor revision)
turn_at d _ _ = over []

abbrev pub turn : Door → Item → Turn
turn d i = turn_at d d.stage i

-- the verdict, and the door after it
abbrev pub door : Door → Item → Verdict
door d i = (turn d i).verdict

abbrev pub door_after : Door → Item → Door
door_after d i = record d { stage = (turn d i).stage }

-- an answer, by its content
abbrev pub verdict_of : DoorAnswer → Verdict
verdict_of (answer.Say items) = says items.items
verdict_of (answer.Pass user) = passes user
verdict_of (answer.End items) = ends items.items

abbrev pub turn_of : Answered → Turn
turn_of a = record { verdict = verdict_of a.answer; stage = a.stage }

-- the door of a new connection at a listener

abbrev pub user_of : Known → User
user_of u = record { name = u.name; password = u.password }

abbrev pub mechanism_of : Word → Mechanism
mechanism_of word.Anonymous = mechanism.Anonymous
mechanism_of word.Plain = mechanism.Plain

abbrev pub role_of : Role → PeerRole
role_of role.Normal = peer.Normal
role_of role.RouteContainer = peer.RouteContainer

abbrev pub logins_of : Settings → Listener → Logins
logins_of config listener = record { users = map user_of config.users; mechanisms = map mechanism_of listener.mechanisms }

abbrev pub door_of : Settings → Listener → Door
door_of config listener = record {
  server = logins_of config listener;
  authenticate_peer = listener.authenticate_peer;
  role = role_of listener.role;
  stage = stage.Header;
}
