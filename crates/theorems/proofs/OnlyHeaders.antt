-- Only a header passes the door.
use Rattle.std.proofs.Common.{◌≡◌, refl, ℕ, true, false, List}
use Rattle.std.specs.Prelude.{Some, None}
use Rattle.amqp_model.specs.declared.item.Item.{Item}
use Rattle.amqp_model.specs.declared.item.Item.TheVariants as item
use Rattle.amqp_sasl.specs.declared.code.SaslCode.TheVariants as code
use Rattle.amqp_sasl.specs.declared.server.SaslAnswer.{SaslAnswer}
use Rattle.amqp_sasl.specs.declared.server.SaslAnswer.TheVariants as sasl
use Rattle.amqp_sasl.specs.Judging.{answer_to}
use Rattle.core_door.specs.declared.door.Door.{Door}
use Rattle.core_door.specs.declared.door.Stage.{Stage}
use Rattle.core_door.specs.declared.door.Stage.TheVariants as stage
use Rattle.core_door.specs.Door.{passes, door, told, turn_at}
use Rattle.theorems.specs.Order.{is_header}

-- no outcome passes the door
no_outcome : (a : SaslAnswer) (user : List ℕ) → (told a).verdict ≡ passes user → ⊥
no_outcome (sasl.Outcome code.Ok (Some name)) user e = absurd cc
no_outcome (sasl.Outcome code.Ok None) user e = absurd cc
no_outcome (sasl.Outcome code.Auth name) user e = absurd cc
no_outcome (sasl.Outcome code.Sys name) user e = absurd cc
no_outcome (sasl.Outcome code.SysPerm name) user e = absurd cc
no_outcome (sasl.Outcome code.SysTemp name) user e = absurd cc
no_outcome (sasl.Outcome (code.Other n) name) user e = absurd cc
no_outcome sasl.Refuse user e = absurd cc

-- only a header does
turn_header : (d : Door) (g : Stage) (i : Item) (user : List ℕ) → (turn_at d g i).verdict ≡ passes user → is_header i ≡ true
turn_header d g (item.Header a b c r) user e = refl
turn_header d stage.Init (item.Frame true channel body payload) user e = absurd (no_outcome (answer_to d.server body) user e)
turn_header d stage.Init (item.Frame false channel body payload) user e = absurd cc
turn_header d stage.Header (item.Frame type channel body payload) user e = absurd cc
turn_header d (stage.LoggedIn name) (item.Frame type channel body payload) user e = absurd cc
turn_header d stage.Done (item.Frame type channel body payload) user e = absurd cc
turn_header d stage.Header (item.Beat channel) user e = absurd cc
turn_header d stage.Init (item.Beat channel) user e = absurd cc
turn_header d (stage.LoggedIn name) (item.Beat channel) user e = absurd cc
turn_header d stage.Done (item.Beat channel) user e = absurd cc
turn_header d stage.Header (item.Bad f) user e = absurd cc
turn_header d stage.Init (item.Bad f) user e = absurd cc
turn_header d (stage.LoggedIn name) (item.Bad f) user e = absurd cc
turn_header d stage.Done (item.Bad f) user e = absurd cc

pub door_header : (d : Door) (i : Item) (user : List ℕ) → door d i ≡ passes user → is_header i ≡ true
door_header d i user e = turn_header d d.stage i user e
