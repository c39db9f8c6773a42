use Rattle.std.proofs.Common.{◌≡◌, map, take}
use Rattle.amqp_sasl.specs.Names.{name_of}
use Rattle.amqp_sasl.proofs.mechanism.offer.Given as goal

abbrev pub invariant-loop-mechanism : goal.invariant-loop-mechanism
invariant-loop-mechanism l = l.names.items ≡ map name_of (take l.mechanism-index l.mechanisms)
