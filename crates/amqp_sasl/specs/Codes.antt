-- The numbers of outcomes (AMQP 1.0 part 5, section 5.3.3.6).
use Rattle.std.specs.Prelude.{ℕ}
use Rattle.amqp_sasl.specs.declared.code.SaslCode.{SaslCode}
use Rattle.amqp_sasl.specs.declared.code.SaslCode.TheVariants as code

abbrev pub number_of : SaslCode → ℕ
number_of code.Ok = 0
number_of code.Auth = 1
number_of code.Sys = 2
number_of code.SysPerm = 3
number_of code.SysTemp = 4
number_of (code.Other n) = n
