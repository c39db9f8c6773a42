-- A server's answers (AMQP 1.0 part 5, section 5.3.2).
use Rattle.std.specs.Prelude.{ℕ, List, Option, Some, None}
use Rattle.amqp_model.specs.declared.perf.Perf.{Perf}
use Rattle.amqp_model.specs.declared.perf.Perf.TheVariants as perf
use Rattle.amqp_model.specs.declared.perf.SaslInit.{SaslInit}
use Rattle.amqp_sasl.specs.declared.code.SaslCode.TheVariants as code
use Rattle.amqp_sasl.specs.declared.server.SaslAnswer.{SaslAnswer}
use Rattle.amqp_sasl.specs.declared.server.SaslAnswer.TheVariants as answer
use Rattle.amqp_sasl.specs.Login.{Logins, LogsIn}

-- the answer to an init: code 0 with a user that it proves the peer to be, and code 1 where it proves it to be none
abbrev pub AnswersInit : Logins → SaslInit → SaslAnswer → Type 0
AnswersInit server init (answer.Outcome code.Ok (Some name)) = LogsIn server init name
AnswersInit server init (answer.Outcome code.Auth None) = (name : List ℕ) → ¬ LogsIn server init name
AnswersInit server init _ = ⊥

abbrev pub IsRefusal : SaslAnswer → Type 0
IsRefusal answer.Refuse = Unit {0}
IsRefusal _ = ⊥

-- the answer to a performative or SASL body: an init is judged, and nothing else has an answer
abbrev pub Answers : Logins → Perf → SaslAnswer → Type 0
Answers server (perf.SaslInit init) a = AnswersInit server init a
Answers server _ a = IsRefusal a

-- the outcome where the peer is this user, or none
abbrev pub outcome_of : Option (List ℕ) → SaslAnswer
outcome_of (Some name) = answer.Outcome code.Ok (Some name)
outcome_of None = answer.Outcome code.Auth None
