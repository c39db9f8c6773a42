-- The registered names of mechanisms (RFC 4505, RFC 4616).
use Rattle.std.specs.Prelude.{ℕ, List, codes}
use Rattle.amqp_sasl.specs.declared.mechanism.Mechanism.{Mechanism}
use Rattle.amqp_sasl.specs.declared.mechanism.Mechanism.TheVariants.{Anonymous, Plain}

abbrev pub name_of : Mechanism → List ℕ
name_of Anonymous = codes "ANONYMOUS"
name_of Plain = codes "PLAIN"
