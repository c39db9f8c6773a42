use Rattle.book_laws.proofs.Facts.{producer_made, consumer_made}
use Rattle.book_laws.proofs.laws.an_admission_has_its_termini.Goals as goal

pub returns-clause-producer : goal.returns-clause-producer
returns-clause-producer c = producer_made

pub returns-clause-consumer : goal.returns-clause-consumer
returns-clause-consumer c = consumer_made
