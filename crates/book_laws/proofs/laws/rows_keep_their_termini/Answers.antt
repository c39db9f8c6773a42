use Rattle.book_laws.proofs.Facts.{producer_stands, consumer_stands}
use Rattle.book_laws.proofs.laws.rows_keep_their_termini.Goals as goal

pub returns-clause-producer : goal.returns-clause-producer
returns-clause-producer c = producer_stands

pub returns-clause-consumer : goal.returns-clause-consumer
returns-clause-consumer c = consumer_stands
