use Rattle.resume_core.proofs.Plans as plans
use Rattle.resume_core.proofs.laws.each_tag_stands_once.Goals as goal

pub returns : goal.returns
returns c = record { producer = plans.producer_apart; consumer = plans.consumer_apart }
