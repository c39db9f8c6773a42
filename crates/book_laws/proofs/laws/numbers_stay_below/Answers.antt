use Rattle.book_laws.proofs.Facts.{rows_rise, termini_rise}
use Rattle.book_laws.proofs.Order.{admitted_below, decided_below, forgotten_below, made_below, dropped_below}
use Rattle.book_laws.proofs.laws.numbers_stay_below.Goals as goal

pub returns-clause-admitted : goal.returns-clause-admitted
returns-clause-admitted c = admitted_below

pub returns-clause-decided : goal.returns-clause-decided
returns-clause-decided c = decided_below

pub returns-clause-forgotten : goal.returns-clause-forgotten
returns-clause-forgotten c = forgotten_below

pub returns-clause-made : goal.returns-clause-made
returns-clause-made c = made_below

pub returns-clause-dropped : goal.returns-clause-dropped
returns-clause-dropped c = dropped_below

pub returns-clause-rows_rise : goal.returns-clause-rows_rise
returns-clause-rows_rise c = rows_rise

pub returns-clause-termini_rise : goal.returns-clause-termini_rise
returns-clause-termini_rise c = termini_rise
