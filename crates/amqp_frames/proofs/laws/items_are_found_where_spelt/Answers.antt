use Rattle.amqp_frames.proofs.Fronts.{more_below, wrong_stays}
use Rattle.amqp_frames.proofs.Sound.{found_sound}
use Rattle.amqp_frames.proofs.Written.{spelt_found, leads_spelt, spelt_leads}
use Rattle.amqp_frames.proofs.laws.items_are_found_where_spelt.Goals as goal

pub returns : goal.returns
returns c = record {
  found = spelt_found;
  spelt = found_sound;
  items = λ stream items rest. (leads_spelt stream items rest, spelt_leads stream items rest);
  wrong = wrong_stays;
  more = more_below;
}
