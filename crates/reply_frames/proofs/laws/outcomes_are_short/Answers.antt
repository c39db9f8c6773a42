use Rattle.reply_frames.proofs.Short.{kept_len, outcome_frame_len}
use Rattle.reply_frames.proofs.laws.outcomes_are_short.Goals as goal

pub returns : goal.returns
returns c = record {
  kept = kept_len;
  told = outcome_frame_len;
}
