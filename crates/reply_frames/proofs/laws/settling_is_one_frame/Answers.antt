use Rattle.reply_frames.proofs.Settling.{settling_len, settling_whole}
use Rattle.reply_frames.proofs.laws.settling_is_one_frame.Goals as goal

pub returns : goal.returns
returns c = record {
  size = settling_len;
  whole = settling_whole;
}
