use Rattle.reply_frames.proofs.Fullness.{frame_within, frame_begins, frame_has_most, frame_has_all}
use Rattle.reply_frames.proofs.laws.frames_are_filled.Goals as goal

pub returns : goal.returns
returns c = record {
  within = frame_within;
  beginning = frame_begins;
  most = frame_has_most;
  all = frame_has_all;
}
