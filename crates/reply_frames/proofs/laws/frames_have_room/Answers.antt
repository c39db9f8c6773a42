use Rattle.std.proofs.Common.{refl}
use Rattle.router_trace.specs.DeliveryFrames.{first_transfer, later_transfer}
use Rattle.reply_frames.specs.Resumption.{beside_of}
use Rattle.reply_frames.proofs.Fullness.{frame_carries}
use Rattle.reply_frames.proofs.Small.{first_frame_len, later_frame_len}
use Rattle.reply_frames.proofs.laws.frames_have_room.Goals as goal

pub returns : goal.returns
returns c = record {
  first = λ largest own handle id d rest open_yet. frame_carries largest own (beside_of d) (first_transfer handle id d) rest refl (λ payload. first_frame_len own handle id d payload open_yet);
  later = λ largest own handle d rest. frame_carries largest own 24 (later_transfer handle d) rest refl (later_frame_len own handle d);
  first_size = first_frame_len;
  later_size = later_frame_len;
}
