use Rattle.std.proofs.Common.{[], refl}
use Rattle.amqp_frames.proofs.Steps.{front_nothing}
use Rattle.amqp_frames.proofs.Streams.{feeds_cut, has_one_cut}
use Rattle.amqp_frames.proofs.laws.streams_have_one_cut.Goals as goal

pub returns : goal.returns
returns c = record {
  one = has_one_cut;
  any = λ pieces items ended rest fed. feeds_cut pieces [] [] [] items ended rest refl (front_nothing [] refl) fed;
}
