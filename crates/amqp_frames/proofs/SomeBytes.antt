-- At least one byte is written of a performative.
use Rattle.std.proofs.Common.{◌<◌, List, length, arith}
use Rattle.std.proofs.lemmas.Grind.{common_steps}
use Rattle.amqp_model.specs.declared.descriptor.Descriptor.{Descriptor}
use Rattle.amqp_model.specs.declared.descriptor.Descriptor.TheVariants as is
use Rattle.amqp_model.specs.declared.perf.Perf.{Perf}
use Rattle.amqp_model.specs.declared.perf.Perf.TheVariants as perf
use Rattle.amqp_model.specs.Texts.{FieldText, described_text}
use Rattle.amqp_model.specs.PerfSpelling.{spelling, open_texts, begin_texts, attach_texts, flow_texts, transfer_texts, disposition_texts, detach_texts, end_texts, close_texts, sasl_mechanisms_texts, sasl_init_texts, sasl_challenge_texts, sasl_response_texts, sasl_outcome_texts}

described_some : (name : Descriptor) (fs : List FieldText) → 0 < length (described_text name fs)
unfolding described_text
described_some name fs = grind (arith, common_steps)

pub spelling_some : (p : Perf) → 0 < length (spelling p)
unfolding spelling
spelling_some (perf.Open x) = described_some is.Open (open_texts x)
spelling_some (perf.Begin x) = described_some is.Begin (begin_texts x)
spelling_some (perf.Attach x) = described_some is.Attach (attach_texts x)
spelling_some (perf.Flow x) = described_some is.Flow (flow_texts x)
spelling_some (perf.Transfer x) = described_some is.Transfer (transfer_texts x)
spelling_some (perf.Disposition x) = described_some is.Disposition (disposition_texts x)
spelling_some (perf.Detach x) = described_some is.Detach (detach_texts x)
spelling_some (perf.End x) = described_some is.End (end_texts x)
spelling_some (perf.Close x) = described_some is.Close (close_texts x)
spelling_some (perf.SaslMechanisms x) = described_some is.SaslMechanisms (sasl_mechanisms_texts x)
spelling_some (perf.SaslInit x) = described_some is.SaslInit (sasl_init_texts x)
spelling_some (perf.SaslChallenge x) = described_some is.SaslChallenge (sasl_challenge_texts x)
spelling_some (perf.SaslResponse x) = described_some is.SaslResponse (sasl_response_texts x)
spelling_some (perf.SaslOutcome x) = described_some is.SaslOutcome (sasl_outcome_texts x)
