use Rattle.std.proofs.Common.{◌≡◌, ◌-◌, ◌^◌, length, take}
use Rattle.std.specs.Prelude.{min}
use Rattle.amqp_model.specs.Texts.{joined}
use Rattle.amqp_perf.specs.TextViews.{fields_view}
use Rattle.amqp_perf.proofs.lengths.fields_len.Given as goal

abbrev pub invariant-loop-field : goal.invariant-loop-field
invariant-loop-field l = l.total ≡ min (length (joined (fields_view (take l.field-index l.fields)))) (2 ^ 64 - 1)
