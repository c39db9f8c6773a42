use Rattle.std.proofs.Common.{◌≡◌, ◌++◌, take}
use Rattle.amqp_model.specs.Texts.{joined}
use Rattle.amqp_perf.specs.TextViews.{fields_view}
use Rattle.amqp_perf.proofs.text.put_fields.Given as goal

abbrev pub invariant-loop-field : goal.invariant-loop-field
invariant-loop-field l = l.out.items ≡ l.fn.out.items ++ joined (fields_view (take l.field-index l.fields))
