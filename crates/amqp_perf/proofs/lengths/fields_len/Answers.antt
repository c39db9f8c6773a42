use Rattle.std.proofs.Common.{rules, ◌≡◌, ◌∙◌, ◌+◌, ◌-◌, ◌^◌, ap}
use Rattle.std.specs.Prelude.{min}
use Rattle.amqp_perf.proofs.FieldLengths.{len_more}
use Rattle.amqp_perf.proofs.lengths.fields_len.Goals as goal

pub loop-field-preserved : goal.loop-field-preserved
loop-field-preserved c =
    let sum : c.saturating_add-total.result ≡ min (c.loop-field.total + c.field_len.result) (2 ^ 64 - 1) = search rules in
    len_more c.args.fields.now c.loop-field.field-index _ c.loop-field.total c.saturating_add-total.result c.loop-field-test.true c.loop-field.invariant
    (sum ∙ ap (λ n. min (c.loop-field.total + n) (2 ^ 64 - 1)) c.field_len.ensures)
