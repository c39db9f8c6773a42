use Rattle.amqp_perf.proofs.FieldTexts.{joined_more, on_err, still_kept}
use Rattle.amqp_perf.proofs.text.put_fields.Goals as goal

pub loop-field-preserved : goal.loop-field-preserved
loop-field-preserved c = joined_more c.args.fields.now c.loop-field.field-index _ c.args.out.now.items c.loop-field.out.items c.put_field.new.out.items c.loop-field-test.true c.loop-field.invariant c.in_ok-put_field.ensures.ok

pub returns-in_err-put_field-clause-kept : goal.returns-in_err-put_field-clause-kept
returns-in_err-put_field-clause-kept c = on_err c.from_residual.result _ (still_kept c.args.out.now.items c.loop-field.out.items c.put_field.new.out.items _ c.loop-field.invariant c.in_err-put_field.ensures.kept)
