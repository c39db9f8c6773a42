use Rattle.amqp_perf.proofs.FieldTexts.{kept_on, still_kept}
use Rattle.std.proofs.lemmas.Result.{on_err_weaker}
use Rattle.amqp_perf.proofs.text.put_parts.Goals as goal

pub returns-clause-kept : goal.returns-clause-kept
returns-clause-kept c =
    on_err_weaker c.put_fields.result
    (λ kept. kept_on c.args.out.now.items c.put_list_head.new.out.items c.put_fields.new.out.items
    (still_kept c.args.out.now.items c.extend_from_slice.new.self.items c.put_list_head.new.out.items _ c.in_ok-extend_from_slice.ensures.items c.in_ok-put_list_head.ensures.begun)
    kept)
    c.put_fields.ensures.kept
