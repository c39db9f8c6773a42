use Rattle.std.proofs.Common.{◌≡◌, ◌++◌, arith, rules}
use Rattle.std.proofs.lemmas.Grind.{common_steps}
use Rattle.amqp_model.specs.Data as d
use Rattle.amqp_model.specs.ValueSpelling.{spelling}
use Rattle.amqp_frames.proofs.ShortLists.{four_written}
use Rattle.amqp_frames.proofs.short_write.put_delivery.Goals as goal

pub returns-clause-written : goal.returns-clause-written
returns-clause-written c =
    let tag : c.put_tag.new.fields.items ≡ c.put_uint-2.new.fields.items ++ spelling (d.binary c.in_ok-tag.tag.now.items) = search rules in
    record {
      id = c.in_ok-id.id;
      tag = c.in_ok-tag.tag.now;
      format = c.in_ok-format.format;
      delivery_id = search rules;
      delivery_tag = search rules;
      message_format = search rules;
      mode = c.in_ok-ends_with_flags.ensures.mode;
      state = c.in_ok-ends_with_flags.ensures.state;
      resume = c.in_ok-ends_with_flags.ensures.resume;
      aborted = c.in_ok-ends_with_flags.ensures.aborted;
      batchable = c.in_ok-ends_with_flags.ensures.batchable;
      fields = four_written c.args.transfer.now c.in_ok-id.id c.in_ok-tag.tag.now c.in_ok-format.format c.args.fields.now.items c.put_uint.new.fields.items c.put_uint-2.new.fields.items
          c.put_tag.new.fields.items c.put_uint-3.new.fields.items c.requires c.put_uint.ensures.written c.put_uint-2.ensures.written tag c.put_uint-3.ensures.written;
    }

pub returns-clause-within : goal.returns-clause-within
returns-clause-within c = grind (arith, common_steps)
