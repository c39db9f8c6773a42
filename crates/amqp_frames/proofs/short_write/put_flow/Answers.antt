use Rattle.std.proofs.Common.{arith, rules}
use Rattle.std.proofs.lemmas.Grind.{common_steps}
use Rattle.amqp_frames.proofs.ShortLists.{flow_is}
use Rattle.amqp_frames.proofs.short_write.put_flow.Goals as goal

pub returns : goal.returns
returns c =
    flow_is c.args.flow.now c.in_ok-credit.credit c.args.fields.now.items c.put_optional.new.fields.items c.put_uint.new.fields.items c.put_uint-2.new.fields.items c.put_uint-3.new.fields.items
    c.put_optional-2.new.fields.items c.put_optional-3.new.fields.items c.put_uint-4.new.fields.items
    (record {
      link_credit = search rules;
      available = c.in_ok-ends_with_credit.ensures.available;
      drain = c.in_ok-ends_with_credit.ensures.drain;
      echo = c.in_ok-ends_with_credit.ensures.echo;
      properties = c.in_ok-ends_with_credit.ensures.properties;
    }) c.requires c.put_optional.ensures.written c.put_uint.ensures.written c.put_uint-2.ensures.written c.put_uint-3.ensures.written c.put_optional-2.ensures.written c.put_optional-3.ensures.written
    c.put_uint-4.ensures.written (grind (arith, common_steps))
