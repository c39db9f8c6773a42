use Rattle.std.proofs.Common.{◌≡◌, rules}
use Rattle.std.specs.Prelude.{Some}
use Rattle.reply_rows.specs.declared.attach.resuming.Resumption.TheVariants.{Consumer, Producer}
use Rattle.router_reply.proofs.resuming.take_up.Goals as goal

pub returns-in-Some-Consumer : goal.returns-in-Some-Consumer
returns-in-Some-Consumer c =
    let is : c.args.resumption ≡ Some (Consumer c.in-Some-Consumer.taken) = search rules in
    rw is c.take_up_rows.ensures

pub returns-in-Some-Producer : goal.returns-in-Some-Producer
returns-in-Some-Producer c =
    let is : c.args.resumption ≡ Some (Producer c.in-Some-Producer.taken) = search rules in
    rw is c.hold_up.ensures
