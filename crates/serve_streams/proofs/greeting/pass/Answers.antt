use Rattle.std.proofs.Common.{◌≡◌, ◌∙◌, sym, ap, ℕ, ◌+◌, drop}
use Rattle.core_door.specs.Door.{passes, ends, says, door, verdict_of}
use Rattle.serve_streams.specs.Greeting.{passed}
use Rattle.serve_streams.proofs.Doors.{asks_on, asks_pass, asks_end, asks_all}
use Rattle.serve_streams.proofs.greeting.pass.Goals as goal

pub loop-item-preserved : goal.loop-item-preserved
loop-item-preserved c =
    let verdict : says c.in-Say.more.items ≡ door c.loop-item.door c.item-item.result = sym (ap verdict_of c.in-Say.is) ∙ c.in_ok-told.ensures.answer in (
      ap (λ (n : ℕ). n + 1) c.loop-item.invariant.0,
      asks_on c.args.door.now c.args.items.now c.args.said.now.items c.loop-item.door c.step.new.self c.loop-item.said.items c.add.new.said.items c.in-Say.more.items
          c.loop-item.item-index c.item-item.result c.loop-item-test.true c.item-item.is verdict c.in_ok-told.ensures.stage c.in_ok-add-in-Say.ensures c.loop-item.invariant.1,
    )

pub returns-in-Pass : goal.returns-in-Pass
returns-in-Pass c =
    let verdict : passes c.in-Pass.user ≡ door c.loop-item.door c.item-item.result = sym (ap verdict_of c.in-Pass.is) ∙ c.in_ok-told.ensures.answer in
    let t = asks_pass c.args.door.now c.args.items.now c.args.said.now.items c.loop-item.door c.step.new.self c.loop-item.said.items c.in-Pass.user
    c.loop-item.item-index c.item-item.result c.loop-item-test.true c.item-item.is verdict c.loop-item.invariant.1 in record {
      answers = t.0;
      answered = ap (λ (n : ℕ). passed c.in-Pass.user (drop n c.args.items.now)) c.loop-item.invariant.0 ∙ t.1;
      stage = t.2;
    }

pub returns-in-End : goal.returns-in-End
returns-in-End c =
    let verdict : ends c.in-End.last.items ≡ door c.loop-item.door c.item-item.result = sym (ap verdict_of c.in-End.is) ∙ c.in_ok-told.ensures.answer in
    let t = asks_end c.args.door.now c.args.items.now c.args.said.now.items c.loop-item.door c.step.new.self c.loop-item.said.items c.add-in-End.new.said.items c.in-End.last.items
    c.loop-item.item-index c.item-item.result c.loop-item-test.true c.item-item.is verdict c.in_ok-add-in-End.ensures c.loop-item.invariant.1 in record {
      answers = t.0;
      answered = t.1;
      stage = t.2;
    }

pub returns : goal.returns
returns c =
    let t = asks_all c.args.door.now c.args.items.now c.args.said.now.items c.loop-item.door c.loop-item.said.items c.loop-item.item-index c.loop-item-test.false c.loop-item.invariant.1 in record {
      answers = t.0;
      answered = t.1;
      stage = t.2;
    }
