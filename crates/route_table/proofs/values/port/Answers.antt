use Rattle.std.proofs.Common.{sym, ◌∙◌}
use Rattle.route_table.proofs.Numbers.{not_digit, too_large, number_grows, zero_port, whole_port}
use Rattle.route_table.proofs.values.port.Goals as goal

pub returns-then-not-is_ascii_digit : goal.returns-then-not-is_ascii_digit
returns-then-not-is_ascii_digit c =
    let below = rw c.as_bytes-byte-items.ensures.value at c.loop-byte-test.true in
    let test = rw c.as_bytes-byte-items.ensures.value at (sym c.is_ascii_digit.ensures.value ∙ c.if-not-is_ascii_digit.true) in
    not_digit c.args.value.now c.loop-byte.byte-index below test c.loop-byte.invariant.digits

pub returns-then-number-ge65536 : goal.returns-then-number-ge65536
returns-then-number-ge65536 c =
    too_large c.args.value.now (number_grows c.args.value.now c.as_bytes-byte-items.result.now c.loop-byte.byte-index c.loop-byte.number 65536 c.as_bytes-byte-items.ensures.value c.loop-byte-test.true (rw (← c.from.ensures) c.if-number-ge65536.true) c.loop-byte.invariant.value)

pub returns-then-number-eq0 : goal.returns-then-number-eq0
returns-then-number-eq0 c = zero_port c.args.value.now c.loop-byte.number c.loop-byte.byte-index (rw c.as_bytes-byte-items.ensures.value at c.loop-byte-test.false) c.if-number-eq0.true c.loop-byte.invariant.value

pub returns : goal.returns
returns c = whole_port c.args.value.now c.loop-byte.number c.loop-byte.byte-index (rw c.as_bytes-byte-items.ensures.value at c.loop-byte-test.false) c.if-number-eq0.false c.loop-byte.invariant.small c.loop-byte.invariant.value c.loop-byte.invariant.digits
