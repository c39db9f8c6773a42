use Rattle.std.proofs.Common.{◌≡◌, ◌<◌, drop}
use Rattle.std.specs.Str.{all_ascii_digits}
use Rattle.route_table.specs.Values.{decimal}
use Rattle.route_table.proofs.Numbers.{decimal_from}
use Rattle.route_table.proofs.values.port.Given as goal

abbrev pub invariant-loop-byte : goal.invariant-loop-byte
invariant-loop-byte l = record {
  digits : all_ascii_digits (drop l.byte-index l.value) ≡ all_ascii_digits l.value;
  value : decimal_from l.number (drop l.byte-index l.value) ≡ decimal l.value;
  small : l.number < 65536;
}
