-- A delivery state that is encoded.
use Rattle.std.specs.Prelude.{ℕ, List}
use Rattle.amqp_perf.specs.declared.write_states.Nested.{Nested}
use Rattle.amqp_perf.specs.declared.write_states.Nested.TheVariants as nested

abbrev pub nested_view : Nested → List ℕ
nested_view (nested.Fixed bytes) = bytes
nested_view (nested.Written v) = v.items
