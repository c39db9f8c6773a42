-- When the table of clocks agrees with a trace.
use Rattle.std.specs.Prelude.{◌≡◌, ℕ, Bool, true, false}
use Rattle.state_collections.specs.NumberMap.{at_number}
use Rattle.amqp_model.specs.declared.perf.Perf.{Perf}
use Rattle.amqp_model.specs.declared.perf.Perf.TheVariants as perf
use Rattle.amqp_model.specs.declared.item.Item.{Item}
use Rattle.amqp_model.specs.declared.item.Item.TheVariants as item
use Rattle.state_connections.specs.declared.clocks.Clocks.{Clocks}
use Rattle.router_trace.specs.Trace.{Trace}
use Rattle.router_trace.specs.Clocks.{moment, terms, written}

pub record ClocksFit (s : Clocks) (t : Trace) : Type 0 where
  pub moment : s.moment ≡ moment t
  pub terms : (c : ℕ) → at_number s.terms c ≡ terms t c
  pub written : (c : ℕ) → at_number s.written c ≡ written t c

-- a close
abbrev pub is_close_in : Perf → Bool
is_close_in (perf.Close x) = true
is_close_in _ = false

abbrev pub is_close : Item → Bool
is_close (item.Frame sasl channel body payload) = is_close_in body
is_close _ = false
