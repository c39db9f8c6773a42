-- Which connections are noted as ready.
use Rattle.std.specs.Prelude.{ℕ, Bool}
use Rattle.state_collections.specs.NumberSet.{has}
use Rattle.state_connections.specs.declared.ready.Ready.{Ready}

abbrev pub is_noted : Ready → ℕ → Bool
is_noted ready c = has ready.marks c
