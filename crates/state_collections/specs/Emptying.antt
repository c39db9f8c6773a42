-- An entry whose value's contents are forgotten.
use Rattle.state_collections.specs.declared.number_map.Entry.{Entry}

abbrev pub with_rest : {V : Type 0} → (V → V) → Entry V → Entry V
with_rest rest entry = record { number = entry.number; value = rest entry.value }
