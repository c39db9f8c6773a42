-- Counts of several seats, added up, and of several items.
use Rattle.std.specs.Prelude.{◌≡◌, ◌≤◌, ℕ, ◌+◌, List, drop, length, map, sum}
use Rattle.amqp_model.specs.declared.item.Item.{Item}
use Rattle.core_machine.specs.declared.counts.Counts.{Counts}
use Rattle.serve_lock.specs.declared.kind.Kind.{Kind}
use Rattle.serve_lock.specs.declared.kind.Kind.TheVariants as kind

-- one more event of this kind
abbrev pub with_kind : Kind → Counts → Counts
with_kind kind.Up n = record n { ups = n.ups + 1 }
with_kind kind.Item n = record n { items = n.items + 1 }
with_kind kind.Down n = record n { downs = n.downs + 1 }
with_kind kind.Tick n = record n { ticks = n.ticks + 1 }
with_kind kind.Start n = record n { starts = n.starts + 1 }

-- this many more items
abbrev pub with_items : ℕ → Counts → Counts
with_items k n = record n { items = n.items + k }

-- items left the front of a queue, 64 at most, and all of them are counted but this many
pub record Handled (refused : ℕ) (old new : Counts) (before behind : List Item) : Type 0 where
  pub items : ℕ
  pub most : items + refused ≤ 64
  pub there : items + refused ≤ length before
  pub counted : new ≡ with_items items old
  pub left : behind ≡ drop (items + refused) before

-- the sum of two counts, number by number
abbrev pub plus : Counts → Counts → Counts
plus n m = record {
  ups = n.ups + m.ups;
  items = n.items + m.items;
  downs = n.downs + m.downs;
  ticks = n.ticks + m.ticks;
  starts = n.starts + m.starts;
  batches = n.batches + m.batches;
}

-- the sum of each number
abbrev pub sums : List Counts → Counts
sums ns = record {
  ups = sum (map (λ (n : Counts). n.ups) ns);
  items = sum (map (λ (n : Counts). n.items) ns);
  downs = sum (map (λ (n : Counts). n.downs) ns);
  ticks = sum (map (λ (n : Counts). n.ticks) ns);
  starts = sum (map (λ (n : Counts). n.starts) ns);
  batches = sum (map (λ (n : Counts). n.batches) ns);
}
