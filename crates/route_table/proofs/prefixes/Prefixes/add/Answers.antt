use Rattle.std.proofs.Common.{refl, sym, ◌∙◌}
use Rattle.route_table.proofs.Entries.{stays, joins}
use Rattle.route_table.proofs.prefixes.Prefixes.add.Goals as goal

pub returns-else-not-contains_key : goal.returns-else-not-contains_key
returns-else-not-contains_key g c =
    rw (← c.self.view_is, ← c.as_bytes.ensures.value)
    (stays (λ k. k.items) c.self.inside.places.entries c.as_bytes.result.now c.args.value c.contains_key.result c.contains_key.ensures c.if-not-contains_key.false)

pub returns-in_ok-insert : goal.returns-in_ok-insert
returns-in_ok-insert g c =
    let copied = c.in_ok-key.ensures.items_if_clones_equal (λ x y e. e) in
    let same = copied ∙ c.as_bytes-then-not-contains_key.ensures.value in
    let put = rw (← c.in_ok-insert.ensures.entries) at (joins (λ k. k.items) c.self.inside.places.entries c.as_bytes.result.now c.args.value c.contains_key.result c.contains_key.ensures c.if-not-contains_key.true _ (λ x y. refl) c.in_ok-key.key (same ∙ sym c.as_bytes.ensures.value)) in
    rw (← c.self.view_is, ← c.as_bytes.ensures.value) put
