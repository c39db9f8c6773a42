use Rattle.std.proofs.Common.{◌≡◌, ℕ, List, true, ◌∙◌, Option, take, drop}
use Rattle.std.specs.Map.{lookup}
use Rattle.std.specs.Str.{bytes_eq}
use Rattle.route_table.specs.Prefixes.{goes_on, value_at}
use Rattle.route_table.proofs.Entries.{lookup_seen, seen}
use Rattle.route_table.proofs.prefixes.Prefixes.value_at.Goals as goal

-- what is found at the prefix, for the whole address
at_front : {V : Type 0} (found : Option V) (entries : List (List ℕ × V)) (address front back : List ℕ) (end : ℕ) → front ≡ take end address → back ≡ drop end address → true ≡ goes_on back
    → found ≡ lookup (bytes_eq front) entries → found ≡ value_at entries address end
at_front found entries address front back end f b ends is = rw (← b, ← f, ← ends) is

pub returns-then-goes_on : goal.returns-then-goes_on
returns-then-goes_on g c =
    rw (← c.self.view_is)
    (at_front _ (seen (λ k. k.items) c.self.inside.places.entries) c.args.address.now c.split_at.result.0.now c.split_at.result.1.now c.args.end c.split_at.ensures.front c.split_at.ensures.back c.if-goes_on.ensures
    (c.get.ensures.value ∙ lookup_seen (λ k. k.items) c.split_at.result.0.now c.self.inside.places.entries))
