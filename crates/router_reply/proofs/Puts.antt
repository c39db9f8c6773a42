-- Items put one after another.
use Rattle.std.proofs.Common.{◌≡◌, refl, List, [], ◌∷◌, ◌++◌}
use Rattle.router_trace.specs.Trace.{Entry, Put, Out, goes}

pub goes_both : (ps qs : List Put) (t : List Entry) → goes (ps ++ qs) t ≡ goes qs (goes ps t)
goes_both [] qs t = refl
goes_both (p ∷ ps) qs t = goes_both ps qs (Out p.conn p.item ∷ t)
