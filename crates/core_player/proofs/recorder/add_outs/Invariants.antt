use Rattle.std.specs.Prelude.{option_map, unwrap_or}
use Rattle.std.specs.Ordering.{nat_cmp}
use Rattle.std.specs.BTreeMap.{get}
use Rattle.router_trace.specs.Trace.{Trace}
use Rattle.core_player.proofs.Walking.{Walked}
use Rattle.core_player.proofs.recorder.add_outs.Given as goal

abbrev pub invariant-loop-turn : goal.invariant-loop-turn
invariant-loop-turn g l = (t : Trace) → g.M.Machine.meaning.fits l.router t
    → Walked (λ c. unwrap_or (get nat_cmp l.lengths c) 0) t (λ c. unwrap_or (get nat_cmp l.now c) 0) (option_map (λ c. c.0) l.next) l.fn.entries.items l.entries.items
