use Rattle.std.proofs.Common.{rules, ◌∙◌, ◌++◌, ap, drop, ℕ}
use Rattle.std.specs.Prelude.{◌==◌, map, option_map, unwrap_or}
use Rattle.std.specs.Ordering.{nat_cmp}
use Rattle.std.specs.BTreeMap.{get}
use Rattle.router_trace.specs.Connection.{conn as known}
use Rattle.core_machine.specs.Moves.{waiting_of}
use Rattle.core_player.specs.Entries.{out_entry}
use Rattle.core_player.proofs.Walking.{unwrap_if, walk_added, walk_begins, walk_goes}
use Rattle.core_player.proofs.recorder.add_outs.Goals as goal

pub loop-turn-init : goal.loop-turn-init
loop-turn-init g c = λ t f. walk_begins _ t _ _ _ (c.ready-next.ensures t f) (λ k. search rules)

pub returns-in_default-clause-added : goal.returns-in_default-clause-added
returns-in_default-clause-added g c = λ t f. let w = c.loop-turn.invariant t f in walk_added _ t _ _ _ (rw c.in_default.is at w)

pub loop-turn-preserved : goal.loop-turn-preserved
loop-turn-preserved g c = λ t f.
    let w = c.loop-turn.invariant t f in
    let n = c.in-Some.conn.0 in
    walk_goes (λ k. unwrap_or (get nat_cmp c.args.lengths.now k) 0) t (λ k. unwrap_or (get nat_cmp c.loop-turn.now k) 0) (λ k. unwrap_or (get nat_cmp c.put.new.lengths k) 0) n c.in_ok-length.length
    (option_map (λ k. k.0) c.ready_after-next.result) c.args.entries.now.items c.loop-turn.entries.items c.add_outs_of.new.entries.items (rw c.in-Some.is at w) (c.ready_after-next.ensures t f)
    (c.in_ok-length.ensures.length t f)
    (λ k. ap (λ o. unwrap_or o 0) (c.in_ok-put.ensures k) ∙ unwrap_if (n == k) c.in_ok-length.length (get nat_cmp c.loop-turn.now k))
    (c.in_ok-length.ensures.added t f ∙ ap (λ (x : ℕ). c.loop-turn.entries.items ++ map (out_entry n) (drop x (waiting_of (known t n)))) c.length_in.ensures)
