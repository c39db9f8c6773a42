use Rattle.std.proofs.Common.{List, ◌∙◌, sym, ap₂, subst}
use Rattle.disk_core.specs.declared.side.Side.TheVariants.{First, Second}
use Rattle.disk_core.specs.Memory.{bytes_of, images_of}
use Rattle.disk_core.specs.Turns.{Turn, on, both, LeftNow, Told}
use Rattle.disk_core.specs.Disk.{Only}
use Rattle.disk_core.proofs.TwinCalls.{synced_turns, synced_told, synced_both}
use Rattle.disk_core.proofs.mem_twin.MemTwin.over.Goals as goal

pub invariant_of-result : goal.invariant_of-result
invariant_of-result c =
    let is = c.synced-history.ensures ∙ ap₂ synced_turns c.bytes.ensures c.bytes-2.ensures in
    record {
      first_told = subst (λ (t : List Turn). Told (on First t) (bytes_of c.args.first) (images_of c.args.first)) (sym is) (synced_told _ _ c.requires.first);
      second_told = subst (λ (t : List Turn). Told (on Second t) (bytes_of c.args.second) (images_of c.args.second)) (sym is) (synced_told _ _ c.requires.second);
    }

pub returns-clause-durable : goal.returns-clause-durable
returns-clause-durable c =
    let is = c.synced-history.ensures ∙ ap₂ synced_turns c.bytes.ensures c.bytes-2.ensures in
    subst (λ (t : List Turn). Only (both (bytes_of c.args.first) (bytes_of c.args.second)) (LeftNow t)) (sym is) (synced_both _ _)
