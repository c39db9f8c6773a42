use Rattle.std.proofs.Common.{ℕ, List, ◌∷◌, ap, ◌∙◌}
use Rattle.disk_core.specs.Call.{events_of}
use Rattle.disk_core.specs.Event.{Wrote}
use Rattle.disk_core.specs.ImageLaws.{opens_wrote}
use Rattle.disk_core.proofs.memory.MemDiskDisk.write_at.Goals as goal

pub returns-clause-crash : goal.returns-clause-crash
returns-clause-crash c =
    let events = events_of c.args.self.now.calls.items in
    opens_wrote c.args.self.now.first.items events (events_of c.note.new.calls.items) c.args.at c.args.bytes.now
    (c.in_ok-note.ensures.ok ∙ ap (λ (l : List ℕ). Wrote c.args.at l ∷ events) (c.in_ok-to_vec.ensures.items_if_clones_equal (λ x y same. same)))
