use Rattle.std.proofs.Common.{◌≡◌, ◌∙◌, sym, ap}
use Rattle.std.specs.Prelude.{option_copied, slice_get, Some}
use Rattle.router_trace.specs.Connection.{conn as known}
use Rattle.core_machine.specs.Moves.{waiting_of}
use Rattle.core_player.proofs.Walking.{one_item}
use Rattle.core_player.proofs.recorder.add_outs_of.Goals as goal

pub loop-place-preserved : goal.loop-place-preserved
loop-place-preserved g c = λ t f.
    let waiting = waiting_of (known t c.args.conn.0) in
    let is : slice_get waiting c.loop-place.place ≡ Some c.in-Some.item.now = sym (c.waiting.ensures t f) ∙ ap option_copied c.in-Some.is in
    one_item c.args.conn waiting c.loop-place.place c.in-Some.item.now c.in_ok-bytes.bytes c.loop-place.entries.items c.add.new.entries.items _ is c.in_ok-bytes.ensures c.in_ok-add.ensures (c.loop-place.invariant t f)
