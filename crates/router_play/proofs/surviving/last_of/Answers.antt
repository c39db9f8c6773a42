use Rattle.std.proofs.Common.{◌∙◌, ap, sym}
use Rattle.std.specs.Vec.Iter.{into_iter_items}
use Rattle.router_play.specs.Grouping.{grouped}
use Rattle.router_play.proofs.Grouped.{group_told}
use Rattle.router_play.proofs.surviving.last_of.Goals as goal

pub loop-entry-preserved : goal.loop-entry-preserved
loop-entry-preserved c =
    let last = c.loop-entry.last in
    c.in_ok-take_act.ensures (into_iter_items c.next.new.self) ∙ ap (grouped last.number last.gate last.acts.items) (sym c.in-Some.ensures.steps.0) ∙ c.loop-entry.invariant

pub returns : goal.returns
returns c =
    let last = c.loop-entry.last in
    group_told c.args.base last.number last.gate last.acts.items c.args.listed.items (into_iter_items c.loop-entry.entry-iterator) (sym c.loop-entry.entry-iterator.rest.ok.0 ∙ c.in-None.ensures.steps.0) c.loop-entry.invariant
