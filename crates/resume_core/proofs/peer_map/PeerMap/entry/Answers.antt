use Rattle.std.proofs.Common.{sym, ◌∙◌, ap}
use Rattle.book_model.specs.Book.{same_bytes}
use Rattle.resume_core.specs.Resuming.{told_in}
use Rattle.resume_core.proofs.Places.{at_place, at_no_place, read_at}
use Rattle.resume_core.proofs.peer_map.PeerMap.entry.Goals as goal

pub returns-in-None : goal.returns-in-None
returns-in-None c =
    sym (at_no_place (λ d. same_bytes d.tag.items c.args.tag.now.items) c.self.inside.entries.now (sym (c.self.invariant c.args.tag.now) ∙ sym c.in-None.ensures.value))
    ∙ ap (λ entries. told_in entries c.args.tag.now.items) c.self.view_is

pub returns-in-Some : goal.returns-in-Some
returns-in-Some c =
    read_at c.self.inside.entries.now c.in-Some.place.now c.get-in-Some.result (c.get-in-Some.ensures.lookup.1) (c.get-in-Some.ensures.lookup.3)
    ∙ at_place (λ d. same_bytes d.tag.items c.args.tag.now.items) c.self.inside.entries.now c.in-Some.place.now (sym (c.self.invariant c.args.tag.now) ∙ sym c.in-Some.ensures.value)
    ∙ ap (λ entries. told_in entries c.args.tag.now.items) c.self.view_is
