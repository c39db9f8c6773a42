use Rattle.std.proofs.Common.{sym, ◌∙◌, ap, cond}
use Rattle.std.specs.Prelude.{Some}
use Rattle.std.specs.BTreeMap.{get}
use Rattle.std.specs.Cmp.Lexicographic.{slice_cmp, texts_ties}
use Rattle.std.specs.Ordering.{nat_cmp}
use Rattle.book_model.specs.Book.{same_bytes}
use Rattle.resume_core.proofs.peer_map.set_place.Goals as goal

pub returns-in-Ok : goal.returns-in-Ok
returns-in-Ok c = λ q.
    let before = get (λ v w. slice_cmp nat_cmp v.items w.items) c.args.places.now q in
    c.in-Ok.ensures.updates.0 q
    ∙ ap (λ b. cond b (Some c.args.place) before) (sym (texts_ties c.in_ok-copy_tag.field-0.items q.items))
    ∙ ap (λ k. cond (same_bytes k.items q.items) (Some c.args.place) before) c.in_ok-copy_tag.ensures
