use Rattle.std.proofs.Common.{◌∙◌, ℕ, Bool, ap, rules}
use Rattle.std.specs.List.{list_any}
use Rattle.std.specs.Ordering.{nat_cmp}
use Rattle.std.specs.BTreeMap.{get, is_at}
use Rattle.std.proofs.lemmas.Fn.{filter_same}
use Rattle.std.proofs.lemmas.Map.Views.{any-filter_same}
use Rattle.state_links.specs.Owed.{owes_on}
use Rattle.state_links.proofs.Owing.{at_mark}
use Rattle.state_collections.specs.NumberMap.{at_number}
use Rattle.state_links.proofs.owed.settle.Goals as goal

pub returns : goal.returns
returns c = λ k.
    let on : ℕ → Bool = λ n. owes_on (at_number c.args.links.now.rows n) in
    ap (list_any (is_at (nat_cmp k))) (filter_same _ on _ (λ x b f' k. search rules) _ _ c.retain.ensures.filtered)
    ∙ any-filter_same (is_at (nat_cmp k)) on (on k) (λ n e. ap on (at_mark k n e)) c.args.marks.now.keys
