use Rattle.std.proofs.Common.{rules}
use Rattle.std.proofs.lemmas.Fn.{filter_same}
use Rattle.route_links.specs.Parts.{is_detach}
use Rattle.route_links.proofs.leg.retain_detaches.Goals as goal

pub returns : goal.returns
returns c = filter_same _ is_detach _ (λ x b f' k. search rules) _ _ c.retain.ensures.filtered
