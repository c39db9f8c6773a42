use Rattle.std.proofs.Common.{◌∙◌, ap, rules}
use Rattle.std.specs.Prelude.{not}
use Rattle.std.proofs.lemmas.Fn.{filter_same}
use Rattle.router_trace.specs.Tags.{is_tag, without_tag}
use Rattle.router_trace.proofs.tags.Tags.remove.Goals as goal

pub returns : goal.returns
returns c =
    filter_same _ (λ own. not (is_tag c.args.tag.now.items own)) _ (λ x b f' k. search rules) _ _ c.retain.ensures.filtered
    ∙ ap (without_tag c.args.tag.now.items) c.self.view_is
