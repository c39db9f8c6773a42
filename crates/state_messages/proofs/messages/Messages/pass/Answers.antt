use Rattle.std.proofs.Common.{◌≡◌, ◌∙◌, sym, subst, Some, None, option_map}
use Rattle.router_trace.specs.Following.{link_of}
use Rattle.state_messages.specs.Fits.{NotedFit, MessagesFit}
use Rattle.state_messages.specs.Messages.{binding_to, consumer_of, last_after, last_chosen, with_bound}
use Rattle.state_messages.proofs.Known.{passed}
use Rattle.state_messages.proofs.messages.Messages.pass.Goals as goal

pub returns-in_ok-bind-in-Some-clause-fits : goal.returns-in_ok-bind-in-Some-clause-fits
returns-in_ok-bind-in-Some-clause-fits c = λ t known old.
    let told : MessagesFit c.tell_all.new.self t = c.in_ok-tell_all.ensures.fits t old in
    let chosen : Some c.in-Some.consumer ≡ consumer_of t (link_of t c.args.from) = sym c.in-Some.is ∙ c.choose.ensures.chosen t known c.in_ok-tell_all.ensures.exact told in
    let noted : NotedFit c.choose.new.self t (last_after t (Some c.in-Some.consumer)) =
    subst (λ v. NotedFit c.choose.new.self t (last_after t v)) c.in-Some.is (c.choose.ensures.fits t known c.in_ok-tell_all.ensures.exact told) in
    passed _ t c.in-Some.consumer c.args.origin c.args.row c.args.format c.args.payload (consumer_of t (link_of t c.args.from)) chosen (c.in_ok-bind-in-Some.ensures t noted)

pub returns-in-None-clause-fits : goal.returns-in-None-clause-fits
returns-in-None-clause-fits c = λ t known old.
    let told : MessagesFit c.tell_all.new.self t = c.in_ok-tell_all.ensures.fits t old in
    let chosen : None ≡ consumer_of t (link_of t c.args.from) = sym c.in-None.is ∙ c.choose.ensures.chosen t known c.in_ok-tell_all.ensures.exact told in
    let noted : NotedFit c.choose.new.self t (last_after t None) =
    subst (λ v. NotedFit c.choose.new.self t (last_after t v)) c.in-None.is (c.choose.ensures.fits t known c.in_ok-tell_all.ensures.exact told) in
    subst (λ v. let behind = with_bound (option_map (binding_to t c.args.origin c.args.row c.args.format c.args.payload) v) t in NotedFit c.choose.new.self behind (last_chosen behind)) chosen noted
