use Rattle.std.proofs.Common.{◌≡◌, ◌∙◌, sym, ap, subst, ℕ}
use Rattle.std.specs.Prelude.{Option}
use Rattle.router_trace.specs.Sessions.{Place as At}
use Rattle.router_trace.specs.Links.{link_place}
use Rattle.router_state.specs.Finding.{IsFoundLink}
use Rattle.reply_rows.specs.Rows.{flow_on, flow_reply}
use Rattle.reply_rows.proofs.Placed.{IsOn, is_on, linked}
use Rattle.reply_rows.proofs.flow.flow_reply.Goals as goal

pub returns-in-None : goal.returns-in-None
returns-in-None c = λ t conn channel found.
    let f = c.args.flow.now in
    let here : IsOn t conn channel c.in-On.own c.in-On.window c.args.found.now
    = is_on t conn channel f.handle c.in-On.own c.in-On.window c.args.found.now c.in-On.is found in
    subst (λ (p : At). c.session_flow_reply.result ≡ flow_reply p (link_place t conn) f) (sym here.there)
    (c.session_flow_reply.ensures here.session here.window
    ∙ ap (λ (h : Option ℕ). flow_on c.in-On.own here.session (link_place t conn c.in-On.own) f h) (sym c.in-None.is))

pub returns-in-Some : goal.returns-in-Some
returns-in-Some c = λ t conn channel found.
    let f = c.args.flow.now in
    let handle = c.in-Some.field-0 in
    let here : IsOn t conn channel c.in-On.own c.in-On.window c.args.found.now
    = is_on t conn channel f.handle c.in-On.own c.in-On.window c.args.found.now c.in-On.is found in
    let link : IsFoundLink (link_place t conn c.in-On.own handle) c.args.found.now.link
    = linked t conn channel f.handle c.args.found.now found c.in-On.own handle here.found_own c.in-Some.is in
    subst (λ (p : At). c.link_flow_reply.result ≡ flow_reply p (link_place t conn) f) (sym here.there)
    (c.link_flow_reply.ensures here.session (link_place t conn c.in-On.own handle) here.window link.place
    ∙ ap (λ (h : Option ℕ). flow_on c.in-On.own here.session (link_place t conn c.in-On.own) f h) (sym c.in-Some.is))
