use Rattle.std.proofs.Common.{◌≡◌, refl, sym, subst}
use Rattle.std.specs.Prelude.{Some}
use Rattle.router_trace.specs.Sessions.{Place as At}
use Rattle.router_trace.specs.Links.{link_place}
use Rattle.router_state.specs.Finding.{IsFoundLink}
use Rattle.reply_rows.specs.Rows.{detach_reply}
use Rattle.reply_rows.proofs.Placed.{IsOn, is_on, linked}
use Rattle.reply_rows.proofs.detach.detach_reply.Goals as goal

pub returns-in-On : goal.returns-in-On
returns-in-On c = λ t conn channel found.
    let x = c.args.detach.now in
    let here : IsOn t conn channel c.in-On.own c.in-On.window c.args.found.now
    = is_on t conn channel (Some x.handle) c.in-On.own c.in-On.window c.args.found.now c.in-On.is found in
    let link : IsFoundLink (link_place t conn c.in-On.own x.handle) c.args.found.now.link = linked t conn channel (Some x.handle) c.args.found.now found c.in-On.own x.handle here.found_own refl in
    subst (λ (p : At). c.session_detach_reply.result ≡ detach_reply p (link_place t conn) x) (sym here.there)
    (c.session_detach_reply.ensures (link_place t conn c.in-On.own x.handle) link.place)
