use Rattle.std.proofs.Common.{◌≡◌, ◌∙◌, refl, sym, ap, subst, ℕ}
use Rattle.std.specs.Prelude.{Option, Some}
use Rattle.router_trace.specs.Sessions.{Place as At}
use Rattle.router_trace.specs.Links.{link_place, free_handle}
use Rattle.router_state.specs.Finding.{IsFoundLink}
use Rattle.reply_rows.specs.Rows.{attach_reply}
use Rattle.reply_rows.specs.LinkRows.{session_attach_reply}
use Rattle.reply_rows.proofs.Placed.{IsOn, is_on, linked}
use Rattle.reply_rows.proofs.attach.attach_reply.Goals as goal

pub returns-in-On : goal.returns-in-On
returns-in-On c = λ t channel fit found.
    let a = c.args.attach.now in
    let here : IsOn t c.args.conn channel c.in-On.own c.in-On.window c.args.found.now
    = is_on t c.args.conn channel (Some a.handle) c.in-On.own c.in-On.window c.args.found.now c.in-On.is found in
    let links = link_place t c.args.conn c.in-On.own a.handle in
    let link : IsFoundLink links c.args.found.now.link = linked t c.args.conn channel (Some a.handle) c.args.found.now found c.in-On.own a.handle here.found_own refl in
    subst (λ (p : At). c.session_attach_reply.result ≡ attach_reply p (link_place t c.args.conn) (free_handle t c.args.conn) a) (sym here.there)
    (c.session_attach_reply.ensures links link.place
    ∙ ap (λ (f : Option ℕ). session_attach_reply c.in-On.own links f a) (c.free_handle-free.ensures.found t fit))
