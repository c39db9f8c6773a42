use Rattle.std.proofs.Common.{rules, ◌≡◌, ◌∙◌, sym, subst, ℕ, List}
use Rattle.router_trace.specs.Following.{link_of}
use Rattle.router_trace.specs.declared.handle.Attachment.{Attachment}
use Rattle.router_state.specs.Copying.{copied_to}
use Rattle.router_state.specs.Tables.{TablesFit}
use Rattle.state_messages.specs.Messages.{copies_for}
use Rattle.reply_transfers.proofs.Given.{none_given, one_given}
use Rattle.reply_transfers.proofs.transfers.pass_settled.Goals as goal

pub returns : goal.returns
returns c = λ t known fit.
    let same : c.in_ok-shared.shared ≡ c.args.payload = search rules in
    none_given c.pass_copies.new.self c.pass.new.self t c.args.from c.args.row c.args.format c.args.payload (sym (c.in_ok-chosen.ensures.chosen t known fit) ∙ c.if-chosen.false) (c.in_ok-chosen.ensures.bound t known fit)
    (λ left. subst (λ (payload : List ℕ). TablesFit c.pass_copies.new.self (copied_to c.args.format payload (copies_for t (link_of t c.args.from)) t)) same
    (subst (λ (to : List Attachment). TablesFit c.pass_copies.new.self (copied_to c.args.format c.in_ok-shared.shared to t)) (c.in_ok-to.ensures.copies t left)
    (c.in_ok-pass_copies.ensures t (c.in_ok-to.ensures.fits t left))))

pub returns-then-chosen : goal.returns-then-chosen
returns-then-chosen c = λ t known fit.
    one_given c.pass.new.self t c.args.from c.args.row c.args.format c.args.payload (sym (c.in_ok-chosen.ensures.chosen t known fit) ∙ c.if-chosen.true) (c.in_ok-chosen.ensures.bound t known fit)
