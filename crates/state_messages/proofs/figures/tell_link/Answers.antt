use Rattle.std.proofs.Common.{rules, ◌≡◌, ◌∙◌, ◌+◌, sym, ap, true, false, length}
use Rattle.router_trace.specs.Configuration.{distribution}
use Rattle.router_trace.specs.Following.{is_sending}
use Rattle.state_links.specs.declared.link.Link.{Link}
use Rattle.state_messages.specs.Figures.{held, owed_credit, undecided, unused_by, waiting}
use Rattle.state_messages.proofs.Telling.{consumer_is, producer_is}
use Rattle.state_messages.proofs.figures.tell_link.Goals as goal

pub returns-then-is_consumer : goal.returns-then-is_consumer
returns-then-is_consumer c = λ t l is number stand known other actual last old e really agree.
    let sending : is_sending l.happened ≡ true = sym (c.is_consumer.ensures l is) ∙ c.if-is_consumer.true in
    let same : c.as_str-address.result.now ≡ c.args.link.now.address = search rules in
    let waits : c.waiting.result ≡ waiting t c.args.number = c.waiting.ensures.count t stand in
    let pending : c.undecided-undecided.result ≡ undecided t c.args.number = c.undecided-undecided.ensures.count t stand in
    c.in_ok-offer.ensures.fits (distribution t) known other actual last old
    (e ∙ consumer_is t l c.args.number c.as_str-address.result.now c.free-free.result c.waiting.result c.undecided-undecided.result number sending
    (same ∙ ap (λ (k : Link). k.address) is) waits pending (c.free-free.ensures l is)) really agree

pub returns : goal.returns
returns c = λ t l is number stand known other actual last old e really agree.
    let sending : is_sending l.happened ≡ false = sym (c.is_consumer.ensures l is) ∙ c.if-is_consumer.false in
    let same : c.as_str-address.result.now ≡ c.args.link.now.address = search rules in
    let owed : c.owed-owed.result ≡ owed_credit t l = c.owed-owed.ensures (distribution t) l (record { known = known; actual = actual; last = last; fits = old }) is in
    let unused : c.in_ok-unused.unused ≡ unused_by l.happened + owed_credit t l =
    c.in_ok-unused.ensures ∙ ap (λ k. k + c.owed-owed.result) (c.in_ok-granted.ensures l is) ∙ ap (λ k. unused_by l.happened + k) owed in
    let due : c.in_ok-due.due ≡ length l.due = c.in_ok-due.ensures ∙ c.len.ensures ∙ ap (λ (k : Link). length k.due) is in
    let kept : c.in_ok-held.held ≡ held t c.args.number = c.in_ok-held.ensures ∙ c.held.ensures.count t stand in
    c.in_ok-want.ensures.fits (distribution t) known other actual last old
    (e ∙ producer_is t l c.args.number c.as_str-address.result.now c.in_ok-unused.unused c.in_ok-due.due c.in_ok-held.held number sending
    (same ∙ ap (λ (k : Link). k.address) is) unused due kept) really agree
