use Rattle.amqp_sasl.proofs.PlainLemmas.{if_none, no_parts, no_parts_behind, no_third}
use Rattle.amqp_sasl.proofs.plain.read_plain.Goals as goal

pub returns-in_err-authorization-clause-unread : goal.returns-in_err-authorization-clause-unread
returns-in_err-authorization-clause-unread c = if_none _ _ (no_parts _ c.in_err-authorization.ensures.whole)

pub returns-in_err-authentication-clause-unread : goal.returns-in_err-authentication-clause-unread
returns-in_err-authentication-clause-unread c =
    let first = c.in_ok-authorization.ensures.cut in
    if_none _ _ (no_parts_behind _ _ _ first.0 first.1 c.in_err-authentication.ensures.whole)

pub returns-then-has_nul-clause-unread : goal.returns-then-has_nul-clause-unread
returns-then-has_nul-clause-unread c =
    let first = c.in_ok-authorization.ensures.cut in
    let second = c.in_ok-authentication.ensures.cut in
    no_third _ _ _ _ _ first.0 first.1 second.0 second.1 (c.has_nul.ensures.some c.if-has_nul.true)
