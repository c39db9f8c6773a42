use Rattle.router_state.specs.Tables.{at_finds}
use Rattle.router_reply.proofs.heard.hear_item.Goals as goal

pub returns-clause-heard : goal.returns-clause-heard
returns-clause-heard c = λ t ends at session. record {
  part = λ own here. c.in_ok-heard-2.ensures.part t ends own at session here;
  ids = c.in_ok-heard.ensures t (at_finds at);
}
