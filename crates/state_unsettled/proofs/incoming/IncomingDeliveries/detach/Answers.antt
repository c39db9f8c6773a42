use Rattle.std.proofs.Common.{◌∙◌, ◌≡◌, ℕ, true, ap, Some}
use Rattle.std.specs.Prelude.{◌==◌, Option}
use Rattle.amqp_session.specs.Ranges.{in_range}
use Rattle.router_trace.specs.Claims.{Claim}
use Rattle.router_trace.specs.Settling.{is_unbound_on, is_of_link}
use Rattle.state_unsettled.specs.Incoming.{let_go_at, unless_on}
use Rattle.state_unsettled.specs.Standing.{count_at, is_marked}
use Rattle.state_collections.specs.Ids.{at_id}
use Rattle.state_unsettled.proofs.Claimed.{both_halves}
use Rattle.state_unsettled.proofs.Counted.{counted_gone}
use Rattle.state_unsettled.proofs.Marked.{marked_gone, none_on}
use Rattle.state_unsettled.proofs.incoming.IncomingDeliveries.detach.Goals as goal

pub returns-clause-claims : goal.returns-clause-claims
returns-clause-claims c = λ small d o q.
    c.in_ok-let_go-2.ensures.claims (c.in_ok-let_go.ensures.small small) d o q
    ∙ ap (λ (v : Option Claim). let_go_at (c.args.conn == d) (c.args.own == o) (in_range 2147483648 4294967295 q) (Some c.args.link) v) (c.in_ok-let_go.ensures.claims small d o q)
    ∙ both_halves (c.args.conn == d) (c.args.own == o) (Some c.args.link) q (at_id c.args.self.now.ids d o q) (small d o q)

pub returns-clause-small : goal.returns-clause-small
returns-clause-small c = λ small. c.in_ok-let_go-2.ensures.small (c.in_ok-let_go.ensures.small small)

pub returns-clause-marked : goal.returns-clause-marked
returns-clause-marked c = λ small marked.
    let kept = c.in_ok-let_go-2.ensures.marked (c.in_ok-let_go.ensures.marked marked) in
    let known = at_id c.let_go-2.new.self.ids in
    let old = at_id c.args.self.now.ids in
    let here : (d o q : ℕ) → (c.args.conn == d) ≡ true → (c.args.own == o) ≡ true → known d o q ≡ unless_on (Some c.args.link) (old d o q) =
    (λ d o q e f. returns-clause-claims c small d o q ∙ ap (λ b. let_go_at b (c.args.own == o) true (Some c.args.link) (old d o q)) e
    ∙ ap (λ b. let_go_at true b true (Some c.args.link) (old d o q)) f) in
    record {
      unbound = λ d o h.
          counted_gone (c.args.conn == d) (c.args.own == o) (c.args.link == h) h (count_at c.let_go-2.new.self.by_link d o h) (count_at c.detach.new.self d o h) (known d o)
          (λ e f g q. ap (is_unbound_on h) (here d o q e f) ∙ (none_on c.args.link h (old d o q) g).0) (c.detach.ensures.counted d o h) (kept.unbound d o h);
      by_link = λ d o h q.
          marked_gone (c.args.conn == d) (c.args.own == o) (c.args.link == h) h (known d o q) (is_marked c.let_go-2.new.self.by_link d o h q) (is_marked c.detach.new.self d o h q)
          (λ e f g. ap (is_of_link h) (here d o q e f) ∙ (none_on c.args.link h (old d o q) g).1) (c.detach.ensures.marked d o h q) (kept.by_link d o h q);
    }
