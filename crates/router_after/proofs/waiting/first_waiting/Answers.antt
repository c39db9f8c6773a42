use Rattle.std.proofs.Common.{◌≡◌, ℕ, Bool, true, sym, subst, Option, Some, None}
use Rattle.std.specs.Prelude.{◌==◌, ◌&&◌, is_none}
use Rattle.std.proofs.lemmas.Bool.{and_from, and_parts}
use Rattle.router_trace.specs.declared.handle.Attachment.{Attachment}
use Rattle.router_trace.specs.Deliveries.{Delivery, delivery, rank_at}
use Rattle.router_trace.specs.Following.{is_unsent_on}
use Rattle.state_deliveries.specs.Finding.{IsFirstBy, is_beyond}
use Rattle.router_after.specs.Starting.{is_same, waits_at}
use Rattle.router_after.proofs.Scanning.{onward}
use Rattle.router_after.proofs.waiting.first_waiting.Goals as goal

-- a delivery that waits on a link is one of which frames remain to be sent there
unsent : (a : Attachment) (v : Option Delivery) → waits_at a v ≡ true → is_unsent_on a.number v ≡ true
unsent a None e = e
unsent a (Some d) e =
    let parts = and_parts (is_same d.link a) (is_none d.id && d.going_on) e in
    and_from (d.link.number == a.number) d.going_on
    (and_parts (d.link.number == a.number) ((d.link.conn.0 == a.conn.0) && ((d.link.channel == a.channel) && (d.link.handle == a.handle))) parts.0).0
    (and_parts (is_none d.id) d.going_on parts.1).1

pub loop-turn-preserved : goal.loop-turn-preserved
loop-turn-preserved c = λ t fit.
    let passes : ℕ → Bool = λ n. waits_at c.args.place (delivery t n) in
    let wide : ℕ → Bool = λ n. is_unsent_on c.args.place.number (delivery t n) in
    onward (rank_at t) wide passes c.loop-turn.last c.in-Some.number (λ m e. unsent c.args.place (delivery t m) e) (c.loop-turn.invariant t fit)
    (subst (IsFirstBy (rank_at t) (λ m. is_beyond (rank_at t) c.loop-turn.last m && wide m)) c.in-Some.is (c.unsent_after.ensures t fit))
    (sym (c.if-is_waiting.ensures t fit))
