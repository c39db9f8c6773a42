use Rattle.std.proofs.Common.{rules, ◌≡◌, ◌++◌}
use Rattle.std.proofs.lemmas.Result.{on_ok_weaker}
use Rattle.core_player.proofs.Scenes.{back}
use Rattle.core_player.proofs.Bytes.{bytes_refused}
use Rattle.core_player.proofs.Feeding.{all_pieces}
use Rattle.core_player.proofs.player.Player.bytes.Goals as goal

pub returns-in-None-clause-follows : goal.returns-in-None-clause-follows
returns-in-None-clause-follows g c = on_ok_weaker c.refuse.result
    (λ said works s f. bytes_refused g.M.Machine.meaning c.args.conn c.split_at.result.0.now c.args.bytes.now s (s.sockets c.args.conn.0) c.read.new.self c.refuse.new.self
    (let read = c.in_ok-read.ensures.reads s f in rw c.in-None.is at read) said)
    c.refuse.ensures.said

pub returns-in_ok-enter_all-in-Some-clause-follows : goal.returns-in_ok-enter_all-in-Some-clause-follows
returns-in_ok-enter_all-in-Some-clause-follows g c =
    let whole : c.args.bytes.now ≡ c.split_at.result.0.now ++ c.split_at.result.1.now = search rules
    in on_ok_weaker c.more_bytes.result
    (λ h works s f. all_pieces g.M.Machine.meaning c.args.conn c.split_at.result.0.now c.split_at.result.1.now c.args.bytes.now s c.read.new.self c.enter_all.new.self c.more_bytes.new.self c.in-Some.items.items whole
    (let read = c.in_ok-read.ensures.reads s f in rw c.in-Some.is at read)
    (c.in_ok-enter_all-in-Some.ensures.follows (back (g.M.Machine.meaning.is_failed c.enter_all.new.self.core) (g.M.Machine.meaning.is_failed c.more_bytes.new.self.core) c.more_bytes.ensures.stays works))
    (h works))
    c.more_bytes.ensures.continues
