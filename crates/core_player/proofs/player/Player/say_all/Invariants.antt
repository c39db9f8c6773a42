use Rattle.std.proofs.Common.{◌≡◌, ◌++◌, drop}
use Rattle.std.specs.Prelude.{map}
use Rattle.core_player.specs.Script.{out_line}
use Rattle.core_player.specs.Playing.{Tells}
use Rattle.core_player.proofs.player.Player.say_all.Given as goal

abbrev pub invariant-loop-item : goal.invariant-loop-item
invariant-loop-item g l = record {
  lines : l.self.lines.items ++ map (out_line l.conn) (drop l.item-index l.items) ≡ l.fn.self.lines.items ++ map (out_line l.conn) l.fn.items;
  core : l.self.core ≡ l.fn.self.core;
  recorder : l.self.recorder ≡ l.fn.self.recorder;
  config : l.self.config ≡ l.fn.self.config;
  sockets : l.self.sockets ≡ l.fn.self.sockets;
  last : l.self.newest ≡ l.fn.self.newest;
  tells : (first : _) → Tells g.M.Machine.meaning first l.fn.self → Tells g.M.Machine.meaning first l.self;
}
