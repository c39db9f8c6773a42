use Rattle.std.proofs.Common.{◌≡◌, ◌%◌, ◌⊎◌, ℕ, true, option_map, IfSome}
use Rattle.router_trace.specs.Trace.{Trace}
use Rattle.router_trace.specs.Connection.{conn as known, is_ready}
use Rattle.serve_lock.specs.Ringing.{is_set}
use Rattle.serve_lock.proofs.Wakings.{IsBefore}
use Rattle.serve_lock.proofs.sleepers.Sleepers.wake.Given as goal

-- the sleepers of ready connections before the next one were woken, and that of the lost one
abbrev pub invariant-loop-turn : goal.invariant-loop-turn
invariant-loop-turn g l = record {
  far : (t : Trace) → g.M.Machine.meaning.fits l.fn.router t → (c : ℕ) → is_ready (known t c) ≡ true → IsBefore (option_map (λ n. n.0) l.next) c
      → is_set l.fn.self.noted.words (c % 256) ≡ true → is_set l.woken.words (c % 256) ≡ true;
  still : (b : ℕ) → is_set l.fn.self.noted.words b ≡ true → (is_set l.woken.words b ≡ true) ⊎ (is_set l.self.noted.words b ≡ true);
  lost : IfSome l.fn.lost (λ conn. is_set l.fn.self.noted.words (conn.0 % 256) ≡ true → is_set l.woken.words (conn.0 % 256) ≡ true);
}
