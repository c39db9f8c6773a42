use Rattle.std.proofs.Common.{◌≡◌, ◌++◌, List, drop}
use Rattle.std.specs.Prelude.{filter_map}
use Rattle.router_trace.specs.Trace.{Entry}
use Rattle.router_state.specs.Tables.{TablesFind}
use Rattle.reply_rows.specs.Joining.{number_under}
use Rattle.reply_rows.proofs.disposition.settling.rows_claimed.Given as goal

-- those found so far, then those of the rest, are all
abbrev pub invariant-loop-id : goal.invariant-loop-id
invariant-loop-id l = (t : List Entry) → TablesFind l.state t
    → l.rows.items ++ filter_map (number_under l.book t l.conn l.own) (drop l.id-index l.id-items) ≡ filter_map (number_under l.book t l.conn l.own) l.id-items
