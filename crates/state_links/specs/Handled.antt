-- When the table of handles agrees with a trace.
use Rattle.std.specs.Prelude.{◌≡◌, ℕ}
use Rattle.std.specs.Ordering.{nat_cmp}
use Rattle.std.specs.BTreeMap.{get}
use Rattle.router_trace.specs.Trace.{Trace}
use Rattle.router_trace.specs.Links.{asked, told_handle_max, highest_handle, answered_handle, their_handle}
use Rattle.state_links.specs.declared.handles.HandleTable.{HandleTable}
use Rattle.state_collections.specs.Places.{in_map, at}

pub record HandlesFit (s : HandleTable) (t : Trace) : Type 0 where
  pub asked : (c : ℕ) → get nat_cmp s.asked c ≡ asked t c
  pub told : (c : ℕ) → get nat_cmp s.told c ≡ told_handle_max t c
  pub highest : (c o : ℕ) → in_map (get nat_cmp s.highest c) o ≡ highest_handle t c o
  pub answered : (c o h : ℕ) → at s.answered c o h ≡ answered_handle t c o h
  pub theirs : (c o p : ℕ) → at s.theirs c o p ≡ their_handle t c o p
