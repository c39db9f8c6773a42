-- When the table of links agrees with a trace.
use Rattle.std.specs.Prelude.{◌≡◌, ℕ, Bool, true, false, ◌==◌, if◌then◌else◌, Option, Some, None, option_map}
use Rattle.std.specs.Ordering.{nat_cmp}
use Rattle.std.specs.BTreeSet.{contains}
use Rattle.amqp_model.specs.declared.perf.Perf.{Perf}
use Rattle.amqp_model.specs.declared.perf.Perf.TheVariants as perf
use Rattle.amqp_model.specs.declared.item.Item.{Item}
use Rattle.amqp_model.specs.declared.item.Item.TheVariants as item
use Rattle.amqp_link.specs.Figures.{unused_at}
use Rattle.book_model.specs.declared.terminus.LinkKey.{LinkKey}
use Rattle.router_trace.specs.Trace.{Trace}
use Rattle.router_trace.specs.declared.handle.Attachment.{Attachment}
use Rattle.router_trace.specs.declared.handle.Asked.{Asked}
use Rattle.router_trace.specs.declared.handle.PeerHandle.{PeerHandle}
use Rattle.router_trace.specs.Links.{Link as View, attachments, asked, key_at, link, names, names_by}
use Rattle.router_trace.specs.declared.handle.LinkAt.{LinkAt}
use Rattle.router_trace.specs.declared.handle.LinkAt.TheVariants as found
use Rattle.state_links.specs.declared.link.Link.{Link}
use Rattle.state_links.specs.declared.link.LinkEnd.{LinkEnd}
use Rattle.state_links.specs.declared.link.LinkEnd.TheVariants as ends
use Rattle.state_links.specs.declared.links.Links.{Links}
use Rattle.state_links.specs.declared.table.LinkTable.{LinkTable}
use Rattle.state_links.specs.Ends.{link_of}
use Rattle.state_links.specs.Handled.{HandlesFit}
use Rattle.state_links.specs.Naming.{NamesFit}
use Rattle.state_collections.specs.Places.{at}

-- a link owes a drain
abbrev pub owes : Option Link → Bool
owes None = false
owes (Some l) = l.owes_drain

-- the same of a view
abbrev pub owes_drain : Option View → Bool
owes_drain None = false
owes_drain (Some l) = l.owes_drain

-- a connection that isn't marked has no link that owes a drain
abbrev pub Owing : (ℕ → ℕ → ℕ → Option Link) → (ℕ → Bool) → Type 0
Owing known marked = (c o h : ℕ) → marked c ≡ false → owes (known c o h) ≡ false

-- the marks after a flow that asks for a drain
abbrev pub with_mark : ℕ → Bool → (ℕ → Bool) → ℕ → Bool
with_mark conn drains marked c = if conn == c then (if drains then true else marked c) else marked c

-- a performative asks for a drain
abbrev pub asks_drain : Perf → Bool
asks_drain (perf.Flow f) = f.drain
asks_drain _ = false

pub record TableFit (s : LinkTable) (t : Trace) : Type 0 where
  pub links : (c o h : ℕ) → at s.links c o h ≡ option_map link_of (link t c o h)
  pub count : s.count ≡ attachments t
  pub names : NamesFit s.names t
  pub owing : Owing (at s.links) (contains nat_cmp s.owing)

-- the table of links agrees with the trace
pub record LinksFit (s : Links) (t : Trace) : Type 0 where
  pub handles : HandlesFit s.handles t
  pub table : TableFit s.table t

-- a flow or a transfer of the peer names this handle of the router
abbrev pub names_in : Perf → (ℕ → Option PeerHandle) → ℕ → Bool
names_in (perf.Flow f) known h = names_by f.handle known h
names_in (perf.Transfer x) known h = names (known x.handle) h
names_in _ known h = false

-- the handle that a flow or a transfer of the router names
abbrev pub IsNoted : Perf → Option ℕ → Type 0
IsNoted (perf.Flow f) handle = f.handle ≡ handle
IsNoted (perf.Transfer x) handle = Some x.handle ≡ handle
IsNoted _ handle = ⊥

-- the attachment of a link that the router takes
abbrev pub attachment : ℕ → ℕ → ℕ → ℕ → Attachment
attachment number c o h = record { number = number; conn = record { 0 = c }; channel = o; handle = h }

-- the key that a table of links needs for an outgoing item: that of an attach
abbrev pub key_in : Trace → ℕ → Perf → Option LinkKey
key_in t c (perf.Attach a) = Some (key_at t c a)
key_in t c _ = None

abbrev pub key_by : Trace → ℕ → Item → Option LinkKey
key_by t c (item.Frame sasl own body payload) = key_in t c body
key_by t c _ = None

-- what the peer's last attach asks for, which the table of links needs for an attach of the router
abbrev pub asked_in : Trace → ℕ → Perf → Option Asked
asked_in t c (perf.Attach a) = asked t c
asked_in t c _ = None

-- the channel of an item; 0 if it has none
abbrev pub channel_of : Item → ℕ
channel_of (item.Frame sasl channel body payload) = channel
channel_of _ = 0

-- what is on a handle of the router
abbrev pub found_end : ℕ → Bool → LinkEnd → LinkAt
found_end h durable (ends.Sends e) = found.Sends h e
found_end h durable (ends.Receives e) = found.Receives h e.count (unused_at e) durable

abbrev pub found_at : ℕ → Option Link → LinkAt
found_at h None = found.Nowhere
found_at h (Some l) = found_end h l.durable l.end
