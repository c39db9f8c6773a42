-- Attachments by key and by number, as a table has them: an entry is the last attachment of its name, and without an entry
-- no link of that name is attached.
use Rattle.std.specs.Prelude.{◌≡◌, ℕ, Bool, true, ◌&&◌, ◌==◌, if◌then◌else◌, Option, Some, None}
use Rattle.std.specs.Ordering.{nat_cmp}
use Rattle.std.specs.BTreeMap.{get}
use Rattle.book_model.specs.declared.terminus.LinkKey.{LinkKey}
use Rattle.book_model.specs.Keys.{key_cmp}
use Rattle.router_trace.specs.Trace.{Trace}
use Rattle.router_trace.specs.Links.{last_of_key, numbered, holder, place_of}
use Rattle.router_trace.specs.declared.handle.Attachment.{Attachment}
use Rattle.state_links.specs.declared.names.Names.{Names}
use Rattle.state_collections.specs.NumberMap.{at_number}

-- the place of an attachment
abbrev pub on_conn : ℕ → Attachment → Bool
on_conn c a = c == a.conn.0

abbrev pub on_session : ℕ → ℕ → Attachment → Bool
on_session c o a = (c == a.conn.0) && (o == a.channel)

abbrev pub on_handle : ℕ → ℕ → ℕ → Attachment → Bool
on_handle c o h a = (c == a.conn.0) && ((o == a.channel) && (h == a.handle))

-- an entry is removed if it passes a test
abbrev pub unless : (Attachment → Bool) → Option Attachment → Option Attachment
unless gone None = None
unless gone (Some a) = if gone a then None else Some a

-- after a change an entry is as before, or it passes a test and is gone
abbrev pub IsThinned : (Attachment → Bool) → Option Attachment → Option Attachment → Type 0
IsThinned gone was (Some a) = was ≡ Some a
IsThinned gone None None = Unit {0}
IsThinned gone (Some a) None = gone a ≡ true

pub record Thinned (gone : Attachment → Bool) (old new : Names) : Type 0 where
  pub keys : (k : LinkKey) → IsThinned gone (get key_cmp old.keys.entries k) (get key_cmp new.keys.entries k)
  pub numbers : (n : ℕ) → IsThinned gone (at_number old.numbers.entries n) (at_number new.numbers.entries n)

-- an entry, the last attachment, and the one that is attached
abbrev pub Remembers : Option Attachment → Option Attachment → Option Attachment → Type 0
Remembers (Some a) last attached = last ≡ Some a
Remembers None last attached = attached ≡ None

pub record NamesFit (s : Names) (t : Trace) : Type 0 where
  pub keys : (k : LinkKey) → Remembers (get key_cmp s.keys.entries k) (last_of_key t k) (holder t k)
  pub numbers : (n : ℕ) → Remembers (at_number s.numbers.entries n) (numbered t n) (place_of t n)
