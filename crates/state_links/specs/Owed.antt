-- The links that owe a drain: those of marked connections on which the router is the sender.
use Rattle.std.specs.Prelude.{ℕ, Bool, false, ◌&&◌, ◌==◌, if◌then◌else◌, List, [], ◌∷◌, Option, Some, None}
use Rattle.std.specs.List.{list_any, flat_map}
use Rattle.std.specs.Map.{keys_of}
use Rattle.std.specs.Ordering.{nat_cmp}
use Rattle.std.specs.BTreeMap.{BTreeMap, get}
use Rattle.router_trace.specs.declared.handle.Attachment.{Attachment}
use Rattle.std.specs.BTreeSet.{contains}
use Rattle.state_links.specs.declared.link.Link.{Link}
use Rattle.state_links.specs.declared.links.Links.{Links}
use Rattle.state_links.specs.Fits.{attachment}
use Rattle.state_links.specs.Looking.{sends_at}

-- an attachment is in a list
abbrev pub is_same : Attachment → Attachment → Bool
is_same a b = (a.handle == b.handle) && (((a.channel == b.channel) && (a.conn.0 == b.conn.0)) && (a.number == b.number))

abbrev pub is_listed : Attachment → List Attachment → Bool
is_listed a xs = list_any (λ b. is_same b a) xs

-- the attachment of a link that owes a drain, ...
abbrev pub owed_here : ℕ → ℕ → ℕ → Link → List Attachment
owed_here c o h l = if l.owes_drain && sends_at l.end then attachment l.number c o h ∷ [] else []

abbrev pub owed_at : ℕ → ℕ → ℕ → Option Link → List Attachment
owed_at c o h None = []
owed_at c o h (Some l) = owed_here c o h l

-- ... those of a session, in order of handles, ...
abbrev pub owed_in_session : ℕ → ℕ → BTreeMap ℕ Link → List Attachment
owed_in_session c o handles = flat_map (λ h. owed_at c o h (get nat_cmp handles h)) (keys_of handles.entries)

abbrev pub owed_of_session : ℕ → ℕ → Option (BTreeMap ℕ Link) → List Attachment
owed_of_session c o None = []
owed_of_session c o (Some handles) = owed_in_session c o handles

-- ... of a connection, in order of channels, ...
abbrev pub owed_in_connection : ℕ → BTreeMap ℕ (BTreeMap ℕ Link) → List Attachment
owed_in_connection c sessions = flat_map (λ o. owed_of_session c o (get nat_cmp sessions o)) (keys_of sessions.entries)

abbrev pub owed_of_connection : ℕ → Option (BTreeMap ℕ (BTreeMap ℕ Link)) → List Attachment
owed_of_connection c None = []
owed_of_connection c (Some sessions) = owed_in_connection c sessions

-- ... and of these connections
abbrev pub owed_of : (ℕ → Option (BTreeMap ℕ (BTreeMap ℕ Link))) → List ℕ → List Attachment
owed_of rows conns = flat_map (λ c. owed_of_connection c (rows c)) conns

-- a link of a session, or of a connection, owes a drain
abbrev pub owes_in_session : BTreeMap ℕ Link → Bool
owes_in_session handles = list_any (λ e. e.1.owes_drain) handles.entries

abbrev pub owes_in_connection : BTreeMap ℕ (BTreeMap ℕ Link) → Bool
owes_in_connection sessions = list_any (λ e. owes_in_session e.1) sessions.entries

abbrev pub owes_on : Option (BTreeMap ℕ (BTreeMap ℕ Link)) → Bool
owes_on None = false
owes_on (Some sessions) = owes_in_connection sessions

-- a connection is marked
abbrev pub is_marked : Links → ℕ → Bool
is_marked s c = contains nat_cmp s.table.owing c
