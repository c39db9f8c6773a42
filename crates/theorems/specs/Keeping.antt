-- Durable links and the book (AMQP 1.0 part 3, sections 3.5.3 to 3.5.5).
use Rattle.std.specs.Prelude.{◌≡◌, ℕ, Bool, true, List, Option, Some, None}
use Rattle.amqp_model.specs.declared.perf.Perf.{Perf}
use Rattle.amqp_model.specs.declared.perf.Perf.TheVariants as perf
use Rattle.amqp_model.specs.declared.item.Item.{Item}
use Rattle.amqp_model.specs.declared.item.Item.TheVariants as item
use Rattle.book_model.specs.Book.{terminus_of}
use Rattle.book_model.specs.declared.terminus.Terminus.{Terminus}
use Rattle.router_trace.specs.Trace.{Trace}
use Rattle.router_trace.specs.Durable.{is_durable}
use Rattle.router_trace.specs.Links.{address_by, key_at}
use Rattle.reply_rows.specs.Acts.{book_in}

-- a terminus that is there, with this address
abbrev pub HasAddress : Option Terminus → List ℕ → Type 0
HasAddress None address = ⊥
HasAddress (Some x) address = x.address ≡ address

-- The router takes a link by an attach that has an address at its own terminus. If the link is durable, the book has a terminus for it by then:
-- with the link's key, and that address.
abbrev pub kept_if : Bool → Option (List ℕ) → Option Terminus → Type 0
kept_if true (Some address) x = HasAddress x address
kept_if _ _ x = Unit {0}

abbrev pub perf_is_kept : Perf → Trace → ℕ → Type 0
perf_is_kept (perf.Attach a) t c = kept_if (is_durable a.role a) (address_by a.role a) (terminus_of (key_at t c a) (book_in t).termini)
perf_is_kept _ t c = Unit {0}

abbrev pub IsKeptFirst : Trace → ℕ → Item → Type 0
IsKeptFirst t c (item.Frame sasl own body payload) = perf_is_kept body t c
IsKeptFirst t c _ = Unit {0}
