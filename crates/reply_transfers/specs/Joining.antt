-- The row of a producer's unsettled delivery: the unforgotten one of its link's terminus that has its tag (AMQP 1.0 part 2, sections 2.6.12 and 2.6.13).
use Rattle.std.specs.Prelude.{ℕ, List, Option, Some, None}
use Rattle.book_model.specs.declared.row.Row.{Row}
use Rattle.book_model.specs.declared.terminus.LinkKey.{LinkKey}
use Rattle.book_model.specs.declared.terminus.Terminus.{Terminus}
use Rattle.book_model.specs.Book.{BookView, terminus_of, row_named}
use Rattle.router_trace.specs.Trace.{Trace}
use Rattle.router_trace.specs.Claims.{Claim, claims}
use Rattle.router_trace.specs.Links.{link, durable_key}

-- the unforgotten row with a tag, of the terminus of a durable link
abbrev pub named_row : Option Terminus → List ℕ → List Row → Option Row
named_row None tag rows = None
named_row (Some x) tag rows = row_named x.number.0 tag rows

abbrev pub row_joined : BookView → Option LinkKey → Option (List ℕ) → Option Row
row_joined b (Some key) (Some tag) = named_row (terminus_of key b.termini) tag b.rows
row_joined b _ _ = None

-- of a delivery that its producer hasn't settled: an id is claimed with the tag of the delivery's first frame
abbrev pub row_claimed : BookView → Trace → ℕ → ℕ → Option Claim → Option Row
row_claimed b t c own None = None
row_claimed b t c own (Some v) = row_joined b (durable_key (link t c own v.handle)) v.tag

abbrev pub row_under : BookView → Trace → ℕ → ℕ → ℕ → Option Row
row_under b t c own id = row_claimed b t c own (claims t c own id)
