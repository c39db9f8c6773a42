-- What a producer's durable link has from its attach on (AMQP 1.0 part 2, section 2.6.13): the rows of its terminus that are in the book after the attach,
-- until its producer resumes or settles them; those that it has settled, until they are decided.
use Rattle.std.specs.Prelude.{Bool, true, false, if◌then◌else◌, List, [], ◌∷◌, Option, Some, None}
use Rattle.book_model.specs.Book.{BookView, terminus_of}
use Rattle.book_model.specs.declared.act.Act.{Act}
use Rattle.book_model.specs.declared.act.Act.TheVariants.{Make, Admit, Decide, Forget, Drop}
use Rattle.book_model.specs.declared.row.Row.{Row}
use Rattle.book_model.specs.declared.row.RowNumber.{RowNumber}
use Rattle.book_model.specs.declared.terminus.LinkKey.{LinkKey}
use Rattle.router_trace.specs.declared.binding.DeliveryName.TheVariants as name
use Rattle.router_trace.specs.declared.binding.Holding.{Holding}
use Rattle.router_trace.specs.declared.binding.Holding.TheVariants as holding
use Rattle.router_trace.specs.declared.binding.Origin.{Origin}
use Rattle.router_trace.specs.declared.handle.Attachment.{Attachment}
use Rattle.router_trace.specs.Trace.{Trace, Bound}
use Rattle.router_trace.specs.Deliveries.{called, joined_by, owned_in}
use Rattle.router_trace.specs.Links.{holder}
use Rattle.reply_rows.specs.Asking.{all_rows}

-- Its rows are joined to the link, one after another, if it is attached.
abbrev pub as_held : Attachment → Row → Holding
as_held at r = if r.forgotten then holding.Settled at else holding.Unresumed at

abbrev pub held_to : Attachment → List Row → Trace → Trace
held_to at [] u = u
held_to at (r ∷ rs) u = held_to at rs (Bound (joined_by u (as_held at r) r.number r.outcome) ∷ u)

abbrev pub held_if : Option Attachment → List Row → Trace → Trace
held_if None rows u = u
held_if (Some at) rows u = held_to at rows u

abbrev pub rows_held : BookView → LinkKey → List Row
rows_held b k = all_rows b (terminus_of k b.termini)

abbrev pub with_held : BookView → Option LinkKey → Trace → Trace
with_held b None u = u
with_held b (Some k) u = held_if (holder u k) (rows_held b k) u

-- A row that acts forget, while a link has it without a delivery, is settled: by a resumed delivery that comes whole and settled, or by a disposition that
-- names one in the middle.
abbrev pub freed_from : Option Origin → RowNumber → Trace → Trace
freed_from None n u = u
freed_from (Some p) n u = Bound (joined_by u (holding.Settled p.link) n None) ∷ u

abbrev pub freed_by : Act → Trace → Trace
freed_by (Make x) u = u
freed_by (Admit x) u = u
freed_by (Decide x) u = u
freed_by (Forget n) u = freed_from (owned_in (called u (name.Row n))) n u
freed_by (Drop n) u = u

abbrev pub freed : List Act → Trace → Trace
freed [] u = u
freed (act ∷ acts) u = freed acts (freed_by act u)
