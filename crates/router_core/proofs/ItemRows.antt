-- What an answer to an item puts: its own items, or the frames of an attach that is taken or refused, or what a whole delivery or a
-- disposition causes.
use Rattle.std.proofs.Common.{sym, subst, ℕ, Bool, List, [], ◌++◌, append-nil}
use Rattle.std.specs.Prelude.{Option}
use Rattle.amqp_model.specs.declared.perf.Attach.{Attach as AnAttach}
use Rattle.amqp_model.specs.declared.perf.Disposition.{Disposition as ADisposition}
use Rattle.amqp_model.specs.declared.perf.Perf.{Perf}
use Rattle.amqp_model.specs.declared.perf.Perf.TheVariants as perf
use Rattle.amqp_model.specs.declared.perf.Transfer.{Transfer as ATransfer}
use Rattle.amqp_model.specs.declared.state.DeliveryState.{DeliveryState}
use Rattle.amqp_model.specs.declared.state.UnsettledDelivery.{UnsettledDelivery}
use Rattle.amqp_model.specs.declared.item.Item.{Item}
use Rattle.amqp_model.specs.declared.item.Item.TheVariants as item
use Rattle.amqp_conn.specs.declared.conn.Conn.{Conn}
use Rattle.amqp_link.specs.declared.part.Part.{Part}
use Rattle.book_model.specs.declared.row.RowNumber.{RowNumber}
use Rattle.router_trace.specs.declared.condition.Condition.{Condition}
use Rattle.router_trace.specs.Trace.{Entry, Put, each_to}
use Rattle.router_trace.specs.Peers.{largest_frame}
use Rattle.reply_rows.specs.declared.answer.Answer.{Answer}
use Rattle.reply_rows.specs.declared.answer.Answer.TheVariants.{Attach, Refuse, Taken, Settle}
use Rattle.reply_rows.specs.Rows.{said}
use Rattle.reply_transfers.specs.Transfers.{part_put, settled_answers}
use Rattle.reply_rows.specs.Acts.{book_in}
use Rattle.router_reply.specs.Replies.{taken, refused, row_found, map_told, item_put}

pub item_cases : (id : List ℕ) (t after : List Entry) (c : ℕ) (p : Conn) (P : Answer → List Put → Type 0)
    → ((a : Answer) → P a (each_to c (said id p a)))
    → ((own : ℕ) (ours : List UnsettledDelivery) (x : AnAttach) → P (Attach own) (taken after c own ours x))
    → ((own handle : ℕ) (e : Condition) (x : AnAttach) → P (Refuse own handle e) (each_to c (refused (largest_frame after c) own handle e x)))
    → ((own handle : ℕ) (row : Option RowNumber) (q : Option Part) → P (Taken own handle) (each_to c (part_put (book_in t) after c own handle row q)))
    → ((own : ℕ) (s : Option DeliveryState) (ids : List ℕ) → P (Settle own) (each_to c (settled_answers own s ids)))
    → (i : Item) (a : Answer) → P a (item_put id t after c p i a)
item_cases id t after c p P none takes refuses carries settles i a = by_item i a
  where
    nothing_more : (a : Answer) → P a (each_to c (said id p a) ++ [])
    nothing_more a = subst (λ (ps : List Put). P a ps) (sym (append-nil (each_to c (said id p a)))) (none a)

    by_attach : (sasl : Bool) (channel : ℕ) (payload : List ℕ) (x : AnAttach) (a : Answer) → P a (item_put id t after c p (item.Frame sasl channel (perf.Attach x) payload) a)
    by_attach sasl channel payload x (Attach own) = takes own (map_told t c x (Attach own)) x
    by_attach sasl channel payload x (Refuse own handle e) = refuses own handle e x
    by_attach sasl channel payload x a = nothing_more a

    by_transfer : (sasl : Bool) (channel : ℕ) (payload : List ℕ) (x : ATransfer) (a : Answer) → P a (item_put id t after c p (item.Frame sasl channel (perf.Transfer x) payload) a)
    by_transfer sasl channel payload x (Taken own handle) = carries own handle (row_found t) _
    by_transfer sasl channel payload x a = nothing_more a

    by_disposition : (sasl : Bool) (channel : ℕ) (payload : List ℕ) (x : ADisposition) (a : Answer)
        → P a (item_put id t after c p (item.Frame sasl channel (perf.Disposition x) payload) a)
    by_disposition sasl channel payload x (Settle own) = settles own _ _
    by_disposition sasl channel payload x a = nothing_more a

    by_perf : (sasl : Bool) (channel : ℕ) (payload : List ℕ) (body : Perf) (a : Answer) → P a (item_put id t after c p (item.Frame sasl channel body payload) a)
    by_perf sasl channel payload (perf.Attach x) a = by_attach sasl channel payload x a
    by_perf sasl channel payload (perf.Transfer x) a = by_transfer sasl channel payload x a
    by_perf sasl channel payload (perf.Disposition x) a = by_disposition sasl channel payload x a
    by_perf sasl channel payload _ a = nothing_more a

    by_item : (i : Item) (a : Answer) → P a (item_put id t after c p i a)
    by_item (item.Frame sasl channel body payload) a = by_perf sasl channel payload body a
    by_item _ a = nothing_more a
