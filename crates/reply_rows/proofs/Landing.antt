-- A transfer that is taken is taken on the link that was found on its handle.
use Rattle.std.proofs.Common.{◌∙◌, refl, sym, ap, subst, ℕ, Bool, true, false, List}
use Rattle.std.specs.Prelude.{Some}
use Rattle.amqp_model.specs.declared.item.Item.{Item}
use Rattle.amqp_model.specs.declared.item.Item.TheVariants as item
use Rattle.amqp_model.specs.declared.perf.Perf.TheVariants as perf
use Rattle.amqp_model.specs.declared.perf.Transfer.{Transfer}
use Rattle.amqp_conn.specs.declared.conn.Conn.{Conn}
use Rattle.book_model.specs.Book.{BookView}
use Rattle.router_trace.specs.Trace.{Trace}
use Rattle.router_trace.specs.Links.{LinkPlace, link_place}
use Rattle.router_trace.specs.Sessions.{own_of, theirs}
use Rattle.router_state.specs.Finding.{IsFound}
use Rattle.router_state.specs.declared.finding.Found.{Found}
use Rattle.reply_rows.specs.declared.answer.Answer.{Answer}
use Rattle.reply_rows.specs.declared.answer.Answer.TheVariants.{Taken}
use Rattle.reply_rows.specs.Booking.{IsAt, TakesFound, TakesOnLink, answer_at}
use Rattle.reply_rows.proofs.Placed.{linked}
use Rattle.reply_rows.proofs.Transfers.{IfTaken, transfer_taken}

there : (t : Trace) (c channel : ℕ) (x : Transfer) (payload : List ℕ) (f : Found) → IsFound t c (item.Frame false channel (perf.Transfer x) payload) f
    → (a : Answer) → IfTaken false (theirs t c channel) (λ own. link_place t c own x.handle) a → TakesOnLink t c x f.link a
there t c channel x payload f found (Taken own handle) is =
    (linked t c channel (Some x.handle) f found own x.handle (found.own ∙ ap own_of is.session) refl, subst (λ (at : LinkPlace). IsAt at handle) (sym is.on_handle) refl)
there t c channel x payload f found _ is = tt

pub takes_found : (full : Bool) (b : BookView) (t : Trace) (c : ℕ) (p : Conn) (i : Item) (f : Found) → IsFound t c i f
    → TakesFound t c i f.link (answer_at full b t c p i)
takes_found full b t c p (item.Frame true channel body payload) f found = tt
takes_found full b t c p (item.Frame false channel (perf.Transfer x) payload) f found =
    there t c channel x payload f found (answer_at full b t c p (item.Frame false channel (perf.Transfer x) payload))
    (transfer_taken full b p t c false channel x payload)
takes_found full b t c p _ f found = tt
