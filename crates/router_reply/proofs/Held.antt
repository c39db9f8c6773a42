-- The rows that a producer's link has, one after another.
use Rattle.std.proofs.Common.{◌≡◌, refl, sym, subst, Bool, true, false, List, [], ◌∷◌}
use Rattle.std.specs.Prelude.{Option, Some, None, filter}
use Rattle.book_model.specs.Book.{BookView, terminus_of}
use Rattle.book_model.specs.declared.act.Act.{Act}
use Rattle.book_model.specs.declared.act.Act.TheVariants.{Make, Admit, Decide, Forget, Drop}
use Rattle.book_model.specs.declared.row.Row.{Row}
use Rattle.book_model.specs.declared.row.RowNumber.{RowNumber}
use Rattle.book_model.specs.declared.terminus.LinkKey.{LinkKey}
use Rattle.book_model.specs.declared.terminus.Terminus.{Terminus}
use Rattle.router_trace.specs.declared.handle.Attachment.{Attachment}
use Rattle.router_trace.specs.Links.{holder}
use Rattle.router_trace.specs.Trace.{Entry}
use Rattle.router_state.specs.declared.tables.State.{State}
use Rattle.router_state.specs.Tables.{TablesFit}
use Rattle.state_connections.proofs.Lists.{by_test}
use Rattle.reply_rows.specs.Asking.{all_rows}
use Rattle.router_reply.specs.Holding.{held_to, held_if, rows_held, with_held, freed_by}

-- one, and then the others
pub held_both : (at : Attachment) (wanted : Row → Bool) (row : Row) (rows all : List Row) (u : List Entry) → all ≡ row ∷ rows
    → held_to at (filter wanted rows) (held_to at (filter wanted (row ∷ [])) u) ≡ held_to at (filter wanted all) u
held_both at wanted row rows all u is =
    subst (λ (rs : List Row). held_to at (filter wanted rows) (held_to at (filter wanted (row ∷ [])) u) ≡ held_to at (filter wanted rs) u) (sym is)
    (by_test (wanted row) (λ e. rw e refl) (λ e. rw e refl))

-- the link with a key, and the terminus
pub held_with : (s : State) (b : BookView) (k : LinkKey) (t : List Entry) (v : Option Attachment) (x : Option Terminus) → v ≡ holder t k → x ≡ terminus_of k b.termini
    → TablesFit s (held_if v (all_rows b x) t) → TablesFit s (with_held b (Some k) t)
held_with s b k t v x at found fit =
    subst (λ (w : Option Attachment). TablesFit s (held_if w (rows_held b k) t)) at
    (subst (λ (y : Option Terminus). TablesFit s (held_if v (all_rows b y) t)) found fit)

-- what an act does that forgets no row: nothing
pub unfreed : (act : Act) (t : List Entry) → ((n : RowNumber) → act ≡ Forget n → ⊥) → freed_by act t ≡ t
unfreed (Make x) t other = refl
unfreed (Admit x) t other = refl
unfreed (Decide x) t other = refl
unfreed (Forget n) t other = absurd (other n refl)
unfreed (Drop n) t other = refl
