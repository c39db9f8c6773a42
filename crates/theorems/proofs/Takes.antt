-- Takes make no difference: without them, a trace whose outboxes were never full is what its events alone make.
use Rattle.std.proofs.Common.{◌≡◌, ◌∙◌, sym, ap, refl, subst, ℕ, false, List, [], ◌∷◌}
use Rattle.std.specs.Prelude.{Option, Some, None}
use Rattle.amqp_model.specs.declared.item.Item.{Item}
use Rattle.amqp_conn.specs.declared.conn.Conn.{Conn}
use Rattle.router_trace.specs.Trace.{Beginning}
use Rattle.router_trace.specs.Configuration.{beginning}
use Rattle.router_trace.specs.declared.binding.Binding.{Binding}
use Rattle.router_trace.specs.declared.event.Event.{Event}
use Rattle.router_trace.specs.declared.event.Event.TheVariants as event
use Rattle.router_trace.specs.Trace.{Entry, Did, Booked, Put, Step, goes, each_to}
use Rattle.router_trace.specs.Connection.{conn, due, is_full, live}
use Rattle.state_sessions.specs.Windows.{windows_over}
use Rattle.state_messages.specs.Messages.{with_bound}
use Rattle.router_state.specs.Tables.{beats_over}
use Rattle.reply_rows.specs.declared.answer.Answer.{Answer}
use Rattle.reply_rows.specs.declared.answer.Answer.TheVariants.{Nothing}
use Rattle.reply_rows.specs.Rows.{down_reply}
use Rattle.router_reply.specs.Replies.{ends, row_found, item_put, item_row, own_row, bound_for, item_bound, bound_by, copied_for, item_copied, copied_by, replied_after}
use Rattle.router_after.specs.After.{widened, followed}
use Rattle.reply_rows.specs.Acts.{journaled, book_in, booked, found_acts, found_journal, full_at, answer_by, answer_of, answer_to_event}
use Rattle.router_reply.specs.Holding.{freed, with_held}
use Rattle.reply_rows.specs.Asking.{held_key}
use Rattle.router_reply.specs.Resuming.{attached_by, rows_taken, with_rows, resumed_by, resumed}
use Rattle.reply_rows.specs.Resuming.{resumed_key, attach_in, rows_for}
use Rattle.router_core.specs.Replies.{answered, handled}
use Rattle.core_machine.specs.Moves.{took_one}
use Rattle.router_core.specs.Moves.{Goes, outs}
use Rattle.core_machine.specs.Moves.{Move, handles, takes}
use Rattle.theorems.specs.Takes.{untaken, events_of, NeverFull}
use Rattle.router_core.proofs.Booking.{booked_keeps}
use Rattle.theorems.proofs.Untaken.{untaken_goes, same_outs, same_journaled, same_beats, same_windows}
use Rattle.theorems.proofs.UntakenPassed.{untaken_bound, untaken_freed, untaken_held, untaken_rows, same_passed}
use Rattle.theorems.proofs.UntakenRows.{same_put, same_bound_for, same_copied_for, same_held_key, same_resumed_key}
use Rattle.theorems.proofs.UntakenActs.{plain_acts, plain_full_at, plain_answer_of, same_full, same_acts, same_answer}
use Rattle.router_core.proofs.Following.{passed_on, each_keeps, all_keep}
use Rattle.router_core.proofs.Copied.{copied_keeps}
use Rattle.router_core.proofs.Resuming.{resumed_keeps}
use Rattle.theorems.proofs.Plain.{plain, plain_live, Calm, calm_goes, none_due, same_live, stood_found, live_found}

-- what an event finds after its acts is the same in a trace without its takes: the journal, its acts and the row that they admit, and whether the journal is
-- full
pub record FindsAlike (t : List Entry) (e : Event) : Type 0 where
  pub journal : found_journal t ≡ found_journal (untaken t)
  pub row : row_found t ≡ row_found (untaken t)
  pub acts : found_acts t ≡ found_acts (untaken t)
  pub full : full_at t e ≡ plain_full_at (untaken t) e

-- an event's own row, what follows its rows, and all of it, by the plain phases
abbrev pub plain_item_row : List ℕ → List Entry → List Entry → ℕ → Item → Option Conn → List Put
plain_item_row id x after c i None = []
plain_item_row id x after c i (Some p) = item_put id x after c p i (plain_answer_of x c p i)

abbrev pub plain_item_bound : List Entry → List Entry → ℕ → Item → Option Conn → Option Binding
plain_item_bound x after c i None = None
plain_item_bound x after c i (Some p) = bound_for x after c i (plain_answer_of x c p i)

abbrev pub plain_row : List ℕ → List Entry → List Entry → Event → List Put
plain_row id x after (event.Item c i) = plain_item_row id x after c.0 i (plain x c.0)
plain_row id x after (event.Down c) = each_to c.0 down_reply
plain_row id x after (event.Tick ms) = beats_over x ms (plain_live x)
plain_row id x after _ = []

abbrev pub plain_bound : List Entry → List Entry → Event → Option Binding
plain_bound x after (event.Item c i) = plain_item_bound x after c.0 i (plain x c.0)
plain_bound x after _ = None

abbrev pub plain_item_copied : List Entry → List Entry → ℕ → Item → Option Conn → List Entry → List Entry
plain_item_copied x after c i None u = u
plain_item_copied x after c i (Some p) u = copied_for x after c i (plain_answer_of x c p i) u

abbrev pub plain_copied : List Entry → List Entry → Event → List Entry → List Entry
plain_copied x after (event.Item c i) u = plain_item_copied x after c.0 i (plain x c.0) u
plain_copied x after _ u = u

abbrev pub plain_widened : List Entry → List Entry
plain_widened x = goes (windows_over x (plain_live x)) x

abbrev pub plain_followed : List Entry → List Entry
plain_followed x = plain_widened (passed_on x)

abbrev pub plain_replied : List ℕ → List Entry → Step → List Entry
plain_replied id x s =
    plain_copied x (Did s ∷ x) s.event (goes (plain_row id x (Did s ∷ x) s.event) (with_bound (plain_bound x (Did s ∷ x) s.event) (Did s ∷ x)))

abbrev pub plain_answer_by : List Entry → ℕ → Item → Option Conn → Answer
plain_answer_by x c i None = Nothing
plain_answer_by x c i (Some p) = plain_answer_of x c p i

abbrev pub plain_answer_to : List Entry → Event → Answer
plain_answer_to x (event.Item c i) = plain_answer_by x c.0 i (plain x c.0)
plain_answer_to x _ = Nothing

abbrev pub plain_resumed : List Entry → Event → List Entry → List Entry
plain_resumed x e y = resumed_by x e (plain_answer_to x e) y

abbrev pub plain_answered : List ℕ → List Entry → Step → List Entry
plain_answered id x s = plain_followed (plain_resumed x s.event (plain_replied id x s))

abbrev pub plain_booked : List Entry → Event → List Entry
plain_booked x e = Booked (plain_acts (journaled x) x e) [] ∷ x

abbrev pub plain_handled : List ℕ → List Entry → Step → List Entry
plain_handled id x s = plain_answered id (plain_booked x s.event) s

-- the trace that events alone make
abbrev plain_all : List ℕ → List Step → List Entry → List Entry
plain_all id [] x = x
plain_all id (s ∷ ss) x = plain_all id ss (plain_handled id x s)

same_item_row : (id : List ℕ) (t u : List Entry) (c : ℕ) (i : Item) (v : Option Conn) → FindsAlike t (event.Item (record { 0 = c }) i)
    → item_row id t u c i v ≡ plain_item_row id (untaken t) (untaken u) c i v
same_item_row id t u c i None same = refl
same_item_row id t u c i (Some p) same =
    ap (item_put id t u c p i) (same_answer t c p i same.journal same.full) ∙ same_put id t u c p i (plain_answer_of (untaken t) c p i) same.journal same.row

same_item_bound : (t u : List Entry) (c : ℕ) (i : Item) (v : Option Conn) → FindsAlike t (event.Item (record { 0 = c }) i)
    → item_bound t u c i v ≡ plain_item_bound (untaken t) (untaken u) c i v
same_item_bound t u c i None same = refl
same_item_bound t u c i (Some p) same =
    ap (bound_for t u c i) (same_answer t c p i same.journal same.full) ∙ same_bound_for t u c i (plain_answer_of (untaken t) c p i) same.row

same_row : (id : List ℕ) (t u : List Entry) (e : Event) → Calm t → due t e ≡ [] → FindsAlike t e → own_row id t u e ≡ plain_row id (untaken t) (untaken u) e
same_row id t u (event.Item c i) calm none same =
    ap (λ (p : Option Conn). item_row id t u c.0 i p) (stood_found t (event.Item c i) calm none c.0) ∙ same_item_row id t u c.0 i (plain (untaken t) c.0) same
same_row id t u (event.Down c) calm none same = refl
same_row id t u (event.Tick ms) calm none same =
    ap (beats_over t ms) (live_found t (event.Tick ms) calm none) ∙ same_beats t ms (plain_live (untaken t))
same_row id t u (event.Up c p) calm none same = refl
same_row id t u event.Start calm none same = refl

same_bound : (t u : List Entry) (e : Event) → Calm t → due t e ≡ [] → FindsAlike t e → bound_by t u e ≡ plain_bound (untaken t) (untaken u) e
same_bound t u (event.Item c i) calm none same =
    ap (λ (p : Option Conn). item_bound t u c.0 i p) (stood_found t (event.Item c i) calm none c.0) ∙ same_item_bound t u c.0 i (plain (untaken t) c.0) same
same_bound t u (event.Down c) calm none same = refl
same_bound t u (event.Tick ms) calm none same = refl
same_bound t u (event.Up c p) calm none same = refl
same_bound t u event.Start calm none same = refl

-- copies

same_item_copied : (t u : List Entry) (c : ℕ) (i : Item) (v : Option Conn) (w : List Entry) → FindsAlike t (event.Item (record { 0 = c }) i)
    → untaken (item_copied t u c i v w) ≡ plain_item_copied (untaken t) (untaken u) c i v (untaken w)
same_item_copied t u c i None w same = refl
same_item_copied t u c i (Some p) w same =
    same_copied_for t u c i (answer_of t c p i) w
    ∙ ap (λ (a : Answer). copied_for (untaken t) (untaken u) c i a (untaken w)) (same_answer t c p i same.journal same.full)

same_copied : (t u : List Entry) (e : Event) (w : List Entry) → Calm t → due t e ≡ [] → FindsAlike t e → untaken (copied_by t u e w) ≡ plain_copied (untaken t) (untaken u) e (untaken w)
same_copied t u (event.Item c i) w calm none same =
    ap (λ (p : Option Conn). untaken (item_copied t u c.0 i p w)) (stood_found t (event.Item c i) calm none c.0) ∙ same_item_copied t u c.0 i (plain (untaken t) c.0) w same
same_copied t u (event.Down c) w calm none same = refl
same_copied t u (event.Tick ms) w calm none same = refl
same_copied t u (event.Up c p) w calm none same = refl
same_copied t u event.Start w calm none same = refl

-- the rows that its attach takes up

same_answer_by : (t : List Entry) (c : ℕ) (i : Item) (v : Option Conn) → FindsAlike t (event.Item (record { 0 = c }) i) → answer_by t c i v ≡ plain_answer_by (untaken t) c i v
same_answer_by t c i None same = refl
same_answer_by t c i (Some p) same = same_answer t c p i same.journal same.full

same_answer_to : (t : List Entry) (e : Event) → Calm t → due t e ≡ [] → FindsAlike t e → answer_to_event t e ≡ plain_answer_to (untaken t) e
same_answer_to t (event.Item c i) calm none same =
    ap (answer_by t c.0 i) (stood_found t (event.Item c i) calm none c.0) ∙ same_answer_by t c.0 i (plain (untaken t) c.0) same
same_answer_to t (event.Down c) calm none same = refl
same_answer_to t (event.Tick ms) calm none same = refl
same_answer_to t (event.Up c p) calm none same = refl
same_answer_to t event.Start calm none same = refl

same_resumed : (t u : List Entry) (e : Event) → Calm t → due t e ≡ [] → FindsAlike t e → untaken (resumed t e u) ≡ plain_resumed (untaken t) e (untaken u)
same_resumed t u e calm none same =
    untaken_freed (found_acts t) (attached_by t e (answer_to_event t e) u)
    ∙ ap (freed (found_acts t)) (untaken_held (book_in t) (held_key t e (answer_to_event t e)) (with_rows (resumed_key t e (answer_to_event t e)) (rows_taken t e (answer_to_event t e)) u)
    ∙ ap (with_held (book_in t) (held_key t e (answer_to_event t e))) (untaken_rows (resumed_key t e (answer_to_event t e)) (rows_taken t e (answer_to_event t e)) u))
    ∙ (λ j. freed (same.acts j) (with_held (same_journaled t j).book (held j) (with_rows (key j) (rows_for (same.journal j).book (attach_in e) (key j)) (untaken u))))
  where
    held : held_key t e (answer_to_event t e) ≡ held_key (untaken t) e (plain_answer_to (untaken t) e)
    held = ap (held_key t e) (same_answer_to t e calm none same) ∙ same_held_key t e (plain_answer_to (untaken t) e)

    key : resumed_key t e (answer_to_event t e) ≡ resumed_key (untaken t) e (plain_answer_to (untaken t) e)
    key = ap (resumed_key t e) (same_answer_to t e calm none same) ∙ same_resumed_key t e (plain_answer_to (untaken t) e)

same_widened : (t : List Entry) → Calm t → untaken (widened t) ≡ plain_widened (untaken t)
same_widened t calm =
    untaken_goes (windows_over t (live t)) t
    ∙ ap (λ (ps : List Put). goes ps (untaken t)) (ap (windows_over t) (same_live t calm) ∙ same_windows t (plain_live (untaken t)))

calm_passed : (t : List Entry) → Calm t → Calm (passed_on t)
calm_passed t calm = each_keeps Calm calm_goes t calm

same_followed : (t : List Entry) → Calm t → untaken (followed t) ≡ plain_followed (untaken t)
same_followed t calm = same_widened (passed_on t) (calm_passed t calm) ∙ ap plain_widened (same_passed t (untaken t) refl)

calm_bound : (b : Option Binding) (t : List Entry) → Calm t → Calm (with_bound b t)
calm_bound None t calm = calm
calm_bound (Some b) t calm = calm

-- an event with all that it put out
pub same_answered : (id : List ℕ) (t : List Entry) (s : Step) → Calm t → ((c : ℕ) → is_full (conn t c) ≡ false) → FindsAlike t s.event
    → Calm (answered id t s) × (untaken (answered id t s) ≡ plain_answered id (untaken t) s)
same_answered id t s calm roomy same =
    let none : due t s.event ≡ [] = none_due t s.event roomy
    in let u : List Entry = Did s ∷ t
    in let bound : Option Binding = bound_by t u s.event
    in let row : List Put = own_row id t u s.event
    in let put : List Entry = goes row (with_bound bound u)
    in let behind : List Entry = copied_by t u s.event put
    in let calm_row : Calm behind = copied_keeps Calm (λ b v calm. calm) t u s.event put (calm_goes row (with_bound bound u) (calm_bound bound u (roomy, calm)))
    in let bound_rows : List Entry = resumed t s.event behind
    in let calm_rows : Calm bound_rows = resumed_keeps Calm (λ b v calm. calm) t s.event behind calm_row
    in let both : Calm (followed bound_rows) × (untaken (followed bound_rows) ≡ plain_answered id (untaken t) s) = (
      all_keep Calm calm_goes bound_rows calm_rows,
      same_followed bound_rows calm_rows
          ∙ ap plain_followed (same_resumed t behind s.event calm none same
          ∙ ap (plain_resumed (untaken t) s.event) (same_copied t u s.event put calm none same ∙ ap (plain_copied (untaken t) (untaken u) s.event) (untaken_goes row (with_bound bound u)
          ∙ (λ j. goes (same_row id t u s.event calm none same j) ((untaken_bound bound u ∙ ap (λ (b : Option Binding). with_bound b (untaken u)) (same_bound t u s.event calm none same)) j))))),
    )
    in subst (λ (x : List Entry). Calm (followed (resumed t s.event (replied_after id t x s.event))) × (untaken (followed (resumed t s.event (replied_after id t x s.event))) ≡ plain_answered id (untaken t) s))
    (sym (ap (λ (ks : List ℕ). ends id ks (Did s ∷ t)) none)) both

-- an event with its acts
pub same_handled : (id : List ℕ) (t : List Entry) (s : Step) → Calm t → ((c : ℕ) → is_full (conn t c) ≡ false)
    → Calm (handled id t s) × (untaken (handled id t s) ≡ plain_handled id (untaken t) s)
same_handled id t s calm roomy =
    let none : due t s.event ≡ [] = none_due t s.event roomy
    in let next = same_answered id (booked t s.event) s (booked_keeps Calm t s.event (λ acts c. c) calm)
    (booked_keeps (λ (v : List Entry). (c : ℕ) → is_full (conn v c) ≡ false) t s.event (λ acts r. r) roomy)
    (record { journal = same_journaled t; row = refl; acts = refl; full = same_full t s.event calm none })
    in (next.0, next.1 ∙ (λ j. plain_answered id (Booked (same_acts t s.event calm none j) (none j) ∷ untaken t) s))

-- moves
same_moves : (id : List ℕ) (ms : List Move) (t u : List Entry) → Calm t → NeverFull id ms t → Goes id ms t u → untaken u ≡ plain_all id (events_of ms) (untaken t)
same_moves id [] t u calm roomy went = ap untaken went
same_moves id (handles s ∷ ms) t u calm roomy went =
    let next = same_handled id t s calm roomy.0
    in same_moves id ms (handled id t s) u next.0 roomy.1 went.1 ∙ ap (plain_all id (events_of ms)) next.1
same_moves id (takes x ∷ ms) t u calm roomy went = same_moves id ms (took_one x t) u calm roomy went

pub takes_alike : (id : List ℕ) (g : Beginning) (ms ns : List Move) (t u : List Entry) → Goes id ms (beginning g) t → Goes id ns (beginning g) u
    → NeverFull id ms (beginning g) → NeverFull id ns (beginning g)
    → events_of ms ≡ events_of ns → (untaken t ≡ untaken u) × ((c : ℕ) → outs t c ≡ outs u c)
takes_alike id g ms ns t u went too roomy roomy_too same =
    let alike : untaken t ≡ untaken u
    = same_moves id ms (beginning g) t tt roomy went ∙ ap (λ (ss : List Step). plain_all id ss (beginning g)) same
    ∙ sym (same_moves id ns (beginning g) u tt roomy_too too)
    in (alike, λ c. same_outs t c ∙ ap (λ (x : List Entry). outs x c) alike ∙ sym (same_outs u c))
