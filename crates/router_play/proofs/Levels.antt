-- What is put out for a connection and what is waiting in its outbox grow alike.
use Rattle.std.proofs.Common.{◌≡◌, ◌∙◌, sym, ap, refl, subst, true≢false, ℕ, zero, suc, Bool, true, false, ◌||◌, List, [], ◌∷◌, ◌++◌, append_assoc, append-nil, length, drop}
use Rattle.std.specs.Prelude.{◌==◌, Option, Some, None, is_some, option_map, option_and_then, if◌then◌else◌}
use Rattle.std.proofs.lemmas.Bool.{eqb-true, eq-eqb}
use Rattle.amqp_model.specs.declared.item.Item.{Item}
use Rattle.amqp_conn.specs.declared.conn.Conn.{Conn}
use Rattle.router_trace.specs.Trace.{Beginning, Entry, Out, Put, did, goes, each_to, puts, ups, step_of}
use Rattle.router_trace.specs.declared.binding.Binding.{Binding}
use Rattle.router_trace.specs.declared.condition.Condition.{Condition}
use Rattle.router_trace.specs.declared.condition.Condition.TheVariants.{ResourceLimitExceeded}
use Rattle.router_trace.specs.declared.event.ConnectionId.{ConnectionId}
use Rattle.router_trace.specs.declared.event.Peer.{Peer}
use Rattle.router_trace.specs.declared.event.Event.{Event}
use Rattle.router_trace.specs.declared.handle.Attachment.{Attachment}
use Rattle.router_trace.specs.declared.event.Event.TheVariants as event
use Rattle.router_trace.specs.Connection.{Connection, conn, with_item, ended, took, drained, unless_empty, standing, is_live, is_item, is_ready, has, due, found, live_of, at_event}
use Rattle.amqp_session.specs.Session.{Session}
use Rattle.router_trace.specs.Links.{link, if_attached, last_of_key, holder, key_at}
use Rattle.router_trace.specs.LinkFrames.{answer_to}
use Rattle.router_trace.specs.Peers.{largest_frame}
use Rattle.router_trace.specs.Refusing.{refuses}
use Rattle.router_trace.specs.Sessions.{session}
use Rattle.router_trace.specs.Clocks.{terms, written, needs_beat}
use Rattle.router_trace.specs.Frames.{flow_item, told_of}
use Rattle.router_trace.specs.Following.{tells, sends_due, drains_due}
use Rattle.state_sessions.specs.Windows.{is_narrow, flow_due, flows_below, windows_over, windows}
use Rattle.router_state.specs.Tables.{beat_if, beats_over, beats}
use Rattle.state_messages.specs.Messages.{grants_due, with_bound}
use Rattle.reply_rows.specs.Rows.{said}
use Rattle.reply_transfers.specs.Transfers.{part_put, settled_answers}
use Rattle.router_reply.specs.Resuming.{resumed}
use Rattle.router_reply.specs.Replies.{closing_of, ends, heard, stolen_by, refused, bound_by, item_row, own_row, replied}
use Rattle.router_after.specs.After.{widened, followed}
use Rattle.reply_rows.specs.Acts.{answer_of, book_in, booked}
use Rattle.router_core.specs.Replies.{answered, handled}
use Rattle.core_machine.specs.Moves.{waiting_of}
use Rattle.router_core.specs.Moves.{IsTrace, outs}
use Rattle.router_core.proofs.Booking.{booked_keeps, booked_same, taken_booked}
use Rattle.router_core.proofs.Holding.{Holds, holds_booked, trace_holds}
use Rattle.router_core.proofs.ItemRows.{item_cases}
use Rattle.router_core.proofs.Linked.{holder_linked}
use Rattle.router_core.proofs.Due.{AllOnLinks, tells_on, sends_on, drains_on, grants_on}
use Rattle.router_core.proofs.Following.{Steps, passed_on, passed_keeps, all_keep}
use Rattle.router_core.proofs.Lively.{Lively, heard_lively, resumed_lively, lively_steps}
use Rattle.router_core.proofs.Copied.{copied_keeps, copied_same}
use Rattle.router_core.proofs.Resuming.{resumed_keeps, resumed_same}
use Rattle.router_play.specs.Carrying.{is_loss_of, was_lost}
use Rattle.state_connections.proofs.Lists.{by_test}
use Rattle.state_connections.proofs.Turns.{stays}

-- the same items were put out for a connection and are waiting there
pub record Level (t u : List Entry) (c : ℕ) : Type 0 where
  pub added : List Item
  pub written : outs u c ≡ outs t c ++ added
  pub waits : waiting_of (conn u c) ≡ waiting_of (conn t c) ++ added

-- and it is known and live as before, or no longer
pub record Even (t u : List Entry) (c : ℕ) : Type 0 where
  pub level : Level t u c
  pub known : is_some (conn u c) ≡ is_some (conn t c)
  pub lives : is_live (conn u c) ≡ true → is_live (conn t c) ≡ true

pub level_trans : (t u w : List Entry) (c : ℕ) → Level t u c → Level u w c → Level t w c
level_trans t u w c h k = record {
  added = h.added ++ k.added;
  written = k.written ∙ ap (λ xs. xs ++ k.added) h.written ∙ append_assoc (outs t c) h.added k.added;
  waits = k.waits ∙ ap (λ xs. xs ++ k.added) h.waits ∙ append_assoc (waiting_of (conn t c)) h.added k.added;
}

pub even_refl : (t : List Entry) (c : ℕ) → Even t t c
even_refl t c = record {
  level = record { added = []; written = sym (append-nil (outs t c)); waits = sym (append-nil (waiting_of (conn t c))) };
  known = refl;
  lives = λ h. h;
}

pub even_trans : (t u w : List Entry) (c : ℕ) → Even t u c → Even u w c → Even t w c
even_trans t u w c h k = record {
  level = level_trans t u w c h.level k.level;
  known = k.known ∙ h.known;
  lives = λ l. h.lives (k.lives l);
}

-- one more item

with_lives : (i : Item) (o : Option Connection) → is_live (option_map (with_item i) o) ≡ true → is_live o ≡ true
with_lives i None h = h
with_lives i (Some v) h = open_live v (stays i v.phase (live_open (with_item i v) h))
  where
    live_open : (v : Connection) → is_live (Some v) ≡ true → v.phase.closed ≡ false
    live_open v h = by_test v.phase.closed (λ e. absurd (true≢false (sym (rw e at h)))) (λ e. e)

    open_live : (v : Connection) → v.phase.closed ≡ false → is_live (Some v) ≡ true
    open_live v h = rw h refl

with_known : (i : Item) (o : Option Connection) → is_some (option_map (with_item i) o) ≡ is_some o
with_known i None = refl
with_known i (Some v) = refl

with_waits : (i : Item) (o : Option Connection) → is_some o ≡ true → waiting_of (option_map (with_item i) o) ≡ waiting_of o ++ i ∷ []
with_waits i None h = absurd (true≢false (sym h))
with_waits i (Some v) h = refl

out_even : (t : List Entry) (d : ℕ) (i : Item) (c : ℕ) → is_some (conn t d) ≡ true → Even t (Out d i ∷ t) c
out_even t d i c there =
    by_test (d == c)
    (λ e. record {
      level = record {
        added = i ∷ [];
        written = rw e refl;
        waits = rw e (with_waits i (conn t c) (subst (λ (n : ℕ). is_some (conn t n) ≡ true) (eqb-true d c e) there));
      };
      known = rw e (with_known i (conn t c));
      lives = λ h. with_lives i (conn t c) (rw e at h);
    })
    (λ e. record {
      level = record { added = []; written = rw e (sym (append-nil (outs t c))); waits = rw e (sym (append-nil (waiting_of (conn t c)))) };
      known = rw e refl;
      lives = λ h. rw e at h;
    })

pub puts_even : (is : List Item) (t : List Entry) (d c : ℕ) → is_some (conn t d) ≡ true → Even t (puts d is t) c
puts_even [] t d c there = even_refl t c
puts_even (i ∷ is) t d c there =
    even_trans t (Out d i ∷ t) (puts d is (Out d i ∷ t)) c (out_even t d i c there)
    (puts_even is (Out d i ∷ t) d c ((out_even t d i d there).known ∙ there))

-- the closes because of full outboxes

closing_even : (id : List ℕ) (t : List Entry) (d c : ℕ) (x : Condition) (o : Option Connection) → conn t d ≡ o → Even t (puts d (closing_of id o x) t) c
closing_even id t d c x None is = even_refl t c
closing_even id t d c x (Some v) is = puts_even (closing_of id (Some v) x) t d c (ap (λ (o : Option Connection). is_some o) is)

pub ends_even : (id : List ℕ) (ds : List ℕ) (t : List Entry) (c : ℕ) → Even t (ends id ds t) c
ends_even id [] t c = even_refl t c
ends_even id (d ∷ ds) t c =
    even_trans t (puts d (closing_of id (conn t d) ResourceLimitExceeded) t) (ends id (d ∷ ds) t) c (closing_even id t d c ResourceLimitExceeded (conn t d) refl)
    (ends_even id ds (puts d (closing_of id (conn t d) ResourceLimitExceeded) t) c)

-- the event itself

-- an event brings up a connection or loses it
abbrev pub moves : Event → ℕ → Bool
moves (event.Up d p) c = d.0 == c
moves (event.Down d) c = d.0 == c
moves _ c = false

pub stays_at : (e : Event) (c n : ℕ) (o : Option Connection) → moves e c ≡ false → at_event e c n o ≡ o
stays_at (event.Up d p) c n o h = rw h refl
stays_at (event.Down d) c n o h = rw h refl
stays_at (event.Item d i) c n o h = refl
stays_at (event.Tick ms) c n o h = refl
stays_at event.Start c n o h = refl

found_waits : (b : Bool) (o : Option Connection) → waiting_of (if b then option_map ended o else o) ≡ waiting_of o
found_waits true None = refl
found_waits true (Some v) = refl
found_waits false o = refl

found_known : (b : Bool) (o : Option Connection) → is_some (if b then option_map ended o else o) ≡ is_some o
found_known true None = refl
found_known true (Some v) = refl
found_known false o = refl

found_lives : (b : Bool) (o : Option Connection) → is_live (if b then option_map ended o else o) ≡ true → is_live o ≡ true
found_lives true None h = h
found_lives true (Some v) h = absurd (true≢false (sym h))
found_lives false o h = h

did_even : (t : List Entry) (e : Event) (c : ℕ) → moves e c ≡ false → Even t (did e ∷ t) c
did_even t e c h =
    let same : conn (did e ∷ t) c ≡ found t e c = stays_at e c (length (live_of (ups t) (found t e))) (found t e c) h
    in record {
      level = record {
        added = [];
        written = sym (append-nil (outs t c));
        waits = ap waiting_of same ∙ found_waits (has c (due t e)) (conn t c) ∙ sym (append-nil (waiting_of (conn t c)));
      };
      known = ap (λ (o : Option Connection). is_some o) same ∙ found_known (has c (due t e)) (conn t c);
      lives = λ l. found_lives (has c (due t e)) (conn t c) (sym (ap is_live same) ∙ l);
    }

-- items for known connections

abbrev AllKnown : List Put → List Entry → Type 0
AllKnown [] t = Unit {0}
AllKnown (p ∷ ps) t = (is_some (conn t p.conn) ≡ true) × AllKnown ps t

known_on : (ps : List Put) (t u : List Entry) → ((k : ℕ) → is_some (conn u k) ≡ is_some (conn t k)) → AllKnown ps t → AllKnown ps u
known_on [] t u same known = tt
known_on (p ∷ ps) t u same known = (same p.conn ∙ known.0, known_on ps t u same known.1)

goes_even : (ps : List Put) (t : List Entry) (c : ℕ) → AllKnown ps t → Even t (goes ps t) c
goes_even [] t c known = even_refl t c
goes_even (p ∷ ps) t c known =
    let v : List Entry = Out p.conn p.item ∷ t
    in even_trans t v (goes ps v) c (out_even t p.conn p.item c known.0)
    (goes_even ps v c (known_on ps t v (λ k. (out_even t p.conn p.item k known.0).known) known.1))

known_join : (ps qs : List Put) (t : List Entry) → AllKnown ps t → AllKnown qs t → AllKnown (ps ++ qs) t
known_join [] qs t first rest = rest
known_join (p ∷ ps) qs t first rest = (first.0, known_join ps qs t first.1 rest)

-- heartbeats and flows of windows go to live connections, which are known
live_known : (o : Option Connection) → is_live o ≡ true → is_some o ≡ true
live_known None h = h
live_known (Some v) h = refl

beat_known : (b : Bool) (c : ℕ) (u : List Entry) → is_some (conn u c) ≡ true → AllKnown (beat_if b c) u
beat_known true c u there = (there, tt)
beat_known false c u there = tt

beats_known : (t u : List Entry) (now : ℕ) (known : ℕ → Option Connection) → ((k : ℕ) → is_live (known k) ≡ true → is_some (conn u k) ≡ true)
    → (ks : List ℕ) → AllKnown (beats_over t now (live_of ks known)) u
beats_known t u now known there [] = tt
beats_known t u now known there (k ∷ ks) =
    by_test (is_live (known k))
    (λ l. rw l (known_join (beat_if (needs_beat (terms t k) (written t k) now) k) (beats_over t now (live_of ks known)) u
    (beat_known (needs_beat (terms t k) (written t k) now) k u (there k l)) (beats_known t u now known there ks)))
    (λ l. rw l (beats_known t u now known there ks))

flow_known : (c o : ℕ) (v : Option Session) (u : List Entry) → is_some (conn u c) ≡ true → AllKnown (flow_due c o v) u
flow_known c o None u there = tt
flow_known c o (Some h) u there = if_narrow (is_narrow h)
  where
    if_narrow : (b : Bool) → AllKnown (if b then record { conn = c; item = flow_item o (told_of h) } ∷ [] else []) u
    if_narrow true = (there, tt)
    if_narrow false = tt

flows_known : (c : ℕ) (known : ℕ → Option Session) (u : List Entry) → is_some (conn u c) ≡ true → (n : ℕ) → AllKnown (flows_below c known n) u
unfolding flows_below
flows_known c known u there zero = tt
flows_known c known u there (suc n) =
    known_join (flows_below c known n) (flow_due c n (known n)) u (flows_known c known u there n) (flow_known c n (known n) u there)

windows_known : (t : List Entry) (known : ℕ → Option Connection) → ((k : ℕ) → is_live (known k) ≡ true → is_some (conn t k) ≡ true)
    → (ks : List ℕ) → AllKnown (windows_over t (live_of ks known)) t
windows_known t known there [] = tt
windows_known t known there (k ∷ ks) =
    by_test (is_live (known k))
    (λ l. rw l (known_join (flows_below k (session t k) 15) (windows_over t (live_of ks known)) t (flows_known k (session t k) t (there k l) 15) (windows_known t known there ks)))
    (λ l. rw l (windows_known t known there ks))

widened_even : (t : List Entry) (c : ℕ) → Even t (widened t) c
widened_even t c = goes_even (windows t) t c (windows_known t (conn t) (λ k l. live_known (conn t k) l) (ups t))

-- what is sent on links goes to live connections
links_known : (ps : List Put) (t : List Entry) → Lively t → AllOnLinks t ps → AllKnown ps t
links_known [] t lively all = tt
links_known (p ∷ ps) t lively all =
    (live_known (conn t p.conn) (lively p.conn all.0.own all.0.handle all.0.linked), links_known ps t lively all.1)

record Reached (c : ℕ) (t u : List Entry) : Type 0 where
  lively : Lively u
  even : Even t u c

reached_goes : (c : ℕ) (t u : List Entry) (ps : List Put) → AllOnLinks u ps → Lively (goes ps u) → Reached c t u → Reached c t (goes ps u)
reached_goes c t u ps all next was = record { lively = next; even = even_trans t u (goes ps u) c was.even (goes_even ps u c (links_known ps u was.lively all)) }

reached_steps : (c : ℕ) (t : List Entry) → Steps (Reached c t)
reached_steps c t = record {
  telling = λ u was. reached_goes c t u (tells u) (tells_on u) (lively_steps.telling u was.lively) was;
  sending = λ u was. reached_goes c t u (sends_due u) (sends_on u) (lively_steps.sending u was.lively) was;
  draining = λ u was. reached_goes c t u (drains_due u) (drains_on u) (lively_steps.draining u was.lively) was;
  granting = λ u was. reached_goes c t u (grants_due u) (grants_on u) (lively_steps.granting u was.lively) was;
}

followed_even : (t : List Entry) (c : ℕ) → Lively t → Even t (followed t) c
followed_even t c lively =
    let passed : Reached c t (passed_on t) = passed_keeps (Reached c t) (reached_steps c t) t (record { lively = lively; even = even_refl t c })
    in even_trans t (passed_on t) (followed t) c passed.even (widened_even (passed_on t) c)

-- what an event's own row puts

-- links are on known connections
abbrev LinksKnown : List Entry → Type 0
LinksKnown u = (c o h : ℕ) → is_some (link u c o h) ≡ true → is_some (conn u c) ≡ true

each_known : (is : List Item) (u : List Entry) (d : ℕ) → is_some (conn u d) ≡ true → AllKnown (each_to d is) u
each_known [] u d there = tt
each_known (i ∷ is) u d there = (there, each_known is u d there)

stolen_known : (u : List Entry) → LinksKnown u → (last x : Option Attachment) → if_attached u last ≡ x → AllKnown (stolen_by x) u
stolen_known u links last None is = tt
stolen_known u links last (Some x) is = (links x.conn.0 x.channel x.handle (holder_linked u last x is), tt)

item_known : (id : List ℕ) (t u : List Entry) (d : ℕ) (i : Item) → LinksKnown u → (p : Option Conn) → (is_some p ≡ true → is_some (conn u d) ≡ true) → AllKnown (item_row id t u d i p) u
item_known id t u d i links None there = tt
item_known id t u d i links (Some p) there =
    item_cases id t u d p (λ a ps. AllKnown ps u)
    (λ a. each_known (said id p a) u d (there refl))
    (λ own ours x. known_join (stolen_by (holder u (key_at u d (answer_to x 0)))) _ u
    (stolen_known u links (last_of_key u (key_at u d (answer_to x 0))) (holder u (key_at u d (answer_to x 0))) refl)
    (each_known _ u d (there refl)))
    (λ own handle e x. each_known (refused (largest_frame u d) own handle e x) u d (there refl))
    (λ own handle row q. each_known (part_put (book_in t) u d own handle row q) u d (there refl))
    (λ own r ids. each_known (settled_answers own r ids) u d (there refl))
    i (answer_of t d p i)

bound_even : (b : Option Binding) (t : List Entry) (c : ℕ) → Even t (with_bound b t) c
bound_even None t c = even_refl t c
bound_even (Some b) t c = record {
  level = record { added = []; written = sym (append-nil (outs t c)); waits = sym (append-nil (waiting_of (conn t c))) };
  known = refl;
  lives = λ h. h;
}

row_even : (id : List ℕ) (t : List Entry) (e : Event) (c : ℕ) → LinksKnown (heard id t (step_of e)) → Even (heard id t (step_of e)) (replied id t (step_of e)) c
row_even id t (event.Item d i) c links =
    let e : Event = event.Item d i
    in let u : List Entry = heard id t (step_of e)
    in let v : List Entry = with_bound (bound_by t u e) u
    in let w : List Entry = goes (own_row id t u e) v
    in even_trans u w (replied id t (step_of e)) c
    (even_trans u v w c (bound_even (bound_by t u e) u c) (goes_even (own_row id t u e) v c
    (known_on (own_row id t u e) u v (λ k. (bound_even (bound_by t u e) u k).known)
    (item_known id t u d.0 i links (standing (found t e d.0)) (λ l. (ends_even id (due t e) (did e ∷ t) d.0).known ∙ live_known (found t e d.0) l)))))
    (copied_keeps (λ (x : List Entry). Even w x c) (λ b x h. even_trans w x (with_bound (Some b) x) c h (bound_even (Some b) x c)) t u e w (even_refl w c))
row_even id t (event.Up d p) c links = even_refl (heard id t (step_of (event.Up d p))) c
row_even id t (event.Down d) c links = even_refl (heard id t (step_of (event.Down d))) c
row_even id t (event.Tick ms) c links =
    let e : Event = event.Tick ms
    in goes_even (beats t e ms) (heard id t (step_of e)) c
    (beats_known t (heard id t (step_of e)) ms (found t e)
    (λ k l. (ends_even id (due t e) (did e ∷ t) k).known ∙ live_known (found t e k) l) (ups t))
row_even id t event.Start c links = even_refl (heard id t (step_of event.Start)) c

-- the rows that its attach takes up
resumed_even : (t : List Entry) (e : Event) (u : List Entry) (c : ℕ) → Even u (resumed t e u) c
resumed_even t e u c = resumed_keeps (λ (v : List Entry). Even u v c) (λ b v h. even_trans u v (with_bound (Some b) v) c h (bound_even (Some b) v c)) t e u (even_refl u c)

-- an event with its replies
after_even : (id : List ℕ) (g : Beginning) (t : List Entry) (e : Event) (c : ℕ) → IsTrace id g t → refuses t e ≡ false → Even (did e ∷ booked t e) (handled id t (step_of e)) c
after_even id g t e c real taken =
    let b : List Entry = booked t e
    in let u : List Entry = heard id b (step_of e)
    in let v : List Entry = replied id b (step_of e)
    in let w : List Entry = resumed b e v
    in let was : Holds b = holds_booked t e (trace_holds id g t real)
    in let lively : Lively u = heard_lively id b e was.ordered was.lively (taken_booked t e taken)
    in let links : LinksKnown u = λ k o h some. live_known (conn u k) (lively k o h some)
    in even_trans (did e ∷ b) u (handled id t (step_of e)) c (ends_even id (due b e) (did e ∷ b) c)
    (even_trans u v (handled id t (step_of e)) c (row_even id b e c links)
    (even_trans v w (handled id t (step_of e)) c (resumed_even b e v c) (followed_even w c (resumed_lively id b e lively))))

batch_even : (t : List Entry) (e : Event) (c : ℕ) → Even t (booked t e) c
batch_even t e c = booked_keeps (λ (u : List Entry). Even t u c) t e
    (λ acts h. record { level = record { added = h.level.added; written = h.level.written; waits = h.level.waits }; known = h.known; lives = h.lives }) (even_refl t c)

pub handled_even : (id : List ℕ) (g : Beginning) (t : List Entry) (e : Event) (c : ℕ) → IsTrace id g t → refuses t e ≡ false → moves e c ≡ false → Even t (handled id t (step_of e)) c
handled_even id g t e c real taken h =
    even_trans t (booked t e) (handled id t (step_of e)) c (batch_even t e c)
    (even_trans (booked t e) (did e ∷ booked t e) (handled id t (step_of e)) c (did_even (booked t e) e c h) (after_even id g t e c real taken))

pub same : (n : ℕ) → (n == n) ≡ true
same n = eq-eqb n n refl

pub none_of : (o : Option Connection) → is_some o ≡ false → o ≡ None
none_of None h = refl
none_of (Some v) h = absurd (true≢false h)

-- a connection comes up
pub up_level : (id : List ℕ) (g : Beginning) (t : List Entry) (d : ConnectionId) (p : Peer) → IsTrace id g t → refuses t (event.Up d p) ≡ false → conn t d.0 ≡ None
    → Level t (handled id t (step_of (event.Up d p))) d.0
up_level id g t d p real taken none =
    let e : Event = event.Up d p
    in let here : (d.0 == d.0) ≡ true = same d.0
    in level_trans t (did e ∷ booked t e) (handled id t (step_of e)) d.0
    (record { added = []; written = sym (append-nil (outs t d.0)); waits = rw here (sym (ap (λ (o : Option Connection). waiting_of o ++ []) none)) })
    (after_even id g t e d.0 real taken).level

-- a connection for which nothing is waiting is lost
pub down_level : (id : List ℕ) (g : Beginning) (t : List Entry) (d : ConnectionId) → IsTrace id g t → refuses t (event.Down d) ≡ false → waiting_of (conn t d.0) ≡ []
    → Level t (handled id t (step_of (event.Down d))) d.0
down_level id g t d real taken none =
    let e : Event = event.Down d
    in let here : (d.0 == d.0) ≡ true = same d.0
    in level_trans t (did e ∷ booked t e) (handled id t (step_of e)) d.0
    (record { added = []; written = sym (append-nil (outs t d.0)); waits = rw here (sym (ap (λ (xs : List Item). xs ++ []) none)) })
    (after_even id g t e d.0 real taken).level

pub down_dead : (id : List ℕ) (g : Beginning) (t : List Entry) (d : ConnectionId) → IsTrace id g t → refuses t (event.Down d) ≡ false → conn (handled id t (step_of (event.Down d))) d.0 ≡ None
down_dead id g t d real taken =
    let e : Event = event.Down d
    in let here : (d.0 == d.0) ≡ true = same d.0
    in none_of (conn (handled id t (step_of e)) d.0) ((after_even id g t e d.0 real taken).known ∙ (rw here refl))

-- the losses: those of the events

goes_lost : (ps : List Put) (t : List Entry) (c : ℕ) → was_lost (goes ps t) c ≡ was_lost t c
goes_lost [] t c = refl
goes_lost (p ∷ ps) t c = goes_lost ps (Out p.conn p.item ∷ t) c

bound_lost : (b : Option Binding) (t : List Entry) (c : ℕ) → was_lost (with_bound b t) c ≡ was_lost t c
bound_lost None t c = refl
bound_lost (Some b) t c = refl

ends_lost : (id : List ℕ) (ds : List ℕ) (t : List Entry) (c : ℕ) → was_lost (ends id ds t) c ≡ was_lost t c
ends_lost id [] t c = refl
ends_lost id (d ∷ ds) t c =
    ends_lost id ds (puts d (closing_of id (conn t d) ResourceLimitExceeded) t) c ∙ goes_lost (each_to d (closing_of id (conn t d) ResourceLimitExceeded)) t c

pub answered_lost : (id : List ℕ) (t : List Entry) (e : Event) (c : ℕ) → was_lost (answered id t (step_of e)) c ≡ (is_loss_of e c || was_lost t c)
answered_lost id t e c =
    let u : List Entry = heard id t (step_of e)
    in all_keep (λ (v : List Entry). was_lost v c ≡ (is_loss_of e c || was_lost t c)) (λ ps v h. goes_lost ps v c ∙ h) (resumed t e (replied id t (step_of e)))
    (resumed_same (λ (v : List Entry). was_lost v c) (λ b v. refl) t e (replied id t (step_of e))
    ∙ copied_same (λ (v : List Entry). was_lost v c) (λ b v. refl) t u e (goes (own_row id t u e) (with_bound (bound_by t u e) u))
    ∙ goes_lost (own_row id t u e) (with_bound (bound_by t u e) u) c ∙ bound_lost (bound_by t u e) u c ∙ ends_lost id (due t e) (did e ∷ t) c)

pub handled_kept : (id : List ℕ) (t : List Entry) (e : Event) (c : ℕ) → is_loss_of e c ≡ false → was_lost (handled id t (step_of e)) c ≡ was_lost t c
handled_kept id t e c other =
    answered_lost id (booked t e) e c ∙ ap (λ b. b || was_lost (booked t e) c) other ∙ booked_same (λ (u : List Entry). was_lost u c) t e (λ acts. refl)

pub still_kept : (e : Event) (c : ℕ) → moves e c ≡ false → is_loss_of e c ≡ false
still_kept (event.Up d p) c h = refl
still_kept (event.Down d) c h = h
still_kept (event.Item d i) c h = refl
still_kept (event.Tick ms) c h = refl
still_kept event.Start c h = refl

-- takes

drop_nil : (n : ℕ) → drop n (waiting_of None) ≡ []
drop_nil zero = refl
drop_nil (suc n) = refl

pub took_waits : (n : ℕ) (o : Option Connection) → waiting_of (option_and_then (took n) o) ≡ drop n (waiting_of o)
took_waits n None = sym (drop_nil n)
took_waits n (Some v) = by_phase (drained n v) v.phase.closed
  where
    over : (w : Connection) (xs : List Item) → w.waiting ≡ xs → waiting_of (unless_empty w xs) ≡ xs
    over w [] h = refl
    over w (x ∷ xs) h = h

    by_phase : (w : Connection) (b : Bool) → waiting_of (if b then unless_empty w w.waiting else Some w) ≡ w.waiting
    by_phase w true = over w w.waiting refl
    by_phase w false = refl

pub took_lives : (n : ℕ) (o : Option Connection) → is_live (option_and_then (took n) o) ≡ true → is_live o ≡ true
took_lives n None h = h
took_lives n (Some v) h = let live : v.phase.closed ≡ false = by_phase (drained n v) v.phase.closed refl h in rw live refl
  where
    over : (w : Connection) (xs : List Item) → w.phase.closed ≡ true → is_live (unless_empty w xs) ≡ true → ⊥
    over w [] e h = true≢false (sym h)
    over w (x ∷ xs) e h = true≢false (sym (rw e at h))

    by_phase : (w : Connection) (b : Bool) → w.phase.closed ≡ b → is_live (if b then unless_empty w w.waiting else Some w) ≡ true → b ≡ false
    by_phase w true e h = absurd (over w w.waiting e h)
    by_phase w false e h = refl

-- nothing is waiting on a connection that isn't ready
pub ready_waits : (o : Option Connection) → is_ready o ≡ false → waiting_of o ≡ []
ready_waits None h = refl
ready_waits (Some v) h = by_test v.phase.closed (λ e. absurd (true≢false (rw e at h))) (λ e. empty v.waiting (rw e at h))
  where
    empty : (xs : List Item) → is_item xs ≡ false → xs ≡ []
    empty [] h = refl
    empty (x ∷ xs) h = absurd (true≢false h)
