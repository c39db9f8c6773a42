-- In a trace of the router a live connection whose peer's open was received has the router's open, once the event is answered.
use Rattle.std.proofs.Common.{◌≡◌, ◌∙◌, sym, ap, refl, subst, true≢false, ℕ, Bool, true, false, List, [], ◌∷◌}
use Rattle.std.specs.Prelude.{◌==◌, Option, Some, None, is_some, if◌then◌else◌}
use Rattle.std.proofs.lemmas.Bool.{eq-eqb}
use Rattle.amqp_model.specs.declared.perf.Perf.{Perf}
use Rattle.amqp_model.specs.declared.perf.Perf.TheVariants as perf
use Rattle.amqp_model.specs.declared.item.Item.{Item}
use Rattle.amqp_model.specs.declared.item.Item.TheVariants as item
use Rattle.amqp_conn.specs.declared.conn.Conn.{Conn}
use Rattle.router_trace.specs.declared.binding.Binding.{Binding}
use Rattle.router_trace.specs.declared.condition.Condition.{Condition}
use Rattle.router_trace.specs.declared.condition.Condition.TheVariants.{ResourceLimitExceeded}
use Rattle.router_trace.specs.declared.terms.Terms.{Terms}
use Rattle.router_trace.specs.Trace.{Entry, Put, Out, goes, puts, each_to, ups}
use Rattle.router_trace.specs.Connection.{Connection, conn, phase_after, after_perf, has}
use Rattle.router_trace.specs.Frames.{open_item, close_item}
use Rattle.router_trace.specs.Sessions.{unless_close, unless_close_in}
use Rattle.router_trace.specs.Clocks.{terms}
use Rattle.reply_rows.specs.declared.answer.Answer.{Answer}
use Rattle.reply_rows.specs.declared.answer.Answer.TheVariants as answer
use Rattle.state_messages.specs.Messages.{with_bound}
use Rattle.reply_rows.specs.Rows.{said}
use Rattle.router_reply.specs.Replies.{closing_of, ends}
use Rattle.state_connections.proofs.Lists.{by_test}
use Rattle.state_connections.proofs.Turns.{stays}
use Rattle.router_core.proofs.RowOrder.{Opens}
use Rattle.router_core.proofs.Ordered.{with_inv}

-- at a connection
abbrev pub ToldAt : List Entry → ℕ → Type 0
ToldAt t c = (v : Connection) → conn t c ≡ Some v → v.phase.closed ≡ false → is_some (terms t c) ≡ true → v.phase.opened ≡ true

-- at all of them; nothing is known of one that never came up
pub record Told (t : List Entry) : Type 0 where
  pub told : (c : ℕ) → ToldAt t c
  pub strange : (c : ℕ) → has c (ups t) ≡ false → terms t c ≡ None

-- an item put out changes nothing of it
opened_perf_stays : (body : Perf) (p : Conn) → p.opened ≡ true → (after_perf body p).opened ≡ true
opened_perf_stays (perf.Open x) p h = refl
opened_perf_stays _ p h = h

opened_stays : (i : Item) (p : Conn) → p.opened ≡ true → (phase_after i p).opened ≡ true
opened_stays (item.Frame sasl own body payload) p h = opened_perf_stays body p h
opened_stays _ p h = h

terms_were_perf : (body : Perf) (v : Option Terms) → is_some (unless_close_in body v) ≡ true → is_some v ≡ true
terms_were_perf (perf.Close x) v h = absurd cc
terms_were_perf _ v h = h

terms_were : (i : Item) (v : Option Terms) → is_some (unless_close i v) ≡ true → is_some v ≡ true
terms_were (item.Frame sasl own body payload) v h = terms_were_perf body v h
terms_were _ v h = h

no_terms_perf : (body : Perf) (v : Option Terms) → v ≡ None → unless_close_in body v ≡ None
no_terms_perf (perf.Close x) v h = refl
no_terms_perf _ v h = h

no_terms : (i : Item) (v : Option Terms) → v ≡ None → unless_close i v ≡ None
no_terms (item.Frame sasl own body payload) v h = no_terms_perf body v h
no_terms _ v h = h

pub out_told_at : (t : List Entry) (c k : ℕ) (i : Item) → ToldAt t k → ToldAt (Out c i ∷ t) k
out_told_at t c k i was w = by_test (c == k)
    (λ e. rw e (λ is live some. let v = with_inv i (conn t k) w is
    in let open_before : v.0.phase.opened ≡ true = was v.0 v.1 (stays i v.0.phase (ap (λ (u : Connection). u.phase.closed) v.2 ∙ live)) (terms_were i (terms t k) some)
    in ap (λ (u : Connection). u.phase.opened) (sym v.2) ∙ opened_stays i v.0.phase open_before))
    (λ e. rw e (was w))

pub goes_told_at : (ps : List Put) (t : List Entry) (k : ℕ) → ToldAt t k → ToldAt (goes ps t) k
goes_told_at [] t k was = was
goes_told_at (p ∷ ps) t k was = goes_told_at ps (Out p.conn p.item ∷ t) k (out_told_at t p.conn k p.item was)

pub ends_told_at : (id : List ℕ) (cs : List ℕ) (t : List Entry) (k : ℕ) → ToldAt t k → ToldAt (ends id cs t) k
ends_told_at id [] t k was = was
ends_told_at id (c ∷ cs) t k was =
    let items : List Item = closing_of id (conn t c) ResourceLimitExceeded
    in ends_told_at id cs (puts c items t) k (goes_told_at (each_to c items) t k was)

pub bound_told_at : (b : Option Binding) (t : List Entry) (k : ℕ) → ToldAt t k → ToldAt (with_bound b t) k
bound_told_at None t k was = was
bound_told_at (Some b) t k was = was

-- nothing is known of one that never came up
out_strange : (t : List Entry) (c k : ℕ) (i : Item) → terms t k ≡ None → terms (Out c i ∷ t) k ≡ None
out_strange t c k i was = by_test (c == k) (λ e. rw e (no_terms i (terms t k) was)) (λ e. rw e was)

pub goes_strange : (ps : List Put) (t : List Entry) (k : ℕ) → terms t k ≡ None → terms (goes ps t) k ≡ None
goes_strange [] t k was = was
goes_strange (p ∷ ps) t k was = goes_strange ps (Out p.conn p.item ∷ t) k (out_strange t p.conn k p.item was)

pub ends_strange : (id : List ℕ) (cs : List ℕ) (t : List Entry) (k : ℕ) → terms t k ≡ None → terms (ends id cs t) k ≡ None
ends_strange id [] t k was = was
ends_strange id (c ∷ cs) t k was =
    let items : List Item = closing_of id (conn t c) ResourceLimitExceeded
    in ends_strange id cs (puts c items t) k (goes_strange (each_to c items) t k was)

pub bound_strange : (b : Option Binding) (t : List Entry) (k : ℕ) → terms t k ≡ None → terms (with_bound b t) k ≡ None
bound_strange None t k was = was
bound_strange (Some b) t k was = was

-- after the router's open the connection is open, and after a close it isn't live
open_told : (id : List ℕ) (t : List Entry) (c : ℕ) → ToldAt (Out c (open_item id) ∷ t) c
open_told id t c w is live some =
    let here : (c == c) ≡ true = eq-eqb c c refl
    in let v = with_inv (open_item id) (conn t c) w (rw here at is)
    in ap (λ (u : Connection). u.phase.opened) (sym v.2)

close_told : (t : List Entry) (c : ℕ) (x : Option Condition) → ToldAt (Out c (close_item x) ∷ t) c
close_told t c x w is live some =
    let here : (c == c) ≡ true = eq-eqb c c refl
    in let v = with_inv (close_item x) (conn t c) w (rw here at is)
    in absurd (true≢false (ap (λ (u : Connection). u.phase.closed) v.2 ∙ live))

pub said_told : (id : List ℕ) (p : Conn) (t : List Entry) (c : ℕ) (a : Answer) → Opens a → ToldAt (puts c (said id p a) t) c
said_told id p t c answer.Open opens = open_told id t c
said_told id p t c (answer.CloseWith x) opens =
    by_test p.opened
    (λ e. subst (λ (b : Bool). ToldAt (puts c (if b then close_item (Some x) ∷ [] else open_item id ∷ close_item (Some x) ∷ []) t) c) (sym e) (close_told t c (Some x)))
    (λ e. subst (λ (b : Bool). ToldAt (puts c (if b then close_item (Some x) ∷ [] else open_item id ∷ close_item (Some x) ∷ []) t) c) (sym e) (close_told (Out c (open_item id) ∷ t) c (Some x)))
said_told id p t c _ opens = absurd opens
