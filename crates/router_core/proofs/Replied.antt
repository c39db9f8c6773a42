-- An event's replies keep the order.
use Rattle.std.proofs.Common.{◌≡◌, ◌∙◌, sym, ap, refl, subst, true≢false, ℕ, Bool, true, false, not, List, [], ◌∷◌, inl, inr}
use Rattle.std.specs.Prelude.{◌==◌, ◌⊎◌, Option, Some, None, is_some, option_map, if◌then◌else◌}
use Rattle.std.proofs.lemmas.Bool.{eqb-true, eq-eqb}
use Rattle.amqp_model.specs.declared.perf.Perf.{Perf}
use Rattle.amqp_model.specs.declared.perf.Perf.TheVariants as perf
use Rattle.amqp_model.specs.declared.item.Item.{Item}
use Rattle.amqp_model.specs.declared.item.Item.TheVariants as item
use Rattle.amqp_conn.specs.declared.conn.Conn.{Conn}
use Rattle.amqp_session.specs.declared.states.BeginState.{BeginState}
use Rattle.router_trace.specs.declared.terms.Terms.{Terms}
use Rattle.router_trace.specs.declared.binding.Binding.{Binding}
use Rattle.router_trace.specs.declared.event.ConnectionId.{ConnectionId}
use Rattle.router_trace.specs.declared.event.Event.{Event}
use Rattle.router_trace.specs.declared.event.Event.TheVariants as event
use Rattle.router_trace.specs.Trace.{Entry, Put, did, goes, each_to, ups, with_up, step_of}
use Rattle.router_trace.specs.Connection.{Connection, conn, ended, standing, is_live, has, due, found, live_of}
use Rattle.router_trace.specs.Refusing.{refuses}
use Rattle.router_trace.specs.Frames.{beat_item}
use Rattle.router_trace.specs.Peers.{largest_frame}
use Rattle.router_trace.specs.Sessions.{session, awaited, offered, offered_by, theirs}
use Rattle.router_trace.specs.Clocks.{terms, terms_in, terms_by, channel_max_of}
use Rattle.router_trace.specs.Order.{Written, unwritten, is_open, of_session, have_turns}
use Rattle.router_state.specs.Tables.{beats}
use Rattle.state_messages.specs.Messages.{with_bound}
use Rattle.reply_rows.specs.declared.answer.Answer.{Answer}
use Rattle.reply_rows.specs.Rows.{said}
use Rattle.reply_rows.specs.Acts.{answer_of, book_in}
use Rattle.reply_transfers.specs.Transfers.{part_put, settled_answers}
use Rattle.router_reply.specs.Resuming.{resumed}
use Rattle.router_reply.specs.Replies.{heard, taken, refused, bound_by, item_row, own_row, replied}
use Rattle.router_core.specs.Replies.{answered}
use Rattle.state_connections.proofs.Lists.{by_test, has_push}
use Rattle.state_connections.proofs.Turns.{known}
use Rattle.router_core.proofs.RowOrder.{written_of, has_begun, AreOffered, AnswerFits, answer_fits, place_fits, free_fits, said_turns, said_offered, Opens, open_opens}
use Rattle.router_core.proofs.Once.{filter_has, taken_up}
use Rattle.router_core.proofs.Ordered.{Ordered, Spares, wrote, written_all, puts_turns, bound_turns, bound_ups, spares_on, bound_spares, ends_spares, ends_ups, goes_ups, some_is}
use Rattle.router_core.proofs.Told.{ToldAt, Told, goes_told_at, bound_told_at, ends_told_at, goes_strange, bound_strange, ends_strange, said_told}
use Rattle.router_core.proofs.Flowing.{Fits, AllFit, goes_turns, beats_fit, live_some}
use Rattle.router_core.proofs.Following.{all_keep}
use Rattle.router_core.proofs.Copied.{copied_keeps, copied_same}
use Rattle.router_core.proofs.Resuming.{resumed_keeps, resumed_same}
use Rattle.router_core.proofs.PassedOrder.{followed_turns}
use Rattle.router_core.proofs.Attached.{taken_fit, refused_fit, part_fit, settled_fit}
use Rattle.router_core.proofs.ItemRows.{item_cases}
use Rattle.router_core.proofs.Order.{not_before, found_open, heard_turns}

-- a connection that is live as an event finds it was live, and the event doesn't end it
open_found : (b : Bool) (o : Option Connection) → is_live (if b then option_map ended o else o) ≡ true
    → (v : Connection) × (o ≡ Some v) × (v.phase.closed ≡ false) × (b ≡ false)
open_found true None h = absurd cc
open_found true (Some v) h = absurd cc
open_found false None h = absurd cc
open_found false (Some v) h = (v, refl, by_test v.phase.closed (λ e. absurd (true≢false (sym (rw e at h)))) (λ e. e), refl)

pub record FoundLive (t : List Entry) (e : Event) (c : ℕ) : Type 0 where
  pub view : Connection
  pub known_as : conn t c ≡ Some view
  pub live : view.phase.closed ≡ false
  pub spared : has c (due t e) ≡ false
  pub phase : standing (found t e c) ≡ Some view.phase

pub found_live : (t : List Entry) (e : Event) (c : ℕ) → is_live (found t e c) ≡ true → FoundLive t e c
found_live t e c h =
    let v = open_found (has c (due t e)) (conn t c) h
    in record {
      view = v.0;
      known_as = v.1;
      live = v.2;
      spared = v.3;
      phase = stood (has c (due t e)) (conn t c) v.0 v.3 v.1 v.2;
    }
  where
    stood : (b : Bool) (o : Option Connection) (v : Connection) → b ≡ false → o ≡ Some v → v.phase.closed ≡ false → standing (if b then option_map ended o else o) ≡ Some v.phase
    stood b o v e f g = rw (e, f, g) refl

pub nothing_stands : (p : Option Conn) → is_some p ≡ false → p ≡ None
nothing_stands None h = refl
nothing_stands (Some p) h = absurd cc

-- the closes of connections that an event ends don't change other connections
pub heard_spares : (id : List ℕ) (t : List Entry) (e : Event) (c : ℕ) → has c (due t e) ≡ false → Spares (did e ∷ t) (heard id t (step_of e)) c
heard_spares id t e c spared = ends_spares id (due t e) (did e ∷ t) c spared

-- the row of an item

begun_at : (p : Conn) (b : ℕ → Bool) (own : ℕ) → p.opened ≡ true → p.closed ≡ false → b own ≡ true → of_session (written_of p b) own ≡ true
begun_at p b own opened live begun = rw (opened, live, begun) refl

-- a binding before items doesn't change whether they may be written
fit_bound : (b : Option Binding) (t : List Entry) (ps : List Put) → AllFit t ps → AllFit (with_bound b t) ps
fit_bound None t ps fits = fits
fit_bound (Some b) t [] fits = tt
fit_bound (Some b) t (p ∷ ps) fits = (record { known = fits.0.known; turn = fits.0.turn; quiet = fits.0.quiet }, fit_bound (Some b) t ps fits.1)

-- the items of an event's row, before copies
abbrev put_by : List ℕ → List Entry → Event → List Entry
put_by id t e = goes (own_row id t (heard id t (step_of e)) e) (with_bound (bound_by t (heard id t (step_of e)) e) (heard id t (step_of e)))

row_turns : (id : List ℕ) (t : List Entry) (d : ConnectionId) (i : Item) → Ordered t → FoundLive t (event.Item d i) d.0
    → Ordered (heard id t (step_of (event.Item d i))) → has d.0 (ups (heard id t (step_of (event.Item d i)))) ≡ true
    → Ordered (put_by id t (event.Item d i))
row_turns id t d i ord here heard_ord there =
    let c : ℕ = d.0
    in let e : Event = event.Item d i
    in let u : List Entry = heard id t (step_of e)
    in let bound : Option Binding = bound_by t u e
    in let v : List Entry = with_bound bound u
    in let v_ord : Ordered v = bound_turns bound u heard_ord
    in let v_there : has c (ups v) ≡ true = subst (λ (ks : List ℕ). has c ks ≡ true) (sym (bound_ups bound u)) there
    in let p : Conn = here.view.phase
    in let b : ℕ → Bool = (wrote t c).begun
    in let asked : Option BeginState = offered_by i (offered t c)
    in let begun : (o : ℕ) → b o ≡ has_begun (session t c o) (awaited t c o) = ord.begun c here.view here.known_as here.live
    in let a : Answer = answer_of t c p i
    in let all : AnswerFits p b asked a = answer_fits t c p b (offered t c) i here.live (record {
      places = λ k. place_fits (theirs t c k) (session t c) (awaited t c) b begun;
      room = free_fits t c (channel_max_of (terms t c)) b begun;
    })
    in let spare : Spares (did e ∷ t) v c = spares_on (did e ∷ t) u v c (heard_spares id t e c here.spared) (bound_spares bound u c)
    in let same : wrote v c ≡ written_of p b =
    ap (λ js. written_all js unwritten) spare.outs ∙ ap (λ (q : Conn). written_of q b) (ord.phases c here.view here.known_as here.live)
    in let came : offered (did e ∷ t) c ≡ asked = offered_here
    in let on : (own : ℕ) → (p.opened ≡ true) × (b own ≡ true) → of_session (wrote v c) own ≡ true
    = λ own stands. subst (λ (w : Written). of_session w own ≡ true) (sym same) (begun_at p b own stands.0 here.live stands.1)
    in let before : (own : ℕ) → (p.opened ≡ true) × (b own ≡ true) → of_session (wrote u c) own ≡ true
    = λ own stands. subst (λ (js : List Item). of_session (written_all js unwritten) own ≡ true) ((bound_spares bound u c).outs) (on own stands)
    in subst (λ (s : Option Conn). Ordered (goes (item_row id t u c i s) v)) (sym here.phase)
    (item_cases id t u c p (λ x ps. AnswerFits p b asked x → Ordered (goes ps v))
    (λ x fits. puts_turns (said id p x) v c v_ord
    (subst (λ (w : Written). have_turns w (said id p x) ≡ true) (sym same) (said_turns id p b asked x here.live fits))
    (subst (λ (y : Option BeginState). AreOffered (said id p x) y) (sym (spare.offered ∙ came)) (said_offered id p b asked x fits))
    v_there)
    (λ own ours x fits. goes_turns (taken u c own ours x) v v_ord (fit_bound bound u (taken u c own ours x) (taken_fit u c own ours x heard_ord (before own fits))))
    (λ own handle f x fits. goes_turns (each_to c (refused (largest_frame u c) own handle f x)) v v_ord (refused_fit v (largest_frame u c) c own handle f x v_ord (on own fits)))
    (λ own handle row q fits. goes_turns (each_to c (part_put (book_in t) u c own handle row q)) v v_ord (part_fit (book_in t) v u c own handle row q v_ord (on own fits)))
    (λ own s ids fits. goes_turns (each_to c (settled_answers own s ids)) v v_ord (settled_fit v c own s ids v_ord (on own fits)))
    i a all)
  where
    offered_here : offered (did (event.Item d i) ∷ t) d.0 ≡ offered_by i (offered t d.0)
    offered_here = let same : (d.0 == d.0) ≡ true = eq-eqb d.0 d.0 refl in rw same refl

item_turns : (id : List ℕ) (t : List Entry) (d : ConnectionId) (i : Item) → Ordered t
    → Ordered (heard id t (step_of (event.Item d i))) → has d.0 (ups (heard id t (step_of (event.Item d i)))) ≡ true
    → Ordered (replied id t (step_of (event.Item d i)))
item_turns id t d i ord heard_ord there =
    copied_keeps Ordered (λ b v h. bound_turns (Some b) v h) t u (event.Item d i) (put_by id t (event.Item d i))
    (by_test (is_live (found t (event.Item d i) d.0))
    (λ h. row_turns id t d i ord (found_live t (event.Item d i) d.0 h) heard_ord there)
    (λ h. subst (λ (s : Option Conn). Ordered (goes (item_row id t u d.0 i s) (with_bound bound u))) (sym (nothing_stands (standing (found t (event.Item d i) d.0)) h))
    (bound_turns bound u heard_ord)))
  where
    u : List Entry
    u = heard id t (step_of (event.Item d i))

    bound : Option Binding
    bound = bound_by t u (event.Item d i)

-- heartbeats

open_is : (p : Conn) → p.opened ≡ true → p.closed ≡ false → is_open p ≡ true
open_is p a b = rw (a, b) refl

beat_turns : (id : List ℕ) (t : List Entry) (ms : ℕ) → Ordered t → Told t → Ordered (heard id t (step_of (event.Tick ms)))
    → Ordered (replied id t (step_of (event.Tick ms)))
beat_turns id t ms ord told heard_ord =
    goes_turns (beats t e ms) (heard id t (step_of e)) heard_ord (beats_fit t (heard id t (step_of e)) ms (live_of (ups t) (found t e)) each)
  where
    e : Event
    e = event.Tick ms

    each : (c : ℕ) → has c (live_of (ups t) (found t (event.Tick ms))) ≡ true → is_some (terms t c) ≡ true
        → Fits (heard id t (step_of (event.Tick ms))) (record { conn = c; item = beat_item })
    each c h some =
        let is = filter_has (λ k. is_live (found t (event.Tick ms) k)) c (ups t) h
        in let here : FoundLive t (event.Tick ms) c = found_live t (event.Tick ms) c is.0
        in let spare : Spares (did (event.Tick ms) ∷ t) (heard id t (step_of (event.Tick ms))) c = heard_spares id t (event.Tick ms) c here.spared
        in let phase : (wrote (heard id t (step_of (event.Tick ms))) c).phase ≡ here.view.phase
        = ap (λ js. (written_all js unwritten).phase) spare.outs ∙ ord.phases c here.view here.known_as here.live
        in record {
          known = subst (λ (ks : List ℕ). has c ks ≡ true) (sym (ends_ups id (due t (event.Tick ms)) (did (event.Tick ms) ∷ t))) is.1;
          turn = subst (λ (p : Conn). is_open p ≡ true) (sym phase) (open_is here.view.phase (told.told c here.view here.known_as here.live some) here.live);
          quiet = tt;
        }

-- an event's rows

live_known : (t : List Entry) (c : ℕ) → not (is_live (conn t c)) ≡ false → has c (ups t) ≡ true
live_known t c taken = let v = live_some (conn t c) (taken_up (is_live (conn t c)) taken) in known t c (some_is (conn t c) v.0 v.1)

pub replied_turns : (id : List ℕ) (t : List Entry) (e : Event) → Ordered t → Told t → refuses t e ≡ false → Ordered (replied id t (step_of e))
replied_turns id t (event.Item d i) ord told taken =
    item_turns id t d i ord (heard_turns id t (event.Item d i) ord taken)
    (subst (λ (ks : List ℕ). has d.0 ks ≡ true) (sym (ends_ups id (due t (event.Item d i)) (did (event.Item d i) ∷ t))) (live_known t d.0 taken))
replied_turns id t (event.Down c) ord told taken = heard_turns id t (event.Down c) ord taken
replied_turns id t (event.Up c p) ord told taken = heard_turns id t (event.Up c p) ord taken
replied_turns id t (event.Tick ms) ord told taken = beat_turns id t ms ord told (heard_turns id t (event.Tick ms) ord taken)
replied_turns id t event.Start ord told taken = heard_turns id t event.Start ord taken

pub resumed_turns : (t : List Entry) (e : Event) (u : List Entry) → Ordered u → Ordered (resumed t e u)
resumed_turns t e u ord = resumed_keeps Ordered (λ b v h. bound_turns (Some b) v h) t e u ord

pub answered_turns : (id : List ℕ) (t : List Entry) (e : Event) → Ordered t → Told t → refuses t e ≡ false → Ordered (answered id t (step_of e))
answered_turns id t e ord told taken =
    followed_turns (resumed t e (replied id t (step_of e)))
    (resumed_turns t e (replied id t (step_of e)) (replied_turns id t e ord told taken))

-- an open is answered by an open or a close; nothing else sets the terms

perf_opens : (body : Perf) (channel : ℕ) (payload : List ℕ) (v : Option Terms)
    → ((t : List Entry) (c : ℕ) (p : Conn) → Opens (answer_of t c p (item.Frame false channel body payload))) ⊎ (terms_in body v ≡ v)
perf_opens (perf.Open x) channel payload v = inl (λ t c p. open_opens p x)
perf_opens _ channel payload v = inr refl

item_opens : (i : Item) (v : Option Terms) → ((t : List Entry) (c : ℕ) (p : Conn) → Opens (answer_of t c p i)) ⊎ (terms_by i v ≡ v)
item_opens (item.Frame true channel body payload) v = inr refl
item_opens (item.Frame false channel body payload) v = perf_opens body channel payload v
item_opens _ v = inr refl

event_told : (t : List Entry) (e : Event) → Ordered t → Told t → refuses t e ≡ false → (k : ℕ) → (is_some (terms (did e ∷ t) k) ≡ true → is_some (terms t k) ≡ true) → ToldAt (did e ∷ t) k
event_told t (event.Up d p) ord told taken k same v is live some =
    by_test (d.0 == k)
    (λ h. let none : terms t k ≡ None = told.strange k (subst (λ (n : ℕ). has n (ups t) ≡ false) (eqb-true d.0 k h) (not_before t d ord taken))
    in absurd (true≢false (sym (same some) ∙ ap (λ (x : Option Terms). is_some x) none)))
    (λ h. told.told k v (found_open (has k (due t (event.Up d p))) (conn t k) v (rw h at is) live) live (same some))
event_told t (event.Down d) ord told taken k same v is live some =
    by_test (d.0 == k) (λ h. let no : None ≡ Some v = rw h at is in absurd cc)
    (λ h. told.told k v (found_open (has k (due t (event.Down d))) (conn t k) v (rw h at is) live) live (same some))
event_told t (event.Item d i) ord told taken k same v is live some = told.told k v (found_open (has k (due t (event.Item d i))) (conn t k) v is live) live (same some)
event_told t (event.Tick ms) ord told taken k same v is live some = told.told k v (found_open (has k (due t (event.Tick ms))) (conn t k) v is live) live (same some)
event_told t event.Start ord told taken k same v is live some = told.told k v (found_open (has k (due t event.Start)) (conn t k) v is live) live (same some)

copied_told : (id : List ℕ) (t : List Entry) (e : Event) (k : ℕ) → ToldAt (put_by id t e) k → ToldAt (replied id t (step_of e)) k
copied_told id t e k was =
    copied_keeps (λ (v : List Entry). ToldAt v k) (λ b v h. bound_told_at (Some b) v k h) t (heard id t (step_of e)) e (put_by id t e) was

-- after an event's rows, except for the item's own connection
row_told : (id : List ℕ) (t : List Entry) (e : Event) (k : ℕ) → ToldAt (did e ∷ t) k → ToldAt (replied id t (step_of e)) k
row_told id t e k was =
    let u : List Entry = heard id t (step_of e)
    in copied_told id t e k (goes_told_at (own_row id t u e) (with_bound (bound_by t u e) u) k (bound_told_at (bound_by t u e) u k (ends_told_at id (due t e) (did e ∷ t) k was)))

opened_told : (id : List ℕ) (t : List Entry) (d : ConnectionId) (i : Item) → ((t : List Entry) (c : ℕ) (p : Conn) → Opens (answer_of t c p i))
    → ToldAt (replied id t (step_of (event.Item d i))) d.0
opened_told id t d i opens =
    by_test (is_live (found t (event.Item d i) d.0))
    (λ h. let here : FoundLive t (event.Item d i) d.0 = found_live t (event.Item d i) d.0 h
    in copied_told id t (event.Item d i) d.0 (subst (λ (s : Option Conn). ToldAt (goes (item_row id t u d.0 i s) v) d.0) (sym here.phase)
    (item_cases id t u d.0 here.view.phase (λ a ps. Opens a → ToldAt (goes ps v) d.0)
    (λ a says. said_told id here.view.phase v d.0 a says)
    (λ own ours x says. absurd says)
    (λ own handle f x says. absurd says)
    (λ own handle row q says. absurd says)
    (λ own s ids says. absurd says)
    i (answer_of t d.0 here.view.phase i) (opens t d.0 here.view.phase))))
    (λ h. row_told id t (event.Item d i) d.0 (λ v is live some. absurd (true≢false (sym (lives v live) ∙ sym (ap is_live is) ∙ h))))
  where
    u : List Entry
    u = heard id t (step_of (event.Item d i))

    v : List Entry
    v = with_bound (bound_by t u (event.Item d i)) u

    lives : (v : Connection) → v.phase.closed ≡ false → is_live (Some v) ≡ true
    lives v e = rw e refl

item_told : (id : List ℕ) (t : List Entry) (d : ConnectionId) (i : Item) → Ordered t → Told t → refuses t (event.Item d i) ≡ false
    → ToldAt (replied id t (step_of (event.Item d i))) d.0
item_told id t d i ord told taken = by (item_opens i (terms t d.0))
  where
    here : terms (did (event.Item d i) ∷ t) d.0 ≡ terms_by i (terms t d.0)
    here = let same : (d.0 == d.0) ≡ true = eq-eqb d.0 d.0 refl in rw same refl

    by : ((t : List Entry) (c : ℕ) (p : Conn) → Opens (answer_of t c p i)) ⊎ (terms_by i (terms t d.0) ≡ terms t d.0)
        → ToldAt (replied id t (step_of (event.Item d i))) d.0
    by (inl opens) = opened_told id t d i opens
    by (inr same) =
        row_told id t (event.Item d i) d.0 (event_told t (event.Item d i) ord told taken d.0 (λ some. sym (ap (λ (x : Option Terms). is_some x) (here ∙ same)) ∙ some))

replied_told : (id : List ℕ) (t : List Entry) (e : Event) → Ordered t → Told t → refuses t e ≡ false → (k : ℕ) → ToldAt (replied id t (step_of e)) k
replied_told id t (event.Item d i) ord told taken k =
    by_test (d.0 == k)
    (λ h. subst (λ (n : ℕ). ToldAt (replied id t (step_of (event.Item d i))) n) (eqb-true d.0 k h) (item_told id t d i ord told taken))
    (λ h. row_told id t (event.Item d i) k (event_told t (event.Item d i) ord told taken k (λ some. rw h at some)))
replied_told id t (event.Down d) ord told taken k =
    row_told id t (event.Down d) k (event_told t (event.Down d) ord told taken k
    (λ some. by_test (d.0 == k) (λ h. absurd (true≢false (sym (rw h at some)))) (λ h. rw h at some)))
replied_told id t (event.Up d p) ord told taken k = row_told id t (event.Up d p) k (event_told t (event.Up d p) ord told taken k (λ some. some))
replied_told id t (event.Tick ms) ord told taken k = row_told id t (event.Tick ms) k (event_told t (event.Tick ms) ord told taken k (λ some. some))
replied_told id t event.Start ord told taken k = row_told id t event.Start k (event_told t event.Start ord told taken k (λ some. some))

strange_at : (t : List Entry) (e : Event) → Told t → refuses t e ≡ false → (k : ℕ) → has k (with_up e (ups t)) ≡ false → terms (did e ∷ t) k ≡ None
strange_at t (event.Up d p) told taken k absent = told.strange k (by_test (has k (ups t)) (λ h. absurd (true≢false (sym (has_push k d.0 (ups t) h) ∙ absent))) (λ h. h))
strange_at t (event.Down d) told taken k absent = by_test (d.0 == k) (λ h. rw h refl) (λ h. rw h (told.strange k absent))
strange_at t (event.Item d i) told taken k absent =
    by_test (d.0 == k)
    (λ h. absurd (true≢false (sym (subst (λ (n : ℕ). has n (ups t) ≡ true) (eqb-true d.0 k h) (live_known t d.0 taken)) ∙ absent)))
    (λ h. rw h (told.strange k absent))
strange_at t (event.Tick ms) told taken k absent = told.strange k absent
strange_at t event.Start told taken k absent = told.strange k absent

replied_ups : (id : List ℕ) (t : List Entry) (e : Event) → ups (replied id t (step_of e)) ≡ with_up e (ups t)
replied_ups id t e =
    let u : List Entry = heard id t (step_of e)
    in copied_same ups (λ b v. refl) t u e (put_by id t e)
    ∙ goes_ups (own_row id t u e) (with_bound (bound_by t u e) u) ∙ bound_ups (bound_by t u e) u ∙ ends_ups id (due t e) (did e ∷ t)

answered_ups : (id : List ℕ) (t : List Entry) (e : Event) → ups (answered id t (step_of e)) ≡ with_up e (ups t)
answered_ups id t e =
    all_keep (λ (v : List Entry). ups v ≡ with_up e (ups t)) (λ ps v h. goes_ups ps v ∙ h) (resumed t e (replied id t (step_of e)))
    (resumed_same ups (λ b u. refl) t e (replied id t (step_of e)) ∙ replied_ups id t e)

replied_strange : (id : List ℕ) (t : List Entry) (e : Event) (k : ℕ) → terms (did e ∷ t) k ≡ None → terms (replied id t (step_of e)) k ≡ None
replied_strange id t e k none =
    let u : List Entry = heard id t (step_of e)
    in copied_keeps (λ (v : List Entry). terms v k ≡ None) (λ b v h. bound_strange (Some b) v k h) t u e (put_by id t e)
    (goes_strange (own_row id t u e) (with_bound (bound_by t u e) u) k
    (bound_strange (bound_by t u e) u k (ends_strange id (due t e) (did e ∷ t) k none)))

pub answered_told : (id : List ℕ) (t : List Entry) (e : Event) → Ordered t → Told t → refuses t e ≡ false → Told (answered id t (step_of e))
answered_told id t e ord told taken = record {
  told = λ k. all_keep (λ (v : List Entry). ToldAt v k) (λ ps v h. goes_told_at ps v k h) (resumed t e (replied id t (step_of e)))
      (resumed_keeps (λ (v : List Entry). ToldAt v k) (λ b v h. bound_told_at (Some b) v k h) t e (replied id t (step_of e)) (replied_told id t e ord told taken k));
  strange = λ k absent. all_keep (λ (v : List Entry). terms v k ≡ None) (λ ps v h. goes_strange ps v k h) (resumed t e (replied id t (step_of e)))
      (resumed_keeps (λ (v : List Entry). terms v k ≡ None) (λ b v h. bound_strange (Some b) v k h) t e (replied id t (step_of e))
      (replied_strange id t e k (strange_at t e told taken k (sym (ap (λ ks. has k ks) (answered_ups id t e)) ∙ absent))));
}
