-- Each connection is answered alone: a trace's part that is about it is made by the events about it alone.
use Rattle.std.proofs.Common.{◌≡◌, ◌∙◌, sym, ap, refl, subst, true≢false, ℕ, Bool, true, false, List, [], ◌∷◌}
use Rattle.std.specs.Prelude.{is_some, if◌then◌else◌, Option, Some, None}
use Rattle.std.specs.List.{list_any}
use Rattle.std.proofs.lemmas.Bool.{eqb-true}
use Rattle.book_model.specs.declared.act.Act.{Act}
use Rattle.router_trace.specs.Trace.{Beginning}
use Rattle.router_trace.specs.Configuration.{beginning}
use Rattle.router_trace.specs.declared.binding.Binding.{Binding}
use Rattle.router_trace.specs.declared.event.Event.{Event}
use Rattle.router_trace.specs.declared.event.Event.TheVariants as event
use Rattle.router_trace.specs.Trace.{Entry, Did, Booked, Put, Step, goes, each_to, ups}
use Rattle.router_trace.specs.Connection.{conn, due, found, has, is_due, is_full, is_live, standing}
use Rattle.router_trace.specs.Clocks.{terms, written, needs_beat}
use Rattle.router_trace.specs.Following.{tells, sends_due, drains_due}
use Rattle.router_trace.specs.Sessions.{session}
use Rattle.router_trace.specs.Refusing.{refuses}
use Rattle.state_sessions.specs.Windows.{flows_below, windows}
use Rattle.router_state.specs.Tables.{beat_if}
use Rattle.state_messages.specs.Messages.{grants_due, with_bound}
use Rattle.reply_rows.specs.Finding.{finds}
use Rattle.router_reply.specs.Resuming.{resumed}
use Rattle.router_reply.specs.Replies.{heard, bound_by, copied_by, own_row, replied}
use Rattle.router_after.specs.After.{widened}
use Rattle.reply_rows.specs.Acts.{booked}
use Rattle.router_core.specs.Replies.{answered, handled}
use Rattle.core_machine.specs.Moves.{Taking, took_one}
use Rattle.router_core.specs.Moves.{Goes, outs}
use Rattle.core_machine.specs.Moves.{Move, handles, takes}
use Rattle.theorems.specs.Takes.{events_of}
use Rattle.theorems.specs.Alone.{is_about, own_events, own_part, comes_up, NeverAttaches, Undisturbed}
use Rattle.router_core.specs.Attaches.{brings_attach}
use Rattle.state_connections.proofs.Lists.{by_test}
use Rattle.state_connections.proofs.Turns.{due_none}
use Rattle.router_core.proofs.Booking.{booked_keeps, booked_same, taken_booked}
use Rattle.router_core.proofs.Copied.{copied_keeps, copied_same}
use Rattle.router_core.proofs.Once.{NoTwice, neither, filter_has}
use Rattle.router_core.proofs.Attachless.{said_to, row_said, less_row, less_windows, Unlinked, Unnamed, unlinked_did, unlinked_goes}
use Rattle.theorems.proofs.MineLinks.{linkless, Unclaimed, own_finds}
use Rattle.theorems.proofs.Idle.{unnamed_goes, unnamed_did, unclaimed_did, unclaimed_goes}
use Rattle.theorems.proofs.WindowsKept.{none_row, none_window}
use Rattle.router_core.proofs.Ordered.{Ordered, Spares, Without, goes_spares, spares_self, spares_on, bound_spares}
use Rattle.router_core.proofs.PassedOrder.{passed_turns}
use Rattle.router_core.proofs.Order.{took_turns, batch_turns, ordered_start}
use Rattle.router_core.proofs.Told.{Told}
use Rattle.router_core.proofs.Replied.{heard_spares, replied_turns, resumed_turns, answered_turns, answered_told}
use Rattle.router_core.proofs.Holding.{took_told}
use Rattle.theorems.proofs.Headed.{item_without, on_without}
use Rattle.router_core.proofs.Due.{AllOnLinks, tells_on, sends_on, drains_on, grants_on}
use Rattle.router_core.proofs.Following.{Steps, passed_on, passed_keeps, each_keeps}
use Rattle.router_core.proofs.Resuming.{resumed_keeps, resumed_same}
use Rattle.theorems.proofs.Mine.{apart, own_terms, own_written, own_session, own_outs, Eased, eased_goes, found_same, own_phase}
use Rattle.theorems.proofs.Only.{only, only_none, own_goes, each_all, lives_known, only_windows, only_beats, own_ends, eased_ends}
use Rattle.theorems.proofs.WindowsWide.{settled}

-- what is put out for a connection, computed from its own part of a trace: an event's row, the flows that follow, and all of it
abbrev own_answer : List ℕ → ℕ → List Entry → Event → List Put
own_answer id c x (event.Item d i) = each_to c (said_to id (apart x c) (linkless x c) i)
own_answer id c x (event.Tick ms) = if is_some (apart x c) then beat_if (needs_beat (terms x c) (written x c) ms) c else []
own_answer id c x _ = []

abbrev own_flows : ℕ → List Entry → List Put
own_flows c x = if is_some (apart x c) then flows_below c (session x c) 15 else []

abbrev own_followed : ℕ → List Entry → List Entry
own_followed c x = goes (own_flows c x) x

abbrev own_answered : List ℕ → ℕ → List Entry → Step → List Entry
own_answered id c x s = own_followed c (goes (own_answer id c x s.event) (Did s ∷ x))

-- the trace that events alone make
abbrev own_all : List ℕ → ℕ → List Step → List Entry → List Entry
own_all id c [] x = x
own_all id c (s ∷ ss) x = own_all id c ss (own_answered id c x s)

-- after the flows no more are due
settled_followed : (c : ℕ) (y : List Entry) → own_flows c (own_followed c y) ≡ []
settled_followed c y =
    by_test (is_some (apart y c))
    (λ e. let flows : own_flows c y ≡ flows_below c (session y c) 15 = rw e refl
    in ap (λ (ps : List Put). own_flows c (goes ps y)) flows
    ∙ none_if (is_some (apart (goes (flows_below c (session y c) 15) y) c)) (flows_below c (session (goes (flows_below c (session y c) 15) y) c) 15) (settled y c))
    (λ e. let none : own_flows c y ≡ [] = rw e refl
    in ap (λ (ps : List Put). own_flows c (goes ps y)) none ∙ none)
  where
    none_if : (b : Bool) (ps : List Put) → ps ≡ [] → (if b then ps else []) ≡ []
    none_if true ps h = h
    none_if false ps h = refl

same_flows : (t : List Entry) (c : ℕ) → Eased c t → NoTwice (ups t) → only c (windows t) ≡ own_flows c (own_part c t)
same_flows t c eased once =
    only_windows t c once ∙ (λ j. if is_some (own_phase t c eased j) then flows_below c (λ o. own_session t c o j) 15 else [])

same_widened : (t : List Entry) (c : ℕ) → Eased c t → NoTwice (ups t) → own_part c (widened t) ≡ own_followed c (own_part c t)
same_widened t c eased once = own_goes c (windows t) t ∙ ap (λ (ps : List Put). goes ps (own_part c t)) (same_flows t c eased once)

-- an event's row

row_about : (id : List ℕ) (t u : List Entry) (e : Event) (c : ℕ) → has c (due t e) ≡ false → Eased c t → NoTwice (ups t) → Unlinked c t → Unnamed c t → Unclaimed c t → brings_attach e ≡ false
    → is_about c e ≡ true → only c (own_row id t u e) ≡ own_answer id c (own_part c t) e
row_about id t u (event.Item d i) c spared eased once unlinked unnamed unclaimed none about =
    let e : Event = event.Item d i
    in let same : d.0 ≡ c = eqb-true d.0 c about
    in let phase : standing (found t e c) ≡ apart (own_part c t) c = ap standing (found_same t e c spared) ∙ own_phase t c eased
    in ap (only c) (row_said id t u d.0 i (standing (found t e d.0)) (subst (λ (n : ℕ). Unlinked n t) (sym same) unlinked) (subst (λ (n : ℕ). Unnamed n t) (sym same) unnamed) none)
    ∙ each_all (said_to id (standing (found t e d.0)) (finds t d.0) i) d.0 c about
    ∙ (λ j. each_to (same j) (said_to id (standing (found t e (same j))) (finds t (same j)) i))
    ∙ (λ j. each_to c (said_to id (phase j) (own_finds t c unlinked unclaimed j) i))
row_about id t u (event.Tick ms) c spared eased once unlinked unnamed unclaimed none about =
    let e : Event = event.Tick ms
    in let same = found_same t e c spared
    in let phase : standing (found t e c) ≡ apart (own_part c t) c = ap standing same ∙ own_phase t c eased
    in only_beats t (found t e) ms c once (λ h. lives_known t c (sym (ap is_live same) ∙ h))
    ∙ (λ j. if is_some (phase j) then beat_if (needs_beat (own_terms t c j) (own_written t c j) ms) c else [])
row_about id t u (event.Down d) c spared eased once unlinked unnamed unclaimed none about = refl
row_about id t u (event.Up d p) c spared eased once unlinked unnamed unclaimed none about = refl
row_about id t u event.Start c spared eased once unlinked unnamed unclaimed none about = refl

row_else : (id : List ℕ) (t u : List Entry) (e : Event) (c : ℕ) → Unlinked c u → is_about c e ≡ false → Without c (own_row id t u e)
row_else id t u (event.Item d i) c unlinked other = item_without id t u d.0 c i (standing (found t (event.Item d i) d.0)) unlinked other
row_else id t u (event.Tick ms) c unlinked other = absurd cc
row_else id t u (event.Down d) c unlinked other = tt
row_else id t u (event.Up d p) c unlinked other = tt
row_else id t u event.Start c unlinked other = tt

-- the state of a trace along moves
record Fine (c : ℕ) (t : List Entry) : Type 0 where
  ordered : Ordered t
  told : Told t
  eased : Eased c t
  unlinked : Unlinked c t
  unnamed : Unnamed c t
  unclaimed : Unclaimed c t
  settled : own_flows c (own_part c t) ≡ []

not_due : (t : List Entry) (e : Event) (c : ℕ) → is_full (conn t c) ≡ false → has c (due t e) ≡ false
not_due t e c roomy =
    by_test (has c (due t e))
    (λ h. absurd (true≢false (sym (filter_has (λ k. is_due e k (conn t k)) c (ups t) h).0 ∙ due_none e c (conn t c) roomy)))
    (λ h. h)

-- an event with all that it put out
record Stepped (id : List ℕ) (c : ℕ) (t : List Entry) (s : Step) : Type 0 where
  fine : Fine c (answered id t s)
  about : is_about c s.event ≡ true → own_part c (answered id t s) ≡ own_answered id c (own_part c t) s
  other : is_about c s.event ≡ false → own_part c (answered id t s) ≡ own_part c t

-- no link is attached on it after an event's row
row_unlinked : (id : List ℕ) (t u v : List Entry) (e : Event) (c : ℕ) → (is_about c e ≡ true → brings_attach e ≡ false) → Unlinked c u → Unlinked c v
    → Unlinked c (goes (own_row id t u e) v)
row_unlinked id t u v e c bare unlinked before =
    by_test (is_about c e)
    (λ own. unlinked_goes c (own_row id t u e) v (less_row id t u e (bare own)) before)
    (λ other o h. (goes_spares (own_row id t u e) v c (row_else id t u e c unlinked other)).link o h ∙ before o h)

own_bound : (c : ℕ) (b : Option Binding) (t : List Entry) → own_part c (with_bound b t) ≡ own_part c t
own_bound c None t = refl
own_bound c (Some b) t = refl

eased_bound : (c : ℕ) (b : Option Binding) (t : List Entry) → Eased c t → Eased c (with_bound b t)
eased_bound c None t eased = eased
eased_bound c (Some b) t eased = eased

-- what follows an event's rows doesn't concern a connection without links, before narrow windows are restored
record Aside (c : ℕ) (t u : List Entry) : Type 0 where
  part : own_part c u ≡ own_part c t
  spares : Spares t u c

aside_goes : (c : ℕ) (t u : List Entry) (ps : List Put) → Unlinked c t → AllOnLinks u ps → Aside c t u → Aside c t (goes ps u)
aside_goes c t u ps unlinked all aside =
    let without : Without c ps = on_without u c (λ o h. aside.spares.link o h ∙ unlinked o h) ps all
    in record {
      part = own_goes c ps u ∙ ap (λ (qs : List Put). goes qs (own_part c u)) (only_none c ps without) ∙ aside.part;
      spares = spares_on t u (goes ps u) c aside.spares (goes_spares ps u c without);
    }

aside_steps : (c : ℕ) (t : List Entry) → Unlinked c t → Steps (Aside c t)
aside_steps c t unlinked = record {
  telling = λ u aside. aside_goes c t u (tells u) unlinked (tells_on u) aside;
  sending = λ u aside. aside_goes c t u (sends_due u) unlinked (sends_on u) aside;
  draining = λ u aside. aside_goes c t u (drains_due u) unlinked (drains_on u) aside;
  granting = λ u aside. aside_goes c t u (grants_due u) unlinked (grants_on u) aside;
}

passed_aside : (c : ℕ) (t : List Entry) → Unlinked c t → Aside c t (passed_on t)
passed_aside c t unlinked = passed_keeps (Aside c t) (aside_steps c t unlinked) t (record { part = refl; spares = spares_self t c })

-- the state of the connection after an event's rows
record Rowed (id : List ℕ) (c : ℕ) (t : List Entry) (s : Step) : Type 0 where
  ordered : Ordered (replied id t s)
  eased : Eased c (replied id t s)
  unlinked : Unlinked c (replied id t s)
  unnamed : Unnamed c (replied id t s)
  unclaimed : Unclaimed c (replied id t s)
  before : Unlinked c (heard id t s)
  part : own_part c (replied id t s) ≡ goes (only c (own_row id t (heard id t s) s.event)) (own_part c (Did s ∷ t))

copies_spare : (c : ℕ) (t after : List Entry) (e : Event) (u : List Entry) → Spares u (copied_by t after e u) c
copies_spare c t after e u = copied_keeps (λ (v : List Entry). Spares u v c) (λ b v s. spares_on u v (with_bound (Some b) v) c s (bound_spares (Some b) v c)) t after e u (spares_self u c)

rowed : (id : List ℕ) (c : ℕ) (t : List Entry) (s : Step) → Fine c t → refuses t s.event ≡ false → is_full (conn t c) ≡ false
    → (comes_up c s.event ≡ true → is_live (conn (Did s ∷ t) c) ≡ true) → (is_about c s.event ≡ true → brings_attach s.event ≡ false) → Rowed id c t s
rowed id c t s fine taken roomy lives bare =
    let spared : has c (due t s.event) ≡ false = not_due t s.event c roomy
    in let u : List Entry = heard id t s
    in let row : List Put = own_row id t u s.event
    in let bound : Option Binding = bound_by t u s.event
    in let v : List Entry = with_bound bound u
    in let spare : Spares (Did s ∷ t) u c = heard_spares id t s.event c spared
    in let spare_v : Spares (Did s ∷ t) v c = spares_on (Did s ∷ t) u v c spare (bound_spares bound u c)
    in let before : Unlinked c u = λ o h. spare.link o h ∙ unlinked_did c t s fine.unlinked o h
    in let put : List Entry = goes row v
    in let copies : Spares put (replied id t s) c = copies_spare c t u s.event put
    in record {
      ordered = replied_turns id t s.event fine.ordered fine.told taken;
      eased = copied_keeps (Eased c) (λ b w h. eased_bound c (Some b) w h) t u s.event put
          (eased_goes c row v (eased_bound c bound u (eased_ends id (due t s.event) (Did s ∷ t) c ((spared, lives), fine.eased))));
      unlinked = λ o h. copies.link o h ∙ row_unlinked id t u v s.event c bare before (λ q k. spare_v.link q k ∙ unlinked_did c t s fine.unlinked q k) o h;
      unnamed = λ o n. copies.named o n ∙ unnamed_goes c row v (none_row id t u s.event) (λ q k. spare_v.named q k ∙ unnamed_did c t s fine.unnamed q k) o n;
      unclaimed = λ o n. copies.claims o n (unclaimed_goes c row v (λ q k. spare_v.claims q k (unclaimed_did c t s fine.unlinked fine.unclaimed q k)) o n);
      before = before;
      part = copied_same (own_part c) (λ b w. own_bound c (Some b) w) t u s.event put ∙ own_goes c row v ∙ ap (goes (only c row)) (own_bound c bound u ∙ own_ends id (due t s.event) (Did s ∷ t) c spared);
    }

-- the same once the rows are bound that the event's attach takes up: a binding changes none of it
bindings_spare : (c : ℕ) (t : List Entry) (e : Event) (u : List Entry) → Spares u (resumed t e u) c
bindings_spare c t e u = resumed_keeps (λ (v : List Entry). Spares u v c) (λ b v s. spares_on u v (with_bound (Some b) v) c s (bound_spares (Some b) v c)) t e u (spares_self u c)

record Bindings (id : List ℕ) (c : ℕ) (t : List Entry) (s : Step) : Type 0 where
  ordered : Ordered (resumed t s.event (replied id t s))
  eased : Eased c (resumed t s.event (replied id t s))
  unlinked : Unlinked c (resumed t s.event (replied id t s))
  unnamed : Unnamed c (resumed t s.event (replied id t s))
  unclaimed : Unclaimed c (resumed t s.event (replied id t s))
  part : own_part c (resumed t s.event (replied id t s)) ≡ own_part c (replied id t s)

bindings : (id : List ℕ) (c : ℕ) (t : List Entry) (s : Step) → Rowed id c t s → Bindings id c t s
bindings id c t s r =
    let spare : Spares (replied id t s) (resumed t s.event (replied id t s)) c = bindings_spare c t s.event (replied id t s)
    in record {
      ordered = resumed_turns t s.event (replied id t s) r.ordered;
      eased = resumed_keeps (Eased c) (λ b v h. eased_bound c (Some b) v h) t s.event (replied id t s) r.eased;
      unlinked = λ o h. spare.link o h ∙ r.unlinked o h;
      unnamed = λ o n. spare.named o n ∙ r.unnamed o n;
      unclaimed = λ o n. spare.claims o n (r.unclaimed o n);
      part = resumed_same (own_part c) (λ b v. own_bound c (Some b) v) t s.event (replied id t s);
    }

stepped : (id : List ℕ) (c : ℕ) (t : List Entry) (s : Step) → Fine c t → refuses t s.event ≡ false → is_full (conn t c) ≡ false
    → (comes_up c s.event ≡ true → is_live (conn (Did s ∷ t) c) ≡ true) → (is_about c s.event ≡ true → brings_attach s.event ≡ false) → Stepped id c t s
stepped id c t s fine taken roomy lives bare =
    let spared : has c (due t s.event) ≡ false = not_due t s.event c roomy
    in let u : List Entry = heard id t s
    in let row : List Put = own_row id t u s.event
    in let r : Rowed id c t s = rowed id c t s fine taken roomy lives bare
    in let next : List Entry = resumed t s.event (replied id t s)
    in let b : Bindings id c t s = bindings id c t s r
    in let behind : List Entry = passed_on next
    in let aside : Aside c next behind = passed_aside c next b.unlinked
    in let eased : Eased c behind = each_keeps (Eased c) (eased_goes c) next b.eased
    in let all : own_part c (answered id t s) ≡ own_followed c (own_part c (replied id t s))
    = same_widened behind c eased (passed_turns next b.ordered).once ∙ ap (own_followed c) (aside.part ∙ b.part)
    in record {
      fine = record {
        ordered = answered_turns id t s.event fine.ordered fine.told taken;
        told = answered_told id t s.event fine.ordered fine.told taken;
        eased = eased_goes c (windows behind) behind eased;
        unlinked = unlinked_goes c (windows behind) behind (less_windows behind) (λ o h. aside.spares.link o h ∙ b.unlinked o h);
        unnamed = unnamed_goes c (windows behind) behind (none_window behind) (λ o n. aside.spares.named o n ∙ b.unnamed o n);
        unclaimed = unclaimed_goes c (windows behind) behind (λ o n. aside.spares.claims o n (b.unclaimed o n));
        settled = ap (own_flows c) all ∙ settled_followed c (own_part c (replied id t s));
      };
      about = λ e.
          let did : own_part c (Did s ∷ t) ≡ Did s ∷ own_part c t = rw e refl
          in all ∙ ap (own_followed c) (r.part
          ∙ (λ j. goes (row_about id t u s.event c spared fine.eased fine.ordered.once fine.unlinked fine.unnamed fine.unclaimed (bare e) e j) (did j)));
      other = λ e.
          let did : own_part c (Did s ∷ t) ≡ own_part c t = rw e refl
          in all ∙ ap (own_followed c) (r.part ∙ (λ j. goes (only_none c row (row_else id t u s.event c r.before e) j) (did j)))
          ∙ ap (λ (ps : List Put). goes ps (own_part c t)) fine.settled;
    }

-- moves

fine_took : (c : ℕ) (t : List Entry) (x : Taking) → Fine c t → Fine c (took_one x t)
fine_took c t x fine = record {
  ordered = took_turns t x.conn.0 _ fine.ordered;
  told = took_told t x.conn.0 _ fine.told;
  eased = fine.eased;
  unlinked = fine.unlinked;
  unnamed = fine.unnamed;
  unclaimed = fine.unclaimed;
  settled = fine.settled;
}

fine_batch : (c : ℕ) (t : List Entry) (acts : List Act) {full : List ℕ} → Fine c t → Fine c (Booked acts full ∷ t)
fine_batch c t acts fine = record {
  ordered = batch_turns t acts fine.ordered;
  told = record { told = fine.told.told; strange = fine.told.strange };
  eased = fine.eased;
  unlinked = fine.unlinked;
  unnamed = fine.unnamed;
  unclaimed = fine.unclaimed;
  settled = fine.settled;
}

-- an event about a connection on which no attach is received brings none
never_first : (c : ℕ) (s : Step) (ss : List Step) → NeverAttaches c (s ∷ ss) → is_about c s.event ≡ true → brings_attach s.event ≡ false
never_first c s ss never own = (neither (brings_attach s.event) _ (rw own at never)).0

never_rest : (c : ℕ) (s : Step) (ss : List Step) → NeverAttaches c (s ∷ ss) → NeverAttaches c ss
never_rest c s ss never = by_test (is_about c s.event) (λ e. (neither (brings_attach s.event) _ (rw e at never)).1) (λ e. rw e at never)

own_moves : (id : List ℕ) (c : ℕ) (ms : List Move) (t u : List Entry) → Fine c t → Undisturbed id c ms t → NeverAttaches c (events_of ms) → Goes id ms t u
    → own_part c u ≡ own_all id c (own_events c (events_of ms)) (own_part c t)
own_moves id c [] t u fine alone never went = ap (own_part c) went
own_moves id c (handles s ∷ ms) t u fine alone never went =
    let b : List Entry = booked t s.event
    in let next : Stepped id c b s = stepped id c b s (booked_keeps (Fine c) t s.event (λ acts f. fine_batch c t acts f) fine)
    (taken_booked t s.event went.0)
    (booked_same (λ (v : List Entry). is_full (conn v c)) t s.event (λ acts. refl) ∙ alone.0)
    (λ up. booked_same (λ (v : List Entry). is_live (conn (Did s ∷ v) c)) t s.event (λ acts. refl) ∙ alone.1 up)
    (never_first c s (events_of ms) never)
    in let part : own_part c b ≡ own_part c t = booked_same (own_part c) t s.event (λ acts. refl)
    in let rest : own_part c u ≡ own_all id c (own_events c (events_of ms)) (own_part c (handled id t s))
    = own_moves id c ms (handled id t s) u next.fine alone.2 (never_rest c s (events_of ms) never) went.1
    in by_test (is_about c s.event)
    (λ e. rw e (rest ∙ ap (own_all id c (own_events c (events_of ms))) (next.about e ∙ ap (λ (x : List Entry). own_answered id c x s) part)))
    (λ e. rw e (rest ∙ ap (own_all id c (own_events c (events_of ms))) (next.other e ∙ part)))
own_moves id c (takes x ∷ ms) t u fine alone never went = own_moves id c ms (took_one x t) u (fine_took c t x fine) alone never went

fine_start : (c : ℕ) (g : Beginning) → Fine c (beginning g)
fine_start c g = record {
  ordered = ordered_start g;
  told = record { told = λ k v is live some. absurd cc; strange = λ k absent. refl };
  eased = tt;
  unlinked = λ o h. refl;
  unnamed = λ o n. refl;
  unclaimed = λ o n. refl;
  settled = refl;
}

pub answered_alone : (id : List ℕ) (g : Beginning) (c : ℕ) (ms ns : List Move) (t u : List Entry) → Goes id ms (beginning g) t → Goes id ns (beginning g) u
    → Undisturbed id c ms (beginning g) → Undisturbed id c ns (beginning g)
    → own_events c (events_of ms) ≡ own_events c (events_of ns) → NeverAttaches c (events_of ms) → (own_part c t ≡ own_part c u) × (outs t c ≡ outs u c)
answered_alone id g c ms ns t u went too alone alone_too same never =
    let never_too : NeverAttaches c (events_of ns) = ap (λ (ss : List Step). list_any (λ s. brings_attach s.event) ss) (sym same) ∙ never
    in let alike : own_part c t ≡ own_part c u
    = own_moves id c ms (beginning g) t (fine_start c g) alone never went ∙ ap (λ (ss : List Step). own_all id c ss (beginning g)) same
    ∙ sym (own_moves id c ns (beginning g) u (fine_start c g) alone_too never_too too)
    in (alike, own_outs t c ∙ ap (λ (x : List Entry). outs x c) alike ∙ sym (own_outs u c))
