-- In every trace of the router that was opened on a sound book, a row that is taken up brings the outcome that the book has of it.
use Rattle.std.proofs.Common.{◌≡◌, ◌∙◌, sym, ap, refl, subst, ◌⊎◌, inl, inr, ℕ, ◌<◌, List, [], ◌∷◌, ◌++◌}
use Rattle.std.specs.Prelude.{Option, Some, None, option_map, true, false}
use Rattle.amqp_model.specs.declared.perf.Attach.{Attach as AnAttach}
use Rattle.amqp_model.specs.declared.state.DeliveryState.{DeliveryState}
use Rattle.amqp_model.specs.declared.item.Item.{Item}
use Rattle.book_laws.proofs.KeptSound.{empty_sound, acts_keep}
use Rattle.book_model.specs.declared.row.Row.{Row as ARow}
use Rattle.book_model.specs.declared.row.RowNumber.{RowNumber}
use Rattle.book_model.specs.declared.terminus.LinkKey.{LinkKey}
use Rattle.book_model.specs.declared.terminus.LinkRole.TheVariants.{Producer}
use Rattle.book_model.specs.Book.{BookView, row_at, same_role, terminus_of}
use Rattle.book_model.specs.Sound.{IsSound}
use Rattle.book_core.specs.Rising.{Rises}
use Rattle.gate_journal.specs.Ordered.{IsOrdered, number_of_row}
use Rattle.journal_store.proofs.Sound.{sound_is_ordered}
use Rattle.journal_store.specs.Acting.{journal_outcome}
use Rattle.resume_core.specs.Resuming.{entries_of, told_of, outcome_given, decided_by, either_outcome, outcome_after}
use Rattle.reply_rows.specs.declared.answer.Answer.{Answer}
use Rattle.router_trace.specs.Configuration.{beginning, opened}
use Rattle.router_trace.specs.Connection.{conn, due}
use Rattle.router_trace.specs.Deliveries.{outcome_among, outcome_as, acts_found, bound, holds_standing, name_in, is_message, rank_in}
use Rattle.router_trace.specs.declared.handle.Attachment.{Attachment}
use Rattle.router_trace.specs.Trace.{Beginning, Trace, Did, Out, Took, Bound, Put, Step, did, step_of, goes, puts, each_to}
use Rattle.router_trace.specs.declared.binding.Binding.{Binding}
use Rattle.router_trace.specs.declared.binding.BindingKind.{BindingKind}
use Rattle.router_trace.specs.declared.binding.BindingKind.TheVariants as kind
use Rattle.router_trace.specs.declared.binding.Holding.{Holding}
use Rattle.router_trace.specs.declared.binding.Holding.TheVariants as holding
use Rattle.router_trace.specs.declared.binding.JoinedTo.{JoinedTo}
use Rattle.router_trace.specs.declared.binding.Origin.{Origin}
use Rattle.router_trace.specs.declared.binding.TakenUp.{TakenUp}
use Rattle.router_trace.specs.declared.condition.Condition.TheVariants.{ResourceLimitExceeded}
use Rattle.router_trace.specs.declared.event.Event.{Event}
use Rattle.router_trace.specs.declared.event.Event.TheVariants as event
use Rattle.state_messages.specs.Messages.{copy_to, lasts, with_bound}
use Rattle.reply_rows.specs.Acts.{event_answer, answer_acts, planned_acts, finds_full, journaled, book_found, book_in, acts_of, booked}
use Rattle.reply_rows.specs.Asking.{resumed_key}
use Rattle.router_reply.specs.Replies.{closing_of, ends, heard, bound_by, own_row, replied}
use Rattle.router_reply.specs.Resuming.{resumed}
use Rattle.core_machine.specs.Moves.{Move, handles, takes, took_one}
use Rattle.router_core.specs.Moves.{Goes, IsTrace}
use Rattle.router_core.specs.Replies.{handled}
use Rattle.router_core.proofs.Copied.{copies_keep}
use Rattle.router_core.proofs.Following.{all_keep}
use Rattle.theorems.specs.Admitted.{IsAdmittedUnder}
use Rattle.theorems.specs.Came.{last_found, TakesUp, IsOutcomeThen, BringsItsOutcome, HoldsRow, JoinsRow, SettlesRow, BindsAs}
use Rattle.theorems.specs.Each.{EachBound}
use Rattle.theorems.proofs.Admitted.{is_taken_up, bound_not_taken, bound_row, bound_lasting as bound_lasting_as}
use Rattle.theorems.proofs.AllSound.{acted_sound, event_binds, handled_sound}
use Rattle.theorems.proofs.Booked.{acts_apply, answer_for, RowAfter, row_after}
use Rattle.theorems.proofs.Lasting.{Lasting, booked_lasting, did_lasting, out_lasting, RowLasts, bound_lasting, message_lasts, joined_lasts, taken_lasts}
use Rattle.theorems.proofs.Held.{held_below, settles_standing}
use Rattle.theorems.proofs.Joins.{joined_below, joined_role}
use Rattle.theorems.proofs.Looking.{found_in}
use Rattle.theorems.proofs.Rows.{Rows, start_rows, took_rows, handled_rows}
use Rattle.theorems.proofs.Sound.{Sound, sound_start, took_sound}
use Rattle.theorems.proofs.Resumed.{Brought, resumed_takes, replied_book, replied_found}
use Rattle.theorems.proofs.Served.{key_before, row_gets}
use Rattle.theorems.proofs.Taking.{taken_durable}
use Rattle.theorems.proofs.Tests.{none_not_some, some_same}

-- A row that is taken up goes to a durable link; and the terminus of a row that a delivery joins is a producer's.
pub record BindsRight (t : Trace) (b : Binding) : Type 0 where
  pub durable : TakesUp t b → lasts t b.consumer ≡ true
  pub producer : (p : Origin) (joins : JoinsRow t b p) → same_role joins.terminus.key.role Producer ≡ true

pub record Brings (t : Trace) : Type 0 where
  pub book : IsSound (book_in t)
  pub brings : EachBound BringsItsOutcome t
  pub right : EachBound BindsRight t
  pub lasting : Lasting t

-- a row that is taken up is the one of its number
row_there : (t u : Trace) (b : Binding) → IsOrdered (book_in t) → book_found (last_found u) ≡ book_in t → (up : TakesUp u b) → row_at up.row.number.0 (book_in t).rows ≡ Some up.row
row_there t u b ordered found up =
    let kept : (book_in t).rows ≡ up.earlier ++ up.row ∷ up.later = ap (λ (c : BookView). c.rows) (sym found) ∙ up.kept in
    ap (row_at up.row.number.0) kept
    ∙ found_in up.earlier up.later up.row (let P : List ARow → Type 0 = λ rs. Rises number_of_row rs in subst P kept ordered.rows_rise)

taken_one : (x y : TakenUp) → kind.TakenUp x ≡ kind.TakenUp y → x ≡ y
taken_one x y e = cc

same_outcome : (t u : Trace) (b : Binding) → IsOrdered (book_in t) → book_found (last_found u) ≡ book_in t → (one other : TakesUp u b)
    → IsOutcomeThen one.row.outcome (outcome_among (acts_found (last_found u)) one.row.number) (outcome_as one.brought.how)
    → IsOutcomeThen other.row.outcome (outcome_among (acts_found (last_found u)) other.row.number) (outcome_as other.brought.how)
same_outcome t u b ordered found one other is =
    let number : one.row.number ≡ other.row.number = some_same (sym one.number ∙ other.number) in
    let row : one.row ≡ other.row =
    some_same (sym (row_there t u b ordered found one) ∙ ap (λ (n : RowNumber). row_at n.0 (book_in t).rows) number ∙ row_there t u b ordered found other) in
    let brought : one.brought ≡ other.brought = taken_one one.brought other.brought (sym one.taken ∙ other.taken) in
    subst (λ (x : TakenUp). IsOutcomeThen other.row.outcome (outcome_among (acts_found (last_found u)) other.row.number) (outcome_as x.how)) brought
    (subst (λ (r : ARow). IsOutcomeThen r.outcome (outcome_among (acts_found (last_found u)) r.number) (outcome_as one.brought.how)) row is)

-- what is known of a row that the event after t up up
pub record Found (t : Trace) (e : Event) (u : Trace) (b : Binding) (up : TakesUp u b) : Type 0 where
  pub attach : AnAttach
  pub gets : outcome_as up.brought.how ≡ outcome_after (entries_of attach.unsettled) up.row
  pub acts : outcome_among (acts_of t e) up.row.number ≡ option_map journal_outcome (decided_by (entries_of attach.unsettled) up.row)
  pub row : RowAfter (book_in t) (book_in u) (acts_of t e) up.row.number up.row

planned : (t : Trace) (e : Event) (k : LinkKey) (y : Answer) → resumed_key t e y ≡ Some k
    → planned_acts (finds_full (journaled t) t e) (book_in t) t e ≡ answer_acts (book_in t) t e (event_answer (finds_full (journaled t) t e) (book_in t) t e)
planned t (event.Item from i) k y keyed = refl
planned t event.Start k y keyed = absurd (none_not_some keyed)
planned t (event.Up c p) k y keyed = absurd (none_not_some keyed)
planned t (event.Down c) k y keyed = absurd (none_not_some keyed)
planned t (event.Tick ms) k y keyed = absurd (none_not_some keyed)

pub found_row : (id : List ℕ) (t : Trace) (s : Step) (u : Trace) (b : Binding) (up : TakesUp u b) → IsOrdered (book_in t) → Lasting t
    → Brought (booked t s.event) s.event (replied id (booked t s.event) s) u b up → Found t s.event u b up
found_row id t s u b up ordered lasting known =
    let found : book_found (last_found u) ≡ book_in t = ap book_found known.found_at in
    let there = row_there t u b ordered found up in
    let at : terminus_of up.key (book_in t).termini ≡ Some up.terminus = ap (λ (c : BookView). terminus_of up.key c.termini) (sym found) ∙ up.of_key in
    let behind : book_in u ≡ book_in (booked t s.event) = known.same_book ∙ replied_book id (booked t s.event) s in
    record {
      attach = known.attach;
      gets = known.gets;
      acts = row_gets t s.event up.key known.attach up.terminus up.row ordered lasting known.by_key known.came at there up.waits;
      row = subst (λ (c : BookView). RowAfter (book_in t) c (acts_of t s.event) up.row.number up.row) (sym behind)
          (row_after (finds_full (journaled t) t s.event) t s.event up.row.number up.row
          (planned t s.event up.key (answer_for t s.event) (key_before t s.event up.key known.by_key)) ordered there);
    }

pub outcome_is : (o how : Option DeliveryState) (theirs : Option DeliveryState → Option DeliveryState) (given : Option DeliveryState)
    → how ≡ either_outcome o (theirs o) → given ≡ option_map journal_outcome (theirs o) → IsOutcomeThen o given how
outcome_is (Some s) how theirs given gets acts = gets
outcome_is None how theirs given gets acts = ap (option_map journal_outcome) gets ∙ sym acts

brings_it : (id : List ℕ) (t : Trace) (s : Step) (u : Trace) (b : Binding) (up : TakesUp u b) → Brought (booked t s.event) s.event (replied id (booked t s.event) s) u b up
    → Found t s.event u b up → IsOutcomeThen up.row.outcome (outcome_among (acts_found (last_found u)) up.row.number) (outcome_as up.brought.how)
brings_it id t s u b up known is =
    outcome_is up.row.outcome (outcome_as up.brought.how) (outcome_given (told_of (entries_of is.attach.unsettled) up.row))
    (outcome_among (acts_found (last_found u)) up.row.number) is.gets
    (ap (λ (v : Trace). outcome_among (acts_found v) up.row.number) known.found_at ∙ is.acts)

pub taken_brings : (id : List ℕ) (t : Trace) (s : Step) (u : Trace) (b : Binding) (up : TakesUp u b) → Brings t → Brought (booked t s.event) s.event (replied id (booked t s.event) s) u b up
    → Brings u → Brings (Bound b ∷ u)
taken_brings id t s u b up before known was =
    let ordered : IsOrdered (book_in t) = sound_is_ordered (book_in t) before.book in
    let is : Found t s.event u b up = found_row id t s u b up ordered before.lasting known in
    let durable : lasts u b.consumer ≡ true = known.same_link ∙ taken_durable id t s up.key b.consumer known.by_key known.held in
    record {
      book = was.book;
      brings = (λ other. same_outcome t u b ordered (ap book_found known.found_at) up other (brings_it id t s u b up known is), was.brings);
      right = (record { durable = λ other. durable; producer = λ p joins. joined_role u b p joins (sound_is_ordered (book_in u) was.book) was.book }, was.right);
      lasting = bound_lasting b u (λ new. taken_lasts u b up is.row.known durable) was.lasting;
    }

-- a row that a producer's link has without a delivery
held_lasts : (u : Trace) (b : Binding) (q : Holding) → HoldsRow u b q ⊎ SettlesRow u b q → IsOrdered (book_in u) → holds_standing b.kind ≡ None → (r : RowNumber) → b.row ≡ Some r
    → RowLasts (book_in u) r (bound (name_in u b) (rank_in u b) b)
held_lasts u b q (inl holds) ordered new r named =
    joined_lasts u b (ap (λ (x : Binding). x.lasting) holds.holds) r
    (subst (λ (n : RowNumber). n.0 < (book_in u).next_row) (some_same (sym (ap (λ (x : Binding). x.row) holds.holds) ∙ named)) (held_below u b q holds ordered)) named
held_lasts u b q (inr settles) ordered new r named = absurd (none_not_some (sym new ∙ settles_standing u b q settles))

held_brings : (u : Trace) (b : Binding) (q : Holding) (to : JoinedTo) → b.kind ≡ kind.Joined q to → HoldsRow u b q ⊎ SettlesRow u b q → Brings u → Brings (Bound b ∷ u)
held_brings u b q to is binds was = record {
  book = was.book;
  brings = (λ up. absurd (not_taken up), was.brings);
  right = (record { durable = λ up. absurd (not_taken up); producer = λ p joins. joined_role u b p joins ordered was.book }, was.right);
  lasting = bound_lasting b u (held_lasts u b q binds ordered) was.lasting;
}
  where
    ordered : IsOrdered (book_in u)
    ordered = sound_is_ordered (book_in u) was.book

    clash : true ≡ false → ⊥
    clash e = cc

    not_taken : TakesUp u b → ⊥
    not_taken up = clash (sym (ap is_taken_up up.taken) ∙ ap is_taken_up is)

-- what an event binds before that: a message, or a row that its producer's delivery joins
abbrev Fresh : Trace → Binding → Type 0
Fresh t x = (is_message x.kind ≡ true → (x.lasting ≡ lasts t x.consumer) × IsAdmittedUnder t x x.row) × BindsAs x.kind t x × (is_taken_up x.kind ≡ false)

clash : true ≡ false → ⊥
clash e = cc

bound_brings : (b : Option Binding) (t : Trace) → ((x : Binding) → b ≡ Some x → Fresh t x) → Brings t → Brings (with_bound b t)
bound_brings None t fresh was = was
bound_brings (Some b) t fresh was = record {
  book = was.book;
  brings = (λ takes. absurd (clash (sym (ap is_taken_up takes.taken) ∙ (fresh b refl).2)), was.brings);
  right = (record { durable = λ takes. absurd (clash (sym (ap is_taken_up takes.taken) ∙ (fresh b refl).2)); producer = λ p joins. joined_role t b p joins ordered was.book }, was.right);
  lasting = bound_lasting b t (by b.kind refl) was.lasting;
}
  where
    ordered : IsOrdered (book_in t)
    ordered = sound_is_ordered (book_in t) was.book

    joined : (p : Origin) → JoinsRow t b p → (r : RowNumber) → b.row ≡ Some r → RowLasts (book_in t) r (bound (name_in t b) (rank_in t b) b)
    joined p joins r named =
        let number : joins.row.number ≡ r = some_same (sym (ap (λ (x : Binding). x.row) joins.joins) ∙ named) in
        joined_lasts t b (ap (λ (x : Binding). x.lasting) joins.joins) r
        (subst (λ (n : RowNumber). n.0 < (book_in t).next_row) number (joined_below t b p joins ordered)) named

    by : (k : BindingKind) → b.kind ≡ k → holds_standing b.kind ≡ None → (r : RowNumber) → b.row ≡ Some r → RowLasts (book_in t) r (bound (name_in t b) (rank_in t b) b)
    by (kind.Message o) is new r named =
        let now = (fresh b refl).0 (ap is_message is) in
        message_lasts t b r (subst (λ (o : Option RowNumber). IsAdmittedUnder t b o) named now.1) ordered now.0 named
    by (kind.TakenUp brought) is new r named = absurd (clash (sym (ap is_taken_up is) ∙ (fresh b refl).2))
    by (kind.Joined (holding.Resumed p) to) is new r named = joined p (subst (λ (k : BindingKind). BindsAs k t b) is (fresh b refl).1) r named
    by (kind.Joined (holding.Unresumed a) to) is new r named =
        held_lasts t b (holding.Unresumed a) (subst (λ (k : BindingKind). BindsAs k t b) is (fresh b refl).1) ordered new r named
    by (kind.Joined (holding.Settled a) to) is new r named =
        held_lasts t b (holding.Settled a) (subst (λ (k : BindingKind). BindsAs k t b) is (fresh b refl).1) ordered new r named

-- a copy has no row
copy_brings : (u : Trace) (format : ℕ) (payload : List ℕ) (a : Attachment) → Brings u → Brings (Bound (copy_to u format payload a) ∷ u)
copy_brings u format payload a was = record {
  book = was.book;
  brings = (λ takes. absurd (clash (sym (ap is_taken_up takes.taken))), was.brings);
  right = (
    record {
      durable = λ takes. absurd (clash (sym (ap is_taken_up takes.taken)));
      producer = λ p joins. joined_role u (copy_to u format payload a) p joins (sound_is_ordered (book_in u) was.book) was.book;
    },
    was.right,
  );
  lasting = bound_lasting (copy_to u format payload a) u (λ new r named. absurd (none_not_some named)) was.lasting;
}

booked_brings : (t : Trace) (e : Event) → Brings t → Brings (booked t e)
booked_brings t e was =
    let ordered : IsOrdered (book_in t) = sound_is_ordered (book_in t) was.book in
    record { book = acts_keep (book_in t) (acts_of t e) (acts_apply t e ordered) was.book; brings = was.brings; right = was.right; lasting = booked_lasting t e ordered was.lasting }

did_brings : (s : Step) (t : Trace) → Brings t → Brings (Did s ∷ t)
did_brings s t was = record { book = was.book; brings = was.brings; right = was.right; lasting = did_lasting s t was.lasting }

pub took_brings : (c k : ℕ) (t : Trace) → Brings t → Brings (Took c k ∷ t)
took_brings c k t was = record { book = was.book; brings = was.brings; right = was.right; lasting = was.lasting }

goes_brings : (ps : List Put) (t : Trace) → Brings t → Brings (goes ps t)
goes_brings [] t was = was
goes_brings (p ∷ ps) t was = goes_brings ps (Out p.conn p.item ∷ t) (record { book = was.book; brings = was.brings; right = was.right; lasting = out_lasting p.conn p.item t was.lasting })

ends_brings : (id : List ℕ) (cs : List ℕ) (t : Trace) → Brings t → Brings (ends id cs t)
ends_brings id [] t was = was
ends_brings id (c ∷ cs) t was =
    let items : List Item = closing_of id (conn t c) ResourceLimitExceeded in
    ends_brings id cs (puts c items t) (goes_brings (each_to c items) t was)

pub handled_brings : (id : List ℕ) (t : Trace) (s : Step) → Sound (booked t s.event) → Brings t → Brings (handled id t s)
handled_brings id t s sound was =
    let at : Trace = booked t s.event in
    let u : Trace = heard id at s in
    let b : Option Binding = bound_by at u s.event in
    let came : Brings u = ends_brings id (due t s.event) (Did s ∷ at) (did_brings s at (booked_brings t s.event was)) in
    let rows : Brings (replied id at s) = copies_keep Brings copy_brings at u s.event (goes (own_row id at u s.event) (with_bound b u)) (goes_brings (own_row id at u s.event) (with_bound b u)
    (bound_brings b u (λ x is. (λ message. (bound_lasting_as id t s.event x is message, bound_row id t s.event x is message), event_binds id at s x sound is, bound_not_taken id t s.event x is)) came)) in
    all_keep Brings goes_brings (resumed at s.event (replied id at s))
    (resumed_takes Brings at s.event (replied id at s) (λ v x takes known held. taken_brings id t s v x takes was known held)
    (λ v x q to is quiet binds book before. held_brings v x q to is binds before) (replied_found id at s) (replied_book id at s) rows)

pub moves_brings : (id : List ℕ) (ms : List Move) (t u : Trace) → Rows t → Sound t → Brings t → Goes id ms t u → Brings u
moves_brings id [] t u rows sound was went = subst Brings (sym went) was
moves_brings id (handles s ∷ ms) t u rows sound was went =
    moves_brings id ms (handled id t s) u (handled_rows id t s rows) (handled_sound id t s rows sound) (handled_brings id t s (acted_sound t s.event sound) was) went.1
moves_brings id (takes x ∷ ms) t u rows sound was went = moves_brings id ms (took_one x t) u (took_rows _ _ t rows) (took_sound _ _ t sound) (took_brings _ _ t was) went

pub start_brings : (g : Beginning) → IsSound g.book → Brings (beginning g)
start_brings g sound = record { book = sound; brings = tt; right = tt; lasting = λ n d r there name. absurd (none_not_some there) }

pub trace_brings : (id : List ℕ) (g : Beginning) (u : Trace) → IsTrace id g u → IsSound g.book → Brings u
trace_brings id g u trace sound = moves_brings id trace.0 (beginning g) u (start_rows g) (sound_start g) (start_brings g sound) trace.1

-- over runs

pub no_brings : Brings []
no_brings = record { book = empty_sound; brings = tt; right = tt; lasting = λ n d r there name. absurd (none_not_some there) }

pub opened_brings : (g : Beginning) (below : Trace) → g.book ≡ book_in below → Brings below → Brings (opened g below)
opened_brings g below book was = record { book = subst IsSound (sym book) was.book; brings = was.brings; right = was.right; lasting = λ n d r there name. absurd (none_not_some there) }

pub cut_brings : (t : Trace) (e : Event) → Brings t → Brings (did e ∷ booked t e)
cut_brings t e was = did_brings (step_of e) (booked t e) (booked_brings t e was)
