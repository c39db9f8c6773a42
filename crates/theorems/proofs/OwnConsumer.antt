-- Over every list of runs, what is sent of a row goes to the link of its own consumer.
use Rattle.std.proofs.Common.{◌≡◌, ◌∙◌, sym, ap, refl, subst, ◌⊎◌, inl, inr, ℕ, ◌+◌, ◌≤◌, Bool, true, false, not, ◌&&◌, ◌||◌, List, [], ◌∷◌, ◌++◌, append-nil, arith}
use Rattle.std.specs.Prelude.{◌==◌, Option, Some, None, is_none, is_some, option_map, if◌then◌else◌}
use Rattle.std.proofs.lemmas.Bool.{eqb-true}
use Rattle.amqp_model.specs.declared.perf.Perf.TheVariants as perf
use Rattle.amqp_model.specs.declared.perf.Transfer.{Transfer}
use Rattle.amqp_model.specs.declared.item.Item.{Item}
use Rattle.amqp_model.specs.declared.state.DeliveryState.{DeliveryState}
use Rattle.amqp_model.specs.declared.item.Item.TheVariants as item
use Rattle.book_model.specs.declared.act.Act.TheVariants.{Make, Admit}
use Rattle.book_model.specs.declared.act.Admission.{Admission}
use Rattle.book_model.specs.declared.row.Row.{Row as ARow}
use Rattle.book_model.specs.declared.row.RowNumber.{RowNumber}
use Rattle.book_model.specs.declared.terminus.LinkKey.{LinkKey}
use Rattle.book_model.specs.declared.terminus.LinkRole.{LinkRole}
use Rattle.book_model.specs.declared.terminus.LinkRole.TheVariants.{Producer, Consumer}
use Rattle.book_model.specs.declared.terminus.Terminus.{Terminus}
use Rattle.book_model.specs.declared.terminus.TerminusNumber.{TerminusNumber}
use Rattle.book_model.specs.Book.{BookView, is_for_by, same_key, same_role, terminus_of}
use Rattle.router_trace.specs.declared.binding.Binding.{Binding}
use Rattle.router_trace.specs.declared.binding.BindingKind.{BindingKind}
use Rattle.router_trace.specs.declared.binding.BindingKind.TheVariants as kind
use Rattle.router_trace.specs.declared.binding.DeliveryName.TheVariants.{Row}
use Rattle.router_trace.specs.declared.binding.Holding.{Holding}
use Rattle.router_trace.specs.declared.binding.Holding.TheVariants as holding
use Rattle.router_trace.specs.declared.binding.JoinedTo.{JoinedTo}
use Rattle.router_trace.specs.declared.binding.Origin.{Origin}
use Rattle.router_trace.specs.declared.handle.Attachment.{Attachment}
use Rattle.router_trace.specs.Deliveries.{Delivery, bindings, bound, delivery, holds_standing, is_message, is_put_off, is_undecided, link_held, name_in, name_of, outcome_held, outcome_in, presettles, rank_in}
use Rattle.router_trace.specs.Following.{is_sending, link_of}
use Rattle.router_trace.specs.Links.{Link, attachments, durable_key, holder, last_of_key, link}
use Rattle.router_trace.specs.Trace.{Trace, Entry, Did, Out, Took, Bound, Booked, Routed, Began, IsOneRun}
use Rattle.state_messages.specs.Messages.{lasts}
use Rattle.reply_rows.specs.Acts.{before_acts, book_found, book_in}
use Rattle.reply_rows.specs.Admitting.{terminus_for}
use Rattle.router_reply.specs.Holding.{as_held}
use Rattle.theorems.specs.Admitted.{IsAdmitted, IsAdmittedIf, IsAdmittedUnder, RowIsAdmitted}
use Rattle.theorems.specs.Came.{Handled, just_handled, last_found, BindsAs, BindsByKind, BindsMessage, HoldsRow, JoinsRow, SettlesRow, TakesUp}
use Rattle.theorems.specs.Carried.{CarriesMessage, CarriesWhatWasBound}
use Rattle.theorems.specs.Each.{EachBound, EachOut}
use Rattle.theorems.specs.Lives.{InLives}
use Rattle.theorems.specs.OneConsumer.{IsOfMessage}
use Rattle.theorems.specs.OwnConsumer.{WasDone, IsOfTerminus, WasBoundTo, IsConsumer, IsOwnConsumer, WasBoundToOwn, GoesToOwnConsumer}
use Rattle.theorems.proofs.Among.{Stands, stands_after}
use Rattle.theorems.proofs.Attaching.{attached_link, held_is}
use Rattle.theorems.proofs.Bindings.{of_messages, each_bound, there_bound}
use Rattle.theorems.proofs.Brings.{BindsRight}
use Rattle.theorems.proofs.Consuming.{consumer_sends}
use Rattle.theorems.proofs.Followed.{all_bound}
use Rattle.theorems.proofs.Held.{settles_standing}
use Rattle.theorems.proofs.LinkNumbers.{key_of_last, link_before, link_low, role_going, role_is}
use Rattle.theorems.proofs.Lives.{lives_rows, lives_sound, lives_brings}
use Rattle.theorems.proofs.Origins.{Continues, IsPart, Origins, WasAdmitted, done_now, lives_continue, origins, part_continues, part_itself, part_more, part_of, part_on, was_done}
use Rattle.theorems.proofs.Rebound.{AfterBound, after_bound, held_undecided}
use Rattle.theorems.proofs.Rebound.AfterBound.{is_new, is_joined, is_old}
use Rattle.theorems.proofs.Rowing.{taken_sends}
use Rattle.theorems.proofs.Settling.{found_key}
use Rattle.theorems.proofs.Standing.{SameLink, Sends, same_link}
use Rattle.theorems.proofs.Taking.{consumer_held}
use Rattle.theorems.proofs.Tests.{some_same, none_not_some}
use Rattle.theorems.proofs.Undecided.{was_did, was_out}

clash : true ≡ false → ⊥
clash e = cc

-- The traces that an event found are parts of the one after it.

just_part : (u : Trace) (h : Handled) → just_handled u ≡ Some h → IsPart h.found u
just_part [] h just = absurd (none_not_some just)
just_part (Did s ∷ t) h just = subst (λ (k : Handled). IsPart k.found (Did s ∷ t)) (some_same just) (part_more (Did s) t t (part_itself t))
just_part (Out c i ∷ t) h just = part_more (Out c i) h.found t (just_part t h just)
just_part (Took c n ∷ t) h just = absurd (none_not_some just)
just_part (Bound b ∷ t) h just = absurd (none_not_some just)
just_part (Booked acts full ∷ t) h just = absurd (none_not_some just)
just_part (Routed passage ∷ t) h just = part_more (Routed passage) h.found t (just_part t h just)
just_part (Began g ∷ t) h just = absurd (none_not_some just)

last_part : (u : Trace) → IsPart (last_found u) u
last_part [] = part_itself []
last_part (Did s ∷ t) = part_more (Did s) t t (part_itself t)
last_part (Out c i ∷ t) = part_more (Out c i) (last_found t) t (last_part t)
last_part (Took c n ∷ t) = part_more (Took c n) (last_found t) t (last_part t)
last_part (Bound b ∷ t) = part_more (Bound b) (last_found t) t (last_part t)
last_part (Booked acts full ∷ t) = part_more (Booked acts full) (last_found t) t (last_part t)
last_part (Routed passage ∷ t) = part_more (Routed passage) (last_found t) t (last_part t)
last_part (Began g ∷ t) = record { later = Began g ∷ t; is = sym (append-nil (Began g ∷ t)) }

acts_part : (u : Trace) → IsPart (before_acts u) u
acts_part [] = part_itself []
acts_part (Did s ∷ t) = part_itself (Did s ∷ t)
acts_part (Out c i ∷ t) = part_itself (Out c i ∷ t)
acts_part (Took c n ∷ t) = part_itself (Took c n ∷ t)
acts_part (Bound b ∷ t) = part_itself (Bound b ∷ t)
acts_part (Booked acts full ∷ t) = part_more (Booked acts full) t t (part_itself t)
acts_part (Routed passage ∷ t) = part_itself (Routed passage ∷ t)
acts_part (Began g ∷ t) = part_itself (Began g ∷ t)

-- A terminus that is found by its key was made with that key.

terminus_stands : (key : LinkKey) (ts : List Terminus) (x : Terminus) → terminus_of key ts ≡ Some x → Stands Terminus x ts
terminus_stands key [] x is = absurd (none_not_some is)
terminus_stands key (t ∷ ts) x is = by (same_key t.key key) is (λ rest. inr (terminus_stands key ts x rest))
  where
    by : (q : Bool) → (if q then Some t else terminus_of key ts) ≡ Some x → (terminus_of key ts ≡ Some x → Stands Terminus x (t ∷ ts)) → Stands Terminus x (t ∷ ts)
    by true is rest = inl (some_same is)
    by false is rest = rest is

-- the terminus that a key names in the book before, where it is one for a row
record Named (v : Trace) (key : Option LinkKey) (n : TerminusNumber) : Type 0 where
  terminus : Terminus
  number : terminus.number ≡ n
  was_made : WasDone v (Make terminus)
  keyed : key ≡ Some terminus.key

abbrev number_in : Option Terminus → Option TerminusNumber
number_in o = option_map (λ x. x.number) o

named : (v : Trace) (key : Option LinkKey) (n : TerminusNumber) → Origins v → terminus_for (book_in v) key ≡ Some n → Named v key n
named v None n all is = absurd (none_not_some is)
named v (Some key) n all is = by (terminus_of key (book_in v).termini) refl is
  where
    by : (o : Option Terminus) → terminus_of key (book_in v).termini ≡ o → terminus_for (book_in v) (Some key) ≡ Some n → Named v (Some key) n
    by None there is = absurd (none_not_some (sym (ap number_in there) ∙ is))
    by (Some x) there is = record {
      terminus = x;
      number = some_same (sym (ap number_in there) ∙ is);
      was_made = all.termini x (terminus_stands key (book_in v).termini x there);
      keyed = ap (λ (k : LinkKey). Some k) (sym (found_key key (book_in v).termini x there));
    }

-- The link on which a delivery goes is the one to which it was bound.

named_row : (row : Option RowNumber) (k : ℕ) (r : RowNumber) → name_of row k ≡ Row r → row ≡ Some r
named_row None k r is = absurd cc
named_row (Some q) k r is = cc

same_durable : (l m : Link) → SameLink l m → durable_key (Some m) ≡ durable_key (Some l)
same_durable l m same = λ j. if same.durable j then Some (same.key j) else None

-- by any link that is the one at which a delivery was bound
module _ (t : Trace) (n : ℕ) (d : Delivery) (message : IsOfMessage t n d) (attached : Link)
    (still : (l : Link) → link message.before message.binding.consumer.conn.0 message.binding.consumer.channel message.binding.consumer.handle ≡ Some l → l.number ≡ message.binding.consumer.number
    → SameLink l attached) where
  abbrev bound_to : Attachment
  bound_to = message.binding.consumer

  part : IsPart message.before t
  part =
      part_on message.before (Bound message.binding ∷ message.before) t (part_more (Bound message.binding) message.before message.before (part_itself message.before))
      (record { later = message.later; is = message.trace })

  -- of a message
  of_message : Continues t → (r : RowNumber) → is_message message.binding.kind ≡ true → IsAdmitted message.before message.binding r → Sends message.before bound_to
      → IsOwnConsumer t r d.link attached
  of_message all r fresh adm sends = record {
    admission = adm.admission;
    its_row = adm.number;
    was_admitted =
        was_done adm.came.handled.found t (Admit adm.admission) (part_on adm.came.handled.found message.before t (just_part message.before adm.came.handled adm.came.just) part)
        (subst (λ (v : Trace). WasDone v (Admit adm.admission)) (sym adm.acts) (done_now adm.before (Admit adm.admission ∷ []) adm.full (Admit adm.admission) (inl refl)));
    consumer = by adm.admission.consumer refl;
  }
    where
      before_part : IsPart adm.before t
      before_part =
          part_on adm.before message.before t
          (part_on adm.before adm.came.handled.found message.before
          (subst (λ (v : Trace). IsPart adm.before v) (sym adm.acts) (part_more (Booked (Admit adm.admission ∷ []) adm.full) adm.before adm.before (part_itself adm.before)))
          (just_part message.before adm.came.handled adm.came.just))
          part

      by : (o : Option TerminusNumber) → adm.admission.consumer ≡ o → IsConsumer o t r adm.admission d.link attached
      by None none = record {
        later = message.later;
        binding = message.binding;
        before = message.before;
        trace = message.trace;
        one_run = message.one_run;
        message = fresh;
        admitted = adm;
        its_admission = refl;
        consumer = sym message.is.consumer;
      }
      by (Some n) some =
          let made = named adm.before (durable_key (link_of message.before bound_to)) n (origins adm.before (part_continues adm.before t before_part all)) (sym adm.consumer ∙ some) in
          record {
            terminus = made.terminus;
            its_number = made.number;
            was_made = was_done adm.before t (Make made.terminus) before_part made.was_made;
            its_key = same_durable sends.at attached (still sends.at sends.there sends.number) ∙ ap durable_key (sym sends.there) ∙ made.keyed;
          }

  -- of a row that was taken up
  for_terminus : (n : ℕ) (o : Option TerminusNumber) → is_for_by n o ≡ true → (k : TerminusNumber) × (o ≡ Some k) × (k.0 ≡ n)
  for_terminus n None is = absurd (clash (sym is))
  for_terminus n (Some k) is = (k, refl, eqb-true k.0 n is)

  same_number : (j k : TerminusNumber) → j.0 ≡ k.0 → j ≡ k
  same_number j k e = let number : ℕ → TerminusNumber = λ n. record { 0 = n } in ap number e

  is_durable_now : (l : Link) (k : LinkKey) → l.key ≡ k → is_some (durable_key (Some l)) ≡ true → durable_key (Some l) ≡ Some k
  is_durable_now l k keyed some = by l.durable some
    where
      by : (q : Bool) → is_some (if q then Some l.key else None) ≡ true → (if q then Some l.key else None) ≡ Some k
      by true some = ap (λ (j : LinkKey). Some j) keyed
      by false some = absurd (clash (sym some))

  of_taken : Continues t → (r : RowNumber) → (takes : TakesUp message.before message.binding) → takes.row.number ≡ r → lasts message.before bound_to ≡ true
      → IsOwnConsumer t r d.link attached
  of_taken all r takes number lasting = record {
    admission = was.admission;
    its_row = was.number ∙ number;
    was_admitted = was_done v t (Admit was.admission) v_part was.done;
    consumer =
        subst (λ (o : Option TerminusNumber). IsConsumer o t r was.admission d.link attached) (sym (was.consumer ∙ waits.1))
        (record {
          terminus = takes.terminus;
          its_number = same_number takes.terminus.number waits.0 (sym waits.2);
          was_made = was_done v t (Make takes.terminus) v_part (known.termini takes.terminus (terminus_stands takes.key (book_in v).termini takes.terminus takes.of_key));
          its_key =
              same_durable sends.at attached (still sends.at sends.there sends.number)
              ∙ is_durable_now sends.at takes.key keyed (ap (λ (o : Option Link). is_some (durable_key o)) (sym sends.there) ∙ lasting)
              ∙ ap (λ (k : LinkKey). Some k) (sym (found_key takes.key (book_in v).termini takes.terminus takes.of_key));
        });
  }
    where
      v : Trace
      v = before_acts (last_found message.before)

      v_part : IsPart v t
      v_part = part_on v message.before t (part_on v (last_found message.before) message.before (acts_part (last_found message.before)) (last_part message.before)) part

      known : Origins v
      known = origins v (part_continues v t v_part all)

      stands : Stands ARow takes.row (book_in v).rows
      stands = subst (λ (rows : List ARow). Stands ARow takes.row rows) (sym takes.kept) (stands_after ARow takes.row takes.earlier takes.later)

      was : WasAdmitted (WasDone v) takes.row
      was = known.rows takes.row stands

      waits : (k : TerminusNumber) × (takes.row.consumer ≡ Some k) × (k.0 ≡ takes.terminus.number.0)
      waits = for_terminus takes.terminus.number.0 takes.row.consumer takes.waits

      sends : Sends message.before bound_to
      sends = taken_sends message.before takes.key bound_to takes.attached

      keyed : sends.at.key ≡ takes.key
      keyed =
          key_of_last message.before takes.key bound_to sends.at
          (held_is message.before (last_of_key message.before takes.key) bound_to (consumer_held message.before (holder message.before takes.key) bound_to takes.attached)).0
          sends.there sends.number

-- by the link of a transfer
module _ (t : Trace) (c own : ℕ) (x : Transfer) (payload : List ℕ) (carries : CarriesMessage t c own x payload) (message : IsOfMessage t carries.number carries.of) where
  abbrev goes_to : Attachment
  goes_to = message.binding.consumer

  it_stands : link (message.later ++ Bound message.binding ∷ message.before) goes_to.conn.0 goes_to.channel goes_to.handle ≡ Some carries.attached
  it_stands =
      subst (λ (u : Trace). link u goes_to.conn.0 goes_to.channel goes_to.handle ≡ Some carries.attached) message.trace
      (subst (λ (a : Attachment). link t a.conn.0 a.channel a.handle ≡ Some carries.attached) message.is.consumer
      (ap (λ (k : ℕ). link t k carries.of.link.channel carries.of.link.handle) carries.on_connection
      ∙ ap (λ (k : ℕ). link t c k carries.of.link.handle) carries.on_session
      ∙ ap (link t c own) carries.on_handle
      ∙ carries.on_link))

  -- a link that was there when it was bound, with its number
  still : (l : Link) → link message.before goes_to.conn.0 goes_to.channel goes_to.handle ≡ Some l → l.number ≡ goes_to.number → SameLink l carries.attached
  still l there number =
      let high : carries.attached.number ≡ l.number = carries.its_number ∙ ap (λ (a : Attachment). a.number) message.is.consumer ∙ sym number in
      let low : carries.attached.number ≤ attachments message.before =
      subst (λ (n : ℕ). n ≤ attachments message.before) (sym high) (link_low message.before goes_to.conn.0 goes_to.channel goes_to.handle l there) in
      let was = link_before message.later (Bound message.binding ∷ message.before) goes_to.conn.0 goes_to.channel goes_to.handle carries.attached message.one_run it_stands low in
      subst (λ (m : Link). SameLink m carries.attached) (some_same (sym was.there ∙ there)) was.same

  -- nothing is sent of one that a delivery joined
  role_is_one : (a : LinkRole) → same_role a Producer ≡ true → a ≡ Producer
  role_is_one Producer is = refl
  role_is_one Consumer is = absurd (clash (sym is))

  two_roles : Consumer ≡ Producer → ⊥
  two_roles e = cc

  key_is : (l : Link) (k : LinkKey) → durable_key (Some l) ≡ Some k → l.key ≡ k
  key_is l k is = by l.durable is
    where
      by : (q : Bool) → (if q then Some l.key else None) ≡ Some k → l.key ≡ k
      by true is = some_same is
      by false is = absurd (none_not_some is)

  of_joined : (p : Origin) (joins : JoinsRow message.before message.binding p) → same_role joins.terminus.key.role Producer ≡ true → ⊥
  of_joined p joins role =
      let place : goes_to ≡ p.link = ap (λ (b : Binding). b.consumer) joins.joins in
      let there : link message.before goes_to.conn.0 goes_to.channel goes_to.handle ≡ Some joins.producer =
      ap (λ (a : Attachment). link message.before a.conn.0 a.channel a.handle) (place ∙ joins.from.0) ∙ joins.attached in
      let number : joins.producer.number ≡ goes_to.number = ap (λ (a : Attachment). a.number) (sym (place ∙ joins.from.0)) in
      let same : SameLink joins.producer carries.attached = still joins.producer there number in
      let key : joins.producer.key ≡ joins.terminus.key =
      key_is joins.producer joins.key joins.durable ∙ sym (found_key joins.key (book_in message.before).termini joins.terminus joins.of_key) in
      two_roles (ap role_going (sym carries.sends ∙ same.way)
      ∙ sym (role_is message.before goes_to.conn.0 goes_to.channel goes_to.handle joins.producer there)
      ∙ ap (λ (k : LinkKey). k.role) key
      ∙ role_is_one joins.terminus.key.role role)

  -- nor of one that a producer's link has without a delivery
  held_link : (at : Attachment) (row : ARow) → link_held (as_held at row) ≡ at
  held_link at row = by row.forgotten
    where
      by : (f : Bool) → link_held (if f then holding.Settled at else holding.Unresumed at) ≡ at
      by true = refl
      by false = refl

  of_held : (q : Holding) → HoldsRow message.before message.binding q ⊎ SettlesRow message.before message.binding q → ⊥
  of_held q (inr settles) = none_not_some (sym message.numbered ∙ settles_standing message.before message.binding q settles)
  of_held q (inl holds) =
      let place : goes_to ≡ holds.at = ap (λ (b : Binding). b.consumer) holds.holds ∙ ap link_held holds.how ∙ held_link holds.at holds.row in
      let stands = held_is message.before (last_of_key message.before holds.key) holds.at holds.attached in
      let here = attached_link holds.at (link message.before holds.at.conn.0 holds.at.channel holds.at.handle) stands.1 in
      let there : link message.before goes_to.conn.0 goes_to.channel goes_to.handle ≡ Some here.0 =
      ap (λ (a : Attachment). link message.before a.conn.0 a.channel a.handle) place ∙ here.1 in
      let same : SameLink here.0 carries.attached = still here.0 there (here.2 ∙ ap (λ (a : Attachment). a.number) (sym place)) in
      let key : here.0.key ≡ holds.key = key_of_last message.before holds.key holds.at here.0 stands.0 here.1 here.2 in
      two_roles (ap role_going (sym carries.sends ∙ same.way)
      ∙ sym (role_is message.before goes_to.conn.0 goes_to.channel goes_to.handle here.0 there)
      ∙ ap (λ (k : LinkKey). k.role) key
      ∙ holds.role)

-- The law.

pub record BindingFacts (t : Trace) : Type 0 where
  pub continues : Continues t
  pub binds : EachBound BindsByKind t
  pub admitted : EachBound RowIsAdmitted t
  pub right : EachBound BindsRight t

goes_to_own : (t : Trace) (c own : ℕ) (x : Transfer) (payload : List ℕ) → BindingFacts t → (carries : CarriesMessage t c own x payload) → (r : RowNumber) → carries.of.name ≡ Row r
    → IsOwnConsumer t r carries.of.link carries.attached
goes_to_own t c own x payload all carries r name = by message.binding.kind refl
  where
    message : IsOfMessage t carries.number carries.of
    message = of_messages t carries.number carries.of carries.there

    row : message.binding.row ≡ Some r
    row = named_row message.binding.row _ r (sym message.name ∙ name)

    -- a copy has no row
    no_copy : BindsByKind message.before message.binding → BindsAs message.binding.kind message.before message.binding
    no_copy (inl binds) = binds
    no_copy (inr copy) = absurd (none_not_some (sym (ap (λ (b : Binding). b.row) copy.copy) ∙ row))

    binds : BindsAs message.binding.kind message.before message.binding
    binds = no_copy (each_bound BindsByKind message.later message.before message.binding (subst (λ (u : Trace). EachBound BindsByKind u) message.trace all.binds))

    admitted : RowIsAdmitted message.before message.binding
    admitted = each_bound RowIsAdmitted message.later message.before message.binding (subst (λ (u : Trace). EachBound RowIsAdmitted u) message.trace all.admitted)

    right : BindsRight message.before message.binding
    right = each_bound BindsRight message.later message.before message.binding (subst (λ (u : Trace). EachBound BindsRight u) message.trace all.right)

    taken : (takes : TakesUp message.before message.binding) → IsOwnConsumer t r carries.of.link carries.attached
    taken takes =
        of_taken t carries.number carries.of message carries.attached (still t c own x payload carries message) all.continues r takes (some_same (sym takes.number ∙ row)) (right.durable takes)

    fresh : (binds : BindsMessage message.before message.binding) → is_message message.binding.kind ≡ true → IsOwnConsumer t r carries.of.link carries.attached
    fresh binds is =
        of_message t carries.number carries.of message carries.attached (still t c own x payload carries message) all.continues r is
        (subst (λ (o : Option RowNumber). IsAdmittedUnder message.before message.binding o) row
        (subst (λ (q : Bool). IsAdmittedIf q message.before message.binding) is admitted))
        (consumer_sends message.before binds.producer message.binding.consumer binds.chosen)

    by : (k : BindingKind) → message.binding.kind ≡ k → IsOwnConsumer t r carries.of.link carries.attached
    by (kind.Message origin) is = fresh (subst (λ (k : BindingKind). BindsAs k message.before message.binding) is binds) (ap is_message is)
    by (kind.TakenUp brought) is = taken (subst (λ (k : BindingKind). BindsAs k message.before message.binding) is binds)
    by (kind.Joined (holding.Resumed p) to) is =
        let joins : JoinsRow message.before message.binding p = subst (λ (k : BindingKind). BindsAs k message.before message.binding) is binds in
        absurd (of_joined t c own x payload carries message p joins (right.producer p joins))
    by (kind.Joined (holding.Unresumed a) to) is =
        absurd (of_held t c own x payload carries message (holding.Unresumed a) (subst (λ (k : BindingKind). BindsAs k message.before message.binding) is binds))
    by (kind.Joined (holding.Settled a) to) is =
        absurd (of_held t c own x payload carries message (holding.Settled a) (subst (λ (k : BindingKind). BindsAs k message.before message.binding) is binds))

-- The same of the link at which a delivery was bound, if it is undecided: one that joined a row waits until its consumer's link takes the row up.

undecided_then : (later t : Trace) (n : ℕ) (d : Delivery) → IsOneRun later → n ≤ bindings t → delivery (later ++ t) n ≡ Some d → is_undecided d ≡ true
    → (e : Delivery) × (delivery t n ≡ Some e) × (is_undecided e ≡ true)
undecided_then [] t n d one low there undecided = (d, there, undecided)
undecided_then (Did s ∷ later) t n d one low there undecided =
    let was = was_did s (later ++ t) n d there in undecided_then later t n was.before one.1 low was.there (was.undecided undecided)
undecided_then (Out c i ∷ later) t n d one low there undecided =
    let was = was_out c i (later ++ t) n d there in undecided_then later t n was.before one.1 low was.there (was.undecided undecided)
undecided_then (Took c k ∷ later) t n d one low there undecided = undecided_then later t n d one.1 low there undecided
undecided_then (Booked acts full ∷ later) t n d one low there undecided = undecided_then later t n d one.1 low there undecided
undecided_then (Routed passage ∷ later) t n d one low there undecided = undecided_then later t n d one.1 low there undecided
undecided_then (Began g ∷ later) t n d one low there undecided = absurd (clash one.0)
undecided_then (Bound b ∷ later) t n d one low there undecided =
    by (after_bound b (later ++ t) n d there) (λ e before open_then. undecided_then later t n e one.1 low before open_then)
  where
    too_high : (j n : ℕ) → n ≤ j → j + 1 ≡ n → ⊥
    too_high j n h e = omega (arith, h, e)

    Then : Type 0
    Then = (e : Delivery) × (delivery t n ≡ Some e) × (is_undecided e ≡ true)

    by : AfterBound b (later ++ t) n d → ((e : Delivery) → delivery (later ++ t) n ≡ Some e → is_undecided e ≡ true → Then) → Then
    by (is_new made) before = absurd (too_high (bindings (later ++ t)) n (all_bound later t n one.1 low) made.number)
    by (is_joined joins) before = before joins.before joins.there (sym (held_undecided joins.holding joins.before) ∙ ap is_undecided joins.is ∙ undecided)
    by (is_old old) before = before d old undecided

-- what is bound is undecided then
bound_undecided : (t : Trace) (n : ℕ) (d : Delivery) (message : IsOfMessage t n d) → delivery t n ≡ Some d → is_undecided d ≡ true
    → is_undecided (bound (name_in message.before message.binding) (rank_in message.before message.binding) message.binding) ≡ true
bound_undecided t n d message there undecided =
    by (after_bound message.binding message.before n was.0 was.1)
  where
    low : n ≤ bindings (Bound message.binding ∷ message.before)
    low = subst (λ (k : ℕ). k ≤ bindings (Bound message.binding ∷ message.before)) message.number
        (more (holds_standing message.binding.kind) message.numbered)
      where
        itself : (k : ℕ) → k ≤ k
        itself k = omega arith

        more : (j : Option Holding) → j ≡ None → bindings message.before + 1 ≤ (if is_none j then bindings message.before + 1 else bindings message.before)
        more None e = itself (bindings message.before + 1)
        more (Some q) e = absurd (none_not_some (sym e))

    was : (e : Delivery) × (delivery (Bound message.binding ∷ message.before) n ≡ Some e) × (is_undecided e ≡ true)
    was =
        undecided_then message.later (Bound message.binding ∷ message.before) n d message.one_run low
        (subst (λ (u : Trace). delivery u n ≡ Some d) message.trace there) undecided

    too_high : (j n : ℕ) → n ≤ j → j + 1 ≡ n → ⊥
    too_high j n h e = omega (arith, h, e)

    by : AfterBound message.binding message.before n was.0
        → is_undecided (bound (name_in message.before message.binding) (rank_in message.before message.binding) message.binding) ≡ true
    by (is_new made) = ap is_undecided made.is ∙ was.2
    by (is_joined joins) = absurd (none_not_some (sym message.numbered ∙ joins.joins))
    by (is_old old) = absurd (too_high (bindings message.before) n (there_bound message.before n was.0 old) message.number)

joined_waits : (t : Trace) (b : Binding) (q : Holding) (to : JoinedTo) → b.kind ≡ kind.Joined q to → is_undecided (bound (name_in t b) (rank_in t b) b) ≡ true → ⊥
joined_waits t b q to is undecided =
    clash (sym (subst (λ (k : BindingKind). (is_none (outcome_in k) && not (presettles k || is_put_off k)) ≡ true) is undecided) ∙ never (outcome_held q to))
  where
    never : (o : Option DeliveryState) → (is_none o && not (false || is_none o)) ≡ false
    never None = refl
    never (Some s) = refl

pub bound_to_own : (t : Trace) → BindingFacts t → (n : ℕ) (d : Delivery) (r : RowNumber) → delivery t n ≡ Some d → d.name ≡ Row r → is_undecided d ≡ true → WasBoundToOwn t r d.link
bound_to_own t all n d r there name undecided = by message.binding.kind refl
  where
    message : IsOfMessage t n d
    message = of_messages t n d there

    b : Binding
    b = message.binding

    row : b.row ≡ Some r
    row = named_row b.row _ r (sym message.name ∙ name)

    no_copy : BindsByKind message.before b → BindsAs b.kind message.before b
    no_copy (inl binds) = binds
    no_copy (inr copy) = absurd (none_not_some (sym (ap (λ (x : Binding). x.row) copy.copy) ∙ row))

    binds : BindsAs b.kind message.before b
    binds = no_copy (each_bound BindsByKind message.later message.before b (subst (λ (u : Trace). EachBound BindsByKind u) message.trace all.binds))

    admitted : RowIsAdmitted message.before b
    admitted = each_bound RowIsAdmitted message.later message.before b (subst (λ (u : Trace). EachBound RowIsAdmitted u) message.trace all.admitted)

    right : BindsRight message.before b
    right = each_bound BindsRight message.later message.before b (subst (λ (u : Trace). EachBound BindsRight u) message.trace all.right)

    -- the link that was there then
    itself : (sends : Sends message.before b.consumer) (l : Link) → link message.before b.consumer.conn.0 b.consumer.channel b.consumer.handle ≡ Some l → l.number ≡ b.consumer.number
        → SameLink l sends.at
    itself sends l is number = subst (λ (m : Link). SameLink l m) (some_same (sym is ∙ sends.there)) (same_link l)

    made : (sends : Sends message.before b.consumer) → IsOwnConsumer t r d.link sends.at → WasBoundToOwn t r d.link
    made sends own = record {
      later = message.later;
      binding = b;
      before = message.before;
      trace = message.trace;
      one_run = message.one_run;
      its_row = row;
      consumer = sym message.is.consumer;
      attached = sends.at;
      on_link = ap (λ (a : Attachment). link message.before a.conn.0 a.channel a.handle) message.is.consumer ∙ sends.there;
      its_number = sends.number ∙ ap (λ (a : Attachment). a.number) (sym message.is.consumer);
      own = own;
    }

    taken : (takes : TakesUp message.before b) → WasBoundToOwn t r d.link
    taken takes =
        let sends : Sends message.before b.consumer = taken_sends message.before takes.key b.consumer takes.attached in
        made sends (of_taken t n d message sends.at (itself sends) all.continues r takes (some_same (sym takes.number ∙ row)) (right.durable takes))

    fresh : (binds : BindsMessage message.before b) → is_message b.kind ≡ true → WasBoundToOwn t r d.link
    fresh binds is =
        let sends : Sends message.before b.consumer = consumer_sends message.before binds.producer b.consumer binds.chosen in
        made sends (of_message t n d message sends.at (itself sends) all.continues r is
        (subst (λ (o : Option RowNumber). IsAdmittedUnder message.before b o) row (subst (λ (q : Bool). IsAdmittedIf q message.before b) is admitted)) sends)

    by : (k : BindingKind) → b.kind ≡ k → WasBoundToOwn t r d.link
    by (kind.Message origin) is = fresh (subst (λ (k : BindingKind). BindsAs k message.before b) is binds) (ap is_message is)
    by (kind.TakenUp brought) is = taken (subst (λ (k : BindingKind). BindsAs k message.before b) is binds)
    by (kind.Joined q to) is = absurd (joined_waits message.before b q to is (bound_undecided t n d message there undecided))

-- and of what was bound before
pub facts_before : (x : Entry) (t : Trace) → BindingFacts (x ∷ t) → BindingFacts t
facts_before (Did s) t all = record { continues = all.continues; binds = all.binds; admitted = all.admitted; right = all.right }
facts_before (Out c i) t all = record { continues = all.continues; binds = all.binds; admitted = all.admitted; right = all.right }
facts_before (Took c n) t all = record { continues = all.continues; binds = all.binds; admitted = all.admitted; right = all.right }
facts_before (Bound b) t all = record { continues = all.continues; binds = all.binds.1; admitted = all.admitted.1; right = all.right.1 }
facts_before (Booked acts full) t all = record { continues = all.continues; binds = all.binds; admitted = all.admitted; right = all.right }
facts_before (Routed passage) t all = record { continues = all.continues; binds = all.binds; admitted = all.admitted; right = all.right }
facts_before (Began g) t all = record { continues = all.continues.1; binds = all.binds; admitted = all.admitted; right = all.right }

item_goes_to_own : (t : Trace) (c : ℕ) (i : Item) → BindingFacts t → CarriesWhatWasBound t c i → GoesToOwnConsumer t c i
item_goes_to_own t c (item.Frame sasl own (perf.Transfer x) payload) all carries = (carries, goes_to_own t c own x payload all carries)
item_goes_to_own t c (item.Frame sasl own _ payload) all carries = tt
item_goes_to_own t c _ all carries = tt

each_goes : (t : Trace) → BindingFacts t → EachOut CarriesWhatWasBound t → EachOut GoesToOwnConsumer t
each_goes [] all carries = tt
each_goes (Did s ∷ t) all carries = each_goes t (facts_before (Did s) t all) carries
each_goes (Out c i ∷ t) all carries = (item_goes_to_own t c i (facts_before (Out c i) t all) carries.0, each_goes t (facts_before (Out c i) t all) carries.1)
each_goes (Took c n ∷ t) all carries = each_goes t (facts_before (Took c n) t all) carries
each_goes (Bound b ∷ t) all carries = each_goes t (facts_before (Bound b) t all) carries
each_goes (Booked acts full ∷ t) all carries = each_goes t (facts_before (Booked acts full) t all) carries
each_goes (Routed passage ∷ t) all carries = each_goes t (facts_before (Routed passage) t all) carries
each_goes (Began g ∷ t) all carries = each_goes t (facts_before (Began g) t all) carries

pub lives_facts : InLives BindingFacts
lives_facts = λ id lives u all. record {
  continues = lives_continue id lives u all;
  binds = (lives_sound id lives u all).binds;
  admitted = (lives_rows id lives u all).admitted;
  right = (lives_brings id lives u all).right;
}

pub lives_go_to_own : InLives (EachOut GoesToOwnConsumer)
lives_go_to_own = λ id lives u all. each_goes u (lives_facts id lives u all) (lives_sound id lives u all).carries
