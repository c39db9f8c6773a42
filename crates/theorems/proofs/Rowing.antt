-- What an event's row puts keeps what holds, but for attaches: what the answer says, the answers to a disposition, and what is put for a transfer.
use Rattle.std.proofs.Common.{◌≡◌, ◌∙◌, sym, ap, refl, subst, ℕ, ◌<◌, Bool, true, false, not, ◌&&◌, List, [], ◌∷◌, ◌++◌, append-nil}
use Rattle.std.specs.Prelude.{◌==◌, nat_lt, Option, Some, None, is_none, is_some, if◌then◌else◌}
use Rattle.std.proofs.lemmas.Bool.{eqb-true, eq-eqb}
use Rattle.amqp_model.specs.declared.perf.Disposition.{Disposition as ADisposition}
use Rattle.amqp_model.specs.declared.perf.Perf.TheVariants as perf
use Rattle.amqp_model.specs.declared.perf.Transfer.{Transfer as ATransfer}
use Rattle.amqp_model.specs.declared.state.DeliveryState.{DeliveryState}
use Rattle.amqp_model.specs.declared.item.Item.{Item}
use Rattle.amqp_model.specs.declared.item.Item.TheVariants as item
use Rattle.amqp_conn.specs.declared.conn.Conn.{Conn}
use Rattle.amqp_link.specs.declared.part.Delivery.{Delivery as Told}
use Rattle.amqp_link.specs.declared.part.Part.{Part}
use Rattle.amqp_link.specs.declared.part.Part.TheVariants as part
use Rattle.book_model.specs.declared.row.Row.{Row as ARow}
use Rattle.book_model.specs.declared.row.RowNumber.{RowNumber}
use Rattle.book_model.specs.declared.terminus.LinkKey.{LinkKey}
use Rattle.book_model.specs.Book.{BookView, row_at}
use Rattle.router_trace.specs.declared.binding.Binding.{Binding}
use Rattle.router_trace.specs.declared.binding.BindingKind.{BindingKind}
use Rattle.router_trace.specs.declared.binding.BindingKind.TheVariants as kind
use Rattle.router_trace.specs.declared.binding.DeliveryName.TheVariants.{Row}
use Rattle.router_trace.specs.declared.binding.Origin.{Origin}
use Rattle.router_trace.specs.declared.condition.Condition.{Condition}
use Rattle.router_trace.specs.declared.condition.Condition.TheVariants.{ResourceLimitExceeded, MessageSizeExceeded}
use Rattle.router_trace.specs.declared.handle.Attachment.{Attachment}
use Rattle.router_trace.specs.Trace.{Trace, Bound, Put, goes, puts, each_to}
use Rattle.router_trace.specs.Deliveries.{Delivery, bound, called, origin_in, origin_of, outcome_in, presettles, either_origin, source, name_in, delivery, is_undecided, terminal, last_of, ended_by as put_ends, outcome_as, told_in, rank_in, holds_standing, told_of}
use Rattle.router_trace.specs.Following.{link_of, is_sending}
use Rattle.router_trace.specs.LinkFrames.{detach_item}
use Rattle.router_trace.specs.Links.{Link, durable_key, link, link_place, has_number, is_attached, if_attached, last_of_key}
use Rattle.router_trace.specs.Settling.{open_ids, part_of, unbound}
use Rattle.state_messages.specs.Asking.{is_consumer, if_consumer, consumer_with}
use Rattle.state_messages.specs.Messages.{copy_to, with_bound}
use Rattle.reply_rows.specs.declared.answer.Answer.{Answer}
use Rattle.reply_rows.specs.declared.answer.Answer.TheVariants.{Taken, Settle}
use Rattle.reply_rows.specs.Rows.{said}
use Rattle.reply_rows.specs.Acts.{book_in}
use Rattle.router_state.specs.Copying.{goes_to_all}
use Rattle.reply_transfers.specs.Transfers.{claimed_id, from_link, lasts_on, let_go, unless_many, ignored_put, row_resumed, unless_joined, resumed_put, let_down_as, let_down_by, let_down, unbound_put, consumer_for, whole_put, part_put, settled_answers}
use Rattle.reply_rows.specs.Deciding.{ended_by}
use Rattle.router_reply.specs.Replies.{row_found, bound_for, links_put, item_put}
use Rattle.theorems.specs.Came.{TakesUp, BindsMessage, ComesFrom, HasRowOn}
use Rattle.theorems.proofs.Claimed.{HasClaim}
use Rattle.theorems.proofs.Consuming.{consumer_sends}
use Rattle.theorems.proofs.Ending.{TakesNone, takes_none, said_kept}
use Rattle.theorems.proofs.Facts.{KeptAs, Agrees, RowFact, bound_facts}
use Rattle.theorems.proofs.Joins.{CanBind}
use Rattle.theorems.proofs.Keeps.{Kept, quiet_kept, plain_kept, Plain, plain_to, plain_goes}
use Rattle.theorems.proofs.Owning.{bound_owned}
use Rattle.theorems.proofs.Naming.{bound_named}
use Rattle.theorems.proofs.Resumed.{IsCalled, called_is}
use Rattle.theorems.proofs.Standing.{Sends, bound_standing}
use Rattle.theorems.proofs.Tests.{some_same, none_not_some}
use Rattle.theorems.proofs.Volatile.{bound_all_volatile}

clash : true ≡ false → ⊥
clash e = cc

-- a row that puts what its answer says

pub plain_row : (id : List ℕ) (t at u : Trace) (c : ℕ) (p : Conn) (i : Item) (y : Answer) → TakesNone t c i y → bound_for at u c i y ≡ None → links_put at (puts c (said id p y) u) c i y ≡ []
    → Kept u (ended_by t c i y) → Kept (goes (item_put id at u c p i y) (with_bound (bound_for at u c i y) u)) []
plain_row id t at u c p i y none unbound nothing was =
    subst (λ (b : Option Binding). Kept (goes (item_put id at u c p i y) (with_bound b u)) []) (sym unbound)
    (subst (λ (ps : List Put). Kept (goes ps u) []) (sym (ap (λ (ps : List Put). each_to c (said id p y) ++ ps) nothing ∙ append-nil (each_to c (said id p y))))
    (said_kept id p t c i u y none was))

-- the answers to a disposition

answers_plain : (own : ℕ) (s : Option DeliveryState) (ids : List ℕ) → Plain (settled_answers own s ids)
answers_plain own None ids = tt
answers_plain own (Some s) [] = tt
answers_plain own (Some s) (id ∷ ids) = (refl, answers_plain own (Some s) ids)

pub disposed_row : (id : List ℕ) (t at u : Trace) (c : ℕ) (p : Conn) (sasl : Bool) (channel : ℕ) (x : ADisposition) (payload : List ℕ) (y : Answer)
    → bound_for at u c (item.Frame sasl channel (perf.Disposition x) payload) y ≡ None → Kept u (ended_by t c (item.Frame sasl channel (perf.Disposition x) payload) y)
    → Kept (goes (item_put id at u c p (item.Frame sasl channel (perf.Disposition x) payload) y) (with_bound (bound_for at u c (item.Frame sasl channel (perf.Disposition x) payload) y) u)) []
disposed_row id t at u c p sasl channel x payload (Settle own) none was =
    plain_goes (each_to c (settled_answers own (terminal x.state) (open_ids at c own x.first (last_of x)))) u
    (plain_to c (settled_answers own (terminal x.state) (open_ids at c own x.first (last_of x))) (answers_plain own (terminal x.state) (open_ids at c own x.first (last_of x)))) was
disposed_row id t at u c p sasl channel x payload y none was =
    plain_row id t at u c p (item.Frame sasl channel (perf.Disposition x) payload) y (takes_none t c (item.Frame sasl channel (perf.Disposition x) payload) y refl) none refl was

-- a producer's link, which the router may detach

pub record Receives (w : Trace) (c own handle : ℕ) : Type 0 where
  pub at : Link
  pub there : link w c own handle ≡ Some at
  pub way : is_sending at.happened ≡ false

pub let_kept : (w after : Trace) (c own handle : ℕ) (x : Condition) → Receives w c own handle → Kept w [] → Kept (goes (each_to c (let_go after c own handle x)) w) []
let_kept w after c own handle x at was = quiet_kept c (detach_item own handle (not (lasts_on (link after c own handle))) (Some x)) w tt refl spares was
  where
    three : (a b d : Bool) → (a && (b && d)) ≡ true → (a ≡ true) × (b ≡ true) × (d ≡ true)
    three true true true h = (refl, refl, refl)
    three true true false h = absurd (clash (sym h))
    three true false d h = absurd (clash (sym h))
    three false b d h = absurd (clash (sym h))

    differ : (d : Delivery) → Sends w d.link → d.link.conn.0 ≡ c → own ≡ d.link.channel → handle ≡ d.link.handle → ⊥
    differ d stands e f g =
        let same : link w d.link.conn.0 d.link.channel d.link.handle ≡ link w c own handle =
        ap (λ (k : ℕ). link w k d.link.channel d.link.handle) e ∙ ap (λ (k : ℕ). link w c k d.link.handle) (sym f) ∙ ap (λ (k : ℕ). link w c own k) (sym g) in
        let one : stands.at ≡ at.at = some_same (sym stands.there ∙ same ∙ at.there) in
        clash (sym stands.way ∙ ap (λ (l : Link). is_sending l.happened) one ∙ at.way)

    spares : (n : ℕ) (d : Delivery) → delivery w n ≡ Some d → is_undecided d ≡ true → put_ends (detach_item own handle (not (lasts_on (link after c own handle))) (Some x)) c d.link ≡ false
    spares n d there undecided = by ((d.link.conn.0 == c) && ((own == d.link.channel) && (handle == d.link.handle))) refl
      where
        by : (b : Bool) → ((d.link.conn.0 == c) && ((own == d.link.channel) && (handle == d.link.handle))) ≡ b → b ≡ false
        by false is = refl
        by true is =
            let e = three (d.link.conn.0 == c) (own == d.link.channel) (handle == d.link.handle) is in
            absurd (differ d (was.standing.consumers n d there undecided) (eqb-true d.link.conn.0 c e.0) (eqb-true own d.link.channel e.1) (eqb-true handle d.link.handle e.2))

many_kept : (w after : Trace) (c own handle : ℕ) (items : List Item) → Receives w c own handle → Plain items → Kept w [] → Kept (goes (each_to c (unless_many after c own handle items)) w) []
many_kept w after c own handle items at plain was = by (nat_lt 1024 (unbound after c own handle))
  where
    by : (b : Bool) → Kept (goes (each_to c (if b then let_go after c own handle ResourceLimitExceeded else items)) w) []
    by true = let_kept w after c own handle ResourceLimitExceeded at was
    by false = plain_goes (each_to c items) w (plain_to c items plain) was

ignored_kept : (w after : Trace) (c own handle : ℕ) (v : Option ℕ) → Receives w c own handle → Kept w [] → Kept (goes (each_to c (ignored_put after c own handle v)) w) []
ignored_kept w after c own handle None at was = was
ignored_kept w after c own handle (Some id) at was = many_kept w after c own handle [] at tt was

let_down_kept : (w after : Trace) (c own handle : ℕ) (v : Option ℕ) → Receives w c own handle → Kept w [] → Kept (goes (each_to c (let_down after c own handle v)) w) []
let_down_kept w after c own handle None at was = was
let_down_kept w after c own handle (Some id) at was = by (lasts_on (link after c own handle))
  where
    by : (durable : Bool) → Kept (goes (each_to c (let_down_by after c own handle durable (let_down_as (goes_to_all after (link after c own handle))) id)) w) []
    by false = plain_kept c _ w refl was
    by true = many_kept w after c own handle _ at (refl, tt) was

resumed_put_kept : (w after : Trace) (c own handle : ℕ) (v : Option ℕ) (r : Option ARow) → Receives w c own handle → Kept w [] → Kept (goes (each_to c (unless_joined r (ignored_put after c own handle v))) w) []
resumed_put_kept w after c own handle v None at was = ignored_kept w after c own handle v at was
resumed_put_kept w after c own handle v (Some r) at was = was

whole_kept : (b : BookView) (w after : Trace) (c own handle : ℕ) (d : Told) (row : Option RowNumber) → Receives w c own handle → Kept w [] → Kept (goes (each_to c (whole_put b after c own handle d row)) w) []
whole_kept b w after c own handle d row at was = by d.resume (consumer_for after c own handle d row)
  where
    by : (resumed : Bool) (consumer : Option Attachment)
        → Kept (goes (each_to c (if resumed then resumed_put b after c own handle (claimed_id after c own handle d.id) else unbound_put after c own handle (claimed_id after c own handle d.id) consumer)) w) []
    by true consumer = resumed_put_kept w after c own handle (claimed_id after c own handle d.id) (row_resumed b after c own (claimed_id after c own handle d.id)) at was
    by false None = let_down_kept w after c own handle (claimed_id after c own handle d.id) at was
    by false (Some a) = was

part_kept : (b : BookView) (w after : Trace) (c own handle : ℕ) (row : Option RowNumber) (q : Option Part) → Receives w c own handle → Kept w [] → Kept (goes (each_to c (part_put b after c own handle row q)) w) []
part_kept b w after c own handle row (Some (part.Whole d payload)) at was = whole_kept b w after c own handle d row at was
part_kept b w after c own handle row (Some part.TooLarge) at was = let_kept w after c own handle MessageSizeExceeded at was
part_kept b w after c own handle row _ at was = was

-- a message that is bound

from_attached : (o : Option Origin) (u : Trace) (c own handle : ℕ) (l : Link) (d : Told) → ComesFrom o u c own handle l d → link u c own handle ≡ Some l → (p : Origin) → o ≡ Some p → is_attached u p.link ≡ true
from_attached None u c own handle l d from there p is = absurd (none_not_some is)
from_attached (Some q) u c own handle l d from there p is =
    subst (λ (a : Attachment). is_attached u a ≡ true) (sym from.0 ∙ ap (λ (x : Origin). x.link) (some_same is))
    (ap (has_number l.number) there ∙ eq-eqb l.number l.number refl)

from_origin : (o : Option Origin) (p : Origin) → either_origin o None ≡ Some p → o ≡ Some p
from_origin None p is = absurd (none_not_some is)
from_origin (Some q) p is = is

-- one that has no row came on a link that isn't durable, unless its producer had settled it
not_lasting : (q : Bool) (o : Option Origin) (row : Option RowNumber) (p : Origin) → HasRowOn q o row → o ≡ Some p → row ≡ None → q ≡ false
not_lasting false o row p has is none = refl
not_lasting true None row p has is none = absurd (none_not_some is)
not_lasting true (Some q) None p has is none = absurd (clash (sym has))
not_lasting true (Some q) (Some r) p has is none = absurd (none_not_some (sym none))

key_none : (o : Option LinkKey) → is_some o ≡ false → o ≡ None
key_none None e = refl
key_none (Some k) e = absurd (clash e)

came_from : (o : Option Origin) (u : Trace) (c own handle : ℕ) (l : Link) (d : Told) → ComesFrom o u c own handle l d → (p : Origin) → o ≡ Some p → p.link ≡ from_link c own handle l
came_from None u c own handle l d from p is = absurd (none_not_some is)
came_from (Some q) u c own handle l d from p is = sym (ap (λ (x : Origin). x.link) (some_same is)) ∙ from.0

no_key : (u : Trace) (b : Binding) → BindsMessage u b → b.row ≡ None → (p : Origin) → origin_of b.kind ≡ Some p → durable_key (link_of u p.link) ≡ None
no_key u b binds none p own =
    ap (λ (a : Attachment). durable_key (link_of u a)) (came_from (origin_of b.kind) u binds.conn binds.own binds.handle binds.producer binds.message binds.from p own)
    ∙ ap durable_key binds.attached
    ∙ key_none (durable_key (Some binds.producer)) (not_lasting (lasts_on (Some binds.producer)) (origin_of b.kind) b.row p binds.has_row own none)

-- of a message
pub can_message : (u : Trace) (b : Binding) (o : Option Origin) → b.kind ≡ kind.Message o → BindsMessage u b → ((r : RowNumber) → b.row ≡ Some r → RowFact u (book_in u) r (bound (name_in u b) (rank_in u b) b))
    → (b.row ≡ None → (p : Origin) → origin_of b.kind ≡ Some p → (tag : List ℕ) × HasClaim u p tag) → CanBind u b
can_message u b o is binds fact claims = record {
  consumer = λ undecided. consumer_sends u binds.producer b.consumer binds.chosen;
  producer = λ p from. from_attached (origin_of b.kind) u binds.conn binds.own binds.handle binds.producer binds.message binds.from binds.attached p
      (from_origin (origin_of b.kind) p (ap (λ (k : BindingKind). either_origin (origin_of b.kind) (told_of k)) (sym is) ∙ from));
  new = λ new r named. fact r named;
  joined = λ r q d joins. absurd (none_not_some (ap holds_standing (sym is) ∙ joins));
  volatile = λ none p from.
      let own : origin_of b.kind ≡ Some p = from_origin (origin_of b.kind) p (ap (λ (k : BindingKind). either_origin (origin_of b.kind) (told_of k)) (sym is) ∙ from) in
      let claim = claims none p own in
      record { volatile = no_key u b binds none p own; tag = claim.0; claimed = claim.1 };
  rowed = λ q joins none. none_not_some (ap holds_standing (sym is) ∙ joins);
}

pub bound_kept : (b : Binding) (u : Trace) → CanBind u b → Kept u [] → Kept (Bound b ∷ u) []
bound_kept b u can was = record {
  law = was.law;
  own = was.own;
  apart = was.apart;
  facts = bound_facts b u can.new can.joined was.facts;
  volatile = bound_all_volatile b u can.volatile can.rowed was.volatile;
  standing = bound_standing b u can.consumer can.producer was.standing;
  named = bound_named b u was.named;
  ordered = was.ordered;
  owned = bound_owned b u [] was.owned;
}

-- a copy of a message, to a link on which the router sends
pub copy_kept : (u : Trace) (format : ℕ) (payload : List ℕ) (a : Attachment) → Sends u a → Kept u [] → Kept (Bound (copy_to u format payload a) ∷ u) []
copy_kept u format payload a sends was =
    bound_kept (copy_to u format payload a) u (record {
      consumer = λ undecided. sends;
      producer = λ p from. absurd (none_not_some from);
      new = λ new r named. absurd (none_not_some named);
      joined = λ r q d joins. absurd (none_not_some joins);
      volatile = λ none p from. absurd (none_not_some from);
      rowed = λ q joins none. none_not_some joins;
    }) was

-- a row that is taken up

-- the attachment with a key, if the router is the sender there, is one on which it sends
pub taken_sends : (u : Trace) (key : LinkKey) (a : Attachment) → consumer_with u key ≡ Some a → Sends u a
taken_sends u key a is = by_last (last_of_key u key) is
  where
    by_link : (x : Attachment) (v : Option Link) → link_of u x ≡ v → has_number x.number v ≡ true → is_consumer v ≡ true → Sends u x
    by_link x None there numbered way = absurd (clash (sym numbered))
    by_link x (Some l) there numbered way = record { at = l; there = there; number = eqb-true l.number x.number numbered; way = way }

    by_way : (x : Attachment) (q : Bool) → is_attached u x ≡ true → is_consumer (link_of u x) ≡ q → (if q then Some x else None) ≡ Some a → Sends u a
    by_way x true here way is = subst (λ (y : Attachment). Sends u y) (some_same is) (by_link x (link_of u x) refl here way)
    by_way x false here way is = absurd (none_not_some is)

    by_attached : (x : Attachment) (q : Bool) → is_attached u x ≡ q → if_consumer u (if q then Some x else None) ≡ Some a → Sends u a
    by_attached x true here is = by_way x (is_consumer (link_of u x)) here refl is
    by_attached x false here is = absurd (none_not_some is)

    by_last : (v : Option Attachment) → if_consumer u (if_attached u v) ≡ Some a → Sends u a
    by_last None is = absurd (none_not_some is)
    by_last (Some x) is = by_attached x (is_attached u x) refl is

-- the delivery that its row had until then has its producer's delivery
record HadSource (u : Trace) (n : RowNumber) (p : Origin) : Type 0 where
  before : Delivery
  was_called : IsCalled u (Row n) before
  from : source before ≡ Some p

had_source : (u : Trace) (n : RowNumber) (o told : Option Origin) (p : Origin) → o ≡ origin_in (called u (Row n)) → told ≡ told_in (called u (Row n)) → either_origin o told ≡ Some p → HadSource u n p
had_source u n o told p from_origin from_told is =
    by (called u (Row n)) refl
    (sym (ap (λ (x : Option Origin). either_origin x told) from_origin ∙ ap (either_origin (origin_in (called u (Row n)))) from_told) ∙ is)
  where
    by : (v : Option Delivery) → called u (Row n) ≡ v → either_origin (origin_in v) (told_in v) ≡ Some p → HadSource u n p
    by None named is = absurd (none_not_some is)
    by (Some d) named is = record { before = d; was_called = called_is u (Row n) d named; from = is }

taken_source : (u : Trace) (b : Binding) (takes : TakesUp u b) (p : Origin) → source (bound (name_in u b) (rank_in u b) b) ≡ Some p → HadSource u takes.row.number p
taken_source u b takes p from =
    had_source u takes.row.number (origin_of b.kind) (told_of b.kind) p (ap origin_of takes.taken ∙ takes.origin) (ap told_of takes.taken ∙ takes.told) from

-- what the book has of the row: the outcome that is brought, as the journal keeps it
pub record Holds (u : Trace) (b : Binding) (takes : TakesUp u b) : Type 0 where
  pub known : takes.row.number.0 < (book_in u).next_row
  pub outcome : (row : ARow) → row_at takes.row.number.0 (book_in u).rows ≡ Some row → KeptAs row.outcome (outcome_as takes.brought.how)

-- what the book has of the row holds of the new delivery as it did of the old one
taken_fact : (u : Trace) (b : Binding) (takes : TakesUp u b) → Holds u b takes → Kept u [] → (r : RowNumber) → b.row ≡ Some r → RowFact u (book_in u) r (bound (name_in u b) (rank_in u b) b)
taken_fact u b takes holds was r named = subst (λ (n : RowNumber). RowFact u (book_in u) n (bound (name_in u b) (rank_in u b) b)) (some_same (sym takes.number ∙ named)) fact
  where
    n : RowNumber
    n = takes.row.number

    -- the old delivery's row
    old : (p : Origin) → source (bound (name_in u b) (rank_in u b) b) ≡ Some p → (v : Option ARow) → row_at n.0 (book_in u).rows ≡ v
        → (before : Delivery) × (source before ≡ Some p) × Agrees u (book_in u) v before
    old p from v found =
        let had = taken_source u b takes p from in
        (had.before, had.from, subst (λ (w : Option ARow). Agrees u (book_in u) w had.before) found (was.facts had.was_called.number had.before n had.was_called.there had.was_called.named).agrees)

    agrees : (v : Option ARow) → row_at n.0 (book_in u).rows ≡ v → Agrees u (book_in u) v (bound (name_in u b) (rank_in u b) b)
    agrees None found = λ p from. let had = old p from None found in had.2 p had.1
    agrees (Some row) found = record {
      outcome = subst (KeptAs row.outcome) (sym (ap outcome_in takes.taken)) (holds.outcome row found);
      waits = λ p from. let had = old p from (Some row) found in had.2.waits p had.1;
      from = λ p from. let had = old p from (Some row) found in had.2.from p had.1;
      claimed = λ p from. let had = old p from (Some row) found in had.2.claimed p had.1;
    }

    fact : RowFact u (book_in u) n (bound (name_in u b) (rank_in u b) b)
    fact = record {
      settled = ap presettles takes.taken;
      known = holds.known;
      agrees = agrees (row_at n.0 (book_in u).rows) refl;
    }

pub taken_up_kept : (u : Trace) (b : Binding) (takes : TakesUp u b) → Holds u b takes → Kept u [] → Kept (Bound b ∷ u) []
taken_up_kept u b takes holds was =
    bound_kept b u (record {
      consumer = λ undecided. taken_sends u takes.key b.consumer takes.attached;
      producer = producer;
      new = λ new. taken_fact u b takes holds was;
      joined = λ r q d joins. absurd (none_not_some (ap holds_standing (sym takes.taken) ∙ joins));
      volatile = λ none. absurd (none_not_some (sym none ∙ takes.number));
      rowed = λ q joins none. none_not_some (sym none ∙ takes.number);
    }) was
  where
    producer : (p : Origin) → source (bound (name_in u b) (rank_in u b) b) ≡ Some p → is_attached u p.link ≡ true
    producer p from =
        let had = taken_source u b takes p from in
        was.standing.producers had.was_called.number had.before p had.was_called.there had.from

-- what a binding needs
abbrev pub MayBind : Trace → Option Binding → Type 0
MayBind u None = Unit {0}
MayBind u (Some b) = CanBind u b

pub with_kept : (b : Option Binding) (u : Trace) → MayBind u b → Kept u [] → Kept (with_bound b u) []
with_kept None u may was = was
with_kept (Some b) u may was = bound_kept b u may was

receives_still : (b : Option Binding) (u : Trace) (c own handle : ℕ) → Receives u c own handle → Receives (with_bound b u) c own handle
receives_still None u c own handle at = at
receives_still (Some b) u c own handle at = record { at = at.at; there = at.there; way = at.way }

-- a transfer
pub taken_row : (id : List ℕ) (t at u : Trace) (c : ℕ) (p : Conn) (sasl : Bool) (channel : ℕ) (x : ATransfer) (payload : List ℕ) (y : Answer)
    → MayBind u (bound_for at u c (item.Frame sasl channel (perf.Transfer x) payload) y) → ((own handle : ℕ) → y ≡ Taken own handle → Receives u c own handle)
    → Kept u (ended_by t c (item.Frame sasl channel (perf.Transfer x) payload) y)
    → Kept (goes (item_put id at u c p (item.Frame sasl channel (perf.Transfer x) payload) y) (with_bound (bound_for at u c (item.Frame sasl channel (perf.Transfer x) payload) y) u)) []
taken_row id t at u c p sasl channel x payload (Taken own handle) may stands was =
    let b : Option Binding = bound_for at u c (item.Frame sasl channel (perf.Transfer x) payload) (Taken own handle) in
    part_kept (book_in at) (with_bound b u) u c own handle (row_found at) (part_of (item.Frame sasl channel (perf.Transfer x) payload) (link_place at c own))
    (receives_still b u c own handle (stands own handle refl)) (with_kept b u may was)
taken_row id t at u c p sasl channel x payload y may stands was =
    plain_row id t at u c p (item.Frame sasl channel (perf.Transfer x) payload) y (takes_none t c (item.Frame sasl channel (perf.Transfer x) payload) y refl) refl refl was
