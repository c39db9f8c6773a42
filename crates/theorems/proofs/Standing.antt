-- Which links stand: each holds its key, so no two links have one key; an undecided delivery's consumer still has its link, and so has a producer that isn't done
-- with its delivery.
use Rattle.std.proofs.Common.{◌≡◌, ◌∙◌, sym, ap, refl, subst, ℕ, ◌+◌, Bool, true, false, ◌&&◌, List, ◌∷◌, arith}
use Rattle.std.specs.Prelude.{◌==◌, Option, Some, None, is_some, option_map, if◌then◌else◌}
use Rattle.std.specs.Ordering.{nat_cmp, is_eq, ordering_then}
use Rattle.std.specs.Cmp.Lexicographic.{slice_cmp}
use Rattle.std.specs.declared.cmp.Ordering.{Ordering}
use Rattle.std.specs.declared.cmp.Ordering.TheVariants.{Less, Equal, Greater}
use Rattle.std.proofs.lemmas.Bool.{eqb-true, eq-eqb}
use Rattle.std.proofs.lemmas.Bool.Decides.{nat_tests}
use Rattle.std.proofs.lemmas.Cmp.{tied_itself}
use Rattle.std.proofs.lemmas.Map.Lookups.{exact_unsigned, exact_bytes}
use Rattle.amqp_model.specs.declared.perf.Attach.{Attach as AnAttach}
use Rattle.amqp_model.specs.declared.perf.Flow.{Flow}
use Rattle.amqp_model.specs.declared.perf.Perf.{Perf}
use Rattle.amqp_model.specs.declared.perf.Perf.TheVariants as perf
use Rattle.amqp_model.specs.declared.perf.Transfer.{Transfer}
use Rattle.amqp_model.specs.declared.item.Item.{Item}
use Rattle.amqp_model.specs.declared.item.Item.TheVariants as item
use Rattle.book_model.specs.declared.act.Act.{Act}
use Rattle.book_model.specs.declared.terminus.LinkKey.{LinkKey}
use Rattle.book_model.specs.declared.terminus.LinkRole.{LinkRole}
use Rattle.book_model.specs.declared.terminus.LinkRole.TheVariants.{Producer, Consumer}
use Rattle.book_model.specs.Keys.{rank, keys_total}
use Rattle.router_trace.specs.declared.binding.Holding.TheVariants as holding
use Rattle.router_trace.specs.declared.binding.Holding.{Holding}
use Rattle.router_trace.specs.Configuration.{opened}
use Rattle.router_trace.specs.declared.binding.Binding.{Binding}
use Rattle.router_trace.specs.declared.binding.BindingKind.{BindingKind}
use Rattle.router_trace.specs.declared.binding.BindingKind.TheVariants as kind
use Rattle.router_trace.specs.declared.binding.JoinedTo.TheVariants.{Standing as StandingOne, New}
use Rattle.router_trace.specs.declared.binding.Origin.{Origin}
use Rattle.router_trace.specs.declared.channel.PeerChannel.{PeerChannel}
use Rattle.router_trace.specs.declared.event.Event.{Event}
use Rattle.router_trace.specs.declared.event.Event.TheVariants as event
use Rattle.router_trace.specs.declared.handle.Asked.{Asked}
use Rattle.router_trace.specs.declared.handle.Attachment.{Attachment}
use Rattle.router_trace.specs.declared.handle.PeerHandle.{PeerHandle}
use Rattle.router_trace.specs.Trace.{Beginning, Entry, Did, Out, Took, Bound, Booked, Step}
use Rattle.router_trace.specs.Sessions.{maps, theirs}
use Rattle.router_trace.specs.Links.{Link, Happened, durable_key, flowed_from, flowed_to, started, came_to, sends, receives, is_lost, ends_handle, ends_handle_in, handle_asked, answers_in, answers_by, answered_handle, asked, address_by, attachments, attached, after_our_flow, after_our_transfer, after_their_flow, after_their_transfer, is_handle, link_in, link_after, heard_link, link_by, link_at, names, names_by, their_handle, key_at, link, has_number, is_attached, if_attached, same_key, newest_in, last_of_key, holder}
use Rattle.router_trace.specs.Following.{is_sending, link_of}
use Rattle.router_trace.specs.Deliveries.{Delivery, name_in, delivery, source, either_origin, origin_of, is_undecided, ended_by, bound, rank_in, holds_standing, held_by, resumed_held, told_of}
use Rattle.state_messages.specs.Messages.{standing_at}
use Rattle.theorems.proofs.Rebound.{AfterBound, after_bound, held_link, held_undecided}
use Rattle.theorems.proofs.Rebound.AfterBound.{is_new, is_joined, is_old}
use Rattle.state_connections.proofs.Lists.{by_test}
use Rattle.theorems.proofs.Tests.{some_same, none_not_some}
use Rattle.theorems.proofs.Undecided.{lost_by, was_did, was_out}

clash : true ≡ false → ⊥
clash e = cc

-- keys that compare alike are one

both_equal : (x y : Ordering) → is_eq (ordering_then x y) ≡ true → (is_eq x ≡ true) × (is_eq y ≡ true)
both_equal Less y h = absurd cc
both_equal Equal y h = (refl, h)
both_equal Greater y h = absurd cc

equal : (o : Ordering) → is_eq o ≡ true → o ≡ Equal
equal Less h = absurd cc
equal Equal h = refl
equal Greater h = absurd cc

same_rank : (a b : LinkRole) → rank a ≡ rank b → a ≡ b
same_rank Producer Producer h = refl
same_rank Producer Consumer h = absurd cc
same_rank Consumer Producer h = absurd cc
same_rank Consumer Consumer h = refl

same_text : (a b : List ℕ) → is_eq (slice_cmp nat_cmp a b) ≡ true → a ≡ b
same_text a b h = exact_bytes a b (equal (slice_cmp nat_cmp a b) h)

pub exact_key : (a b : LinkKey) → same_key a b ≡ true → a ≡ b
exact_key a b h =
    let texts = both_equal (slice_cmp nat_cmp a.name b.name) (ordering_then (slice_cmp nat_cmp a.container b.container) (ordering_then (slice_cmp nat_cmp a.user b.user) (nat_cmp (rank a.role) (rank b.role)))) h in
    let containers = both_equal (slice_cmp nat_cmp a.container b.container) (ordering_then (slice_cmp nat_cmp a.user b.user) (nat_cmp (rank a.role) (rank b.role))) texts.1 in
    let users = both_equal (slice_cmp nat_cmp a.user b.user) (nat_cmp (rank a.role) (rank b.role)) containers.1 in
    let role = same_rank a.role b.role (exact_unsigned (rank a.role) (rank b.role) (equal (nat_cmp (rank a.role) (rank b.role)) users.1)) in
    let name = same_text a.name b.name texts.0 in
    let container = same_text a.container b.container containers.0 in
    let user = same_text a.user b.user users.0 in
    λ i. record { role = role i; user = user i; container = container i; name = name i }

pub key_itself : (k : LinkKey) → same_key k k ≡ true
key_itself k = ap is_eq (tied_itself keys_total k)

-- what stays of a link

pub record SameLink (l m : Link) : Type 0 where
  pub number : m.number ≡ l.number
  pub key : m.key ≡ l.key
  pub durable : m.durable ≡ l.durable
  pub way : is_sending m.happened ≡ is_sending l.happened

pub same_link : (l : Link) → SameLink l l
same_link l = record { number = refl; key = refl; durable = refl; way = refl }

-- a link after an entry, by whether the entry ends it
record Behaves (over : Bool) (v w : Option Link) : Type 0 where
  change : Link → Link
  same : (l : Link) → SameLink l (change l)
  is : w ≡ (if over then None else option_map change v)

map_same : (v : Option Link) → v ≡ option_map (λ l. l) v
map_same None = refl
map_same (Some l) = refl

unchanged : (v : Option Link) → Behaves false v v
unchanged v = record { change = λ l. l; same = same_link; is = map_same v }

changed_if : (q : Bool) (f : Link → Link) → ((l : Link) → SameLink l (f l)) → (v : Option Link) → Behaves false v (if q then option_map f v else v)
changed_if true f same v = record { change = f; same = same; is = refl }
changed_if false f same v = unchanged v

over_if : (q : Bool) (v : Option Link) → Behaves q v (if q then None else v)
over_if true v = record { change = λ l. l; same = same_link; is = refl }
over_if false v = unchanged v

pub our_flow : (f : Flow) (l : Link) → SameLink l (after_our_flow f l)
our_flow f l = record { number = refl; key = refl; durable = refl; way = by l.happened }
  where
    by : (h : Happened) → is_sending (flowed_from f h) ≡ is_sending h
    by (sends list) = refl
    by (receives list) = refl

pub our_transfer : (x : Transfer) (l : Link) → SameLink l (after_our_transfer x l)
our_transfer x l = record { number = refl; key = refl; durable = refl; way = by l.happened }
  where
    by : (h : Happened) → is_sending (started l.going_on h) ≡ is_sending h
    by (sends list) = refl
    by (receives list) = refl

pub their_flow : (f : Flow) (l : Link) → SameLink l (after_their_flow f l)
their_flow f l = record { number = refl; key = refl; durable = refl; way = by l.happened }
  where
    by : (h : Happened) → is_sending (flowed_to f h) ≡ is_sending h
    by (sends list) = refl
    by (receives list) = refl

pub their_transfer : (x : Transfer) (payload : List ℕ) (l : Link) → SameLink l (after_their_transfer x payload l)
their_transfer x payload l = record { number = refl; key = refl; durable = refl; way = by l.happened }
  where
    by : (h : Happened) → is_sending (came_to x payload h) ≡ is_sending h
    by (sends list) = refl
    by (receives list) = refl

-- items that are put: an attach makes a link

abbrev pub attaches_in : Perf → ℕ → ℕ → ℕ → Bool
attaches_in (perf.Attach a) own o h = (own == o) && (a.handle == h)
attaches_in _ own o h = false

abbrev pub attaches : Item → ℕ → ℕ → Bool
attaches (item.Frame sasl own body payload) o h = attaches_in body own o h
attaches _ o h = false

perf_behaves : (body : Perf) (own o h number : ℕ) (key : AnAttach → LinkKey) (last : Option Asked) (v : Option Link) → attaches_in body own o h ≡ false
    → Behaves (ends_handle_in body own o h) v (link_in body own o h number key last v)
perf_behaves (perf.Attach a) own o h number key last v apart =
    subst (λ (b : Bool). Behaves false v (if b then attached number (key a) a last (address_by a.role a) else v)) (sym apart) (unchanged v)
perf_behaves (perf.Flow f) own o h number key last v apart = changed_if ((own == o) && is_handle f.handle h) (after_our_flow f) (our_flow f) v
perf_behaves (perf.Transfer x) own o h number key last v apart = changed_if ((own == o) && (x.handle == h)) (after_our_transfer x) (our_transfer x) v
perf_behaves body own o h number key last v apart = over_if (ends_handle_in body own o h) v

item_behaves : (i : Item) (o h number : ℕ) (key : AnAttach → LinkKey) (last : Option Asked) (v : Option Link) → attaches i o h ≡ false
    → Behaves (ends_handle i o h) v (link_after i o h number key last v)
item_behaves (item.Frame sasl own body payload) o h number key last v apart = perf_behaves body own o h number key last v apart
item_behaves _ o h number key last v apart = unchanged v

-- events

heard_behaves : (body : Perf) (payload : List ℕ) (h : ℕ) (known : ℕ → Option PeerHandle) (v : Option Link) → Behaves false v (heard_link body payload h known v)
heard_behaves (perf.Flow f) payload h known v = changed_if (names_by f.handle known h) (after_their_flow f) (their_flow f) v
heard_behaves (perf.Transfer x) payload h known v = changed_if (names (known x.handle) h) (after_their_transfer x payload) (their_transfer x payload) v
heard_behaves _ payload h known v = unchanged v

came_behaves : (i : Item) (o h : ℕ) (channels : ℕ → Option PeerChannel) (handles : ℕ → Option PeerHandle) (v : Option Link) → Behaves false v (link_by i o h channels handles v)
came_behaves (item.Frame sasl channel body payload) o h channels handles v = by sasl (maps (channels channel) o)
  where
    by : (s m : Bool) → Behaves false v (if s then v else (if m then heard_link body payload h handles v else v))
    by true m = unchanged v
    by false true = heard_behaves body payload h handles v
    by false false = unchanged v
came_behaves _ o h channels handles v = unchanged v

event_behaves : (e : Event) (c o h : ℕ) (channels : ℕ → Option PeerChannel) (handles : ℕ → Option PeerHandle) (v : Option Link) → Behaves (is_lost e c) v (link_at e c o h channels handles v)
event_behaves (event.Item d i) c o h channels handles v = by (d.0 == c)
  where
    by : (b : Bool) → Behaves false v (if b then link_by i o h channels handles v else v)
    by true = came_behaves i o h channels handles v
    by false = unchanged v
event_behaves (event.Down d) c o h channels handles v = over_if (d.0 == c) v
event_behaves _ c o h channels handles v = unchanged v

-- a link that is there after an entry was there before, and one that doesn't end is there after it

record LinkWas (over : Bool) (v : Option Link) (m : Link) : Type 0 where
  before : Link
  there : v ≡ Some before
  same : SameLink before m
  spared : over ≡ false

link_was : (over : Bool) (v w : Option Link) (m : Link) → Behaves over v w → w ≡ Some m → LinkWas over v m
link_was over v w m behaves now = by over v behaves.change behaves.same (sym behaves.is ∙ now)
  where
    by : (over : Bool) (v : Option Link) (f : Link → Link) → ((l : Link) → SameLink l (f l)) → (if over then None else option_map f v) ≡ Some m → LinkWas over v m
    by true v f same is = absurd (none_not_some is)
    by false None f same is = absurd (none_not_some is)
    by false (Some l) f same is = record { before = l; there = refl; same = subst (λ (k : Link). SameLink l k) (some_same is) (same l); spared = refl }

record LinkIs (w : Option Link) (l : Link) : Type 0 where
  behind : Link
  there : w ≡ Some behind
  same : SameLink l behind

link_is : (over : Bool) (v w : Option Link) (l : Link) → Behaves over v w → over ≡ false → v ≡ Some l → LinkIs w l
link_is over v w l behaves spared was = record {
  behind = behaves.change l;
  there = behaves.is ∙ ap (λ (b : Bool). if b then None else option_map behaves.change v) spared ∙ ap (option_map behaves.change) was;
  same = behaves.same l;
}

-- what stands

-- a link on which the router sends
pub record Sends (t : List Entry) (a : Attachment) : Type 0 where
  pub at : Link
  pub there : link t a.conn.0 a.channel a.handle ≡ Some at
  pub number : at.number ≡ a.number
  pub way : is_sending at.happened ≡ true

pub record Standing (t : List Entry) : Type 0 where
  pub answered : (c o h : ℕ) (l : Link) → link t c o h ≡ Some l → is_some (answered_handle t c o h) ≡ true
  pub keys : (c o h : ℕ) (l : Link) → link t c o h ≡ Some l → last_of_key t l.key ≡ Some (standing_at c o h l)
  pub consumers : (n : ℕ) (d : Delivery) → delivery t n ≡ Some d → is_undecided d ≡ true → Sends t d.link
  pub producers : (n : ℕ) (d : Delivery) (p : Origin) → delivery t n ≡ Some d → source d ≡ Some p → is_attached t p.link ≡ true

attached_link : (a : Attachment) (v : Option Link) → has_number a.number v ≡ true → (l : Link) × (v ≡ Some l) × (l.number ≡ a.number)
attached_link a None h = absurd cc
attached_link a (Some l) h = (l, refl, eqb-true l.number a.number h)

numbered_link : (n : ℕ) (v : Option Link) (l : Link) → v ≡ Some l → l.number ≡ n → has_number n v ≡ true
numbered_link n v l is number = subst (λ (w : Option Link). has_number n w ≡ true) (sym is) (eq-eqb l.number n number)

key_moved : (c o h : ℕ) (l m : Link) (look : LinkKey → Option Attachment) → SameLink l m → look l.key ≡ Some (standing_at c o h l) → look m.key ≡ Some (standing_at c o h m)
key_moved c o h l m look same is =
    ap look same.key ∙ is ∙ ap (λ (n : ℕ). Some (record { number = n; conn = record { 0 = c }; channel = o; handle = h })) (sym same.number)

sends_after : (u : List Entry) (a b : Attachment) (l : Link) → b ≡ a → LinkIs (link u a.conn.0 a.channel a.handle) l → l.number ≡ a.number → is_sending l.happened ≡ true → Sends u b
sends_after u a b l same is number way =
    subst (λ (x : Attachment). Sends u x) (sym same) (record { at = is.behind; there = is.there; number = is.same.number ∙ number; way = is.same.way ∙ way })

pub began_standing : (g : Beginning) (below : List Entry) → Standing (opened g below)
began_standing g below = record {
  answered = λ c o h l is. absurd (none_not_some is);
  keys = λ c o h l is. absurd (none_not_some is);
  consumers = λ n d is undecided. absurd (none_not_some is);
  producers = λ n d p is from. absurd (none_not_some is);
}

pub did_standing : (s : Step) (t : List Entry) → Standing t → Standing (Did s ∷ t)
did_standing s t was = record {
  answered = λ c o h m is. let l = link_was (is_lost s.event c) (link t c o h) (link (Did s ∷ t) c o h) m (behaves c o h) is in rw l.spared (was.answered c o h l.before l.there);
  keys = λ c o h m is. let l = link_was (is_lost s.event c) (link t c o h) (link (Did s ∷ t) c o h) m (behaves c o h) is in
      key_moved c o h l.before m (last_of_key t) l.same (was.keys c o h l.before l.there);
  consumers = λ n d is undecided.
      let w = was_did s t n d is in
      let a : Attachment = w.before.link in
      let at = was.consumers n w.before w.there (w.undecided undecided) in
      sends_after (Did s ∷ t) a d.link at.at w.follows.link
      (link_is (is_lost s.event a.conn.0) (link t a.conn.0 a.channel a.handle) (link (Did s ∷ t) a.conn.0 a.channel a.handle) at.at (behaves a.conn.0 a.channel a.handle) (w.spares undecided) at.there)
      at.number at.way;
  producers = λ n d p is from.
      let w = was_did s t n d is in
      let a : Attachment = p.link in
      let at = attached_link a (link t a.conn.0 a.channel a.handle) (was.producers n w.before p w.there (w.comes p from)) in
      let now = link_is (is_lost s.event a.conn.0) (link t a.conn.0 a.channel a.handle) (link (Did s ∷ t) a.conn.0 a.channel a.handle) at.0 (behaves a.conn.0 a.channel a.handle) (w.keeps p from) at.1 in
      numbered_link a.number (link (Did s ∷ t) a.conn.0 a.channel a.handle) now.behind now.there (now.same.number ∙ at.2);
}
  where
    behaves : (c o h : ℕ) → Behaves (is_lost s.event c) (link t c o h) (link (Did s ∷ t) c o h)
    behaves c o h = event_behaves s.event c o h (theirs t c) (their_handle t c o) (link t c o h)

-- An attach that is put: nothing is attached on its handle, it answers an attach, and no link has its key.

abbrev pub fresh_in : Perf → List Entry → ℕ → ℕ → Type 0
fresh_in (perf.Attach a) t c own =
    (answered_handle t c own a.handle ≡ None) × (is_some (asked t c) ≡ true) × (is_some (address_by a.role a) ≡ true → holder t (key_at t c a) ≡ None)
fresh_in _ t c own = Unit {0}

abbrev pub IsFresh : List Entry → ℕ → Item → Type 0
IsFresh t c (item.Frame sasl own body payload) = fresh_in body t c own
IsFresh t c _ = Unit {0}

both : (a b : Bool) → (a && b) ≡ true → (a ≡ true) × (b ≡ true)
both true b h = (refl, h)
both false b h = absurd cc

perf_fresh_at : (body : Perf) (t : List Entry) (d own o h : ℕ) → fresh_in body t d own → attaches_in body own o h ≡ true → answered_handle t d o h ≡ None
perf_fresh_at (perf.Attach a) t d own o h fresh here =
    let is = both (own == o) (a.handle == h) here in
    subst (λ (k : ℕ). answered_handle t d o k ≡ None) (eqb-true a.handle h is.1) (subst (λ (k : ℕ). answered_handle t d k a.handle ≡ None) (eqb-true own o is.0) fresh.0)
perf_fresh_at _ t d own o h fresh here = absurd cc

fresh_at : (i : Item) (t : List Entry) (d o h : ℕ) → IsFresh t d i → attaches i o h ≡ true → answered_handle t d o h ≡ None
fresh_at (item.Frame sasl own body payload) t d o h fresh here = perf_fresh_at body t d own o h fresh here
fresh_at _ t d o h fresh here = absurd cc

apart_from : (d : ℕ) (i : Item) (t : List Entry) (c o h : ℕ) (l : Link) → IsFresh t d i → is_some (answered_handle t c o h) ≡ true → (d == c) ≡ true → attaches i o h ≡ false
apart_from d i t c o h l fresh answered same = by (attaches i o h) refl
  where
    by : (b : Bool) → attaches i o h ≡ b → b ≡ false
    by false is = refl
    by true is =
        let none : answered_handle t c o h ≡ None = subst (λ (k : ℕ). answered_handle t k o h ≡ None) (eqb-true d c same) (fresh_at i t d o h fresh is) in
        absurd (clash (sym answered ∙ ap is_some none))

out_behaves : (d : ℕ) (i : Item) (t : List Entry) (c o h : ℕ) → ((d == c) ≡ true → attaches i o h ≡ false) → Behaves (if d == c then ends_handle i o h else false) (link t c o h) (link (Out d i ∷ t) c o h)
out_behaves d i t c o h apart = by (d == c) apart
  where
    by : (b : Bool) → (b ≡ true → attaches i o h ≡ false)
        → Behaves (if b then ends_handle i o h else false) (link t c o h) (if b then link_after i o h (attachments t + 1) (key_at t c) (asked t c) (link t c o h) else link t c o h)
    by true apart = item_behaves i o h (attachments t + 1) (key_at t c) (asked t c) (link t c o h) (apart refl)
    by false apart = unchanged (link t c o h)

-- what is answered on a handle

perf_answers : (body : Perf) (own o h : ℕ) (last : Option Asked) (p : Option ℕ) → ends_handle_in body own o h ≡ false → attaches_in body own o h ≡ false → answers_in body own o h last p ≡ p
perf_answers (perf.Attach a) own o h last p spared apart = rw apart refl
perf_answers (perf.Detach x) own o h last p spared apart = rw spared refl
perf_answers (perf.End x) own o h last p spared apart = rw spared refl
perf_answers (perf.Close x) own o h last p spared apart = absurd (clash spared)
perf_answers _ own o h last p spared apart = refl

item_answers : (i : Item) (o h : ℕ) (last : Option Asked) (p : Option ℕ) → ends_handle i o h ≡ false → attaches i o h ≡ false → answers_by i o h last p ≡ p
item_answers (item.Frame sasl own body payload) o h last p spared apart = perf_answers body own o h last p spared apart
item_answers _ o h last p spared apart = refl

asked_some : (v : Option Asked) → is_some v ≡ true → is_some (handle_asked v) ≡ true
asked_some None h = absurd cc
asked_some (Some a) h = refl

perf_asked : (body : Perf) (own o h : ℕ) (t : List Entry) (d c : ℕ) (p : Option ℕ) → fresh_in body t d own → d ≡ c → attaches_in body own o h ≡ true → is_some (answers_in body own o h (asked t c) p) ≡ true
perf_asked (perf.Attach a) own o h t d c p fresh same here = rw here (asked_some (asked t c) (subst (λ (k : ℕ). is_some (asked t k) ≡ true) same fresh.1))
perf_asked _ own o h t d c p fresh same here = absurd cc

item_asked : (i : Item) (o h : ℕ) (t : List Entry) (d c : ℕ) (p : Option ℕ) → IsFresh t d i → d ≡ c → attaches i o h ≡ true → is_some (answers_by i o h (asked t c) p) ≡ true
item_asked (item.Frame sasl own body payload) o h t d c p fresh same here = perf_asked body own o h t d c p fresh same here
item_asked _ o h t d c p fresh same here = absurd cc

-- the key of a link that was attached before, and that of one that is attached now

perf_keeps_key : (body : Perf) (own d : ℕ) (t : List Entry) (c o h : ℕ) (l : Link) → fresh_in body t d own → link t c o h ≡ Some l → last_of_key t l.key ≡ Some (standing_at c o h l)
    → newest_in body own d (attachments t + 1) (λ a. same_key (key_at t d a) l.key) (last_of_key t l.key) ≡ Some (standing_at c o h l)
perf_keeps_key (perf.Attach a) own d t c o h l fresh there holds = by (is_some (address_by a.role a)) (same_key (key_at t d a) l.key) refl refl
  where
    held : holder t l.key ≡ Some (standing_at c o h l)
    held = ap (if_attached t) holds ∙ ap (λ (b : Bool). if b then Some (standing_at c o h l) else None) (numbered_link l.number (link t c o h) l there refl)

    none_some : {x : Attachment} → None ≡ Some x → ⊥
    none_some e = cc

    by : (b s : Bool) → is_some (address_by a.role a) ≡ b → same_key (key_at t d a) l.key ≡ s
        → (if b && s then Some (record { number = attachments t + 1; conn = record { 0 = d }; channel = own; handle = a.handle }) else last_of_key t l.key) ≡ Some (standing_at c o h l)
    by true true e f = absurd (none_some (sym (fresh.2 e) ∙ ap (holder t) (exact_key (key_at t d a) l.key f) ∙ held))
    by true false e f = holds
    by false s e f = holds
perf_keeps_key _ own d t c o h l fresh there holds = holds

item_keeps_key : (i : Item) (d : ℕ) (t : List Entry) (c o h : ℕ) (l : Link) → IsFresh t d i → link t c o h ≡ Some l → last_of_key t l.key ≡ Some (standing_at c o h l)
    → last_of_key (Out d i ∷ t) l.key ≡ Some (standing_at c o h l)
item_keeps_key (item.Frame sasl own body payload) d t c o h l fresh there holds = perf_keeps_key body own d t c o h l fresh there holds
item_keeps_key _ d t c o h l fresh there holds = holds

perf_new_key : (body : Perf) (own o h : ℕ) (t : List Entry) (c : ℕ) (m : Link) → attaches_in body own o h ≡ true
    → link_in body own o h (attachments t + 1) (key_at t c) (asked t c) (link t c o h) ≡ Some m
    → newest_in body own c (attachments t + 1) (λ a. same_key (key_at t c a) m.key) (last_of_key t m.key) ≡ Some (standing_at c o h m)
perf_new_key (perf.Attach a) own o h t c m here is = by (address_by a.role a) refl (rw here at is)
  where
    same : (own ≡ o) × (a.handle ≡ h)
    same = let e = both (own == o) (a.handle == h) here in (eqb-true own o e.0, eqb-true a.handle h e.1)

    by : (v : Option (List ℕ)) → address_by a.role a ≡ v → attached (attachments t + 1) (key_at t c a) a (asked t c) v ≡ Some m
        → (if is_some v && same_key (key_at t c a) m.key then Some (record { number = attachments t + 1; conn = record { 0 = c }; channel = own; handle = a.handle }) else last_of_key t m.key)
        ≡ Some (standing_at c o h m)
    by None e f = absurd (none_not_some f)
    by (Some address) e f =
        subst (λ (k : Link). (if same_key (key_at t c a) k.key then Some (record { number = attachments t + 1; conn = record { 0 = c }; channel = own; handle = a.handle }) else last_of_key t k.key)
        ≡ Some (standing_at c o h k)) (some_same f)
        (rw (key_itself (key_at t c a)) (λ j. Some (record { number = attachments t + 1; conn = record { 0 = c }; channel = same.0 j; handle = same.1 j })))
perf_new_key _ own o h t c m here is = absurd cc

item_new_key : (i : Item) (o h : ℕ) (t : List Entry) (c : ℕ) (m : Link) → attaches i o h ≡ true → link_after i o h (attachments t + 1) (key_at t c) (asked t c) (link t c o h) ≡ Some m
    → last_of_key (Out c i ∷ t) m.key ≡ Some (standing_at c o h m)
item_new_key (item.Frame sasl own body payload) o h t c m here is = perf_new_key body own o h t c m here is
item_new_key _ o h t c m here is = absurd cc

-- an item that is put

pub flipped : (a b : ℕ) (q : Bool) → (a == b) ≡ q → (b == a) ≡ q
flipped a b true e = grind (arith, nat_tests)
flipped a b false e = grind (arith, nat_tests)

spared_there : (d : ℕ) (i : Item) (a : Attachment) → ended_by i d a ≡ false → (if d == a.conn.0 then ends_handle i a.channel a.handle else false) ≡ false
spared_there d i a h = by (a.conn.0 == d) refl h
  where
    by : (b : Bool) → (a.conn.0 == d) ≡ b → (b && ends_handle i a.channel a.handle) ≡ false → (if d == a.conn.0 then ends_handle i a.channel a.handle else false) ≡ false
    by true e h = rw (flipped a.conn.0 d true e) h
    by false e h = rw (flipped a.conn.0 d false e) refl

pub out_standing : (d : ℕ) (i : Item) (t : List Entry) → IsFresh t d i → Standing t → Standing (Out d i ∷ t)
out_standing d i t fresh was = record {
  answered = λ c o h m is. by_test (d == c)
      (λ e. by_test (attaches i o h)
      (λ f. rw e (item_asked i o h t d c (answered_handle t c o h) fresh (eqb-true d c e) f))
      (λ f. let l = old c o h m (λ e. f) is in
      rw e (subst (λ (p : Option ℕ). is_some p ≡ true) (sym (item_answers i o h (asked t c) (answered_handle t c o h) (ap (λ (b : Bool). if b then ends_handle i o h else false) (sym e) ∙ l.spared) f))
      (was.answered c o h l.before l.there))))
      (λ e. let l = old c o h m (λ f. absurd (clash (sym f ∙ e))) is in rw e (was.answered c o h l.before l.there));
  keys = λ c o h m is. by_test (d == c)
      (λ e. by_test (attaches i o h)
      (λ f. subst (λ (k : ℕ). link (Out d i ∷ t) k o h ≡ Some m → last_of_key (Out d i ∷ t) m.key ≡ Some (standing_at k o h m)) (eqb-true d c e)
      (λ is. item_new_key i o h t d m f (rw (eq-eqb d d refl) at is)) is)
      (λ f. kept c o h m (λ e. f) is))
      (λ e. kept c o h m (λ f. absurd (clash (sym f ∙ e))) is);
  consumers = λ n e is undecided.
      let w = was_out d i t n e is in
      let a : Attachment = w.before.link in
      let at = was.consumers n w.before w.there (w.undecided undecided) in
      let apart = apart_from d i t a.conn.0 a.channel a.handle at.at fresh (was.answered a.conn.0 a.channel a.handle at.at at.there) in
      sends_after (Out d i ∷ t) a e.link at.at w.follows.link
      (link_is (if d == a.conn.0 then ends_handle i a.channel a.handle else false) (link t a.conn.0 a.channel a.handle) (link (Out d i ∷ t) a.conn.0 a.channel a.handle) at.at
      (out_behaves d i t a.conn.0 a.channel a.handle apart) (spared_there d i a (w.spares undecided)) at.there)
      at.number at.way;
  producers = λ n e p is from.
      let w = was_out d i t n e is in
      let a : Attachment = p.link in
      let at = attached_link a (link t a.conn.0 a.channel a.handle) (was.producers n w.before p w.there (w.comes p from)) in
      let apart = apart_from d i t a.conn.0 a.channel a.handle at.0 fresh (was.answered a.conn.0 a.channel a.handle at.0 at.1) in
      let now = link_is (if d == a.conn.0 then ends_handle i a.channel a.handle else false) (link t a.conn.0 a.channel a.handle) (link (Out d i ∷ t) a.conn.0 a.channel a.handle) at.0
      (out_behaves d i t a.conn.0 a.channel a.handle apart) (spared_there d i a (w.keeps p from)) at.1 in
      numbered_link a.number (link (Out d i ∷ t) a.conn.0 a.channel a.handle) now.behind now.there (now.same.number ∙ at.2);
}
  where
    old : (c o h : ℕ) (m : Link) → ((d == c) ≡ true → attaches i o h ≡ false) → link (Out d i ∷ t) c o h ≡ Some m → LinkWas (if d == c then ends_handle i o h else false) (link t c o h) m
    old c o h m apart is = link_was (if d == c then ends_handle i o h else false) (link t c o h) (link (Out d i ∷ t) c o h) m (out_behaves d i t c o h apart) is

    kept : (c o h : ℕ) (m : Link) → ((d == c) ≡ true → attaches i o h ≡ false) → link (Out d i ∷ t) c o h ≡ Some m → last_of_key (Out d i ∷ t) m.key ≡ Some (standing_at c o h m)
    kept c o h m apart is =
        let l = link_was (if d == c then ends_handle i o h else false) (link t c o h) (link (Out d i ∷ t) c o h) m (out_behaves d i t c o h apart) is in
        key_moved c o h l.before m (last_of_key (Out d i ∷ t)) l.same (item_keeps_key i d t c o h l.before fresh l.there (was.keys c o h l.before l.there))

-- the link of a handle, after an item that ends it, and after one that doesn't

abbrev pub place : ℕ → ℕ → ℕ → Attachment
place c o h = record { number = 0; conn = record { 0 = c }; channel = o; handle = h }

pub record LinkStays (t u : List Entry) (c o h : ℕ) : Type 0 where
  pub now : is_some (link u c o h) ≡ true
  pub durable : durable_key (link t c o h) ≡ durable_key (link u c o h)

same_durable : (l m : Link) → SameLink l m → durable_key (Some l) ≡ durable_key (Some m)
same_durable l m same = λ j. if sym same.durable j then Some (sym same.key j) else None

pub did_stays : (s : Step) (t : List Entry) (c o h : ℕ) → is_some (link t c o h) ≡ true → is_lost s.event c ≡ false → LinkStays t (Did s ∷ t) c o h
did_stays s t c o h some spared = by (link t c o h) refl some
  where
    by : (v : Option Link) → link t c o h ≡ v → is_some v ≡ true → LinkStays t (Did s ∷ t) c o h
    by None there some = absurd (clash (sym some))
    by (Some l) there some =
        let now = link_is (is_lost s.event c) (link t c o h) (link (Did s ∷ t) c o h) l (event_behaves s.event c o h (theirs t c) (their_handle t c o) (link t c o h)) spared there in
        record { now = ap is_some now.there; durable = ap durable_key there ∙ same_durable l now.behind now.same ∙ ap durable_key (sym now.there) }

pub out_stays : (d : ℕ) (i : Item) (t : List Entry) (c o h : ℕ) → IsFresh t d i → Standing t → is_some (link t c o h) ≡ true → ended_by i d (place c o h) ≡ false → LinkStays t (Out d i ∷ t) c o h
out_stays d i t c o h fresh standing some spared = by (link t c o h) refl some
  where
    by : (v : Option Link) → link t c o h ≡ v → is_some v ≡ true → LinkStays t (Out d i ∷ t) c o h
    by None there some = absurd (clash (sym some))
    by (Some l) there some =
        let apart = apart_from d i t c o h l fresh (standing.answered c o h l there) in
        let now = link_is (if d == c then ends_handle i o h else false) (link t c o h) (link (Out d i ∷ t) c o h) l (out_behaves d i t c o h apart) (spared_there d i (place c o h) spared) there in
        record { now = ap is_some now.there; durable = ap durable_key there ∙ same_durable l now.behind now.same ∙ ap durable_key (sym now.there) }

-- one that isn't durable stays so

still_volatile : (over : Bool) (v w : Option Link) → Behaves over v w → durable_key v ≡ None → durable_key w ≡ None
still_volatile over v w behaves none = ap durable_key behaves.is ∙ by over v none
  where
    by : (over : Bool) (v : Option Link) → durable_key v ≡ None → durable_key (if over then None else option_map behaves.change v) ≡ None
    by true v none = refl
    by false None none = refl
    by false (Some l) none = sym (same_durable l (behaves.change l) (behaves.same l)) ∙ none

pub did_volatile : (s : Step) (t : List Entry) (a : Attachment) → durable_key (link_of t a) ≡ None → durable_key (link_of (Did s ∷ t) a) ≡ None
did_volatile s t a none =
    still_volatile (is_lost s.event a.conn.0) (link_of t a) (link_of (Did s ∷ t) a)
    (event_behaves s.event a.conn.0 a.channel a.handle (theirs t a.conn.0) (their_handle t a.conn.0 a.channel) (link_of t a)) none

pub out_volatile : (d : ℕ) (i : Item) (t : List Entry) → IsFresh t d i → Standing t → (a : Attachment) → is_attached t a ≡ true → durable_key (link_of t a) ≡ None
    → durable_key (link_of (Out d i ∷ t) a) ≡ None
out_volatile d i t fresh standing a attached none =
    let at = attached_link a (link t a.conn.0 a.channel a.handle) attached in
    let apart = apart_from d i t a.conn.0 a.channel a.handle at.0 fresh (standing.answered a.conn.0 a.channel a.handle at.0 at.1) in
    still_volatile (if d == a.conn.0 then ends_handle i a.channel a.handle else false) (link_of t a) (link_of (Out d i ∷ t) a) (out_behaves d i t a.conn.0 a.channel a.handle apart) none

over_gone : (q : Bool) (v : Option Link) → q ≡ true → (if q then None else v) ≡ None
over_gone true v e = refl
over_gone false v e = absurd (clash (sym e))

perf_gone : (body : Perf) (own o h number : ℕ) (key : AnAttach → LinkKey) (last : Option Asked) (v : Option Link) → ends_handle_in body own o h ≡ true
    → link_in body own o h number key last v ≡ None
perf_gone (perf.Attach a) own o h number key last v e = absurd (clash (sym e))
perf_gone (perf.Flow f) own o h number key last v e = absurd (clash (sym e))
perf_gone (perf.Transfer x) own o h number key last v e = absurd (clash (sym e))
perf_gone body own o h number key last v e = over_gone (ends_handle_in body own o h) v e

item_gone : (i : Item) (o h number : ℕ) (key : AnAttach → LinkKey) (last : Option Asked) (v : Option Link) → ends_handle i o h ≡ true → link_after i o h number key last v ≡ None
item_gone (item.Frame sasl own body payload) o h number key last v e = perf_gone body own o h number key last v e
item_gone _ o h number key last v e = absurd (clash (sym e))

pub out_gone : (d : ℕ) (i : Item) (t : List Entry) (c o h : ℕ) → ended_by i d (place c o h) ≡ true → link (Out d i ∷ t) c o h ≡ None
out_gone d i t c o h over = by (c == d) refl over
  where
    by : (q : Bool) → (c == d) ≡ q → (q && ends_handle i o h) ≡ true → link (Out d i ∷ t) c o h ≡ None
    by true e over = rw (flipped c d true e) (item_gone i o h (attachments t + 1) (key_at t c) (asked t c) (link t c o h) over)
    by false e over = absurd (clash (sym over))

-- other entries

pub took_standing : (c k : ℕ) (t : List Entry) → Standing t → Standing (Took c k ∷ t)
took_standing c k t was = record {
  answered = was.answered;
  keys = was.keys;
  consumers = λ n d is undecided. let at = was.consumers n d is undecided in record { at = at.at; there = at.there; number = at.number; way = at.way };
  producers = was.producers;
}

pub booked_standing : (t : List Entry) (acts : List Act) {full : List ℕ} → Standing t → Standing (Booked acts full ∷ t)
booked_standing t acts was = record {
  answered = was.answered;
  keys = was.keys;
  consumers = λ n d is undecided. let at = was.consumers n d is undecided in record { at = at.at; there = at.there; number = at.number; way = at.way };
  producers = was.producers;
}

pub bound_standing : (b : Binding) (t : List Entry) → (is_undecided (bound (name_in t b) (rank_in t b) b) ≡ true → Sends t b.consumer)
    → ((p : Origin) → source (bound (name_in t b) (rank_in t b) b) ≡ Some p → is_attached t p.link ≡ true) → Standing t → Standing (Bound b ∷ t)
bound_standing b t consumer producer was = record {
  answered = was.answered;
  keys = was.keys;
  consumers = λ n d is undecided. by_consumer n d (after_bound b t n d is) undecided;
  producers = λ n d p is from. by_producer n d p (after_bound b t n d is) from;
}
  where
    moved : {a : Attachment} → Sends t a → Sends (Bound b ∷ t) a
    moved at = record { at = at.at; there = at.there; number = at.number; way = at.way }

    by_consumer : (n : ℕ) (d : Delivery) → AfterBound b t n d → is_undecided d ≡ true → Sends (Bound b ∷ t) d.link
    by_consumer n d (is_new new) undecided = subst (λ (a : Attachment). Sends (Bound b ∷ t) a) (ap (λ (x : Delivery). x.link) new.is) (moved (consumer (ap is_undecided new.is ∙ undecided)))
    by_consumer n d (is_joined joins) undecided =
        subst (λ (a : Attachment). Sends (Bound b ∷ t) a) (sym (held_link joins.holding joins.before) ∙ ap (λ (x : Delivery). x.link) joins.is)
        (moved (was.consumers n joins.before joins.there (sym (held_undecided joins.holding joins.before) ∙ ap is_undecided joins.is ∙ undecided)))
    by_consumer n d (is_old there) undecided = moved (was.consumers n d there undecided)

    -- the origin that a binding joins is its own
    own_origin : (k : BindingKind) (p : Origin) → holds_standing k ≡ Some (holding.Resumed p) → either_origin (origin_of k) (told_of k) ≡ Some p
    own_origin (kind.Message o) p is = absurd (none_not_some is)
    own_origin (kind.TakenUp u) p is = absurd (none_not_some is)
    own_origin (kind.Joined q StandingOne) p is = ap (λ (h : Holding). either_origin (resumed_held h) None) (some_same is)
    own_origin (kind.Joined q (New o)) p is = absurd (none_not_some is)

    by_producer : (n : ℕ) (d : Delivery) (p : Origin) → AfterBound b t n d → source d ≡ Some p → is_attached t p.link ≡ true
    by_producer n d p (is_new new) from = producer p (ap source new.is ∙ from)
    by_producer n d p (is_joined joins) from =
        by joins.holding joins.joins (ap source joins.is ∙ from)
      where
        by : (q : Holding) → holds_standing b.kind ≡ Some q → source (held_by q joins.before) ≡ Some p → is_attached t p.link ≡ true
        by (holding.Resumed o) holds same = producer p (own_origin b.kind o holds ∙ same)
        by (holding.Unresumed a) holds same = was.producers n joins.before p joins.there same
        by (holding.Settled a) holds same = was.producers n joins.before p joins.there same
    by_producer n d p (is_old there) from = was.producers n d p there from

-- a durable link that stands keeps its key

durable_is : (v : Option Link) (key : LinkKey) → durable_key v ≡ Some key → (l : Link) × (v ≡ Some l) × (l.durable ≡ true) × (l.key ≡ key)
durable_is None key is = absurd (none_not_some is)
durable_is (Some l) key is = by l.durable refl is
  where
    by : (b : Bool) → l.durable ≡ b → (if b then Some l.key else None) ≡ Some key → (m : Link) × (Some l ≡ Some m) × (m.durable ≡ true) × (m.key ≡ key)
    by true durable is = (l, refl, durable, some_same is)
    by false durable is = absurd (none_not_some is)

durable_where : (v : Option Link) (l m : Link) (key : LinkKey) → v ≡ Some m → SameLink l m → l.durable ≡ true → l.key ≡ key → durable_key v ≡ Some key
durable_where v l m key is same durable keyed =
    ap durable_key is ∙ ap (λ (b : Bool). if b then Some m.key else None) (same.durable ∙ durable) ∙ ap (λ (k : LinkKey). Some k) (same.key ∙ keyed)

pub did_durable : (s : Step) (t : List Entry) (a : Attachment) (key : LinkKey) → durable_key (link_of t a) ≡ Some key → lost_by s.event a ≡ false → durable_key (link_of (Did s ∷ t) a) ≡ Some key
did_durable s t a key durable spared =
    let was = durable_is (link_of t a) key durable in
    let now = link_is (is_lost s.event a.conn.0) (link_of t a) (link_of (Did s ∷ t) a) was.0
    (event_behaves s.event a.conn.0 a.channel a.handle (theirs t a.conn.0) (their_handle t a.conn.0 a.channel) (link_of t a)) spared was.1 in
    durable_where (link_of (Did s ∷ t) a) was.0 now.behind key now.there now.same was.2 was.3

pub out_durable : (d : ℕ) (i : Item) (t : List Entry) → IsFresh t d i → Standing t → (a : Attachment) (key : LinkKey) → durable_key (link_of t a) ≡ Some key → ended_by i d a ≡ false
    → durable_key (link_of (Out d i ∷ t) a) ≡ Some key
out_durable d i t fresh standing a key durable spared =
    let was = durable_is (link_of t a) key durable in
    let apart = apart_from d i t a.conn.0 a.channel a.handle was.0 fresh (standing.answered a.conn.0 a.channel a.handle was.0 was.1) in
    let now = link_is (if d == a.conn.0 then ends_handle i a.channel a.handle else false) (link_of t a) (link_of (Out d i ∷ t) a) was.0
    (out_behaves d i t a.conn.0 a.channel a.handle apart) (spared_there d i a spared) was.1 in
    durable_where (link_of (Out d i ∷ t) a) was.0 now.behind key now.there now.same was.2 was.3

-- two durable links with one key are one
pub one_place : (t : List Entry) → Standing t → (a b : Attachment) (key : LinkKey) → durable_key (link_of t a) ≡ Some key → durable_key (link_of t b) ≡ Some key
    → (a.conn.0 ≡ b.conn.0) × (a.channel ≡ b.channel) × (a.handle ≡ b.handle)
one_place t standing a b key first second =
    let l = durable_is (link_of t a) key first in
    let m = durable_is (link_of t b) key second in
    let at : last_of_key t key ≡ Some (standing_at a.conn.0 a.channel a.handle l.0) = ap (last_of_key t) (sym l.3) ∙ standing.keys a.conn.0 a.channel a.handle l.0 l.1 in
    let there : last_of_key t key ≡ Some (standing_at b.conn.0 b.channel b.handle m.0) = ap (last_of_key t) (sym m.3) ∙ standing.keys b.conn.0 b.channel b.handle m.0 m.1 in
    let same : standing_at a.conn.0 a.channel a.handle l.0 ≡ standing_at b.conn.0 b.channel b.handle m.0 = some_same (sym at ∙ there) in
    (ap (λ (x : Attachment). x.conn.0) same, ap (λ (x : Attachment). x.channel) same, ap (λ (x : Attachment). x.handle) same)

-- a durable link holds its key
pub holds_key : (t : List Entry) → Standing t → (a : Attachment) (key : LinkKey) → durable_key (link_of t a) ≡ Some key
    → (l : Link) × (holder t key ≡ Some (standing_at a.conn.0 a.channel a.handle l))
holds_key t standing a key durable =
    let l = durable_is (link_of t a) key durable in
    let at : Attachment = standing_at a.conn.0 a.channel a.handle l.0 in
    let last : last_of_key t key ≡ Some at = ap (last_of_key t) (sym l.3) ∙ standing.keys a.conn.0 a.channel a.handle l.0 l.1 in
    let attached_there : is_attached t at ≡ true = ap (has_number l.0.number) l.1 ∙ eq-eqb l.0.number l.0.number refl in
    (l.0, ap (if_attached t) last ∙ ap (λ (there : Bool). if there then Some at else None) attached_there)

-- a link after an entry was there before it, unless it is attached now

pub record WasLink (t : List Entry) (c o h : ℕ) (m : Link) : Type 0 where
  pub before : Link
  pub there : link t c o h ≡ Some before
  pub same : SameLink before m

pub did_link : (s : Step) (t : List Entry) (c o h : ℕ) (m : Link) → link (Did s ∷ t) c o h ≡ Some m → WasLink t c o h m
did_link s t c o h m is =
    let was = link_was (is_lost s.event c) (link t c o h) (link (Did s ∷ t) c o h) m (event_behaves s.event c o h (theirs t c) (their_handle t c o) (link t c o h)) is in
    record { before = was.before; there = was.there; same = was.same }

pub out_link : (d : ℕ) (i : Item) (t : List Entry) (c o h : ℕ) (m : Link) → attaches i o h ≡ false → link (Out d i ∷ t) c o h ≡ Some m → WasLink t c o h m
out_link d i t c o h m apart is =
    let was = link_was (if d == c then ends_handle i o h else false) (link t c o h) (link (Out d i ∷ t) c o h) m (out_behaves d i t c o h (λ e. apart)) is in
    record { before = was.before; there = was.there; same = was.same }

pub was_link_on : (t u : List Entry) (c o h : ℕ) (m : Link) → ((l : Link) → link u c o h ≡ Some l → WasLink t c o h l) → WasLink u c o h m → WasLink t c o h m
was_link_on t u c o h m first rest =
    let was = first rest.before rest.there in
    record {
      before = was.before;
      there = was.there;
      same = record {
        number = rest.same.number ∙ was.same.number;
        key = rest.same.key ∙ was.same.key;
        durable = rest.same.durable ∙ was.same.durable;
        way = rest.same.way ∙ was.same.way;
      };
    }

-- a link after an event that doesn't lose its connection goes the same way
pub did_way : (s : Step) (t : List Entry) (c o h : ℕ) (l : Link) → link t c o h ≡ Some l → is_lost s.event c ≡ false → (m : Link) × (link (Did s ∷ t) c o h ≡ Some m) × (is_sending m.happened ≡ is_sending l.happened)
did_way s t c o h l there spared =
    let now = link_is (is_lost s.event c) (link t c o h) (link (Did s ∷ t) c o h) l (event_behaves s.event c o h (theirs t c) (their_handle t c o) (link t c o h)) spared there in
    (now.behind, now.there, now.same.way)
