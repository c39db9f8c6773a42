-- An event's entry, the closes for full outboxes, and what an answer says: each is the next of the event's changes, or none.
use Rattle.std.proofs.Common.{◌≡◌, ◌∙◌, sym, ap, refl, subst, ℕ, Bool, true, false, ◌&&◌, List, [], ◌∷◌, ◌++◌, length, append_assoc, append-nil}
use Rattle.std.specs.Prelude.{◌==◌, Option, Some, None, map, filter, is_some, option_map, if◌then◌else◌}
use Rattle.amqp_model.specs.declared.item.Item.{Item}
use Rattle.amqp_conn.specs.declared.conn.Conn.{Conn}
use Rattle.book_model.specs.declared.act.Act.{Act}
use Rattle.router_trace.specs.declared.condition.Condition.{Condition}
use Rattle.router_trace.specs.declared.condition.Condition.TheVariants.{ResourceLimitExceeded}
use Rattle.router_trace.specs.declared.event.ConnectionId.{ConnectionId}
use Rattle.router_trace.specs.declared.event.Event.{Event}
use Rattle.router_trace.specs.declared.event.Event.TheVariants as event
use Rattle.router_trace.specs.Trace.{Trace, Did, Out, Step, goes, puts, each_to, ups}
use Rattle.router_trace.specs.Connection.{Connection, conn, ended, fresh, has, is_full, is_due, due, due_of, unless_due, live_of, at_event, with_item}
use Rattle.router_trace.specs.Deliveries.{Delivery, delivery, named, number_named, sending, ended_by as put_ends, after_event, channels_found, acts_found}
use Rattle.router_trace.specs.Frames.{error_of, header_item, open_item, close_item, begin_item, end_item, flow_item, closing}
use Rattle.router_trace.specs.LinkFrames.{detach_item, link_flow_item}
use Rattle.router_trace.specs.declared.channel.PeerChannel.{PeerChannel}
use Rattle.router_trace.specs.Sessions.{theirs, own_of}
use Rattle.state_deliveries.specs.declared.change.Change.{Change}
use Rattle.state_deliveries.specs.declared.change.Change.TheVariants as change
use Rattle.state_deliveries.specs.declared.change.Gone.TheVariants as gone
use Rattle.state_deliveries.specs.Deciding.{changed_by}
use Rattle.state_deliveries.specs.Hearing.{heard_change}
use Rattle.state_deliveries.specs.Stepping.{changed}
use Rattle.state_deliveries.proofs.Puts.{no_ends}
use Rattle.state_links.specs.Fits.{channel_of}
use Rattle.reply_rows.specs.declared.answer.Answer.{Answer}
use Rattle.reply_rows.specs.declared.answer.Answer.TheVariants.{Nothing, Header, Open, Close, CloseWith, Begin, End, Flow, Attach, Refuse, Detach, LinkFlow, Taken, Settle}
use Rattle.reply_rows.specs.Rows.{said}
use Rattle.reply_rows.specs.Acts.{acts_of, booked}
use Rattle.reply_rows.specs.Deciding.{lost, listed, stolen_for, ended_by, session_found, event_changes}
use Rattle.router_reply.specs.Replies.{closing_of, ends}
use Rattle.state_connections.proofs.Lists.{by_test}
use Rattle.theorems.proofs.Begun.{AreBegun, did_owned}
use Rattle.theorems.proofs.Booked.{answer_for, changes_of}
use Rattle.theorems.proofs.Changing.{Alike, alike_it, closed_is}
use Rattle.theorems.proofs.Facts.{DidClaims, did_facts}
use Rattle.theorems.proofs.Hearing.{IsNamed, gives_by, gives, heard_is}
use Rattle.theorems.proofs.Keeps.{Kept, Ahead, next_kept, same_kept, plain_kept}
use Rattle.theorems.proofs.Naming.{AreNamed, did_named}
use Rattle.theorems.proofs.Standing.{did_standing}
use Rattle.theorems.proofs.Volatile.{did_all_volatile}

clash : true ≡ false → ⊥
clash e = cc

-- closes

never : (b : Bool) → (b && false) ≡ false
never true = refl
never false = refl

close_kept : (c : ℕ) (e : Option Condition) (w : Trace) (ys : List Change) → Kept w (lost c ∷ ys) → Kept (Out c (close_item e) ∷ w) ys
close_kept c e w ys was = next_kept c (close_item e) w (lost c) ys tt refl tt tt tt (λ n d. closed_is (number_named w) false 0 (record { error = option_map error_of e }) [] c n (sending w c) d) (λ a e. rw e refl) was

open_kept : (id : List ℕ) (c : ℕ) (w : Trace) (ys : List Change) → Kept w ys → Kept (Out c (open_item id) ∷ w) ys
open_kept id c w ys was = same_kept c (open_item id) w ys tt refl tt tt tt (λ n d. no_ends false (put_ends (open_item id) c) (λ a. never (a.conn.0 == c)) d) was

closing_kept : (id : List ℕ) (p : Conn) (c : ℕ) (e : Condition) (w : Trace) (ys : List Change) → Kept w (lost c ∷ ys) → Kept (goes (each_to c (closing id p e)) w) ys
closing_kept id p c e w ys was = by p.opened
  where
    by : (b : Bool) → Kept (goes (each_to c (if b then close_item (Some e) ∷ [] else open_item id ∷ close_item (Some e) ∷ [])) w) ys
    by true = close_kept c (Some e) w ys was
    by false = close_kept c (Some e) (Out c (open_item id) ∷ w) ys (open_kept id c w (lost c ∷ ys) was)

-- what an answer says, where it takes no link

abbrev pub TakesNone : Trace → ℕ → Item → Answer → Type 0
TakesNone t c i (Attach own) = stolen_for t c i ≡ []
TakesNone t c i _ = Unit {0}

pub takes_none : (t : Trace) (c : ℕ) (i : Item) (answer : Answer) → stolen_for t c i ≡ [] → TakesNone t c i answer
takes_none t c i (Attach own) none = none
takes_none t c i _ none = tt

pub said_kept : (id : List ℕ) (p : Conn) (t : Trace) (c : ℕ) (i : Item) (w : Trace) (answer : Answer) → TakesNone t c i answer → Kept w (ended_by t c i answer)
    → Kept (goes (each_to c (said id p answer)) w) []
said_kept id p t c i w Nothing none was = was
said_kept id p t c i w Header none was = plain_kept c header_item w refl was
said_kept id p t c i w Open none was = plain_kept c (open_item id) w refl was
said_kept id p t c i w Close none was = close_kept c None w [] was
said_kept id p t c i w (CloseWith x) none was = closing_kept id p c x w [] was
said_kept id p t c i w (Begin own peers) none was = plain_kept c (begin_item own (Some peers)) w refl was
said_kept id p t c i w (End own x) none was = next_kept c (end_item own x) w (change.Ends (gone.Session c own) false) [] tt refl tt tt tt (λ n d. refl) (λ a e. e) was
said_kept id p t c i w (Flow own told) none was = plain_kept c (flow_item own told) w refl was
said_kept id p t c i w (Attach own) none was = subst (λ (xs : List Change). Kept w xs) none was
said_kept id p t c i w (Refuse own handle x) none was = was
said_kept id p t c i w (Detach own handle closed x) none was = next_kept c (detach_item own handle closed x) w (change.Ends (gone.Link c own handle) closed) [] tt refl tt tt tt (λ n d. refl) (λ a e. e) was
said_kept id p t c i w (LinkFlow own told at) none was = plain_kept c (link_flow_item own told at) w refl was
said_kept id p t c i w (Taken own handle) none was = was
said_kept id p t c i w (Settle own) none was = was

-- the closes for full outboxes, of connections that are known

abbrev pub AllThere : Trace → List ℕ → Type 0
AllThere w [] = Unit {0}
AllThere w (c ∷ cs) = (is_some (conn w c) ≡ true) × AllThere w cs

there_out : (d : ℕ) (i : Item) (w : Trace) (c : ℕ) → is_some (conn w c) ≡ true → is_some (conn (Out d i ∷ w) c) ≡ true
there_out d i w c there = by_test (d == c) (λ e. rw e (mapped (conn w c) there)) (λ e. rw e there)
  where
    mapped : (v : Option Connection) → is_some v ≡ true → is_some (option_map (with_item i) v) ≡ true
    mapped None there = absurd cc
    mapped (Some v) there = refl

all_out : (d : ℕ) (i : Item) (w : Trace) (cs : List ℕ) → AllThere w cs → AllThere (Out d i ∷ w) cs
all_out d i w [] all = tt
all_out d i w (c ∷ cs) all = (there_out d i w c all.0, all_out d i w cs all.1)

pub all_puts : (is : List Item) (d : ℕ) (w : Trace) (cs : List ℕ) → AllThere w cs → AllThere (puts d is w) cs
all_puts [] d w cs all = all
all_puts (i ∷ is) d w cs all = all_puts is d (Out d i ∷ w) cs (all_out d i w cs all)

ends_all : (id : List ℕ) (cs : List ℕ) (w : Trace) (ys : List Change) → AllThere w cs → Kept w (map lost cs ++ ys) → Kept (ends id cs w) ys
ends_all id [] w ys all was = was
ends_all id (c ∷ cs) w ys all was =
    ends_all id cs (puts c (closing_of id (conn w c) ResourceLimitExceeded) w) ys (all_puts (closing_of id (conn w c) ResourceLimitExceeded) c w cs all.1) (by (conn w c) all.0)
  where
    by : (v : Option Connection) → is_some v ≡ true → Kept (puts c (closing_of id v ResourceLimitExceeded) w) (map lost cs ++ ys)
    by None there = absurd (clash (sym there))
    by (Some v) there = closing_kept id v.phase c ResourceLimitExceeded w (map lost cs ++ ys) was

full_there : (v : Option Connection) → is_full v ≡ true → is_some v ≡ true
full_there None full = absurd cc
full_there (Some v) full = refl

found_there : (b : Bool) (v : Option Connection) → is_some v ≡ true → is_some (if b then option_map ended v else v) ≡ true
found_there true None there = there
found_there true (Some v) there = refl
found_there false v there = there

event_there : (e : Event) (c n : ℕ) (v w : Option Connection) → is_due e c v ≡ true → is_some w ≡ true → is_some (at_event e c n w) ≡ true
event_there (event.Up d p) c n v w is there = by (d.0 == c)
  where
    by : (b : Bool) → is_some (if b then Some (fresh n) else w) ≡ true
    by true = refl
    by false = there
event_there (event.Down d) c n v w is there = by (d.0 == c) is
  where
    by : (b : Bool) → (if b then false else is_full v) ≡ true → is_some (if b then None else w) ≡ true
    by true is = absurd (clash (sym is))
    by false is = there
event_there (event.Item d i) c n v w is there = there
event_there (event.Tick ms) c n v w is there = there
event_there event.Start c n v w is there = there

due_full : (e : Event) (c : ℕ) (v : Option Connection) → is_due e c v ≡ true → is_full v ≡ true
due_full (event.Down d) c v is = by (d.0 == c) is
  where
    by : (b : Bool) → (if b then false else is_full v) ≡ true → is_full v ≡ true
    by true is = absurd (clash (sym is))
    by false is = is
due_full _ c v is = is

filtered_there : (w : Trace) (passes : ℕ → Bool) (ks : List ℕ) → ((k : ℕ) → passes k ≡ true → is_some (conn w k) ≡ true) → AllThere w (filter passes ks)
filtered_there w passes [] each = tt
filtered_there w passes (k ∷ ks) each = by (passes k) refl (filtered_there w passes ks each)
  where
    by : (b : Bool) → passes k ≡ b → AllThere w (filter passes ks) → AllThere w (if b then k ∷ filter passes ks else filter passes ks)
    by true is rest = (each k is, rest)
    by false is rest = rest

pub due_there : (s : Step) (t : Trace) → AllThere (Did s ∷ t) (due t s.event)
due_there s t =
    filtered_there (Did s ∷ t) (λ k. is_due s.event k (conn t k)) (ups t)
    (λ k is. event_there s.event k (length (live_of (ups t) (unless_due (due_of s.event (ups t) (conn t)) (conn t)))) (conn t k)
    (unless_due (due_of s.event (ups t) (conn t)) (conn t) k) is
    (found_there (has k (due_of s.event (ups t) (conn t))) (conn t k) (full_there (conn t k) (due_full s.event k (conn t k) is))))

pub ends_kept : (id : List ℕ) (s : Step) (t : Trace) (ys : List Change) → Kept (Did s ∷ t) (map lost (due t s.event) ++ ys) → Kept (ends id (due t s.event) (Did s ∷ t)) ys
ends_kept id s t ys was = ends_all id (due t s.event) (Did s ∷ t) ys (due_there s t) was

-- the event's entry

-- the changes that the answer brings
abbrev pub answer_rest : Trace → Event → List Change
answer_rest t (event.Item c i) = ended_by t c.0 i (answer_for t (event.Item c i))
answer_rest t _ = []

did_kept : (s : Step) (t : Trace) (g : Delivery → Delivery) (xs ys : List Change)
    → ((n : ℕ) (d : Delivery) → delivery t n ≡ Some d → changed_by ys (after_event s.event (channels_found t) (named t) (acts_found t) n d) ≡ changed_by xs (g d)) → DidClaims s t ys → AreBegun s t ys → Ahead t g xs → Kept (Did s ∷ t) ys
did_kept s t g xs ys same claims begun was = record {
  law = was.law;
  own = was.own;
  apart = was.apart;
  facts = did_facts s t g xs ys was.standing alike claims was.facts;
  volatile = did_all_volatile s t g xs ys alike claims was.volatile;
  standing = did_standing s t was.standing;
  named = did_named s t was.named;
  ordered = was.ordered;
  owned = did_owned s t ys begun was.owned;
}
  where
    alike : (n : ℕ) (d : Delivery) → delivery t n ≡ Some d → Alike (changed_by xs (g d)) (changed_by ys (after_event s.event (channels_found t) (named t) (acts_found t) n d))
    alike n d there = alike_it (changed_by xs (g d)) (changed_by ys (after_event s.event (channels_found t) (named t) (acts_found t) n d)) (same n d there)

changed_more : (xs ys : List Change) (d : Delivery) → changed_by (xs ++ ys) d ≡ changed_by ys (changed_by xs d)
changed_more [] ys d = refl
changed_more (x ∷ xs) ys d = changed_more xs ys (changed x d)

came_same : (t : Trace) (c : ConnectionId) (i : Item) (answer : Answer) (acts : List Act) (n : ℕ) (d : Delivery) → AreNamed t → delivery t n ≡ Some d
    → changed_by (map lost (due t (event.Item c i)) ++ ended_by t c.0 i answer) (after_event (event.Item c i) (channels_found (booked t (event.Item c i))) (named t) acts n d)
    ≡ changed_by (event_changes t (event.Item c i) answer) (gives_by i acts d)
came_same t c i answer acts n d names there =
    let first : List Change = listed (heard_change c.0 (session_found t c i) i) in
    let ends_them : List Change = map lost (due t (event.Item c i)) in
    ap (changed_by (ends_them ++ ended_by t c.0 i answer))
    (heard_is i c.0 n (channels_found (booked t (event.Item c i)) c.0) (named t c.0) acts d named_it
    ∙ ap (λ (own : Option ℕ). changed_by (listed (heard_change c.0 own i)) (gives_by i acts d)) (own_if (has c.0 (due t (event.Item c i))) (theirs t c.0 (channel_of i))))
    ∙ sym (changed_more first (ends_them ++ ended_by t c.0 i answer) (gives_by i acts d))
    ∙ ap (λ (zs : List Change). changed_by zs (gives_by i acts d)) (sym (append_assoc first ends_them (ended_by t c.0 i answer)))
  where
    own_if : (b : Bool) (v : Option PeerChannel) → own_of (if b then None else v) ≡ (if b then None else own_of v)
    own_if true v = refl
    own_if false v = refl

    named_it : d.link.conn.0 ≡ c.0 → IsNamed (named t c.0 d.link.channel) n d
    named_it same = λ id undecided has. subst (λ (k : ℕ). named t k d.link.channel id ≡ Some n) same (names n id d there undecided has)

more_nothing : (xs : List Change) (d e : Delivery) → e ≡ d → changed_by (xs ++ []) e ≡ changed_by xs d
more_nothing xs d e same = ap (λ (zs : List Change). changed_by zs e) (append-nil xs) ∙ ap (changed_by xs) same

event_same : (t : Trace) (e : Event) (n : ℕ) (d : Delivery) → AreNamed t → delivery t n ≡ Some d
    → changed_by (map lost (due t e) ++ answer_rest t e) (after_event e (channels_found (booked t e)) (named t) (acts_of t e) n d) ≡ changed_by (changes_of t e) (gives e (acts_of t e) d)
event_same t (event.Item c i) n d names there = came_same t c i (answer_for t (event.Item c i)) (acts_of t (event.Item c i)) n d names there
event_same t (event.Down c) n d names there = ap (λ (zs : List Change). changed_by zs (changed (lost c.0) d)) (append-nil (map lost (due t (event.Down c))))
event_same t (event.Up c p) n d names there = more_nothing (map lost (due t (event.Up c p))) d d refl
event_same t (event.Tick ms) n d names there = more_nothing (map lost (due t (event.Tick ms))) d d refl
event_same t event.Start n d names there = more_nothing (map lost (due t event.Start)) d d refl

-- what the event leaves of claims, after its acts
abbrev pub CameClaims : Step → Trace → Type 0
CameClaims s t = DidClaims s (booked t s.event) (map lost (due t s.event) ++ answer_rest t s.event)

-- and what it asks of a first frame
abbrev pub CameBegun : Step → Trace → Type 0
CameBegun s t = AreBegun s (booked t s.event) (map lost (due t s.event) ++ answer_rest t s.event)

pub came_kept : (s : Step) (t : Trace) → CameClaims s t → CameBegun s t → Ahead (booked t s.event) (gives s.event (acts_of t s.event)) (changes_of t s.event) → Kept (Did s ∷ booked t s.event) (map lost (due t s.event) ++ answer_rest t s.event)
came_kept s t claims begun was =
    did_kept s (booked t s.event) (gives s.event (acts_of t s.event)) (changes_of t s.event) (map lost (due t s.event) ++ answer_rest t s.event) (λ n d there. event_same t s.event n d was.named there) claims begun was
