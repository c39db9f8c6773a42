-- What a peer's item does to deliveries is a change of them, as long as the ids of undecided ones name them.
use Rattle.std.proofs.Common.{◌≡◌, ◌∙◌, sym, ap, refl, ℕ, Bool, true, false, ◌&&◌, List, arith}
use Rattle.std.specs.Prelude.{◌==◌, Option, Some, None, if◌then◌else◌}
use Rattle.std.proofs.lemmas.Bool.{eqb-true}
use Rattle.std.proofs.lemmas.Bool.Decides.{nat_tests}
use Rattle.amqp_model.specs.declared.perf.Disposition.{Disposition}
use Rattle.amqp_model.specs.declared.perf.Perf.{Perf}
use Rattle.amqp_model.specs.declared.perf.Perf.TheVariants as perf
use Rattle.amqp_model.specs.declared.perf.Role.{Role}
use Rattle.amqp_model.specs.declared.perf.Role.TheVariants.{Sender, Receiver}
use Rattle.amqp_model.specs.declared.state.DeliveryState.{DeliveryState}
use Rattle.amqp_model.specs.declared.item.Item.{Item}
use Rattle.amqp_model.specs.declared.item.Item.TheVariants as item
use Rattle.amqp_session.specs.Ranges.{in_range}
use Rattle.book_model.specs.declared.act.Act.{Act}
use Rattle.router_trace.specs.declared.binding.Origin.{Origin}
use Rattle.router_trace.specs.declared.channel.PeerChannel.{PeerChannel}
use Rattle.router_trace.specs.declared.event.Event.{Event}
use Rattle.router_trace.specs.declared.event.Event.TheVariants as event
use Rattle.router_trace.specs.declared.channel.PeerChannel.TheVariants.{Mapped, Ending}
use Rattle.router_trace.specs.Sessions.{maps, own_of}
use Rattle.router_trace.specs.Deliveries.{Delivery, source, untold, is_undecided, is_meant, is_named, is_number, decided, decision, terminal, last_of, is_settled_at, disposed, given, heard}
use Rattle.state_deliveries.specs.declared.change.Change.TheVariants as change
use Rattle.state_deliveries.specs.Deciding.{changed_by}
use Rattle.state_deliveries.specs.Hearing.{decided_by, disposed_change, heard_change}
use Rattle.state_deliveries.specs.Stepping.{comes_with_id, is_in}
use Rattle.state_links.specs.Fits.{channel_of}
use Rattle.reply_rows.specs.Deciding.{listed}
use Rattle.theorems.proofs.Changing.{undecided_is}

-- an id of the delivery names it, as long as it is undecided
abbrev pub IsNamed : (ℕ → Option ℕ) → ℕ → Delivery → Type 0
IsNamed names n d = (id : ℕ) → is_undecided d ≡ true → d.id ≡ Some id → names id ≡ Some n

turned : (a b : ℕ) → (a == b) ≡ (b == a)
turned a b = by (a == b) refl
  where
    by : (q : Bool) → (a == b) ≡ q → q ≡ (b == a)
    by true e = grind (arith, nat_tests)
    by false e = grind (arith, nat_tests)

-- a consumer's

meant_is_in : (x : Disposition) (o : Option ℕ) → is_meant x o ≡ is_in o x.first (last_of x)
meant_is_in x None = refl
meant_is_in x (Some id) = refl

itself : (n : ℕ) → (n == n) ≡ true
itself n = grind (arith, nat_tests)

names_it : (x : Disposition) (names : ℕ → Option ℕ) (n : ℕ) (d : Delivery) → IsNamed names n d → is_undecided d ≡ true → is_meant x d.id ≡ true → is_named d.id names n ≡ true
names_it x names n d named open_one meant = by d.id refl meant
  where
    by : (o : Option ℕ) → d.id ≡ o → is_meant x o ≡ true → is_named o names n ≡ true
    by None is meant = absurd cc
    by (Some id) is meant = ap (λ (v : Option ℕ). is_number v n) (named id open_one is) ∙ itself n

no_outcome : (x : Disposition) (names : ℕ → Option ℕ) (n : ℕ) (d : Delivery) → decision x.settled (terminal x.state) ≡ None → decided x names n d ≡ d
no_outcome x names n d none = by (is_undecided d) (is_meant x d.id) (is_named d.id names n) refl
  where
    as_it_was : is_undecided d ≡ true → record d { outcome = decision x.settled (terminal x.state) } ≡ d
    as_it_was u = ap (λ (o : Option DeliveryState). record d { outcome = o }) (none ∙ sym (undecided_is d u).0)

    by : (u m k : Bool) → is_undecided d ≡ u → (if u && m && k then record d { outcome = decision x.settled (terminal x.state) } else d) ≡ d
    by true true true e = as_it_was e
    by true true false e = refl
    by true false k e = refl
    by false m k e = refl

consumers : (x : Disposition) (c o n : ℕ) (names : ℕ → Option ℕ) (d : Delivery) (made : Option DeliveryState) → decision x.settled (terminal x.state) ≡ made
    → (d.link.conn.0 ≡ c → IsNamed names n d)
    → (if (d.link.conn.0 == c) && (o == d.link.channel) then decided x names n d else d) ≡ changed_by (listed (decided_by c o x made)) d
consumers x c o n names d None is named = by ((d.link.conn.0 == c) && (o == d.link.channel))
  where
    by : (b : Bool) → (if b then decided x names n d else d) ≡ d
    by true = no_outcome x names n d is
    by false = refl
consumers x c o n names d (Some made) is named =
    ap (λ (s : Option DeliveryState). if (d.link.conn.0 == c) && (o == d.link.channel) then (if is_undecided d && is_meant x d.id && is_named d.id names n then record d { outcome = s } else d) else d) is
    ∙ by (is_undecided d) (d.link.conn.0 == c) (o == d.link.channel) (is_meant x d.id) (is_named d.id names n)
    (λ u k g. names_it x names n d (named (eqb-true d.link.conn.0 c k)) u g)
    ∙ ap (λ (g : Bool). if is_undecided d && (((d.link.conn.0 == c) && (o == d.link.channel)) && g) then record d { outcome = Some made } else d) (meant_is_in x d.id)
    ∙ ap (λ (m : Bool). if is_undecided d && (((d.link.conn.0 == c) && m) && is_in d.id x.first (last_of x)) then record d { outcome = Some made } else d) (turned o d.link.channel)
  where
    e : Delivery
    e = record d { outcome = Some made }

    by : (u k m g w : Bool) → (u ≡ true → k ≡ true → g ≡ true → w ≡ true) → (if k && m then (if u && g && w then e else d) else d) ≡ (if u && ((k && m) && g) then e else d)
    by true true true true w named = rw (named refl refl refl) refl
    by true true true false w named = refl
    by true true false g w named = refl
    by true false m g w named = refl
    by false true true true w named = refl
    by false true true false w named = refl
    by false true false g w named = refl
    by false false m g w named = refl

-- a producer's

producers : (x : Disposition) (c o : ℕ) (d : Delivery) (settled : Bool) → x.settled ≡ settled
    → (if is_settled_at x c (Some (Mapped o)) (source d) then untold d else d)
    ≡ changed_by (listed (if settled then Some (change.Untold c o x.first (last_of x)) else None)) d
producers x c o d true is = ap (λ (b : Bool). if b then untold d else d) (by (source d))
  where
    by : (p : Option Origin) → is_settled_at x c (Some (Mapped o)) p ≡ comes_with_id p c o x.first (last_of x)
    by None = refl
    by (Some p) =
        ap (λ (s : Bool). (s && ((p.link.conn.0 == c) && (o == p.link.channel))) && in_range x.first (last_of x) p.id) is
        ∙ ap (λ (m : Bool). ((p.link.conn.0 == c) && m) && in_range x.first (last_of x) p.id) (turned o p.link.channel)
producers x c o d false is = ap (λ (b : Bool). if b then untold d else d) (by (source d))
  where
    by : (p : Option Origin) → is_settled_at x c (Some (Mapped o)) p ≡ false
    by None = refl
    by (Some p) = ap (λ (s : Bool). (s && ((p.link.conn.0 == c) && (o == p.link.channel))) && in_range x.first (last_of x) p.id) is

-- on a channel that stands for no session

nowhere : (x : Disposition) (c n : ℕ) (v : Option PeerChannel) (names : ℕ → Option ℕ) (d : Delivery) → ((o : ℕ) → maps v o ≡ false) → (r : Role) → disposed r x c v names n d ≡ d
nowhere x c n v names d none Receiver = ap (λ (m : Bool). if (d.link.conn.0 == c) && m then decided x names n d else d) (none d.link.channel) ∙ by (d.link.conn.0 == c)
  where
    by : (b : Bool) → (if b && false then decided x names n d else d) ≡ d
    by true = refl
    by false = refl
nowhere x c n v names d none Sender = ap (λ (b : Bool). if b then untold d else d) (by (source d))
  where
    three : (s k r : Bool) → ((s && (k && false)) && r) ≡ false
    three true true r = refl
    three true false r = refl
    three false k r = refl

    by : (p : Option Origin) → is_settled_at x c v p ≡ false
    by None = refl
    by (Some p) = ap (λ (m : Bool). (x.settled && ((p.link.conn.0 == c) && m)) && in_range x.first (last_of x) p.id) (none p.link.channel)
        ∙ three x.settled (p.link.conn.0 == c) (in_range x.first (last_of x) p.id)

disposes : (r : Role) (x : Disposition) (c n : ℕ) (v : Option PeerChannel) (names : ℕ → Option ℕ) (d : Delivery) → (d.link.conn.0 ≡ c → IsNamed names n d)
    → disposed r x c v names n d ≡ changed_by (listed (disposed_change r c (own_of v) x)) d
disposes Receiver x c n (Some (Mapped o)) names d named = consumers x c o n names d (decision x.settled (terminal x.state)) refl named
disposes Sender x c n (Some (Mapped o)) names d named = producers x c o d x.settled refl
disposes Receiver x c n (Some Ending) names d named = nowhere x c n (Some Ending) names d (λ o. refl) Receiver
disposes Sender x c n (Some Ending) names d named = nowhere x c n (Some Ending) names d (λ o. refl) Sender
disposes Receiver x c n None names d named = nowhere x c n None names d (λ o. refl) Receiver
disposes Sender x c n None names d named = nowhere x c n None names d (λ o. refl) Sender

-- what the acts of an event give a delivery: those of an attach do
abbrev pub gives_in : Perf → List Act → Delivery → Delivery
gives_in (perf.Attach x) acts d = given acts d
gives_in _ acts d = d

abbrev pub gives_by : Item → List Act → Delivery → Delivery
gives_by (item.Frame true channel body payload) acts d = d
gives_by (item.Frame false channel body payload) acts d = gives_in body acts d
gives_by _ acts d = d

abbrev pub gives : Event → List Act → Delivery → Delivery
gives (event.Item c i) acts d = gives_by i acts d
gives _ acts d = d

pub heard_is : (i : Item) (c n : ℕ) (known : ℕ → Option PeerChannel) (names : ℕ → ℕ → Option ℕ) (acts : List Act) (d : Delivery) → (d.link.conn.0 ≡ c → IsNamed (names d.link.channel) n d)
    → heard i c known names acts n d ≡ changed_by (listed (heard_change c (own_of (known (channel_of i))) i)) (gives_by i acts d)
heard_is (item.Frame true channel body payload) c n known names acts d named = refl
heard_is (item.Frame false channel (perf.Disposition x) payload) c n known names acts d named = disposes x.role x c n (known channel) (names d.link.channel) d named
heard_is (item.Frame false channel (perf.Attach x) payload) c n known names acts d named = refl
heard_is (item.Frame false channel _ payload) c n known names acts d named = refl
heard_is _ c n known names acts d named = refl
