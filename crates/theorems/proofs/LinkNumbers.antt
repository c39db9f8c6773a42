-- Links in any trace: a number is given once in a run, the last link with a key has that key, and a key's role tells which way its link goes.
use Rattle.std.proofs.Common.{◌≡◌, ◌∙◌, sym, ap, refl, subst, ℕ, ◌+◌, ◌≤◌, Bool, true, false, ◌&&◌, List, [], ◌∷◌, ◌++◌, arith}
use Rattle.std.specs.Prelude.{◌==◌, Option, Some, None, is_some, if◌then◌else◌}
use Rattle.std.proofs.lemmas.Bool.{eqb-true, eq-eqb}
use Rattle.amqp_model.specs.declared.perf.Attach.{Attach as AnAttach}
use Rattle.amqp_model.specs.declared.perf.Perf.{Perf}
use Rattle.amqp_model.specs.declared.perf.Perf.TheVariants as perf
use Rattle.amqp_model.specs.declared.perf.Role.{Role}
use Rattle.amqp_model.specs.declared.perf.Role.TheVariants.{Sender, Receiver}
use Rattle.amqp_model.specs.declared.item.Item.{Item}
use Rattle.amqp_model.specs.declared.item.Item.TheVariants as item
use Rattle.book_model.specs.declared.terminus.LinkKey.{LinkKey}
use Rattle.book_model.specs.declared.terminus.LinkRole.{LinkRole}
use Rattle.book_model.specs.declared.terminus.LinkRole.TheVariants.{Producer, Consumer}
use Rattle.router_trace.specs.declared.handle.Attachment.{Attachment}
use Rattle.router_trace.specs.declared.handle.Asked.{Asked}
use Rattle.router_trace.specs.Following.{is_sending}
use Rattle.router_trace.specs.Links.{Link, address_by, asked, attached, attachments, begins, begun_link, initial_of, is_taken, key_at, last_of_key, link, link_after, link_in, newest_by, newest_in, same_key, way_of}
use Rattle.router_trace.specs.Trace.{Trace, Did, Out, Took, Bound, Booked, Routed, Began, IsOneRun}
use Rattle.state_connections.proofs.Lists.{by_test}
use Rattle.state_links.proofs.Numbered.{old_key}
use Rattle.theorems.proofs.Standing.{WasLink, SameLink, same_link, attaches, attaches_in, exact_key, did_link, out_link, was_link_on}
use Rattle.theorems.proofs.Tests.{some_same, none_not_some}

clash : true ≡ false → ⊥
clash e = cc

at_most : (n : ℕ) → n ≤ n
at_most n = omega arith

on : (j k n : ℕ) → j ≤ k → k ≤ n → j ≤ n
on j k n h g = omega (arith, h, g)

one_more : (j k : ℕ) → j ≤ k → j ≤ k + 1
one_more j k h = omega (arith, h)

too_high : (j k m : ℕ) → j ≤ k → m ≤ j → m ≡ k + 1 → ⊥
too_high j k m h g e = omega (arith, h, g, e)

-- What a link after an item was before it: it was there, or the item attached it.

pub record IsNew (d : ℕ) (i : Item) (t : Trace) (c o h : ℕ) (m : Link) : Type 0 where
  pub sasl : Bool
  pub own : ℕ
  pub attach : AnAttach
  pub payload : List ℕ
  pub address : List ℕ
  pub item_is : i ≡ item.Frame sasl own (perf.Attach attach) payload
  pub conn : d ≡ c
  pub channel : own ≡ o
  pub handle : attach.handle ≡ h
  pub addressed : address_by attach.role attach ≡ Some address
  pub is : m ≡ begun_link (attachments t + 1) (key_at t c attach) attach (asked t c) address

pub data Came (d : ℕ) (i : Item) (t : Trace) (c o h : ℕ) (m : Link) : Type 0 where
  was_there : WasLink t c o h m → Came d i t c o h m
  is_new : IsNew d i t c o h m → Came d i t c o h m

both : (a b : Bool) → (a && b) ≡ true → (a ≡ true) × (b ≡ true)
both true b e = (refl, e)
both false b e = absurd (clash (sym e))

new_at : (d : ℕ) (i : Item) (t : Trace) (c o h : ℕ) (m : Link) → d ≡ c → attaches i o h ≡ true → link_after i o h (attachments t + 1) (key_at t c) (asked t c) (link t c o h) ≡ Some m
    → IsNew d i t c o h m
new_at d (item.Frame sasl own body payload) t c o h m same at is = by body at is
  where
    made : (a : AnAttach) (v : Option (List ℕ)) → address_by a.role a ≡ v → ((own == o) && (a.handle == h)) ≡ true → attached (attachments t + 1) (key_at t c a) a (asked t c) v ≡ Some m
        → IsNew d (item.Frame sasl own (perf.Attach a) payload) t c o h m
    made a None addressed here is = absurd (none_not_some is)
    made a (Some address) addressed here is =
        let place = both (own == o) (a.handle == h) here in
        record {
          sasl = sasl;
          own = own;
          attach = a;
          payload = payload;
          address = address;
          item_is = refl;
          conn = same;
          channel = eqb-true own o place.0;
          handle = eqb-true a.handle h place.1;
          addressed = addressed;
          is = sym (some_same is);
        }

    by : (body : Perf) → attaches_in body own o h ≡ true → link_in body own o h (attachments t + 1) (key_at t c) (asked t c) (link t c o h) ≡ Some m
        → IsNew d (item.Frame sasl own body payload) t c o h m
    by (perf.Attach a) here is = made a (address_by a.role a) refl here (rw here at is)
    by _ here is = absurd cc
new_at d _ t c o h m same at is = absurd cc

pub came : (d : ℕ) (i : Item) (t : Trace) (c o h : ℕ) (m : Link) → link (Out d i ∷ t) c o h ≡ Some m → Came d i t c o h m
came d i t c o h m is =
    by_test (d == c)
    (λ e. by_test (attaches i o h)
    (λ f. is_new (new_at d i t c o h m (eqb-true d c e) f (rw e at is)))
    (λ f. was_there (out_link d i t c o h m f is)))
    (λ e. was_there (record { before = m; there = rw e at is; same = same_link m }))

-- an attach that is put with an address has a number of its own
taken_more : (d : ℕ) (i : Item) (t : Trace) (c o h : ℕ) (m : Link) → IsNew d i t c o h m → attachments (Out d i ∷ t) ≡ attachments t + 1
taken_more d i t c o h m new =
    ap (λ (j : Item). if is_taken j then attachments t + 1 else attachments t) new.item_is
    ∙ ap (λ (v : Option (List ℕ)). if is_some v then attachments t + 1 else attachments t) new.addressed

-- Numbers.

not_fewer : (i : Item) (t : Trace) (d : ℕ) → attachments t ≤ attachments (Out d i ∷ t)
not_fewer i t d = by (is_taken i)
  where
    by : (b : Bool) → attachments t ≤ (if b then attachments t + 1 else attachments t)
    by true = one_more (attachments t) (attachments t) (at_most (attachments t))
    by false = at_most (attachments t)

pub link_low : (t : Trace) (c o h : ℕ) (m : Link) → link t c o h ≡ Some m → m.number ≤ attachments t
link_low [] c o h m is = absurd (none_not_some is)
link_low (Did s ∷ t) c o h m is = let was = did_link s t c o h m is in subst (λ (n : ℕ). n ≤ attachments t) (sym was.same.number) (link_low t c o h was.before was.there)
link_low (Out d i ∷ t) c o h m is = by (came d i t c o h m is) (link_low t c o h)
  where
    by : Came d i t c o h m → ((l : Link) → link t c o h ≡ Some l → l.number ≤ attachments t) → m.number ≤ attachments (Out d i ∷ t)
    by (was_there was) low =
        on m.number (attachments t) (attachments (Out d i ∷ t)) (subst (λ (n : ℕ). n ≤ attachments t) (sym was.same.number) (low was.before was.there)) (not_fewer i t d)
    by (is_new new) low =
        subst (λ (n : ℕ). m.number ≤ n) (sym (taken_more d i t c o h m new)) (subst (λ (l : Link). l.number ≤ attachments t + 1) (sym new.is) (at_most (attachments t + 1)))
link_low (Took d n ∷ t) c o h m is = link_low t c o h m is
link_low (Bound b ∷ t) c o h m is = link_low t c o h m is
link_low (Booked acts full ∷ t) c o h m is = link_low t c o h m is
link_low (Routed passage ∷ t) c o h m is = link_low t c o h m is
link_low (Began g ∷ t) c o h m is = absurd (none_not_some is)

attached_more : (later before : Trace) → IsOneRun later → attachments before ≤ attachments (later ++ before)
attached_more [] before one = at_most (attachments before)
attached_more (Did s ∷ later) before one = attached_more later before one.1
attached_more (Out d i ∷ later) before one =
    on (attachments before) (attachments (later ++ before)) (attachments (Out d i ∷ (later ++ before))) (attached_more later before one.1) (not_fewer i (later ++ before) d)
attached_more (Took d n ∷ later) before one = attached_more later before one.1
attached_more (Bound b ∷ later) before one = attached_more later before one.1
attached_more (Booked acts full ∷ later) before one = attached_more later before one.1
attached_more (Routed passage ∷ later) before one = attached_more later before one.1
attached_more (Began g ∷ later) before one = absurd (clash one.0)

-- a link whose number was given before was there then
pub link_before : (later before : Trace) (c o h : ℕ) (m : Link) → IsOneRun later → link (later ++ before) c o h ≡ Some m → m.number ≤ attachments before → WasLink before c o h m
link_before [] before c o h m one is low = record { before = m; there = is; same = same_link m }
link_before (Did s ∷ later) before c o h m one is low =
    let was = did_link s (later ++ before) c o h m is in
    was_link_on before (later ++ before) c o h m
    (λ l there. link_before later before c o h l one.1 there
    (subst (λ (v : Link). v.number ≤ attachments before) (some_same (sym was.there ∙ there)) (subst (λ (n : ℕ). n ≤ attachments before) was.same.number low))) was
link_before (Out d i ∷ later) before c o h m one is low = by (came d i (later ++ before) c o h m is) (λ l. link_before later before c o h l one.1)
  where
    by : Came d i (later ++ before) c o h m → ((l : Link) → link (later ++ before) c o h ≡ Some l → l.number ≤ attachments before → WasLink before c o h l) → WasLink before c o h m
    by (was_there was) rest =
        was_link_on before (later ++ before) c o h m
        (λ l there. rest l there
        (subst (λ (v : Link). v.number ≤ attachments before) (some_same (sym was.there ∙ there)) (subst (λ (n : ℕ). n ≤ attachments before) was.same.number low))) was
    by (is_new new) rest =
        absurd (too_high (attachments before) (attachments (later ++ before)) m.number (attached_more later before one.1) low (ap (λ (l : Link). l.number) new.is))
link_before (Took d n ∷ later) before c o h m one is low = link_before later before c o h m one.1 is low
link_before (Bound b ∷ later) before c o h m one is low = link_before later before c o h m one.1 is low
link_before (Booked acts full ∷ later) before c o h m one is low = link_before later before c o h m one.1 is low
link_before (Routed passage ∷ later) before c o h m one is low = link_before later before c o h m one.1 is low
link_before (Began g ∷ later) before c o h m one is low = absurd (clash one.0)

-- Keys.

-- the last attachment with a key, after an item: one from before, or a new one
data Newest (d : ℕ) (i : Item) (t : Trace) (k : LinkKey) (a : Attachment) : Type 0 where
  is_old : last_of_key t k ≡ Some a → Newest d i t k a
  is_made : (sasl : Bool) (own : ℕ) (x : AnAttach) (payload : List ℕ) → i ≡ item.Frame sasl own (perf.Attach x) payload → key_at t d x ≡ k → a.number ≡ attachments t + 1 → a.conn.0 ≡ d
      → Newest d i t k a

newest : (d : ℕ) (i : Item) (t : Trace) (k : LinkKey) (a : Attachment) → last_of_key (Out d i ∷ t) k ≡ Some a → Newest d i t k a
newest d (item.Frame sasl own body payload) t k a is = by body is
  where
    attach : (x : AnAttach) (p q : Bool) → same_key (key_at t d x) k ≡ q
        → (if p && q then Some (record { number = attachments t + 1; conn = record { 0 = d }; channel = own; handle = x.handle }) else last_of_key t k) ≡ Some a
        → Newest d (item.Frame sasl own (perf.Attach x) payload) t k a
    attach x true true keyed is =
        is_made sasl own x payload refl (exact_key (key_at t d x) k keyed) (ap (λ (b : Attachment). b.number) (sym (some_same is))) (ap (λ (b : Attachment). b.conn.0) (sym (some_same is)))
    attach x true false keyed is = is_old is
    attach x false q keyed is = is_old is

    by : (body : Perf) → newest_in body own d (attachments t + 1) (λ x. same_key (key_at t d x) k) (last_of_key t k) ≡ Some a → Newest d (item.Frame sasl own body payload) t k a
    by (perf.Attach x) is = attach x (is_some (address_by x.role x)) (same_key (key_at t d x) k) refl is
    by _ is = is_old is
newest d _ t k a is = is_old is

attach_same : {x y : AnAttach} {p q : Bool} {n k : ℕ} {xs ys : List ℕ} → item.Frame p n (perf.Attach x) xs ≡ item.Frame q k (perf.Attach y) ys → x ≡ y
attach_same e = cc

-- its link, if that is still there, has the key
pub key_of_last : (t : Trace) (k : LinkKey) (a : Attachment) (l : Link) → last_of_key t k ≡ Some a → link t a.conn.0 a.channel a.handle ≡ Some l → l.number ≡ a.number → l.key ≡ k
key_of_last [] k a l last is number = absurd (none_not_some last)
key_of_last (Did s ∷ t) k a l last is number =
    let was = did_link s t a.conn.0 a.channel a.handle l is in was.same.key ∙ key_of_last t k a was.before last was.there (sym was.same.number ∙ number)
key_of_last (Out d i ∷ t) k a l last is number = by (newest d i t k a last) (came d i t a.conn.0 a.channel a.handle l is) (key_of_last t k a)
  where
    by : Newest d i t k a → Came d i t a.conn.0 a.channel a.handle l
        → ((m : Link) → last_of_key t k ≡ Some a → link t a.conn.0 a.channel a.handle ≡ Some m → m.number ≡ a.number → m.key ≡ k) → l.key ≡ k
    by (is_old old) (was_there was) rest = was.same.key ∙ rest was.before old was.there (sym was.same.number ∙ number)
    by (is_old old) (is_new new) rest =
        absurd (too_high (attachments t) (attachments t) a.number (at_most (attachments t)) (old_key t k a old) (sym number ∙ ap (λ (m : Link). m.number) new.is))
    by (is_made sasl own x payload made keyed high conn) (was_there was) rest =
        absurd (too_high (attachments t) (attachments t) was.before.number (at_most (attachments t)) (link_low t a.conn.0 a.channel a.handle was.before was.there) (sym was.same.number ∙ number ∙ high))
    by (is_made sasl own x payload made keyed high conn) (is_new new) rest =
        ap (λ (m : Link). m.key) new.is
        ∙ ap (key_at t a.conn.0) (attach_same (sym new.item_is ∙ made))
        ∙ ap (λ (c : ℕ). key_at t c x) conn
        ∙ keyed
key_of_last (Took d n ∷ t) k a l last is number = key_of_last t k a l last is number
key_of_last (Bound b ∷ t) k a l last is number = key_of_last t k a l last is number
key_of_last (Booked acts full ∷ t) k a l last is number = key_of_last t k a l last is number
key_of_last (Routed passage ∷ t) k a l last is number = key_of_last t k a l last is number
key_of_last (Began g ∷ t) k a l last is number = absurd (none_not_some last)

-- Ways.

abbrev pub role_going : Bool → LinkRole
role_going true = Consumer
role_going false = Producer

begun_way : (r : Role) (initial : Option ℕ) (theirs : ℕ) → way_of r ≡ role_going (is_sending (begins r initial theirs))
begun_way Sender initial theirs = refl
begun_way Receiver initial theirs = refl

pub role_is : (t : Trace) (c o h : ℕ) (m : Link) → link t c o h ≡ Some m → m.key.role ≡ role_going (is_sending m.happened)
role_is [] c o h m is = absurd (none_not_some is)
role_is (Did s ∷ t) c o h m is =
    let was = did_link s t c o h m is in ap (λ (k : LinkKey). k.role) was.same.key ∙ role_is t c o h was.before was.there ∙ ap role_going (sym was.same.way)
role_is (Out d i ∷ t) c o h m is = by (came d i t c o h m is) (role_is t c o h)
  where
    by : Came d i t c o h m → ((l : Link) → link t c o h ≡ Some l → l.key.role ≡ role_going (is_sending l.happened)) → m.key.role ≡ role_going (is_sending m.happened)
    by (was_there was) rest = ap (λ (k : LinkKey). k.role) was.same.key ∙ rest was.before was.there ∙ ap role_going (sym was.same.way)
    by (is_new new) rest =
        subst (λ (l : Link). l.key.role ≡ role_going (is_sending l.happened)) (sym new.is) (begun_way new.attach.role new.attach.initial_delivery_count (initial_of (asked t c)))
role_is (Took d n ∷ t) c o h m is = role_is t c o h m is
role_is (Bound b ∷ t) c o h m is = role_is t c o h m is
role_is (Booked acts full ∷ t) c o h m is = role_is t c o h m is
role_is (Routed passage ∷ t) c o h m is = role_is t c o h m is
role_is (Began g ∷ t) c o h m is = absurd (none_not_some is)
