-- What is looked up of a table's link agrees with the view's.
use Rattle.std.proofs.Common.{◌≡◌, ◌∙◌, ℕ, Bool, true, false, refl, sym, ap, List, [], ◌∷◌, Option, Some, None}
use Rattle.std.specs.Prelude.{◌==◌, if◌then◌else◌, option_map}
use Rattle.amqp_link.specs.Deliveries.{Frame}
use Rattle.amqp_link.specs.Gathering.{gathered}
use Rattle.amqp_link.specs.Receiving.{middle}
use Rattle.router_trace.specs.declared.handle.PeerHandle.{PeerHandle}
use Rattle.router_trace.specs.declared.handle.PeerHandle.TheVariants.{Mapped, Detaching}
use Rattle.router_trace.specs.Links as view
use Rattle.router_trace.specs.declared.handle.Attachment.{Attachment}
use Rattle.router_trace.specs.Trace.{Trace}
use Rattle.router_trace.specs.Links.{Happened, sends, receives, link, link_place_by, on_link, found_on, found_link, durable_key, numbered, place_of, has_number, if_attached}
use Rattle.router_trace.specs.Settling.{told_first, middle_by, middle_on}
use Rattle.router_trace.specs.Following.{is_sending}
use Rattle.state_links.specs.declared.link.Link.{Link}
use Rattle.state_links.specs.Ends.{end_of, link_of}
use Rattle.state_links.specs.Fits.{found_end, found_at}
use Rattle.state_links.specs.Looking.{credit_on, credit_at, unused_on, unused_end, count_on, count_at, sends_at, middle_at, middle_here, is_new, is_in_middle, durable_at, key_on, attachment_of, attachment_on, link_on, numbered_link, numbered_here}
use Rattle.state_links.specs.Naming.{Remembers}
use Rattle.state_links.specs.Touching.{if_number}

credit_same : (h : Happened) → credit_at (end_of h) ≡ credit_on h
credit_same (sends list) = refl
credit_same (receives list) = refl

unused_same : (h : Happened) → unused_end (end_of h) ≡ unused_on h
unused_same (sends list) = refl
unused_same (receives list) = refl

count_same : (h : Happened) → count_at (end_of h) ≡ count_on h
count_same (sends list) = refl
count_same (receives list) = refl

sends_same : (h : Happened) → sends_at (end_of h) ≡ is_sending h
sends_same (sends list) = refl
sends_same (receives list) = refl

told_same : (fs : List Frame) → option_map (λ g. g.delivery) (gathered fs) ≡ told_first fs
told_same [] = refl
told_same (f ∷ fs) = refl

middle_same : (h : Happened) → middle_at (end_of h) ≡ middle_by h
middle_same (sends list) = refl
middle_same (receives list) = told_same (middle list)

pub credit_follows : (k : Link) (l : view.Link) → k ≡ link_of l → credit_at k.end ≡ credit_on l.happened
credit_follows k l is = ap (λ (x : Link). credit_at x.end) is ∙ credit_same l.happened

pub unused_follows : (k : Link) (l : view.Link) → k ≡ link_of l → unused_end k.end ≡ unused_on l.happened
unused_follows k l is = ap (λ (x : Link). unused_end x.end) is ∙ unused_same l.happened

pub count_follows : (k : Link) (l : view.Link) → k ≡ link_of l → count_at k.end ≡ count_on l.happened
count_follows k l is = ap (λ (x : Link). count_at x.end) is ∙ count_same l.happened

pub sends_follows : (k : Link) (l : view.Link) → k ≡ link_of l → sends_at k.end ≡ is_sending l.happened
sends_follows k l is = ap (λ (x : Link). sends_at x.end) is ∙ sends_same l.happened

pub in_middle_follows : (k : Link) (l : view.Link) → k ≡ link_of l → is_new (middle_at k.end) ≡ is_in_middle l
in_middle_follows k l is = ap (λ (x : Link). is_new (middle_at x.end)) is ∙ ap is_new (middle_same l.happened)

found_same : (h : ℕ) (v : Option view.Link) → found_at h (option_map link_of v) ≡ found_link (on_link h v)
found_same h None = refl
found_same h (Some l) = by l.happened
  where
    by : (e : Happened) → found_end h l.durable (end_of e) ≡ found_on h l.durable e
    by (sends list) = refl
    by (receives list) = refl

key_same : (h : ℕ) (v : Option view.Link) → durable_at (option_map link_of v) ≡ key_on (on_link h v)
key_same h None = refl
key_same h (Some l) = refl

middle_there : (h : ℕ) (v : Option view.Link) → middle_here (option_map link_of v) ≡ middle_on (on_link h v)
middle_there h None = refl
middle_there h (Some l) = middle_same l.happened

-- what is found on a peer's handle that stands for a link
pub found_follows : (h : ℕ) (p : Option PeerHandle) (k : Option Link) (views : ℕ → Option view.Link)
    → p ≡ Some (Mapped h) → k ≡ option_map link_of (views h) → found_at h k ≡ found_link (link_place_by p views)
found_follows h p k views is fit = ap (found_at h) fit ∙ found_same h (views h) ∙ ap (λ q. found_link (link_place_by q views)) (sym is)

pub middle_found : (h : ℕ) (p : Option PeerHandle) (k : Option Link) (views : ℕ → Option view.Link)
    → p ≡ Some (Mapped h) → k ≡ option_map link_of (views h) → middle_here k ≡ middle_on (link_place_by p views)
middle_found h p k views is fit = ap middle_here fit ∙ middle_there h (views h) ∙ ap (λ q. middle_on (link_place_by q views)) (sym is)

pub key_found : (h : ℕ) (p : Option PeerHandle) (k : Option Link) (views : ℕ → Option view.Link)
    → p ≡ Some (Mapped h) → k ≡ option_map link_of (views h) → durable_at k ≡ key_on (link_place_by p views)
key_found h p k views is fit = ap durable_at fit ∙ key_same h (views h) ∙ ap (λ q. key_on (link_place_by q views)) (sym is)

durable_same : (v : Option view.Link) → durable_at (option_map link_of v) ≡ durable_key v
durable_same None = refl
durable_same (Some l) = refl

-- the key of a durable link, and whether there is one
pub durable_follows : (k : Option Link) (v : Option view.Link) → k ≡ option_map link_of v → durable_at k ≡ durable_key v
durable_follows k v is = ap durable_at is ∙ durable_same v

attached_there : (c o h : ℕ) (v : Option view.Link) → option_map (attachment_of c o h) (option_map link_of v) ≡ attachment_on c o h v
attached_there c o h None = refl
attached_there c o h (Some l) = refl

pub attachment_follows : (c o h : ℕ) (k : Option Link) (v : Option view.Link) → k ≡ option_map link_of v → option_map (attachment_of c o h) k ≡ attachment_on c o h v
attachment_follows c o h k v is = ap (option_map (attachment_of c o h)) is ∙ attached_there c o h v

-- the link with a number
numbered_there : (t : Trace) (a : Attachment) (n : ℕ) (v : Option view.Link) → v ≡ link t a.conn.0 a.channel a.handle
    → if_number n (option_map link_of v) ≡ option_map link_of (link_on t (if has_number n v then Some a else None))
numbered_there t a n None is = refl
numbered_there t a n (Some l) is = either (l.number == n)
  where
    either : (b : Bool) → (if b then Some (link_of l) else None) ≡ option_map link_of (link_on t (if b then Some a else None))
    either true = ap (option_map link_of) is
    either false = refl

pub numbered_follows : (t : Trace) (n : ℕ) (known : ℕ → ℕ → ℕ → Option Link) (v : Option Attachment) → Remembers v (numbered t n) (place_of t n)
    → ((c o h : ℕ) → known c o h ≡ option_map link_of (link t c o h)) → numbered_here known v ≡ option_map link_of (numbered_link t n)
numbered_follows t n known None there fit = ap (λ p. option_map link_of (link_on t p)) (sym there)
numbered_follows t n known (Some a) there fit =
    ap (if_number a.number) (fit a.conn.0 a.channel a.handle)
    ∙ numbered_there t a a.number (link t a.conn.0 a.channel a.handle) refl
    ∙ ap (λ p. option_map link_of (link_on t (if_attached t p))) (sym there)
