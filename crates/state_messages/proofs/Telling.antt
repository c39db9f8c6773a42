-- What pools and producers are told, as the tables give it.
use Rattle.std.proofs.Common.{◌≡◌, ◌∙◌, ◌+◌, ◌<◌, ◌≤◌, ℕ, Bool, true, false, refl, sym, ap, Option, Some, None, List, [], ◌∷◌, ◌++◌, drop, length, get_or}
use Rattle.std.specs.Prelude.{◌||◌, if◌then◌else◌, is_some, option_map}
use Rattle.std.proofs.lemmas.List.{at_drop_all, at_drop_more}
use Rattle.route_credit.specs.Links.{link_at}
use Rattle.route_credit.specs.Pool.{by_id}
use Rattle.route_credit.specs.declared.ids.ProducerId.{ProducerId}
use Rattle.router_trace.specs.declared.handle.Attachment.{Attachment}
use Rattle.router_trace.specs.Trace.{Trace}
use Rattle.router_trace.specs.Links as view
use Rattle.router_trace.specs.Links.{Happened, sends, receives, numbered, place_of, has_number, if_attached, is_attached}
use Rattle.router_trace.specs.Following.{is_sending, link_of as view_of}
use Rattle.state_links.specs.declared.link.Link.{Link}
use Rattle.state_links.specs.Ends.{link_of}
use Rattle.state_links.specs.Looking.{count_on, credit_on, unused_on}
use Rattle.state_pools.specs.Sharing.{consumer, producer}
use Rattle.state_messages.specs.declared.grant.LinkGrant.{LinkGrant}
use Rattle.state_messages.specs.Figures.{figure_by, free_of, held, lacks_rows, owed_credit, undecided, unused_by, waiting}
use Rattle.state_messages.specs.Messages.{grant_at, grant_by, grant_on, grants_on, with_newest}
use Rattle.state_messages.proofs.Numbered.{number_is}
use Rattle.state_messages.proofs.Seen.{figure_there}

consumer_by : (t : Trace) (l : view.Link) (h : Happened) → is_sending h ≡ true
    → figure_by t l h ≡ consumer l.address (free_of (l.drains || lacks_rows l) (credit_on h) (waiting t l.number) (undecided t l.number)) (undecided t l.number)
consumer_by t l (sends list) e = refl
consumer_by t l (receives list) e = absurd cc

pub consumer_is : (t : Trace) (l : view.Link) (n : ℕ) (address : List ℕ) (free waits pending : ℕ) → l.number ≡ n → is_sending l.happened ≡ true → address ≡ l.address
    → waits ≡ waiting t n → pending ≡ undecided t n → free ≡ free_of (l.drains || lacks_rows l) (credit_on l.happened) waits pending
    → Some (figure_by t l l.happened) ≡ Some (consumer address free pending)
consumer_is t l n address free waits pending number sending same one two three =
    ap Some (
    consumer_by t l l.happened sending
    ∙ ap (λ k. consumer l.address (free_of (l.drains || lacks_rows l) (credit_on l.happened) (waiting t k) (undecided t k)) (undecided t k)) number
    ∙ ap (λ k. consumer l.address (free_of (l.drains || lacks_rows l) (credit_on l.happened) k (undecided t n)) (undecided t n)) (sym one)
    ∙ ap (λ k. consumer l.address (free_of (l.drains || lacks_rows l) (credit_on l.happened) waits k) k) (sym two)
    ∙ ap (λ k. consumer l.address k pending) (sym three)
    ∙ ap (λ a. consumer a free pending) (sym same))

producer_by : (t : Trace) (l : view.Link) (h : Happened) → is_sending h ≡ false
    → figure_by t l h ≡ producer l.address (unused_by h + owed_credit t l) (length l.due) (held t l.number)
producer_by t l (sends list) e = absurd cc
producer_by t l (receives list) e = refl

pub producer_is : (t : Trace) (l : view.Link) (n : ℕ) (address : List ℕ) (unused due kept : ℕ) → l.number ≡ n → is_sending l.happened ≡ false → address ≡ l.address
    → unused ≡ unused_by l.happened + owed_credit t l → due ≡ length l.due → kept ≡ held t n → Some (figure_by t l l.happened) ≡ Some (producer address unused due kept)
producer_is t l n address unused due kept number sending same one two three =
    ap Some (
    producer_by t l l.happened sending
    ∙ ap (λ k. producer l.address (unused_by l.happened + owed_credit t l) (length l.due) (held t k)) number
    ∙ ap (λ k. producer l.address k (length l.due) (held t n)) (sym one)
    ∙ ap (λ k. producer l.address unused k (held t n)) (sym two)
    ∙ ap (λ k. producer l.address unused due k) (sym three)
    ∙ ap (λ a. producer a unused due kept) (sym same))

-- a number without a place is granted nothing
none_granted : (t : Trace) (n amount : ℕ) (a : Attachment) (v : Option view.Link) → has_number n v ≡ false → grant_on t n a amount v ≡ []
none_granted t n amount a None e = refl
none_granted t n amount a (Some l) e = ap (λ b. if b then grant_by a (owed_credit t l + amount) l.happened else []) e

gone : (b : Bool) (a : Attachment) → (if b then Some a else None) ≡ None → b ≡ false
gone true a e = absurd cc
gone false a e = refl

pub grant_nowhere : (t : Trace) (n amount : ℕ) → place_of t n ≡ None → grant_at t n amount (numbered t n) ≡ []
grant_nowhere t n amount e = by_number (numbered t n) refl e
  where
    by_number : (v : Option Attachment) → numbered t n ≡ v → if_attached t v ≡ None → grant_at t n amount v ≡ []
    by_number None is e = refl
    by_number (Some a) is e =
        none_granted t n amount a (view_of t a) (ap (λ k. has_number k (view_of t a)) (sym (number_is t n a is)) ∙ gone (is_attached t a) a e)

pub grant_empty : (t : Trace) (n amount : ℕ) (a : Attachment) → place_of t n ≡ Some a → None ≡ option_map link_of (view_of t a) → grant_at t n amount (numbered t n) ≡ []
grant_empty t n amount a place is = ap (grant_at t n amount) (figure_there t n a place).0 ∙ by_view (view_of t a) is
  where
    by_view : (w : Option view.Link) → None ≡ option_map link_of w → grant_on t n a amount w ≡ []
    by_view None e = refl
    by_view (Some l) e = absurd cc

-- and a number with one is granted what its link says
pub record IsGranted (t : Trace) (n amount : ℕ) (a : Attachment) (k : Link) : Type 0 where
  pub link : view.Link
  pub is : k ≡ link_of link
  pub grant : grant_at t n amount (numbered t n) ≡ grant_by a (owed_credit t link + amount) link.happened

pub grant_here : (t : Trace) (n amount : ℕ) (a : Attachment) (k : Link) → place_of t n ≡ Some a → Some k ≡ option_map link_of (view_of t a) → IsGranted t n amount a k
grant_here t n amount a k place is = by_view (view_of t a) is (figure_there t n a place).1 (ap (grant_at t n amount) (figure_there t n a place).0)
  where
    the_link : Option Link → Link
    the_link None = k
    the_link (Some l) = l

    by_view : (w : Option view.Link) → Some k ≡ option_map link_of w → has_number n w ≡ true → grant_at t n amount (numbered t n) ≡ grant_on t n a amount w → IsGranted t n amount a k
    by_view None e f g = absurd cc
    by_view (Some l) e f g = record { link = l; is = ap the_link e; grant = g ∙ ap (λ b. if b then grant_by a (owed_credit t l + amount) l.happened else []) f }

-- grants added one after another
joined : (xs ys zs : List LinkGrant) → (xs ++ ys) ++ zs ≡ xs ++ (ys ++ zs)
joined [] ys zs = refl
joined (x ∷ xs) ys zs = ap (λ ws. x ∷ ws) (joined xs ys zs)

pub nothing_after : (xs : List LinkGrant) → xs ++ [] ≡ xs
nothing_after [] = refl
nothing_after (x ∷ xs) = ap (λ ws. x ∷ ws) (nothing_after xs)

pub told_more : (t : Trace) (sums : List (ProducerId × ℕ)) (i : ℕ) (d : ProducerId × ℕ) (old new all : List LinkGrant) → i < length sums
    → new ≡ old ++ grant_at t (get_or sums i d).0.0 (get_or sums i d).1 (numbered t (get_or sums i d).0.0)
    → old ++ grants_on t (by_id (drop i sums)) ≡ all → new ++ grants_on t (by_id (drop (i + 1) sums)) ≡ all
told_more t sums i d old new all below is before =
    ap (λ xs. xs ++ grants_on t (by_id (drop (i + 1) sums))) is
    ∙ joined old (grant_at t (get_or sums i d).0.0 (get_or sums i d).1 (numbered t (get_or sums i d).0.0)) (grants_on t (by_id (drop (i + 1) sums)))
    ∙ sym (at_drop_more (λ ys. old ++ grants_on t (by_id ys)) sums i d below)
    ∙ before

pub told_last : (t : Trace) (sums : List (ProducerId × ℕ)) (i : ℕ) (old all : List LinkGrant) → length sums ≤ i
    → old ++ grants_on t (by_id (drop i sums)) ≡ all → old ≡ all
told_last t sums i old all over before =
    sym (nothing_after old) ∙ sym (at_drop_all (λ ys. old ++ grants_on t (by_id ys)) sums i over) ∙ before

-- and that of one link at the end
grants_end : (t : Trace) (sums : List (ℕ × ℕ)) (n amount : ℕ) → grants_on t sums ++ grant_at t n amount (numbered t n) ≡ grants_on t (sums ++ ((n, amount) ∷ []))
grants_end t [] n amount = sym (nothing_after (grant_at t n amount (numbered t n)))
grants_end t (s ∷ ss) n amount =
    joined (grant_at t s.0 s.1 (numbered t s.0)) (grants_on t ss) (grant_at t n amount (numbered t n))
    ∙ ap (λ gs. grant_at t s.0 s.1 (numbered t s.0) ++ gs) (grants_end t ss n amount)

pub newest_among : (t : Trace) (n : ℕ) (sums : List (ℕ × ℕ)) → is_some (link_at sums n) ≡ true → grants_on t sums ≡ grants_on t (with_newest n sums)
newest_among t n sums e = ap (λ b. grants_on t (if b then sums else sums ++ ((n, 0) ∷ []))) (sym e)

pub newest_last : (t : Trace) (n : ℕ) (sums : List (ℕ × ℕ)) → is_some (link_at sums n) ≡ false → grants_on t sums ++ grant_at t n 0 (numbered t n) ≡ grants_on t (with_newest n sums)
newest_last t n sums e = grants_end t sums n 0 ∙ ap (λ b. grants_on t (if b then sums else sums ++ ((n, 0) ∷ []))) (sym e)

-- a grant as the code makes it
pub grant_is : (a : Attachment) (count unused amount credit : ℕ) (h : Happened) → is_sending h ≡ false → count ≡ count_on h → unused ≡ unused_on h → credit ≡ unused + amount
    → (record { at = a; state = record { handle = a.handle; count = count; credit = credit; drain = false } } ∷ []) ≡ grant_by a amount h
grant_is a count unused amount credit (sends list) none counted left is = absurd cc
grant_is a count unused amount credit (receives list) none counted left is =
    ap (granting count) (is ∙ ap (λ k. k + amount) left) ∙ ap (λ k. granting k (unused_on (receives list) + amount)) counted
  where
    granting : ℕ → ℕ → List LinkGrant
    granting n m = record { at = a; state = record { handle = a.handle; count = n; credit = m; drain = false } } ∷ []
