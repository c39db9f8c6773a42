-- What a link has, read from the tables.
use Rattle.std.proofs.Common.{◌≡◌, ◌∙◌, ◌+◌, ℕ, Bool, true, false, refl, sym, ap, Option, Some, None, List, [], ◌∷◌}
use Rattle.std.specs.Prelude.{◌==◌, ◌&&◌, ◌||◌, if◌then◌else◌, length, option_map, unwrap_or}
use Rattle.std.proofs.lemmas.Bool.{eqb-true, eq-eqb}
use Rattle.amqp_link.specs.Deliveries.{Frame}
use Rattle.amqp_link.specs.Gathering.{gathered}
use Rattle.amqp_link.specs.Figures.{left_at, unused_at}
use Rattle.amqp_link.specs.Credit as credit
use Rattle.amqp_link.specs.Receiving as receiving
use Rattle.amqp_link.specs.Receiving.{middle}
use Rattle.router_trace.specs.declared.handle.Attachment.{Attachment}
use Rattle.route_table.specs.declared.sections.Distribution.{Distribution}
use Rattle.router_trace.specs.Configuration.{distribution}
use Rattle.router_trace.specs.Trace.{Trace}
use Rattle.router_trace.specs.Links as view
use Rattle.router_trace.specs.Links.{Happened, sends, receives, numbered, attachments, place_of, has_number, if_attached, is_attached}
use Rattle.router_trace.specs.Following.{link_of as view_of}
use Rattle.router_trace.specs.Settling.{told_first}
use Rattle.state_links.specs.declared.link.Link.{Link}
use Rattle.state_links.specs.declared.link.LinkEnd.{LinkEnd}
use Rattle.state_links.specs.declared.link.LinkEnd.TheVariants as ends
use Rattle.state_links.specs.declared.links.Links.{Links}
use Rattle.state_links.specs.Ends.{end_of, link_of}
use Rattle.state_links.specs.Fits.{LinksFit}
use Rattle.state_links.specs.Looking.{link_on, numbered_link}
use Rattle.state_links.specs.Naming.{Remembers}
use Rattle.state_collections.specs.Places.{at}
use Rattle.state_links.specs.Touching.{if_number}
use Rattle.state_links.proofs.Standing.{stands_where}
use Rattle.state_pools.specs.Sharing.{address_in, AreNumbered, Figure, consumer, producer}
use Rattle.state_messages.specs.Figures.{begun_credit, figure, figure_at, figure_by, figure_on, free_of, held, lacks_rows, owed_by, undecided, unused_credit, waiting}
use Rattle.state_messages.proofs.Numbered.{none_beyond, none_first, number_is}
use Rattle.state_collections.specs.NumberMap.{at_number}

pub by_test : {P : Type 0} (b : Bool) → ((b ≡ true) → P) → ((b ≡ false) → P) → P
by_test true f g = f refl
by_test false f g = g refl

-- what a link of the table has, where addresses are shared so, with this many waiting, undecided and held deliveries
abbrev pub seen_end : (List ℕ → Distribution) → ℕ → ℕ → ℕ → Link → LinkEnd → Figure
seen_end share waits pending kept l (ends.Sends e) = consumer l.address (free_of (l.drains || (l.durable && l.incomplete)) (left_at e) waits pending) pending
seen_end share waits pending kept l (ends.Receives e) =
    producer l.address (unused_at e + begun_credit (option_map (λ g. g.delivery) e.middle) + owed_by (share l.address) l.owes_due) (length l.due) kept

abbrev pub seen_one : (List ℕ → Distribution) → ℕ → ℕ → ℕ → Option Link → Option Figure
seen_one share waits pending kept None = None
seen_one share waits pending kept (Some l) = Some (seen_end share waits pending kept l l.end)

abbrev pub seen : (List ℕ → Distribution) → ℕ → ℕ → ℕ → ℕ → (ℕ → ℕ → ℕ → Option Link) → Option Attachment → Option Figure
seen share n waits pending kept known None = None
seen share n waits pending kept known (Some a) = seen_one share waits pending kept (if_number n (known a.conn.0 a.channel a.handle))

told_same : (fs : List Frame) → told_first fs ≡ option_map (λ g. g.delivery) (gathered fs)
told_same [] = refl
told_same (f ∷ fs) = refl

end_same : (t : Trace) (n : ℕ) (l : view.Link) (h : Happened) → l.number ≡ n
    → figure_by t l h ≡ seen_end (distribution t) (waiting t n) (undecided t n) (held t n) (link_of l) (end_of h)
end_same t n l (sends list) is = ap (λ k. consumer l.address (free_of (l.drains || lacks_rows l) (credit.credit list) (waiting t k) (undecided t k)) (undecided t k)) is
end_same t n l (receives list) is =
    ap (λ k. producer l.address (unused_credit list + owed_by (distribution t l.address) l.owes_due) (length l.due) (held t k)) is
    ∙ ap (λ d. producer l.address (receiving.unused list + begun_credit d + owed_by (distribution t l.address) l.owes_due) (length l.due) (held t n)) (told_same (middle list))

-- on the handle of its attachment
on_same : (t : Trace) (n : ℕ) (v : Option view.Link)
    → figure_on t n v ≡ seen_one (distribution t) (waiting t n) (undecided t n) (held t n) (if_number n (option_map link_of v))
on_same t n None = refl
on_same t n (Some l) = by_test (l.number == n)
    (λ e. rw e (ap Some (end_same t n l l.happened (eqb-true l.number n e))))
    (λ e. rw e refl)

-- a link that is nowhere has nothing
pub none_on : (t : Trace) (n : ℕ) (v : Option view.Link) → has_number n v ≡ false → figure_on t n v ≡ None
none_on t n None e = refl
none_on t n (Some l) e = rw e refl

gone : (b : Bool) (a : Attachment) → (if b then Some a else None) ≡ None → b ≡ false
gone true a e = absurd cc
gone false a e = refl

pub nowhere : (t : Trace) (n : ℕ) → place_of t n ≡ None → figure t n ≡ None
nowhere t n e = by_number (numbered t n) refl e
  where
    by_number : (v : Option Attachment) → numbered t n ≡ v → if_attached t v ≡ None → figure_at t n v ≡ None
    by_number None is e = refl
    by_number (Some a) is e =
        none_on t n (view_of t a) (ap (λ k. has_number k (view_of t a)) (sym (number_is t n a is)) ∙ gone (is_attached t a) a e)

-- so what the table remembers of a number gives its figure
pub seen_is : (s : Links) (t : Trace) (n : ℕ) → LinksFit s t
    → figure t n ≡ seen (distribution t) n (waiting t n) (undecided t n) (held t n) (at s.table.links) (at_number s.table.names.numbers.entries n)
seen_is s t n fit = by_entry (at_number s.table.names.numbers.entries n) (fit.table.names.numbers n)
  where
    by_entry : (v : Option Attachment) → Remembers v (numbered t n) (place_of t n)
        → figure t n ≡ seen (distribution t) n (waiting t n) (undecided t n) (held t n) (at s.table.links) v
    by_entry None there = nowhere t n there
    by_entry (Some a) there =
        ap (figure_at t n) there
        ∙ on_same t n (view_of t a)
        ∙ ap (λ v. seen_one (distribution t) (waiting t n) (undecided t n) (held t n) (if_number n v)) (sym (fit.table.links a.conn.0 a.channel a.handle))

-- A link that is the same in both tables, with equal counts of deliveries, has the same figure if addresses are shared
-- in the same way.
pub figure_same : (s u : Links) (t w : Trace) (n : ℕ) → LinksFit s t → LinksFit u w
    → at_number s.table.names.numbers.entries n ≡ at_number u.table.names.numbers.entries n
    → ((c o h : ℕ) → if_number n (at s.table.links c o h) ≡ if_number n (at u.table.links c o h))
    → ((a : List ℕ) → distribution w a ≡ distribution t a)
    → waiting t n ≡ waiting w n → undecided t n ≡ undecided w n → held t n ≡ held w n → figure t n ≡ figure w n
figure_same s u t w n fit fit' numbers links shared waits pending kept =
    seen_is s t n fit
    ∙ ap (λ k. seen (distribution t) n k (undecided t n) (held t n) (at s.table.links) (at_number s.table.names.numbers.entries n)) waits
    ∙ ap (λ k. seen (distribution t) n (waiting w n) k (held t n) (at s.table.links) (at_number s.table.names.numbers.entries n)) pending
    ∙ ap (λ k. seen (distribution t) n (waiting w n) (undecided w n) k (at s.table.links) (at_number s.table.names.numbers.entries n)) kept
    ∙ ap (λ v. seen (distribution t) n (waiting w n) (undecided w n) (held w n) (at s.table.links) v) numbers
    ∙ by_entry (at_number u.table.names.numbers.entries n)
    ∙ sym (seen_is u w n fit')
  where
    by_end : (l : Link) (e : LinkEnd)
        → Some (seen_end (distribution t) (waiting w n) (undecided w n) (held w n) l e) ≡ Some (seen_end (distribution w) (waiting w n) (undecided w n) (held w n) l e)
    by_end l (ends.Sends e) = refl
    by_end l (ends.Receives e) =
        ap (λ d. Some (producer l.address (unused_at e + begun_credit (option_map (λ g. g.delivery) e.middle) + owed_by d l.owes_due) (length l.due) (held w n))) (sym (shared l.address))

    by_link : (v : Option Link)
        → seen_one (distribution t) (waiting w n) (undecided w n) (held w n) v ≡ seen_one (distribution w) (waiting w n) (undecided w n) (held w n) v
    by_link None = refl
    by_link (Some l) = by_end l l.end

    by_entry : (v : Option Attachment)
        → seen (distribution t) n (waiting w n) (undecided w n) (held w n) (at s.table.links) v ≡ seen (distribution w) n (waiting w n) (undecided w n) (held w n) (at u.table.links) v
    by_entry None = refl
    by_entry (Some a) =
        ap (seen_one (distribution t) (waiting w n) (undecided w n) (held w n)) (links a.conn.0 a.channel a.handle)
        ∙ by_link (if_number n (at u.table.links a.conn.0 a.channel a.handle))

-- only numbers of attachments have anything
pub are_numbered : (t : Trace) → AreNumbered (figure t) (attachments t)
are_numbered t = record { first = ap (figure_at t 0) (none_first t); most = λ m above. ap (figure_at t m) (none_beyond t m above) }

-- an attached number has what its link has
pub figure_there : (t : Trace) (n : ℕ) (a : Attachment) → place_of t n ≡ Some a → (numbered t n ≡ Some a) × (has_number n (view_of t a) ≡ true)
figure_there t n a e = by_number (numbered t n) refl e
  where
    there : (b : Bool) (c : Attachment) → (if b then Some c else None) ≡ Some a → (b ≡ true) × (Some c ≡ Some a)
    there true c e = (refl, e)
    there false c e = absurd cc

    by_number : (v : Option Attachment) → numbered t n ≡ v → if_attached t v ≡ Some a → (numbered t n ≡ Some a) × (has_number n (view_of t a) ≡ true)
    by_number None is e = absurd cc
    by_number (Some c) is e =
        let both : (is_attached t c ≡ true) × (Some c ≡ Some a) = there (is_attached t c) c e in
        let one : numbered t n ≡ Some a = is ∙ both.1 in
        (one, ap (λ k. has_number k (view_of t a)) (sym (number_is t n a one)) ∙ ap attached (sym both.1) ∙ both.0)
      where
        attached : Option Attachment → Bool
        attached None = false
        attached (Some d) = is_attached t d

-- if a number has no link, it has nothing
pub figure_nowhere : (t : Trace) (n : ℕ) → None ≡ option_map link_of (numbered_link t n) → figure t n ≡ None
figure_nowhere t n none = by_place (place_of t n) refl none
  where
    by_view : (w : Option view.Link) → None ≡ option_map link_of w → figure_on t n w ≡ None
    by_view None e = refl
    by_view (Some l) e = absurd cc

    by_place : (v : Option Attachment) → place_of t n ≡ v → None ≡ option_map link_of (link_on t v) → figure t n ≡ None
    by_place None place e = nowhere t n place
    by_place (Some a) place e =
        let there : (numbered t n ≡ Some a) × (has_number n (view_of t a) ≡ true) = figure_there t n a place in
        ap (figure_at t n) there.0 ∙ by_view (view_of t a) e

-- otherwise it has what its link has
pub record IsThere (t : Trace) (n : ℕ) (k : Link) : Type 0 where
  pub link : view.Link
  pub is : k ≡ link_of link
  pub number : link.number ≡ n
  pub figure : figure t n ≡ Some (figure_by t link link.happened)

same_option : {A : Type 0} (x y : A) → Some x ≡ Some y → x ≡ y
same_option {A = A} x y e = ap (λ (v : Option A). unwrap_or v x) e

pub figure_here : (t : Trace) (n : ℕ) (k : Link) → Some k ≡ option_map link_of (numbered_link t n) → IsThere t n k
figure_here t n k is = by_place (place_of t n) refl is
  where
    by_view : (w : Option view.Link) → Some k ≡ option_map link_of w → has_number n w ≡ true → figure t n ≡ figure_on t n w → IsThere t n k
    by_view None e f g = absurd cc
    by_view (Some l) e f g = record {
      link = l;
      is = same_option k (link_of l) e;
      number = eqb-true l.number n f;
      figure = g ∙ ap (λ b. if b then Some (figure_by t l l.happened) else None) f;
    }

    by_place : (v : Option Attachment) → place_of t n ≡ v → Some k ≡ option_map link_of (link_on t v) → IsThere t n k
    by_place None place e = absurd cc
    by_place (Some a) place e =
        let there : (numbered t n ≡ Some a) × (has_number n (view_of t a) ≡ true) = figure_there t n a place in
        by_view (view_of t a) e there.1 (ap (figure_at t n) there.0)

-- a link of the table that is on a handle
pub record IsOn (v : Option view.Link) (k : Link) : Type 0 where
  pub link : view.Link
  pub is : v ≡ Some link
  pub number : link.number ≡ k.number

pub found_on : (v : Option view.Link) (k : Link) → Some k ≡ option_map link_of v → IsOn v k
found_on None k e = absurd cc
found_on (Some l) k e = record { link = l; is = refl; number = ap (λ (x : Link). x.number) (sym (same_option k (link_of l) e)) }

-- the address of a link is that of what its number has
pub address_on : (t : Trace) (c o h : ℕ) (k : Link) (there : IsOn (view.link t c o h) k) → address_in (figure t k.number) ≡ Some there.link.address
address_on t c o h k there =
    ap (λ n. address_in (figure t n)) (sym there.number)
    ∙ ap (λ v. address_in (figure_at t there.link.number v)) (stands_where t c o h there.link.number (ap (has_number there.link.number) there.is ∙ eq-eqb there.link.number there.link.number refl))
    ∙ ap (λ v. address_in (figure_on t there.link.number v)) there.is
    ∙ ap (λ b. address_in (if b then Some (figure_by t there.link there.link.happened) else None)) (eq-eqb there.link.number there.link.number refl)
    ∙ by_happened there.link.happened
  where
    by_happened : (h : Happened) → address_in (Some (figure_by t there.link h)) ≡ Some there.link.address
    by_happened (sends list) = refl
    by_happened (receives list) = refl
