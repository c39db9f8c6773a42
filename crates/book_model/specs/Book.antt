-- The book: what it shows, when an act applies to it, and what the act then does.
use Rattle.std.specs.Prelude.{ℕ, ◌+◌, Bool, true, false, ◌==◌, ◌&&◌, ◌||◌, not, nat_lt, nat_le, if◌then◌else◌, Option, Some, None, is_some, is_none, List, [], ◌∷◌, ◌++◌, length, find, filter, filter_map, count_by}
use Rattle.std.specs.List.{list_any}
use Rattle.std.specs.Cmp.Lexicographic.{pointwise}
use Rattle.amqp_model.specs.declared.state.DeliveryState.{DeliveryState}
use Rattle.amqp_model.specs.PerfSpelling.{state_spelling}
use Rattle.book_model.specs.declared.act.Act.{Act}
use Rattle.book_model.specs.declared.act.Act.TheVariants.{Make, Admit, Decide, Forget, Drop}
use Rattle.book_model.specs.declared.act.Admission.{Admission}
use Rattle.book_model.specs.declared.fault.BookFault.{BookFault}
use Rattle.book_model.specs.declared.fault.BookFault.TheVariants.{NoTerminus, NoRow, AlreadyDecided, TagInUse, Limit}
use Rattle.book_model.specs.declared.row.Row.{Row}
use Rattle.book_model.specs.declared.terminus.LinkRole.{LinkRole}
use Rattle.book_model.specs.declared.terminus.LinkRole.TheVariants.{Producer, Consumer}
use Rattle.book_model.specs.declared.terminus.LinkKey.{LinkKey}
use Rattle.book_model.specs.declared.terminus.Terminus.{Terminus}
use Rattle.book_model.specs.declared.terminus.TerminusNumber.{TerminusNumber}

-- What a book shows: its termini and its rows, each in the order of their numbers, and the numbers that come next.
pub record BookView : Type 0 where
  pub termini : List Terminus
  pub rows : List Row
  pub next_terminus : ℕ
  pub next_row : ℕ

-- an empty book
abbrev pub empty_book : BookView
empty_book = record { termini = []; rows = []; next_terminus = 1; next_row = 1 }

-- Looking up.

abbrev pub same_role : LinkRole → LinkRole → Bool
same_role Producer Producer = true
same_role Consumer Consumer = true
same_role _ _ = false

-- whether two texts, or two tags, have the same bytes
abbrev pub same_bytes : List ℕ → List ℕ → Bool
same_bytes = pointwise ◌==◌

-- whether two keys name one link
abbrev pub same_key : LinkKey → LinkKey → Bool
same_key k l = same_role k.role l.role && same_bytes k.user l.user && same_bytes k.container l.container && same_bytes k.name l.name

-- the terminus of this number
abbrev pub terminus_at : ℕ → List Terminus → Option Terminus
terminus_at n = find (λ t. t.number.0 == n)

-- the terminus of the link with this key
abbrev pub terminus_of : LinkKey → List Terminus → Option Terminus
terminus_of key = find (λ t. same_key t.key key)

-- the row of this number
abbrev pub row_at : ℕ → List Row → Option Row
row_at n = find (λ r. r.number.0 == n)

-- whether a row came on the link of this terminus
abbrev pub is_from : ℕ → Row → Bool
is_from n r = r.producer.0 == n

-- whether a row is bound to the link of this terminus
abbrev pub is_for_by : ℕ → Option TerminusNumber → Bool
is_for_by n None = false
is_for_by n (Some c) = c.0 == n

abbrev pub is_for : ℕ → Row → Bool
is_for n r = is_for_by n r.consumer

-- whether a row has no outcome yet
abbrev pub is_undecided : Row → Bool
is_undecided r = is_none r.outcome

-- whether a row is unforgotten, came on the link of this terminus and has this tag
abbrev pub has_tag : ℕ → List ℕ → Row → Bool
has_tag n tag r = is_from n r && not r.forgotten && same_bytes r.tag.items tag

-- the unforgotten row of this terminus with this tag
abbrev pub row_named : ℕ → List ℕ → List Row → Option Row
row_named n tag = find (has_tag n tag)

-- Conditions.

-- there is a terminus of this number and role
abbrev pub has_role : LinkRole → Option Terminus → Bool
has_role role None = false
has_role role (Some t) = same_role t.key.role role

-- a row may be bound to this terminus: to none, or to a consumer's
abbrev pub may_bind : Option TerminusNumber → List Terminus → Bool
may_bind None ts = true
may_bind (Some n) ts = has_role Consumer (terminus_at n.0 ts)

-- how many undecided rows are bound to this terminus; those bound to none have no limit
abbrev pub undecided_for : Option TerminusNumber → List Row → ℕ
undecided_for None rs = 0
undecided_for (Some n) rs = count_by (λ r. is_for n.0 r && is_undecided r) rs

-- whether no text of a terminus has more than 1,024 bytes
abbrev pub is_short : List ℕ → Bool
is_short text = nat_le (length text) 1024

abbrev pub has_short_texts : Terminus → Bool
has_short_texts t = is_short t.key.user && is_short t.key.container && is_short t.key.name && is_short t.address

-- whether a row keeps its terminus: one that isn't forgotten keeps its producer's, an undecided one its consumer's
abbrev pub keeps : LinkRole → ℕ → Row → Bool
keeps Producer n r = is_from n r && not r.forgotten
keeps Consumer n r = is_for n r && is_undecided r

-- the fault where a condition doesn't hold, and the next condition where it does
abbrev pub unless : Bool → BookFault → Option BookFault → Option BookFault
unless holds fault next = if holds then next else Some fault

-- Why an act doesn't apply; the conditions are tested in this order.
abbrev pub make_refusal : BookView → Terminus → Option BookFault
make_refusal b t =
    unless (t.number.0 == b.next_terminus) NoTerminus (
    unless (not (list_any (λ u. same_key u.key t.key) b.termini)) NoTerminus (
    unless (nat_lt (length b.termini) 1024) Limit (
    unless (has_short_texts t) Limit None)))

abbrev pub admit_refusal : BookView → Admission → Option BookFault
admit_refusal b a =
    unless (has_role Producer (terminus_at a.producer.0 b.termini)) NoTerminus (
    unless (may_bind a.consumer b.termini) NoTerminus (
    unless (a.row.0 == b.next_row) NoRow (
    unless (not (list_any (has_tag a.producer.0 a.tag.items) b.rows)) TagInUse (
    unless (nat_lt (length b.rows) 4096) Limit (
    unless (nat_lt (count_by (is_from a.producer.0) b.rows) 64) Limit (
    unless (nat_lt (undecided_for a.consumer b.rows) 64) Limit (
    unless (nat_le (length a.payload) 65536) Limit None)))))))

abbrev pub decide_refusal : Option Row → DeliveryState → Option BookFault
decide_refusal None outcome = Some NoRow
decide_refusal (Some r) outcome =
    unless (is_undecided r) AlreadyDecided (
    unless (nat_le (length (state_spelling outcome)) 400) Limit None)

abbrev pub forget_refusal : Option Row → Option BookFault
forget_refusal None = Some NoRow
forget_refusal (Some r) = unless (not r.forgotten) NoRow None

abbrev pub drop_refusal : Option Terminus → List Row → Option BookFault
drop_refusal None rs = Some NoTerminus
drop_refusal (Some t) rs = unless (not (list_any (keeps t.key.role t.number.0) rs)) NoTerminus None

abbrev pub refusal : BookView → Act → Option BookFault
refusal b (Make t) = make_refusal b t
refusal b (Admit a) = admit_refusal b a
refusal b (Decide d) = decide_refusal (row_at d.row.0 b.rows) d.outcome
refusal b (Forget n) = forget_refusal (row_at n.0 b.rows)
refusal b (Drop n) = drop_refusal (terminus_at n.0 b.termini) b.rows

-- Effects.

-- the row of a delivery just admitted
abbrev pub admitted : Admission → Row
admitted a = record { number = a.row; producer = a.producer; tag = a.tag; consumer = a.consumer; format = a.format; payload = a.payload; outcome = None; forgotten = false }

-- a row after its outcome: it leaves once it is decided and forgotten
abbrev pub decided : DeliveryState → Row → Option Row
decided outcome r = if r.forgotten then None else Some (record r { outcome = Some outcome })

abbrev pub forgotten : Row → Option Row
forgotten r = if is_some r.outcome then None else Some (record r { forgotten = true })

-- the rows, with the one of this number changed
abbrev pub with_row : ℕ → (Row → Option Row) → List Row → List Row
with_row n change = filter_map (λ r. if r.number.0 == n then change r else Some r)

-- What an act does to a book to which it applies.
abbrev pub effect : BookView → Act → BookView
effect b (Make t) = record b { termini = b.termini ++ t ∷ []; next_terminus = b.next_terminus + 1 }
effect b (Admit a) = record b { rows = b.rows ++ admitted a ∷ []; next_row = b.next_row + 1 }
effect b (Decide d) = record b { rows = with_row d.row.0 (decided d.outcome) b.rows }
effect b (Forget n) = record b { rows = with_row n.0 forgotten b.rows }
effect b (Drop n) = record b { termini = filter (λ t. not (t.number.0 == n.0)) b.termini }

-- Lists of acts.

abbrev pub or_else : Option BookFault → Option BookFault → Option BookFault
or_else None next = next
or_else (Some fault) next = Some fault

-- the fault of the first act that doesn't apply, each to the book after the acts before it
unfoldable pub first_fault : BookView → List Act → Option BookFault
first_fault b [] = None
first_fault b (act ∷ acts) = or_else (refusal b act) (first_fault (effect b act) acts)

-- the book after these acts
unfoldable pub effects : BookView → List Act → BookView
effects b [] = b
effects b (act ∷ acts) = effects (effect b act) acts

-- the rows that came on the link of a terminus or are bound to it
abbrev pub is_of : ℕ → Row → Bool
is_of n r = is_from n r || is_for n r

-- the rows of a walk: all, or those of a terminus
abbrev pub is_wanted : Option TerminusNumber → Row → Bool
is_wanted None r = true
is_wanted (Some n) r = is_of n.0 r
