-- Queries on a link of the table agree with the view's.
use Rattle.std.proofs.Common.{◌≡◌, ◌∙◌, ◌+◌, ℕ, true, false, refl, ap, Option, Some, None}
use Rattle.std.specs.Prelude.{◌&&◌, ◌==◌, ◌%◌, ◌^◌, not, nat_lt, option_map}
use Rattle.router_trace.specs.declared.frames.LinkState.{LinkState}
use Rattle.router_trace.specs.Links as view
use Rattle.router_trace.specs.Links.{Happened, sends, receives}
use Rattle.router_trace.specs.Following.{has_credit, is_sending, takes_more}
use Rattle.state_links.specs.declared.link.Link.{Link}
use Rattle.state_links.specs.Ends.{link_of}
use Rattle.state_links.specs.Looking.{count_on, credit_on}
use Rattle.state_messages.specs.Asking.{drained_by}

-- what a look-up of the table finds
pub nobody : (w : Option view.Link) → None ≡ option_map link_of w → w ≡ None
nobody None e = refl
nobody (Some l) e = absurd cc

pub record Sees (w : Option view.Link) (k : Link) : Type 0 where
  pub link : view.Link
  pub is : k ≡ link_of link
  pub there : w ≡ Some link

pub sees : (w : Option view.Link) (k : Link) → Some k ≡ option_map link_of w → Sees w k
sees None k e = absurd cc
sees (Some l) k e = record { link = l; is = ap the_link e; there = refl }
  where
    the_link : Option Link → Link
    the_link None = k
    the_link (Some m) = m

credit_some : (h : Happened) → nat_lt 0 (credit_on h) ≡ has_credit h
credit_some (sends list) = refl
credit_some (receives list) = refl

pub takes_is : (k : Link) (l : view.Link) (n credit : ℕ) → k ≡ link_of l → credit ≡ credit_on l.happened → ((k.number == n) && (not k.going_on && nat_lt 0 credit)) ≡ takes_more (Some l) n
takes_is k l n credit is left =
    ap (λ (x : Link). (x.number == n) && (not x.going_on && nat_lt 0 credit)) is
    ∙ ap (λ b. (l.number == n) && (not l.going_on && b)) (ap (nat_lt 0) left ∙ credit_some l.happened)

drained_sends : (handle : ℕ) (h : Happened) → is_sending h ≡ true → Some (record { handle = handle; count = (count_on h + credit_on h) % 2 ^ 32; credit = 0; drain = true }) ≡ drained_by handle h
drained_sends handle (sends list) e = refl
drained_sends handle (receives list) e = absurd cc

abbrev told : ℕ → ℕ → Option LinkState
told handle n = Some (record { handle = handle; count = n; credit = 0; drain = true })

pub drained_is : (handle count credit told_count : ℕ) (h : Happened) → is_sending h ≡ true → count ≡ count_on h → credit ≡ credit_on h → told_count ≡ (count + credit) % 2 ^ 32
    → Some (record { handle = handle; count = told_count; credit = 0; drain = true }) ≡ drained_by handle h
drained_is handle count credit told_count h sending one two three =
    ap (told handle) (three ∙ ap (λ n. (n + credit) % 2 ^ 32) one ∙ ap (λ n. (count_on h + n) % 2 ^ 32) two) ∙ drained_sends handle h sending

pub drained_not : (handle : ℕ) (h : Happened) → is_sending h ≡ false → None ≡ drained_by handle h
drained_not handle (sends list) e = absurd cc
drained_not handle (receives list) e = refl
