-- A link with a number is where the attachment with that number is.
use Rattle.std.proofs.Common.{◌≡◌, ◌∙◌, ◌+◌, ◌≤◌, ℕ, Bool, true, false, refl, sym, ap, List, [], ◌∷◌, Option, Some, None, arith}
use Rattle.std.specs.Prelude.{◌&&◌, ◌==◌, if◌then◌else◌, is_some}
use Rattle.std.proofs.lemmas.Bool.{eqb-true}
use Rattle.amqp_model.specs.declared.perf.Attach.{Attach}
use Rattle.amqp_model.specs.declared.perf.Perf.{Perf}
use Rattle.amqp_model.specs.declared.perf.Perf.TheVariants as perf
use Rattle.amqp_model.specs.declared.item.Item.{Item}
use Rattle.amqp_model.specs.declared.item.Item.TheVariants as item
use Rattle.book_model.specs.declared.terminus.LinkKey.{LinkKey}
use Rattle.router_trace.specs.declared.handle.Asked.{Asked}
use Rattle.router_trace.specs.declared.handle.Attachment.{Attachment}
use Rattle.router_trace.specs.Trace.{Trace, Did, Out, Took, Bound, Booked, Routed, Began}
use Rattle.router_trace.specs.Sessions.{theirs}
use Rattle.router_trace.specs.Links.{Link, address_by, attachments, attached, asked, key_at, link, link_in, link_after, their_handle, is_handle, ends_handle_in, has_number, if_attached, newest_in, newest_by, numbered, place_of, after_our_flow, after_our_transfer}
use Rattle.router_trace.specs.Following.{is_sending, owes_one}
use Rattle.state_links.specs.Fits.{attachment}
use Rattle.state_links.proofs.Numbered.{old_number, number_if, number_map, event_stays, after_stays}

contra : (a b : Bool) → (a ≡ false → b ≡ false) → b ≡ true → a ≡ true
contra true b f e = refl
contra false b f e = absurd (wrong (sym (f refl) ∙ e))
  where
    wrong : false ≡ true → ⊥
    wrong e = cc

both_ways : {P : Type 0} (b : Bool) → b ≡ false → b ≡ true → P
both_ways true f e = absurd cc
both_ways false f e = absurd cc

newest_other_in : (body : Perf) (own c m : ℕ) (new : Bool) (v : Option Attachment) → new ≡ false → newest_in body own c m (λ a. new) v ≡ v
newest_other_in (perf.Attach a) own c m new v e = ap (λ b. if is_some (address_by a.role a) && b then Some (attachment m c own a.handle) else v) e ∙ either (is_some (address_by a.role a))
  where
    either : (b : Bool) → (if b && false then Some (attachment m c own a.handle) else v) ≡ v
    either true = refl
    either false = refl
newest_other_in _ own c m new v e = refl

newest_other : (i : Item) (c m : ℕ) (new : Bool) (v : Option Attachment) → new ≡ false → newest_by i c m (λ a. new) v ≡ v
newest_other (item.Frame sasl own body payload) c m new v e = newest_other_in body own c m new v e
newest_other _ c m new v e = refl

-- a number that comes up with an item is that of its attach
by_address : (n m c own o handle h : ℕ) (key : LinkKey) (a : Attach) (last : Option Asked) (address : Option (List ℕ)) (new : Bool) (w : Option Attachment)
    → new ≡ true → own ≡ o → handle ≡ h → has_number n (attached m key a last address) ≡ true
    → (if is_some address && new then Some (attachment m c own handle) else w) ≡ Some (attachment m c o h)
by_address n m c own o handle h key a last None new w pass same_own same_handle e = absurd cc
by_address n m c own o handle h key a last (Some text) new w pass same_own same_handle e =
    ap (λ b. if b then Some (attachment m c own handle) else w) pass ∙ ap (λ k. Some (attachment m c k handle)) same_own ∙ ap (λ k. Some (attachment m c o k)) same_handle

at_attach : (own_same handle_same : Bool) (n m c own o h : ℕ) (key : LinkKey) (a : Attach) (last : Option Asked) (v : Option Link) (new : Bool) (w : Option Attachment)
    → (own == o) ≡ own_same → (a.handle == h) ≡ handle_same → new ≡ true → has_number n v ≡ false
    → has_number n (if own_same && handle_same then attached m key a last (address_by a.role a) else v) ≡ true
    → (if is_some (address_by a.role a) && new then Some (attachment m c own a.handle) else w) ≡ Some (attachment m c o h)
at_attach true true n m c own o h key a last v new w so sh pass un e =
    by_address n m c own o a.handle h key a last (address_by a.role a) new w pass (eqb-true own o so) (eqb-true a.handle h sh) e
at_attach true false n m c own o h key a last v new w so sh pass un e = both_ways (has_number n v) un e
at_attach false handle_same n m c own o h key a last v new w so sh pass un e = both_ways (has_number n v) un e

fresh_in : (body : Perf) (n m c own o h : ℕ) (key : Attach → LinkKey) (last : Option Asked) (v : Option Link) (new : Bool) (w : Option Attachment)
    → new ≡ true → has_number n v ≡ false → has_number n (link_in body own o h m key last v) ≡ true → newest_in body own c m (λ a. new) w ≡ Some (attachment m c o h)
fresh_in (perf.Attach a) n m c own o h key last v new w pass un e = at_attach (own == o) (a.handle == h) n m c own o h (key a) a last v new w refl refl pass un e
fresh_in (perf.Flow f) n m c own o h key last v new w pass un e =
    both_ways _ (number_if n ((own == o) && is_handle f.handle h) _ _ (number_map n (after_our_flow f) (λ l. refl) v un) un) e
fresh_in (perf.Transfer x) n m c own o h key last v new w pass un e =
    both_ways _ (number_if n ((own == o) && (x.handle == h)) _ _ (number_map n (after_our_transfer x) (λ l. refl) v un) un) e
fresh_in body n m c own o h key last v new w pass un e = both_ways _ (number_if n (ends_handle_in body own o h) None v refl un) e

fresh_by : (i : Item) (n m c o h : ℕ) (key : Attach → LinkKey) (last : Option Asked) (v : Option Link) (new : Bool) (w : Option Attachment)
    → new ≡ true → has_number n v ≡ false → has_number n (link_after i o h m key last v) ≡ true → newest_by i c m (λ a. new) w ≡ Some (attachment m c o h)
fresh_by (item.Frame sasl own body payload) n m c o h key last v new w pass un e = fresh_in body n m c own o h key last v new w pass un e
fresh_by _ n m c o h key last v new w pass un e = both_ways _ un e

fresh_at : (here : Bool) (i : Item) (n m d c o h : ℕ) (key : Attach → LinkKey) (last : Option Asked) (v : Option Link) (new : Bool) (w : Option Attachment)
    → (d == c) ≡ here → new ≡ true → m ≡ n → has_number n v ≡ false → has_number n (if here then link_after i o h m key last v else v) ≡ true
    → newest_by i d m (λ a. new) w ≡ Some (attachment n c o h)
fresh_at true i n m d c o h key last v new w same pass is un e =
    fresh_by i n m d o h key last v new w pass un e ∙ ap (λ k. Some (attachment m k o h)) (eqb-true d c same) ∙ ap (λ k. Some (attachment k c o h)) is
fresh_at false i n m d c o h key last v new w same pass is un e = both_ways _ un e

later : (n m : ℕ) → n ≤ m → m + 1 ≡ n → ⊥
later n m below e = omega (arith, below, e)

pub stands_where : (t : Trace) (c o h n : ℕ) → has_number n (link t c o h) ≡ true → numbered t n ≡ Some (attachment n c o h)
stands_where [] c o h n e = absurd cc
stands_where (Did s ∷ t) c o h n e =
    stands_where t c o h n (contra (has_number n (link t c o h)) _ (event_stays n s.event c o h (theirs t c) (their_handle t c o) (link t c o h)) e)
stands_where (Took d k ∷ t) c o h n e = stands_where t c o h n e
stands_where (Bound b ∷ t) c o h n e = stands_where t c o h n e
stands_where (Booked acts full ∷ t) c o h n e = stands_where t c o h n e
stands_where (Routed passage ∷ t) c o h n e = stands_where t c o h n e
stands_where (Began g ∷ t) c o h n e = absurd cc
stands_where (Out d i ∷ t) c o h n e = by_new (attachments t + 1 == n) refl (stands_where t c o h n)
  where
    by_old : (b : Bool) → (attachments t + 1 == n) ≡ true → has_number n (link t c o h) ≡ b → (has_number n (link t c o h) ≡ true → numbered t n ≡ Some (attachment n c o h))
        → newest_by i d (attachments t + 1) (λ a. attachments t + 1 == n) (numbered t n) ≡ Some (attachment n c o h)
    by_old true new old before = absurd (later n (attachments t) (old_number t n (attachment n c o h) (before old)) (eqb-true (attachments t + 1) n new))
    by_old false new old before = fresh_at (d == c) i n (attachments t + 1) d c o h (key_at t c) (asked t c) (link t c o h) (attachments t + 1 == n) (numbered t n) refl new
        (eqb-true (attachments t + 1) n new) old e

    by_new : (b : Bool) → (attachments t + 1 == n) ≡ b → (has_number n (link t c o h) ≡ true → numbered t n ≡ Some (attachment n c o h))
        → newest_by i d (attachments t + 1) (λ a. attachments t + 1 == n) (numbered t n) ≡ Some (attachment n c o h)
    by_new true new before = by_old (has_number n (link t c o h)) new refl before
    by_new false new before =
        newest_other i d (attachments t + 1) (attachments t + 1 == n) (numbered t n) new
        ∙ before (contra (has_number n (link t c o h)) _ (λ f. number_if n (d == c) _ _ (after_stays n i o h (attachments t + 1) (key_at t c) (asked t c) (link t c o h) new f) f) e)

numbered_if_owing : (v : Option Link) (n : ℕ) → owes_one v n ≡ true → has_number n v ≡ true
numbered_if_owing None n e = e
numbered_if_owing (Some l) n e = first (l.number == n) (l.owes_drain && is_sending l.happened) e
  where
    first : (a b : Bool) → (a && b) ≡ true → a ≡ true
    first true b e = refl
    first false b e = e

pub owing_stands : (t : Trace) (a : Attachment) → owes_one (link t a.conn.0 a.channel a.handle) a.number ≡ true → place_of t a.number ≡ Some a
owing_stands t a e =
    let there = numbered_if_owing (link t a.conn.0 a.channel a.handle) a.number e in
    ap (if_attached t) (stands_where t a.conn.0 a.channel a.handle a.number there) ∙ ap (λ b. if b then Some a else None) there
