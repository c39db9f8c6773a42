-- What a table knows of keys and numbers it still knows after an entry.
use Rattle.std.proofs.Common.{◌≡◌, ◌∙◌, ◌+◌, ◌≤◌, ℕ, Bool, true, false, refl, sym, ap, List, ◌∷◌, Option, Some, None}
use Rattle.std.specs.Prelude.{◌&&◌, ◌==◌, if◌then◌else◌, is_some}
use Rattle.std.specs.Ordering.{nat_cmp, is_eq}
use Rattle.std.specs.BTreeMap.{get}
use Rattle.amqp_model.specs.declared.perf.Attach.{Attach}
use Rattle.amqp_model.specs.declared.perf.Detach.{Detach}
use Rattle.amqp_model.specs.declared.perf.Perf.TheVariants as perf
use Rattle.amqp_model.specs.declared.item.Item.{Item}
use Rattle.amqp_model.specs.declared.item.Item.TheVariants as item
use Rattle.book_model.specs.declared.terminus.LinkKey.{LinkKey}
use Rattle.book_model.specs.Keys.{key_cmp}
use Rattle.router_trace.specs.declared.event.Event.{Event}
use Rattle.router_trace.specs.declared.handle.Attachment.{Attachment}
use Rattle.router_trace.specs.Trace.{Trace, Out, did}
use Rattle.router_trace.specs.Links.{Link, has_number, link, attached, asked, address_by, is_taken, attachments, key_at, is_attached, if_attached, last_of_key, numbered}
use Rattle.state_links.specs.declared.names.Names.{Names}
use Rattle.state_links.specs.Naming.{on_handle, IsThinned, Thinned, Remembers, NamesFit}
use Rattle.state_links.proofs.Numbered.{old_key, old_number, newest_same, did_stays, out_stays, attached_other, not_next}
use Rattle.state_collections.specs.NumberMap.{at_number}

-- From one trace to another, for the attachments of the first: an attachment that isn't attached stays so, and those that pass a test end.
pub record Going (t u : Trace) (gone : Attachment → Bool) : Type 0 where
  pub stays : (a : Attachment) → a.number ≤ attachments t → is_attached t a ≡ false → is_attached u a ≡ false
  pub goes : (a : Attachment) → a.number ≤ attachments t → gone a ≡ true → is_attached u a ≡ false

not_attached : (t : Trace) (a : Attachment) → is_attached t a ≡ false → if_attached t (Some a) ≡ None
not_attached t a e = rw e refl

was_not : (b : Bool) (a : Attachment) → (if b then Some a else None) ≡ None → b ≡ false
was_not true a e = absurd cc
was_not false a e = refl

remembered : (e last attached : Option Attachment) (a : Attachment) → e ≡ Some a → Remembers e last attached → last ≡ Some a
remembered None last attached a is r = absurd cc
remembered (Some b) last attached a is r = r ∙ is

forgotten : (t u : Trace) (gone : Attachment → Bool) (e last : Option Attachment) → Going t u gone
    → ((a : Attachment) → last ≡ Some a → a.number ≤ attachments t) → IsThinned gone e None → Remembers e last (if_attached t last) → if_attached u last ≡ None
forgotten t u gone e None going old thin r = refl
forgotten t u gone None (Some a) going old thin r = not_attached u a (going.stays a (old a refl) (was_not (is_attached t a) a r))
forgotten t u gone (Some b) (Some a) going old thin r = not_attached u a (going.goes a (old a refl) (passes a b r thin))
  where
    passes : (a b : Attachment) → Some a ≡ Some b → gone b ≡ true → gone a ≡ true
    passes a b x y = cc

kept : (t u : Trace) (gone : Attachment → Bool) (e f last : Option Attachment) → Going t u gone
    → ((a : Attachment) → last ≡ Some a → a.number ≤ attachments t) → IsThinned gone e f → Remembers e last (if_attached t last) → Remembers f last (if_attached u last)
kept t u gone e None last going old thin r = forgotten t u gone e last going old thin r
kept t u gone e (Some a) last going old thin r = remembered e last (if_attached t last) a thin r

-- after an event
pub names_heard : (x : Event) (t : Trace) (gone : Attachment → Bool) (old new : Names)
    → ((a : Attachment) → gone a ≡ true → is_attached (did x ∷ t) a ≡ false) → Thinned gone old new → NamesFit old t → NamesFit new (did x ∷ t)
names_heard x t gone old new goes thin fit =
    let going : Going t (did x ∷ t) gone = record { stays = λ a below e. did_stays x t a e; goes = λ a below e. goes a e } in
    record {
      keys = λ k. kept t (did x ∷ t) gone _ _ (last_of_key t k) going (old_key t k) (thin.keys k) (fit.keys k);
      numbers = λ n. kept t (did x ∷ t) gone _ _ (numbered t n) going (old_number t n) (thin.numbers n) (fit.numbers n);
    }

-- after an item that takes no link
going_out : (d : ℕ) (i : Item) (t : Trace) (gone : Attachment → Bool)
    → ((a : Attachment) → a.number ≤ attachments t → gone a ≡ true → is_attached (Out d i ∷ t) a ≡ false) → Going t (Out d i ∷ t) gone
going_out d i t gone goes = record { stays = λ a below e. out_stays d i t a below e; goes = goes }

same_last : (u : Trace) (f last now : Option Attachment) → now ≡ last → Remembers f last (if_attached u last) → Remembers f now (if_attached u now)
same_last u f last now e r = rw e r

pub names_put : (d : ℕ) (i : Item) (t : Trace) (gone : Attachment → Bool) (old new : Names) → is_taken i ≡ false
    → ((a : Attachment) → a.number ≤ attachments t → gone a ≡ true → is_attached (Out d i ∷ t) a ≡ false) → Thinned gone old new → NamesFit old t → NamesFit new (Out d i ∷ t)
names_put d i t gone old new untaken goes thin fit =
    let going = going_out d i t gone goes in
    record {
      keys = λ k. same_last (Out d i ∷ t) _ (last_of_key t k) _ (newest_same i d _ _ (last_of_key t k) untaken)
          (kept t (Out d i ∷ t) gone _ _ (last_of_key t k) going (old_key t k) (thin.keys k) (fit.keys k));
      numbers = λ n. same_last (Out d i ∷ t) _ (numbered t n) _ (newest_same i d _ _ (numbered t n) untaken)
          (kept t (Out d i ∷ t) gone _ _ (numbered t n) going (old_number t n) (thin.numbers n) (fit.numbers n));
    }

-- after an attach that takes a link
taken : (u : Trace) (addressed b : Bool) (f g last : Option Attachment) (a new : Attachment) → a ≡ new → addressed ≡ true → g ≡ (if b then Some a else f)
    → Remembers f last (if_attached u last) → Remembers g (if addressed && b then Some new else last) (if_attached u (if addressed && b then Some new else last))
taken u true true f g last a new is e x r = rw x (sym (ap Some is))
taken u true false f g last a new is e x r = rw x r
taken u false b f g last a new is e x r = absurd (no_address e)
  where
    no_address : false ≡ true → ⊥
    no_address x = cc

pub names_taken : (d own : ℕ) (sasl : Bool) (x : Attach) (payload : List ℕ) (t : Trace) (gone : Attachment → Bool) (old middle new : Names) (a : Attachment)
    → a ≡ record { number = attachments t + 1; conn = record { 0 = d }; channel = own; handle = x.handle }
    → is_some (address_by x.role x) ≡ true
    → ((b : Attachment) → b.number ≤ attachments t → gone b ≡ true → is_attached (Out d (item.Frame sasl own (perf.Attach x) payload) ∷ t) b ≡ false)
    → Thinned gone old middle
    → ((k : LinkKey) → get key_cmp new.keys.entries k ≡ (if is_eq (key_cmp (key_at t d x) k) then Some a else get key_cmp middle.keys.entries k))
    → ((n : ℕ) → at_number new.numbers.entries n ≡ (if a.number == n then Some a else at_number middle.numbers.entries n))
    → NamesFit old t → NamesFit new (Out d (item.Frame sasl own (perf.Attach x) payload) ∷ t)
names_taken d own sasl x payload t gone old middle new a is addressed goes thin keys numbers fit =
    let i : Item = item.Frame sasl own (perf.Attach x) payload in
    let u : Trace = Out d i ∷ t in
    let going = going_out d i t gone goes in
    record {
      keys = λ k. taken u (is_some (address_by x.role x)) (is_eq (key_cmp (key_at t d x) k)) _ _ (last_of_key t k) a _ is addressed (keys k)
          (kept t u gone _ _ (last_of_key t k) going (old_key t k) (thin.keys k) (fit.keys k));
      numbers = λ n. taken u (is_some (address_by x.role x)) (attachments t + 1 == n) _ _ (numbered t n) a _ is addressed (by_its_number n)
          (kept t u gone _ _ (numbered t n) going (old_number t n) (thin.numbers n) (fit.numbers n));
    }
  where
    number_of : (n : ℕ) → a.number ≡ attachments t + 1 → at_number new.numbers.entries n ≡ (if attachments t + 1 == n then Some a else at_number middle.numbers.entries n)
    number_of n e = numbers n ∙ ap (λ m. if m == n then Some a else at_number middle.numbers.entries n) e

    number : Attachment → ℕ
    number b = b.number

    by_its_number : (n : ℕ) → at_number new.numbers.entries n ≡ (if attachments t + 1 == n then Some a else at_number middle.numbers.entries n)
    by_its_number n = number_of n (ap number is)

-- the link that was where an attach is now has ended
place_gone : (here own handle : Bool) (n : ℕ) (m v : Option Link) → (here && (own && handle)) ≡ true → has_number n m ≡ false
    → has_number n (if here then (if own && handle then m else v) else v) ≡ false
place_gone true own handle n m v e new = rw e new
place_gone false own handle n m v e new = absurd (wrong e)
  where
    wrong : false ≡ true → ⊥
    wrong e = cc

pub attach_goes : (d own : ℕ) (sasl : Bool) (x : Attach) (payload : List ℕ) (t : Trace) (b : Attachment) → b.number ≤ attachments t → on_handle d own x.handle b ≡ true
    → is_attached (Out d (item.Frame sasl own (perf.Attach x) payload) ∷ t) b ≡ false
attach_goes d own sasl x payload t b below e =
    place_gone (d == b.conn.0) (own == b.channel) (x.handle == b.handle) b.number _ (link t b.conn.0 b.channel b.handle) e
    (attached_other b.number (attachments t + 1) (key_at t b.conn.0 x) x (asked t b.conn.0) (address_by x.role x) (not_next (attachments t) b.number below))

pub detach_goes : (d own : ℕ) (sasl : Bool) (x : Detach) (payload : List ℕ) (t : Trace) (b : Attachment) → b.number ≤ attachments t → on_handle d own x.handle b ≡ true
    → is_attached (Out d (item.Frame sasl own (perf.Detach x) payload) ∷ t) b ≡ false
detach_goes d own sasl x payload t b below e =
    place_gone (d == b.conn.0) (own == b.channel) (x.handle == b.handle) b.number None (link t b.conn.0 b.channel b.handle) e refl
