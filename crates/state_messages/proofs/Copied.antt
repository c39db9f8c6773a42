-- The consumers of copies are where their numbers say, and one that gets a copy is noted as the last one chosen.
use Rattle.std.proofs.Common.{◌≡◌, ◌∙◌, ◌+◌, ◌<◌, ◌≤◌, ℕ, Bool, true, false, refl, sym, ap, Option, Some, None, List, [], ◌∷◌, ◌++◌, drop, length, get_or, map}
use Rattle.std.specs.Prelude.{◌&&◌, filter, if◌then◌else◌, is_some, nat_lt, option_map}
use Rattle.std.specs.Str.{bytes_eq}
use Rattle.std.specs.Map.{keys_of}
use Rattle.std.proofs.lemmas.Bool.{eqb-true}
use Rattle.std.proofs.lemmas.List.{at_drop_all, at_drop_more}
use Rattle.route_credit.specs.Pool.{copies, copies_by}
use Rattle.route_credit.specs.declared.ids.ConsumerId.{ConsumerId}
use Rattle.route_credit.specs.declared.offer.Offer.{Offer}
use Rattle.route_table.specs.declared.sections.Distribution.{Distribution}
use Rattle.route_table.specs.declared.sections.Distribution.TheVariants.{Balanced, Closest, Multicast}
use Rattle.router_trace.specs.declared.handle.Attachment.{Attachment}
use Rattle.router_trace.specs.Configuration.{distribution}
use Rattle.router_trace.specs.Trace.{Trace}
use Rattle.router_trace.specs.Links as view
use Rattle.router_trace.specs.Links.{attachments, has_number, is_attached, numbered, place_of}
use Rattle.router_trace.specs.Following.{link_of}
use Rattle.state_links.specs.Ends.{link_of as link_of_view}
use Rattle.state_pools.specs.Fits.{chosen_at}
use Rattle.state_pools.specs.Sharing.{address_in, offer_at}
use Rattle.state_messages.specs.Asking.{standing}
use Rattle.state_messages.specs.Figures.{figure}
use Rattle.state_messages.specs.Messages.{copies_at, copies_for, is_of, is_there, last_after, last_chosen, places_of, pool_of}
use Rattle.state_messages.proofs.Chosen.{by_number, chosen_place}
use Rattle.state_messages.proofs.Granted.{Pass, listed_pass}
use Rattle.state_messages.proofs.Seen.{address_on}

-- consumers that offer something are at their places
places_same : (t : Trace) (address : List ℕ) (links : List (ℕ × Offer)) → Pass (λ n. is_some (offer_at address (figure t n))) links
    → standing t (keys_of (filter (λ consumer. nat_lt 0 consumer.1.free) links)) ≡ places_of t (keys_of (filter (λ consumer. nat_lt 0 consumer.1.free) links))
places_same t address [] all = refl
places_same t address (l ∷ ls) all = by_free (nat_lt 0 l.1.free) (places_same t address ls all.1)
  where
    by_free : (b : Bool) → standing t (keys_of (filter (λ consumer. nat_lt 0 consumer.1.free) ls)) ≡ places_of t (keys_of (filter (λ consumer. nat_lt 0 consumer.1.free) ls))
        → standing t (keys_of (if b then l ∷ filter (λ consumer. nat_lt 0 consumer.1.free) ls else filter (λ consumer. nat_lt 0 consumer.1.free) ls))
        ≡ places_of t (keys_of (if b then l ∷ filter (λ consumer. nat_lt 0 consumer.1.free) ls else filter (λ consumer. nat_lt 0 consumer.1.free) ls))
    by_free true more =
        ap (λ v. is_there v ++ standing t (keys_of (filter (λ consumer. nat_lt 0 consumer.1.free) ls))) (chosen_place t address l.0 (by_number t address l.0 (numbered t l.0) refl all.0))
        ∙ ap (λ others. is_there (numbered t l.0) ++ others) more
    by_free false more = more

copies_stand : (t : Trace) (address : List ℕ) (d : Distribution) (links : List (ℕ × Offer)) → Pass (λ n. is_some (offer_at address (figure t n))) links
    → standing t (copies_by d links) ≡ places_of t (copies_by d links)
copies_stand t address Balanced links all = refl
copies_stand t address Closest links all = refl
copies_stand t address Multicast links all = places_same t address links all

pub copies_are : (t : Trace) (address numbers : List ℕ) → numbers ≡ copies (pool_of t address) → standing t numbers ≡ places_of t (copies_at t address)
unfolding copies_at
copies_are t address numbers is =
    ap (standing t) is
    ∙ copies_stand t address (distribution t address) (pool_of t address).consumers (listed_pass (λ n. offer_at address (figure t n)) (attachments t))

-- places added one after another
joined : (xs ys zs : List Attachment) → (xs ++ ys) ++ zs ≡ xs ++ (ys ++ zs)
joined [] ys zs = refl
joined (x ∷ xs) ys zs = ap (λ ws. x ∷ ws) (joined xs ys zs)

nothing_after : (xs : List Attachment) → xs ++ [] ≡ xs
nothing_after [] = refl
nothing_after (x ∷ xs) = ap (λ ws. x ∷ ws) (nothing_after xs)

pub one_standing : (places : List Attachment) (v : Option Attachment) → v ≡ None → places ≡ places ++ is_there v
one_standing places v e = sym (ap (λ w. places ++ is_there w) e ∙ nothing_after places)

abbrev pub ids : List ConsumerId → List ℕ
ids consumers = map (λ c. c.0) consumers

pub places_more : (t : Trace) (consumers : List ConsumerId) (i : ℕ) (d : ConsumerId) (old new all : List Attachment) → i < length consumers
    → new ≡ old ++ is_there (place_of t (get_or consumers i d).0)
    → old ++ standing t (ids (drop i consumers)) ≡ all → new ++ standing t (ids (drop (i + 1) consumers)) ≡ all
places_more t consumers i d old new all below is before =
    ap (λ xs. xs ++ standing t (ids (drop (i + 1) consumers))) is
    ∙ joined old (is_there (place_of t (get_or consumers i d).0)) (standing t (ids (drop (i + 1) consumers)))
    ∙ sym (at_drop_more (λ ys. old ++ standing t (ids ys)) consumers i d below)
    ∙ before

pub places_all : (t : Trace) (consumers : List ConsumerId) (i : ℕ) (old all : List Attachment) → length consumers ≤ i
    → old ++ standing t (ids (drop i consumers)) ≡ all → old ≡ all
places_all t consumers i old all over before =
    sym (nothing_after old) ∙ sym (at_drop_all (λ ys. old ++ standing t (ids ys)) consumers i over) ∙ before

-- no link, no copies
pub copies_nowhere : (t : Trace) (v : Option view.Link) → None ≡ option_map link_of_view v → [] ≡ copies_for t v
copies_nowhere t None e = refl
copies_nowhere t (Some l) e = absurd cc

-- a consumer whose link is gone isn't noted
pub gone_last : (t : Trace) (a : Attachment) → is_attached t a ≡ false → (address : List ℕ) → last_after t (Some a) address ≡ last_chosen t address
gone_last t a e address = by_link (link_of t a) e
  where
    by_link : (v : Option view.Link) → has_number a.number v ≡ false → (if is_of address v a.number then a.number else last_chosen t address) ≡ last_chosen t address
    by_link None gone = refl
    by_link (Some l) gone = ap (λ b. if b && bytes_eq l.address address then a.number else last_chosen t address) gone

-- one that stands is, at its address
pub record IsNoted (t : Trace) (a : Attachment) : Type 0 where
  pub address : List ℕ
  pub there : address_in (figure t a.number) ≡ Some address
  pub noted : (other : List ℕ) → last_after t (Some a) other ≡ chosen_at address (Some a.number) (last_chosen t) other

pub stands_noted : (t : Trace) (a : Attachment) → is_attached t a ≡ true → IsNoted t a
stands_noted t a e = by_link (link_of t a) refl e
  where
    by_link : (v : Option view.Link) → link_of t a ≡ v → has_number a.number v ≡ true → IsNoted t a
    by_link None is e = absurd cc
    by_link (Some l) is e = record {
      address = l.address;
      there = ap (λ n. address_in (figure t n)) (sym (eqb-true l.number a.number e))
          ∙ address_on t a.conn.0 a.channel a.handle (link_of_view l) (record { link = l; is = is; number = refl });
      noted = λ other.
          ap (λ v. if is_of other v a.number then a.number else last_chosen t other) is
          ∙ ap (λ b. if b && bytes_eq l.address other then a.number else last_chosen t other) e;
    }
