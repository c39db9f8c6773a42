-- What the pools know of the links, after a change of the tables.
use Rattle.std.proofs.Common.{◌≡◌, ◌∙◌, ◌+◌, ◌<◌, ◌≤◌, ◌⊎◌, inl, inr, ⊎_elim, ℕ, zero, suc, Bool, true, false, refl, sym, ap, subst, Option, Some, None, List, ◌∷◌, arith}
use Rattle.std.specs.Prelude.{◌==◌, ◌&&◌, if◌then◌else◌, is_none, option_map}
use Rattle.std.specs.BTreeMap.{get}
use Rattle.std.proofs.lemmas.Bool.{eq-eqb}
use Rattle.amqp_model.specs.declared.item.Item.{Item}
use Rattle.amqp_model.specs.declared.item.Item.TheVariants as item
use Rattle.book_model.specs.declared.row.RowNumber.{RowNumber}
use Rattle.book_model.specs.Keys.{key_cmp}
use Rattle.router_trace.specs.declared.event.Event.{Event}
use Rattle.router_trace.specs.declared.handle.Attachment.{Attachment}
use Rattle.router_trace.specs.Configuration.{distribution}
use Rattle.router_trace.specs.Links.{attachments, if_attached, last_of_key, numbered}
use Rattle.router_trace.specs.Trace.{Trace, Out, Bound, did}
use Rattle.router_trace.specs.declared.binding.Binding.{Binding}
use Rattle.router_trace.specs.declared.binding.Origin.{Origin}
use Rattle.router_trace.specs.declared.binding.BindingKind.TheVariants as kind
use Rattle.router_trace.specs.declared.binding.Resumed.{Resumed}
use Rattle.router_trace.specs.declared.binding.TakenUp.{TakenUp}
use Rattle.router_trace.specs.Numbers.{count_below}
use Rattle.router_trace.specs.Following.{link_of}
use Rattle.router_trace.specs.Deliveries.{Delivery, called, is_message, holds_standing, origin_in, told_in, early_in, owned_in, bindings, delivery, waits_on, undecided_on, held_from}
use Rattle.router_trace.specs.declared.binding.DeliveryName.TheVariants.{Row}
use Rattle.state_deliveries.specs.declared.deliveries.Deliveries.{Deliveries}
use Rattle.state_unsettled.specs.Incoming.{IncomingFit}
use Rattle.state_deliveries.specs.Finding.{count_deliveries}
use Rattle.router_trace.specs.Channels.{channel_of as of_deliveries}
use Rattle.state_deliveries.specs.Fits.{DeliveriesFit}
use Rattle.state_deliveries.specs.Touching as deliveries
use Rattle.state_deliveries.proofs.Numbers.{none_beyond}
use Rattle.state_links.specs.declared.links.Links.{Links}
use Rattle.state_links.specs.Fits.{LinksFit, channel_of as of_links}
use Rattle.state_links.specs.Naming.{Remembers}
use Rattle.state_links.specs.Touching as links
use Rattle.route_table.specs.declared.sections.Distribution.{Distribution}
use Rattle.state_pools.specs.declared.pools.Pools.{Pools}
use Rattle.state_pools.specs.Fits.{HasNoted, offers, pool_at, PoolsFit}
use Rattle.state_pools.specs.Sharing.{Figure, demand_at, offer_at}
use Rattle.state_messages.specs.declared.messages.Messages.{Messages}
use Rattle.state_messages.specs.Figures.{figure}
use Rattle.state_messages.specs.Fits.{IsTold, NotedFit, MessagesFit, PoolsKnow, Untouched}
use Rattle.state_messages.specs.Messages.{is_of, binding_to, taken_up_by, last_after, last_chosen, lasts, payload_as, with_bound}
use Rattle.state_messages.proofs.Rising.{Rises, entry_counts, entry_rises}
use Rattle.state_messages.proofs.Seen.{by_test, figure_same}
use Rattle.state_collections.specs.NumberMap.{at_number}

-- a consumer stood where it stands now, or its number is above the one chosen last there
abbrev pub Later : (ℕ → Option Figure) → (ℕ → Option Figure) → (List ℕ → ℕ) → Type 0
Later actual really last = (n : ℕ) (a : List ℕ) → offers (really n) a ≡ true → (offers (actual n) a ≡ true) ⊎ (last a < n)

-- Equal functions serve the pools as well, and links that are gone or have come since.
pub exchanged : (s : Pools) (share shares : List ℕ → Distribution) (known other actual really : ℕ → Option Figure) (last now : List ℕ → ℕ) → ((a : List ℕ) → shares a ≡ share a)
    → ((n : ℕ) → other n ≡ known n) → Later actual really last → ((a : List ℕ) → now a ≡ last a) → PoolsFit s share known actual last → PoolsFit s shares other really now
exchanged s share shares known other actual really last now alike same come chosen fits = record {
  consumers = λ n a is. fits.consumers n a is ∙ ap (offer_at a) (sym (same n));
  producers = λ n a is. fits.producers n a is ∙ ap (demand_at a) (sym (same n));
  no_consumer = fits.no_consumer;
  no_producer = fits.no_producer;
  seated = fits.seated;
  same = λ a. fits.same a ∙ sym (alike a);
  distribution = λ a. fits.distribution a ∙ sym (alike a);
  chosen = λ a. subst (λ k. HasNoted (pool_at s a) k) (sym (chosen a)) (fits.chosen a);
  later = λ n a none comes. subst (λ k. k < n) (sym (chosen a)) (⊎_elim (λ e. fits.later n a none e) (λ above. above) (come n a comes));
  consumers_rise = fits.consumers_rise;
  producers_rise = fits.producers_rise;
  quiet = fits.quiet;
}

-- once they were told of all links, the pools know all
pub all_known : (s : Messages) (t : Trace) (last : List ℕ → ℕ) → Untouched s → PoolsKnow s t last → PoolsFit s.pools (distribution t) (figure t) (figure t) last
all_known s t last none know = exchanged s.pools (distribution t) (distribution t) know.known (figure t) (figure t) (figure t) last last (λ a. refl) (λ n. sym (know.same n (none.links n) (none.deliveries n))) (λ n a e. inl e) (λ a. refl) know.fits

-- Equal tests have equal counts of deliveries.
pub count_alike : (b : ℕ) (p q : ℕ → Bool) → ((n : ℕ) → p n ≡ q n) → count_below b p ≡ count_below b q
unfolding count_below
count_alike zero p q same = refl
count_alike (suc b) p q same = ap (λ k. k + (if p b then 1 else 0)) (count_alike b p q same) ∙ ap (λ v. count_below b q + (if v then 1 else 0)) (same b)

more : (b : ℕ) (q : ℕ → Bool) → q b ≡ false → count_below b q ≡ count_below (b + 1) q
unfolding count_below
more b q none = let next : b + 1 ≡ suc b = omega arith in
    right (count_below b q) ∙ ap (λ v. count_below b q + (if v then 1 else 0)) (sym none) ∙ ap (λ k. count_below k q) (sym next)
  where
    right : (k : ℕ) → k ≡ k + 0
    right k = omega arith

-- both traces have the same count if each number passes in both or in neither
abbrev pub CountSame : Trace → Trace → Type 0
CountSame t w = (p : Option Delivery → Bool) → p None ≡ false → ((n : ℕ) → p (delivery t n) ≡ p (delivery w n)) → count_deliveries t p ≡ count_deliveries w p

-- what any step to another trace leaves: such counts, and numbers that only rise
pub record IsStep (t w : Trace) : Type 0 where
  pub counts : CountSame t w
  pub rises : Rises t w
  pub attached : attachments t ≤ attachments w

pub bound_counts : (b : Binding) (t : Trace) → IsStep t (Bound b ∷ t)
bound_counts b t = record {
  counts = λ p none same.
      count_alike (bindings t + 1) (λ n. p (delivery t n)) (λ n. p (delivery (Bound b ∷ t) n)) same
      ∙ one_more (is_none (holds_standing b.kind)) (λ n. p (delivery (Bound b ∷ t) n)) (sym (same (bindings t + 1)) ∙ ap p (none_beyond t (bindings t + 1) (omega arith)) ∙ none);
  rises = entry_rises (Bound b) t;
  attached = entry_counts (Bound b) t refl;
}
  where
    -- a binding may get a number
    one_more : (new : Bool) (q : ℕ → Bool) → q (bindings t + 1) ≡ false → count_below (bindings t + 1) q ≡ count_below ((if new then bindings t + 1 else bindings t) + 1) q
    one_more true q none = more (bindings t + 1) q none
    one_more false q none = refl

-- A link that neither table has touched has the same figure in both.
pub figures_same : (s u : Links) (d e : Deliveries) (t w : Trace) → LinksFit s t → LinksFit u w → DeliveriesFit d t → DeliveriesFit e w
    → links.Touches s u → deliveries.Touches d e → CountSame t w → ((a : List ℕ) → distribution w a ≡ distribution t a)
    → (n : ℕ) → links.is_touched u n ≡ false → deliveries.is_touched e n ≡ false → figure t n ≡ figure w n
figures_same s u d e t w fit fit' stand stand' one other counts shared n quiet silent =
    figure_same s u t w n fit fit' (one.numbers n quiet) (one.links n quiet) shared
    (counts (waits_on n) refl (λ m. ap (waits_on n) (sym (stand.store.deliveries m)) ∙ (other.same n m silent).waits ∙ ap (waits_on n) (stand'.store.deliveries m)))
    (counts (undecided_on n) refl (λ m. ap (undecided_on n) (sym (stand.store.deliveries m)) ∙ (other.same n m silent).undecided ∙ ap (undecided_on n) (stand'.store.deliveries m)))
    (counts (held_from n) refl (λ m. ap (held_from n) (sym (stand.store.deliveries m)) ∙ (other.same n m silent).held ∙ ap (held_from n) (stand'.store.deliveries m)))

-- So what the pools know stays true after any change that touches the links that it changes.
pub knows_still : (s u : Messages) (t w : Trace) (last now : List ℕ → ℕ) → u.pools ≡ s.pools → LinksFit s.links t → LinksFit u.links w → DeliveriesFit s.deliveries t → DeliveriesFit u.deliveries w
    → links.Touches s.links u.links → deliveries.Touches s.deliveries u.deliveries → IsStep t w
    → ((a : List ℕ) → distribution w a ≡ distribution t a) → ((a : List ℕ) → now a ≡ last a) → PoolsKnow s t last → PoolsKnow u w now
knows_still s u t w last now pools fit fit' stand stand' one other step alike chosen know = record {
  known = know.known;
  fits = subst (λ p. PoolsFit p (distribution w) know.known (figure w) now) (sym pools)
      (exchanged s.pools (distribution t) (distribution w) know.known know.known (figure t) (figure w) last now alike (λ n. refl) come chosen know.fits);
  same = λ n quiet silent. know.same n (one.before n quiet) (other.before n silent)
      ∙ figures_same s.links u.links s.deliveries u.deliveries t w fit fit' stand stand' one other step.counts alike n quiet silent;
  below = λ a.
      let is : now a ≡ last a = chosen a in
      let low : last a ≤ attachments t = know.below a in
      let more : attachments t ≤ attachments w = step.attached in
      let g : now a ≤ attachments w = omega (arith, is, low, more) in g;
}
  where
    come : Later (figure t) (figure w) last
    come n a e = ⊎_elim (λ old. inl old) (λ above. inr (over n a above (know.below a))) (step.rises n a e)
      where
        over : (n : ℕ) (a : List ℕ) → attachments t < n → last a ≤ attachments t → last a < n
        over n a above low = omega (arith, above, low)

-- After the pools were told what a link has, its number is forgotten.
pub knows_told : (s u : Messages) (t : Trace) (last : List ℕ → ℕ) (n : ℕ) → IsTold (distribution t) s.pools u.pools n (figure t n)
    → ((k : ℕ) → links.is_touched u.links k ≡ (if n == k then false else links.is_touched s.links k))
    → ((k : ℕ) → deliveries.is_touched u.deliveries k ≡ (if n == k then false else deliveries.is_touched s.deliveries k))
    → PoolsKnow s t last → PoolsKnow u t last
knows_told s u t last n told quiet silent know = record {
  known = other;
  fits = told know.known other (figure t) last know.fits here (sym here) (λ k e. ap (λ b. if b then figure t k else know.known k) e);
  same = λ k e f. by_test (n == k)
      (λ is. ap (λ b. if b then figure t k else know.known k) is)
      (λ is. ap (λ b. if b then figure t k else know.known k) is
      ∙ know.same k (sym (quiet k ∙ ap (λ b. if b then false else links.is_touched s.links k) is) ∙ e) (sym (silent k ∙ ap (λ b. if b then false else deliveries.is_touched s.deliveries k) is) ∙ f));
  below = know.below;
}
  where
    other : ℕ → Option Figure
    other k = if n == k then figure t k else know.known k

    here : other n ≡ figure t n
    here = ap (λ b. if b then figure t n else know.known n) (eq-eqb n n refl)

pub put_counts : (d : ℕ) (i : Item) (t : Trace) → IsStep t (Out d i ∷ t)
put_counts d i t = record {
  counts = λ p none same. count_alike (bindings t + 1) (λ n. p (delivery t n)) (λ n. p (delivery (Out d i ∷ t) n)) same;
  rises = entry_rises (Out d i) t;
  attached = entry_counts (Out d i) t refl;
}

pub did_counts : (x : Event) (t : Trace) → IsStep t (did x ∷ t)
did_counts x t = record {
  counts = λ p none same. count_alike (bindings t + 1) (λ n. p (delivery t n)) (λ n. p (delivery (did x ∷ t) n)) same;
  rises = entry_rises (did x) t;
  attached = entry_counts (did x) t refl;
}

-- All tables after such a change.
pub moved : (s u : Messages) (t w : Trace) (last now : List ℕ → ℕ) → u.pools ≡ s.pools → LinksFit u.links w → DeliveriesFit u.deliveries w → IncomingFit u.incoming w
    → links.Touches s.links u.links → deliveries.Touches s.deliveries u.deliveries → IsStep t w
    → ((a : List ℕ) → distribution w a ≡ distribution t a) → ((a : List ℕ) → now a ≡ last a) → NotedFit s t last → NotedFit u w now
moved s u t w last now pools fit stand claimed one other step alike chosen old = record {
  links = fit;
  deliveries = stand;
  incoming = claimed;
  pools = knows_still s u t w last now pools old.links fit old.deliveries stand one other step alike chosen old.pools;
}

-- After the pools were told.
pub told_fits : (s u : Messages) (t : Trace) (n : ℕ) → LinksFit u.links t → DeliveriesFit u.deliveries t → u.incoming ≡ s.incoming → IsTold (distribution t) s.pools u.pools n (figure t n)
    → ((k : ℕ) → links.is_touched u.links k ≡ (if n == k then false else links.is_touched s.links k))
    → ((k : ℕ) → deliveries.is_touched u.deliveries k ≡ (if n == k then false else deliveries.is_touched s.deliveries k))
    → MessagesFit s t → MessagesFit u t
told_fits s u t n fit stand claimed told quiet silent old = record {
  links = fit;
  deliveries = stand;
  incoming = subst (λ c. IncomingFit c t) (sym claimed) old.incoming;
  pools = knows_told s u t (last_chosen t) n told quiet silent old.pools;
}

-- A table of links is the same after a binding and after a take, and so are claims.
pub links_bound : (s : Links) (b : Binding) (t : Trace) → LinksFit s t → LinksFit s (Bound b ∷ t)
links_bound s b t fit = record {
  handles = record { asked = fit.handles.asked; told = fit.handles.told; highest = fit.handles.highest; answered = fit.handles.answered; theirs = fit.handles.theirs };
  table = record {
    links = fit.table.links;
    count = fit.table.count;
    names = record { keys = λ k. remembers (get key_cmp s.table.names.keys.entries k) (last_of_key t k) (fit.table.names.keys k); numbers = λ n. remembers (at_number s.table.names.numbers.entries n) (numbered t n) (fit.table.names.numbers n) };
    owing = fit.table.owing;
  };
}
  where
    attached_same : (v : Option Attachment) → if_attached t v ≡ if_attached (Bound b ∷ t) v
    attached_same None = refl
    attached_same (Some a) = refl

    remembers : (v w : Option Attachment) → Remembers v w (if_attached t w) → Remembers v w (if_attached (Bound b ∷ t) w)
    remembers None w e = sym (attached_same w) ∙ e
    remembers (Some a) w e = e

-- a message that is bound to a consumer that was chosen
pub bound_fits : (s u : Messages) (b : Binding) (t : Trace) → is_message b.kind ≡ true → u.pools ≡ s.pools → u.links ≡ s.links → IncomingFit u.incoming (Bound b ∷ t) → DeliveriesFit u.deliveries (Bound b ∷ t)
    → deliveries.Touches s.deliveries u.deliveries → NotedFit s t (last_after t (Some b.consumer)) → MessagesFit u (Bound b ∷ t)
bound_fits s u b t fresh pools same claimed stand other old =
    moved s u t (Bound b ∷ t) (last_after t (Some b.consumer)) (last_chosen (Bound b ∷ t)) pools
    (subst (λ l. LinksFit l (Bound b ∷ t)) (sym same) (links_bound s.links b t old.links)) stand claimed
    (subst (λ l. links.Touches s.links l) (sym same) (record { before = λ k e. e; links = λ k e c o h. refl; numbers = λ k e. refl }))
    other (bound_counts b t) (λ a. refl)
    (λ a. ap (λ (x : Bool). if x && is_of a (link_of t b.consumer) b.consumer.number then b.consumer.number else last_chosen t a) fresh) old

-- a row that is bound again, for which none was chosen
pub again_fits : (s u : Messages) (b : Binding) (t : Trace) → is_message b.kind ≡ false → u.pools ≡ s.pools → u.links ≡ s.links → IncomingFit u.incoming (Bound b ∷ t)
    → DeliveriesFit u.deliveries (Bound b ∷ t) → deliveries.Touches s.deliveries u.deliveries → MessagesFit s t → MessagesFit u (Bound b ∷ t)
again_fits s u b t again pools same claimed stand other old =
    moved s u t (Bound b ∷ t) (last_chosen t) (last_chosen (Bound b ∷ t)) pools
    (subst (λ l. LinksFit l (Bound b ∷ t)) (sym same) (links_bound s.links b t old.links)) stand claimed
    (subst (λ l. links.Touches s.links l) (sym same) (record { before = λ k e. e; links = λ k e c o h. refl; numbers = λ k e. refl }))
    other (bound_counts b t) (λ a. refl)
    (λ a. ap (λ (x : Bool). if x && is_of a (link_of t b.consumer) b.consumer.number then b.consumer.number else last_chosen t a) again) old

-- both tables read the same channel of an item
pub channel_same : (i : Item) → of_links i ≡ of_deliveries i
channel_same (item.Frame sasl channel body payload) = refl
channel_same _ = refl

-- a message that is bound to a consumer, and to the chosen one
abbrev pub message_to : Option Origin → Option RowNumber → Bool → ℕ → List ℕ → Attachment → Binding
message_to origin row lasting format payload a =
    record { consumer = a; row = row; lasting = lasting; format = format; payload = payload; kind = kind.Message origin }

pub bound_to : (u : Messages) (t : Trace) (a : Attachment) (origin : Option Origin) (row : Option RowNumber) (lasting : Bool) (format : ℕ) (payload : List ℕ) → lasting ≡ lasts t a
    → MessagesFit u (Bound (message_to origin row lasting format payload a) ∷ t) → MessagesFit u (Bound (binding_to t origin row format payload a) ∷ t)
bound_to u t a origin row lasting format payload durable fit = subst (λ l. MessagesFit u (Bound (message_to origin row l format payload a) ∷ t)) durable fit

pub passed : (u : Messages) (t : Trace) (a : Attachment) (origin : Option Origin) (row : Option RowNumber) (format : ℕ) (payload : List ℕ) (chosen : Option Attachment) → Some a ≡ chosen
    → MessagesFit u (Bound (binding_to t origin row format payload a) ∷ t) → MessagesFit u (with_bound (option_map (binding_to t origin row format payload) chosen) t)
passed u t a origin row format payload chosen is fit = subst (λ v. MessagesFit u (with_bound (option_map (binding_to t origin row format payload) v) t)) is fit

-- a row that a link takes up again
abbrev pub row_to : RowNumber → TakenUp → Bool → ℕ → List ℕ → Attachment → Binding
row_to row brought lasting format payload a =
    record { consumer = a; row = Some row; lasting = lasting; format = format; payload = payload; kind = kind.TakenUp brought }

abbrev pub bringing : Resumed → Option Origin → Option Origin → Option Origin → Option Origin → TakenUp
bringing how origin told early owned = record { how = how; origin = origin; told = told; early = early; owned = owned }

pub taken_up : (u : Messages) (t : Trace) (a : Attachment) (origin told early owned : Option Origin) (row : RowNumber) (how : Resumed) (lasting : Bool) (format : ℕ) (payload sent : List ℕ)
    → origin ≡ origin_in (called t (Row row)) → told ≡ told_in (called t (Row row)) → early ≡ early_in (called t (Row row)) → owned ≡ owned_in (called t (Row row))
    → lasting ≡ lasts t a → sent ≡ payload_as how payload
    → MessagesFit u (Bound (row_to row (bringing how origin told early owned) lasting format sent a) ∷ t) → MessagesFit u (Bound (taken_up_by t row how format payload a) ∷ t)
taken_up u t a origin told early owned row how lasting format payload sent from knew settled has durable is fit =
    let first = subst (λ l. MessagesFit u (Bound (row_to row (bringing how origin told early owned) l format sent a) ∷ t)) durable fit in
    let second = subst (λ p. MessagesFit u (Bound (row_to row (bringing how origin told early owned) (lasts t a) format p a) ∷ t)) is first in
    let sent_as : List ℕ = payload_as how payload in
    let o : Option Origin = origin_in (called t (Row row)) in
    let old : Option Origin = told_in (called t (Row row)) in
    let before : Option Origin = early_in (called t (Row row)) in
    let third = subst (λ (v : Option Origin). MessagesFit u (Bound (row_to row (bringing how v told early owned) (lasts t a) format sent_as a) ∷ t)) from second in
    let fourth = subst (λ (v : Option Origin). MessagesFit u (Bound (row_to row (bringing how o v early owned) (lasts t a) format sent_as a) ∷ t)) knew third in
    let fifth = subst (λ (v : Option Origin). MessagesFit u (Bound (row_to row (bringing how o old v owned) (lasts t a) format sent_as a) ∷ t)) settled fourth in
    subst (λ (v : Option Origin). MessagesFit u (Bound (row_to row (bringing how o old before v) (lasts t a) format sent_as a) ∷ t)) has fifth
