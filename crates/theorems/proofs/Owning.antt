-- What peers claim on their links: each claim has its link, and its id has 32 bits; on a durable link no two have one tag; and the claim under the id of the delivery in the middle of a
-- link, if it is of that link, has its tag, and, if the link is durable, no other claim of the link has it. Of a link that the event's answer ends, while this is still to come, only the first is asked.
use Rattle.std.proofs.Common.{◌≡◌, ◌∙◌, sym, ap, refl, subst, ◌⊎◌, inl, inr, ℕ, ◌+◌, ◌<◌, ◌^◌, Bool, true, false, not, ◌&&◌, ◌||◌, List, [], ◌∷◌, ◌++◌}
use Rattle.std.specs.Prelude.{◌==◌, Option, Some, None, is_none, is_some, option_map, if◌then◌else◌}
use Rattle.std.specs.List.{list_any}
use Rattle.std.proofs.lemmas.Bool.{eqb-true, eq-eqb}
use Rattle.amqp_model.specs.declared.perf.Disposition.{Disposition}
use Rattle.amqp_model.specs.declared.perf.Perf.{Perf}
use Rattle.amqp_model.specs.declared.perf.Perf.TheVariants as perf
use Rattle.amqp_model.specs.declared.perf.Role.{Role}
use Rattle.amqp_model.specs.declared.perf.Role.TheVariants.{Sender, Receiver}
use Rattle.amqp_model.specs.declared.item.Item.{Item}
use Rattle.amqp_model.specs.declared.item.Item.TheVariants as item
use Rattle.amqp_session.specs.Ranges.{in_range}
use Rattle.book_model.specs.declared.act.Act.{Act}
use Rattle.book_model.specs.declared.terminus.LinkKey.{LinkKey}
use Rattle.router_trace.specs.Configuration.{opened}
use Rattle.router_trace.specs.declared.binding.Binding.{Binding}
use Rattle.router_trace.specs.declared.binding.Origin.{Origin}
use Rattle.router_trace.specs.declared.handle.Attachment.{Attachment}
use Rattle.router_trace.specs.Trace.{Beginning, Entry, Did, Out, Took, Bound, Booked, Began}
use Rattle.router_trace.specs.Deliveries.{ended_by, last_of, origin_of, stands_on}
use Rattle.router_trace.specs.Claims.{Claim, answered_by, bind_claim, bound_claim, claim_after, claim_after_in, claims, unless_ended}
use Rattle.router_trace.specs.Links.{Link, link, durable_key, ends_handle, ends_handle_in}
use Rattle.state_connections.proofs.Lists.{by_test}
use Rattle.state_deliveries.specs.declared.change.Change.{Change}
use Rattle.state_deliveries.specs.declared.change.Change.TheVariants as change
use Rattle.state_deliveries.specs.Stepping.{is_gone}
use Rattle.theorems.proofs.Claimed.{OneTag}
use Rattle.theorems.proofs.Middles.{Said, said_of, out_said}
use Rattle.theorems.proofs.Standing.{Standing, IsFresh, LinkStays, place, out_stays, out_gone}
use Rattle.theorems.proofs.Tests.{some_same, none_not_some}

-- a link that changes which are still to come end

abbrev pub ends_it : Change → Attachment → Bool
ends_it (change.Ends g closed) a = is_gone g a
ends_it _ a = false

abbrev pub is_ending : List Change → Attachment → Bool
is_ending xs a = list_any (λ x. ends_it x a) xs

pub record Owned (t : List Entry) (xs : List Change) : Type 0 where
  pub links : (c o k : ℕ) (v : Claim) → claims t c o k ≡ Some v → is_some (link t c o v.handle) ≡ true
  pub one : (c o j k : ℕ) (v w : Claim) (key : LinkKey) (tag : List ℕ) → is_ending xs (place c o v.handle) ≡ false → durable_key (link t c o v.handle) ≡ Some key
      → claims t c o j ≡ Some v → claims t c o k ≡ Some w → v.handle ≡ w.handle → v.tag ≡ Some tag → w.tag ≡ Some tag → j ≡ k
  pub ids : (c o k : ℕ) (v : Claim) → is_ending xs (place c o v.handle) ≡ false → claims t c o k ≡ Some v → k < 2 ^ 32
  pub tagged : (c o h : ℕ) (said : Said) → is_ending xs (place c o h) ≡ false → said_of (link t c o h) ≡ Some said → is_some said.tag ≡ true
  pub tags : (c o h k : ℕ) (said : Said) (v : Claim) → is_ending xs (place c o h) ≡ false → said_of (link t c o h) ≡ Some said → said.id ≡ Some k → claims t c o k ≡ Some v → v.handle ≡ h
      → v.tag ≡ said.tag
  pub alone : (c o h k : ℕ) (said : Said) (v : Claim) (key : LinkKey) (tag : List ℕ) → is_ending xs (place c o h) ≡ false → durable_key (link t c o h) ≡ Some key → said_of (link t c o h) ≡ Some said
      → claims t c o k ≡ Some v → v.handle ≡ h → said.tag ≡ Some tag → v.tag ≡ Some tag → said.id ≡ Some k

pub began_owned : (g : Beginning) (below : List Entry) → Owned (opened g below) []
began_owned g below = record {
  links = λ c o k v is. absurd (none_not_some is);
  one = λ c o j k v w key tag free durable is. absurd (none_not_some is);
  ids = λ c o k v free is. absurd (none_not_some is);
  tagged = λ c o h said free is. absurd (none_not_some is);
  tags = λ c o h k said v free is. absurd (none_not_some is);
  alone = λ c o h k said v key tag free durable is. absurd (none_not_some is);
}

-- where no change is to come, no two claims of a durable link have one tag
pub owned_one : (t : List Entry) → Owned t [] → OneTag t
owned_one t owned c own j k v w key tag durable = owned.one c own j k v w key tag refl durable

-- entries that touch neither claims nor links

pub took_owned : (c k : ℕ) (t : List Entry) (xs : List Change) → Owned t xs → Owned (Took c k ∷ t) xs
took_owned c k t xs was = record { links = was.links; one = was.one; ids = was.ids; tagged = was.tagged; tags = was.tags; alone = was.alone }

pub booked_owned : (acts : List Act) (full : List ℕ) (t : List Entry) (xs : List Change) → Owned t xs → Owned (Booked acts full ∷ t) xs
booked_owned acts full t xs was = record { links = was.links; one = was.one; ids = was.ids; tagged = was.tagged; tags = was.tags; alone = was.alone }

-- a binding leaves a claim's link and its tag
record BoundClaim (t : List Entry) (c o k : ℕ) (v : Claim) : Type 0 where
  before : Claim
  there : claims t c o k ≡ Some before
  handle : v.handle ≡ before.handle
  tag : v.tag ≡ before.tag

bound_claim_was : (b : Binding) (t : List Entry) (c o k : ℕ) (v : Claim) → claims (Bound b ∷ t) c o k ≡ Some v → BoundClaim t c o k v
bound_claim_was b t c o k v is = by (origin_of b.kind) is
  where
    same : claims t c o k ≡ Some v → BoundClaim t c o k v
    same is = record { before = v; there = is; handle = refl; tag = refl }

    made : (old : Option Claim) → claims t c o k ≡ old → option_map bound_claim old ≡ Some v → BoundClaim t c o k v
    made None there is = absurd (none_not_some is)
    made (Some w) there is = let now = some_same is in record { before = w; there = there; handle = sym (ap (λ (x : Claim). x.handle) now); tag = sym (ap (λ (x : Claim). x.tag) now) }

    test : (q : Bool) → (if q then option_map bound_claim (claims t c o k) else claims t c o k) ≡ Some v → BoundClaim t c o k v
    test true is = made (claims t c o k) refl is
    test false is = same is

    by : (p : Option Origin) → bind_claim p c o k (claims t c o k) ≡ Some v → BoundClaim t c o k v
    by None is = same is
    by (Some p) is = test (stands_on p.link c o && (p.id == k)) is

pub bound_owned : (b : Binding) (t : List Entry) (xs : List Change) → Owned t xs → Owned (Bound b ∷ t) xs
bound_owned b t xs was = record {
  links = λ c o k v is. let w = bound_claim_was b t c o k v is in ap (λ (h : ℕ). is_some (link t c o h)) w.handle ∙ was.links c o k w.before w.there;
  one = λ c o j k v w key tag free durable first second same has too.
      let x = bound_claim_was b t c o j v first in
      let y = bound_claim_was b t c o k w second in
      was.one c o j k x.before y.before key tag (ap (λ (h : ℕ). is_ending xs (place c o h)) (sym x.handle) ∙ free) (ap (λ (h : ℕ). durable_key (link t c o h)) (sym x.handle) ∙ durable) x.there y.there
      (sym x.handle ∙ same ∙ y.handle) (sym x.tag ∙ has) (sym y.tag ∙ too);
  ids = λ c o k v free is. let w = bound_claim_was b t c o k v is in was.ids c o k w.before (ap (λ (h : ℕ). is_ending xs (place c o h)) (sym w.handle) ∙ free) w.there;
  tagged = was.tagged;
  tags = λ c o h k said v free is named claimed on.
      let w = bound_claim_was b t c o k v claimed in
      w.tag ∙ was.tags c o h k said w.before free is named w.there (sym w.handle ∙ on);
  alone = λ c o h k said v key tag free durable is claimed on named has.
      let w = bound_claim_was b t c o k v claimed in
      was.alone c o h k said w.before key tag free durable is w.there (sym w.handle ∙ on) named (sym w.tag ∙ has);
}

-- changes that are over where their links are
pub gone_owned : (t : List Entry) (xs ys : List Change) → ((c o h : ℕ) → is_ending xs (place c o h) ≡ true → is_ending ys (place c o h) ≡ false → link t c o h ≡ None) → Owned t xs → Owned t ys
gone_owned t xs ys gone was = record {
  links = was.links;
  one = λ c o j k v w key tag free durable first second same has too.
      was.one c o j k v w key tag (there c o v.handle free (λ e. none_not_some (sym (ap durable_key e) ∙ durable))) durable first second same has too;
  ids = λ c o k v free is. was.ids c o k v (there c o v.handle free (λ e. none_some (sym (ap (λ (l : Option Link). is_some l) e) ∙ was.links c o k v is))) is;
  tagged = λ c o h said free is. was.tagged c o h said (there c o h free (λ e. none_not_some (sym (ap said_of e) ∙ is))) is;
  tags = λ c o h k said v free is named claimed on. was.tags c o h k said v (there c o h free (λ e. none_not_some (sym (ap said_of e) ∙ is))) is named claimed on;
  alone = λ c o h k said v key tag free durable is. was.alone c o h k said v key tag (there c o h free (λ e. none_not_some (sym (ap said_of e) ∙ is))) durable is;
}
  where
    none_some : false ≡ true → ⊥
    none_some e = cc

    there : (c o h : ℕ) → is_ending ys (place c o h) ≡ false → (link t c o h ≡ None → ⊥) → is_ending xs (place c o h) ≡ false
    there c o h free some = by (is_ending xs (place c o h)) refl
      where
        by : (q : Bool) → is_ending xs (place c o h) ≡ q → q ≡ false
        by false e = refl
        by true e = absurd (some (gone c o h e free))

-- items of the router: they make no claim, and end those of a link with it

kept_if : (q : Bool) (v w : Claim) → (if q then None else Some v) ≡ Some w → (v ≡ w) × (q ≡ false)
kept_if true v w is = absurd (none_not_some is)
kept_if false v w is = (some_same is, refl)

ended_was : (body : Perf) (own o : ℕ) (v w : Claim) → unless_ended body own o (Some v) ≡ Some w → (v ≡ w) × (ends_handle_in body own o v.handle ≡ false)
ended_was body own o v w is = kept_if (ends_handle_in body own o v.handle) v w is

disposed_was : (x : Disposition) (own o k : ℕ) (v w : Claim) → (if own == o then answered_by x.role x k (Some v) else Some v) ≡ Some w → v ≡ w
disposed_was x own o k v w is = by (own == o) x.role is
  where
    by : (q : Bool) (r : Role) → (if q then answered_by r x k (Some v) else Some v) ≡ Some w → v ≡ w
    by false r is = some_same is
    by true Sender is = some_same is
    by true Receiver is = (kept_if (x.settled && in_range x.first (last_of x) k) v w is).0

perf_was : (body : Perf) (own o k : ℕ) (v w : Claim) → claim_after_in body own o k (Some v) ≡ Some w → (v ≡ w) × (ends_handle_in body own o v.handle ≡ false)
perf_was (perf.Disposition x) own o k v w is = (disposed_was x own o k v w is, refl)
perf_was body own o k v w is = ended_was body own o v w is

item_was : (i : Item) (o k : ℕ) (v w : Claim) → claim_after i o k (Some v) ≡ Some w → (v ≡ w) × (ends_handle i o v.handle ≡ false)
item_was (item.Frame sasl own body payload) o k v w is = perf_was body own o k v w is
item_was _ o k v w is = (some_same is, refl)

abbrev nothing : Option Claim
nothing = None

none_after_in : (body : Perf) (own o k : ℕ) → claim_after_in body own o k None ≡ None
none_after_in (perf.Disposition x) own o k = by (own == o) x.role
  where
    by : (q : Bool) (r : Role) → (if q then answered_by r x k nothing else nothing) ≡ nothing
    by false r = refl
    by true Sender = refl
    by true Receiver = test (x.settled && in_range x.first (last_of x) k)
      where
        test : (q : Bool) → (if q then nothing else nothing) ≡ nothing
        test true = refl
        test false = refl
none_after_in body own o k = refl

none_after : (i : Item) (o k : ℕ) → claim_after i o k None ≡ None
none_after (item.Frame sasl own body payload) o k = none_after_in body own o k
none_after _ o k = refl

pub out_claim_was : (d : ℕ) (i : Item) (t : List Entry) (c o k : ℕ) (v : Claim) → claims (Out d i ∷ t) c o k ≡ Some v → (claims t c o k ≡ Some v) × (ended_by i d (place c o v.handle) ≡ false)
out_claim_was d i t c o k v is = by_test (d == c) (λ e. here e (claims t c o k) refl (rw e at is)) (λ e. (rw e at is, apart e))
  where
    apart : (d == c) ≡ false → ended_by i d (place c o v.handle) ≡ false
    apart e = by_test (c == d) (λ f. absurd (clash (sym e ∙ eq-eqb d c (sym (eqb-true c d f))))) (λ f. rw f refl)
      where
        clash : false ≡ true → ⊥
        clash g = cc

    here : (d == c) ≡ true → (old : Option Claim) → claims t c o k ≡ old → claim_after i o k old ≡ Some v → (claims t c o k ≡ Some v) × (ended_by i d (place c o v.handle) ≡ false)
    here e None there now = absurd (none_not_some (sym (none_after i o k) ∙ now))
    here e (Some w) there now =
        let was = item_was i o k w v now in
        (there ∙ ap (λ (x : Claim). Some x) was.0, rw (eq-eqb c d (sym (eqb-true d c e))) (ap (λ (x : Claim). ends_handle i o x.handle) (sym was.0) ∙ was.1))

-- what is still to come after an item: an end that came with it isn't
abbrev pub Ends : ℕ → Item → List Change → List Change → Type 0
Ends d i xs ys = (a : Attachment) → is_ending xs a ≡ true → is_ending ys a ≡ false → ended_by i d a ≡ true

pub out_owned : (d : ℕ) (i : Item) (t : List Entry) (xs ys : List Change) → IsFresh t d i → Standing t → Ends d i xs ys → Owned t xs → Owned (Out d i ∷ t) ys
out_owned d i t xs ys fresh standing ends was = record {
  links = λ c o k v is.
      let w = out_claim_was d i t c o k v is in
      let stays = link_there c o k v w.0 w.1 in
      stays.now;
  one = λ c o j k v w key tag free durable first second same has too.
      let x = out_claim_was d i t c o j v first in
      let y = out_claim_was d i t c o k w second in
      let stays = link_there c o j v x.0 x.1 in
      was.one c o j k v w key tag (still c o v.handle free x.1) (stays.durable ∙ durable) x.0 y.0 same has too;
  ids = λ c o k v free is. let w = out_claim_was d i t c o k v is in was.ids c o k v (still c o v.handle free w.1) w.0;
  tagged = λ c o h said free is. let before = said_before c o h said is in was.tagged c o h said (still c o h free (not_ended c o h said is)) before;
  tags = λ c o h k said v free is named claimed on.
      let x = out_claim_was d i t c o k v claimed in
      was.tags c o h k said v (still c o h free (not_ended c o h said is)) (said_before c o h said is) named x.0 on;
  alone = λ c o h k said v key tag free durable is claimed on named has.
      let x = out_claim_was d i t c o k v claimed in
      let stays = link_there c o k v x.0 x.1 in
      let before : durable_key (link t c o h) ≡ Some key =
      ap (λ (g : ℕ). durable_key (link t c o g)) (sym on) ∙ stays.durable ∙ ap (λ (g : ℕ). durable_key (link (Out d i ∷ t) c o g)) on ∙ durable in
      was.alone c o h k said v key tag (still c o h free (not_ended c o h said is)) before (said_before c o h said is) x.0 on named has;
}
  where
    clash : true ≡ false → ⊥
    clash e = cc

    still : (c o h : ℕ) → is_ending ys (place c o h) ≡ false → ended_by i d (place c o h) ≡ false → is_ending xs (place c o h) ≡ false
    still c o h free spared = by (is_ending xs (place c o h)) refl
      where
        by : (q : Bool) → is_ending xs (place c o h) ≡ q → q ≡ false
        by false e = refl
        by true e = absurd (clash (sym (ends (place c o h) e free) ∙ spared))

    link_there : (c o k : ℕ) (v : Claim) → claims t c o k ≡ Some v → ended_by i d (place c o v.handle) ≡ false → LinkStays t (Out d i ∷ t) c o v.handle
    link_there c o k v claimed spared = out_stays d i t c o v.handle fresh standing (was.links c o k v claimed) spared

    said_before : (c o h : ℕ) (said : Said) → said_of (link (Out d i ∷ t) c o h) ≡ Some said → said_of (link t c o h) ≡ Some said
    said_before c o h said is = by (out_said d i t c o h)
      where
        by : (said_of (link (Out d i ∷ t) c o h) ≡ None) ⊎ (said_of (link (Out d i ∷ t) c o h) ≡ said_of (link t c o h)) → said_of (link t c o h) ≡ Some said
        by (inl none) = absurd (none_not_some (sym none ∙ is))
        by (inr same) = sym same ∙ is

    not_ended : (c o h : ℕ) (said : Said) → said_of (link (Out d i ∷ t) c o h) ≡ Some said → ended_by i d (place c o h) ≡ false
    not_ended c o h said is = by (ended_by i d (place c o h)) refl
      where
        by : (q : Bool) → ended_by i d (place c o h) ≡ q → q ≡ false
        by false e = refl
        by true e = absurd (none_not_some (sym (ap said_of (out_gone d i t c o h e)) ∙ is))
