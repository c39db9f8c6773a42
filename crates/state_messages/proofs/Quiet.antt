-- After an entry that doesn't concern links, deliveries and claims their tables are unchanged.
use Rattle.std.proofs.Common.{◌≡◌, ◌∙◌, ◌+◌, ◌≤◌, arith, ℕ, refl, sym, ap, subst, List, Option, Some, None, ◌∷◌}
use Rattle.std.specs.Prelude.{if◌then◌else◌}
use Rattle.std.specs.BTreeMap.{get}
use Rattle.book_model.specs.declared.terminus.LinkKey.{LinkKey}
use Rattle.book_model.specs.Keys.{key_cmp}
use Rattle.router_trace.specs.declared.event.ConnectionId.{ConnectionId}
use Rattle.router_trace.specs.declared.event.Peer.{Peer}
use Rattle.router_trace.specs.declared.event.Event.TheVariants as event
use Rattle.router_trace.specs.declared.handle.Attachment.{Attachment}
use Rattle.book_model.specs.declared.act.Act.{Act}
use Rattle.router_trace.specs.Trace.{Trace, Took, Booked, did}
use Rattle.router_trace.specs.Configuration.{distribution}
use Rattle.router_trace.specs.Links.{asked, told_handle_max, highest_handle, answered_handle, their_handle, link, attachments, last_of_key, numbered, holder, place_of, if_attached, has_number}
use Rattle.router_trace.specs.Deliveries.{bindings, counters, delivery, sending, named, next_id, last_row}
use Rattle.router_trace.specs.Claims.{claims}
use Rattle.router_trace.specs.Numbers.{count_below}
use Rattle.state_deliveries.specs.declared.deliveries.Deliveries.{Deliveries}
use Rattle.state_deliveries.specs.Fits.{DeliveriesFit}
use Rattle.state_deliveries.specs.Naming as naming
use Rattle.state_deliveries.specs.Calling.{IsGone, Knows}
use Rattle.state_collections.specs.Places.{at}
use Rattle.state_collections.specs.Ids.{at_id}
use Rattle.state_deliveries.proofs.Puts.{kept}
use Rattle.state_links.specs.declared.links.Links.{Links}
use Rattle.state_links.specs.Ends.{link_of}
use Rattle.state_links.specs.Fits.{LinksFit}
use Rattle.state_links.specs.Naming.{Remembers}
use Rattle.state_messages.specs.declared.messages.Messages.{Messages}
use Rattle.state_messages.specs.Fits.{MessagesFit}
use Rattle.state_messages.specs.Messages.{last_chosen}
use Rattle.state_messages.proofs.Known.{IsStep, count_alike, moved}
use Rattle.state_messages.proofs.Rising.{same_rises}
use Rattle.std.specs.Option.{option_map}
use Rattle.state_collections.specs.NumberMap.{at_number}

-- two traces agree on links, deliveries and claims, and on the distribution of addresses
pub record IsQuiet (t u : Trace) : Type 0 where
  pub handle_max : (c : ℕ) → asked u c ≡ asked t c
  pub told_max : (c : ℕ) → told_handle_max u c ≡ told_handle_max t c
  pub highest : (c o : ℕ) → highest_handle u c o ≡ highest_handle t c o
  pub answered : (c o h : ℕ) → answered_handle u c o h ≡ answered_handle t c o h
  pub theirs : (c o p : ℕ) → their_handle u c o p ≡ their_handle t c o p
  pub links : (c o h : ℕ) → link u c o h ≡ link t c o h
  pub count : attachments u ≡ attachments t
  pub keys : (k : LinkKey) → last_of_key u k ≡ last_of_key t k
  pub numbers : (n : ℕ) → numbered u n ≡ numbered t n
  pub bound : bindings u ≡ bindings t
  pub counted : counters u ≡ counters t
  pub admitted : last_row u ≡ last_row t
  pub deliveries : (n : ℕ) → delivery u n ≡ delivery t n
  pub handles : (c o h : ℕ) → sending u c o h ≡ sending t c o h
  pub names : (c o id : ℕ) → named u c o id ≡ named t c o id
  pub next_ids : (c o : ℕ) → next_id u c o ≡ next_id t c o
  pub claimed : (c o id : ℕ) → claims u c o id ≡ claims t c o id
  pub shared : (a : List ℕ) → distribution u a ≡ distribution t a
  pub chosen : (a : List ℕ) → last_chosen u a ≡ last_chosen t a

attached_same : (t u : Trace) → IsQuiet t u → (v : Option Attachment) → if_attached u v ≡ if_attached t v
attached_same t u q None = refl
attached_same t u q (Some a) = ap (λ l. if has_number a.number l then Some a else None) (q.links a.conn.0 a.channel a.handle)

remembers : (found last other attached now : Option Attachment) → other ≡ last → now ≡ attached → Remembers found last attached → Remembers found other now
remembers None last other attached now e f r = f ∙ r
remembers (Some a) last other attached now e f r = e ∙ r

links_quiet : (s : Links) (t u : Trace) → IsQuiet t u → LinksFit s t → LinksFit s u
links_quiet s t u q fit = record {
  handles = record {
    asked = λ c. fit.handles.asked c ∙ sym (q.handle_max c);
    told = λ c. fit.handles.told c ∙ sym (q.told_max c);
    highest = λ c o. fit.handles.highest c o ∙ sym (q.highest c o);
    answered = λ c o h. fit.handles.answered c o h ∙ sym (q.answered c o h);
    theirs = λ c o p. fit.handles.theirs c o p ∙ sym (q.theirs c o p);
  };
  table = record {
    links = λ c o h. fit.table.links c o h ∙ ap (option_map link_of) (sym (q.links c o h));
    count = fit.table.count ∙ sym q.count;
    names = record {
      keys = λ k. remembers (get key_cmp s.table.names.keys.entries k) (last_of_key t k) (last_of_key u k) (holder t k) (holder u k) (q.keys k)
          (attached_same t u q (last_of_key u k) ∙ ap (if_attached t) (q.keys k)) (fit.table.names.keys k);
      numbers = λ n. remembers (at_number s.table.names.numbers.entries n) (numbered t n) (numbered u n) (place_of t n) (place_of u n) (q.numbers n)
          (attached_same t u q (numbered u n) ∙ ap (if_attached t) (q.numbers n)) (fit.table.names.numbers n);
    };
    owing = fit.table.owing;
  };
}

forgotten : (t u : Trace) → IsQuiet t u → (w : Option ℕ) → naming.MayBeForgotten t w → naming.MayBeForgotten u w
forgotten t u q None f = f
forgotten t u q (Some n) f = ap naming.is_open (q.deliveries n) ∙ f

named_quiet : (t u : Trace) → IsQuiet t u → (found now other : Option ℕ) → other ≡ now → naming.Remembers t found now → naming.Remembers u found other
named_quiet t u q None now other e r = subst (λ w. naming.MayBeForgotten u w) (sym e) (forgotten t u q now r)
named_quiet t u q (Some n) now other e r = e ∙ r

gone_quiet : (t u : Trace) → IsQuiet t u → (w : Option ℕ) → IsGone (delivery t) w → IsGone (delivery u) w
gone_quiet t u q None f = f
gone_quiet t u q (Some n) f = q.deliveries n ∙ f

known_quiet : (t u : Trace) → IsQuiet t u → (found now other : Option ℕ) → other ≡ now → Knows (delivery t) found now → Knows (delivery u) found other
known_quiet t u q None now other e r = subst (λ w. IsGone (delivery u) w) (sym e) (gone_quiet t u q now r)
known_quiet t u q (Some n) now other e r = e ∙ r

deliveries_quiet : (s : Deliveries) (t u : Trace) → IsQuiet t u → DeliveriesFit s t → DeliveriesFit s u
deliveries_quiet s t u q fit = record {
  bindings = fit.bindings ∙ sym q.bound;
  counters = fit.counters ∙ sym q.counted;
  last_row = fit.last_row ∙ sym q.admitted;
  store = record { deliveries = λ n. fit.store.deliveries n ∙ sym (q.deliveries n); indexed = fit.store.indexed };
  sending = record { numbers = λ c o h. known_quiet t u q (at s.sending.numbers c o h) (sending t c o h) (sending u c o h) (q.handles c o h) (fit.sending.numbers c o h) };
  names = record {
    names = λ c o id. named_quiet t u q (at_id s.names.ids c o id) (named t c o id) (named u c o id) (q.names c o id) (fit.names.names c o id);
    small = fit.names.small;
  };
  next_ids = record { ids = λ c o. fit.next_ids.ids c o ∙ sym (q.next_ids c o) };
}

counts_quiet : (t u : Trace) → IsQuiet t u → IsStep t u
counts_quiet t u q = record {
  counts = λ p none same.
      count_alike (bindings t + 1) (λ n. p (delivery t n)) (λ n. p (delivery u n)) same
      ∙ ap (λ b. count_below (b + 1) (λ n. p (delivery u n))) (sym q.bound);
  rises = same_rises t u q.numbers q.links;
  attached = let is : attachments u ≡ attachments t = q.count in let g : attachments t ≤ attachments u = omega (arith, is) in g;
}

pub quiet_fits : (s : Messages) (t u : Trace) → IsQuiet t u → MessagesFit s t → MessagesFit s u
quiet_fits s t u q old =
    moved s s t u (last_chosen t) (last_chosen u) refl (links_quiet s.links t u q old.links) (deliveries_quiet s.deliveries t u q old.deliveries)
    (record { ids = λ c o id. old.incoming.ids c o id ∙ sym (q.claimed c o id); small = old.incoming.small; marked = old.incoming.marked })
    (record { before = λ n e. e; links = λ n e c o h. refl; numbers = λ n e. refl })
    (record { before = λ n e. e; same = λ n m e. record { waits = refl; undecided = refl; held = refl } })
    (counts_quiet t u q) q.shared q.chosen old

-- this holds for a take from an outbox, a connection that comes up, a tick, and a start
pub taken_fits : (s : Messages) (d k : ℕ) (t : Trace) → MessagesFit s t → MessagesFit s (Took d k ∷ t)
taken_fits s d k t old = quiet_fits s t (Took d k ∷ t) quiet old
  where
    quiet : IsQuiet t (Took d k ∷ t)
    quiet = record {
      handle_max = λ c. refl;
      told_max = λ c. refl;
      highest = λ c o. refl;
      answered = λ c o h. refl;
      theirs = λ c o p. refl;
      links = λ c o h. refl;
      count = refl;
      keys = λ q. refl;
      numbers = λ n. refl;
      bound = refl;
      counted = refl;
      admitted = refl;
      deliveries = λ n. refl;
      handles = λ c o h. refl;
      names = λ c o id. refl;
      next_ids = λ c o. refl;
      claimed = λ c o id. refl;
      shared = λ a. refl;
      chosen = λ a. refl;
    }

pub booked_fits : (s : Messages) (acts : List Act) (full : List ℕ) (t : Trace) → MessagesFit s t → MessagesFit s (Booked acts full ∷ t)
booked_fits s acts full t old = quiet_fits s t (Booked acts full ∷ t) quiet old
  where
    quiet : IsQuiet t (Booked acts full ∷ t)
    quiet = record {
      handle_max = λ c. refl;
      told_max = λ c. refl;
      highest = λ c o. refl;
      answered = λ c o h. refl;
      theirs = λ c o p. refl;
      links = λ c o h. refl;
      count = refl;
      keys = λ q. refl;
      numbers = λ n. refl;
      bound = refl;
      counted = refl;
      admitted = refl;
      deliveries = λ n. refl;
      handles = λ c o h. refl;
      names = λ c o id. refl;
      next_ids = λ c o. refl;
      claimed = λ c o id. refl;
      shared = λ a. refl;
      chosen = λ a. refl;
    }

pub risen_fits : (s : Messages) (c : ConnectionId) (p : Peer) (t : Trace) → MessagesFit s t → MessagesFit s (did (event.Up c p) ∷ t)
risen_fits s d p t old = quiet_fits s t (did (event.Up d p) ∷ t) quiet old
  where
    quiet : IsQuiet t (did (event.Up d p) ∷ t)
    quiet = record {
      handle_max = λ c. refl;
      told_max = λ c. refl;
      highest = λ c o. refl;
      answered = λ c o h. refl;
      theirs = λ c o q. refl;
      links = λ c o h. refl;
      count = refl;
      keys = λ q. refl;
      numbers = λ n. refl;
      bound = refl;
      counted = refl;
      admitted = refl;
      deliveries = λ n. kept t n;
      handles = λ c o h. refl;
      names = λ c o id. refl;
      next_ids = λ c o. refl;
      claimed = λ c o id. refl;
      shared = λ a. refl;
      chosen = λ a. refl;
    }

pub ticked_fits : (s : Messages) (moment : ℕ) (t : Trace) → MessagesFit s t → MessagesFit s (did (event.Tick moment) ∷ t)
ticked_fits s moment t old = quiet_fits s t (did (event.Tick moment) ∷ t) quiet old
  where
    quiet : IsQuiet t (did (event.Tick moment) ∷ t)
    quiet = record {
      handle_max = λ c. refl;
      told_max = λ c. refl;
      highest = λ c o. refl;
      answered = λ c o h. refl;
      theirs = λ c o p. refl;
      links = λ c o h. refl;
      count = refl;
      keys = λ q. refl;
      numbers = λ n. refl;
      bound = refl;
      counted = refl;
      admitted = refl;
      deliveries = λ n. kept t n;
      handles = λ c o h. refl;
      names = λ c o id. refl;
      next_ids = λ c o. refl;
      claimed = λ c o id. refl;
      shared = λ a. refl;
      chosen = λ a. refl;
    }

pub started_fits : (s : Messages) (t : Trace) → MessagesFit s t → MessagesFit s (did event.Start ∷ t)
started_fits s t old = quiet_fits s t (did event.Start ∷ t) quiet old
  where
    quiet : IsQuiet t (did event.Start ∷ t)
    quiet = record {
      handle_max = λ c. refl;
      told_max = λ c. refl;
      highest = λ c o. refl;
      answered = λ c o h. refl;
      theirs = λ c o p. refl;
      links = λ c o h. refl;
      count = refl;
      keys = λ q. refl;
      numbers = λ n. refl;
      bound = refl;
      counted = refl;
      admitted = refl;
      deliveries = λ n. kept t n;
      handles = λ c o h. refl;
      names = λ c o id. refl;
      next_ids = λ c o. refl;
      claimed = λ c o id. refl;
      shared = λ a. refl;
      chosen = λ a. refl;
    }
