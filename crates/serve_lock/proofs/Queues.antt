-- How far a queue of items was handed in while the lock is held.
use Rattle.std.proofs.Common.{◌≡◌, ◌∙◌, sym, ap, refl, subst, ℕ, ◌+◌, ◌-◌, ◌^◌, ◌<◌, ◌⊎◌, inl, inr, Bool, true, false, ◌||◌, if◌then◌else◌, List, [], ◌∷◌, ◌++◌, length, take, Result, Ok, Err, OnOk, IfErr, append-nil, arith}
use Rattle.std.specs.Prelude.{zero, suc, min}
use Rattle.std.proofs.Math.Seq.{take-append_seam}
use Rattle.std.proofs.lemmas.List.{append_assoc, length-append}
use Rattle.amqp_model.specs.declared.item.Item.{Item}
use Rattle.book_model.specs.Book.{BookView}
use Rattle.router_trace.specs.declared.event.ConnectionId.{ConnectionId}
use Rattle.router_trace.specs.declared.event.Event.{Event}
use Rattle.router_trace.specs.declared.event.Event.TheVariants as event
use Rattle.router_trace.specs.Trace.{Entry, Step, step_of}
use Rattle.core_machine.specs.declared.counts.Counts.{Counts}
use Rattle.core_machine.specs.Counting.{with_event}
use Rattle.core_machine.specs.Meaning.{Meaning, BookAt, EitherOf}
use Rattle.core_machine.specs.Turns.{declines}
use Rattle.core_machine.specs.declared.fault.CoreFault.{CoreFault}
use Rattle.core_machine.specs.declared.fault.CoreFault.TheVariants.{Disk, Memory, Failed, NoConnection}
use Rattle.serve_lock.specs.Adding.{with_items}
use Rattle.serve_lock.specs.Handing.{BookAmong, BookFrom, HoldsAmong, Refuses, after_items, found_full, gone, handed, with_full}

-- items, then one more
handed_more : (next : List Entry → Step → List Entry) (conn : ConnectionId) (items : List Item) (item : Item) (t : List Entry)
    → handed next conn (items ++ item ∷ []) t ≡ next (handed next conn items t) (step_of (event.Item conn item))
handed_more next conn [] item t = refl
handed_more next conn (i ∷ is) item t = handed_more next conn is item (next t (step_of (event.Item conn i)))

-- so many of them find the journal full
found_more : {M : Type 0} (m : Meaning M) (id : List ℕ) (conn : ConnectionId) (items : List Item) (item : Item) (t : List Entry)
    → found_full m id conn (items ++ item ∷ []) t ≡ found_full m id conn items t + (if m.finds_full (handed (m.next id) conn items t) (event.Item conn item) then 1 else 0)
found_more m id conn [] item t = let one : (n : ℕ) → n + 0 ≡ 0 + n = λ n. omega arith in one (if m.finds_full t (event.Item conn item) then 1 else 0)
found_more m id conn (i ∷ is) item t =
    ap (λ (n : ℕ). (if m.finds_full t (event.Item conn i) then 1 else 0) + n) (found_more m id conn is item (m.next id t (step_of (event.Item conn i))))
    ∙ (let all : (a b c : ℕ) → a + (b + c) ≡ (a + b) + c = λ a b c. omega arith in all _ _ _)

-- the number of events that found the journal full is one of 64 bits
pub full_fits : (found : Bool) (full more : ℕ) → more ≡ with_full found full → more < 2 ^ 64
full_fits found full more is = grind (arith, is)

full_more : (had n more full new : ℕ) → full ≡ min (had + n) (2 ^ 64 - 1) → new ≡ min (full + more) (2 ^ 64 - 1) → new ≡ min (had + (n + more)) (2 ^ 64 - 1)
full_more had n more full new are is = grind (arith, are, is)

-- an answer Ok is no fault
pub ok_is_no_fault : {T : Type 0} (x : T) (e : CoreFault) → Ok x ≡ Err e → ⊥
ok_is_no_fault x e is = cc

-- what a fault leaves that is handed on
pub handed_on : {T : Type 0} (r : Result T CoreFault) (f : CoreFault) (P : CoreFault → Type 0) → r ≡ Err f → P f → IfErr r P
handed_on (Ok x) f P is left = absurd (ok_is_no_fault x f is)
handed_on (Err e) f P is left = subst P (let same : f ≡ e = cc in same) left

-- whether one has a batch, after one more
batches_more : (wrote more told : Bool) (old mid new : ℕ) → told ≡ (wrote || more) → (wrote ≡ true → old < mid) × (wrote ≡ false → mid ≡ old) → new ≡ mid + (if more then 1 else 0)
    → (told ≡ true → old < new) × (told ≡ false → new ≡ old)
batches_more true true told old mid new is so_far one = (λ _. omega (arith, so_far.0 refl, one), λ no. absurd (let bad : true ≡ false = sym is ∙ no in cc))
batches_more true false told old mid new is so_far one = (λ _. omega (arith, so_far.0 refl, one), λ no. absurd (let bad : true ≡ false = sym is ∙ no in cc))
batches_more false true told old mid new is so_far one = (λ _. omega (arith, so_far.1 refl, one), λ no. absurd (let bad : true ≡ false = sym is ∙ no in cc))
batches_more false false told old mid new is so_far one = (λ yes. absurd (let bad : true ≡ false = sym yes ∙ is in cc), λ _. omega (arith, so_far.1 refl, one))

-- what is left behind an answer Ok that may be a fault
pub on_answer : {T E : Type 0} (r : Result T E) (P : Type 0) → ∥ OnOk r P ∥₁ → OnOk r (∥ P ∥₁)
on_answer (Ok x) P is = is
on_answer (Err e) P is = tt

-- what a crash leaves around an event that is handled after what was held is written
from_either : {M : Type 0} (m : Meaning M) (b : BookView) (t : List Entry) (e : Event) (c : BookView) → EitherOf b (m.book t) c → BookFrom m b t e c
from_either m b t e c (inl is) = inl is
from_either m b t e c (inr is) = inr (inl is)

pub leaves_held : {M : Type 0} (m : Meaning M) (new : M) (b : BookView) (t : List Entry) (e : Event) → m.leaves new (EitherOf b (m.book t)) → m.leaves new (BookFrom m b t e)
leaves_held m new b t e leaves = m.leaves_weaker new (EitherOf b (m.book t)) (BookFrom m b t e) (from_either m b t e) leaves

pub leaves_next : {M : Type 0} (m : Meaning M) (new : M) (b : BookView) (t : List Entry) (e : Event) → m.leaves new (BookAt m t e) → m.leaves new (BookFrom m b t e)
leaves_next m new b t e leaves = m.leaves_weaker new (BookAt m t e) (BookFrom m b t e) (λ c is. inr is) leaves

module _ {M : Type 0} (m : Meaning M) (old : M) (conn : ConnectionId) where
  -- what follows of each book that the files may keep
  pub of_each : {P : Type 0} (mid : M) (items : List Item) (t : List Entry) (b : BookView) → HoldsAmong m old mid conn items t b → ((c : BookView) → m.holds mid c → P) → P
  of_each mid items t b (inl h) all = all b h
  of_each mid items t b (inr h) all = all (m.book (after_items m old conn h.0 t)) h.3

  -- one item more
  after_first : (new : M) (items more : List Item) (t : List Entry) (b : BookView) → m.holds new b ⊎ m.holds new (m.book (after_items m old conn items t))
      → HoldsAmong m old new conn (items ++ more) t b
  after_first new items more t b (inl h) = inl h
  after_first new items more t b (inr h) = inr (items, more, refl, h)

  after_some : (new : M) (items more first rest : List Item) (t : List Entry) (b : BookView) → items ≡ first ++ rest
      → m.holds new (m.book (after_items m old conn first t)) ⊎ m.holds new (m.book (after_items m old conn items t)) → HoldsAmong m old new conn (items ++ more) t b
  after_some new items more first rest t b is (inl h) = inr (first, rest ++ more, ap (λ (l : List Item). l ++ more) is ∙ append_assoc first rest more, h)
  after_some new items more first rest t b is (inr h) = inr (items, more, refl, h)

  holds_more : (core new : M) (items more : List Item) (t : List Entry) (b : BookView) → HoldsAmong m old core conn items t b
      → ((c : BookView) → m.holds core c → m.holds new c ⊎ m.holds new (m.book (after_items m old conn items t))) → HoldsAmong m old new conn (items ++ more) t b
  holds_more core new items more t b (inl h) on = after_first new items more t b (on b h)
  holds_more core new items more t b (inr h) on = after_some new items more h.0 h.1 t b h.2 (on (m.book (after_items m old conn h.0 t)) h.3)

  -- a crash leaves one of these books
  either_first : (items : List Item) (t : List Entry) (b c : BookView) → EitherOf b (m.book (after_items m old conn items t)) c → BookAmong m old conn items t b c
  either_first items t b c (inl is) = inl is
  either_first items t b c (inr is) = inr (items, [], sym (append-nil items), is)

  either_some : (items first rest : List Item) (t : List Entry) (b c : BookView) → items ≡ first ++ rest
      → EitherOf (m.book (after_items m old conn first t)) (m.book (after_items m old conn items t)) c → BookAmong m old conn items t b c
  either_some items first rest t b c all (inl is) = inr (first, rest, all, is)
  either_some items first rest t b c all (inr is) = inr (items, [], sym (append-nil items), is)

  pub leaves_among : (core new : M) (items : List Item) (t : List Entry) (b : BookView) → HoldsAmong m old core conn items t b
      → ((c : BookView) → m.holds core c → m.leaves new (EitherOf c (m.book (after_items m old conn items t)))) → m.leaves new (BookAmong m old conn items t b)
  leaves_among core new items t b (inl h) leaves =
      m.leaves_weaker new (EitherOf b (m.book (after_items m old conn items t))) (BookAmong m old conn items t b) (either_first items t b) (leaves b h)
  leaves_among core new items t b (inr h) leaves =
      m.leaves_weaker new (EitherOf (m.book (after_items m old conn h.0 t)) (m.book (after_items m old conn items t))) (BookAmong m old conn items t b)
      (λ c. either_some items h.0 h.1 t b c h.2) (leaves (m.book (after_items m old conn h.0 t)) h.3)

  -- they are among those of more items
  among_more : (before items more : List Item) (t : List Entry) (b c : BookView) → before ≡ items ++ more → BookAmong m old conn items t b c → BookAmong m old conn before t b c
  among_more before items more t b c all (inl is) = inl is
  among_more before items more t b c all (inr is) = inr (is.0, is.1 ++ more, all ∙ ap (λ (l : List Item). l ++ more) is.2 ∙ append_assoc is.0 is.1 more, is.3)

  pub leaves_more : (new : M) (before items more : List Item) (t : List Entry) (b : BookView) → before ≡ items ++ more
      → m.leaves new (BookAmong m old conn items t b) → m.leaves new (BookAmong m old conn before t b)
  leaves_more new before items more t b all leaves =
      m.leaves_weaker new (BookAmong m old conn items t b) (BookAmong m old conn before t b) (λ c. among_more before items more t b c all) leaves

-- so many items of a queue were handed in, and whether one of them has a batch
pub record IsFar {M : Type 0} (m : Meaning M) (conn : ConnectionId) (before behind : List Item) (had has : Counts) (old new : M) (had_full has_full turn : ℕ) (wrote : Bool) : Type 0 where
  pub items : List Item
  pub queue : before ≡ items ++ behind
  pub turns : length items ≡ turn
  pub counted : has ≡ with_items turn had
  pub named : m.id new ≡ m.id old
  pub fits : (t : List Entry) → m.fits old t → m.fits new (handed (m.next (m.id old)) conn items t)
  pub batches : (t : List Entry) → m.fits old t → (wrote ≡ true → m.batches old < m.batches new) × (wrote ≡ false → m.batches new ≡ m.batches old)
  pub none : turn ≡ 0 → new ≡ old
  pub works : 0 < turn → m.is_failed new ≡ false
  pub holds : (t : List Entry) (b : BookView) → m.fits old t → m.holds old b → HoldsAmong m old new conn items t b
  pub failures : m.failures new ≡ m.failures old
  pub full : (t : List Entry) → m.fits old t → has_full ≡ min (had_full + found_full m (m.id old) conn items t) (2 ^ 64 - 1)

-- none yet
pub at_first : {M : Type 0} (m : Meaning M) (conn : ConnectionId) (before : List Item) (had : Counts) (core : M) (full : ℕ) → full < 2 ^ 64
    → IsFar m conn before before had had core core full full 0 false
at_first m conn before had core full fits = record {
  items = [];
  queue = refl;
  turns = refl;
  counted = ap (λ (i : ℕ). record had { items = i }) (let same : had.items ≡ had.items + 0 = omega arith in same);
  named = refl;
  fits = λ t fits. fits;
  batches = λ t fits. (λ is. absurd (let bad : false ≡ true = is in cc), λ _. refl);
  none = λ _. refl;
  works = λ some. absurd (omega (arith, some));
  holds = λ t b fits holds. inl holds;
  failures = refl;
  full = λ t f. grind (arith, fits);
}

no_items : (items : List Item) → length items ≡ 0 → items ≡ []
no_items [] none = refl
no_items (i ∷ is) none = absurd (omega (arith, none))

-- a machine that failed has handled none of them
none_handled : (turn : ℕ) (b : Bool) → (0 < turn → b ≡ false) → b ≡ true → turn ≡ 0
none_handled zero b works fails = refl
none_handled (suc n) b works fails = absurd (let bad : true ≡ false = sym fails ∙ works (omega arith) in cc)

module _ {M : Type 0} (m : Meaning M) (conn : ConnectionId) (before behind : List Item) (had mid : Counts) (old core : M) (had_full mid_full turn : ℕ) (wrote : Bool) (far : IsFar m conn before behind had mid old core had_full mid_full turn wrote) where
  -- one more
  pub further : (item : Item) (rest : List Item) (has : Counts) (new : M) (full : ℕ) (more told : Bool) → behind ≡ item ∷ rest → has ≡ with_event (event.Item conn item) mid
      → told ≡ (wrote || more)
      → ((t : List Entry) → m.fits core t → m.fits new (m.next (m.id core) t (step_of (event.Item conn item))))
      → ((t : List Entry) → m.fits core t → m.batches new ≡ m.batches core + (if more then 1 else 0))
      → m.id new ≡ m.id core → m.is_failed new ≡ false
      → ((t : List Entry) (b : BookView) → m.fits core t → m.holds core b → m.holds new b ⊎ m.holds new (m.book t))
      → m.failures new ≡ m.failures core → ((t : List Entry) → m.fits core t → full ≡ with_full (m.finds_full t (event.Item conn item)) mid_full)
      → IsFar m conn before rest had has old new had_full full (turn + 1) told
  further item rest has new full more told popped counted some fits written named works holds failures found = record {
    items = far.items ++ item ∷ [];
    queue = far.queue ∙ ap (λ l. far.items ++ l) popped ∙ sym (append_assoc far.items (item ∷ []) rest);
    turns = length-append far.items (item ∷ []) ∙ ap (λ n. n + 1) far.turns;
    counted = counted ∙ ap (with_event (event.Item conn item)) far.counted
        ∙ ap (λ (i : ℕ). record had { items = i }) (let same : (had.items + turn) + 1 ≡ had.items + (turn + 1) = omega arith in same);
    named = named ∙ far.named;
    fits = λ t f. subst (λ (u : List Entry). m.fits new u)
        (ap (λ i. m.next i (handed (m.next (m.id old)) conn far.items t) (step_of (event.Item conn item))) far.named ∙ sym (handed_more (m.next (m.id old)) conn far.items item t))
        (fits (handed (m.next (m.id old)) conn far.items t) (far.fits t f));
    batches = λ t f. batches_more wrote more told (m.batches old) (m.batches core) (m.batches new) some (far.batches t f) (written (handed (m.next (m.id old)) conn far.items t) (far.fits t f));
    none = λ same. absurd (omega (arith, same));
    works = λ _. works;
    holds = λ t b f h. holds_more m old conn core new far.items (item ∷ []) t b (far.holds t b f h) (λ c. holds (handed (m.next (m.id old)) conn far.items t) c (far.fits t f));
    failures = failures ∙ far.failures;
    full = λ t f. full_more had_full (found_full m (m.id old) conn far.items t) _ mid_full full (far.full t f) (found (handed (m.next (m.id old)) conn far.items t) (far.fits t f))
        ∙ ap (λ (n : ℕ). min (had_full + n) (2 ^ 64 - 1)) (sym (found_more m (m.id old) conn far.items item t));
  }

  -- a fault is answered to the next one
  pub refuses : (item : Item) (rest : List Item) (new : M) (full : ℕ) (fault : CoreFault) → behind ≡ item ∷ rest
      → (fault ≡ NoConnection → (new ≡ core) × ((t : List Entry) → m.fits core t → declines t (event.Item conn item) ≡ true))
      → (fault ≡ NoConnection → m.is_failed core ≡ false)
      → (fault ≡ Failed → (new ≡ core) × (m.is_failed core ≡ true)) → (fault ≡ Memory → m.is_failed new ≡ true) → (fault ≡ Disk → m.is_failed new ≡ true)
      → (fault ≡ Disk → m.failures core < m.failures new) → ((fault ≡ Disk → ⊥) → m.failures new ≡ m.failures core)
      → ((t : List Entry) (b : BookView) → m.fits core t → m.holds core b → m.leaves new (EitherOf b (m.book t)))
      → full ≡ mid_full → Refuses m conn before rest old new had_full full fault
  refuses item rest new full fault popped refused works_on failed memory disk cause no_other leaves same_full = record {
    items = far.items;
    item = item;
    queue = far.queue ∙ ap (λ l. far.items ++ l) popped;
    declined = λ is t f. (
      subst (λ (r : M). m.fits r (handed (m.next (m.id old)) conn far.items t)) (sym (refused is).0) (far.fits t f),
      (refused is).1 (handed (m.next (m.id old)) conn far.items t) (far.fits t f),
    );
    works = λ is. subst (λ (r : M). m.is_failed r ≡ false) (sym (refused is).0) (works_on is);
    held = λ is t b f h. subst (λ (r : M). HoldsAmong m old r conn far.items t b) (sym (refused is).0) (far.holds t b f h);
    failed = λ is.
        let first : turn ≡ 0 = none_handled turn (m.is_failed core) far.works (failed is).1 in
        let same : core ≡ old = far.none first in
        (no_items far.items (far.turns ∙ first), (failed is).0 ∙ same, subst (λ (r : M). m.is_failed r ≡ true) same (failed is).1);
    memory = memory;
    disk = disk;
    cause = λ is. let less = cause is in omega (arith, less, far.failures);
    no_other = λ isnt. no_other isnt ∙ far.failures;
    leaves = λ t b f h. leaves_among m old conn core new far.items t b (far.holds t b f h) (λ c. leaves (handed (m.next (m.id old)) conn far.items t) c (far.fits t f));
    full = λ t f. same_full ∙ far.full t f;
  }

  lengths : length before ≡ turn + length behind
  lengths = ap length far.queue ∙ length-append far.items behind ∙ ap (λ n. n + length behind) far.turns

  -- the items that were handed in are those that left the queue
  pub items_gone : far.items ≡ gone before behind
  items_gone = sym (ap (λ k. take k before) (let same : length before - length behind ≡ turn = omega (arith, lengths) in same ∙ sym far.turns)
      ∙ ap (take (length far.items)) far.queue ∙ take-append_seam far.items behind)

  pub all_held : (t : List Entry) (b : BookView) → m.fits old t → m.holds old b → HoldsAmong m old core conn (gone before behind) t b
  all_held t b f h = subst (λ (is : List Item). HoldsAmong m old core conn is t b) items_gone (far.holds t b f h)
