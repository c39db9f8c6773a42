-- What is known of a core, in the words of the trait that it is used through.
use Rattle.std.specs.Prelude.{◌≡◌, ℕ}
use Rattle.std.proofs.Common.{refl, subst}
use Rattle.disk_core.specs.Twin.{Contents}
use Rattle.book_model.specs.Book.{BookView}
use Rattle.twin_journal.specs.Holding.{HoldsUpTo}
use Rattle.twin_journal.specs.Journal.{batch_count}
use Rattle.twin_journal.specs.Keeping.{held_opens, kept_is_held}
use Rattle.journal_store.specs.Store.{OpensTo, Stands, StandsBehind, count_of, twin_of, journal_of}
use Rattle.journal_store.specs.declared.store.Store.{Store}
use Rattle.route_table.specs.Places.{routing_of}
use Rattle.route_table.specs.Settings.{Settings}
use Rattle.router_trace.specs.Trace.{Beginning}
use Rattle.reply_rows.specs.Acts.{acts_of, book_in, book_after_event, finds_full, journaled}
use Rattle.core_machine.specs.Meaning.{Meaning, Kept}
use Rattle.router_core.specs.declared.router.Core.{Core}
use Rattle.router_core.specs.Handling.{Fits, id_of, is_failed, counts_of, store_of, kept_book}
use Rattle.router_core.specs.Replies.{handled}

-- its two files keep its book, and that is this one
abbrev pub KeepsBook : {T : Type 0} → (T → Contents) → (T → Contents → Type 0) → Core T → BookView → Type 0
KeepsBook seen may_leave core b = Stands seen may_leave (store_of core) × (kept_book core ≡ b)

-- its two files keep this book, and the batches that are held lead from there to its own
abbrev pub HoldsBehind : {T : Type 0} → (T → Contents) → (T → Contents → Type 0) → Core T → BookView → Type 0
HoldsBehind seen may_leave core kept = StandsBehind seen may_leave (store_of core) kept

-- whatever a crash leaves of its two files opens to a book with this property
abbrev pub LeavesBook : {T : Type 0} → (T → Contents → Type 0) → Core T → (BookView → Type 0) → Type 0
LeavesBook may_leave core P = (contents : Contents) → may_leave (twin_of (store_of core)) contents → (b : BookView) × OpensTo contents b × P b

-- How these go together: files that keep a book hold nothing that leads elsewhere; of those that keep one a crash leaves just that; and what a crash leaves has
-- each property that follows.
pub kept_is_behind : {T : Type 0} (seen : T → Contents) (may_leave : T → Contents → Type 0) (core : Core T) (b : BookView) → KeepsBook seen may_leave core b → HoldsBehind seen may_leave core b
kept_is_behind seen may_leave core b keeps =
    subst (λ (x : BookView). StandsBehind seen may_leave (store_of core) x) keeps.1 (kept_is_held seen may_leave (journal_of (store_of core)) (kept_book core) keeps.0)

pub behind_leaves : {T : Type 0} (seen : T → Contents) (may_leave : T → Contents → Type 0) (core : Core T) (b : BookView) → HoldsBehind seen may_leave core b → LeavesBook may_leave core (λ c. c ≡ b)
behind_leaves seen may_leave core b holds contents left = (b, held_opens seen may_leave (journal_of (store_of core)) b (kept_book core) contents holds left, refl)

pub leaves_more : {T : Type 0} (may_leave : T → Contents → Type 0) (core : Core T) (P Q : BookView → Type 0) → ((b : BookView) → P b → Q b) → LeavesBook may_leave core P → LeavesBook may_leave core Q
leaves_more may_leave core P Q wider leaves contents left = let has = leaves contents left in (has.0, has.1, wider has.0 has.2)

-- two files are a journal that keeps this
abbrev pub HoldsKept : Contents → Kept → Type 0
HoldsKept contents k = HoldsUpTo contents k.book k.batches k.last

-- whatever a crash leaves of its two files keeps something with this property
abbrev pub LeavesKept : {T : Type 0} → (T → Contents → Type 0) → Core T → (Kept → Type 0) → Type 0
LeavesKept may_leave core P = (contents : Contents) → may_leave (twin_of (store_of core)) contents → (k : Kept) × HoldsKept contents k × P k

abbrev pub core_meaning : {T : Type 0} → (T → Contents) → (T → Contents → Type 0) → (T → ℕ) → Meaning (Core T)
core_meaning {T} seen may_leave failures = record {
  fits = Fits;
  id = id_of;
  is_failed = is_failed;
  counts = counts_of;
  batches = λ core. batch_count (journal_of (store_of core));
  Store = Store T;
  store = store_of;
  failures = λ core. failures (twin_of (store_of core));
  keeps = KeepsBook seen may_leave;
  holds = HoldsBehind seen may_leave;
  leaves = LeavesBook may_leave;
  leaves_journal = LeavesKept may_leave;
  next = handled;
  acts = acts_of;
  finds_full = λ t e. finds_full (journaled t) t e;
  book = book_in;
  next_book = book_after_event;
  kept_is_held = kept_is_behind seen may_leave;
  held_leaves = behind_leaves seen may_leave;
  leaves_weaker = leaves_more may_leave;
}

-- what a core was opened with: its configuration, and the book and the number of batches of the journal that it found
abbrev pub opening_of : {T : Type 0} → Settings → Core T → Beginning
opening_of settings core = record { routing = routing_of settings; book = kept_book core; batches = count_of (store_of core) }
