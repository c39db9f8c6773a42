-- The last batch of a journal's list.
use Rattle.std.proofs.Common.{◌≡◌, ◌≢◌, ◌∙◌, sym, ap, refl, subst, ℕ, ◌+◌, ◌≤◌, Bool, true, false, List, [], ◌∷◌, ◌++◌, length, append_assoc, append-nil, arith}
use Rattle.std.specs.Prelude.{◌==◌, nat_lt, if◌then◌else◌, Option, Some, None, Result, Ok, Err, OnOk}
use Rattle.disk_core.specs.Twin.{Contents}
use Rattle.std.proofs.lemmas.Bool.{eqb-true, eq-eqb}
use Rattle.book_model.specs.declared.act.Act.{Act}
use Rattle.book_model.specs.Book.{BookView, effects}
use Rattle.journal_codec.specs.Format.{batch}
use Rattle.journal_codec.specs.Batches.{AllApply, IsBatch}
use Rattle.gate_journal.specs.declared.listing.Entry.{Entry}
use Rattle.gate_journal.specs.Listing.{placed, entries_from}
use Rattle.twin_journal.specs.Format.{magic}
use Rattle.twin_journal.specs.Holding.{last_of}
use Rattle.twin_journal.specs.Listed.{IsListed}
use Rattle.twin_journal.specs.declared.listing.Checkpoint.{Checkpoint}
use Rattle.core_machine.specs.Meaning.{Kept}
use Rattle.core_player.specs.declared.entry.Entry.TheVariants as shown
use Rattle.core_player.specs.declared.recorder.Cut.{Cut}
use Rattle.router_core.specs.Machine.{HoldsKept}
use Rattle.router_play.specs.Entries.{survivor, Survives}
use Rattle.router_play.specs.Grouping.{is_at, grouped, Group}

abbrev group_of : ℕ → List Act → Group
group_of n acts = record { number = n; acts = acts }

-- the last of these batches, or what was before them
abbrev or_last : List Act → List (List Act) → List Act
or_last acts [] = acts
or_last acts (b ∷ bs) = or_last b bs

last_or : (b : List Act) (bs : List (List Act)) → or_last b bs ≡ last_of (b ∷ bs)
last_or b [] = refl
last_or b (c ∷ bs) = last_or c bs

is_last : (bs : List (List Act)) → or_last [] bs ≡ last_of bs
is_last [] = refl
is_last (b ∷ bs) = last_or b bs

same_place : (place : ℕ) → (place == place) ≡ true
same_place place = eq-eqb place place refl

-- the acts of one batch, behind some of them
one_batch : (n place : ℕ) (done acts : List Act) (xs : List Entry) → grouped n (Some place) done (placed place acts ++ xs) ≡ grouped n (Some place) (done ++ acts) xs
one_batch n place done [] xs = ap (λ (ys : List Act). grouped n (Some place) ys xs) (sym (append-nil done))
one_batch n place done (act ∷ acts) xs =
    ap (λ (b : Bool). if b then grouped n (Some place) (done ++ act ∷ []) (placed place acts ++ xs) else grouped (n + 1) (Some place) (act ∷ []) (placed place acts ++ xs)) (same_place place)
    ∙ one_batch n place (done ++ act ∷ []) acts xs
    ∙ ap (λ (ys : List Act). grouped n (Some place) ys xs) (append_assoc done (act ∷ []) acts)

-- a gate below these places
abbrev IsBelow : Option ℕ → ℕ → Type 0
IsBelow gate place = (p : ℕ) → place ≤ p → is_at gate p ≡ false

behind_one : (place more p : ℕ) → place + 1 + more ≤ p → (place == p) ≡ false
behind_one place more p far = by (place == p) refl
  where
    by : (b : Bool) → (place == p) ≡ b → (place == p) ≡ false
    by false is = is
    by true is = absurd (let same : place ≡ p = eqb-true place p is in omega (arith, far, same))

-- one batch more, and those behind it
batch_first : (n : ℕ) (gate : Option ℕ) (done : List Act) (place : ℕ) (b : List Act) (bs : List (List Act)) (rest : List Entry) → b ≢ [] → IsBelow gate place
    → grouped (n + 1) (Some place) b rest ≡ group_of (n + 1 + length bs) (or_last b bs) → grouped n gate done (placed place b ++ rest) ≡ group_of (n + length (b ∷ bs)) (or_last b bs)
batch_first n gate done place [] bs rest some below others = absurd (some refl)
batch_first n gate done place (act ∷ acts) bs rest some below others =
    ap (λ (b : Bool). if b then grouped n gate (done ++ act ∷ []) (placed place acts ++ rest) else grouped (n + 1) (Some place) (act ∷ []) (placed place acts ++ rest))
    (below place (let le : place ≤ place = omega arith in le))
    ∙ one_batch (n + 1) place (act ∷ []) acts rest
    ∙ others
    ∙ ap (λ (k : ℕ). group_of k (or_last (act ∷ acts) bs)) (let same : n + 1 + length bs ≡ n + length ((act ∷ acts) ∷ bs) = omega arith in same)

all_batches : (start : BookView) (n : ℕ) (gate : Option ℕ) (done : List Act) (place : ℕ) (bs : List (List Act)) → AllApply start bs → IsBelow gate place
    → grouped n gate done (entries_from place bs) ≡ group_of (n + length bs) (or_last done bs)
unfolding AllApply entries_from
all_batches start n gate done place [] valid below = ap (λ (k : ℕ). group_of k done) (let same : n ≡ n + 0 = omega arith in same)
all_batches start n gate done place (b ∷ bs) valid below =
    batch_first n gate done place b bs (entries_from (place + 1 + length (batch b)) bs) valid.0.some below
    (all_batches (effects start b) (n + 1) (Some place) b (place + 1 + length (batch b)) bs valid.2 (λ p far. behind_one place (length (batch b)) p far))

-- from the first one on
pub last_batch : (start : BookView) (n place : ℕ) (bs : List (List Act)) (entries : List Entry) → AllApply start bs → entries ≡ entries_from place bs
    → grouped n None [] entries ≡ group_of (n + length bs) (last_of bs)
last_batch start n place bs entries valid is =
    ap (grouped n None []) is ∙ all_batches start n None [] place bs valid (λ p far. refl) ∙ ap (group_of (n + length bs)) (is_last bs)

-- what a walk over all of them says of the last one
pub group_told : (base number : ℕ) (gate : Option ℕ) (acts : List Act) (listed rest : List Entry) → length rest ≡ 0 → grouped number gate acts rest ≡ grouped base None [] listed
    → (place : ℕ) (start : BookView) (bs : List (List Act)) → AllApply start bs → listed ≡ entries_from place bs → (number ≡ base + length bs) × (acts ≡ last_of bs)
group_told base number gate acts listed (x ∷ rest) none walked place start bs valid is = absurd (omega (arith, none))
group_told base number gate acts listed [] none walked place start bs valid is =
    let all : group_of number acts ≡ group_of (base + length bs) (last_of bs) = walked ∙ last_batch start base place bs listed valid is in
    (ap (λ (g : Group). g.number) all, ap (λ (g : Group). g.acts) all)

-- one act more: of the same batch, or the first of the next one
pub same_batch : {A E : Type 0} (r : Result A E) (n : ℕ) (gate : Option ℕ) (done new : List Act) (x : Entry) → is_at gate x.place ≡ true → OnOk r (new ≡ done ++ x.act ∷ [])
    → OnOk r ((others : List Entry) → grouped n gate new others ≡ grouped n gate done (x ∷ others))
same_batch (Err e) n gate done new x at added = tt
same_batch (Ok v) n gate done new x at added = λ others.
    ap (λ (ys : List Act). grouped n gate ys others) added
    ∙ sym (ap (λ (b : Bool). if b then grouped n gate (done ++ x.act ∷ []) others else grouped (n + 1) (Some x.place) (x.act ∷ []) others) at)

pub next_batch : {A E : Type 0} (r : Result A E) (n number : ℕ) (gate place : Option ℕ) (done begun new : List Act) (x : Entry) → is_at gate x.place ≡ false → number ≡ n + 1 → place ≡ Some x.place → begun ≡ []
    → OnOk r (new ≡ begun ++ x.act ∷ []) → OnOk r ((others : List Entry) → grouped number place new others ≡ grouped n gate done (x ∷ others))
next_batch (Err e) n number gate place done begun new x at counted there none added = tt
next_batch (Ok v) n number gate place done begun new x at counted there none added = λ others.
    ap (λ (k : ℕ). grouped k place new others) counted
    ∙ ap (λ (p : Option ℕ). grouped (n + 1) p new others) there
    ∙ ap (λ (ys : List Act). grouped (n + 1) (Some x.place) ys others) (added ∙ ap (λ (ys : List Act). ys ++ x.act ∷ []) none)
    ∙ sym (ap (λ (b : Bool). if b then grouped n gate (done ++ x.act ∷ []) others else grouped (n + 1) (Some x.place) (x.act ∷ []) others) at)

-- a journal's list tells what it keeps
pub listed_keeps : (contents : Contents) (checkpoint : Checkpoint) (entries : List Entry) (place : ℕ) (book : BookView) (number : ℕ) (acts : List Act) → IsListed contents checkpoint entries place book
    → ((at : ℕ) (start : BookView) (bs : List (List Act)) → AllApply start bs → entries ≡ entries_from at bs → (number ≡ checkpoint.base + length bs) × (acts ≡ last_of bs))
    → HoldsKept contents (record { book = book; batches = number; last = acts })
listed_keeps contents checkpoint entries place book number acts is told =
    let l = is.listed in
    let two = told (length (magic ++ 1 ∷ is.stamp)) is.start l.batches l.holds.valid l.entries_are in record {
      base = checkpoint.base;
      start = is.start;
      batches = l.batches;
      holds = record { side = is.side; epoch = checkpoint.epoch; size = is.size; stamp = is.stamp; on = record { is_stamp = is.is_stamp; holds = l.holds; idle = is.idle } };
      leaves = l.book_is;
      counted = two.0;
      last_is = two.1;
    }

-- whether the event survived
pub survives_if : (cut : Cut) (k : Kept) (b : Bool) → nat_lt cut.batches k.batches ≡ b → survivor cut k ≡ (if b then shown.Event cut.came k.last ∷ [] else [])
survives_if cut k b is = ap (λ (x : Bool). if x then shown.Event cut.came k.last ∷ [] else []) is

pub left_over : (contents : Contents) (checkpoint : Checkpoint) (entries : List Entry) (place : ℕ) (book : BookView) (number : ℕ) (acts : List Act) → IsListed contents checkpoint entries place book
    → ((at : ℕ) (start : BookView) (bs : List (List Act)) → AllApply start bs → entries ≡ entries_from at bs → (number ≡ checkpoint.base + length bs) × (acts ≡ last_of bs))
    → (cut : Cut) (b : Bool) → nat_lt cut.batches number ≡ b → Survives (Some cut) contents (if b then shown.Event cut.came acts ∷ [] else [])
left_over contents checkpoint entries place book number acts is told cut b later =
    let k : Kept = record { book = book; batches = number; last = acts } in
    (k, listed_keeps contents checkpoint entries place book number acts is told, sym (survives_if cut k b later))
