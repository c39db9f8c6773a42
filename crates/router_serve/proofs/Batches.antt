-- Batches that are written one after another.
use Rattle.std.proofs.Common.{◌≡◌, ◌∙◌, sym, ap, refl, subst, ℕ, ◌+◌, false, List, [], ◌∷◌, ◌++◌, length, Option, Result, Ok, Err, OnOk, OnErr, IfOk, arith}
use Rattle.std.proofs.Common.{append_assoc, append-nil}
use Rattle.std.specs.Io.KnownBytes.{Appends}
use Rattle.router_trace.specs.declared.event.ConnectionId.{ConnectionId}
use Rattle.core_machine.specs.declared.answers.Batch.{Batch}
use Rattle.core_machine.specs.declared.counts.Counts.{Counts}
use Rattle.core_machine.specs.declared.fault.CoreFault.{CoreFault}
use Rattle.core_machine.specs.Counting.{with_batch}
use Rattle.serve_streams.specs.declared.end.WriteEnd.{WriteEnd}
use Rattle.serve_streams.specs.Spelled.{spelled}
use Rattle.router_serve.specs.Wrote.{batches_spelled, items_in, EndsAt, Follow, GoesOn, IsAnswer, taken_by, with_batches, Wrote}
use Rattle.serve_streams.proofs.Appending.{appends_on}

-- all batches so far follow each other and were written
abbrev pub IsFar : (Batch → Type 0) → ConnectionId → ℕ → Option (List ℕ) → Option (List ℕ) → Counts → Counts → Type 0
IsFar Given c next before now old seat = (bs : List Batch) × Follow Given c 0 bs × (next ≡ items_in bs) × Appends before now (batches_spelled bs)
    × (seat ≡ with_batches (length bs) old)

-- one more batch
follow_more : (Given : Batch → Type 0) (c : ConnectionId) (n : ℕ) (bs : List Batch) (b : Batch) → Follow Given c n bs → Given b → b.conn ≡ c → b.first ≡ n + items_in bs → b.ended ≡ false
    → Follow Given c n (bs ++ b ∷ [])
follow_more Given c n [] b follow given whose first more = (given, whose, let f : b.first ≡ n = omega (arith, first) in f, more, tt)
follow_more Given c n (a ∷ bs) b follow given whose first more =
    (follow.0, follow.1, follow.2, follow.3, follow_more Given c (n + length a.items.items) bs b follow.4 given whose (omega (arith, first)) more)

items_more : (bs : List Batch) (b : Batch) → items_in (bs ++ b ∷ []) ≡ items_in bs + length b.items.items
items_more [] b = omega arith
items_more (a ∷ bs) b = omega (arith, items_more bs b)

spelled_more : (bs : List Batch) (b : Batch) → batches_spelled (bs ++ b ∷ []) ≡ batches_spelled bs ++ spelled b.items.items
spelled_more [] b = append-nil (spelled b.items.items)
spelled_more (a ∷ bs) b = ap (λ (xs : List ℕ). spelled a.items.items ++ xs) (spelled_more bs b)
    ∙ sym (append_assoc (spelled a.items.items) (batches_spelled bs) (spelled b.items.items))

length_more : (bs : List Batch) (b : Batch) → length (bs ++ b ∷ []) ≡ length bs + 1
length_more [] b = refl
length_more (a ∷ bs) b = omega (arith, length_more bs b)

-- counts
counts_more : (j k : ℕ) (n : Counts) → with_batches k (with_batches j n) ≡ with_batches (j + k) n
counts_more j k n = ap (λ (i : ℕ). record n { batches = i }) (omega arith)

pub no_more : (n : Counts) → n ≡ with_batches 0 n
no_more n = ap (λ (i : ℕ). record n { batches = i }) (let same : n.batches ≡ n.batches + 0 = omega arith in same)

-- what an answer is, and counts
pub is_answer : (Given : Batch → Type 0) (c : ConnectionId) (r : Result Batch CoreFault) → IfOk r Given → IfOk r (λ b. b.conn ≡ c) → IsAnswer Given c r
is_answer Given c (Ok b) given whose = (given, whose)
is_answer Given c (Err f) given whose = tt

pub counts_one : (r : Result Batch CoreFault) (old new : Counts) → OnOk r (new ≡ with_batch old) → OnErr r (new ≡ old) → new ≡ with_batches (taken_by r) old
counts_one (Ok b) old new counted uncounted = counted
counts_one (Err f) old new counted uncounted = uncounted ∙ no_more old

-- a writer that has just begun
pub begins : (Given : Batch → Type 0) (c : ConnectionId) (now : Option (List ℕ)) (old : Counts) → Appends now now [] → IsFar Given c 0 now now old old
begins Given c now old nothing = ([], tt, refl, nothing, no_more old)

-- a writer that continues
pub goes : (Given : Batch → Type 0) (c : ConnectionId) (next behind : ℕ) (before mid now : Option (List ℕ)) (old seat new : Counts) (r : Result Batch CoreFault)
    → IsFar Given c next before mid old seat → IsAnswer Given c r → GoesOn r next behind mid now → new ≡ with_batches (taken_by r) seat → IsFar Given c behind before now old new
goes Given c next behind before mid now old seat new (Err f) far answer more counted = elim more [ ]
goes Given c next behind before mid now old seat new (Ok b) far answer more counted = let bs = far.0 in (
  bs ++ b ∷ [],
  follow_more Given c 0 bs b far.1 answer.0 answer.1 (omega (arith, more.0, far.2)) more.2,
  omega (arith, more.1, far.2, items_more bs b),
  subst (λ (ys : List ℕ). Appends before now ys) (sym (spelled_more bs b)) (appends_on before mid now (batches_spelled bs) (spelled b.items.items) far.3 more.3),
  counted ∙ (ap with_batch far.4 ∙ (counts_more (length bs) 1 old ∙ ap (λ (k : ℕ). with_batches k old) (sym (length_more bs b)))),
)

-- a writer that ends
pub ends : (Given : Batch → Type 0) (c : ConnectionId) (next : ℕ) (before mid now : Option (List ℕ)) (old seat new : Counts) (r : Result Batch CoreFault) (e : WriteEnd)
    → IsFar Given c next before mid old seat → IsAnswer Given c r → EndsAt r e next mid now → new ≡ with_batches (taken_by r) seat → Wrote Given c before now old new e
ends Given c next before mid now old seat new r e far answer over counted = record {
  batches = far.0;
  follow = far.1;
  mid = mid;
  bytes = far.3;
  last = r;
  answer = answer;
  ends = subst (λ (n : ℕ). EndsAt r e n mid now) far.2 over;
  counted = counted ∙ (ap (with_batches (taken_by r)) far.4 ∙ counts_more (length far.0) (taken_by r) old);
}
