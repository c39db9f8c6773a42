-- What readers' seats count.
use Rattle.std.proofs.Common.{◌≡◌, ◌∙◌, sym, ap, ℕ, ◌+◌, ◌-◌, ◌≤◌, ◌⊎◌, inl, inr, false, Result, IsOk, Ok, Err, OnOk, OnErr, List, [], ◌∷◌, ◌++◌, Option, length, arith}
use Rattle.std.proofs.lemmas.List.{length-append, length-drop}
use Rattle.std.specs.Iterator.{Yields}
use Rattle.std.specs.Vec.Iter.{into_iter_items, into_iter_steps}
use Rattle.std.specs.declared.vec.IntoIter.{IntoIter}
use Rattle.amqp_model.specs.declared.item.Item.{Item}
use Rattle.amqp_frames.specs.Cuts.{Stream}
use Rattle.core_machine.specs.declared.counts.Counts.{Counts}
use Rattle.core_machine.specs.declared.fault.CoreFault.{CoreFault}
use Rattle.serve_streams.specs.declared.end.ReadEnd.{ReadEnd}
use Rattle.serve_streams.specs.declared.end.ReadEnd.TheVariants as end
use Rattle.serve_lock.specs.Adding.{Handled, with_items}
use Rattle.router_serve.specs.Submitting.{CountsGone, CountsSome, HandsIn, Hinders, IsCore, losses, with_downs, needs_down, Submitted}

-- items, then more of them
pub items_added : (n : Counts) (j k : ℕ) → with_items k (with_items j n) ≡ with_items (j + k) n
items_added n j k = ap (λ (i : ℕ). record n { items = i }) (let same : (n.items + j) + k ≡ n.items + (j + k) = omega arith in same)

no_items : (n : Counts) → n ≡ with_items 0 n
no_items n = ap (λ (i : ℕ). record n { items = i }) (let same : n.items ≡ n.items + 0 = omega arith in same)

pub none_counted : (n : Counts) (most : ℕ) → CountsSome n n most
none_counted n most = record { items = 0; within = omega arith; counted = no_items n }

-- no loss
pub no_downs : (n : Counts) → n ≡ with_downs 0 n
no_downs n = ap (λ (i : ℕ). record n { downs = i }) (let same : n.downs ≡ n.downs + 0 = omega arith in same)

-- a loss that is reported, or refused
pub told : (r : Result (Unit {0}) CoreFault) (old mid new : Counts) (over : List Item) (before behind : Stream) (source left : Option (List ℕ)) (e : ReadEnd)
    → HandsIn old mid over before behind source left e → (needs_down e ≡ false → IsOk r) → OnOk r (new ≡ with_downs (losses e r) mid) → OnErr r (new ≡ mid)
    → Submitted old new over before behind source left e r
told (Ok x) old mid new over before behind source left e items not_again counted uncounted = record {
  counts = mid;
  items = items;
  not_again = not_again;
  counted = counted;
}
told (Err x) old mid new over before behind source left e items not_again counted uncounted = record {
  counts = mid;
  items = items;
  not_again = not_again;
  counted = uncounted ∙ no_downs mid;
}

-- items left a queue, then more of them
pub gone_joined : (a b c : Counts) (xs ys zs : List Item) → CountsGone a b xs ys → CountsGone b c ys zs → CountsGone a c xs zs
gone_joined a b c xs ys zs first more = record {
  items = first.items + more.items;
  gone = omega (arith, first.gone, more.gone);
  counted = more.counted ∙ (ap (with_items more.items) first.counted ∙ items_added a first.items more.items);
}

pub none_gone : (n : Counts) (xs : List Item) → CountsGone n n xs xs
none_gone n xs = record { items = 0; gone = omega arith; counted = no_items n }

-- those that were handed in have left it
pub handed_gone : (old new : Counts) (before behind : List Item) → Handled 0 old new before behind → CountsGone old new before behind
handed_gone old new before behind h = record {
  items = h.items;
  gone = let left : length behind ≡ length before - (h.items + 0) = ap length h.left ∙ length-drop (h.items + 0) before in omega (arith, h.there, left);
  counted = h.counted;
}

-- all that left it were handled, or one of them was refused
pub refused_some : (old new : Counts) (before behind : List Item) → Handled 0 old new before behind ⊎ Handled 1 old new before behind → CountsSome old new (length before)
refused_some old new before behind (inl h) = record { items = h.items; within = omega (arith, h.there); counted = h.counted }
refused_some old new before behind (inr h) = record { items = h.items; within = omega (arith, h.there); counted = h.counted }

-- items left a queue, and of those after them some are counted
pub some_behind : (a b c : Counts) (xs ys : List Item) (n : ℕ) → length xs ≤ n → CountsGone a b xs ys → CountsSome b c (length ys) → CountsSome a c n
some_behind a b c xs ys n most first more = record {
  items = first.items + more.items;
  within = omega (arith, first.gone, more.within, most);
  counted = more.counted ∙ (ap (with_items more.items) first.counted ∙ items_added a first.items more.items);
}

pub some_gone : (a b : Counts) (xs ys : List Item) (n : ℕ) → length xs ≤ n → CountsGone a b xs ys → CountsSome a b n
some_gone a b xs ys n most first = record { items = first.items; within = omega (arith, first.gone, most); counted = first.counted }

-- what the iterator of a vector has given is a front of its items
taken_front : {X A : Type 0} (s : IntoIter X A) (xs : List X) (t : IntoIter X A) → Yields into_iter_steps s xs t → into_iter_items s ≡ xs ++ into_iter_items t
taken_front s [] t y = ap into_iter_items y
taken_front s (x ∷ xs) t y = y.1.0 ∙ ap (λ ys. x ∷ ys) (taken_front y.0 xs t y.2)

pub no_longer : {X A : Type 0} (s : IntoIter X A) (xs ys : List X) (t : IntoIter X A) → into_iter_items s ≡ ys → Yields into_iter_steps s xs t → length xs ≤ length ys
no_longer s xs ys t all y = omega (arith, ap length (sym all ∙ taken_front s xs t y), length-append xs (into_iter_items t))

-- one came to it
pub one_came : (old new : Counts) (came passed : List Item) (item : Item) → CountsGone old new came passed → CountsGone old new (came ++ item ∷ []) (passed ++ item ∷ [])
one_came old new came passed item so_far = record {
  items = so_far.items;
  gone = omega (arith, so_far.gone, length-append came (item ∷ []), length-append passed (item ∷ []));
  counted = so_far.counted;
}

-- all have left it
pub all_gone : (old new : Counts) (before behind : List Item) → CountsGone old new before behind → behind ≡ [] → new ≡ with_items (length before) old
all_gone old new before behind all none = all.counted
    ∙ ap (λ k. with_items k old) (let empty : length behind ≡ 0 = ap length none in let same : all.items ≡ length before = omega (arith, all.gone, empty) in same)

-- a fault of the router is why the others aren't submitted
pub core_hinders : (e : ReadEnd) (old new : Counts) (items : List Item) → IsCore e → CountsSome old new (length items) → Hinders e old new items
core_hinders (end.Core fault) old new items is some = some
core_hinders end.End old new items is some = elim is [ ]
core_hinders end.ReadFailed old new items is some = elim is [ ]
core_hinders end.Memory old new items is some = elim is [ ]
core_hinders end.Door old new items is some = elim is [ ]
core_hinders end.WriteFailed old new items is some = elim is [ ]
