-- What a reader hands in, read by read.
use Rattle.std.proofs.Common.{◌≡◌, ◌∙◌, sym, ap, refl, subst, ℕ, suc, ◌+◌, ◌-◌, ◌<◌, Bool, true, false, List, [], ◌∷◌, ◌++◌, length, Option, arith, append-nil, length-append, ◌⊎◌, inl, inr}
use Rattle.std.specs.Prelude.{slice_get}
use Rattle.std.proofs.KnownBytes.{Consumes-nil, Consumes-trans}
use Rattle.std.specs.Io.KnownBytes.{Consumes, IsAtEnd}
use Rattle.amqp_model.specs.declared.frame_fault.FrameFault.{FrameFault}
use Rattle.amqp_model.specs.declared.item.Item.{Item}
use Rattle.amqp_model.specs.declared.item.Item.TheVariants as item
use Rattle.amqp_frames.specs.Cuts.{Cuts, Stream}
use Rattle.core_machine.specs.declared.counts.Counts.{Counts}
use Rattle.serve_streams.specs.declared.end.ReadEnd.{ReadEnd}
use Rattle.serve_streams.specs.declared.end.ReadEnd.TheVariants as end
use Rattle.serve_streams.specs.Greeting.{Gives, Stops}
use Rattle.serve_lock.specs.Adding.{with_items}
use Rattle.router_serve.specs.Submitting.{CountsSome, ends_badly, HandsIn, Hinders, is_bad, is_whole}
use Rattle.serve_streams.proofs.Streams.{at_end, Came, gives_more, gives_nothing, gives_the_same, none_after}
use Rattle.router_serve.proofs.Submits.{items_added, none_counted}

-- the last item of a list is that of its end
last_after : (xs ys : List Item) (y : Item) → slice_get (xs ++ y ∷ ys) (length (xs ++ y ∷ ys) - 1) ≡ slice_get (y ∷ ys) (length (y ∷ ys) - 1)
last_after [] ys y = refl
last_after (x ∷ xs) ys y =
    let n = length (xs ++ y ∷ ys) in
    let some : n ≡ length xs + suc (length ys) = length-append xs (y ∷ ys) in
    let more : (suc n) - 1 ≡ suc (n - 1) = omega (arith, some) in
    ap (λ (i : ℕ). slice_get (x ∷ (xs ++ y ∷ ys)) i) more ∙ last_after xs ys y

ends_as : (xs ys : List Item) → ends_badly ys ≡ true → ends_badly (xs ++ ys) ≡ true
ends_as xs [] bad = absurd cc
ends_as xs (y ∷ ys) bad = ap is_bad (last_after xs ys y) ∙ bad

bad_at_end : (xs : List Item) (f : FrameFault) → ends_badly (xs ++ item.Bad f ∷ []) ≡ true
bad_at_end xs f = ap is_bad (last_after xs [] (item.Bad f))

-- where the items don't end badly the reader hasn't met bytes that are no item
still_reads : (old mid : Stream) (bs : List ℕ) (is : List Item) → Gives old bs is mid → ends_badly is ≡ false → mid.failed ≡ true → old.failed ≡ true
still_reads old mid bs is (inl h) well t = sym (ap (λ (s : Stream). s.failed) h.2) ∙ t
still_reads old mid bs is (inr h) well t =
    let cut : Cuts true (old.rest ++ bs) is mid.rest = subst (λ (f : Bool). Cuts f (old.rest ++ bs) is mid.rest) t h.1 in
    absurd (let bad : true ≡ false = sym (bad_at_end cut.0 cut.1) ∙ (ap ends_badly (sym cut.2) ∙ well) in cc)

-- a reader so far: all items that were left over and that came are counted
abbrev pub IsFar : Counts → List Item → Stream → Option (List ℕ) → Counts → Stream → Option (List ℕ) → Type 0
IsFar first over before source now mid left = (bytes : List ℕ) × (items : List Item) × Consumes source left bytes × Gives before bytes items mid
    × (now ≡ with_items (length (over ++ items)) first) × (mid.failed ≡ true → before.failed ≡ true)

pub begins : (first now : Counts) (over : List Item) (before : Stream) (source : Option (List ℕ)) → now ≡ with_items (length over) first → IsFar first over before source now before source
begins first now over before source counted = (
  [],
  [],
  Consumes-nil source,
  gives_nothing before,
  counted ∙ ap (λ (xs : List Item). with_items (length xs) first) (sym (append-nil over)),
  λ t. t,
)

-- the items so far and those that came
longer : (over is js : List Item) → length (over ++ is) + length js ≡ length (over ++ (is ++ js))
longer over is js = omega (arith, length-append over is, length-append is js, length-append over (is ++ js))

counted_on : (first now next : Counts) (over is js : List Item) → now ≡ with_items (length (over ++ is)) first → next ≡ with_items (length js) now
    → next ≡ with_items (length (over ++ (is ++ js))) first
counted_on first now next over is js far counted =
    counted ∙ (ap (with_items (length js)) far ∙ (items_added first (length (over ++ is)) (length js) ∙ ap (λ (n : ℕ). with_items n first) (longer over is js)))

pub goes_on : (first now next : Counts) (over : List Item) (before mid new : Stream) (source left less : Option (List ℕ)) (items : List Item)
    → IsFar first over before source now mid left → Came left less mid items new → next ≡ with_items (length items) now → ends_badly items ≡ false
    → IsFar first over before source next new less
goes_on first now next over before mid new source left less items far read counted well = (
  far.0 ++ read.0,
  far.1 ++ items,
  Consumes-trans source left less far.0 read.0 far.2 read.1,
  gives_more before mid new far.0 read.0 far.1 items far.5 far.3 read.2,
  counted_on first now next over far.1 items far.4 counted,
  λ t. far.5 (still_reads mid new read.0 items read.2 well t),
)

-- a reader that ends with some of the items counted
some_in : (first new : Counts) (over : List Item) (before behind : Stream) (source left : Option (List ℕ)) (e : ReadEnd) (bs : List ℕ) (is : List Item)
    → Consumes source left bs → Gives before bs is behind → CountsSome first new (length (over ++ is)) → is_whole e ≡ false → (e ≡ end.End → ⊥)
    → HandsIn first new over before behind source left e
some_in first new over before behind source left e bs is read gives some part other = record {
  bytes = bs;
  lost = [];
  came = none_after source left bs read;
  items = is;
  kept = behind;
  given = gives;
  count = some.items;
  counted = some.counted;
  within = some.within;
  all = λ whole. absurd (let bad : true ≡ false = sym whole ∙ part in cc);
  none_lost = λ _. (refl, refl);
  ended = λ same. absurd (other same);
}

-- and with all of them
all_in : (first new : Counts) (over : List Item) (before behind : Stream) (source left : Option (List ℕ)) (e : ReadEnd) (bs : List ℕ) (is : List Item)
    → Consumes source left bs → Gives before bs is behind → new ≡ with_items (length (over ++ is)) first
    → (e ≡ end.End → IsAtEnd left ⊎ (before.failed ≡ true) ⊎ (ends_badly (over ++ is) ≡ true)) → HandsIn first new over before behind source left e
all_in first new over before behind source left e bs is read gives counted over_by = record {
  bytes = bs;
  lost = [];
  came = none_after source left bs read;
  items = is;
  kept = behind;
  given = gives;
  count = length (over ++ is);
  counted = counted;
  within = omega arith;
  all = λ _. refl;
  none_lost = λ _. (refl, refl);
  ended = over_by;
}

memory_apart : end.Memory ≡ end.End → ⊥
memory_apart e = absurd cc

failed_apart : end.ReadFailed ≡ end.End → ⊥
failed_apart e = absurd cc

-- memory was refused before anything was read
pub refused : (first : Counts) (over : List Item) (before : Stream) (source : Option (List ℕ)) → HandsIn first first over before before source source end.Memory
refused first over before source =
    some_in first first over before before source source end.Memory [] [] (Consumes-nil source) (gives_nothing before) (none_counted first (length (over ++ []))) refl memory_apart

-- the items that were left over aren't all submitted
shorter : (first new : Counts) (over is : List Item) → CountsSome first new (length over) → CountsSome first new (length (over ++ is))
shorter first new over is some = record { items = some.items; within = omega (arith, some.within, length-append over is); counted = some.counted }

pub hindered_first : (first new : Counts) (over : List Item) (before : Stream) (source : Option (List ℕ)) (e : ReadEnd) → Hinders e first new over
    → HandsIn first new over before before source source e
hindered_first first new over before source end.End h =
    all_in first new over before before source source end.End [] [] (Consumes-nil source) (gives_nothing before)
    (h.0 ∙ ap (λ (xs : List Item). with_items (length xs) first) (sym (append-nil over)))
    (λ _. inr (inr (ap ends_badly (append-nil over) ∙ h.1)))
hindered_first first new over before source end.Memory h =
    some_in first new over before before source source end.Memory [] [] (Consumes-nil source) (gives_nothing before) (shorter first new over [] h) refl memory_apart
hindered_first first new over before source (end.Core fault) h =
    some_in first new over before before source source (end.Core fault) [] [] (Consumes-nil source) (gives_nothing before) (shorter first new over [] h) refl (λ same. absurd cc)
hindered_first first new over before source end.ReadFailed h = elim h [ ]
hindered_first first new over before source end.Door h = elim h [ ]
hindered_first first new over before source end.WriteFailed h = elim h [ ]

-- the items that came aren't all submitted
part_of : (first now new : Counts) (over is js : List Item) → now ≡ with_items (length (over ++ is)) first → CountsSome now new (length js) → CountsSome first new (length (over ++ (is ++ js)))
part_of first now new over is js far some = record {
  items = length (over ++ is) + some.items;
  within = omega (arith, some.within, longer over is js);
  counted = some.counted ∙ (ap (with_items some.items) far ∙ items_added first (length (over ++ is)) some.items);
}

pub hindered : (first now next : Counts) (over : List Item) (before mid new : Stream) (source left less : Option (List ℕ)) (items : List Item) (e : ReadEnd)
    → IsFar first over before source now mid left → Came left less mid items new → Hinders e now next items → HandsIn first next over before new source less e
hindered first now next over before mid new source left less items end.End far read h =
    all_in first next over before new source less end.End (far.0 ++ read.0) (far.1 ++ items) (Consumes-trans source left less far.0 read.0 far.2 read.1)
    (gives_more before mid new far.0 read.0 far.1 items far.5 far.3 read.2) (counted_on first now next over far.1 items far.4 h.0)
    (λ _. inr (inr (ends_as over (far.1 ++ items) (ends_as far.1 items h.1))))
hindered first now next over before mid new source left less items end.Memory far read h =
    some_in first next over before new source less end.Memory (far.0 ++ read.0) (far.1 ++ items) (Consumes-trans source left less far.0 read.0 far.2 read.1)
    (gives_more before mid new far.0 read.0 far.1 items far.5 far.3 read.2) (part_of first now next over far.1 items far.4 h) refl memory_apart
hindered first now next over before mid new source left less items (end.Core fault) far read h =
    some_in first next over before new source less (end.Core fault) (far.0 ++ read.0) (far.1 ++ items) (Consumes-trans source left less far.0 read.0 far.2 read.1)
    (gives_more before mid new far.0 read.0 far.1 items far.5 far.3 read.2) (part_of first now next over far.1 items far.4 h) refl (λ same. absurd cc)
hindered first now next over before mid new source left less items end.ReadFailed far read h = elim h [ ]
hindered first now next over before mid new source left less items end.Door far read h = elim h [ ]
hindered first now next over before mid new source left less items end.WriteFailed far read h = elim h [ ]

either : (A B C : Type 0) → A ⊎ B → A ⊎ B ⊎ C
either A B C (inl a) = inl a
either A B C (inr b) = inr (inl b)

-- a read gives no items
pub stops : (first now : Counts) (over : List Item) (before mid new : Stream) (source left less : Option (List ℕ)) (e : ReadEnd) (room : ℕ) → 0 < room
    → IsFar first over before source now mid left → (bytes : List ℕ) × Consumes left less bytes × Stops e room mid bytes new less → HandsIn first now over before new source less e
stops first now over before mid new source left less end.End room roomy far read =
    all_in first now over before new source less end.End (far.0 ++ read.0) far.1 (Consumes-trans source left less far.0 read.0 far.2 read.1)
    (gives_the_same before new (far.0 ++ read.0) far.1 (gives_more before mid new far.0 read.0 far.1 [] far.5 far.3 read.2.0)) far.4
    (λ _. either (IsAtEnd less) (before.failed ≡ true) (ends_badly (over ++ far.1) ≡ true) (at_end (IsAtEnd less) room before.failed mid.failed far.5 roomy read.2.1))
stops first now over before mid new source left less end.ReadFailed room roomy far read =
    all_in first now over before new source less end.ReadFailed (far.0 ++ read.0) far.1 (Consumes-trans source left less far.0 read.0 far.2 read.1)
    (gives_the_same before new (far.0 ++ read.0) far.1 (gives_more before mid new far.0 read.0 far.1 [] far.5 far.3 read.2)) far.4 (λ same. absurd (failed_apart same))
stops first now over before mid new source left less end.Memory room roomy far read = record {
  bytes = far.0;
  lost = read.0;
  came = Consumes-trans source left less far.0 read.0 far.2 read.1;
  items = far.1;
  kept = mid;
  given = far.3;
  count = length (over ++ far.1);
  counted = far.4;
  within = omega arith;
  all = λ _. refl;
  none_lost = λ isnt. absurd (isnt refl);
  ended = λ same. absurd (memory_apart same);
}
stops first now over before mid new source left less end.Door room roomy far read = elim read.2 [ ]
stops first now over before mid new source left less end.WriteFailed room roomy far read = elim read.2 [ ]
stops first now over before mid new source left less (end.Core fault) room roomy far read = elim read.2 [ ]

-- all reads were made
pub tires : (first now : Counts) (over : List Item) (before mid : Stream) (source left : Option (List ℕ)) → IsFar first over before source now mid left
    → HandsIn first now over before mid source left end.ReadFailed
tires first now over before mid source left far = all_in first now over before mid source left end.ReadFailed far.0 far.1 far.2 far.3 far.4 (λ same. absurd (failed_apart same))
