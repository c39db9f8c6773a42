-- Greetings, read by read.
use Rattle.std.proofs.Common.{◌≡◌, ◌≢◌, ◌∙◌, sym, ap, refl, subst, ℕ, ◌+◌, ◌<◌, Bool, true, List, [], ◌∷◌, ◌++◌, length, take, Option, Some, None, arith, append-nil, length-append, ◌⊎◌, inl, inr}
use Rattle.std.proofs.Math.Seq.{take-append-add}
use Rattle.std.proofs.KnownBytes.{Consumes-nil, Consumes-trans}
use Rattle.std.specs.Io.KnownBytes.{Appends, Consumes, IsAtEnd}
use Rattle.amqp_model.specs.declared.item.Item.{Item}
use Rattle.amqp_frames.specs.Cuts.{Cuts, Stream}
use Rattle.core_door.specs.declared.door.Door.{Door}
use Rattle.serve_streams.specs.declared.end.ReadEnd.{ReadEnd}
use Rattle.serve_streams.specs.declared.end.ReadEnd.TheVariants as end
use Rattle.serve_streams.specs.declared.greeting.Greeted.{Greeted}
use Rattle.serve_streams.specs.declared.greeting.Greeted.TheVariants as greeted
use Rattle.serve_streams.specs.declared.greeting.Passing.{Passing}
use Rattle.serve_streams.specs.Spelled.{spelled}
use Rattle.serve_streams.specs.Greeting.{door_says, Fate, waits, passed, closed, fate, fate_of, door_past, Gives, IsTold, Greets, Stops, Breaks}
use Rattle.serve_streams.proofs.Appending.{appends_on}
use Rattle.serve_streams.proofs.Doors.{written_more, fate_more, past_more, fate_bad}
use Rattle.serve_streams.proofs.Streams.{at_end, Came, gives_more, gives_nothing, gives_the_same, none_after}

pub appends_none : (a : Option (List ℕ)) → Appends a a []
appends_none None = tt
appends_none (Some a) = sym (append-nil a)

-- while the door waits, the reader hasn't met bytes that are no item
pub still_reads : (d : Door) (old mid : Stream) (bs : List ℕ) (is : List Item) → Gives old bs is mid → fate d is ≡ waits → mid.failed ≡ true → old.failed ≡ true
still_reads d old mid bs is (inl h) w t = sym (ap (λ (s : Stream). s.failed) h.2) ∙ t
still_reads d old mid bs is (inr h) w t =
    let cut : Cuts true (old.rest ++ bs) is mid.rest = subst (λ (f : Bool). Cuts f (old.rest ++ bs) is mid.rest) t h.1 in
    absurd (fate_bad d cut.0 cut.1 (ap (λ (xs : List Item). fate d xs) (sym cut.2) ∙ w))

-- a greeting so far: all items that came were answered, and the door waits
abbrev pub IsFar : Door → Stream → Option (List ℕ) → Option (List ℕ) → Door → Stream → Option (List ℕ) → Option (List ℕ) → Type 0
IsFar d old source held now mid left holds = (bytes : List ℕ) × (items : List Item) × Consumes source left bytes × Gives old bytes items mid
    × Appends held holds (spelled (door_says d items)) × (fate d items ≡ waits) × (now ≡ door_past d items)

pub seen_as : (left less : Option (List ℕ)) (mid new : Stream) (items seen : List Item) → seen ≡ items → Came left less mid items new → Came left less mid seen new
seen_as left less mid new items seen is read = subst (λ (xs : List Item). Came left less mid xs new) (sym is) read

pub answered_as : (p q : Passing) (items : List Item) (f : Fate) → p ≡ q → fate_of p items ≡ f → fate_of q items ≡ f
answered_as p q items f is answered = subst (λ (x : Passing). fate_of x items ≡ f) is answered

pub begins : (d : Door) (old : Stream) (source held : Option (List ℕ)) → IsFar d old source held d old source held
begins d old source held = ([], [], Consumes-nil source, gives_nothing old, appends_none held, refl, refl)

-- the items so far and those that came
read_on : (d : Door) (old : Stream) (source held : Option (List ℕ)) (now : Door) (mid new : Stream) (left less holds : Option (List ℕ)) (items : List Item)
    → (far : IsFar d old source held now mid left holds) → (read : Came left less mid items new) → Gives old (far.0 ++ read.0) (far.1 ++ items) new
read_on d old source held now mid new left less holds items far read =
    gives_more old mid new far.0 read.0 far.1 items (still_reads d old mid far.0 far.1 far.3 far.5) far.3 read.2

all_written : (d : Door) (old : Stream) (source held : Option (List ℕ)) (now : Door) (mid : Stream) (left holds : Option (List ℕ)) (items : List Item)
    → (far : IsFar d old source held now mid left holds) → spelled (door_says d (far.1 ++ items)) ≡ spelled (door_says d far.1) ++ spelled (door_says now items)
all_written d old source held now mid left holds items far =
    written_more d far.1 items far.5 ∙ ap (λ (e : Door). spelled (door_says d far.1) ++ spelled (door_says e items)) (sym far.6)

all_fated : (d : Door) (old : Stream) (source held : Option (List ℕ)) (now : Door) (mid : Stream) (left holds : Option (List ℕ)) (items : List Item)
    → (far : IsFar d old source held now mid left holds) → fate d (far.1 ++ items) ≡ fate now items
all_fated d old source held now mid left holds items far = fate_more d far.1 items far.5 ∙ ap (λ (e : Door). fate e items) (sym far.6)

written_on : (d : Door) (old : Stream) (source held : Option (List ℕ)) (now : Door) (mid : Stream) (left holds more : Option (List ℕ)) (items : List Item)
    → (far : IsFar d old source held now mid left holds) → Appends holds more (spelled (door_says now items)) → Appends held more (spelled (door_says d (far.1 ++ items)))
written_on d old source held now mid left holds more items far wrote =
    subst (λ (w : List ℕ). Appends held more w) (sym (all_written d old source held now mid left holds items far))
    (appends_on held holds more (spelled (door_says d far.1)) (spelled (door_says now items)) far.4 wrote)

-- the door answers and waits
pub goes : (d : Door) (old : Stream) (source held : Option (List ℕ)) (now next : Door) (mid new : Stream) (left less holds more : Option (List ℕ)) (items : List Item)
    → IsFar d old source held now mid left holds → Came left less mid items new → Appends holds more (spelled (door_says now items))
    → waits ≡ fate now items → (fate now items ≡ waits → next ≡ door_past now items) → IsFar d old source held next new less more
goes d old source held now next mid new left less holds more items far read wrote waiting stage = (
  far.0 ++ read.0,
  far.1 ++ items,
  Consumes-trans source left less far.0 read.0 far.2 read.1,
  read_on d old source held now mid new left less holds items far read,
  written_on d old source held now mid left holds more items far wrote,
  all_fated d old source held now mid left holds items far ∙ sym waiting,
  stage (sym waiting) ∙ (ap (λ (e : Door). door_past e items) far.6 ∙ sym (past_more d far.1 items)),
)

-- a greeting that ends with all answers written
take_whole : (ys : List ℕ) → take (length ys) ys ≡ ys
take_whole [] = refl
take_whole (y ∷ ys) = ap (λ (zs : List ℕ). y ∷ zs) (take_whole ys)

greeted_by : (d : Door) (old mid new : Stream) (source left held holds : Option (List ℕ)) (g : Greeted) (bs ls : List ℕ) (is : List Item) → Consumes source left (bs ++ ls)
    → Gives old bs is mid → Appends held holds (spelled (door_says d is)) → IsTold g (fate d is) → (g ≢ greeted.Ended end.WriteFailed)
    → (g ≢ greeted.Ended end.Memory → (ls ≡ []) × (new ≡ mid))
    → (g ≡ greeted.Ended end.End → IsAtEnd left ⊎ (old.failed ≡ true)) → Greets d old new source left held holds g
greeted_by d old mid new source left held holds g bs ls is read gives written fated unbroken all over = let xs = spelled (door_says d is) in record {
  bytes = bs;
  lost = ls;
  came = read;
  items = is;
  kept = mid;
  given = gives;
  count = length xs;
  within = omega arith;
  wrote = subst (λ (w : List ℕ). Appends held holds w) (sym (take_whole xs)) written;
  whole = λ _. refl;
  short = λ same. absurd (unbroken same);
  told = fated;
  none_lost = all;
  ended = over;
}

failed_only : (e f : ReadEnd) → (e ≡ f → ⊥) → greeted.Ended e ≡ greeted.Ended f → ⊥
failed_only e f apart same = apart (let here : e ≡ f = cc in here)

unbroken_by : (e : ReadEnd) → (e ≡ end.WriteFailed → ⊥) → greeted.Ended e ≢ greeted.Ended end.WriteFailed
unbroken_by e apart same = failed_only e end.WriteFailed apart same

memory_unbroken : greeted.Ended end.Memory ≢ greeted.Ended end.WriteFailed
memory_unbroken = unbroken_by end.Memory (λ e. absurd (let bad : end.Memory ≡ end.WriteFailed = e in cc))

read_unbroken : greeted.Ended end.ReadFailed ≢ greeted.Ended end.WriteFailed
read_unbroken = unbroken_by end.ReadFailed (λ e. absurd (let bad : end.ReadFailed ≡ end.WriteFailed = e in cc))

end_unbroken : greeted.Ended end.End ≢ greeted.Ended end.WriteFailed
end_unbroken = unbroken_by end.End (λ e. absurd (let bad : end.End ≡ end.WriteFailed = e in cc))

door_unbroken : greeted.Ended end.Door ≢ greeted.Ended end.WriteFailed
door_unbroken = unbroken_by end.Door (λ e. absurd (let bad : end.Door ≡ end.WriteFailed = e in cc))

-- memory was refused before anything was read
pub refused : (d : Door) (old : Stream) (source held : Option (List ℕ)) → Greets d old old source source held held (greeted.Ended end.Memory)
refused d old source held =
    greeted_by d old old old source source held held (greeted.Ended end.Memory) [] [] [] (Consumes-nil source) (gives_nothing old) (appends_none held) tt memory_unbroken
    (λ isnt. absurd (isnt refl)) (λ same. absurd (failed_only end.Memory end.End (λ e. absurd (let bad : end.Memory ≡ end.End = e in cc)) same))

-- all reads were made
pub tires : (d : Door) (old : Stream) (source held : Option (List ℕ)) (now : Door) (mid : Stream) (left holds : Option (List ℕ))
    → IsFar d old source held now mid left holds → Greets d old mid source left held holds (greeted.Ended end.ReadFailed)
tires d old source held now mid left holds far =
    greeted_by d old mid mid source left held holds (greeted.Ended end.ReadFailed) far.0 [] far.1 (none_after source left far.0 far.2) far.3 far.4 far.5 read_unbroken
    (λ _. (refl, refl)) (λ same. absurd (failed_only end.ReadFailed end.End (λ e. absurd (let bad : end.ReadFailed ≡ end.End = e in cc)) same))

-- a read gives no items
pub stops : (d : Door) (old : Stream) (source held : Option (List ℕ)) (now : Door) (mid new : Stream) (left less holds : Option (List ℕ)) (e : ReadEnd) (room : ℕ) → 0 < room
    → IsFar d old source held now mid left holds → (bytes : List ℕ) × Consumes left less bytes × Stops e room mid bytes new less
    → Greets d old new source less held holds (greeted.Ended e)
stops d old source held now mid new left less holds end.End room roomy far read =
    let bs = far.0 ++ read.0 in
    greeted_by d old new new source less held holds (greeted.Ended end.End) bs [] far.1 (none_after source less bs (Consumes-trans source left less far.0 read.0 far.2 read.1))
    (gives_the_same old new bs far.1 (read_on d old source held now mid new left less holds [] far (read.0, read.1, read.2.0))) far.4 far.5 end_unbroken
    (λ _. (refl, refl)) (λ _. at_end (IsAtEnd less) room old.failed mid.failed (still_reads d old mid far.0 far.1 far.3 far.5) roomy read.2.1)
stops d old source held now mid new left less holds end.ReadFailed room roomy far read =
    let bs = far.0 ++ read.0 in
    greeted_by d old new new source less held holds (greeted.Ended end.ReadFailed) bs [] far.1 (none_after source less bs (Consumes-trans source left less far.0 read.0 far.2 read.1))
    (gives_the_same old new bs far.1 (read_on d old source held now mid new left less holds [] far (read.0, read.1, read.2))) far.4 far.5 read_unbroken
    (λ _. (refl, refl)) (λ same. absurd (failed_only end.ReadFailed end.End (λ e. absurd (let bad : end.ReadFailed ≡ end.End = e in cc)) same))
stops d old source held now mid new left less holds end.Memory room roomy far read =
    greeted_by d old mid new source less held holds (greeted.Ended end.Memory) far.0 read.0 far.1 (Consumes-trans source left less far.0 read.0 far.2 read.1) far.3 far.4 tt memory_unbroken
    (λ isnt. absurd (isnt refl)) (λ same. absurd (failed_only end.Memory end.End (λ e. absurd (let bad : end.Memory ≡ end.End = e in cc)) same))
stops d old source held now mid new left less holds end.Door room roomy far read = elim read.2 [ ]
stops d old source held now mid new left less holds end.WriteFailed room roomy far read = elim read.2 [ ]
stops d old source held now mid new left less holds (end.Core fault) room roomy far read = elim read.2 [ ]

-- the answers aren't all written
pub breaks : (d : Door) (old : Stream) (source held : Option (List ℕ)) (now : Door) (mid new : Stream) (left less holds more : Option (List ℕ)) (items : List Item) (e : ReadEnd)
    → IsFar d old source held now mid left holds → Came left less mid items new → Breaks e holds more (spelled (door_says now items))
    → Greets d old new source less held more (greeted.Ended e)
breaks d old source held now mid new left less holds more items end.Memory far read same =
    greeted_by d old mid new source less held more (greeted.Ended end.Memory) far.0 read.0 far.1 (Consumes-trans source left less far.0 read.0 far.2 read.1) far.3
    (subst (λ (o : Option (List ℕ)). Appends held o (spelled (door_says d far.1))) (sym same) far.4) tt memory_unbroken
    (λ isnt. absurd (isnt refl)) (λ same. absurd (failed_only end.Memory end.End (λ e. absurd (let bad : end.Memory ≡ end.End = e in cc)) same))
breaks d old source held now mid new left less holds more items end.WriteFailed far read some =
    let bs = far.0 ++ read.0 in
    let xs = spelled (door_says d far.1) in
    let ys = spelled (door_says now items) in
    let all = all_written d old source held now mid left holds items far in
    let cut : take (length xs + some.0) (spelled (door_says d (far.1 ++ items))) ≡ xs ++ take some.0 ys
    = ap (λ (w : List ℕ). take (length xs + some.0) w) all ∙ take-append-add xs ys some.0 in record {
      bytes = bs;
      lost = [];
      came = none_after source less bs (Consumes-trans source left less far.0 read.0 far.2 read.1);
      items = far.1 ++ items;
      kept = new;
      given = read_on d old source held now mid new left less holds items far read;
      count = length xs + some.0;
      within = omega (arith, some.1, ap (λ (w : List ℕ). length w) all, length-append xs ys);
      wrote = subst (λ (w : List ℕ). Appends held more w) (sym cut) (appends_on held holds more xs (take some.0 ys) far.4 some.2);
      whole = λ fails. absurd (fails refl);
      short = λ _. omega (arith, some.1, ap (λ (w : List ℕ). length w) all, length-append xs ys);
      told = tt;
      none_lost = λ _. (refl, refl);
      ended = λ same. absurd (failed_only end.WriteFailed end.End (λ e. absurd (let bad : end.WriteFailed ≡ end.End = e in cc)) same);
    }
breaks d old source held now mid new left less holds more items end.End far read never = elim never [ ]
breaks d old source held now mid new left less holds more items end.ReadFailed far read never = elim never [ ]
breaks d old source held now mid new left less holds more items end.Door far read never = elim never [ ]
breaks d old source held now mid new left less holds more items (end.Core fault) far read never = elim never [ ]

-- the door lets the peer in, or ends the connection
comes : (d : Door) (old : Stream) (source held : Option (List ℕ)) (now : Door) (mid new : Stream) (left less holds more : Option (List ℕ)) (items : List Item) (g : Greeted)
    → IsFar d old source held now mid left holds → Came left less mid items new → Appends holds more (spelled (door_says now items)) → IsTold g (fate now items)
    → g ≢ greeted.Ended end.WriteFailed → g ≢ greeted.Ended end.End → Greets d old new source less held more g
comes d old source held now mid new left less holds more items g far read wrote told unbroken goes_on =
    let bs = far.0 ++ read.0 in
    greeted_by d old new new source less held more g bs [] (far.1 ++ items) (none_after source less bs (Consumes-trans source left less far.0 read.0 far.2 read.1))
    (read_on d old source held now mid new left less holds items far read) (written_on d old source held now mid left holds more items far wrote)
    (subst (λ (f : Fate). IsTold g f) (sym (all_fated d old source held now mid left holds items far)) told)
    unbroken (λ _. (refl, refl)) (λ same. absurd (goes_on same))

pub closes : (d : Door) (old : Stream) (source held : Option (List ℕ)) (now : Door) (mid new : Stream) (left less holds more : Option (List ℕ)) (items : List Item)
    → IsFar d old source held now mid left holds → Came left less mid items new → Appends holds more (spelled (door_says now items)) → closed ≡ fate now items
    → Greets d old new source less held more (greeted.Ended end.Door)
closes d old source held now mid new left less holds more items far read wrote over =
    comes d old source held now mid new left less holds more items (greeted.Ended end.Door) far read wrote (sym over) door_unbroken
    (failed_only end.Door end.End (λ e. absurd (let bad : end.Door ≡ end.End = e in cc)))

pub enters : (d : Door) (old : Stream) (source held : Option (List ℕ)) (now : Door) (mid new : Stream) (left less holds more : Option (List ℕ)) (items : List Item) (g : Greeted)
    (user : List ℕ) (behind : List Item) → IsFar d old source held now mid left holds → Came left less mid items new → Appends holds more (spelled (door_says now items))
    → passed user behind ≡ fate now items → IsTold g (passed user behind) → g ≢ greeted.Ended end.WriteFailed → Greets d old new source less held more g
enters d old source held now mid new left less holds more items g user behind far read wrote up told unbroken =
    comes d old source held now mid new left less holds more items g far read wrote (subst (λ (f : Fate). IsTold g f) up told) unbroken
    (λ same. absurd (let bad : passed user behind ≡ waits = subst (λ (x : Greeted). IsTold x (passed user behind)) same told in cc))
