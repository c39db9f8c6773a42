-- What a door says to items, one after another.
use Rattle.std.proofs.Common.{◌≡◌, ◌∙◌, sym, ap, refl, ℕ, ◌+◌, ◌<◌, ◌≤◌, List, [], ◌∷◌, ◌++◌, length, drop, get_or, append_assoc, append-nil}
use Rattle.std.proofs.lemmas.List.{drop_more, drop_all}
use Rattle.amqp_model.specs.declared.frame_fault.FrameFault.{FrameFault}
use Rattle.amqp_model.specs.declared.item.Item.{Item}
use Rattle.amqp_model.specs.declared.item.Item.TheVariants as item
use Rattle.amqp_model.specs.ItemSpelling.{item_spelling}
use Rattle.core_door.specs.declared.door.Door.{Door}
use Rattle.core_door.specs.declared.door.Stage.{Stage}
use Rattle.core_door.specs.declared.door.Stage.TheVariants as stage
use Rattle.core_door.specs.Door.{Verdict, says, passes, ends, door, door_after, turn_at}
use Rattle.serve_streams.specs.Spelled.{spelled}
use Rattle.serve_streams.specs.Greeting.{said_by, door_says, Fate, waits, passed, closed, fate_by, fate, door_past}

-- a door that waits after more items waits after the first
pub waits_on : (v : Verdict) (here : List Item) (later : Fate) → fate_by v here later ≡ waits → later ≡ waits
waits_on (says xs) here later h = h
waits_on (passes user) here later h = absurd (let bad : passed user here ≡ waits = h in cc)
waits_on (ends xs) here later h = absurd (let bad : closed ≡ waits = h in cc)

says_on : (v : Verdict) (here : List Item) (later : Fate) → fate_by v here later ≡ waits → (ys zs : List Item) → said_by v (ys ++ zs) ≡ said_by v ys ++ zs
says_on (says xs) here later h ys zs = sym (append_assoc xs ys zs)
says_on (passes user) here later h ys zs = absurd (let bad : passed user here ≡ waits = h in cc)
says_on (ends xs) here later h ys zs = absurd (let bad : closed ≡ waits = h in cc)

fate_on : (v : Verdict) (here there : List Item) (later last : Fate) → fate_by v here later ≡ waits → fate_by v there last ≡ last
fate_on (says xs) here there later last h = refl
fate_on (passes user) here there later last h = absurd (let bad : passed user here ≡ waits = h in cc)
fate_on (ends xs) here there later last h = absurd (let bad : closed ≡ waits = h in cc)

pub says_more : (d : Door) (is js : List Item) → fate d is ≡ waits → door_says d (is ++ js) ≡ door_says d is ++ door_says (door_past d is) js
says_more d [] js h = refl
says_more d (i ∷ is) js h =
    let later = fate (door_after d i) is in
    ap (λ (m : List Item). said_by (door d i) m) (says_more (door_after d i) is js (waits_on (door d i) (i ∷ is) later h))
    ∙ says_on (door d i) (i ∷ is) later h (door_says (door_after d i) is) (door_says (door_past (door_after d i) is) js)

pub fate_more : (d : Door) (is js : List Item) → fate d is ≡ waits → fate d (is ++ js) ≡ fate (door_past d is) js
fate_more d [] js h = refl
fate_more d (i ∷ is) js h =
    let later = fate (door_after d i) is in
    fate_on (door d i) (i ∷ is) (i ∷ (is ++ js)) later (fate (door_after d i) (is ++ js)) h
    ∙ fate_more (door_after d i) is js (waits_on (door d i) (i ∷ is) later h)

pub past_more : (d : Door) (is js : List Item) → door_past d (is ++ js) ≡ door_past (door_past d is) js
past_more d [] js = refl
past_more d (i ∷ is) js = past_more (door_after d i) is js

spelled_append : (xs ys : List Item) → spelled (xs ++ ys) ≡ spelled xs ++ spelled ys
spelled_append [] ys = refl
spelled_append (x ∷ xs) ys = ap (λ (w : List ℕ). item_spelling x ++ w) (spelled_append xs ys) ∙ sym (append_assoc (item_spelling x) (spelled xs) (spelled ys))

pub written_more : (d : Door) (is js : List Item) → fate d is ≡ waits → spelled (door_says d (is ++ js)) ≡ spelled (door_says d is) ++ spelled (door_says (door_past d is) js)
written_more d is js h = ap (λ (m : List Item). spelled m) (says_more d is js h) ∙ spelled_append (door_says d is) (door_says (door_past d is) js)

-- a door doesn't wait after bytes that are no item
bad_ends : (d : Door) (s : Stage) (f : FrameFault) → (turn_at d s (item.Bad f)).verdict ≡ ends []
bad_ends d stage.Header f = refl
bad_ends d stage.Init f = refl
bad_ends d (stage.LoggedIn user) f = refl
bad_ends d stage.Done f = refl

pub fate_bad : (d : Door) (is : List Item) (f : FrameFault) → fate d (is ++ item.Bad f ∷ []) ≡ waits → ⊥
fate_bad d [] f h =
    let closes : fate d (item.Bad f ∷ []) ≡ closed = ap (λ (v : Verdict). fate_by v (item.Bad f ∷ []) waits) (bad_ends d d.stage f) in
    absurd (let bad : closed ≡ waits = sym closes ∙ h in cc)
fate_bad d (i ∷ is) f h =
    fate_bad (door_after d i) is f (waits_on (door d i) (i ∷ (is ++ item.Bad f ∷ [])) (fate (door_after d i) (is ++ item.Bad f ∷ [])) h)

-- a loop over items: what was said, what becomes of the rest and the door after it are those of all items
abbrev pub Asked : Door → List Item → List Item → Door → List Item → ℕ → Type 0
Asked d items old now said k =
    (said ++ door_says now (drop k items) ≡ old ++ door_says d items) × (fate now (drop k items) ≡ fate d items) × (door_past now (drop k items) ≡ door_past d items)

next_is : (items : List Item) (k : ℕ) (i : Item) → k < length items → i ≡ get_or items k i → drop k items ≡ i ∷ drop (k + 1) items
next_is items k i lt is = drop_more items k i lt ∙ ap (λ (x : Item). x ∷ drop (k + 1) items) (sym is)

-- the door says something and waits
pub asks_on : (d : Door) (items old : List Item) (now next : Door) (said new more : List Item) (k : ℕ) (i : Item) → k < length items → i ≡ get_or items k i
    → says more ≡ door now i → next ≡ door_after now i → new ≡ said ++ more → Asked d items old now said k → Asked d items old next new (k + 1)
asks_on d items old now next said new more k i lt is verdict after added h =
    let rest = drop (k + 1) items in
    let here : i ∷ rest ≡ drop k items = sym (next_is items k i lt is) in (
      ap (λ (w : List Item). w ++ door_says next rest) added
          ∙ (ap (λ (e : Door). (said ++ more) ++ door_says e rest) after
          ∙ (append_assoc said more (door_says (door_after now i) rest)
          ∙ (ap (λ (v : Verdict). said ++ said_by v (door_says (door_after now i) rest)) verdict
          ∙ (ap (λ (xs : List Item). said ++ door_says now xs) here ∙ h.0)))),
      ap (λ (e : Door). fate e rest) after
          ∙ (ap (λ (v : Verdict). fate_by v (i ∷ rest) (fate (door_after now i) rest)) verdict
          ∙ (ap (λ (xs : List Item). fate now xs) here ∙ h.1)),
      ap (λ (e : Door). door_past e rest) after ∙ (ap (λ (xs : List Item). door_past now xs) here ∙ h.2),
    )

-- a loop's end: what was said to all items, what becomes of them, and the door after them
abbrev pub Answers : Door → List Item → List Item → Door → List Item → Fate → Type 0
Answers d items old now said f = (said ≡ old ++ door_says d items) × (f ≡ fate d items) × (fate d items ≡ waits → now ≡ door_past d items)

-- the door lets the peer in
pub asks_pass : (d : Door) (items old : List Item) (now next : Door) (said : List Item) (user : List ℕ) (k : ℕ) (i : Item) → k < length items → i ≡ get_or items k i
    → passes user ≡ door now i → Asked d items old now said k → Answers d items old next said (passed user (drop k items))
asks_pass d items old now next said user k i lt is verdict h =
    let rest = drop (k + 1) items in
    let here : i ∷ rest ≡ drop k items = sym (next_is items k i lt is) in
    let up : passed user (drop k items) ≡ fate d items = ap (λ (xs : List Item). passed user xs) (sym here)
    ∙ (ap (λ (v : Verdict). fate_by v (i ∷ rest) (fate (door_after now i) rest)) verdict ∙ (ap (λ (xs : List Item). fate now xs) here ∙ h.1)) in (
      sym (append-nil said)
          ∙ (ap (λ (v : Verdict). said ++ said_by v (door_says (door_after now i) rest)) verdict
          ∙ (ap (λ (xs : List Item). said ++ door_says now xs) here ∙ h.0)),
      up,
      λ waiting. absurd (let bad : passed user (drop k items) ≡ waits = up ∙ waiting in cc),
    )

-- the door says something and ends the connection
pub asks_end : (d : Door) (items old : List Item) (now next : Door) (said new last : List Item) (k : ℕ) (i : Item) → k < length items → i ≡ get_or items k i
    → ends last ≡ door now i → new ≡ said ++ last → Asked d items old now said k → Answers d items old next new closed
asks_end d items old now next said new last k i lt is verdict added h =
    let rest = drop (k + 1) items in
    let here : i ∷ rest ≡ drop k items = sym (next_is items k i lt is) in
    let over : closed ≡ fate d items =
    ap (λ (v : Verdict). fate_by v (i ∷ rest) (fate (door_after now i) rest)) verdict ∙ (ap (λ (xs : List Item). fate now xs) here ∙ h.1) in (
      added
          ∙ (ap (λ (v : Verdict). said ++ said_by v (door_says (door_after now i) rest)) verdict
          ∙ (ap (λ (xs : List Item). said ++ door_says now xs) here ∙ h.0)),
      over,
      λ waiting. absurd (let bad : closed ≡ waits = over ∙ waiting in cc),
    )

-- no item is left
pub asks_all : (d : Door) (items old : List Item) (now : Door) (said : List Item) (k : ℕ) → length items ≤ k → Asked d items old now said k → Answers d items old now said waits
asks_all d items old now said k le h =
    let none : [] ≡ drop k items = sym (drop_all k items le) in (
      sym (append-nil said) ∙ (ap (λ (xs : List Item). said ++ door_says now xs) none ∙ h.0),
      ap (λ (xs : List Item). fate now xs) none ∙ h.1,
      λ _. ap (λ (xs : List Item). door_past now xs) none ∙ h.2,
    )
