-- Bytes that a frame reader reads, and the items that it gives for them.
use Rattle.std.proofs.Common.{◌≡◌, ◌∙◌, sym, ap, refl, subst, ℕ, ◌<◌, Bool, true, false, List, [], ◌++◌, Option, append_assoc, append-nil, ◌⊎◌, inl, inr, suc, zero, ◌∷◌, length, take, drop, arith}
use Rattle.std.specs.Io.KnownBytes.{Consumes}
use Rattle.amqp_model.specs.declared.item.Item.{Item}
use Rattle.amqp_frames.specs.Cuts.{Cuts, Stream}
use Rattle.amqp_frames.proofs.Streams.{cuts_append}
use Rattle.serve_streams.specs.Greeting.{Gives}

-- what a frame reader gives
pub gives_nothing : (old : Stream) → Gives old [] [] old
gives_nothing old = inl (inl refl, refl, refl)

none_by : (bs : List ℕ) (f g : Bool) → (g ≡ true → f ≡ true) → f ≡ false → (bs ≡ []) ⊎ (g ≡ true) → bs ≡ []
none_by bs f g back sound (inl e) = e
none_by bs f g back sound (inr t) = absurd (let bad : true ≡ false = sym (back t) ∙ sound in cc)

still_none : (bs cs : List ℕ) (f g : Bool) → (g ≡ true → f ≡ true) → (bs ≡ []) ⊎ (f ≡ true) → (cs ≡ []) ⊎ (g ≡ true) → (bs ++ cs ≡ []) ⊎ (f ≡ true)
still_none bs cs f g back (inr t) k = inr t
still_none bs cs f g back (inl e) (inr t) = inr (back t)
still_none bs cs f g back (inl e) (inl e') = inl (ap (λ (w : List ℕ). w ++ cs) e ∙ e')

pub gives_more : (old mid new : Stream) (bs cs : List ℕ) (is js : List Item) → (mid.failed ≡ true → old.failed ≡ true)
    → Gives old bs is mid → Gives mid cs js new → Gives old (bs ++ cs) (is ++ js) new
gives_more old mid new bs cs is js back (inl h) (inl k) =
    inl (still_none bs cs old.failed mid.failed back h.0 k.0, ap (λ (w : List Item). w ++ js) h.1 ∙ k.1, k.2 ∙ h.2)
gives_more old mid new bs cs is js back (inl h) (inr k) =
    let sound : old.failed ≡ false = sym (ap (λ (s : Stream). s.failed) h.2) ∙ k.0 in
    let none : bs ≡ [] = none_by bs old.failed old.failed (λ t. t) sound h.0 in
    let bytes : mid.rest ++ cs ≡ old.rest ++ (bs ++ cs) = ap (λ (s : Stream). s.rest ++ cs) h.2 ∙ ap (λ (w : List ℕ). old.rest ++ (w ++ cs)) (sym none) in
    let items : js ≡ is ++ js = ap (λ (w : List Item). w ++ js) (sym h.1) in
    inr (sound, subst (λ (w : List ℕ). Cuts new.failed w (is ++ js) new.rest) bytes (subst (λ (xs : List Item). Cuts new.failed (mid.rest ++ cs) xs new.rest) items k.1))
gives_more old mid new bs cs is js back (inr h) (inl k) =
    let none : cs ≡ [] = none_by cs old.failed mid.failed back h.0 k.0 in
    let bytes : bs ≡ bs ++ cs = sym (ap (λ (w : List ℕ). bs ++ w) none ∙ append-nil bs) in
    let items : is ≡ is ++ js = sym (ap (λ (w : List Item). is ++ w) k.1 ∙ append-nil is) in
    let whole : Cuts new.failed (old.rest ++ bs) is new.rest = subst (λ (s : Stream). Cuts s.failed (old.rest ++ bs) is s.rest) (sym k.2) h.1 in
    inr (h.0, subst (λ (w : List ℕ). Cuts new.failed (old.rest ++ w) (is ++ js) new.rest) bytes (subst (λ (xs : List Item). Cuts new.failed (old.rest ++ bs) xs new.rest) items whole))
gives_more old mid new bs cs is js back (inr h) (inr k) =
    let whole : Cuts false (old.rest ++ bs) is mid.rest = subst (λ (f : Bool). Cuts f (old.rest ++ bs) is mid.rest) k.0 h.1 in
    inr (
      h.0,
      subst (λ (w : List ℕ). Cuts new.failed w (is ++ js) new.rest) (append_assoc old.rest bs cs)
          (cuts_append new.failed (old.rest ++ bs) is mid.rest cs js new.rest whole.0 k.1),
    )

pub gives_the_same : (old new : Stream) (bs : List ℕ) (is : List Item) → Gives old bs (is ++ []) new → Gives old bs is new
gives_the_same old new bs is given = subst (λ (xs : List Item). Gives old bs xs new) (append-nil is) given

-- bytes that came, and their items
abbrev pub Came : Option (List ℕ) → Option (List ℕ) → Stream → List Item → Stream → Type 0
Came left less mid items new = (bytes : List ℕ) × Consumes left less bytes × Gives mid bytes items new

pub none_after : (source left : Option (List ℕ)) (bs : List ℕ) → Consumes source left bs → Consumes source left (bs ++ [])
none_after source left bs read = subst (λ (w : List ℕ). Consumes source left w) (sym (append-nil bs)) read

-- no read finds more
pub at_end : (ended : Type 0) (room : ℕ) (f g : Bool) → (g ≡ true → f ≡ true) → 0 < room → (0 < room → ended) ⊎ (g ≡ true) → ended ⊎ (f ≡ true)
at_end ended room f g back roomy (inl h) = inl (h roomy)
at_end ended room f g back roomy (inr t) = inr (back t)

-- where bytes were read into a buffer there is still room in it
pub still_roomy : (n : ℕ) (xs room : List ℕ) → 0 < n → 0 < length room → 0 < length (take n (xs ++ drop (length xs) room))
still_roomy zero xs room some roomy = absurd (omega (arith, some))
still_roomy (suc n) [] [] some roomy = absurd (omega (arith, roomy))
still_roomy (suc n) [] (y ∷ ys) some roomy = omega arith
still_roomy (suc n) (x ∷ xs) room some roomy = omega arith
