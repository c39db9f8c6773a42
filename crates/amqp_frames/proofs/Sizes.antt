-- The extent of some bytes, by their places; it stays so whatever follows them.
use Rattle.std.proofs.Common.{◌≡◌, ℕ, ◌+◌, ◌-◌, ◌*◌, ◌<◌, ◌≤◌, List, [], ◌∷◌, ◌++◌, length, get_or, take, drop, refl, ◌⊎◌, inl, inr, arith, Bool, true, false, ◌&&◌, ◌||◌, if◌then◌else◌}
use Rattle.std.proofs.lemmas.Grind.{common_steps}
use Rattle.std.specs.Prelude.{◌==◌, nat_lt}
use Rattle.std.specs.Int.{w32, from_be_bytes}
use Rattle.amqp_frames.specs.declared.extent.Extent.{Extent}
use Rattle.amqp_frames.specs.declared.extent.Extent.TheVariants.{Unknown, Whole, Wrong}
use Rattle.amqp_model.specs.declared.frame_fault.FrameFault.{FrameFault}
use Rattle.amqp_model.specs.declared.frame_fault.FrameFault.TheVariants as fault
use Rattle.amqp_frames.specs.Extents.{begins_header, typed, placed, sized, extent}

-- the number of four bytes
abbrev pub number : ℕ → ℕ → ℕ → ℕ → ℕ
number a b c d = from_be_bytes w32 (a ∷ b ∷ c ∷ d ∷ [])

-- fewer than four bytes don't give the extent
pub unknown_short : (bytes : List ℕ) → length bytes < 4 → extent bytes ≡ Unknown
unfolding extent
unknown_short [] h = refl
unknown_short (a ∷ []) h = refl
unknown_short (a ∷ b ∷ []) h = refl
unknown_short (a ∷ b ∷ c ∷ []) h = refl
unknown_short (a ∷ b ∷ c ∷ d ∷ rest) h = absurd (omega arith)

-- four bytes show a header
pub extent_of_header : (bytes : List ℕ) → 4 ≤ length bytes → begins_header (get_or bytes 0 0) (get_or bytes 1 0) (get_or bytes 2 0) (get_or bytes 3 0) ≡ true → extent bytes ≡ Whole 8
unfolding extent
extent_of_header [] h is = absurd (omega arith)
extent_of_header (a ∷ []) h is = absurd (omega arith)
extent_of_header (a ∷ b ∷ []) h is = absurd (omega arith)
extent_of_header (a ∷ b ∷ c ∷ []) h is = absurd (omega arith)
extent_of_header (a ∷ b ∷ c ∷ d ∷ rest) h is = rw is refl

-- or the size of a frame
pub extent_of_size : (bytes : List ℕ) → 4 ≤ length bytes → begins_header (get_or bytes 0 0) (get_or bytes 1 0) (get_or bytes 2 0) (get_or bytes 3 0) ≡ false
    → extent bytes ≡ sized (get_or bytes 0 0 * 16777216 + get_or bytes 1 0 * 65536 + get_or bytes 2 0 * 256 + get_or bytes 3 0) (take (length bytes - 4) (drop 4 bytes))
unfolding extent
extent_of_size [] h is = absurd (omega arith)
extent_of_size (a ∷ []) h is = absurd (omega arith)
extent_of_size (a ∷ b ∷ []) h is = absurd (omega arith)
extent_of_size (a ∷ b ∷ c ∷ []) h is = absurd (omega arith)
extent_of_size (a ∷ b ∷ c ∷ d ∷ rest) h is = let e : take (length (a ∷ b ∷ c ∷ d ∷ rest) - 4) rest ≡ rest = grind (arith, common_steps) in rw (is, e) refl

-- a test that is passed keeps what follows it
past : (test : Bool) (x y other : Extent) → (y ≡ Unknown) ⊎ (other ≡ y)
    → ((if test then x else y) ≡ Unknown) ⊎ ((if test then x else other) ≡ (if test then x else y))
past true x y other h = inr refl
past false x y other h = h

typed_stays : (size : ℕ) (rest behind : List ℕ) → (typed size rest ≡ Unknown) ⊎ (typed size (rest ++ behind) ≡ typed size rest)
typed_stays size [] behind = inl refl
typed_stays size (kind ∷ rest) behind = inr refl

placed_stays : (size : ℕ) (rest behind : List ℕ) → (placed size rest ≡ Unknown) ⊎ (placed size (rest ++ behind) ≡ placed size rest)
placed_stays size [] behind = inl refl
placed_stays size (offset ∷ rest) behind =
    past (nat_lt offset 2 || nat_lt size (4 * offset)) (Wrong fault.BadOffset) (typed size rest) (typed size (rest ++ behind)) (typed_stays size rest behind)

sized_stays : (size : ℕ) (rest behind : List ℕ) → (sized size rest ≡ Unknown) ⊎ (sized size (rest ++ behind) ≡ sized size rest)
sized_stays size rest behind =
    past (nat_lt size 8) (Wrong fault.TooSmall) _ _
    (past (nat_lt 16384 size) (Wrong fault.TooLarge) (placed size rest) (placed size (rest ++ behind)) (placed_stays size rest behind))

-- a known extent stays, whatever follows
pub extent_stays : (bytes behind : List ℕ) → (extent bytes ≡ Unknown) ⊎ (extent (bytes ++ behind) ≡ extent bytes)
unfolding extent
extent_stays [] behind = inl refl
extent_stays (a ∷ []) behind = inl refl
extent_stays (a ∷ b ∷ []) behind = inl refl
extent_stays (a ∷ b ∷ c ∷ []) behind = inl refl
extent_stays (a ∷ b ∷ c ∷ d ∷ rest) behind =
    past (begins_header a b c d) (Whole 8) (sized (number a b c d) rest) (sized (number a b c d) (rest ++ behind)) (sized_stays (number a b c d) rest behind)

-- a test neither of whose outcomes is unknown
told : (test : Bool) (x y : Extent) → (x ≡ Unknown → ⊥) → (y ≡ Unknown → ⊥) → (if test then x else y) ≡ Unknown → ⊥
told true x y hx hy h = hx h
told false x y hx hy h = hy h

-- six bytes give the extent
pub unknown_below : (bytes : List ℕ) → extent bytes ≡ Unknown → length bytes < 6
unfolding extent
unknown_below [] h = omega arith
unknown_below (a ∷ []) h = omega arith
unknown_below (a ∷ b ∷ []) h = omega arith
unknown_below (a ∷ b ∷ c ∷ []) h = omega arith
unknown_below (a ∷ b ∷ c ∷ d ∷ []) h = omega arith
unknown_below (a ∷ b ∷ c ∷ d ∷ offset ∷ []) h = omega arith
unknown_below (a ∷ b ∷ c ∷ d ∷ offset ∷ kind ∷ rest) h =
    let size : ℕ = number a b c d in
    let kinds : (if nat_lt 1 kind then Wrong fault.BadType else if (kind == 1) && nat_lt 512 size then Wrong fault.TooLarge else Whole size) ≡ Unknown → ⊥
    = told (nat_lt 1 kind) _ _ (λ e. cc) (told ((kind == 1) && nat_lt 512 size) _ _ (λ e. cc) (λ e. cc)) in
    absurd (told (begins_header a b c d) _ _ (λ e. cc)
    (told (nat_lt size 8) _ _ (λ e. cc)
    (told (nat_lt 16384 size) _ _ (λ e. cc)
    (told (nat_lt offset 2 || nat_lt size (4 * offset)) _ _ (λ e. cc) kinds))) h)

-- where a size is found past a test, the other outcome gave it
pub past_wrong : (test : Bool) (f : FrameFault) (y : Extent) (size : ℕ) → (if test then Wrong f else y) ≡ Whole size → (test ≡ false) × (y ≡ Whole size)
past_wrong true f y size h = absurd (let bad : Wrong f ≡ Whole size = h in cc)
past_wrong false f y size h = (refl, h)

pub same_size : (m n : ℕ) → Whole m ≡ Whole n → m ≡ n
same_size m n h = cc

typed_size : (size n : ℕ) (rest : List ℕ) → typed size rest ≡ Whole n → size ≡ n
typed_size size n [] h = absurd (let bad : Unknown ≡ Whole n = h in cc)
typed_size size n (kind ∷ rest) h =
    let sasl : Extent = if (kind == 1) && nat_lt 512 size then Wrong fault.TooLarge else Whole size in
    same_size size n (past_wrong ((kind == 1) && nat_lt 512 size) fault.TooLarge (Whole size) n (past_wrong (nat_lt 1 kind) fault.BadType sasl n h).1).1

pub placed_size : (size n : ℕ) (rest : List ℕ) → placed size rest ≡ Whole n → size ≡ n
placed_size size n [] h = absurd (let bad : Unknown ≡ Whole n = h in cc)
placed_size size n (offset ∷ rest) h = typed_size size n rest (past_wrong (nat_lt offset 2 || nat_lt size (4 * offset)) fault.BadOffset (typed size rest) n h).1

sized_at_least : (size n : ℕ) (rest : List ℕ) → sized size rest ≡ Whole n → (8 ≤ n) × (n ≤ 16384)
sized_at_least size n rest h =
    let small = past_wrong (nat_lt size 8) fault.TooSmall (if nat_lt 16384 size then Wrong fault.TooLarge else placed size rest) n h in
    let large = past_wrong (nat_lt 16384 size) fault.TooLarge (placed size rest) n small.1 in
    let same : size ≡ n = placed_size size n rest large.1 in
    let low : nat_lt size 8 ≡ false = small.0 in
    let high : nat_lt 16384 size ≡ false = large.0 in
    (grind arith, grind arith)

header_size : (test : Bool) (y : Extent) (n : ℕ) → (if test then Whole 8 else y) ≡ Whole n → (8 ≡ n) ⊎ (y ≡ Whole n)
header_size true y n h = inl (same_size 8 n h)
header_size false y n h = inr h

-- an item has at least eight bytes and at most 16,384
pub extent_at_least : (bytes : List ℕ) (n : ℕ) → extent bytes ≡ Whole n → (8 ≤ n) × (n ≤ 16384)
unfolding extent
extent_at_least [] n h = absurd (let bad : Unknown ≡ Whole n = h in cc)
extent_at_least (a ∷ []) n h = absurd (let bad : Unknown ≡ Whole n = h in cc)
extent_at_least (a ∷ b ∷ []) n h = absurd (let bad : Unknown ≡ Whole n = h in cc)
extent_at_least (a ∷ b ∷ c ∷ []) n h = absurd (let bad : Unknown ≡ Whole n = h in cc)
extent_at_least (a ∷ b ∷ c ∷ d ∷ rest) n h =
    elim (header_size (begins_header a b c d) (sized (number a b c d) rest) n h) [ inl e ↦ (omega arith, omega arith) | inr e ↦ sized_at_least (number a b c d) n rest e ]
