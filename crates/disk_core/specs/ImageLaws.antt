-- Laws of what a crash may leave.
use Rattle.std.proofs.Common.{◌≡◌, inl, inr, ℕ, zero, suc, ◌+◌, ◌-◌, ◌<◌, ◌≤◌, Bool, true, false, List, [], ◌∷◌, ◌++◌, length, take, drop, replicate, get_or, Some, refl, sym, ◌∙◌, ap, subst, arith, ◌⊎◌, length-append, length-take}
use Rattle.std.specs.Prelude.{slice_get, nat_lt, nat_le, ◌||◌}
use Rattle.std.proofs.lemmas.Bool.Decides.{nat_tests}
use Rattle.std.proofs.lemmas.Option.{slice_get_within, slice_get-get_or}
use Rattle.std.proofs.lemmas.List.{length-replicate}
use Rattle.disk_core.specs.Disk.{overwritten, between, from, Agrees, Opens}
use Rattle.disk_core.specs.Event.{Event, Wrote, Shortened, Synced, BeganWrite, BeganCut, seen_of, kept_of, opened, ImagesNow, Images}

-- Tests.
by_test : {P : Type 0} (b : Bool) → ((b ≡ true) → P) → ((b ≡ false) → P) → P
by_test true f g = f refl
by_test false f g = g refl

or_left : (a b : Bool) → (a || b) ≡ false → a ≡ false
or_left false b e = refl
or_left true b e = e

or_right : (a b : Bool) → (a || b) ≡ false → b ≡ false
or_right false b e = e
or_right true b e = absurd cc

neither : (a b : Bool) → a ≡ false → b ≡ false → (a || b) ≡ false
neither false b e f = f
neither true b e f = absurd cc

outside : (at end place : ℕ) → between at end place ≡ false → (place < at) ⊎ (end ≤ place)
outside at end place e = by_test (nat_le at place) (λ le. by_test (nat_lt place end) (λ lt. absurd (cc)) (λ lt. inr (grind (arith, nat_tests)))) (λ le. inl (grind (arith, nat_tests)))

pub inside_left : (at end place : ℕ) → place < at → between at end place ≡ false
inside_left at end place l = grind (arith, nat_tests)

before_from : (at place : ℕ) → from at place ≡ false → place < at
before_from at place e = grind (arith, nat_tests)

-- Places in lists.
take_keeps : (len : ℕ) (old : List ℕ) (place : ℕ) → place < len → slice_get (take len old) place ≡ slice_get old place
take_keeps zero old place l = absurd (omega (arith, l))
take_keeps (suc n) [] place l = refl
take_keeps (suc n) (x ∷ old) zero l = refl
take_keeps (suc n) (x ∷ old) (suc place) l = take_keeps n old place (omega (arith, l))

append_keeps : (front back : List ℕ) (place : ℕ) → place < length front → slice_get (front ++ back) place ≡ slice_get front place
append_keeps [] back place l = absurd (omega (arith, l))
append_keeps (x ∷ front) back zero l = refl
append_keeps (x ∷ front) back (suc place) l = append_keeps front back place (omega (arith, l))

append_skips : (front back : List ℕ) (n place : ℕ) → length front + n ≡ place → slice_get (front ++ back) place ≡ slice_get back n
append_skips [] back n place e = ap (λ (p : ℕ). slice_get back p) (let same : place ≡ n = omega (arith, e) in same)
append_skips (x ∷ front) back n zero e = absurd (omega (arith, e))
append_skips (x ∷ front) back n (suc place) e = append_skips front back n place (omega (arith, e))

drop_skips : (len : ℕ) (old : List ℕ) (n place : ℕ) → len + n ≡ place → slice_get (drop len old) n ≡ slice_get old place
drop_skips zero old n place e = ap (λ (p : ℕ). slice_get old p) (let same : n ≡ place = omega (arith, e) in same)
drop_skips (suc len) [] n place e = refl
drop_skips (suc len) (x ∷ old) n zero e = absurd (omega (arith, e))
drop_skips (suc len) (x ∷ old) n (suc place) e = drop_skips len old n place (omega (arith, e))

within : (c file : List ℕ) (place : ℕ) → place < length file → slice_get c place ≡ slice_get file place → place < length c
within c file place l e = slice_get_within c place (get_or file place 0) (e ∙ slice_get-get_or file place 0 l)

-- A write changes nothing outside its places.
written_around : (at : ℕ) (bytes old : List ℕ) (place : ℕ) → place < length old → (place < at) ⊎ (at + length bytes ≤ place) → slice_get (overwritten at bytes old) place ≡ slice_get old place
written_around at [] old place l o = refl
written_around at (byte ∷ bytes) old place l (inl before) =
    let front = take at old in
    let gap : List ℕ = replicate (at - length old) 0 in
    let back = drop (at + length (byte ∷ bytes)) old in
    let here : place < length front = omega (arith, l, before, length-take at old) in
    append_keeps (front ++ gap ++ (byte ∷ bytes)) back place (omega (arith, here, length-append (front ++ gap) (byte ∷ bytes), length-append front gap))
    ∙ append_keeps (front ++ gap) (byte ∷ bytes) place (omega (arith, here, length-append front gap))
    ∙ append_keeps front gap place here
    ∙ take_keeps at old place before
written_around at (byte ∷ bytes) old place l (inr behind) =
    let front = take at old in
    let gap : List ℕ = replicate (at - length old) 0 in
    let end = at + length (byte ∷ bytes) in
    let long : length (front ++ gap ++ (byte ∷ bytes)) + (place - end) ≡ place =
    omega (arith, l, behind, length-take at old, length-append (front ++ gap) (byte ∷ bytes), length-append front gap, length-replicate {A = ℕ} (at - length old) 0) in
    append_skips (front ++ gap ++ (byte ∷ bytes)) (drop end old) (place - end) place long
    ∙ drop_skips end old (place - end) place (omega (arith, behind))

-- What a read gives has the bytes of the last sync, except at the places opened since.
seen_agrees : (first : List ℕ) (es : List Event) → Agrees (opened es) (kept_of first es) (seen_of first es)
seen_agrees first [] place l shut = refl
seen_agrees first (Wrote at bytes ∷ es) place l shut =
    let before = seen_agrees first es place l (or_left (opened es place) (between at (at + length bytes) place) shut) in
    written_around at bytes (seen_of first es) place (within (seen_of first es) (kept_of first es) place l before) (outside at (at + length bytes) place (or_right (opened es place) (between at (at + length bytes) place) shut))
    ∙ before
seen_agrees first (Shortened len ∷ es) place l shut =
    take_keeps len (seen_of first es) place (before_from len place (or_right (opened es place) (from len place) shut))
    ∙ seen_agrees first es place l (or_left (opened es place) (from len place) shut)
seen_agrees first (Synced ∷ es) place l shut = refl
seen_agrees first (BeganWrite at count ∷ es) place l shut = seen_agrees first es place l (or_left (opened es place) (between at (at + count) place) shut)
seen_agrees first (BeganCut len ∷ es) place l shut = seen_agrees first es place l (or_left (opened es place) (from len place) shut)

-- what a read gives is one of the images
pub image_seen : (first : List ℕ) (es : List Event) → ImagesNow first es (seen_of first es)
image_seen first [] = refl
image_seen first (Wrote at bytes ∷ es) = seen_agrees first (Wrote at bytes ∷ es)
image_seen first (Shortened len ∷ es) = seen_agrees first (Shortened len ∷ es)
image_seen first (Synced ∷ es) = refl
image_seen first (BeganWrite at count ∷ es) = seen_agrees first (BeganWrite at count ∷ es)
image_seen first (BeganCut len ∷ es) = seen_agrees first (BeganCut len ∷ es)

-- and so is what it gave at the last sync
pub image_kept : (first : List ℕ) (es : List Event) → ImagesNow first es (kept_of first es)
image_kept first [] = refl
image_kept first (Wrote at bytes ∷ es) = λ place l shut. refl
image_kept first (Shortened len ∷ es) = λ place l shut. refl
image_kept first (Synced ∷ es) = refl
image_kept first (BeganWrite at count ∷ es) = λ place l shut. refl
image_kept first (BeganCut len ∷ es) = λ place l shut. refl

pub image_as_seen : (first : List ℕ) (es : List Event) (c : List ℕ) → c ≡ seen_of first es → ImagesNow first es c
image_as_seen first es c is = subst (λ (f : List ℕ). ImagesNow first es f) (sym is) (image_seen first es)

pub image_as_kept : (first : List ℕ) (es : List Event) (c : List ℕ) → c ≡ kept_of first es → ImagesNow first es c
image_as_kept first es c is = subst (λ (f : List ℕ). ImagesNow first es f) (sym is) (image_kept first es)

-- after a sync a crash leaves what a read gives, which it might have left before
pub image_synced : (first : List ℕ) (es now : List Event) (c : List ℕ) → now ≡ Synced ∷ es → ImagesNow first now c → ImagesNow first es c
image_synced first es now c is left =
    image_as_seen first es c (subst (λ (l : List Event). ImagesNow first l c) is left)

-- this moment is one of those since an earlier one
pub image_counts : (first : List ℕ) (es : List Event) (t : ℕ) (c : List ℕ) → ImagesNow first es c → Images first es t c
image_counts first [] t c now = now
image_counts first (e ∷ es) t c now = inl now

-- since this moment there is no other
pub image_only : (first : List ℕ) (es : List Event) (c : List ℕ) → Images first es (length es) c → ImagesNow first es c
image_only first [] c left = left
image_only first (e ∷ es) c (inl now) = now
image_only first (e ∷ es) c (inr earlier) = absurd (omega (arith, earlier.0))

-- A file with another byte at a place.
bumped : ℕ → List ℕ → List ℕ
bumped place [] = []
bumped zero (x ∷ file) = suc x ∷ file
bumped (suc place) (x ∷ file) = x ∷ bumped place file

bumped_other : (other place : ℕ) (file : List ℕ) → (other ≡ place → ⊥) → slice_get (bumped place file) other ≡ slice_get file other
unfolding bumped
bumped_other other place [] n = refl
bumped_other zero zero (x ∷ file) n = absurd (n refl)
bumped_other (suc other) zero (x ∷ file) n = refl
bumped_other zero (suc place) (x ∷ file) n = refl
bumped_other (suc other) (suc place) (x ∷ file) n = bumped_other other place file (λ e. n (omega (arith, e)))

byte_same : (a b : ℕ) → Some a ≡ Some b → a ≡ b
byte_same a b e = cc

bumped_here : (place : ℕ) (file : List ℕ) → place < length file → slice_get (bumped place file) place ≡ slice_get file place → ⊥
unfolding bumped
bumped_here place [] l e = omega (arith, l)
bumped_here zero (x ∷ file) l e = let same = byte_same (suc x) x e in omega (arith, same)
bumped_here (suc place) (x ∷ file) l e = bumped_here place file (omega (arith, l)) e

clash : (free : ℕ → Bool) (place other : ℕ) → free place ≡ true → free other ≡ false → other ≡ place → ⊥
clash free place other held not_held same = let both : true ≡ false = sym held ∙ ap free (sym same) ∙ not_held in absurd cc

-- At an open place a crash may leave any byte.
image_bumped : (first : List ℕ) (es : List Event) (place : ℕ) (c : List ℕ) → opened es place ≡ true
    → ((other : ℕ) → (other ≡ place → ⊥) → slice_get c other ≡ slice_get (kept_of first es) other) → ImagesNow first es c
image_bumped first [] place c held same = absurd cc
image_bumped first (Wrote at bytes ∷ es) place c held same = λ other l not_held. same other (clash (opened (Wrote at bytes ∷ es)) place other held not_held)
image_bumped first (Shortened len ∷ es) place c held same = λ other l not_held. same other (clash (opened (Shortened len ∷ es)) place other held not_held)
image_bumped first (Synced ∷ es) place c held same = absurd cc
image_bumped first (BeganWrite at count ∷ es) place c held same = λ other l not_held. same other (clash (opened (BeganWrite at count ∷ es)) place other held not_held)
image_bumped first (BeganCut len ∷ es) place c held same = λ other l not_held. same other (clash (opened (BeganCut len ∷ es)) place other held not_held)

-- More places are open than before, and no others.
opens_more : (first : List ℕ) (es : List Event) (places : ℕ → Bool) (now : List ℕ → Type 0)
    → ((c : List ℕ) → now c → Agrees (λ place. opened es place || places place) (kept_of first es) c) → Opens places (ImagesNow first es) now
opens_more first es places now agrees = record {
  spares = λ file free spares c left place less shut.
      let kept = kept_of first es in
      let shut_before = or_left (free place) (places place) shut in
      let stood = spares kept (image_kept first es) place less shut_before in
      let there = within kept file place less stood in
      by_test (opened es place)
      (λ held. absurd (bumped_here place kept there (spares (bumped place kept) (image_bumped first es place (bumped place kept) held (λ other n. bumped_other other place kept n)) place less shut_before ∙ sym stood)))
      (λ not_held. agrees c left place there (neither (opened es place) (places place) not_held (or_right (free place) (places place) shut)) ∙ stood);
}

pub opens_wrote : (first : List ℕ) (es now : List Event) (at : ℕ) (bytes : List ℕ) → now ≡ Wrote at bytes ∷ es → Opens (between at (at + length bytes)) (ImagesNow first es) (ImagesNow first now)
opens_wrote first es now at bytes is = opens_more first es (between at (at + length bytes)) (ImagesNow first now) (λ c left. subst (λ (l : List Event). ImagesNow first l c) is left)

pub opens_shortened : (first : List ℕ) (es now : List Event) (len : ℕ) → now ≡ Shortened len ∷ es → Opens (from len) (ImagesNow first es) (ImagesNow first now)
opens_shortened first es now len is = opens_more first es (from len) (ImagesNow first now) (λ c left. subst (λ (l : List Event). ImagesNow first l c) is left)

pub opens_began_write : (first : List ℕ) (es now : List Event) (at count : ℕ) → now ≡ BeganWrite at count ∷ es → Opens (between at (at + count)) (ImagesNow first es) (ImagesNow first now)
opens_began_write first es now at count is = opens_more first es (between at (at + count)) (ImagesNow first now) (λ c left. subst (λ (l : List Event). ImagesNow first l c) is left)

pub opens_began_cut : (first : List ℕ) (es now : List Event) (len : ℕ) → now ≡ BeganCut len ∷ es → Opens (from len) (ImagesNow first es) (ImagesNow first now)
opens_began_cut first es now len is = opens_more first es (from len) (ImagesNow first now) (λ c left. subst (λ (l : List Event). ImagesNow first l c) is left)

-- Nothing was done.
pub opens_none : (places : ℕ → Bool) (old : List ℕ → Type 0) → Opens places old old
opens_none places old = record { spares = λ file free spares c left place less shut. spares c left place less (or_left (free place) (places place) shut) }

-- What a write may leave of a file that a crash would have left whole.
pub opens_whole : (file : List ℕ) (places : ℕ → Bool) (old new : List ℕ → Type 0) → Opens places old new → ((c : List ℕ) → old c → c ≡ file) → (c : List ℕ) → new c → Agrees places file c
opens_whole file places old new opens only c left place less shut =
    opens.spares file (λ p. false) (λ d was other l s. ap (λ (f : List ℕ). slice_get f other) (only d was)) c left place less shut
