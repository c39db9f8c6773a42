-- What one call on a side does to two files, told by their turns.
use Rattle.std.proofs.Common.{◌≡◌, inl, inr, ℕ, ◌+◌, List, [], ◌∷◌, ◌++◌, length, take, Option, None, Some, Result, Ok, Err, OnOk, IsErr, IsErrOf, refl, sym, ◌∙◌, ap, subst, arith, ⊎_elim, Bool}
use Rattle.std.specs.Prelude.{slice_get, ◌||◌}
use Rattle.std.proofs.Math.Path.{fun_ext}
use Rattle.std.proofs.lemmas.List.{append-nil, drop_all}
use Rattle.disk_core.specs.declared.fault.DiskFault.{DiskFault}
use Rattle.disk_core.specs.declared.fault.DiskFault.TheVariants.{Failed, Memory}
use Rattle.disk_core.specs.declared.side.Side.{Side}
use Rattle.disk_core.specs.declared.side.Side.TheVariants.{First, Second}
use Rattle.disk_core.specs.Disk.{overwritten, between, from, Agrees, NoMore, Only, Opens, Elapses}
use Rattle.disk_core.specs.DiskLaws.{overwritten_inside}
use Rattle.disk_core.specs.Event.{Event, Wrote, Shortened, Synced, BeganWrite, BeganCut, seen_of, kept_of, opened, ImagesNow}
use Rattle.disk_core.specs.ImageLaws.{image_seen, opens_none, opens_wrote, opens_shortened, opens_began_write, opens_began_cut, image_synced}
use Rattle.disk_core.specs.TurnLaws.{each_side}
use Rattle.disk_core.specs.TwinLaws.{by_side}
use Rattle.disk_core.specs.Turns.{Turn, Of, on, both, LeftNow, LeftSince, Told, add, write_event, cut_event, sync_event}
use Rattle.disk_core.specs.Twin.{other, Contents, OnSide}

-- Sides.
on_same : (side : Side) (e : Event) (turns : List Turn) → on side (Of side e ∷ turns) ≡ e ∷ on side turns
on_same First e turns = refl
on_same Second e turns = refl

on_other : (side : Side) (happened : Option Event) (turns : List Turn) → on (other side) (add side happened turns) ≡ on (other side) turns
on_other side None turns = refl
on_other First (Some e) turns = refl
on_other Second (Some e) turns = refl

-- the contents with other bytes on one side
placed : Side → List ℕ → Contents → Contents
placed First file c First = file
placed First file c Second = c Second
placed Second file c First = c First
placed Second file c Second = file

placed_left : (side : Side) (file : List ℕ) (turns : List Turn) → ImagesNow [] (on side turns) file
    → LeftNow turns (placed side file (λ s. seen_of [] (on s turns)))
unfolding placed
placed_left First file turns left First = left
placed_left First file turns left Second = image_seen [] (on Second turns)
placed_left Second file turns left First = image_seen [] (on First turns)
placed_left Second file turns left Second = left

placed_there : (side : Side) (file : List ℕ) (c : Contents) → placed side file c side ≡ file
unfolding placed
placed_there First file c = refl
placed_there Second file c = refl

-- What a crash may leave of a side is what the side's own events may leave.
pub side_left : (side : Side) (turns : List Turn) (file : List ℕ) → OnSide side (LeftNow turns) file → ImagesNow [] (on side turns) file
side_left side turns file left = subst (λ (f : List ℕ). ImagesNow [] (on side turns) f) left.is (left.outcome side)

pub left_side : (side : Side) (turns : List Turn) (file : List ℕ) → ImagesNow [] (on side turns) file → OnSide side (LeftNow turns) file
left_side side turns file left = record {
  both = placed side file (λ s. seen_of [] (on s turns));
  outcome = placed_left side file turns left;
  is = placed_there side file (λ s. seen_of [] (on s turns));
}

-- Whatever the event on a side, the other side stays.
pub other_stays : (side : Side) (happened : Option Event) (turns now : List Turn) → now ≡ add side happened turns
    → NoMore (OnSide (other side) (LeftNow turns)) (OnSide (other side) (LeftNow now))
other_stays side happened turns now is file left =
    let images = side_left (other side) now file left in
    left_side (other side) turns file
    (subst (λ (es : List Event). ImagesNow [] es file) (ap (on (other side)) is ∙ on_other side happened turns) images)

-- Time goes on by one moment at most.
pub time : (side : Side) (happened : Option Event) (turns now : List Turn) → now ≡ add side happened turns
    → Elapses (length turns) (length now) (LeftSince turns) (LeftSince now) (LeftNow now)
time side None turns now is =
    subst (λ (l : List Turn). Elapses (length turns) (length l) (LeftSince turns) (LeftSince l) (LeftNow l)) (sym is)
    (record { later = omega arith; nothing_else = λ t c le left. inl left; keeps = λ t c le left. left })
time side (Some e) turns now is =
    subst (λ (l : List Turn). Elapses (length turns) (length l) (LeftSince turns) (LeftSince l) (LeftNow l)) (sym is)
    (record {
      later = omega arith;
      nothing_else = λ t c le left. ⊎_elim (λ here. inr here) (λ earlier. inl earlier.1) left;
      keeps = λ t c le left. inr (le, left);
    })

-- Nothing happened.
pub nothing_more : (side : Side) (turns now : List Turn) → now ≡ add side None turns → NoMore (LeftNow turns) (LeftNow now)
nothing_more side turns now is c left = subst (λ (l : List Turn). LeftNow l c) is left

-- Places of a side are opened if its own events open them.
opens_on : (side : Side) (turns now : List Turn) (places : ℕ → Bool) → Opens places (ImagesNow [] (on side turns)) (ImagesNow [] (on side now))
    → Opens places (OnSide side (LeftNow turns)) (OnSide side (LeftNow now))
opens_on side turns now places opens = record {
  spares = λ file free spares c left. opens.spares file free (λ d image. spares d (left_side side turns d image)) c (side_left side now c left);
}

event_of_side : (side : Side) (e : Event) (turns now : List Turn) → now ≡ add side (Some e) turns → on side now ≡ e ∷ on side turns
event_of_side side e turns now is = ap (on side) is ∙ on_same side e turns

-- A file that is told by its events is told by one more after a call.
agrees_now : (es : List Event) (c : List ℕ) → ImagesNow [] es c → Agrees (opened es) (kept_of [] es) c
agrees_now [] c left = λ place l shut. ap (λ (f : List ℕ). slice_get f place) left
agrees_now (Wrote at bytes ∷ es) c left = left
agrees_now (Shortened len ∷ es) c left = left
agrees_now (Synced ∷ es) c left = λ place l shut. ap (λ (f : List ℕ). slice_get f place) left
agrees_now (BeganWrite at count ∷ es) c left = left
agrees_now (BeganCut len ∷ es) c left = left

-- the outcomes agree with the last sync but at the places that are open now
opened_more : (es : List Event) (places : ℕ → Bool) (old new : List ℕ → Type 0) → Opens places old new → NoMore (ImagesNow [] es) old
    → (c : List ℕ) → new c → Agrees (λ place. opened es place || places place) (kept_of [] es) c
opened_more es places old new opens less = opens.spares (kept_of [] es) (opened es) (λ d was. agrees_now es d (less d was))

module _ (es : List Event) (b b' : List ℕ) (l l' : List ℕ → Type 0) (told : Told es b l) where
  told_same : b' ≡ b → NoMore l l' → Told es b' l'
  told_same same less = record { read = same ∙ told.read; left = λ c left. told.left c (less c left) }

  told_wrote : (at : ℕ) (bytes : List ℕ) → b' ≡ overwritten at bytes b → Opens (between at (at + length bytes)) l l' → Told (Wrote at bytes ∷ es) b' l'
  told_wrote at bytes is opens = record {
    read = is ∙ ap (overwritten at bytes) told.read;
    left = opened_more es (between at (at + length bytes)) l l' opens told.left;
  }

  told_began_write : (at count : ℕ) → b' ≡ b → Opens (between at (at + count)) l l' → Told (BeganWrite at count ∷ es) b' l'
  told_began_write at count same opens = record {
    read = same ∙ told.read;
    left = opened_more es (between at (at + count)) l l' opens told.left;
  }

  told_shortened : (len : ℕ) → b' ≡ take len b → Opens (from len) l l' → Told (Shortened len ∷ es) b' l'
  told_shortened len is opens = record {
    read = is ∙ ap (take len) told.read;
    left = opened_more es (from len) l l' opens told.left;
  }

  told_began_cut : (len : ℕ) → b' ≡ b → Opens (from len) l l' → Told (BeganCut len ∷ es) b' l'
  told_began_cut len same opens = record {
    read = same ∙ told.read;
    left = opened_more es (from len) l l' opens told.left;
  }

  told_synced : b' ≡ b → Only b' l' → Told (Synced ∷ es) b' l'
  told_synced same only = record { read = same ∙ told.read; left = λ c left. only c left ∙ same ∙ told.read }

-- The file that a call is not on.
pub other_told : (side : Side) (happened : Option Event) (turns now : List Turn) (b : List ℕ) (l : List ℕ → Type 0) → now ≡ add side happened turns
    → Told (on (other side) turns) b l → Told (on (other side) now) b l
other_told side happened turns now b l is =
    subst (λ (es : List Event). Told es b l) (sym (ap (on (other side)) is ∙ on_other side happened turns))

pub nothing_told : (side : Side) (turns now : List Turn) (b b' : List ℕ) (l l' : List ℕ → Type 0) → now ≡ add side None turns → Told (on side turns) b l
    → b' ≡ b → NoMore l l' → Told (on side now) b' l'
nothing_told side turns now b b' l l' is told same less =
    subst (λ (t : List Turn). Told (on side t) b' l') (sym is) (told_same (on side turns) b b' l l' told same less)

event_told : (side : Side) (e : Event) (turns now : List Turn) (b' : List ℕ) (l' : List ℕ → Type 0) → now ≡ add side (Some e) turns
    → Told (e ∷ on side turns) b' l' → Told (on side now) b' l'
event_told side e turns now b' l' is = subst (λ (es : List Event). Told es b' l') (sym (event_of_side side e turns now is))

-- A write.
module _ {T : Type 0} (side : Side) (at : ℕ) (bytes : List ℕ) where
  pub write_opens : (done : Result T DiskFault) (turns now : List Turn) → now ≡ add side (write_event at bytes done) turns
      → Opens (between at (at + length bytes)) (OnSide side (LeftNow turns)) (OnSide side (LeftNow now))
  write_opens (Ok x) turns now is =
      opens_on side turns now _ (opens_wrote [] (on side turns) (on side now) at bytes (event_of_side side (Wrote at bytes) turns now is))
  write_opens (Err Failed) turns now is =
      opens_on side turns now _
      (opens_began_write [] (on side turns) (on side now) at (length bytes) (event_of_side side (BeganWrite at (length bytes)) turns now is))
  write_opens (Err Memory) turns now is =
      subst (λ (l : List Turn). Opens (between at (at + length bytes)) (OnSide side (LeftNow turns)) (OnSide side (LeftNow l))) (sym is)
      (opens_none _ (OnSide side (LeftNow turns)))

  pub write_undone : (done : Result T DiskFault) (turns now : List Turn) → now ≡ add side (write_event at bytes done) turns
      → IsErrOf done Memory → NoMore (LeftNow turns) (LeftNow now)
  write_undone (Ok x) turns now is memory = absurd cc
  write_undone (Err Failed) turns now is memory = absurd cc
  write_undone (Err Memory) turns now is memory = nothing_more side turns now is

  pub write_told : (done : Result T DiskFault) (turns now : List Turn) (b b' : List ℕ) (l l' : List ℕ → Type 0)
      → now ≡ add side (write_event at bytes done) turns → Told (on side turns) b l
      → OnOk done (b' ≡ overwritten at bytes b) → (IsErr done → b' ≡ b) → Opens (between at (at + length bytes)) l l' → (IsErrOf done Memory → NoMore l l')
      → Told (on side now) b' l'
  write_told (Ok x) turns now b b' l l' is told written same opens undone =
      event_told side (Wrote at bytes) turns now b' l' is (told_wrote (on side turns) b b' l l' told at bytes written opens)
  write_told (Err Failed) turns now b b' l l' is told written same opens undone =
      event_told side (BeganWrite at (length bytes)) turns now b' l' is (told_began_write (on side turns) b b' l l' told at (length bytes) (same refl) opens)
  write_told (Err Memory) turns now b b' l l' is told written same opens undone =
      nothing_told side turns now b b' l l' is told (same refl) (undone refl)

-- A cut.
module _ {T : Type 0} (side : Side) (len : ℕ) where
  pub cut_opens : (done : Result T DiskFault) (turns now : List Turn) → now ≡ add side (cut_event len done) turns
      → Opens (from len) (OnSide side (LeftNow turns)) (OnSide side (LeftNow now))
  cut_opens (Ok x) turns now is =
      opens_on side turns now _ (opens_shortened [] (on side turns) (on side now) len (event_of_side side (Shortened len) turns now is))
  cut_opens (Err Failed) turns now is =
      opens_on side turns now _ (opens_began_cut [] (on side turns) (on side now) len (event_of_side side (BeganCut len) turns now is))
  cut_opens (Err Memory) turns now is =
      subst (λ (l : List Turn). Opens (from len) (OnSide side (LeftNow turns)) (OnSide side (LeftNow l))) (sym is)
      (opens_none _ (OnSide side (LeftNow turns)))

  pub cut_undone : (done : Result T DiskFault) (turns now : List Turn) → now ≡ add side (cut_event len done) turns
      → IsErrOf done Memory → NoMore (LeftNow turns) (LeftNow now)
  cut_undone (Ok x) turns now is memory = absurd cc
  cut_undone (Err Failed) turns now is memory = absurd cc
  cut_undone (Err Memory) turns now is memory = nothing_more side turns now is

  pub cut_told : (done : Result T DiskFault) (turns now : List Turn) (b b' : List ℕ) (l l' : List ℕ → Type 0)
      → now ≡ add side (cut_event len done) turns → Told (on side turns) b l
      → OnOk done (b' ≡ take len b) → (IsErr done → b' ≡ b) → Opens (from len) l l' → (IsErrOf done Memory → NoMore l l')
      → Told (on side now) b' l'
  cut_told (Ok x) turns now b b' l l' is told cut same opens undone =
      event_told side (Shortened len) turns now b' l' is (told_shortened (on side turns) b b' l l' told len cut opens)
  cut_told (Err Failed) turns now b b' l l' is told cut same opens undone =
      event_told side (BeganCut len) turns now b' l' is (told_began_cut (on side turns) b b' l l' told len (same refl) opens)
  cut_told (Err Memory) turns now b b' l l' is told cut same opens undone =
      nothing_told side turns now b b' l l' is told (same refl) (undone refl)

-- A sync.
module _ {T : Type 0} (side : Side) where
  pub sync_less : (done : Result T DiskFault) (turns now : List Turn) → now ≡ add side (sync_event done) turns → NoMore (LeftNow turns) (LeftNow now)
  sync_less (Ok x) turns now is = λ c left.
      by_side side (λ s. ImagesNow [] (on s turns) (c s))
      (image_synced [] (on side turns) (on side now) (c side) (event_of_side side Synced turns now is) (left side))
      (subst (λ (es : List Event). ImagesNow [] es (c (other side))) (ap (on (other side)) is ∙ on_other side (Some Synced) turns) (left (other side)))
  sync_less (Err fault) turns now is = nothing_more side turns now is

  pub sync_only : (done : Result T DiskFault) (turns now : List Turn) (file : List ℕ) → now ≡ add side (sync_event done) turns → file ≡ seen_of [] (on side now)
      → OnOk done (Only file (OnSide side (LeftNow now)))
  sync_only (Ok x) turns now file is read = λ f left.
      let synced = event_of_side side Synced turns now is in
      subst (λ (es : List Event). ImagesNow [] es f) synced (side_left side now f left) ∙ sym (read ∙ ap (seen_of []) synced)
  sync_only (Err fault) turns now file is read = tt

  pub sync_told : (done : Result T DiskFault) (turns now : List Turn) (b b' : List ℕ) (l l' : List ℕ → Type 0)
      → now ≡ add side (sync_event done) turns → Told (on side turns) b l → b' ≡ b → OnOk done (Only b' l') → NoMore l l' → Told (on side now) b' l'
  sync_told (Ok x) turns now b b' l l' is told same only less =
      event_told side Synced turns now b' l' is (told_synced (on side turns) b b' l l' told same only)
  sync_told (Err fault) turns now b b' l l' is told same only less = nothing_told side turns now b b' l l' is told same less

-- Two files that were just found.
pub written_whole : (bytes : List ℕ) → overwritten 0 bytes [] ≡ bytes
written_whole bytes =
    overwritten_inside 0 bytes [] (omega arith) ∙ ap (λ (l : List ℕ). bytes ++ l) (drop_all (0 + length bytes) [] (omega arith)) ∙ append-nil bytes

-- Whatever a file may hold, it is told by a write of all that was found.
pub found_told : (bytes : List ℕ) (l : List ℕ → Type 0) → Told (Wrote 0 bytes ∷ []) bytes l
found_told bytes l = record { read = sym (written_whole bytes); left = λ c left place less shut. absurd (omega (arith, less)) }

pub synced_told : (bytes : List ℕ) (l : List ℕ → Type 0) → Only bytes l → Told (Synced ∷ Wrote 0 bytes ∷ []) bytes l
synced_told bytes l only = record { read = sym (written_whole bytes); left = λ c left. only c left ∙ sym (written_whole bytes) }

-- the record of two files whose bytes are synced
abbrev pub synced_turns : List ℕ → List ℕ → List Turn
synced_turns first second = Of Second Synced ∷ Of First Synced ∷ Of Second (Wrote 0 second) ∷ Of First (Wrote 0 first) ∷ []

pub synced_both : (first second : List ℕ) → Only (both first second) (LeftNow (synced_turns first second))
synced_both first second c left =
    fun_ext (each_side (λ s. c s ≡ both first second s) (left First ∙ written_whole first) (left Second ∙ written_whole second))

-- The same of a call on a side by another name of it.
pub write_opens_on : {T : Type 0} (side called : Side) (at : ℕ) (bytes : List ℕ) (done : Result T DiskFault) (turns now : List Turn) → called ≡ side
    → now ≡ add side (write_event at bytes done) turns → Opens (between at (at + length bytes)) (OnSide called (LeftNow turns)) (OnSide called (LeftNow now))
write_opens_on side called at bytes done turns now same is =
    subst (λ (s : Side). Opens (between at (at + length bytes)) (OnSide s (LeftNow turns)) (OnSide s (LeftNow now))) (sym same) (write_opens side at bytes done turns now is)

pub cut_opens_on : {T : Type 0} (side called : Side) (len : ℕ) (done : Result T DiskFault) (turns now : List Turn) → called ≡ side
    → now ≡ add side (cut_event len done) turns → Opens (from len) (OnSide called (LeftNow turns)) (OnSide called (LeftNow now))
cut_opens_on side called len done turns now same is =
    subst (λ (s : Side). Opens (from len) (OnSide s (LeftNow turns)) (OnSide s (LeftNow now))) (sym same) (cut_opens side len done turns now is)

pub other_stays_on : (side called : Side) (happened : Option Event) (turns now : List Turn) → called ≡ side → now ≡ add side happened turns
    → NoMore (OnSide (other called) (LeftNow turns)) (OnSide (other called) (LeftNow now))
other_stays_on side called happened turns now same is =
    subst (λ (s : Side). NoMore (OnSide (other s) (LeftNow turns)) (OnSide (other s) (LeftNow now))) (sym same) (other_stays side happened turns now is)
