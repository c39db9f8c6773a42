-- A stream listed piece by piece.
use Rattle.std.proofs.Common.{◌≡◌, ℕ, ◌+◌, ◌++◌, Bool, true, false, List, [], ◌∷◌, length, refl, sym, ap, ◌∙◌, append_assoc, append-nil, arith}
use Rattle.std.specs.Prelude.{Result, Ok, Err, IfOk, IsTrue, ◌↔◌}
use Rattle.std.proofs.lemmas.List.{length-append, map-append}
use Rattle.amqp_frames.specs.Cuts.{Cuts}
use Rattle.amqp_frames.proofs.Fronts.{wrong_stays}
use Rattle.amqp_frames.proofs.Steps.{front_nothing}
use Rattle.amqp_frames.proofs.Streams.{cuts_append, leads_stays}
use Rattle.amqp_model.specs.declared.item.Item.{Item}
use Rattle.amqr_files.specs.Listing.{IsListing, line_of, lines_of_items}
use Rattle.amqr_files.specs.declared.listing.ListingLine.{ListingLine}
use Rattle.amqr_files.specs.declared.listing.ListingLine.TheVariants.{Rest}

-- everything of this stream was read except the last bytes; a reader keeps these bytes, and these lines were made
abbrev pub ListedSoFar : List ℕ → List ℕ → Bool → List ℕ → List ListingLine → Type 0
ListedSoFar stream behind failed kept lines = (fed : List ℕ) × (items : List Item) × (stream ≡ fed ++ behind) × Cuts failed fed items kept × (lines ≡ lines_of_items items)

-- nothing was read yet
pub listed_nothing : (stream : List ℕ) → ListedSoFar stream stream false [] []
listed_nothing stream = ([], [], refl, (refl, front_nothing [] refl), refl)

-- one more piece
pub listed_piece : (stream behind others piece : List ℕ) (failed : Bool) (kept rest : List ℕ) (lines : List ListingLine) (items : List Item)
    → ListedSoFar stream behind false kept lines → behind ≡ piece ++ others → Cuts failed (kept ++ piece) items rest → ListedSoFar stream others failed rest (lines ++ lines_of_items items)
listed_piece stream behind others piece failed kept rest lines items h cut fed = (
  h.0 ++ piece,
  h.1 ++ items,
  h.2 ∙ ap (λ (l : List ℕ). h.0 ++ l) cut ∙ sym (append_assoc h.0 piece others),
  cuts_append failed h.0 h.1 kept piece items rest h.3.0 fed,
  rw h.4 (sym (map-append line_of h.1 items)),
)

-- bytes after what ends a stream
cuts_stays : (stream : List ℕ) (items : List Item) (rest behind : List ℕ) → Cuts true stream items rest → Cuts true (stream ++ behind) items (rest ++ behind)
cuts_stays stream items rest behind h = (h.0, h.1, h.2, leads_stays stream h.0 rest behind h.3, wrong_stays rest behind h.1 h.4)

-- the stream ended before the last bytes
pub listed_ended : (stream behind : List ℕ) (kept : List ℕ) (lines : List ListingLine) → ListedSoFar stream behind true kept lines → IsListing stream (lines ++ Rest (length kept + length behind) ∷ [])
listed_ended stream behind kept lines h = (
  true,
  h.1,
  kept ++ behind,
  rw h.2 (cuts_stays h.0 h.1 kept behind h.3),
  rw (h.4, length-append kept behind) refl,
)

-- all was read
pub listed_all : (stream behind : List ℕ) (failed : Bool) (kept : List ℕ) (lines : List ListingLine) → behind ≡ [] → ListedSoFar stream behind failed kept lines → IsListing stream (lines ++ Rest (length kept + length behind) ∷ [])
listed_all stream behind failed kept lines none h =
    let whole : stream ≡ h.0 = h.2 ∙ ap (λ (l : List ℕ). h.0 ++ l) none ∙ append-nil h.0 in
    let bytes : length kept + length behind ≡ length kept = rw none (omega arith) in (
      failed,
      h.1,
      kept,
      rw whole h.3,
      rw (h.4, bytes) refl,
    )

-- lines that are a listing, as a result
pub listed_by : {V E : Type 0} (r : Result V E) (lines_in : V → List ListingLine) (stream : List ℕ) (lines : List ListingLine) → IfOk r (λ v. lines_in v ≡ lines) → IsListing stream lines → IfOk r (λ v. IsListing stream (lines_in v))
listed_by (Ok v) lines_in stream lines is h = rw is h
listed_by (Err e) lines_in stream lines is h = tt

-- one more piece, where the reader took it
pub listed_more : (stream behind others piece : List ℕ) (before failed : Bool) (kept rest : List ℕ) (lines more : List ListingLine) (items : List Item)
    → ListedSoFar stream behind before kept lines → before ≡ false → behind ≡ piece ++ others → Cuts failed (kept ++ piece) items rest → more ≡ lines ++ lines_of_items items → ListedSoFar stream others failed rest more
listed_more stream behind others piece before failed kept rest lines more items h awake cut fed is =
    rw is (listed_piece stream behind others piece failed kept rest lines items (rw awake at h) cut fed)

pub listed_failed : (stream behind : List ℕ) (failed : Bool) (kept rest : List ℕ) (lines : List ListingLine) → ListedSoFar stream behind failed kept lines → failed ≡ true → rest ≡ kept → IsListing stream (lines ++ Rest (length rest + length behind) ∷ [])
listed_failed stream behind failed kept rest lines h ended same = rw same (listed_ended stream behind kept lines (rw ended at h))

-- a reader that gave items had not failed before
pub awake_if_ok : {T E : Type 0} (failed : Bool) (r : Result T E) (x : T) (f : E) → (r ≡ Err f) ↔ IsTrue failed → r ≡ Ok x → failed ≡ false
awake_if_ok true r x f h is = let wrong : Ok x ≡ Err f = sym is ∙ h.1 refl in absurd cc
awake_if_ok false r x f h is = refl
