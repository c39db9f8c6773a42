-- A disk as a list of what was done to it, the newest first: what a read gives then, and what a crash may leave.
use Rattle.std.specs.Prelude.{◌≡◌, ◌⊎◌, ℕ, ◌+◌, ◌≤◌, Bool, false, ◌||◌, List, [], ◌∷◌, length, take}
use Rattle.disk_core.specs.Disk.{overwritten, between, from, Agrees}

-- The last two are a write and a cut that failed: a read sees nothing of them, but a crash may leave them begun.
pub data Event : Type 0 where
  Wrote : (at : ℕ) (bytes : List ℕ) → Event
  Shortened : (len : ℕ) → Event
  Synced : Event
  BeganWrite : (at count : ℕ) → Event
  BeganCut : (len : ℕ) → Event

-- what a read gives, where these bytes stood at first
abbrev pub seen_of : List ℕ → List Event → List ℕ
seen_of first [] = first
seen_of first (Wrote at bytes ∷ es) = overwritten at bytes (seen_of first es)
seen_of first (Shortened len ∷ es) = take len (seen_of first es)
seen_of first (Synced ∷ es) = seen_of first es
seen_of first (BeganWrite at count ∷ es) = seen_of first es
seen_of first (BeganCut len ∷ es) = seen_of first es

-- what a read gave at the last sync
abbrev pub kept_of : List ℕ → List Event → List ℕ
kept_of first [] = first
kept_of first (Wrote at bytes ∷ es) = kept_of first es
kept_of first (Shortened len ∷ es) = kept_of first es
kept_of first (Synced ∷ es) = seen_of first es
kept_of first (BeganWrite at count ∷ es) = kept_of first es
kept_of first (BeganCut len ∷ es) = kept_of first es

-- the places that writes and cuts since the last sync have opened
abbrev pub opened : List Event → ℕ → Bool
opened [] place = false
opened (Wrote at bytes ∷ es) place = opened es place || between at (at + length bytes) place
opened (Shortened len ∷ es) place = opened es place || from len place
opened (Synced ∷ es) place = false
opened (BeganWrite at count ∷ es) place = opened es place || between at (at + count) place
opened (BeganCut len ∷ es) place = opened es place || from len place

-- What a crash may leave now: after a sync, what a read gives; else anything that has each byte of the last sync except at
-- the places opened since, in any order.
abbrev pub ImagesNow : List ℕ → List Event → List ℕ → Type 0
ImagesNow first [] c = c ≡ first
ImagesNow first (Wrote at bytes ∷ es) c = Agrees (opened (Wrote at bytes ∷ es)) (kept_of first es) c
ImagesNow first (Shortened len ∷ es) c = Agrees (opened (Shortened len ∷ es)) (kept_of first es) c
ImagesNow first (Synced ∷ es) c = c ≡ seen_of first es
ImagesNow first (BeganWrite at count ∷ es) c = Agrees (opened (BeganWrite at count ∷ es)) (kept_of first es) c
ImagesNow first (BeganCut len ∷ es) c = Agrees (opened (BeganCut len ∷ es)) (kept_of first es) c

-- what a crash might have left at some moment from t on; a moment is the number of events before it
abbrev pub Images : List ℕ → List Event → ℕ → List ℕ → Type 0
Images first [] t c = ImagesNow first [] c
Images first (e ∷ es) t c = ImagesNow first (e ∷ es) c ⊎ ((t ≤ length es) × Images first es t c)
