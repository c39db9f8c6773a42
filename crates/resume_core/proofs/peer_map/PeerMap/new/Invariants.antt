use Rattle.std.proofs.Common.{◌≡◌, ℕ, drop}
use Rattle.std.specs.BTreeMap.{get}
use Rattle.std.specs.Cmp.Lexicographic.{slice_cmp}
use Rattle.std.specs.List.{position_from}
use Rattle.std.specs.Ordering.{nat_cmp}
use Rattle.arrayvec.specs.ArrayVec.{ArrayVec}
use Rattle.book_model.specs.Book.{same_bytes}
use Rattle.resume_core.proofs.peer_map.PeerMap.new.Given as goal

-- the places of the entries from here on
abbrev pub invariant-loop-place : goal.invariant-loop-place
invariant-loop-place l = (tag : ArrayVec ℕ) → get (λ v w. slice_cmp nat_cmp v.items w.items) l.places tag ≡ position_from (λ d. same_bytes d.tag.items tag.items) l.place (drop l.place l.entries)
