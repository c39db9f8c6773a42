-- Batches that are written to the active side.
use Rattle.std.proofs.Common.{◌≡◌, ◌⊎◌, inl, inr, ⊎_elim, ℕ, ◌+◌, List, [], ◌∷◌, ◌++◌, length, sym, ◌∙◌, subst, arith, length-append}
use Rattle.disk_core.specs.Disk.{overwritten, between, Only}
use Rattle.disk_core.specs.Twin.{other, Contents, OnSide}
use Rattle.disk_core.specs.TwinLaws.{SpoiltOn, only_side}
use Rattle.book_model.specs.declared.act.Act.{Act}
use Rattle.book_model.specs.Book.{BookView}
use Rattle.journal_codec.specs.Batches.{HoldsFrom, AllApply, book_after}
use Rattle.gate_journal.specs.Stands.{IsAtFrom}
use Rattle.twin_journal.specs.declared.figures.Figures.{Figures}
use Rattle.twin_journal.specs.Figures.{IsIdleAs, IsAt}
use Rattle.twin_journal.specs.Format.{magic}
use Rattle.twin_journal.specs.Held.{IsFillOf}
use Rattle.twin_journal.specs.Holding.{HoldsOn, TwinHolds}
use Rattle.twin_journal.specs.Sides.{IsIdle}
use Rattle.twin_journal.proofs.Grouped.{first_leaves, second_leaves, stored}

module _ (figures : Figures) (seen : Contents) (may_leave : Contents → Type 0) (stamp : List ℕ) (start : BookView) (bs : List (List Act)) (at : IsAt figures seen may_leave stamp start bs) where
  abbrev head : List ℕ
  head = magic ++ 1 ∷ stamp

  abbrev place : ℕ
  place = figures.place

  here : IsAtFrom head start (seen figures.side) (OnSide figures.side may_leave) place bs
  here = record { file = at.fits.on.holds; is_place = at.fits.is_place; durable = only_side figures.side seen may_leave at.durable }

  -- the idle side stays
  beside : (c : Contents) → c (other figures.side) ≡ seen (other figures.side) → (batches : List (List Act)) → HoldsFrom head start (c figures.side) batches
      → HoldsOn figures.side c figures.epoch figures.base figures.size stamp start batches
  beside c same batches holds = record { is_stamp = at.fits.on.is_stamp; holds = holds; idle = subst (IsIdle figures.epoch) (sym same) at.fits.on.idle }

  held : (c : Contents) → c (other figures.side) ≡ seen (other figures.side) → (batches : List (List Act)) → HoldsFrom head start (c figures.side) batches → TwinHolds c figures.base start batches
  held c same batches holds = record { side = figures.side; epoch = figures.epoch; size = figures.size; stamp = stamp; on = beside c same batches holds }

  module _ (lists : List (List Act)) (block : List ℕ) (fill : IsFillOf lists block) (apply : AllApply (book_after start bs) lists) where
    pub block_leaves : (c : Contents) → SpoiltOn figures.side (between (place + 1) (place + 1 + length block)) seen c → TwinHolds c figures.base start bs
    block_leaves c spoilt =
        held c spoilt.there bs (first_leaves head start (seen figures.side) (OnSide figures.side may_leave) place bs lists block here fill apply (c figures.side) spoilt.here)

    -- after the first write
    module _ (mid : Contents) (written : mid figures.side ≡ overwritten (place + 1) block (seen figures.side)) (same : mid (other figures.side) ≡ seen (other figures.side)) where
      pub gate_leaves : (c : Contents) → SpoiltOn figures.side (between place (place + 1)) mid c → TwinHolds c figures.base start bs ⊎ TwinHolds c figures.base start (bs ++ lists)
      gate_leaves c spoilt =
          let there = spoilt.there ∙ same in
          ⊎_elim (λ before. inl (held c there bs before)) (λ after. inr (held c there (bs ++ lists) after))
          (second_leaves head start (seen figures.side) (OnSide figures.side may_leave) place bs lists block here fill apply (mid figures.side) written (c figures.side) spoilt.here)

      -- and after the second
      pub group_stored : (new : Contents) (leaves : Contents → Type 0) → new figures.side ≡ overwritten place (1 ∷ []) (mid figures.side) → new (other figures.side) ≡ mid (other figures.side) → Only new leaves
          → IsAt (record figures { place = place + length block; last = figures.last + length lists }) new leaves stamp start (bs ++ lists)
      group_stored new leaves gated beside_too only =
          let there = beside_too ∙ same in
          let s = stored head start (seen figures.side) (OnSide figures.side may_leave) place bs lists block here fill apply (mid figures.side) (new figures.side) (OnSide figures.side leaves) written gated
          (only_side figures.side new leaves only) in
          record {
            fits = record {
              on = beside new there (bs ++ lists) s.file;
              idle = subst (IsIdleAs figures.idle_open figures.epoch) (sym there) at.fits.idle;
              is_place = s.is_place;
              last = omega (arith, at.fits.last, length-append bs lists);
            };
            durable = only;
          }
