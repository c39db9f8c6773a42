-- A new journal.
use Rattle.std.proofs.Common.{◌≡◌, inl, ℕ, List, [], ◌∷◌, ◌++◌, length, refl, ◌∙◌, arith}
use Rattle.std.proofs.Math.Path.{fun_ext}
use Rattle.disk_core.specs.declared.side.Side.TheVariants.{First, Second}
use Rattle.disk_core.specs.Disk.{overwritten}
use Rattle.disk_core.specs.Twin.{Contents}
use Rattle.disk_core.specs.TwinLaws.{by_side}
use Rattle.book_model.specs.Book.{empty_book}
use Rattle.book_laws.proofs.KeptSound.{empty_sound}
use Rattle.journal_codec.specs.Format.{in_4, in_8}
use Rattle.gate_journal.proofs.Fronts.{fresh_holds}
use Rattle.twin_journal.specs.Checkpoints.{IsCheckpoint}
use Rattle.twin_journal.specs.Format.{magic, checkpoint_bytes, stamp_bytes, head_bytes, fresh}
use Rattle.twin_journal.specs.Holding.{TwinHolds}
use Rattle.twin_journal.proofs.Checked.{listed_book}

abbrev pub active : List ℕ
active = 65 ∷ 77 ∷ 81 ∷ 82 ∷ 74 ∷ 48 ∷ 48 ∷ 50 ∷ 1 ∷ 0 ∷ 0 ∷ 0 ∷ 0 ∷ 0 ∷ 0 ∷ 0 ∷ 1 ∷ 0 ∷ 0 ∷ 0 ∷ 0 ∷ 0 ∷ 0 ∷ 0 ∷ 0 ∷ 0 ∷ 0 ∷ 0 ∷ 16 ∷ 0 ∷ 0 ∷ 0 ∷ 0 ∷ 0 ∷ 0 ∷ 0 ∷ 1 ∷ 0 ∷ 0 ∷ 0 ∷ 0 ∷ 0 ∷ 0 ∷ 0 ∷ 1 ∷ 0 ∷ []

active_is : active ≡ fresh First
unfolding stamp_bytes in_4 in_8
active_is = refl

pub fresh_both : (new mid : Contents) → new First ≡ overwritten 0 active [] → new Second ≡ mid Second → mid Second ≡ overwritten 0 (magic ++ 0 ∷ []) [] → new ≡ fresh
fresh_both new mid first same second =
    fun_ext (by_side First (λ s. new s ≡ fresh s) (first ∙ active_is) (same ∙ second))

empty_checkpoint : IsCheckpoint (checkpoint_bytes 1 1 []) empty_book
empty_checkpoint = listed_book (checkpoint_bytes 1 1 []) empty_book empty_sound refl (omega arith) (omega arith) tt

size_of_empty : 16 ≡ length (checkpoint_bytes 1 1 [])
unfolding in_8
size_of_empty = refl

pub fresh_holds_none : TwinHolds fresh 0 empty_book []
fresh_holds_none = record {
  side = First;
  epoch = 1;
  size = 16;
  stamp = stamp_bytes 1 0 (checkpoint_bytes 1 1 []);
  on = record {
    is_stamp = record {
      checkpoint = checkpoint_bytes 1 1 [];
      is = refl;
      epoch_fits = omega arith;
      base_fits = omega arith;
      short = omega (arith, size_of_empty);
      size_is = size_of_empty;
      is_checkpoint = empty_checkpoint;
    };
    holds = fresh_holds (head_bytes 1 0 (checkpoint_bytes 1 1 [])) empty_book (fresh First) refl;
    idle = inl (record { gate = 0; rest = []; shut = λ e. absurd (omega (arith, e)); is = refl });
  };
}
