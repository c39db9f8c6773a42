-- How much room a book leaves, by the length of its acts.
use Rattle.std.proofs.Common.{◌≡◌, ◌+◌, ◌-◌, ℕ, ap, arith, length}
use Rattle.book_model.specs.Book.{BookView}
use Rattle.book_model.specs.Restoring.{acts_of_book}
use Rattle.gate_journal.specs.Reserve.{reserve}
use Rattle.journal_codec.specs.Format.{acts_bytes}
use Rattle.twin_journal.proofs.Sizes.{checkpoint_size_is}
use Rattle.amqr_files.specs.Summaries.{room_left}

pub room_is : (b : BookView) (len needed : ℕ) → len ≡ length (acts_bytes (acts_of_book b)) → needed ≡ 30 + (16 + (len + (reserve b + 0)))
    → 67108864 - needed ≡ room_left b
room_is b len needed is_len is_needed = ap (λ (n : ℕ). 67108864 - n) (omega (arith, is_len, is_needed, checkpoint_size_is b))
