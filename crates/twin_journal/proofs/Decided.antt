-- For any two files of bytes one thing is true: they open to a book, they are damaged at a place, or they are no
-- journal.
use Rattle.std.proofs.Common.{◌≡◌, ◌≢◌, ◌⊎◌, inl, inr, ⊎_elim, ℕ, ◌<◌, ◌≤◌, ◌^◌, List, [], ◌∷◌, ◌++◌, length, take, drop, get_or, Some, None, refl, sym, ap, ◌∙◌, subst, arith, length-append, length-drop, take-append-drop}
use Rattle.std.specs.Prelude.{nat_lt, ◌==◌}
use Rattle.std.specs.Cmp.Lexicographic.{pointwise, bytes_decides}
use Rattle.std.specs.Int.{w32, w64, from_be_bytes}
use Rattle.std.proofs.lemmas.List.{length-take-le}
use Rattle.disk_core.specs.declared.side.Side.{Side}
use Rattle.disk_core.specs.declared.side.Side.TheVariants.{First, Second}
use Rattle.disk_core.specs.Twin.{other, Contents}
use Rattle.disk_core.specs.TwinLaws.{by_side}
use Rattle.book_model.specs.Book.{BookView}
use Rattle.book_model.specs.Restoring.{restore_fault, restored}
use Rattle.journal_codec.specs.Batches.{book_after}
use Rattle.journal_codec.specs.Format.{in_4, in_8}
use Rattle.journal_codec.proofs.Tools.{AreBytes, by_test, is_less, is_not_less}
use Rattle.gate_journal.specs.declared.fault.OpenFault.TheVariants.{NotAJournal}
use Rattle.gate_journal.proofs.Decided.{decide_acts, by_option, by_number, are_back, are_front, judged_from}
use Rattle.twin_journal.specs.declared.gate.Gate.{Gate}
use Rattle.twin_journal.specs.declared.gate.Gate.TheVariants.{Shut, Open}
use Rattle.twin_journal.specs.Checkpoints.{IsCheckpoint, IsStamp, NoStamp}
use Rattle.twin_journal.specs.Format.{magic, largest, stamp_bytes}
use Rattle.twin_journal.specs.Holding.{OpensTo}
use Rattle.twin_journal.specs.Judging.{Explains, IsDamagedAt}
use Rattle.twin_journal.specs.Reading.{IsSized, AreFields}
use Rattle.twin_journal.specs.Sides.{IsNoSide, IsActive, NoneActive, HasEpoch, IsIdle, IsOlder, Says}
use Rattle.twin_journal.proofs.Active.{both_shut, first_short, second_short, first_newer, second_newer, neither_newer, said_open, one_epoch}
use Rattle.twin_journal.proofs.Checked.{spelled_parts, no_first, no_second, no_acts, no_book}
use Rattle.twin_journal.proofs.Firsts.{said_side}
use Rattle.twin_journal.proofs.Found.{stamp_epoch}
use Rattle.twin_journal.proofs.Spelled.{front_4, front_8, fits_4, fits_8, too_short, too_large}
use Rattle.twin_journal.proofs.Stamped.{too_short as unsized, too_long, no_epoch, no_base, no_checkpoint, these_fields, stamp_fields, gate_behind, no_stamp}

-- What the gate of a side says, unless it is no side.
record Parts (file : List ℕ) : Type 0 where
  gate : ℕ
  rest : List ℕ
  is : file ≡ gate ∷ rest

parts_of : (file : List ℕ) → 0 < length file → Parts file
parts_of [] some = absurd (omega (arith, some))
parts_of (g ∷ r) some = record { gate = g; rest = r; is = refl }

gate_said : (file : List ℕ) → AreBytes file → IsNoSide file ⊎ ((gate : Gate) × Says file gate)
gate_said file are =
    by_test (nat_lt (length file) 9) (λ t. inl (inl (is_less (length file) 9 t)))
    (λ t.
    let long = is_not_less (length file) 9 t in
    by_test (pointwise ◌==◌ (take 8 file) magic)
    (λ u.
    let head : take 8 file ≡ magic = (bytes_decides (take 8 file) magic).0 u in
    let p = parts_of (drop 8 file) (omega (arith, long, length-drop 8 file)) in
    let e : file ≡ magic ++ p.gate ∷ p.rest = sym (take-append-drop 8 file) ∙ ap (λ (l : List ℕ). l ++ drop 8 file) head ∙ ap (λ (l : List ℕ). magic ++ l) p.is in
    let are_rest = are_back file (magic ++ p.gate ∷ []) p.rest e are in
    by_number p.gate 1
    (λ one.
    let open' : file ≡ magic ++ 1 ∷ p.rest = e ∙ ap (λ (n : ℕ). magic ++ n ∷ p.rest) one in
    by_test (nat_lt (length p.rest) 8)
    (λ v. inr (Open None, (record { rest = p.rest; is = open' }, omega (arith, is_less (length p.rest) 8 v, ap length e, length-append magic (p.gate ∷ p.rest)))))
    (λ v.
    let enough = is_not_less (length p.rest) 8 v in
    inr (
      Open (Some (from_be_bytes w64 (take 8 p.rest))),
      record { rest = drop 8 p.rest; is = open' ∙ ap (λ (l : List ℕ). magic ++ 1 ∷ l) (front_8 p.rest are_rest enough); fits = fits_8 p.rest are_rest enough },
    )))
    (λ other'. inr (Shut, record { gate = p.gate; rest = p.rest; shut = other'; is = e })))
    (λ u. inl (inr (λ head. absurd (let yes = (bytes_decides (take 8 file) magic).1 head in cc)))))

-- Which side is active, unless none is.
decide_active : (c : Contents) (first second : Gate) → Says (c First) first → Says (c Second) second → ((side : Side) × IsActive c side) ⊎ NoneActive c
decide_active c Shut Shut one two = inr (both_shut c one two)
decide_active c Shut (Open e) one two = inl (Second, record { opened = said_open (c Second) e two; alone_or_newer = inl one })
decide_active c (Open e) Shut one two = inl (First, record { opened = said_open (c First) e one; alone_or_newer = inl two })
decide_active c (Open None) (Open e) one two = inr (first_short c (Open None) (Open e) refl (λ shut. absurd cc) one two)
decide_active c (Open (Some a)) (Open None) one two = inr (second_short c (Open (Some a)) (Open None) (λ shut. absurd cc) refl one two)
decide_active c (Open (Some a)) (Open (Some b)) one two =
    by_test (nat_lt b a) (λ t. inl (First, first_newer c a b one two (is_less b a t)))
    (λ t.
    by_test (nat_lt a b) (λ u. inl (Second, second_newer c a b one two (is_less a b u)))
    (λ u. inr (neither_newer c a b one two (omega (arith, is_not_less b a t, is_not_less a b u)))))

-- A number of at most 2 ^ 62 at the front.
record Small (bytes : List ℕ) : Type 0 where
  number : ℕ
  rest : List ℕ
  is : bytes ≡ in_8 number ++ rest
  small : number ≤ largest

decide_small : (bytes : List ℕ) → AreBytes bytes → Small bytes ⊎ ((n : ℕ) (rest : List ℕ) → n ≤ largest → bytes ≡ in_8 n ++ rest → ⊥)
decide_small bytes are =
    by_test (nat_lt (length bytes) 8) (λ t. inr (too_short bytes (is_less (length bytes) 8 t)))
    (λ t.
    let enough = is_not_less (length bytes) 8 t in
    let n = from_be_bytes w64 (take 8 bytes) in
    let e = front_8 bytes are enough in
    by_test (nat_lt largest n) (λ u. inr (too_large bytes (drop 8 bytes) n (fits_8 bytes are enough) (is_less largest n u) e))
    (λ u. inl (record { number = n; rest = drop 8 bytes; is = e; small = is_not_less largest n u })))

are_behind : (n : ℕ) (bytes rest : List ℕ) → bytes ≡ in_8 n ++ rest → AreBytes bytes → AreBytes rest
are_behind n bytes rest e are = are_back bytes (in_8 n) rest e are

-- A checkpoint, or none.
decide_checkpoint : (bytes : List ℕ) → AreBytes bytes → ((book : BookView) × IsCheckpoint bytes book) ⊎ ((book : BookView) → IsCheckpoint bytes book → ⊥)
decide_checkpoint bytes are =
    ⊎_elim
    (λ first.
    let are_rest = are_behind first.number bytes first.rest first.is are in
    ⊎_elim
    (λ second.
    let are_inside = are_behind second.number first.rest second.rest second.is are_rest in
    ⊎_elim
    (λ found.
    by_option (restore_fault first.number second.number found.acts)
    (λ reads. inl (
      restored first.number second.number found.acts,
      record {
        next_terminus = first.number;
        next_row = second.number;
        acts = found.acts;
        is = first.is ∙ ap (λ (l : List ℕ). in_8 first.number ++ l) (second.is ∙ ap (λ (l : List ℕ). in_8 second.number ++ l) found.is) ∙ sym (spelled_parts first.number second.number found.acts);
        terminus_fits = first.small;
        row_fits = second.small;
        writable = found.writable;
        reads = reads;
        book_is = refl;
      },
    ))
    (λ fault refused. inr (λ book is. no_book bytes first.rest first.number first.is first.small book is second.rest second.number second.is second.small found.acts found.writable found.is (λ reads. absurd (let no : None ≡ Some fault = sym reads ∙ refused in cc)))))
    (λ none. inr (λ book is. no_acts bytes first.rest first.number first.is first.small book is second.rest second.number second.is second.small none))
    (decide_acts (length second.rest) second.rest [] second.rest are_inside (omega arith) refl tt))
    (λ none. inr (λ book is. no_second bytes first.rest first.number first.is first.small book is none))
    (decide_small first.rest are_rest))
    (λ none. inr (λ book is. no_first bytes book none is))
    (decide_small bytes are)

-- A checkpoint's bytes after their length.
record Sized (bytes : List ℕ) : Type 0 where
  checkpoint : List ℕ
  behind : List ℕ
  sized : IsSized bytes checkpoint behind

decide_sized : (bytes : List ℕ) → AreBytes bytes → Sized bytes ⊎ ((checkpoint behind : List ℕ) → IsSized bytes checkpoint behind → ⊥)
decide_sized bytes are =
    by_test (nat_lt (length bytes) 4) (λ t. inr (unsized bytes (is_less (length bytes) 4 t)))
    (λ t.
    let enough = is_not_less (length bytes) 4 t in
    let n = from_be_bytes w32 (take 4 bytes) in
    let rest = drop 4 bytes in
    let e = front_4 bytes are enough in
    let fits = fits_4 bytes are enough in
    by_test (nat_lt n (length rest))
    (λ u.
    let more = is_less n (length rest) u in
    let len : length (take n rest) ≡ n = length-take-le n rest (omega (arith, more)) in
    inl (record {
      checkpoint = take n rest;
      behind = drop n rest;
      sized = record {
        is = e ∙ ap (λ (l : List ℕ). in_4 n ++ l) (sym (take-append-drop n rest)) ∙ ap (λ (m : ℕ). in_4 m ++ (take n rest ++ drop n rest)) (sym len);
        short = subst (λ (m : ℕ). m < 2 ^ 32) (sym len) fits;
        some = λ none. omega (arith, more, ap length none, length-drop n rest);
      };
    }))
    (λ u. inr (too_long bytes rest n fits e (is_not_less n (length rest) u))))

-- A stamp, or none.
record Stamped (inside : List ℕ) : Type 0 where
  epoch : ℕ
  base : ℕ
  size : ℕ
  stamp : List ℕ
  book : BookView
  is_stamp : IsStamp stamp epoch base size book
  behind : List ℕ
  some : behind ≢ []
  is : inside ≡ stamp ++ behind

no_fields : (inside : List ℕ) → ((epoch base : ℕ) (checkpoint behind : List ℕ) → AreFields inside epoch base checkpoint behind → ⊥) → NoStamp inside
no_fields inside none epoch base size stamp book gate rest is e = none epoch base is.checkpoint (gate ∷ rest) (stamp_fields inside stamp epoch base size book (gate ∷ rest) (gate_behind gate rest) is e)

decide_stamp : (inside : List ℕ) → AreBytes inside → Stamped inside ⊎ NoStamp inside
decide_stamp inside are =
    ⊎_elim
    (λ first.
    let are_rest = are_behind first.number inside first.rest first.is are in
    ⊎_elim
    (λ second.
    let are_after = are_behind second.number first.rest second.rest second.is are_rest in
    ⊎_elim
    (λ found.
    let are' = these_fields inside first.number first.rest first.is first.small second.number second.rest second.is second.small found.checkpoint found.behind found.sized in
    let are_checkpoint = are_front' second.rest (length found.checkpoint) found.checkpoint found.behind found.sized.is are_after in
    ⊎_elim
    (λ book. inl (record {
      epoch = first.number;
      base = second.number;
      size = length found.checkpoint;
      stamp = stamp_bytes first.number second.number found.checkpoint;
      book = book.0;
      is_stamp = record {
        checkpoint = found.checkpoint;
        is = refl;
        epoch_fits = first.small;
        base_fits = second.small;
        short = found.sized.short;
        size_is = refl;
        is_checkpoint = book.1;
      };
      behind = found.behind;
      some = found.sized.some;
      is = are'.is;
    }))
    (λ none. inr (no_stamp inside first.number second.number found.checkpoint found.behind are' none))
    (decide_checkpoint found.checkpoint are_checkpoint))
    (λ none. inr (no_fields inside (no_checkpoint inside first.number first.rest first.is first.small second.number second.rest second.is second.small none)))
    (decide_sized second.rest are_after))
    (λ none. inr (no_fields inside (no_base inside first.number first.rest first.is first.small none)))
    (decide_small first.rest are_rest))
    (λ none. inr (no_fields inside (no_epoch inside none)))
    (decide_small inside are)
  where
    are_front' : (bytes : List ℕ) (n : ℕ) (front back : List ℕ) → bytes ≡ in_4 n ++ (front ++ back) → AreBytes bytes → AreBytes front
    are_front' bytes n front back e are = are_front front back (are_back bytes (in_4 n) (front ++ back) e are)

-- Two files.
Judged : Contents → Type 0
Judged c = ((book : BookView) × OpensTo c book) ⊎ (((place : ℕ) × IsDamagedAt c place) ⊎ Explains c NotAJournal)

active_judged : (c : Contents) → ((s : Side) → AreBytes (c s)) → (side : Side) → IsActive c side → Judged c
unfolding Judged
active_judged c are side active =
    let inside = active.opened.rest in
    let e = active.opened.is in
    ⊎_elim
    (λ s.
    let head : c side ≡ magic ++ 1 ∷ s.stamp ++ s.behind = e ∙ ap (λ (l : List ℕ). magic ++ 1 ∷ l) s.is in
    ⊎_elim
    (λ holds. inl (
      book_after s.book holds.0,
      record {
        base = s.base;
        start = s.book;
        batches = holds.0;
        holds = record {
          side = side;
          epoch = s.epoch;
          size = s.size;
          stamp = s.stamp;
          on = record { is_stamp = s.is_stamp; holds = holds.1; idle = idle_beside s.epoch (stamp_epoch (c side) s.stamp s.behind s.epoch s.base s.size s.book s.is_stamp head) };
        };
        leaves = refl;
      },
    ))
    (λ damaged. inr (inl (
      damaged.0,
      inr (record {
        side = side;
        active = active;
        epoch = s.epoch;
        base = s.base;
        size = s.size;
        stamp = s.stamp;
        start = s.book;
        is_stamp = s.is_stamp;
        damaged = damaged.1;
      }),
    )))
    (judged_from (magic ++ 1 ∷ s.stamp) s.book (c side) s.behind (are side).each head s.some))
    (λ none. inr (inl (8, inl (refl, inr (record { side = side; active = active; inside = inside; is = e; none = none })))))
    (decide_stamp inside (are_back (c side) (magic ++ 1 ∷ []) inside e (are side)))
  where
    idle_beside : (epoch : ℕ) → HasEpoch epoch (c side) → IsIdle epoch (c (other side))
    idle_beside epoch has =
        ⊎_elim (λ shut. inl shut) (λ newer. inr (subst (λ (n : ℕ). IsOlder n (c (other side))) (one_epoch (c side) newer.epoch epoch newer.has has) newer.older)) active.alone_or_newer

pub judged : (c : Contents) → ((s : Side) (place : ℕ) → get_or (c s) place 0 < 256) → ((book : BookView) × OpensTo c book) ⊎ (((place : ℕ) × IsDamagedAt c place) ⊎ Explains c NotAJournal)
unfolding Judged
judged c are =
    let bytes : (s : Side) → AreBytes (c s) = λ s. record { each = are s } in
    ⊎_elim (λ none. inr (inr (First, none)))
    (λ first.
    ⊎_elim (λ none. inr (inr (Second, none)))
    (λ second.
    ⊎_elim (λ active. active_judged c bytes active.0 active.1)
    (λ none. inr (inl (
      8,
      inl (
        refl,
        inl (record {
          sides = by_side First (λ s. IsNoSide (c s) → ⊥) (said_side (c First) first.0 first.1) (said_side (c Second) second.0 second.1);
          none = none;
        }),
      ),
    )))
    (decide_active c first.0 second.0 first.1 second.1))
    (gate_said (c Second) (bytes Second)))
    (gate_said (c First) (bytes First))
