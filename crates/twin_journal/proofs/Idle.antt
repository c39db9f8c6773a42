-- The idle side while it is written.
use Rattle.std.proofs.Common.{◌≡◌, inl, inr, ℕ, zero, suc, ◌+◌, ◌<◌, ◌^◌, false, List, [], ◌∷◌, ◌++◌, length, take, drop, refl, sym, ap, ◌∙◌, arith, append_assoc, length-append}
use Rattle.std.proofs.lemmas.Bool.Decides.{nat_tests}
use Rattle.std.proofs.lemmas.List.{append-nil, drop_all}
use Rattle.disk_core.specs.Disk.{overwritten, between, from, Agrees}
use Rattle.disk_core.specs.DiskLaws.{overwritten_inside}
use Rattle.disk_core.specs.SpoiltLaws.{spoilt_of}
use Rattle.journal_codec.specs.Format.{in_8}
use Rattle.journal_codec.proofs.Spelled.{length-in_8}
use Rattle.twin_journal.specs.Format.{magic}
use Rattle.twin_journal.specs.Sides.{IsShut, IsOlder, IsIdle}

one_byte : (l : List ℕ) → length l ≡ 1 → (n : ℕ) × (l ≡ n ∷ [])
one_byte [] e = absurd (omega (arith, e))
one_byte (n ∷ []) e = (n, refl)
one_byte (n ∷ m ∷ l) e = absurd (omega (arith, e))

-- A file after the magic: a gate, and a rest.
module _ (file rest : List ℕ) (gate : ℕ) (is : file ≡ magic ++ gate ∷ rest) where
  long : 9 + length rest ≡ length file
  long = omega (arith, ap length is, length-append magic (gate ∷ rest))

  -- its gate is written
  pub record Gated (c : List ℕ) : Type 0 where
    pub byte : ℕ
    pub past : List ℕ
    pub gated : c ≡ magic ++ byte ∷ (rest ++ past)

  pub gate_spoilt : (c : List ℕ) → 0 < length rest → Agrees (between 8 9) file c → Gated c
  gate_spoilt c some agrees =
      let s = spoilt_of 8 9 file c (omega arith) agrees in
      let byte = one_byte s.middle (omega (arith, s.fits (omega (arith, long, some)))) in
      record {
        byte = byte.0;
        past = s.past;
        gated =
            s.is
            ∙ ap (λ (l : List ℕ). take 8 l ++ s.middle ++ drop 9 l ++ s.past) is
            ∙ ap (λ (l : List ℕ). magic ++ l ++ rest ++ s.past) byte.1;
      }

  pub gate_written : (byte : ℕ) → overwritten 8 (byte ∷ []) file ≡ magic ++ byte ∷ rest
  gate_written byte =
      overwritten_inside 8 (byte ∷ []) file (omega (arith, long))
      ∙ ap (λ (l : List ℕ). take 8 l ++ byte ∷ [] ++ drop 9 l) is

  -- what follows its gate is written
  within_nine : (n place : ℕ) → place < n → between 9 (9 + n) place ≡ false → from 9 place ≡ false
  within_nine n place l shut = grind (arith, nat_tests)

  pub record Tailed (c : List ℕ) : Type 0 where
    pub tail : List ℕ
    pub tailed : c ≡ magic ++ gate ∷ tail

  pub tail_spoilt : (c : List ℕ) → Agrees (from 9) file c → Tailed c
  tail_spoilt c agrees =
      let s = spoilt_of 9 (9 + length file) file c (omega arith) (λ place l shut. agrees place l (within_nine (length file) place l shut)) in
      record {
        tail = s.middle ++ drop (9 + length file) file ++ s.past;
        tailed =
            s.is
            ∙ ap (λ (l : List ℕ). take 9 l ++ s.middle ++ drop (9 + length file) file ++ s.past) is
            ∙ append_assoc (magic ++ gate ∷ [] ++ s.middle) (drop (9 + length file) file) s.past
            ∙ append_assoc (magic ++ gate ∷ []) s.middle (drop (9 + length file) file ++ s.past)
            ∙ ap (λ (l : List ℕ). magic ++ gate ∷ l) (sym (append_assoc s.middle (drop (9 + length file) file) s.past));
      }

  pub tail_written : (fill : List ℕ) → overwritten 9 fill (take 9 file) ≡ magic ++ gate ∷ fill
  tail_written fill =
      ap (λ (l : List ℕ). overwritten 9 fill (take 9 l)) is
      ∙ overwritten_inside 9 fill (magic ++ gate ∷ []) (omega arith)
      ∙ ap (λ (l : List ℕ). magic ++ gate ∷ [] ++ fill ++ l) (drop_all (9 + length fill) (magic ++ gate ∷ []) (omega arith))
      ∙ append-nil (magic ++ gate ∷ [] ++ fill)

-- A shut side, whatever is behind its gate.
pub shut_tail : (file c : List ℕ) → IsShut file → Agrees (from 9) file c → IsShut c
shut_tail file c shut agrees =
    let t = tail_spoilt file shut.rest shut.gate shut.is c agrees in
    record { gate = shut.gate; rest = t.tail; shut = shut.shut; is = t.tailed }

-- An older side whose gate is written: it is shut, or older still.
older_long : (epoch : ℕ) (rest : List ℕ) → 0 < length (in_8 epoch ++ rest)
older_long epoch rest = omega (arith, length-append (in_8 epoch) rest, length-in_8 epoch)

by_gate : (epoch older byte : ℕ) (c rest : List ℕ) → older < epoch → older < 2 ^ 64 → c ≡ magic ++ byte ∷ (in_8 older ++ rest) → IsIdle epoch c
by_gate epoch older zero c rest lower fits e = inl (record { gate = 0; rest = in_8 older ++ rest; shut = λ i. absurd (omega (arith, i)); is = e })
by_gate epoch older (suc zero) c rest lower fits e = inr (record { older = older; has = record { rest = rest; is = e; fits = fits }; lower = lower })
by_gate epoch older (suc (suc n)) c rest lower fits e = inl (record { gate = suc (suc n); rest = in_8 older ++ rest; shut = λ i. absurd (omega (arith, i)); is = e })

pub older_gate : (epoch : ℕ) (file c : List ℕ) → IsOlder epoch file → Agrees (between 8 9) file c → IsIdle epoch c
older_gate epoch file c o agrees =
    let g = gate_spoilt file (in_8 o.older ++ o.has.rest) 1 o.has.is c (older_long o.older o.has.rest) agrees in
    by_gate epoch o.older g.byte c (o.has.rest ++ g.past) o.lower o.has.fits (g.gated ∙ ap (λ (l : List ℕ). magic ++ g.byte ∷ l) (append_assoc (in_8 o.older) o.has.rest g.past))

pub older_shut : (epoch : ℕ) (file : List ℕ) → IsOlder epoch file → IsShut (overwritten 8 (0 ∷ []) file)
older_shut epoch file o = record {
  gate = 0;
  rest = in_8 o.older ++ o.has.rest;
  shut = λ i. absurd (omega (arith, i));
  is = gate_written file (in_8 o.older ++ o.has.rest) 1 o.has.is 0;
}
