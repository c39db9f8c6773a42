-- What the first bytes of a side say of all of it.
use Rattle.std.proofs.Common.{◌≡◌, inl, inr, ⊎_elim, ℕ, List, ◌∷◌, ◌++◌, length, take, drop, Some, None, refl, sym, ap, ◌∙◌, arith, append_assoc, length-append, length-take, take-append-drop}
use Rattle.std.proofs.lemmas.List.{take_at, take-take}
use Rattle.disk_core.specs.declared.side.Side.TheVariants.{First, Second}
use Rattle.disk_core.specs.Disk.{part}
use Rattle.disk_core.specs.Twin.{Contents}
use Rattle.disk_core.specs.TwinLaws.{by_side}
use Rattle.journal_codec.specs.Format.{in_8}
use Rattle.twin_journal.specs.declared.gate.Gate.{Gate}
use Rattle.twin_journal.specs.declared.gate.Gate.TheVariants.{Shut, Open}
use Rattle.twin_journal.specs.Format.{magic}
use Rattle.twin_journal.specs.Sides.{IsNoSide, Says, NoneActive}
use Rattle.twin_journal.specs.Judging.{IsDamagedAt}

-- what was read into a buffer
pub first_bytes : (file buffer old : List ℕ) (count : ℕ) → count ≡ length (part 0 17 file) → buffer ≡ part 0 17 file ++ drop count old → take count buffer ≡ take 17 file
first_bytes file buffer old count is read = ap (take count) read ∙ take_at (part 0 17 file) (drop count old) count (sym is)

module _ (file : List ℕ) where
  whole : (front : List ℕ) → take 17 file ≡ front → file ≡ front ++ drop 17 file
  whole front e = sym (take-append-drop 17 file) ∙ ap (λ (l : List ℕ). l ++ drop 17 file) e

  pub says_whole : (gate : Gate) → Says (take 17 file) gate → Says file gate
  says_whole Shut said = record { gate = said.gate; rest = said.rest ++ drop 17 file; shut = said.shut; is = whole (magic ++ said.gate ∷ said.rest) said.is }
  says_whole (Open None) said = (
    record { rest = said.0.rest ++ drop 17 file; is = whole (magic ++ 1 ∷ said.0.rest) said.0.is },
    omega (arith, said.1, length-take 17 file),
  )
  says_whole (Open (Some epoch)) said = record {
    rest = said.rest ++ drop 17 file;
    is = whole (magic ++ 1 ∷ (in_8 epoch ++ said.rest)) said.is ∙ ap (λ (l : List ℕ). magic ++ 1 ∷ l) (append_assoc (in_8 epoch) said.rest (drop 17 file));
    fits = said.fits;
  }

  pub no_side_whole : IsNoSide (take 17 file) → IsNoSide file
  no_side_whole none =
      ⊎_elim (λ short. inl (omega (arith, short, length-take 17 file))) (λ other. inr (λ e. other (take-take 8 17 file (omega arith) ∙ e))) none

pub no_side : (file rest : List ℕ) (gate : ℕ) → file ≡ magic ++ gate ∷ rest → IsNoSide file → ⊥
no_side file rest gate e none =
    ⊎_elim (λ short. omega (arith, short, ap length e, length-append magic (gate ∷ rest))) (λ other. other (ap (take 8) e)) none

pub said_side : (file : List ℕ) (gate : Gate) → Says file gate → IsNoSide file → ⊥
said_side file Shut said = no_side file said.rest said.gate said.is
said_side file (Open None) said = no_side file said.0.rest 1 said.0.is
said_side file (Open (Some epoch)) said = no_side file (in_8 epoch ++ said.rest) 1 said.is

-- two sides of which none is active
pub undecided : (contents : Contents) (first second : Gate) → Says (contents First) first → Says (contents Second) second → NoneActive contents → IsDamagedAt contents 8
undecided contents first second one two none = inl (
  refl,
  inl (record { sides = by_side First (λ s. IsNoSide (contents s) → ⊥) (said_side (contents First) first one) (said_side (contents Second) second two); none = none }),
)
