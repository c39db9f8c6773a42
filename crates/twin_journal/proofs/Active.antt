-- Which side is active.
use Rattle.std.proofs.Common.{◌≡◌, inr, ⊎_elim, ℕ, ◌<◌, Bool, true, false, List, ◌∷◌, ◌++◌, length, Option, Some, None, refl, sym, ap, ◌∙◌, subst, arith, length-append}
use Rattle.std.specs.Prelude.{nat_lt, if◌then◌else◌, IfNone}
use Rattle.std.proofs.lemmas.List.{append_cancel_left}
use Rattle.disk_core.specs.declared.side.Side.{Side}
use Rattle.disk_core.specs.declared.side.Side.TheVariants.{First, Second}
use Rattle.disk_core.specs.Twin.{other, Contents}
use Rattle.journal_codec.specs.Format.{in_8}
use Rattle.journal_codec.proofs.Spelled.{length-in_8}
use Rattle.journal_codec.proofs.Tools.{is_not_less}
use Rattle.twin_journal.specs.declared.gate.Gate.{Gate}
use Rattle.twin_journal.specs.declared.gate.Gate.TheVariants.{Shut, Open}
use Rattle.twin_journal.specs.Format.{magic}
use Rattle.twin_journal.specs.Sides.{IsShut, IsOpen, HasEpoch, IsActive, NoneActive, Says, newer_side}
use Rattle.twin_journal.proofs.Spelled.{same_8}

-- What follows the magic.
pub same_behind : (file r s : List ℕ) → file ≡ magic ++ r → file ≡ magic ++ s → r ≡ s
same_behind file r s e f = append_cancel_left magic r s (sym e ∙ f)

pub shut_or_open : (file : List ℕ) → IsShut file → IsOpen file → ⊥
shut_or_open file shut open' =
    let same = same_behind file (shut.gate ∷ shut.rest) (1 ∷ open'.rest) shut.is open'.is in
    shut.shut (let gate : shut.gate ≡ 1 = cc in gate)

pub epoch_open : (file : List ℕ) (epoch : ℕ) → HasEpoch epoch file → IsOpen file
epoch_open file epoch has = record { rest = in_8 epoch ++ has.rest; is = has.is }

pub one_epoch : (file : List ℕ) (a b : ℕ) → HasEpoch a file → HasEpoch b file → a ≡ b
one_epoch file a b has too =
    let same = same_behind file (1 ∷ (in_8 a ++ has.rest)) (1 ∷ (in_8 b ++ too.rest)) has.is too.is in
    (same_8 a b has.rest too.rest has.fits too.fits (let rests : in_8 a ++ has.rest ≡ in_8 b ++ too.rest = cc in rests)).numbers

no_epoch : (file : List ℕ) (epoch : ℕ) → length file < 17 → HasEpoch epoch file → ⊥
no_epoch file epoch short has = omega (arith, short, ap length has.is, length-append magic (1 ∷ (in_8 epoch ++ has.rest)), length-append (in_8 epoch) has.rest, length-in_8 epoch)

pub said_open : (file : List ℕ) (epoch : Option ℕ) → Says file (Open epoch) → IsOpen file
said_open file None said = said.0
said_open file (Some epoch) said = epoch_open file epoch said

-- the epochs of two open sides
pub record Both (one two : List ℕ) : Type 0 where
  pub first : ℕ
  pub second : ℕ
  pub has_first : HasEpoch first one
  pub has_second : HasEpoch second two
  pub lower : second < first

pub epochs : (contents : Contents) (side : Side) → IsActive contents side → IsOpen (contents (other side)) → Both (contents side) (contents (other side))
epochs contents side active open' =
    ⊎_elim (λ shut. absurd (shut_or_open (contents (other side)) shut open'))
    (λ newer. record { first = newer.epoch; second = newer.older.older; has_first = newer.has; has_second = newer.older.has; lower = newer.older.lower })
    active.alone_or_newer

-- neither side is active where both are shut
pub both_shut : (contents : Contents) → IsShut (contents First) → IsShut (contents Second) → NoneActive contents
both_shut contents first second First active = shut_or_open (contents First) first active.opened
both_shut contents first second Second active = shut_or_open (contents Second) second active.opened

-- or where both are open, and their epochs aren't two
both_open : (contents : Contents) → IsOpen (contents First) → IsOpen (contents Second) → ((a b : ℕ) → HasEpoch a (contents First) → HasEpoch b (contents Second) → a ≡ b) → NoneActive contents
both_open contents first second same First active =
    let both = epochs contents First active second in
    omega (arith, both.lower, same both.first both.second both.has_first both.has_second)
both_open contents first second same Second active =
    let both = epochs contents Second active first in
    omega (arith, both.lower, same both.second both.first both.has_second both.has_first)

-- both sides are open, and one ends too early for an epoch
not_shut : (file : List ℕ) (gate : Gate) → (gate ≡ Shut → ⊥) → Says file gate → IsOpen file
not_shut file Shut other said = absurd (other refl)
not_shut file (Open epoch) other said = said_open file epoch said

pub first_short : (contents : Contents) (first second : Gate) → first ≡ Open None → (second ≡ Shut → ⊥) → Says (contents First) first → Says (contents Second) second → NoneActive contents
first_short contents first second f s one two =
    let short = subst (Says (contents First)) f one in
    both_open contents short.0 (not_shut (contents Second) second s two) (λ a b has too. absurd (no_epoch (contents First) a short.1 has))

pub second_short : (contents : Contents) (first second : Gate) → (first ≡ Shut → ⊥) → second ≡ Open None → Says (contents First) first → Says (contents Second) second → NoneActive contents
second_short contents first second f s one two =
    let short = subst (Says (contents Second)) s two in
    both_open contents (not_shut (contents First) first f one) short.0 (λ a b has too. absurd (no_epoch (contents Second) b short.1 too))

-- both are, with their epochs
module _ (contents : Contents) (a b : ℕ) (one : HasEpoch a (contents First)) (two : HasEpoch b (contents Second)) where
  pub first_newer : b < a → IsActive contents First
  first_newer lower = record { opened = epoch_open (contents First) a one; alone_or_newer = inr (record { epoch = a; has = one; older = record { older = b; has = two; lower = lower } }) }

  pub second_newer : a < b → IsActive contents Second
  second_newer lower = record { opened = epoch_open (contents Second) b two; alone_or_newer = inr (record { epoch = b; has = two; older = record { older = a; has = one; lower = lower } }) }

  pub neither_newer : a ≡ b → NoneActive contents
  neither_newer same =
      both_open contents (epoch_open (contents First) a one) (epoch_open (contents Second) b two)
      (λ c d has too. one_epoch (contents First) c a has one ∙ same ∙ one_epoch (contents Second) b d two too)

-- no side has the higher epoch
none_newer : (a b : ℕ) → newer_side a b ≡ None → a ≡ b
none_newer a b = by_test (nat_lt b a) refl
  where
    by_second : (t : Bool) → nat_lt a b ≡ t → nat_lt b a ≡ false → (if t then Some Second else None) ≡ None → a ≡ b
    by_second true e f gone = absurd cc
    by_second false e f gone = omega (arith, is_not_less a b e, is_not_less b a f)

    by_test : (t : Bool) → nat_lt b a ≡ t → (if t then Some First else if nat_lt a b then Some Second else None) ≡ None → a ≡ b
    by_test true e gone = absurd cc
    by_test false e gone = by_second (nat_lt a b) refl e gone

if_none : {A P : Type 0} (o : Option A) → (o ≡ None → P) → IfNone o P
if_none None f = f refl
if_none (Some x) f = tt

pub none_chosen : (a b : ℕ) (first second : Gate) (o : Option Side) → first ≡ Open (Some a) → second ≡ Open (Some b) → o ≡ newer_side a b
    → IfNone o ((c : Contents) → Says (c First) first → Says (c Second) second → NoneActive c)
none_chosen a b first second o f s is =
    if_none o
    (λ none c one two.
    neither_newer c a b (subst (Says (c First)) f one) (subst (Says (c Second)) s two) (none_newer a b (sym is ∙ none)))
