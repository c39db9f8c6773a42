-- Two files are one thing only: they open to one book, or they are damaged at one place, or they are no journal.
use Rattle.std.proofs.Common.{◌≡◌, ◌≢◌, ◌⊎◌, inl, inr, ⊎_elim, ℕ, ◌+◌, ◌≤◌, List, [], ◌∷◌, ◌++◌, length, None, refl, sym, ap, ◌∙◌, subst, arith, append_assoc, length-append}
use Rattle.disk_core.specs.declared.side.Side.{Side}
use Rattle.disk_core.specs.declared.side.Side.TheVariants.{First, Second}
use Rattle.disk_core.specs.Twin.{other, Contents}
use Rattle.disk_core.specs.TwinLaws.{by_side}
use Rattle.book_model.specs.declared.act.Act.{Act}
use Rattle.book_model.specs.Book.{BookView, first_fault, effects}
use Rattle.book_model.specs.Restoring.{restored}
use Rattle.book_model.specs.Sound.{IsSound}
use Rattle.book_laws.proofs.KeptSound.{acts_keep}
use Rattle.book_laws.proofs.ReadBack.{read_back_sound}
use Rattle.journal_codec.specs.Batches.{HoldsFrom, AllApply, book_after}
use Rattle.journal_codec.specs.Format.{in_8, acts_bytes, blocks}
use Rattle.journal_codec.proofs.Unique.{acts_unique}
use Rattle.gate_journal.specs.declared.fault.OpenFault.TheVariants.{NotAJournal}
use Rattle.gate_journal.specs.Opening.{IsDamagedFrom}
use Rattle.gate_journal.proofs.Judged.{whole_or_damaged, one_damage}
use Rattle.gate_journal.proofs.Unique.{one_list_from}
use Rattle.twin_journal.specs.Checkpoints.{IsCheckpoint, IsStamp}
use Rattle.twin_journal.specs.Format.{magic, stamp_bytes, checkpoint_size}
use Rattle.twin_journal.specs.Holding.{HoldsOn, TwinHolds, OpensTo}
use Rattle.twin_journal.specs.Judging.{Explains, IsDamagedAt, IsUndecided, IsHeadless, IsBroken}
use Rattle.twin_journal.specs.Sides.{IsNoSide, IsActive}
use Rattle.twin_journal.proofs.Active.{epochs, one_epoch, same_behind}
use Rattle.twin_journal.proofs.Checked.{behind_first, behind_second, spelled_parts}
use Rattle.twin_journal.proofs.Firsts.{no_side}
use Rattle.twin_journal.proofs.Found.{stamp_epoch}
use Rattle.twin_journal.proofs.Ordered.{sound_is_ordered}
use Rattle.twin_journal.proofs.Sizes.{checkpoint_grows}
use Rattle.twin_journal.proofs.Stamped.{one_stamp, stamp_fields}

-- One active side.
not_both : (contents : Contents) → IsActive contents First → IsActive contents Second → ⊥
not_both contents first second =
    let a = epochs contents First first second.opened in
    let b = epochs contents Second second first.opened in
    omega (arith, a.lower, b.lower, one_epoch (contents First) a.first b.second a.has_first b.has_second, one_epoch (contents Second) a.second b.first a.has_second b.has_first)

pub one_side : (contents : Contents) (s t : Side) → IsActive contents s → IsActive contents t → s ≡ t
one_side contents First First a b = refl
one_side contents First Second a b = absurd (not_both contents a b)
one_side contents Second First a b = absurd (not_both contents b a)
one_side contents Second Second a b = refl

-- The bytes of a checkpoint are those of one book.
pub one_book : (bytes : List ℕ) (b c : BookView) → IsCheckpoint bytes b → IsCheckpoint bytes c → b ≡ c
one_book bytes b c is too =
    let rest = in_8 too.next_row ++ acts_bytes too.acts in
    let first = too.is ∙ spelled_parts too.next_terminus too.next_row too.acts in
    let front = behind_first bytes rest too.next_terminus first too.terminus_fits b is in
    let back = behind_second bytes rest too.next_terminus first too.terminus_fits b is (acts_bytes too.acts) too.next_row refl too.row_fits in
    let acts = acts_unique is.acts too.acts is.writable too.writable (sym back.inside_is) in
    is.book_is
    ∙ ap (λ (n : ℕ). restored n is.next_row is.acts) front.number
    ∙ ap (λ (n : ℕ). restored too.next_terminus n is.acts) back.number
    ∙ ap (restored too.next_terminus too.next_row) acts
    ∙ sym too.book_is

-- A side's head: what follows the gate begins with one stamp only.
record SameStamp (stamp other : List ℕ) (base lower : ℕ) (start book : BookView) (behind rest : List ℕ) : Type 0 where
  stamps : stamp ≡ other
  bases : base ≡ lower
  starts : start ≡ book
  rests : behind ≡ rest

one_head : (inside stamp other : List ℕ) (epoch base size second lower count : ℕ) (start book : BookView) (behind rest : List ℕ) → behind ≢ [] → rest ≢ [] → IsStamp stamp epoch base size start → IsStamp other second lower count book
    → inside ≡ stamp ++ behind → inside ≡ other ++ rest → SameStamp stamp other base lower start book behind rest
one_head inside stamp other epoch base size second lower count start book behind rest some some_too is too e f =
    let a = stamp_fields inside stamp epoch base size start behind some is e in
    let b = stamp_fields inside other second lower count book rest some_too too f in
    let same = one_stamp inside epoch base is.checkpoint behind second lower too.checkpoint rest a b in
    record {
      stamps = is.is ∙ ap (λ (n : ℕ). stamp_bytes n base is.checkpoint) same.epochs ∙ ap (λ (n : ℕ). stamp_bytes second n is.checkpoint) same.bases ∙ ap (stamp_bytes second lower) same.checkpoints ∙ sym too.is;
      bases = same.bases;
      starts = one_book is.checkpoint start book is.is_checkpoint (subst (λ (l : List ℕ). IsCheckpoint l book) (sym same.checkpoints) too.is_checkpoint);
      rests = same.rests;
    }

-- What follows the gate of a side that holds batches.
record Behind (stamp : List ℕ) (file : List ℕ) : Type 0 where
  behind : List ℕ
  some : behind ≢ []
  is : file ≡ magic ++ 1 ∷ (stamp ++ behind)

behind_held : (stamp file : List ℕ) (start : BookView) (bs : List (List Act)) → HoldsFrom (magic ++ 1 ∷ stamp) start file bs → Behind stamp file
behind_held stamp file start bs h = record {
  behind = blocks bs ++ h.gate ∷ h.rest;
  some = λ e. omega (arith, ap length e, length-append (blocks bs) (h.gate ∷ h.rest));
  is = h.is ∙ append_assoc (magic ++ 1 ∷ stamp) (blocks bs) (h.gate ∷ h.rest);
}

behind_broken : (stamp file : List ℕ) (start : BookView) (place : ℕ) → IsDamagedFrom (magic ++ 1 ∷ stamp) start file place → Behind stamp file
behind_broken stamp file start place d = record {
  behind = blocks d.batches ++ 1 ∷ d.rest;
  some = λ e. omega (arith, ap length e, length-append (blocks d.batches) (1 ∷ d.rest));
  is = d.is ∙ append_assoc (magic ++ 1 ∷ stamp) (blocks d.batches) (1 ∷ d.rest);
}

-- the side that holds batches is active
pub held_active : (contents : Contents) (side : Side) (epoch base size : ℕ) (stamp : List ℕ) (start : BookView) (bs : List (List Act)) → HoldsOn side contents epoch base size stamp start bs → IsActive contents side
held_active contents side epoch base size stamp start bs on =
    let b = behind_held stamp (contents side) start bs on.holds in
    record {
      opened = record { rest = stamp ++ b.behind; is = b.is };
      alone_or_newer = ⊎_elim (λ shut. inl shut) (λ older. inr (record { epoch = epoch; has = stamp_epoch (contents side) stamp b.behind epoch base size start on.is_stamp b.is; older = older })) on.idle;
    }

gate_same : (file r s : List ℕ) → file ≡ magic ++ 1 ∷ r → file ≡ magic ++ 1 ∷ s → r ≡ s
gate_same file r s e f = let same = same_behind file (1 ∷ r) (1 ∷ s) e f in let rest : r ≡ s = cc in rest

-- One list.
pub record SameList (base lower : ℕ) (start book : BookView) (bs cs : List (List Act)) : Type 0 where
  pub bases : base ≡ lower
  pub starts : start ≡ book
  pub lists : bs ≡ cs

pub same_list : (contents : Contents) (base lower : ℕ) (start book : BookView) (bs cs : List (List Act)) → TwinHolds contents base start bs → TwinHolds contents lower book cs → SameList base lower start book bs cs
same_list contents base lower start book bs cs h i =
    let side = one_side contents h.side i.side (held_active contents h.side h.epoch base h.size h.stamp start bs h.on) (held_active contents i.side i.epoch lower i.size i.stamp book cs i.on) in
    let too : HoldsFrom (magic ++ 1 ∷ i.stamp) book (contents h.side) cs = subst (λ (s : Side). HoldsFrom (magic ++ 1 ∷ i.stamp) book (contents s) cs) (sym side) i.on.holds in
    let a = behind_held h.stamp (contents h.side) start bs h.on.holds in
    let b = behind_held i.stamp (contents h.side) book cs too in
    let same = one_head (h.stamp ++ a.behind) h.stamp i.stamp h.epoch base h.size i.epoch lower i.size start book a.behind b.behind a.some b.some h.on.is_stamp i.on.is_stamp refl (gate_same (contents h.side) (h.stamp ++ a.behind) (i.stamp ++ b.behind) a.is b.is) in
    record {
      bases = same.bases;
      starts = same.starts;
      lists = one_list_from (magic ++ 1 ∷ h.stamp) start (contents h.side) bs cs h.on.holds
          (subst (λ (b : BookView). HoldsFrom (magic ++ 1 ∷ h.stamp) b (contents h.side) cs) (sym same.starts) (subst (λ (l : List ℕ). HoldsFrom (magic ++ 1 ∷ l) book (contents h.side) cs) (sym same.stamps) too));
    }

pub same_book : (contents : Contents) (b c : BookView) → OpensTo contents b → OpensTo contents c → b ≡ c
same_book contents b c o p =
    let same = same_list contents o.base p.base o.start p.start o.batches p.batches o.holds p.holds in
    o.leaves ∙ ap (λ (s : BookView). book_after s o.batches) same.starts ∙ ap (book_after p.start) same.lists ∙ sym p.leaves

-- A sound book.
batches_sound : (b : BookView) (bs : List (List Act)) → IsSound b → AllApply b bs → IsSound (book_after b bs)
unfolding AllApply book_after
batches_sound b [] sound all = sound
batches_sound b (acts ∷ bs) sound all = batches_sound (effects b acts) bs (acts_keep b acts all.1 sound) all.2

pub opened_sound : (contents : Contents) (b : BookView) → OpensTo contents b → IsSound b
opened_sound contents b o =
    let is = o.holds.on.is_stamp.is_checkpoint in
    let start = subst IsSound (sym is.book_is) (read_back_sound is.next_terminus is.next_row is.acts is.reads) in
    subst IsSound (sym o.leaves) (batches_sound o.start o.batches start o.holds.on.holds.valid)

-- Judgements.
no_stamp_there : (gate_and_rest : List ℕ) → gate_and_rest ≢ [] → (g : ℕ) × (r : List ℕ) × (gate_and_rest ≡ g ∷ r)
no_stamp_there [] some = absurd (some refl)
no_stamp_there (g ∷ r) some = (g, r, refl)

-- a head stands where there is none
none_stamped : (contents : Contents) (side : Side) (epoch base size : ℕ) (stamp : List ℕ) (start : BookView) (behind : List ℕ) → behind ≢ [] → IsActive contents side → IsStamp stamp epoch base size start
    → contents side ≡ magic ++ 1 ∷ (stamp ++ behind) → IsHeadless contents → ⊥
none_stamped contents side epoch base size stamp start behind some active is e headless =
    let same = one_side contents side headless.side active headless.active in
    let there = ap contents same ∙ headless.is in
    let rest = no_stamp_there behind some in
    headless.none epoch base size stamp start rest.0 rest.1 is (sym (gate_same (contents side) (stamp ++ behind) headless.inside e there) ∙ ap (λ (l : List ℕ). stamp ++ l) rest.2)

pub opens_or_damaged : (contents : Contents) (b : BookView) (place : ℕ) → OpensTo contents b → IsDamagedAt contents place → ⊥
opens_or_damaged contents b place o damaged =
    let h = o.holds in
    let active = held_active contents h.side h.epoch o.base h.size h.stamp o.start o.batches h.on in
    let a = behind_held h.stamp (contents h.side) o.start o.batches h.on.holds in
    ⊎_elim
    (λ at. ⊎_elim (λ undecided. undecided.none h.side active) (λ headless. none_stamped contents h.side h.epoch o.base h.size h.stamp o.start a.behind a.some active h.on.is_stamp a.is headless) at.1)
    (λ broken.
    let side = one_side contents h.side broken.side active broken.active in
    let d = subst (λ (s : Side). IsDamagedFrom (magic ++ 1 ∷ broken.stamp) broken.start (contents s) place) (sym side) broken.damaged in
    let c = behind_broken broken.stamp (contents h.side) broken.start place d in
    let same = one_head (h.stamp ++ a.behind) h.stamp broken.stamp h.epoch o.base h.size broken.epoch broken.base broken.size o.start broken.start a.behind c.behind a.some c.some h.on.is_stamp broken.is_stamp refl (gate_same (contents h.side) (h.stamp ++ a.behind) (broken.stamp ++ c.behind) a.is c.is) in
    whole_or_damaged (magic ++ 1 ∷ h.stamp) o.start (contents h.side) o.batches place h.on.holds
    (subst (λ (s : BookView). IsDamagedFrom (magic ++ 1 ∷ h.stamp) s (contents h.side) place) (sym same.starts) (subst (λ (l : List ℕ). IsDamagedFrom (magic ++ 1 ∷ l) broken.start (contents h.side) place) (sym same.stamps) d)))
    damaged

active_sides : (contents : Contents) (side : Side) → IsActive contents side → (s : Side) → IsNoSide (contents s) → ⊥
active_sides contents side active =
    by_side side (λ s. IsNoSide (contents s) → ⊥) (no_side (contents side) active.opened.rest 1 active.opened.is)
    (λ none.
    ⊎_elim (λ shut. no_side (contents (other side)) shut.rest shut.gate shut.is none)
    (λ newer. no_side (contents (other side)) (in_8 newer.older.older ++ newer.older.has.rest) 1 newer.older.has.is none) active.alone_or_newer)

pub opens_or_none : (contents : Contents) (b : BookView) → OpensTo contents b → Explains contents NotAJournal → ⊥
opens_or_none contents b o none =
    let h = o.holds in
    active_sides contents h.side (held_active contents h.side h.epoch o.base h.size h.stamp o.start o.batches h.on) none.0 none.1

pub damaged_or_none : (contents : Contents) (place : ℕ) → IsDamagedAt contents place → Explains contents NotAJournal → ⊥
damaged_or_none contents place damaged none =
    ⊎_elim
    (λ at. ⊎_elim (λ undecided. undecided.sides none.0 none.1) (λ headless. active_sides contents headless.side headless.active none.0 none.1) at.1)
    (λ broken. active_sides contents broken.side broken.active none.0 none.1) damaged

-- a side that is broken at a place is neither headless nor undecided
broken_or_head : (contents : Contents) (place : ℕ) → IsBroken contents place → IsUndecided contents ⊎ IsHeadless contents → ⊥
broken_or_head contents place broken either =
    let c = behind_broken broken.stamp (contents broken.side) broken.start place broken.damaged in
    ⊎_elim (λ undecided. undecided.none broken.side broken.active)
    (λ headless. none_stamped contents broken.side broken.epoch broken.base broken.size broken.stamp broken.start c.behind c.some broken.active broken.is_stamp c.is headless) either

one_break : (contents : Contents) (a b : ℕ) → IsBroken contents a → IsBroken contents b → a ≡ b
one_break contents a b x y =
    let side = one_side contents x.side y.side x.active y.active in
    let d = subst (λ (s : Side). IsDamagedFrom (magic ++ 1 ∷ y.stamp) y.start (contents s) b) (sym side) y.damaged in
    let p = behind_broken x.stamp (contents x.side) x.start a x.damaged in
    let q = behind_broken y.stamp (contents x.side) y.start b d in
    let same = one_head (x.stamp ++ p.behind) x.stamp y.stamp x.epoch x.base x.size y.epoch y.base y.size x.start y.start p.behind q.behind p.some q.some x.is_stamp y.is_stamp refl (gate_same (contents x.side) (x.stamp ++ p.behind) (y.stamp ++ q.behind) p.is q.is) in
    one_damage (magic ++ 1 ∷ x.stamp) x.start (contents x.side) a b x.damaged
    (subst (λ (s : BookView). IsDamagedFrom (magic ++ 1 ∷ x.stamp) s (contents x.side) b) (sym same.starts) (subst (λ (l : List ℕ). IsDamagedFrom (magic ++ 1 ∷ l) y.start (contents x.side) b) (sym same.stamps) d))

pub one_place : (contents : Contents) (a b : ℕ) → IsDamagedAt contents a → IsDamagedAt contents b → a ≡ b
one_place contents a b (inl x) (inl y) = x.0 ∙ sym y.0
one_place contents a b (inl x) (inr y) = absurd (broken_or_head contents b y x.1)
one_place contents a b (inr x) (inl y) = absurd (broken_or_head contents a x y.1)
one_place contents a b (inr x) (inr y) = one_break contents a b x y

pub grows : (b : BookView) (acts : List Act) → IsSound b → first_fault b acts ≡ None → checkpoint_size (effects b acts) ≤ checkpoint_size b + length (acts_bytes acts)
grows b acts sound applies = checkpoint_grows b acts (sound_is_ordered b sound) applies
