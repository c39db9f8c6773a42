-- Laws of the definitions of Disk: a write that leaves no gap, and runs of calls.
use Rattle.std.proofs.Common.{◌≡◌, inl, inr, ⊎_elim, ℕ, ◌+◌, ◌-◌, ◌≤◌, List, [], ◌∷◌, ◌++◌, length, take, drop, replicate, sym, ◌∙◌, ap, arith, take-append-drop}
use Rattle.std.proofs.lemmas.List.{append-nil}
use Rattle.disk_core.specs.Disk.{overwritten, Elapses, LeavesOnly}

-- a write that leaves no gap
pub overwritten_inside : (at : ℕ) (bytes old : List ℕ) → at ≤ length old → overwritten at bytes old ≡ take at old ++ bytes ++ drop (at + length bytes) old
overwritten_inside at [] old le =
    sym (take-append-drop at old)
    ∙ ap (λ (n : ℕ). take at old ++ drop n old) (let same : at ≡ at + 0 = omega arith in same)
    ∙ ap (λ (l : List ℕ). l ++ drop (at + 0) old) (sym (append-nil (take at old)))
overwritten_inside at (byte ∷ bytes) old le =
    ap (λ (l : List ℕ). l ++ (byte ∷ bytes) ++ drop (at + length (byte ∷ bytes)) old)
    (ap (λ (n : ℕ). take at old ++ replicate n 0) (let none : at - length old ≡ 0 = omega (arith, le) in none) ∙ append-nil (take at old))

-- Runs of calls.
module _ {D : Type 0} {C : Type 0} (moment : D → ℕ) (left_since : D → ℕ → C → Type 0) where
  -- before the first call
  pub started : (old : D) (P : C → Type 0) → ((c : C) → left_since old (moment old) c → P c) → LeavesOnly moment left_since old old P
  started old P here = record { later = omega arith; each = here; before = λ t c le left. inl left }

  -- one call more, after which a crash leaves what has P
  pub goes_on : (old mid new : D) (P may_leave : C → Type 0) → LeavesOnly moment left_since old mid P → Elapses (moment mid) (moment new) (left_since mid) (left_since new) may_leave
      → ((c : C) → may_leave c → P c) → LeavesOnly moment left_since old new P
  goes_on old mid new P may_leave so_far time here = record {
    later = omega (arith, so_far.later, time.later);
    each = λ c left. ⊎_elim (so_far.each c) (here c) (time.nothing_else (moment old) c so_far.later left);
    before = λ t c le left. ⊎_elim (so_far.before t c le) (λ now. inr (here c now)) (time.nothing_else t c (omega (arith, le, so_far.later)) left);
  }

  -- a wider property
  pub widened : (old new : D) (P Q : C → Type 0) → LeavesOnly moment left_since old new P → ((c : C) → P c → Q c) → LeavesOnly moment left_since old new Q
  widened old new P Q run wider = record {
    later = run.later;
    each = λ c left. wider c (run.each c left);
    before = λ t c le left. ⊎_elim (λ past. inl past) (λ has. inr (wider c has)) (run.before t c le left);
  }

  -- two runs, one after the other
  pub joined : (old mid new : D) (P : C → Type 0) → LeavesOnly moment left_since old mid P → LeavesOnly moment left_since mid new P → LeavesOnly moment left_since old new P
  joined old mid new P front back = record {
    later = omega (arith, front.later, back.later);
    each = λ c left. ⊎_elim (front.each c) (λ has. has) (back.before (moment old) c front.later left);
    before = λ t c le left. ⊎_elim (front.before t c le) (λ has. inr has) (back.before t c (omega (arith, le, front.later)) left);
  }
