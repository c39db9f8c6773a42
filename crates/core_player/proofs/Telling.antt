-- The fault with which a router failed, and what a player's lines tell of it.
use Rattle.std.proofs.Common.{◌≡◌, ◌∙◌, ◌++◌, ◌∷◌, false, refl, sym, ap, subst, List, [], arith}
use Rattle.std.specs.Prelude.{Contains, Option, Some, None, Result, Ok, Err, OnOk}
use Rattle.std.proofs.lemmas.List.Elements.{Contains-append_left, Contains-append_right}
use Rattle.core_machine.specs.declared.fault.CoreFault.{CoreFault}
use Rattle.core_machine.specs.declared.fault.CoreFault.TheVariants.{Disk, Memory, Failed, NoConnection}
use Rattle.core_machine.specs.Meaning.{Meaning}
use Rattle.core_player.specs.declared.line.Line.{Line}
use Rattle.core_player.specs.declared.line.Line.TheVariants as line
use Rattle.core_player.specs.declared.player.Player.{Player}
use Rattle.core_player.specs.Playing.{Said, Tells}
use Rattle.core_player.specs.Recording.{Recorded}
use Rattle.core_player.specs.Telling.{TellsOf, fault_after}

-- what holds of an answer Ok if it holds
pub on_ok_all : {A E P : Type 0} (r : Result A E) → P → OnOk r P
on_ok_all (Ok x) is = is
on_ok_all (Err e) is = tt

pub on_ok_two : {A E P Q R : Type 0} (r : Result A E) → (P → Q → R) → OnOk r P → OnOk r Q → OnOk r R
on_ok_two (Ok x) f is also = f is also
on_ok_two (Err e) f is also = tt

-- more lines tell of it too
pub tells_more : (fault : Option CoreFault) (ls more : List Line) → TellsOf fault ls → TellsOf fault (ls ++ more)
tells_more None ls more told = tt
tells_more (Some f) ls more told = Contains-append_left ls more (line.Failed f) told

pub tells_after : (fault : Option CoreFault) (before ls : List Line) → TellsOf fault ls → TellsOf fault (before ++ ls)
tells_after None before ls told = tt
tells_after (Some f) before ls told = Contains-append_right before ls (line.Failed f) told

-- the last line tells of a fault
last_tells : (fault : CoreFault) (ls : List Line) → Contains (ls ++ line.Failed fault ∷ []) (line.Failed fault)
last_tells fault ls = Contains-append_right ls (line.Failed fault ∷ []) (line.Failed fault) (0, omega arith, refl)

module _ {M : Type 0} (m : Meaning M) (first : M) where
  same_record : (p q : Player M) → q.core ≡ p.core → q.recorder ≡ p.recorder → Recorded m first p.core p.recorder → Recorded m first q.core q.recorder
  same_record p q core recorder h = subst (λ (k : M). Recorded m first k q.recorder) (sym core) (subst (Recorded m first p.core) (sym recorder) h)

  -- a router that works: nothing is known of a fault, and nothing is told
  pub works_tells : (p q : Player M) → m.is_failed q.core ≡ false → q.fault ≡ p.fault → q.lines ≡ p.lines
      → (Recorded m first p.core p.recorder → Recorded m first q.core q.recorder) → Tells m first p → Tells m first q
  works_tells p q works fault lines recorded h = record {
    known = λ none. works;
    told = subst (λ (f : Option CoreFault). TellsOf f q.lines.items) (sym fault) (subst (λ ls. TellsOf p.fault ls.items) (sym lines) h.told);
    recorded = recorded h.recorded;
  }

  -- a router that goes on: one more line, and nothing known that wasn't
  goes_on_tells : (p q r : Player M) (l : Line) → q.core ≡ p.core → q.lines ≡ p.lines → r.fault ≡ p.fault → Said q r (l ∷ [])
      → (Recorded m first p.core p.recorder → Recorded m first q.core q.recorder) → Tells m first p → Tells m first r
  goes_on_tells p q r l core lines fault said recorded h = record {
    known = λ none. ap m.is_failed (said.core ∙ core) ∙ h.known (sym fault ∙ none);
    told = subst (λ (f : Option CoreFault). TellsOf f r.lines.items) (sym fault)
        (subst (λ (ls : List Line). TellsOf p.fault ls) (sym (said.lines ∙ ap (λ ls. ls.items ++ l ∷ []) lines)) (tells_more p.fault p.lines.items (l ∷ []) h.told));
    recorded = same_record q r said.core said.recorder (recorded h.recorded);
  }

  -- a router that failed with this fault, of which the last line tells
  fails_tells : (p q : Player M) (fault : CoreFault) → q.fault ≡ Some fault → Said p q (line.Failed fault ∷ []) → Recorded m first p.core p.recorder → Tells m first q
  fails_tells p q fault is said recorded = record {
    known = λ none. let wrong : Some fault ≡ None = sym is ∙ none in absurd cc;
    told = subst (λ (f : Option CoreFault). TellsOf f q.lines.items) (sym is)
        (subst (λ (ls : List Line). Contains ls (line.Failed fault)) (sym said.lines) (last_tells fault p.lines.items));
    recorded = same_record p q said.core said.recorder recorded;
  }

  -- a router that answered with a fault: it is kept and told if it failed by it
  pub fault_tells : (p q r : Player M) (fault : CoreFault) → (fault ≡ NoConnection → q.core ≡ p.core) → (fault ≡ Failed → q.core ≡ p.core)
      → q.lines ≡ p.lines → q.fault ≡ p.fault → (Recorded m first p.core p.recorder → Recorded m first q.core q.recorder)
      → r.fault ≡ fault_after q.fault fault → Said q r (line.Failed fault ∷ []) → Tells m first p → Tells m first r
  fault_tells p q r NoConnection refused failed lines same recorded kept said h = goes_on_tells p q r (line.Failed NoConnection) (refused refl) lines (kept ∙ same) said recorded h
  fault_tells p q r Failed refused failed lines same recorded kept said h = goes_on_tells p q r (line.Failed Failed) (failed refl) lines (kept ∙ same) said recorded h
  fault_tells p q r Memory refused failed lines same recorded kept said h = fails_tells q r Memory kept said (recorded h.recorded)
  fault_tells p q r Disk refused failed lines same recorded kept said h = fails_tells q r Disk kept said (recorded h.recorded)
