-- A file read line by line finds its first faulty line.
use Rattle.std.proofs.Common.{◌≡◌, ℕ, ◌+◌, List, [], ◌∷◌, ◌++◌, reverse, Option, Some, None, Result, Ok, Err, refl, sym, ◌∙◌, ap}
use Rattle.std.proofs.Common.{append_assoc, append-nil, length, ◌==◌, true, arith, map}
use Rattle.std.proofs.lemmas.Bool.Decides.{nat_tests}
use Rattle.std.proofs.lemmas.List.{reverse-append}
use Rattle.route_table.specs.File.{Section, fault_in, open_behind, open_below, ended_behind, ended_above, unclosed, first_kind, fault_or, first_fault_from, first_fault, sections}
use Rattle.route_table.specs.Lines.{Form, form_of, forms, lines}
use Rattle.route_table.specs.declared.faults.FaultKind.{FaultKind}
use Rattle.route_table.specs.declared.faults.FaultKind.TheVariants.{Syntax}

abbrev pub Read : Type 0
Read = Result (List Section) (ℕ × FaultKind)

-- a fault at the line of this number, or the result for the lines below it
abbrev pub going : Option FaultKind → ℕ → Read → Read
going None number later = later
going (Some kind) number later = Err (number, kind)

abbrev pub closing : ℕ → Option Section → List Section → Read
closing number None ended = Ok ended
closing number (Some section) ended = Err (number, Syntax)

-- the result for the lines below the first ones
abbrev pub run : ℕ → Option Section → List Section → List Form → Read
run number current ended [] = closing number current ended
run number current ended (line ∷ below) = going (fault_in current ended line below) (number + 1) (run (number + 1) (open_behind line current) (ended_behind line current ended) below)

abbrev pub verdict : Option (ℕ × FaultKind) → List Section → Read
verdict None sections = Ok sections
verdict (Some fault) sections = Err fault

last : (fault : Option FaultKind) (number : ℕ) (current : Option Section) (ended : List Section) → going fault number (closing number current ended) ≡ verdict (fault_or number (first_kind fault (unclosed current [])) None) ended
last (Some kind) number current ended = refl
last None number None ended = refl
last None number (Some section) ended = refl

inner : (fault : Option FaultKind) (number : ℕ) (current : Option Section) (line : Form) (below : List Form) (later : Option (ℕ × FaultKind)) (ended : List Section)
    → going fault number (verdict later ended) ≡ verdict (fault_or number (first_kind fault (unclosed current (line ∷ below))) later) ended
inner (Some kind) number current line below later ended = refl
inner None number None line below later ended = refl
inner None number (Some section) line below later ended = refl

turned : (line : Form) (below above : List Form) → reverse (line ∷ below) ++ above ≡ reverse below ++ (line ∷ above)
turned line below above = ap (λ ls. ls ++ above) (reverse-append (line ∷ []) below) ∙ append_assoc (reverse below) (line ∷ []) above

run_from : (number : ℕ) (above : List Form) (line : Form) (below : List Form)
    → run number (open_below above) (ended_above above) (line ∷ below) ≡ verdict (first_fault_from (number + 1) above (line ∷ below)) (ended_above (reverse (line ∷ below) ++ above))
run_from number above line [] = last (fault_in (open_below above) (ended_above above) line []) (number + 1) (open_below (line ∷ above)) (ended_above (line ∷ above))
run_from number above line (next ∷ below) =
    ap (going (fault_in (open_below above) (ended_above above) line (next ∷ below)) (number + 1)) (run_from (number + 1) (line ∷ above) next below)
    ∙ inner (fault_in (open_below above) (ended_above above) line (next ∷ below)) (number + 1) (open_below (line ∷ above)) next below (first_fault_from (number + 1 + 1) (line ∷ above) (next ∷ below)) (ended_above (reverse (next ∷ below) ++ (line ∷ above)))
    ∙ ap (λ ls. verdict (first_fault_from (number + 1) above (line ∷ next ∷ below)) (ended_above ls)) (sym (turned line (next ∷ below) above))

by_forms : (lines : List Form) → run 0 None [] lines ≡ verdict (first_fault_from 1 [] lines) (ended_above (reverse lines))
by_forms [] = refl
by_forms (line ∷ below) = run_from 0 [] line below ∙ ap (λ ls. verdict (first_fault_from 1 [] (line ∷ below)) (ended_above ls)) (append-nil (reverse (line ∷ below)))

-- reading a text gives its first fault, or its sections
pub run_text : (text : List ℕ) → run 0 None [] (forms text) ≡ verdict (first_fault text) (sections text)
unfolding first_fault sections
run_text text = by_forms (forms text)

pub read_ok : (text : List ℕ) (read : List Section) → Ok read ≡ run 0 None [] (forms text) → (read ≡ sections text) × (first_fault text ≡ None)
read_ok text read is = by_fault (first_fault text) (is ∙ run_text text)
  where
    by_fault : (fault : Option (ℕ × FaultKind)) → Ok read ≡ verdict fault (sections text) → (read ≡ sections text) × (fault ≡ None)
    by_fault None h = (cc, refl)
    by_fault (Some f) h = absurd cc

pub read_err : (text : List ℕ) (fault : ℕ × FaultKind) → Err fault ≡ run 0 None [] (forms text) → first_fault text ≡ Some fault
read_err text fault is = by_fault (first_fault text) (is ∙ run_text text)
  where
    by_fault : (f : Option (ℕ × FaultKind)) → Err fault ≡ verdict f (sections text) → f ≡ Some fault
    by_fault None h = absurd cc
    by_fault (Some f) h = cc

no_lines : (rest : List ℕ) → (length rest == 0) ≡ true → forms rest ≡ []
no_lines [] h = refl
no_lines (byte ∷ rest) h = absurd (grind (arith, nat_tests))

-- where all lines were read, and where one is faulty
pub finished : (text rest : List ℕ) (number : ℕ) (current : Option Section) (ended : List Section) → (length rest == 0) ≡ true → current ≡ None → run number current ended (forms rest) ≡ run 0 None [] (forms text)
    → (ended ≡ sections text) × (first_fault text ≡ None)
finished text rest number current ended done closed is = read_ok text ended (ap (closing number None) refl ∙ sym (ap (λ ls. run number None ended ls) (no_lines rest done)) ∙ sym (ap (λ o. run number o ended (forms rest)) closed) ∙ is)

pub left_open : (text rest : List ℕ) (number : ℕ) (current : Option Section) (ended : List Section) (section : Section) → (length rest == 0) ≡ true → current ≡ Some section → run number current ended (forms rest) ≡ run 0 None [] (forms text)
    → first_fault text ≡ Some (number, Syntax)
left_open text rest number current ended section done opened is = read_err text (number, Syntax) (sym (ap (λ ls. run number (Some section) ended ls) (no_lines rest done)) ∙ sym (ap (λ o. run number o ended (forms rest)) opened) ∙ is)

pub stopped : (text rest line below : List ℕ) (seen : Form) (number : ℕ) (current : Option Section) (ended : List Section) (kind : FaultKind) → lines rest ≡ line ∷ lines below → seen ≡ form_of line → fault_in current ended seen (forms below) ≡ Some kind
    → run number current ended (forms rest) ≡ run 0 None [] (forms text) → first_fault text ≡ Some (number + 1, kind)
stopped text rest line below seen number current ended kind cut form fault is =
    let split : forms rest ≡ seen ∷ forms below = ap (map form_of) cut ∙ ap (λ f. f ∷ forms below) (sym form) in
    let here : run number current ended (seen ∷ forms below) ≡ Err (number + 1, kind) = rw fault refl in
    read_err text (number + 1, kind) (sym here ∙ sym (ap (run number current ended) split) ∙ is)
