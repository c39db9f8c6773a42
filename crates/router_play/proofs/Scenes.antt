-- Runs one after another.
use Rattle.std.proofs.Common.{◌≡◌, ◌∙◌, sym, ap, refl, subst, ℕ, Bool, true, false, List, [], ◌∷◌, ◌++◌, length, drop, get_or, not, append_assoc, ◌+◌, ◌<◌, ◌≤◌}
use Rattle.std.specs.Prelude.{map}
use Rattle.std.proofs.lemmas.List.{drop_more}
use Rattle.std.proofs.lemmas.List.{drop_all}
use Rattle.route_table.specs.Settings.{Settings}
use Rattle.core_player.specs.declared.line.Line.{Line}
use Rattle.core_player.specs.declared.script.Step.{Step}
use Rattle.router_play.specs.declared.script.Run.{Run}
use Rattle.reply_rows.specs.Acts.{Journaled, journaled}
use Rattle.router_play.specs.Script.{Scene, opening_on, run_line, Plays, PlaysAll, no_book, book_line}
pub use Rattle.core_player.proofs.Scenes.{back}

pub not_true : (b : Bool) → not b ≡ true → b ≡ false
not_true true h = sym h
not_true false h = refl

pub not_false : (b : Bool) → not b ≡ false → b ≡ true
not_false true h = refl
not_false false h = sym h

-- the steps of runs
abbrev pub steps_of : List Run → List (List Step)
steps_of runs = map (λ r. r.steps.items) runs

-- one more run, then the rest
pub runs_more : (config : Settings) (n : ℕ) (first j : Journaled) (runs : List Run) (i : ℕ) (x : Run) (u : Scene) (last next : Line) (before now others : List Line) → x ≡ get_or runs i x → i < length runs
    → Plays x.steps.items (opening_on config j) u → now ≡ before ++ run_line n ++ u.lines → next ≡ book_line (journaled u.trace)
    → ((ls : List Line) → PlaysAll config n j (steps_of (drop i runs)) last ls → PlaysAll config 1 first (steps_of runs) no_book (before ++ ls))
    → PlaysAll config (n + 1) (journaled u.trace) (steps_of (drop (i + 1) runs)) next others → PlaysAll config 1 first (steps_of runs) no_book (now ++ others)
runs_more config n first j runs i x u last next before now others is lt plays lines size whole rest =
    subst (λ (ls : List Line). PlaysAll config 1 first (steps_of runs) no_book ls)
    (sym (append_assoc before (run_line n ++ u.lines) others) ∙ ap (λ ls. ls ++ others) (sym (append_assoc before (run_line n) u.lines) ∙ sym lines))
    (whole (run_line n ++ u.lines ++ others)
    (subst (λ (rs : List Run). PlaysAll config n j (steps_of rs) last (run_line n ++ u.lines ++ others)) (sym (drop_more runs i x lt ∙ ap (λ y. y ∷ drop (i + 1) runs) (sym is)))
    (u, others, plays, subst (λ (l : Line). PlaysAll config (n + 1) (journaled u.trace) (steps_of (drop (i + 1) runs)) l others) size rest, refl)))

-- nothing is left to play
pub runs_done : (config : Settings) (n : ℕ) (first j : Journaled) (runs : List Run) (i : ℕ) (last : Line) (before lines : List Line) → length runs ≤ i
    → ((ls : List Line) → PlaysAll config n j (steps_of (drop i runs)) last ls → PlaysAll config 1 first (steps_of runs) no_book (before ++ ls))
    → lines ≡ before ++ last ∷ [] → PlaysAll config 1 first (steps_of runs) no_book lines
runs_done config n first j runs i last before lines over whole is =
    subst (λ (ls : List Line). PlaysAll config 1 first (steps_of runs) no_book ls) (sym is)
    (whole (last ∷ []) (subst (λ (rs : List Run). PlaysAll config n j (steps_of rs) last (last ∷ [])) (sym (drop_all i runs over)) refl))
