-- Laws over every list of runs: what opening a router, its moves and a stop keep.
use Rattle.std.proofs.Common.{◌≡◌, sym, subst, ℕ, List, [], ◌∷◌}
use Rattle.book_model.specs.Book.{empty_book}
use Rattle.router_trace.specs.declared.event.Event.{Event}
use Rattle.router_trace.specs.Trace.{Trace, Beginning, did, step_of}
use Rattle.router_trace.specs.Configuration.{opened}
use Rattle.reply_rows.specs.Acts.{book_in, booked}
use Rattle.core_machine.specs.Moves.{Move}
use Rattle.router_core.proofs.Booking.{booked_keeps}
use Rattle.theorems.specs.Came.{CopiesAreForAll, start}
use Rattle.theorems.specs.Carried.{HasSmallNumbers}
use Rattle.theorems.specs.Credit.{WithinCredit}
use Rattle.theorems.specs.Each.{EachOut}
use Rattle.theorems.specs.Keeping.{IsKeptFirst}
use Rattle.theorems.specs.Kept.{OutcomeIsKept, RowsAreDecidedOnce}
use Rattle.theorems.specs.Lives.{Life, Lives, CutOff, GoesInTurn, InLives, InSmallLives, AtEachEnd}
use Rattle.theorems.specs.Mapped.{MapIsOfBook}
use Rattle.theorems.specs.OwnRow.{TellsItsOwnRow}
use Rattle.theorems.specs.Windows.{WindowKept}
use Rattle.theorems.proofs.AllSound.{moves_sound}
use Rattle.theorems.proofs.Brings.{Brings, no_brings, opened_brings, moves_brings, cut_brings}
use Rattle.theorems.proofs.CopiedAll.{cut_made, moves_made, opened_made}
use Rattle.theorems.proofs.CreditKept.{moves_within}
use Rattle.theorems.proofs.Keeping.{moves_kept}
use Rattle.theorems.proofs.KeptFirst.{Past, no_past, moves_past, cut_past, Once, none_once, opened_once, moves_once, cut_once}
use Rattle.theorems.proofs.Locked.{goes}
use Rattle.theorems.proofs.Mapped.{Mapped, moves_mapped}
use Rattle.theorems.proofs.Rows.{Rows, no_rows, opened_rows, moves_rows, cut_rows}
use Rattle.theorems.proofs.Sound.{Sound, none_sound, opened_sound, did_sound, batch_sound}
use Rattle.theorems.proofs.Volatile.{TellsVolatile}
use Rattle.theorems.proofs.WindowsKept.{moves_keep}

module _ (P : Trace → Type 0)
    (opens : (g : Beginning) (below : Trace) → g.book ≡ book_in below → P below → P (opened g below))
    (moves : (id : List ℕ) (ms : List Move) (t u : Trace) → P t → GoesInTurn id ms t u → P u)
    (cuts : (t : Trace) (e : Event) → P t → P (did e ∷ booked t e)) where
  cut_keeps : (es : List Event) (t u : Trace) → P t → CutOff es t u → P u
  cut_keeps [] t u was is = subst P (sym is) was
  cut_keeps (e ∷ es) t u was rest = cut_keeps es (did e ∷ booked t e) u (cuts t e was) rest.1

  pub lives_keep : P [] → (id : List ℕ) (lives : List Life) (u : Trace) → Lives id lives u → P u
  lives_keep none id [] u all = subst P (sym all) none
  lives_keep none id (x ∷ xs) u all =
      cut_keeps x.cut all.1 u (moves id x.moves (opened x.opening all.0) all.1 (opens x.opening all.0 all.3 (lives_keep none id xs all.0 all.2)) all.4) all.5

pub lives_within : InLives WithinCredit
lives_within = lives_keep WithinCredit (λ g below book was. was) (λ id ms t u was went. moves_within id ms t u was (goes id ms t u went)) (λ t e was. was) tt

pub lives_keep_windows : InLives WindowKept
lives_keep_windows = lives_keep WindowKept (λ g below book was. was) (λ id ms t u was went. moves_keep id ms t u was (goes id ms t u went)) (λ t e was. was) tt

pub lives_keep_links_first : InLives (EachOut IsKeptFirst)
lives_keep_links_first =
    lives_keep (EachOut IsKeptFirst) (λ g below book was. was) (λ id ms t u was went. moves_kept id ms t u was (goes id ms t u went)) (λ t e was. was) tt

-- (what the pass over moves carries)
abbrev Passed : Trace → Type 0
Passed t = Rows t × Sound t × Brings t × Mapped t × CopiesAreForAll t

lives_all : InLives Passed
lives_all =
    lives_keep Passed (λ g below book was. (opened_rows g below book was.0, opened_sound g below was.1, opened_brings g below book was.2, was.3, opened_made g below was.4))
    (λ id ms t u was went. let led = goes id ms t u went in (
      moves_rows id ms t u was.0 led,
      moves_sound id ms t u was.0 was.1 led,
      moves_brings id ms t u was.0 was.1 was.2 led,
      moves_mapped id ms t u was.0 was.1 was.2 was.3 led,
      moves_made id ms t u was.0 was.1 was.4 led,
    ))
    (λ t e was. (cut_rows t e was.0, did_sound (step_of e) (booked t e) (booked_keeps Sound t e (λ acts w. batch_sound t acts w) was.1), cut_brings t e was.2, was.3, cut_made t e was.4))
    (no_rows, none_sound, no_brings, tt, start)

pub lives_rows : InLives Rows
lives_rows id lives u all = (lives_all id lives u all).0

pub lives_sound : InLives Sound
lives_sound id lives u all = (lives_all id lives u all).1

pub lives_brings : InLives Brings
lives_brings id lives u all = (lives_all id lives u all).2

pub lives_mapped : InLives (EachOut MapIsOfBook)
lives_mapped id lives u all = (lives_all id lives u all).3

pub lives_copied : InLives CopiesAreForAll
lives_copied id lives u all = (lives_all id lives u all).4

pub lives_once : InLives RowsAreDecidedOnce
lives_once = λ id lives u all.
    (lives_keep (Once empty_book) (opened_once empty_book) (λ id ms t u was went. moves_once empty_book id ms t u was (goes id ms t u went)) (cut_once empty_book)
    none_once id lives u all).once

-- outcomes

cut_past_all : (es : List Event) (t u : Trace) → Past t → CutOff es t u → Past u
cut_past_all [] t u was is = subst Past (sym is) was
cut_past_all (e ∷ es) t u was rest = cut_past_all es (did e ∷ booked t e) u (cut_past t e was) rest.1

-- what an event cut off leaves of the numbers of messages
small_cut : (es : List Event) (t u : Trace) → CutOff es t u → HasSmallNumbers u → HasSmallNumbers t
small_cut [] t u is small = subst HasSmallNumbers is small
small_cut (e ∷ es) t u rest small = small_cut es (did e ∷ booked t e) u rest.1 small

lives_past : (id : List ℕ) (lives : List Life) (u : Trace) (all : Lives id lives u) → AtEachEnd HasSmallNumbers id lives u all → Past u
lives_past id [] u all small = subst Past (sym all) no_past
lives_past id (x ∷ xs) u all small =
    cut_past_all x.cut all.1 u
    (moves_past id x.moves x.opening all.0 all.1 all.3 (lives_past id xs all.0 all.2 small.1) all.4 (small_cut x.cut all.1 u all.5 small.0)) all.5

pub lives_outcomes : InSmallLives (EachOut OutcomeIsKept)
lives_outcomes = λ id lives u all small. (lives_past id lives u all small).law

pub lives_tell_volatile : InSmallLives (EachOut TellsVolatile)
lives_tell_volatile = λ id lives u all small. (lives_past id lives u all small).apart

pub lives_tell_own : InSmallLives (EachOut TellsItsOwnRow)
lives_tell_own = λ id lives u all small. (lives_past id lives u all small).own
