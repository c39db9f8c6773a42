-- A router's journal that stands: any two files that a stop leaves open to the book of the router's trace. And what a stop leaves at any
-- moment is the book of the runs so far.
use Rattle.std.proofs.Common.{◌≡◌, refl, sym, ap, subst, ℕ, suc, List, [], ◌∷◌, ◌++◌, length, append-nil, Option, Some, None, IfSome, Vec, Global}
use Rattle.book_model.specs.Book.{BookView}
use Rattle.disk_core.specs.Twin.{Contents}
use Rattle.journal_store.specs.Store.{OpensTo, Stands, twin_of}
use Rattle.journal_store.proofs.Moments.{left_opens}
use Rattle.router_trace.specs.declared.event.Event.{Event}
use Rattle.router_trace.specs.Configuration.{opened}
use Rattle.router_trace.specs.Trace.{Trace}
use Rattle.reply_rows.specs.Acts.{book_in}
use Rattle.core_machine.specs.declared.fault.CoreFault.{CoreFault}
use Rattle.core_machine.specs.Moves.{Move}
use Rattle.router_core.specs.declared.router.Core.{Core}
use Rattle.router_core.specs.Handling.{Fits, store_of}
use Rattle.core_runs.specs.declared.driving.Driven.{Driven}
use Rattle.core_runs.specs.declared.driving.Sent.{Sent}
use Rattle.core_runs.specs.Leaving.{IsLeftAfter, IsLeftBy, LeftBy}
use Rattle.core_runs.specs.Runs.{Run, events_of}
use Rattle.theorems.specs.Lives.{Life, Lives, CutOff, GoesInTurn}
use Rattle.theorems.specs.Stops.{IsUnderWay, EndsLife, EndsAnswered, stopped}
use Rattle.theorems.proofs.KeptFirst.{LeadsInTurn, leads_on, turns_on, run_leads, steps_lead}

pub opens_to_book : {T : Type 0} (seen : T → Contents) (may_leave : T → Contents → Type 0) (core : Core T) (u : Trace)
    → Fits core u → Stands seen may_leave (store_of core)
    → (contents : Contents) → may_leave (twin_of (store_of core)) contents → OpensTo contents (book_in u)
opens_to_book seen may_leave core u fits stands contents left = subst (λ (b : BookView). OpensTo contents b) fits.journal.book (left_opens seen may_leave (store_of core) contents stands left)

-- a run under way goes from its opening to its trace
went_on : (id : List ℕ) (life : Life) (lives : List Life) (t : Trace) (way : IsUnderWay id life lives t) → GoesInTurn id life.moves (opened life.opening way.1.0) t
went_on id life lives t way = subst (λ (w : Trace). GoesInTurn id life.moves (opened life.opening way.1.0) w) (sym same) way.1.4
  where
    same : t ≡ way.1.1
    same = subst (λ (es : List Event). CutOff es way.1.1 t) way.0 way.1.5

-- what these groups leave is left by the run with their moves
goes_to : (id : List ℕ) (life : Life) (lives : List Life) (t : Trace) (groups : List (List Event)) (b : BookView) → IsUnderWay id life lives t → (left : IsLeftBy id t groups b)
    → (more : List Move) × Lives id (stopped life more ∷ lives) left.within.end
goes_to id life lives t groups b way left = (led.0, (way.1.0, left.within.end, way.1.2, way.1.3, all, refl))
  where
    led : LeadsInTurn id t left.within.end
    led = leads_on id t left.mid left.within.end (run_leads id 0 t left.first left.taken left.mid left.run) (steps_lead id left.mid left.within.first left.within.end left.within.steps)

    all : GoesInTurn id (life.moves ++ led.0) (opened life.opening way.1.0) left.within.end
    all = turns_on id life.moves led.0 (opened life.opening way.1.0) t left.within.end (went_on id life lives t way) led.1

pub ends_life : (id : List ℕ) (life : Life) (lives : List Life) (t : Trace) (groups : List (List Event)) → IsUnderWay id life lives t
    → (contents : Contents) → LeftBy id t groups contents → EndsLife id life lives t groups contents
ends_life id life lives t groups way contents left =
    let run = goes_to id life lives t groups left.0 way left.2 in record { book = left.0; left = left.2; more = run.0; ended = run.1; opens = left.1 }

-- of a run that met a fault
pub ends_answered : (id : List ℕ) (life : Life) (lives : List Life) (t : Trace) (groups : List (List Event)) (handled : ℕ) (xs : List Sent) → IsUnderWay id life lives t
    → (contents : Contents) → IsLeftAfter id t groups handled xs contents → EndsAnswered id life lives t groups handled xs contents
ends_answered id life lives t groups handled xs way contents is =
    let run = goes_to id life lives t groups is.book way is.left in
    record {
      ends = record { book = is.book; left = is.left; more = run.0; ended = run.1; opens = is.opens };
      count = is.count;
      last = is.last;
      items = is.items;
      answered = is.answered;
    }

-- of a run that met none
pub ends_all : (id : List ℕ) (life : Life) (lives : List Life) (t : Trace) (groups : List (List Event)) (handled : ℕ) (xs : List Sent) (u : Trace) → IsUnderWay id life lives t → handled ≡ length groups
    → Run id 0 t groups xs u → (contents : Contents) → OpensTo contents (book_in u) → EndsAnswered id life lives t groups handled xs contents
ends_all id life lives t groups handled xs u way count run contents opens =
    let left : IsLeftBy id t groups (book_in u) = record {
      first = groups;
      rest = [];
      are = sym (append-nil groups);
      taken = xs;
      mid = u;
      run = run;
      within = record { first = []; others = []; are = refl; end = u; steps = refl; book = refl };
    } in
    let more = goes_to id life lives t groups (book_in u) way left in
    record {
      ends = record { book = book_in u; left = left; more = more.0; ended = more.1; opens = opens };
      count = count;
      last = [];
      items = sym (append-nil xs);
      answered = λ some. refl;
    }

-- as many groups of events as groups
pub count_of : (groups : List (Vec Event Global)) → length (events_of groups) ≡ length groups
count_of [] = refl
count_of (g ∷ gs) = ap suc (count_of gs)

-- whether it met one or not
pub end_answered : (id : List ℕ) (life : Life) (lives : List Life) (t : Trace) (groups : List (List Event)) (driven : Driven) (P : Type 0) → IsUnderWay id life lives t → (contents : Contents)
    → (driven.fault ≡ None → driven.handled ≡ length groups)
    → (driven.fault ≡ None → (u : Trace) × Run id 0 t groups driven.taken.items u × OpensTo contents (book_in u))
    → (P → IsLeftAfter id t groups driven.handled driven.taken.items contents) → IfSome driven.fault (λ f. P) → EndsAnswered id life lives t groups driven.handled driven.taken.items contents
end_answered id life lives t groups driven P way contents all none after some = by driven.fault refl some
  where
    by : (o : Option CoreFault) → driven.fault ≡ o → IfSome o (λ f. P) → EndsAnswered id life lives t groups driven.handled driven.taken.items contents
    by None is h = let w = none is in ends_all id life lives t groups driven.handled driven.taken.items w.0 way (all is) w.1 contents w.2
    by (Some f) is h = ends_answered id life lives t groups driven.handled driven.taken.items way contents (after h)
