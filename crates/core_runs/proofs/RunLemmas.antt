-- Lemmas on takes and runs.
use Rattle.std.proofs.Common.{◌≡◌, ◌∙◌, sym, ap, refl, subst, ℕ, ◌+◌, List, [], ◌∷◌, ◌++◌, append_assoc, append-nil, length, length-append, arith, true, Option, Some, None, ◌⊎◌, inl, inr, Vec, Global}
use Rattle.std.specs.Prelude.{map}
use Rattle.router_trace.specs.declared.event.Event.{Event}
use Rattle.router_core.specs.declared.router.Core.{Core}
use Rattle.router_trace.specs.Trace.{Entry}
use Rattle.router_trace.specs.Connection.{Connection, conn as known, is_ready}
use Rattle.state_connections.specs.Fits.{IsLeast}
use Rattle.router_core.specs.Handling.{Fits, is_failed}
use Rattle.core_machine.specs.Moves.{IsNext, Taking, took_one, items_of}
use Rattle.core_runs.specs.declared.driving.Sent.{Sent}
use Rattle.core_runs.specs.Runs.{InTurn, took_all, sent, as_sent, events_of, MayStep, MaySteps, Steps, Run, Waits}

took_more : (xs : List Taking) (x : Taking) (t : List Entry) → took_all (xs ++ x ∷ []) t ≡ took_one x (took_all xs t)
took_more [] x t = refl
took_more (y ∷ ys) x t = took_more ys x (took_one y t)

sent_more : (place : ℕ) (xs : List Taking) (x : Taking) (t : List Entry)
    → sent place (xs ++ x ∷ []) t ≡ sent place xs t ++ map (as_sent place x.conn) (items_of x (took_all xs t))
sent_more place [] x t = append-nil (map (as_sent place x.conn) (items_of x t))
sent_more place (y ∷ ys) x t =
    ap (λ zs. map (as_sent place y.conn) (items_of y t) ++ zs) (sent_more place ys x (took_one y t))
    ∙ sym (append_assoc (map (as_sent place y.conn) (items_of y t)) (sent place ys (took_one y t)) (map (as_sent place x.conn) (items_of x (took_all ys (took_one y t)))))

turns_more : (xs : List Taking) (x : Taking) (t : List Entry) → InTurn xs t → IsNext (took_all xs t) x → InTurn (xs ++ x ∷ []) t
turns_more [] x t turns next = (next, turns)
turns_more (y ∷ ys) x t turns next = (turns.0, turns_more ys x (took_one y t) turns.1 next)

-- one more take
pub one_more : {D : Type 0} (core : Core D) (place : ℕ) (t : List Entry) (before mid after : List Sent) (xs : List Taking) (x : Taking)
    → InTurn xs t → IsNext (took_all xs t) x
    → Fits core (took_one x (took_all xs t)) → mid ≡ before ++ sent place xs t
    → after ≡ mid ++ map (as_sent place x.conn) (items_of x (took_all xs t))
    → (takes : List Taking) × InTurn takes t × Fits core (took_all takes t) × (after ≡ before ++ sent place takes t)
one_more core place t before mid after xs x turns next fit was now = (
  xs ++ x ∷ [],
  turns_more xs x t turns next,
  subst (λ (u : List Entry). Fits core u) (sym (took_more xs x t)) fit,
  now ∙ ap (λ ys. ys ++ map (as_sent place x.conn) (items_of x (took_all xs t))) was
      ∙ append_assoc before (sent place xs t) (map (as_sent place x.conn) (items_of x (took_all xs t)))
      ∙ ap (λ ys. before ++ ys) (sym (sent_more place xs x t)),
)

-- no group is left
pub none_left : (groups : List (Vec Event Global)) → length groups ≡ 0 → events_of groups ≡ []
none_left [] none = refl
none_left (g ∷ groups) none = absurd (omega (arith, none))

-- nothing is left to run
pub all_run : (id : List ℕ) (t : List Entry) (groups first rest : List (List Event)) (xs : List Sent) (m : List Entry)
    → groups ≡ first ++ rest → rest ≡ [] → Run id 0 t first xs m → Run id 0 t groups xs m
all_run id t groups first rest xs m is none run =
    subst (λ (gs : List (List Event)). Run id 0 t gs xs m) (sym (is ∙ ap (λ (gs : List (List Event)). first ++ gs) none ∙ append-nil first)) run

-- one more event
pub steps_more : (id : List ℕ) (t m u : List Entry) (es : List Event) (e : Event) → MaySteps id t es m → MayStep id m e u → MaySteps id t (es ++ e ∷ []) u
steps_more id t m u [] e first next = (u, subst (λ (v : List Entry). MayStep id v e u) first next, refl)
steps_more id t m u (x ∷ es) e first next = (first.0, first.1, steps_more id first.0 m u es e first.2 next)

-- one more group
pub run_more : (id : List ℕ) (place at : ℕ) (t : List Entry) (first : List (List Event)) (xs : List Sent) (m : List Entry) (es : List Event) (ys : List Sent) (u : List Entry)
    → at ≡ place + length first → Run id place t first xs m → Steps id at m es ys u → Run id place t (first ++ es ∷ []) (xs ++ ys) u
run_more id place at t [] xs m es ys u is run st = (
  u,
  ys,
  [],
  subst (λ (p : ℕ). Steps id p t es ys u) (is ∙ omega arith) (subst (λ (v : List Entry). Steps id at v es ys u) run.0 st),
  (refl, refl),
  ap (λ (zs : List Sent). zs ++ ys) run.1 ∙ sym (append-nil ys),
)
run_more id place at t (x ∷ first) xs m es ys u is (mid, before, after, steps, run, all) st = (
  mid,
  before,
  after ++ ys,
  steps,
  run_more id (place + 1) at mid first after m es ys u (is ∙ omega arith) run st,
  ap (λ (zs : List Sent). zs ++ ys) all ∙ append_assoc before after ys,
)

one_longer : (n : ℕ) (first : List (List Event)) (es : List Event) → n ≡ length first → n + 1 ≡ length (first ++ es ∷ [])
one_longer n first es is = ap (λ (k : ℕ). k + 1) is ∙ sym (length-append first (es ∷ []))

pub past_more : (id other : List ℕ) (handled : ℕ) (t m u : List Entry) (groups first rest behind : List (List Event)) (es : List Event) (xs ys zs : List Sent)
    → other ≡ id → rest ≡ es ∷ behind → zs ≡ xs ++ ys → groups ≡ first ++ rest → handled ≡ length first → Run id 0 t first xs m → Steps other handled m es ys u
    → (groups ≡ (first ++ es ∷ []) ++ behind) × (handled + 1 ≡ length (first ++ es ∷ [])) × Run id 0 t (first ++ es ∷ []) zs u
past_more id other handled t m u groups first rest behind es xs ys zs same next taken all count run steps = (
  all ∙ ap (λ (gs : List (List Event)). first ++ gs) next ∙ sym (append_assoc first (es ∷ []) behind),
  one_longer handled first es count,
  subst (λ (ts : List Sent). Run id 0 t (first ++ es ∷ []) ts u) (sym taken)
      (run_more id 0 handled t first xs m es ys u (count ∙ omega arith) run (subst (λ (i : List ℕ). Steps i handled m es ys u) same steps)),
)

-- memory was refused for the items of a ready connection
pub still_waits : {D : Type 0} (old new : Core D) (c : ℕ) → ((t : List Entry) → Fits old t → IsLeast (λ c. is_ready (known t c)) (Some c))
    → (new ≡ old) ⊎ (is_failed new ≡ true) → ((t : List Entry) → Fits new t → Waits t) ⊎ (is_failed new ≡ true)
still_waits {D = D} old new c least (inl same) = inl (λ t f. (c, (least t (subst (λ (x : Core D). Fits x t) same f)).0))
still_waits old new c least (inr failed) = inr failed

-- a connection that isn't known isn't ready
pub unready : (v : Option Connection) → v ≡ None → is_ready v ≡ true → ⊥
unready None e f = absurd cc
unready (Some w) e f = absurd cc
