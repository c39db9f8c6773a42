-- What follows an event's rows is sent step by step: what each step keeps, the whole keeps, and this also holds of two traces in step.
use Rattle.std.proofs.Common.{ℕ, zero, suc, List}
use Rattle.router_trace.specs.Trace.{Entry, Put, goes}
use Rattle.router_trace.specs.Following.{repeated, turns, as_long_as_due, tells, sends_due, drains_due}
use Rattle.state_sessions.specs.Windows.{windows}
use Rattle.state_messages.specs.Messages.{grants_due}
use Rattle.router_after.specs.After.{told, sent, drained, granted, followed}

repeated_keeps : (next : List Entry → List Put) (P : List Entry → Type 0) → ((t : List Entry) → P t → P (goes (next t) t))
    → (n : ℕ) (t : List Entry) → P t → P (repeated next n t)
unfolding repeated
repeated_keeps next P step zero t was = was
repeated_keeps next P step (suc n) t was = repeated_keeps next P step n (goes (next t) t) (step t was)

-- for two traces in step
repeated_alike : (first second : List Entry → List Put) (P : List Entry → List Entry → Type 0)
    → ((t u : List Entry) → P t u → P (goes (first t) t) (goes (second u) u)) → (n : ℕ) (t u : List Entry) → P t u → P (repeated first n t) (repeated second n u)
unfolding repeated
repeated_alike first second P step zero t u was = was
repeated_alike first second P step (suc n) t u was = repeated_alike first second P step n (goes (first t) t) (goes (second u) u) (step t u was)

pub due_keeps : (next : List Entry → List Put) (P : List Entry → Type 0) → ((t : List Entry) → P t → P (goes (next t) t))
    → (t : List Entry) → P t → P (as_long_as_due next t)
due_keeps next P step t was = repeated_keeps next P step turns t was

pub due_alike : (first second : List Entry → List Put) (P : List Entry → List Entry → Type 0)
    → ((t u : List Entry) → P t u → P (goes (first t) t) (goes (second u) u)) → (t u : List Entry) → P t u → P (as_long_as_due first t) (as_long_as_due second u)
due_alike first second P step t u was = repeated_alike first second P step turns t u was

-- what each step after an event's rows keeps, before narrow windows are restored
pub record Steps (P : List Entry → Type 0) : Type 0 where
  pub telling : (t : List Entry) → P t → P (goes (tells t) t)
  pub sending : (t : List Entry) → P t → P (goes (sends_due t) t)
  pub draining : (t : List Entry) → P t → P (goes (drains_due t) t)
  pub granting : (t : List Entry) → P t → P (goes (grants_due t) t)

-- all that is sent before narrow windows are restored
abbrev pub passed_on : List Entry → List Entry
passed_on t = granted (drained (sent (told t)))

pub passed_keeps : (P : List Entry → Type 0) → Steps P → (t : List Entry) → P t → P (passed_on t)
passed_keeps P step t was =
    due_keeps grants_due P step.granting (drained (sent (told t)))
    (due_keeps drains_due P step.draining (sent (told t))
    (due_keeps sends_due P step.sending (told t)
    (due_keeps tells P step.telling t was)))

-- what every item keeps
pub each_keeps : (P : List Entry → Type 0) → ((ps : List Put) (t : List Entry) → P t → P (goes ps t)) → (t : List Entry) → P t → P (passed_on t)
each_keeps P step t was =
    passed_keeps P (record {
      telling = λ u h. step (tells u) u h;
      sending = λ u h. step (sends_due u) u h;
      draining = λ u h. step (drains_due u) u h;
      granting = λ u h. step (grants_due u) u h;
    }) t was

pub all_keep : (P : List Entry → Type 0) → ((ps : List Put) (t : List Entry) → P t → P (goes ps t)) → (t : List Entry) → P t → P (followed t)
all_keep P step t was = step (windows (passed_on t)) (passed_on t) (each_keeps P step t was)
