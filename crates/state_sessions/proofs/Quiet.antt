-- If no window is narrow, no flow is due.
use Rattle.std.proofs.Common.{◌≡◌, ◌+◌, ◌<◌, ◌≤◌, ℕ, zero, suc, false, refl, List, [], ◌∷◌, ◌++◌, subst, sym, arith}
use Rattle.std.proofs.lemmas.List.{append_assoc}
use Rattle.std.specs.Prelude.{Option, Some, None}
use Rattle.amqp_session.specs.Session.{Session}
use Rattle.router_trace.specs.Trace.{Entry, Put}
use Rattle.router_trace.specs.Sessions.{session}
use Rattle.state_sessions.specs.Windows.{flow_due, flows_below, windows_over, is_narrow_window}
use Rattle.state_sessions.specs.Fits.{window_by}

none_due : (c : ℕ) (o : ℕ) (v : Option Session) → is_narrow_window (window_by v) ≡ false → flow_due c o v ≡ []
none_due c o None wide = refl
none_due c o (Some h) wide = rw wide refl

none_more : (c : ℕ) (known : ℕ → Option Session) (n : ℕ) → flows_below c known n ≡ [] → flow_due c n (known n) ≡ [] → flows_below c known (suc n) ≡ []
unfolding flows_below
none_more c known n before here = rw (before, here) refl

pub below_zero : (c : ℕ) (known : ℕ → Option Session) → flows_below c known zero ≡ []
unfolding flows_below
below_zero c known = refl

pub quiet : (c : ℕ) (known : ℕ → Option Session) → ((o : ℕ) → o < 15 → is_narrow_window (window_by (known o)) ≡ false) → (n : ℕ) → n ≤ 15 → flows_below c known n ≡ []
quiet c known wide zero within = below_zero c known
quiet c known wide (suc n) within =
    let below : n < 15 = omega arith in
    let here : n ≤ 15 = omega arith in
    none_more c known n (quiet c known wide n here) (none_due c n (known n) (wide n below))

next_is : (n : ℕ) → suc n ≡ n + 1
next_is n = omega arith

below_suc : (c : ℕ) (known : ℕ → Option Session) (n : ℕ) → flows_below c known (suc n) ≡ flows_below c known n ++ flow_due c n (known n)
unfolding flows_below
below_suc c known n = refl

pub below_next : (c : ℕ) (known : ℕ → Option Session) (n : ℕ) (before flow : List Put) → flow_due c n (known n) ≡ flow
    → before ++ flows_below c known (n + 1) ≡ before ++ flows_below c known n ++ flow
below_next c known n before flow is =
    subst (λ (m : ℕ). before ++ flows_below c known m ≡ before ++ flows_below c known n ++ flow) (next_is n)
    (rw (below_suc c known n, is) (sym (append_assoc before (flows_below c known n) flow)))

pub all_quiet : (t : List Entry) → ((c o : ℕ) → o < 15 → is_narrow_window (window_by (session t c o)) ≡ false) → (cs : List ℕ) → windows_over t cs ≡ []
all_quiet t wide [] = refl
all_quiet t wide (c ∷ cs) =
    let within : 15 ≤ 15 = omega arith in
    rw (quiet c (session t c) (wide c) 15 within) (all_quiet t wide cs)
