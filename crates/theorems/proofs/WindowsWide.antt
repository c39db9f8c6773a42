-- After the flows that restore narrow windows no window is narrow, so none of these flows is due again.
use Rattle.std.proofs.Common.{◌≡◌, sym, refl, subst, ℕ, zero, suc, true, ◌<◌, ◌≤◌, List, [], ◌∷◌, ◌++◌, arith}
use Rattle.std.specs.Prelude.{◌==◌, nat_lt, Option, Some, None, option_map}
use Rattle.std.proofs.lemmas.Bool.{eq-eqb, ltb-true, ltb-false}
use Rattle.amqp_session.specs.Session.{Session, OurFlow}
use Rattle.router_trace.specs.Trace.{Entry, Out, Put, goes}
use Rattle.router_trace.specs.Frames.{flow_item, told_of, session_flow}
use Rattle.router_trace.specs.Sessions.{session, flow_state}
use Rattle.state_sessions.specs.Windows.{is_narrow, flow_due, flows_below}
use Rattle.state_connections.proofs.Lists.{by_test}

-- these are flows that restore windows
abbrev AllFlows : List Put → Type 0
AllFlows [] = Unit {0}
AllFlows (p ∷ ps) = ((own : ℕ) × (h : Session) × (p.item ≡ flow_item own (told_of h))) × AllFlows ps

due_flows : (c o : ℕ) (v : Option Session) → AllFlows (flow_due c o v)
due_flows c o None = tt
due_flows c o (Some h) = by_test (is_narrow h) (λ e. rw e ((o, h, refl), tt)) (λ e. rw e tt)

-- such a flow makes no window narrow, and the window of its own channel isn't narrow after it

abbrev Wide : ℕ → ℕ → Option Session → Type 0
Wide c o v = flow_due c o v ≡ []

told_wide : (c o : ℕ) (h : Session) (v : Option Session) → Wide c o (option_map (λ g. OurFlow (flow_state (session_flow (told_of h))) ∷ g) v)
told_wide c o h None = refl
told_wide c o h (Some g) = refl

out_wide : (t : List Entry) (d own c o : ℕ) (h : Session) → Wide c o (session t c o) → Wide c o (session (Out d (flow_item own (told_of h)) ∷ t) c o)
out_wide t d own c o h was =
    by_test (d == c) (λ e. rw e (by_test (own == o) (λ f. rw f (told_wide c o h (session t c o))) (λ f. rw f was))) (λ e. rw e was)

goes_wide : (ps : List Put) (t : List Entry) (c o : ℕ) → AllFlows ps → Wide c o (session t c o) → Wide c o (session (goes ps t) c o)
goes_wide [] t c o flows was = was
goes_wide (p ∷ ps) t c o flows was =
    goes_wide ps (Out p.conn p.item ∷ t) c o flows.1
    (subst (λ i. Wide c o (session (Out p.conn i ∷ t) c o)) (sym flows.0.2) (out_wide t p.conn flows.0.0 c o flows.0.1 was))

own_wide : (t : List Entry) (c o : ℕ) (h : Session) → Wide c o (session (Out c (flow_item o (told_of h)) ∷ t) c o)
own_wide t c o h =
    let here : (c == c) ≡ true = eq-eqb c c refl
    in let there : (o == o) ≡ true = eq-eqb o o refl
    in rw here (rw there (told_wide c o h (session t c o)))

due_wide : (u : List Entry) (c o : ℕ) (v : Option Session) → (Wide c o v → Wide c o (session u c o)) → Wide c o (session (goes (flow_due c o v) u) c o)
due_wide u c o None still = still refl
due_wide u c o (Some h) still = by_test (is_narrow h) (λ e. rw e (own_wide u c o h)) (λ e. rw e (still (rw e refl)))

-- the flows of one connection

goes_both : (ps qs : List Put) (t : List Entry) → goes (ps ++ qs) t ≡ goes qs (goes ps t)
goes_both [] qs t = refl
goes_both (p ∷ ps) qs t = goes_both ps qs (Out p.conn p.item ∷ t)

flows_both : (ps qs : List Put) → AllFlows ps → AllFlows qs → AllFlows (ps ++ qs)
flows_both [] qs f g = g
flows_both (p ∷ ps) qs f g = (f.0, flows_both ps qs f.1 g)

below_flows : (c : ℕ) (known : ℕ → Option Session) (n : ℕ) → AllFlows (flows_below c known n)
unfolding flows_below
below_flows c known zero = tt
below_flows c known (suc n) = flows_both (flows_below c known n) (flow_due c n (known n)) (below_flows c known n) (due_flows c n (known n))

none_below_zero : (o : ℕ) → o < 0 → ⊥
none_below_zero o h = omega arith

last_below : (o n : ℕ) → o < suc n → n ≤ o → n ≡ o
last_below o n h k = omega arith

below_wide : (t : List Entry) (c n o : ℕ) → o < n → Wide c o (session (goes (flows_below c (session t c) n) t) c o)
unfolding flows_below
below_wide t c zero o h = absurd (none_below_zero o h)
below_wide t c (suc n) o h =
    let before : List Put = flows_below c (session t c) n
    in let last : List Put = flow_due c n (session t c n)
    in subst (λ (x : List Entry). Wide c o (session x c o)) (sym (goes_both before last t))
    (by_test (nat_lt o n)
    (λ e. goes_wide last (goes before t) c o (due_flows c n (session t c n)) (below_wide t c n o (ltb-true o n e)))
    (λ e. subst (λ (k : ℕ). Wide c k (session (goes last (goes before t)) c k)) (last_below o n h (ltb-false o n e))
    (due_wide (goes before t) c n (session t c n) (λ was. goes_wide before t c n (below_flows c (session t c) n) was))))

quiet_below : (c : ℕ) (known : ℕ → Option Session) (n : ℕ) → ((o : ℕ) → o < n → Wide c o (known o)) → flows_below c known n ≡ []
unfolding flows_below
quiet_below c known zero wide = refl
quiet_below c known (suc n) wide = λ j. quiet_below c known n (λ o h. wide o (less o h)) j ++ wide n last j
  where
    less : (o : ℕ) → o < n → o < suc n
    less o h = omega arith

    last : n < suc n
    last = omega arith

-- after them none is due
pub settled : (t : List Entry) (c : ℕ) → flows_below c (session (goes (flows_below c (session t c) 15) t) c) 15 ≡ []
settled t c = quiet_below c (session (goes (flows_below c (session t c) 15) t) c) 15 (below_wide t c 15)
