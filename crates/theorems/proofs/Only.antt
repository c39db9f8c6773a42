-- Of outgoing items, those for one connection.
use Rattle.std.proofs.Common.{◌≡◌, ◌∙◌, sym, ap, refl, subst, true≢false, ℕ, zero, suc, Bool, true, false, List, [], ◌∷◌, ◌++◌, append-nil}
use Rattle.std.specs.Prelude.{◌==◌, nat_eq, Option, Some, None, if◌then◌else◌}
use Rattle.std.proofs.lemmas.Bool.{eqb-true}
use Rattle.amqp_model.specs.declared.item.Item.{Item}
use Rattle.amqp_session.specs.Session.{Session}
use Rattle.router_trace.specs.declared.condition.Condition.TheVariants.{ResourceLimitExceeded}
use Rattle.router_trace.specs.Trace.{Entry, Out, Put, goes, each_to, puts, ups}
use Rattle.router_trace.specs.Connection.{Connection, conn, has, is_live, live, live_of}
use Rattle.router_trace.specs.Sessions.{session}
use Rattle.router_trace.specs.Clocks.{terms, written, needs_beat}
use Rattle.state_sessions.specs.Windows.{is_narrow, flow_due, flows_below, windows_over, windows}
use Rattle.router_state.specs.Tables.{beat_if, beats_over}
use Rattle.router_reply.specs.Replies.{closing_of, ends}
use Rattle.theorems.specs.Alone.{own_part}
use Rattle.state_connections.proofs.Lists.{by_test, has_filter}
use Rattle.state_connections.proofs.Turns.{known}
use Rattle.router_core.proofs.Once.{NoTwice, neither, filter_has, no_twice_filter}
use Rattle.router_core.proofs.Ordered.{Without, some_is}
use Rattle.router_core.proofs.Flowing.{live_some}
use Rattle.theorems.proofs.Mine.{Eased, eased_goes}

abbrev pub only : ℕ → List Put → List Put
only c [] = []
only c (p ∷ ps) = if p.conn == c then p ∷ only c ps else only c ps

-- there are none for a connection that they don't concern
pub only_none : (c : ℕ) (ps : List Put) → Without c ps → only c ps ≡ []
only_none c [] none = refl
only_none c (p ∷ ps) none = rw none.0 (only_none c ps none.1)

own_out : (c d : ℕ) (i : Item) (t : List Entry) → (d == c) ≡ true → own_part c (Out d i ∷ t) ≡ Out d i ∷ own_part c t
own_out c d i t e = rw e refl

else_out : (c d : ℕ) (i : Item) (t : List Entry) → (d == c) ≡ false → own_part c (Out d i ∷ t) ≡ own_part c t
else_out c d i t e = rw e refl

pub own_goes : (c : ℕ) (ps : List Put) (t : List Entry) → own_part c (goes ps t) ≡ goes (only c ps) (own_part c t)
own_goes c [] t = refl
own_goes c (p ∷ ps) t =
    by_test (p.conn == c)
    (λ e. rw e (own_goes c ps (Out p.conn p.item ∷ t) ∙ ap (goes (only c ps)) (own_out c p.conn p.item t e)))
    (λ e. rw e (own_goes c ps (Out p.conn p.item ∷ t) ∙ ap (goes (only c ps)) (else_out c p.conn p.item t e)))

only_both : (c : ℕ) (ps qs : List Put) → only c (ps ++ qs) ≡ only c ps ++ only c qs
only_both c [] qs = refl
only_both c (p ∷ ps) qs = by_test (p.conn == c) (λ e. rw e (ap (λ (rs : List Put). p ∷ rs) (only_both c ps qs))) (λ e. rw e (only_both c ps qs))

-- items for one connection alone

pub each_all : (is : List Item) (d c : ℕ) → (d == c) ≡ true → only c (each_to d is) ≡ each_to d is
each_all [] d c e = refl
each_all (i ∷ is) d c e = rw e (ap (λ (ps : List Put). record { conn = d; item = i } ∷ ps) (each_all is d c e))

pub each_none : (is : List Item) (d c : ℕ) → (d == c) ≡ false → only c (each_to d is) ≡ []
each_none [] d c e = refl
each_none (i ∷ is) d c e = rw e (each_none is d c e)

beat_all : (b : Bool) (d c : ℕ) → (d == c) ≡ true → only c (beat_if b d) ≡ beat_if b d
beat_all true d c e = rw e refl
beat_all false d c e = refl

beat_none : (b : Bool) (d c : ℕ) → (d == c) ≡ false → only c (beat_if b d) ≡ []
beat_none true d c e = rw e refl
beat_none false d c e = refl

due_all : (d o c : ℕ) (v : Option Session) → (d == c) ≡ true → only c (flow_due d o v) ≡ flow_due d o v
due_all d o c None e = refl
due_all d o c (Some h) e = by_test (is_narrow h) (λ f. rw f (rw e refl)) (λ f. rw f refl)

due_none : (d o c : ℕ) (v : Option Session) → (d == c) ≡ false → only c (flow_due d o v) ≡ []
due_none d o c None e = refl
due_none d o c (Some h) e = by_test (is_narrow h) (λ f. rw f (rw e refl)) (λ f. rw f refl)

below_all : (d c : ℕ) (known : ℕ → Option Session) → (d == c) ≡ true → (n : ℕ) → only c (flows_below d known n) ≡ flows_below d known n
unfolding flows_below
below_all d c known e zero = refl
below_all d c known e (suc n) =
    only_both c (flows_below d known n) (flow_due d n (known n)) ∙ (λ j. below_all d c known e n j ++ due_all d n c (known n) e j)

below_none : (d c : ℕ) (known : ℕ → Option Session) → (d == c) ≡ false → (n : ℕ) → only c (flows_below d known n) ≡ []
unfolding flows_below
below_none d c known e zero = refl
below_none d c known e (suc n) =
    only_both c (flows_below d known n) (flow_due d n (known n)) ∙ (λ j. below_none d c known e n j ++ due_none d n c (known n) e j)

-- items for several connections, each of which occurs once
abbrev over : (ℕ → List Put) → List ℕ → List Put
over f [] = []
over f (d ∷ ds) = f d ++ over f ds

only_over : (f : ℕ → List Put) (c : ℕ) → ((d : ℕ) → (d == c) ≡ true → only c (f d) ≡ f d) → ((d : ℕ) → (d == c) ≡ false → only c (f d) ≡ [])
    → (ds : List ℕ) → NoTwice ds → only c (over f ds) ≡ (if has c ds then f c else [])
only_over f c all none [] once = refl
only_over f c all none (d ∷ ds) once =
    by_test (d == c)
    (λ e. let absent : has c ds ≡ false = subst (λ (n : ℕ). has n ds ≡ false) (eqb-true d c e) once.0
    in let gone : (if has c ds then f c else []) ≡ [] = rw absent refl
    in let rest : only c (over f ds) ≡ [] = only_over f c all none ds once.1 ∙ gone
    in rw e (only_both c (f d) (over f ds) ∙ (λ j. all d e j ++ rest j) ∙ append-nil (f d) ∙ ap f (eqb-true d c e)))
    (λ e. let rest : only c (over f ds) ≡ (if has c ds then f c else []) = only_over f c all none ds once.1
    in rw e (only_both c (f d) (over f ds) ∙ (λ j. none d e j ++ rest j)))

windows_are : (t : List Entry) (cs : List ℕ) → windows_over t cs ≡ over (λ d. flows_below d (session t d) 15) cs
windows_are t [] = refl
windows_are t (c ∷ cs) = ap (λ (ps : List Put). flows_below c (session t c) 15 ++ ps) (windows_are t cs)

beats_are : (t : List Entry) (now : ℕ) (cs : List ℕ) → beats_over t now cs ≡ over (λ d. beat_if (needs_beat (terms t d) (written t d) now) d) cs
beats_are t now [] = refl
beats_are t now (c ∷ cs) = ap (λ (ps : List Put). beat_if (needs_beat (terms t c) (written t c) now) c ++ ps) (beats_are t now cs)

-- those that are live
has_live : (there : ℕ → Option Connection) (ks : List ℕ) (c : ℕ) → (is_live (there c) ≡ true → has c ks ≡ true) → has c (live_of ks there) ≡ is_live (there c)
has_live there ks c came =
    by_test (is_live (there c))
    (λ e. has_filter (λ k. is_live (there k)) c ks e (came e) ∙ sym e)
    (λ e. by_test (has c (live_of ks there)) (λ h. absurd (true≢false (sym (filter_has (λ k. is_live (there k)) c ks h).0 ∙ e))) (λ h. h ∙ sym e))

pub lives_known : (t : List Entry) (c : ℕ) → is_live (conn t c) ≡ true → has c (ups t) ≡ true
lives_known t c h = let v = live_some (conn t c) h in known t c (some_is (conn t c) v.0 v.1)

pub only_windows : (t : List Entry) (c : ℕ) → NoTwice (ups t) → only c (windows t) ≡ (if is_live (conn t c) then flows_below c (session t c) 15 else [])
only_windows t c once =
    ap (only c) (windows_are t (live t))
    ∙ only_over (λ d. flows_below d (session t d) 15) c (λ d e. below_all d c (session t d) e 15) (λ d e. below_none d c (session t d) e 15) (live t)
    (no_twice_filter (λ k. is_live (conn t k)) (ups t) once)
    ∙ ap (λ (b : Bool). if b then flows_below c (session t c) 15 else []) (has_live (conn t) (ups t) c (lives_known t c))

pub only_beats : (t : List Entry) (there : ℕ → Option Connection) (now c : ℕ) → NoTwice (ups t) → (is_live (there c) ≡ true → has c (ups t) ≡ true)
    → only c (beats_over t now (live_of (ups t) there)) ≡ (if is_live (there c) then beat_if (needs_beat (terms t c) (written t c) now) c else [])
only_beats t there now c once came =
    ap (only c) (beats_are t now (live_of (ups t) there))
    ∙ only_over (λ d. beat_if (needs_beat (terms t d) (written t d) now) d) c (λ d e. beat_all _ d c e) (λ d e. beat_none _ d c e) (live_of (ups t) there)
    (no_twice_filter (λ k. is_live (there k)) (ups t) once)
    ∙ ap (λ (b : Bool). if b then beat_if (needs_beat (terms t c) (written t c) now) c else []) (has_live there (ups t) c came)

-- the closes of others
pub own_ends : (id : List ℕ) (cs : List ℕ) (t : List Entry) (c : ℕ) → has c cs ≡ false → own_part c (ends id cs t) ≡ own_part c t
own_ends id [] t c absent = refl
own_ends id (d ∷ ds) t c absent =
    let both = neither (nat_eq d c) (has c ds) absent
    in let items : List Item = closing_of id (conn t d) ResourceLimitExceeded
    in own_ends id ds (puts d items t) c both.1 ∙ own_goes c (each_to d items) t ∙ ap (λ (ps : List Put). goes ps (own_part c t)) (each_none items d c both.0)

pub eased_ends : (id : List ℕ) (cs : List ℕ) (t : List Entry) (c : ℕ) → Eased c t → Eased c (ends id cs t)
eased_ends id [] t c eased = eased
eased_ends id (d ∷ ds) t c eased =
    let items : List Item = closing_of id (conn t d) ResourceLimitExceeded
    in eased_ends id ds (puts d items t) c (eased_goes c (each_to d items) t eased)
