-- Bytes in two pieces have the same effect as in one.
use Rattle.std.proofs.Common.{◌≡◌, ◌∙◌, sym, ap, refl, subst, ℕ, Bool, true, false, List, [], ◌∷◌, ◌++◌, append_assoc, append-nil}
use Rattle.std.specs.Prelude.{◌==◌, Option, Some, None, option_map, if◌then◌else◌}
use Rattle.std.proofs.lemmas.Bool.{eqb-true}
use Rattle.amqp_model.specs.declared.item.Item.{Item}
use Rattle.amqp_frames.specs.Cuts.{Cuts}
use Rattle.amqp_frames.specs.Frames.{front, more}
use Rattle.amqp_frames.proofs.Streams.{HasCut, has_cut, one_cut, cuts_append}
use Rattle.router_trace.specs.declared.event.ConnectionId.{ConnectionId}
use Rattle.router_trace.specs.declared.event.Event.{Event}
use Rattle.router_trace.specs.declared.event.Event.TheVariants as event
use Rattle.router_trace.specs.Trace.{step_of}
use Rattle.core_door.specs.declared.door.Door.{Door as DoorState}
use Rattle.core_door.specs.Door.{Verdict, says, passes, ends, door, door_after}
use Rattle.theorems.proofs.Takes.{plain_handled}
use Rattle.state_connections.proofs.Lists.{by_test}
use Rattle.core_player.proofs.Streams.{wrong_more, further}
use Rattle.router_play.proofs.Levels.{same}
use Rattle.theorems.proofs.Courses.{Spot, Course, with_spot, on_trace, flowing, with_stream, plain_refuses, tell, judge, come_at, come_by, come, come_all, kept, stream_at, take_in, bytes_by, bytes_come, spots_same}

-- The stream of a connection doesn't affect its items.

stream_tell : (c : ℕ) (st : Option (List ℕ)) (e : Event) (p : Course) → with_stream c st (tell e p) ≡ tell e (with_stream c st p)
stream_tell c st e p = pick (plain_refuses p.trace e)
  where
    pick : (b : Bool)
        → with_stream c st (if b then p else on_trace (plain_handled p.id p.trace (step_of e)) p)
        ≡ (if b then with_stream c st p else on_trace (plain_handled p.id p.trace (step_of e)) (with_stream c st p))
    pick true = refl
    pick false = refl

stream_spot : (c : ℕ) (st : Option (List ℕ)) (k : Option Spot) (p : Course) → with_stream c st (with_spot c k p) ≡ with_spot c (option_map (flowing st) k) (with_stream c st p)
stream_spot c st k p =
    spots_same p (with_stream c st (with_spot c k p)).spots (with_spot c (option_map (flowing st) k) (with_stream c st p)).spots
    (λ n. by_test (c == n) (λ e. rw e refl) (λ e. rw e refl))

stream_judge : (c : ConnectionId) (st : Option (List ℕ)) (i : Item) (k : Spot) (d : DoorState) (p : Course) (v : Verdict)
    → with_stream c.0 st (judge c i k d p v) ≡ judge c i (flowing st k) d (with_stream c.0 st p) v
stream_judge c st i k d p (says items) = stream_spot c.0 st (Some (record { door = Some (door_after d i); stream = k.stream })) p
stream_judge c st i k d p (passes user) =
    let inside : Course = with_spot c.0 (Some (record { door = None; stream = k.stream })) p
    in let up : Event = event.Up c (record { user = user; role = d.role })
    in stream_tell c.0 st (event.Item c i) (tell up inside)
    ∙ ap (tell (event.Item c i)) (stream_tell c.0 st up inside ∙ ap (tell up) (stream_spot c.0 st (Some (record { door = None; stream = k.stream })) p))
stream_judge c st i k d p (ends items) = stream_spot c.0 st None p

stream_come_by : (c : ConnectionId) (st : Option (List ℕ)) (i : Item) (p : Course) (o : Option Spot)
    → with_stream c.0 st (come_by c i p o) ≡ come_by c i (with_stream c.0 st p) (option_map (flowing st) o)
stream_come_by c st i p None = refl
stream_come_by c st i p (Some k) = by_door k.door
  where
    by_door : (d : Option DoorState) → with_stream c.0 st (come_at c i k p d) ≡ come_at c i (flowing st k) (with_stream c.0 st p) d
    by_door None = stream_tell c.0 st (event.Item c i) p
    by_door (Some d) = stream_judge c st i k d p (door d i)

here_spot : (c : ℕ) (st : Option (List ℕ)) (p : Course) → (with_stream c st p).spots c ≡ option_map (flowing st) (p.spots c)
here_spot c st p = let here : (c == c) ≡ true = same c in rw here refl

stream_come : (c : ConnectionId) (st : Option (List ℕ)) (i : Item) (p : Course) → with_stream c.0 st (come c i p) ≡ come c i (with_stream c.0 st p)
stream_come c st i p = stream_come_by c st i p (p.spots c.0) ∙ ap (λ (o : Option Spot). come_by c i (with_stream c.0 st p) o) (sym (here_spot c.0 st p))

stream_all : (c : ConnectionId) (st : Option (List ℕ)) (is : List Item) (p : Course) → with_stream c.0 st (come_all c is p) ≡ come_all c is (with_stream c.0 st p)
stream_all c st [] p = refl
stream_all c st (i ∷ is) p = stream_all c st is (come c i p) ∙ ap (come_all c is) (stream_come c st i p)

-- the last change of a stream counts
stream_twice : (c : ℕ) (st su : Option (List ℕ)) (p : Course) → with_stream c st (with_stream c su p) ≡ with_stream c st p
stream_twice c st su p =
    spots_same p (with_stream c st (with_stream c su p)).spots (with_stream c st p).spots (λ n. by_test (c == n) (λ e. rw e (twice (p.spots n))) (λ e. rw e refl))
  where
    twice : (o : Option Spot) → option_map (flowing st) (option_map (flowing su) o) ≡ option_map (flowing st) o
    twice None = refl
    twice (Some k) = refl

-- a stream that is unchanged
stream_stays : (c : ℕ) (st : Option (List ℕ)) (p : Course) → option_map (flowing st) (p.spots c) ≡ p.spots c → with_stream c st p ≡ p
stream_stays c st p h =
    spots_same p (with_stream c st p).spots p.spots
    (λ n. by_test (c == n) (λ e. rw e (subst (λ (m : ℕ). option_map (flowing st) (p.spots m) ≡ p.spots m) (eqb-true c n e) h)) (λ e. rw e refl))

-- Items one after another.

come_more : (c : ConnectionId) (xs ys : List Item) (p : Course) → come_all c (xs ++ ys) p ≡ come_all c ys (come_all c xs p)
come_more c [] ys p = refl
come_more c (x ∷ xs) ys p = come_more c xs ys (come c x p)

-- the items of a closed connection are dropped
closed_come : (c : ConnectionId) (is : List Item) (p : Course) → p.spots c.0 ≡ None → come_all c is p ≡ p
closed_come c [] p none = refl
closed_come c (i ∷ is) p none =
    let here : come c i p ≡ p = ap (come_by c i p) none
    in ap (come_all c is) here ∙ closed_come c is p none

-- Bytes have the effect of the cut of their stream.

pub read_as : (c : ConnectionId) (bytes r : List ℕ) (p : Course) (ended : Bool) (items : List Item) (rest : List ℕ) → Cuts ended (r ++ bytes) items rest
    → bytes_by c bytes p (Some r) ≡ take_in c ended items rest p
read_as c bytes r p ended items rest cut =
    let k : HasCut (r ++ bytes) = has_cut (r ++ bytes)
    in let one = one_cut k.0 ended (r ++ bytes) k.1 items k.2 rest k.3 cut
    in λ j. take_in c (one.0 j) (one.1 j) (one.2 j) p

-- two pieces of a stream

pieces_on : (c : ConnectionId) (a b r : List ℕ) (p : Course) (e : Bool) (xs : List Item) (mid : List ℕ) → Cuts e (r ++ a) xs mid
    → bytes_by c (a ++ b) p (Some r) ≡ bytes_come c b (take_in c e xs mid p)
pieces_on c a b r p e xs mid cut =
    let q : Course = come_all c xs p
    in let after : take_in c e xs mid p ≡ with_stream c.0 (kept e mid) q = sym (stream_all c (kept e mid) xs p)
    in by_spot (q.spots c.0) refl
  where
    whole : (f : Bool) (zs : List Item) (rest : List ℕ) → Cuts f ((r ++ a) ++ b) zs rest → bytes_by c (a ++ b) p (Some r) ≡ take_in c f zs rest p
    whole f zs rest k = read_as c (a ++ b) r p f zs rest (subst (λ (bs : List ℕ). Cuts f bs zs rest) (append_assoc r a b) k)

    at_spot : (o : Option Spot) → (come_all c xs p).spots c.0 ≡ o → stream_at ((take_in c e xs mid p).spots c.0) ≡ stream_at (option_map (flowing (kept e mid)) o)
    at_spot o is =
        ap (λ (w : Course). stream_at (w.spots c.0)) (sym (stream_all c (kept e mid) xs p))
        ∙ ap stream_at (here_spot c.0 (kept e mid) (come_all c xs p) ∙ ap (option_map (flowing (kept e mid))) is)

    by_end : (f : Bool) → e ≡ f → Cuts f (r ++ a) xs mid → stream_at ((take_in c e xs mid p).spots c.0) ≡ kept f mid → bytes_by c (a ++ b) p (Some r) ≡ bytes_come c b (take_in c e xs mid p)
    by_end true is k at =
        whole true xs (mid ++ b) (wrong_more (r ++ a) xs mid b k)
        ∙ ap (λ (f : Bool). come_all c xs (with_stream c.0 (kept f mid) p)) (sym is)
        ∙ sym (ap (bytes_by c b (take_in c e xs mid p)) at)
    by_end false is k at =
        let n : HasCut (mid ++ b) = has_cut (mid ++ b)
        in let st : Option (List ℕ) = kept n.0 n.2
        in let behind : take_in c e xs mid p ≡ with_stream c.0 (kept e mid) (come_all c xs p) = sym (stream_all c (kept e mid) xs p)
        in whole n.0 (xs ++ n.1) n.2 (cuts_append n.0 (r ++ a) xs mid b n.1 n.2 k.0 n.3)
        ∙ come_more c xs n.1 (with_stream c.0 st p)
        ∙ ap (come_all c n.1)
        (sym (stream_all c st xs p) ∙ sym (stream_twice c.0 st (kept e mid) (come_all c xs p)) ∙ ap (with_stream c.0 st) (sym behind))
        ∙ sym (ap (bytes_by c b (take_in c e xs mid p)) at)

    by_spot : (o : Option Spot) → (come_all c xs p).spots c.0 ≡ o → bytes_by c (a ++ b) p (Some r) ≡ bytes_come c b (take_in c e xs mid p)
    by_spot None is =
        let q : Course = come_all c xs p
        in let k = further e (r ++ a) xs mid b cut
        in let stays : (st : Option (List ℕ)) → with_stream c.0 st q ≡ q = λ st. stream_stays c.0 st q (ap (option_map (flowing st)) is ∙ sym is)
        in whole k.0 (xs ++ k.1) k.2 k.3
        ∙ come_more c xs k.1 (with_stream c.0 (kept k.0 k.2) p)
        ∙ ap (come_all c k.1) (sym (stream_all c (kept k.0 k.2) xs p) ∙ stays (kept k.0 k.2))
        ∙ closed_come c k.1 q is
        ∙ sym (stays (kept e mid))
        ∙ stream_all c (kept e mid) xs p
        ∙ sym (ap (bytes_by c b (take_in c e xs mid p)) (at_spot None is))
    by_spot (Some k) is = by_end e refl cut (at_spot (Some k) is)

pub two_pieces : (c : ConnectionId) (a b : List ℕ) (p : Course) → bytes_come c (a ++ b) p ≡ bytes_come c b (bytes_come c a p)
two_pieces c a b p = by_stream (stream_at (p.spots c.0)) refl
  where
    by_stream : (o : Option (List ℕ)) → stream_at (p.spots c.0) ≡ o → bytes_by c (a ++ b) p o ≡ bytes_come c b (bytes_by c a p o)
    by_stream None is = sym (ap (bytes_by c b p) is)
    by_stream (Some r) is = let k : HasCut (r ++ a) = has_cut (r ++ a) in pieces_on c a b r p k.0 k.1 k.2 k.3

-- no bytes at all

pub no_piece : (c : ConnectionId) (p : Course) → ((r : List ℕ) → stream_at (p.spots c.0) ≡ Some r → front r ≡ more) → bytes_come c [] p ≡ p
no_piece c p waits = by_stream (stream_at (p.spots c.0)) refl
  where
    stands : (o : Option Spot) (r : List ℕ) → stream_at o ≡ Some r → option_map (flowing (Some r)) o ≡ o
    stands None r is = refl
    stands (Some k) r is = λ j. Some (record { door = k.door; stream = sym is j })

    by_stream : (o : Option (List ℕ)) → stream_at (p.spots c.0) ≡ o → bytes_by c [] p o ≡ p
    by_stream None is = refl
    by_stream (Some r) is =
        read_as c [] r p false [] r (append-nil r, waits r is)
        ∙ stream_stays c.0 (Some r) p (stands (p.spots c.0) r is)
