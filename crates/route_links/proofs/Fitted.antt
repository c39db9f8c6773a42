-- The tables of a link's ids follow what happens.
use Rattle.std.proofs.Common.{◌≡◌, ◌∙◌, ℕ, Bool, true, false, refl, sym, ap, subst, ◌+◌, ◌-◌, [], ◌∷◌, List, Option, Some, None, if◌then◌else◌, Result, Ok, Err, OnErr, arith}
use Rattle.std.specs.Prelude.{◌==◌, option_map, option_and_then}
use Rattle.std.specs.List.{filter_map, cons_option}
use Rattle.std.specs.Ordering.{nat_cmp}
use Rattle.std.specs.BTreeMap.{get}
use Rattle.std.proofs.lemmas.Bool.{eqb-true, eqb-false}
use Rattle.route_links.specs.declared.ids.Ids.{Ids}
use Rattle.route_links.specs.declared.ids.Known.{Known}
use Rattle.route_links.specs.Naming.{Came, CameSettled, Went, Settled, Held, Told, Leaves, Ended, History, started, gone, came_under, going_under, one_more, unless_over, when_settled, one_less, known, unless, claimed, leaves, number_in, if_unsettled, released, number_out, open_in, open_out}
use Rattle.route_links.specs.Named.{IdsFit, ids_of}
use Rattle.route_links.proofs.Kept.{by_test, not_come, named_in, named_out, is_open}

-- what two steps make of a delivery, if they make the same of this one
at_key : (m q : ℕ) (F G : Option Known → Option Known) (x : Option Known) → (m ≡ q → F x ≡ G x) → (if m == q then F x else x) ≡ (if m == q then G x else x)
at_key m q F G x same = by_test (m == q) (λ e. rw e (same (eqb-true m q e))) (λ e. rw e refl)

at_known : (h : History) (m q : ℕ) (F G : Option Known → Option Known) (x : Option Known) → known h m ≡ x → F x ≡ G x
    → (if m == q then F (known h q) else known h q) ≡ (if m == q then G (known h q) else known h q)
at_known h m q F G x is same = at_key m q F G (known h q) (λ at. let e : known h q ≡ x = ap (known h) (sym at) ∙ is in ap F e ∙ same ∙ sym (ap G e))

-- what isn't this delivery stays
unless_same : (m : ℕ) (found : Option ℕ) → (found ≡ Some m → ⊥) → unless m found ≡ found
unless_same m None other = refl
unless_same m (Some n) other = by_test (m == n)
    (λ e. absurd (other (ap Some (sym (eqb-true m n e)))))
    (λ e. rw e refl)

-- nothing came
pub fits_new : (s : Ids) → s.started ≡ 0 → s.gone ≡ 0 → s.leaves ≡ false → ((q : ℕ) → get nat_cmp s.known q ≡ None)
    → ((q : ℕ) → get nat_cmp s.by_sender.deliveries q ≡ None) → ((q : ℕ) → get nat_cmp s.by_receiver.deliveries q ≡ None) → IdsFit s []
fits_new s a b c k i o = record { starts = a; goes = b; leaving = c; knows = k; senders = i; receivers = o }

-- nothing changed
pub fits_same : (s u : Ids) (h : History) → u.started ≡ s.started → u.gone ≡ s.gone → u.leaves ≡ s.leaves → ((q : ℕ) → get nat_cmp u.known q ≡ get nat_cmp s.known q)
    → ((q : ℕ) → get nat_cmp u.by_sender.deliveries q ≡ get nat_cmp s.by_sender.deliveries q)
    → ((q : ℕ) → get nat_cmp u.by_receiver.deliveries q ≡ get nat_cmp s.by_receiver.deliveries q) → IdsFit s h → IdsFit u h
fits_same s u h a b c k i o fit = record {
  starts = a ∙ fit.starts;
  goes = b ∙ fit.goes;
  leaving = c ∙ fit.leaving;
  knows = λ n. k n ∙ fit.knows n;
  senders = λ q. i q ∙ fit.senders q;
  receivers = λ q. o q ∙ fit.receivers q;
}

-- a delivery came, or couldn't be noted
pub fits_came : (s u : Ids) (h : History) (id : ℕ) → u.started ≡ s.started + 1 → u.gone ≡ s.gone → u.leaves ≡ s.leaves
    → ((q : ℕ) → get nat_cmp u.known q ≡ (if s.started == q then Some (came_under id) else get nat_cmp s.known q))
    → ((q : ℕ) → get nat_cmp u.by_sender.deliveries q ≡ (if id == q then Some s.started else get nat_cmp s.by_sender.deliveries q))
    → ((q : ℕ) → get nat_cmp u.by_receiver.deliveries q ≡ get nat_cmp s.by_receiver.deliveries q) → IdsFit s h → IdsFit u (Came id ∷ h)
fits_came s u h id a b c k i o fit = record {
  starts = a ∙ ap (λ x. x + 1) fit.starts;
  goes = b ∙ fit.goes;
  leaving = c ∙ fit.leaving;
  knows = λ n. k n ∙ ap (λ x. if x == n then Some (came_under id) else get nat_cmp s.known n) fit.starts ∙ ap (λ x. if started h == n then Some (came_under id) else x) (fit.knows n);
  senders = λ q. i q ∙ ap (λ x. if id == q then Some x else get nat_cmp s.by_sender.deliveries q) fit.starts ∙ ap (λ x. if id == q then Some (started h) else x) (fit.senders q);
  receivers = λ q. o q ∙ fit.receivers q;
}

pub none_yet : (s : Ids) (h : History) → IdsFit s h → get nat_cmp s.known s.started ≡ None
none_yet s h fit = ap (get nat_cmp s.known) fit.starts ∙ fit.knows (started h) ∙ not_come h (started h) (omega arith)

pub fits_not_come : (s u : Ids) (h : History) → u.started ≡ s.started → u.gone ≡ s.gone → u.leaves ≡ s.leaves
    → (get nat_cmp s.known s.started ≡ None → (q : ℕ) → get nat_cmp u.known q ≡ get nat_cmp s.known q)
    → ((q : ℕ) → get nat_cmp u.by_sender.deliveries q ≡ get nat_cmp s.by_sender.deliveries q)
    → ((q : ℕ) → get nat_cmp u.by_receiver.deliveries q ≡ get nat_cmp s.by_receiver.deliveries q) → IdsFit s h → IdsFit u h
fits_not_come s u h a b c k i o fit = fits_same s u h a b c (k (none_yet s h fit)) i o fit

pub fits_came_settled : (s u : Ids) (h : History) → u.started ≡ s.started + 1 → u.gone ≡ s.gone → u.leaves ≡ s.leaves → u.known ≡ s.known → u.by_sender ≡ s.by_sender
    → u.by_receiver ≡ s.by_receiver → IdsFit s h → IdsFit u (CameSettled ∷ h)
fits_came_settled s u h a b c k i o fit = record {
  starts = a ∙ ap (λ x. x + 1) fit.starts;
  goes = b ∙ fit.goes;
  leaving = c ∙ fit.leaving;
  knows = λ n. ap (λ m. get nat_cmp m n) k ∙ fit.knows n;
  senders = λ q. ap (λ m. get nat_cmp m.deliveries q) i ∙ fit.senders q;
  receivers = λ q. ap (λ m. get nat_cmp m.deliveries q) o ∙ fit.receivers q;
}

-- one goes
pub fits_went : (s u : Ids) (h : History) (id : ℕ) → u.started ≡ s.started → u.gone ≡ s.gone + 1 → u.leaves ≡ s.leaves
    → ((q : ℕ) → get nat_cmp u.known q ≡ (if s.gone == q then option_map (going_under id) (get nat_cmp s.known q) else get nat_cmp s.known q))
    → ((q : ℕ) → get nat_cmp u.by_sender.deliveries q ≡ get nat_cmp s.by_sender.deliveries q)
    → ((q : ℕ) → get nat_cmp u.by_receiver.deliveries q ≡ (if id == q then if_unsettled s.gone (get nat_cmp s.known s.gone) else get nat_cmp s.by_receiver.deliveries q))
    → IdsFit s h → IdsFit u (Went id ∷ h)
fits_went s u h id a b c k i o fit = record {
  starts = a ∙ fit.starts;
  goes = b ∙ ap (λ x. x + 1) fit.goes;
  leaving = c ∙ fit.leaving;
  knows = λ n. k n ∙ ap (λ x. if x == n then option_map (going_under id) (get nat_cmp s.known n) else get nat_cmp s.known n) fit.goes
      ∙ ap (λ x. if gone h == n then option_map (going_under id) x else x) (fit.knows n);
  senders = λ q. i q ∙ fit.senders q;
  receivers = λ q. o q ∙ ap (λ x. if id == q then if_unsettled x (get nat_cmp s.known x) else get nat_cmp s.by_receiver.deliveries q) fit.goes
      ∙ ap (λ x. if id == q then if_unsettled (gone h) x else get nat_cmp s.by_receiver.deliveries q) (fit.knows (gone h))
      ∙ ap (λ x. if id == q then if_unsettled (gone h) (known h (gone h)) else x) (fit.receivers q);
}

-- one of which nothing is known is settled, or told
none_settled : (h : History) (m q : ℕ) (f : Known → Option Known) → known h m ≡ None → known h q ≡ (if m == q then option_and_then f (known h q) else known h q)
none_settled h m q f none = sym (same (m == q)) ∙ at_known h m q (λ x. x) (option_and_then f) None none refl
  where
    same : (b : Bool) → (if b then known h q else known h q) ≡ known h q
    same true = refl
    same false = refl

nothing_open : (F : Option Known → Option ℕ) (x : Option Known) (i : ℕ) → x ≡ None → F None ≡ None → F x ≡ Some i → ⊥
nothing_open F x i none empty is = not_some (sym empty ∙ sym (ap F none) ∙ is)
  where
    not_some : None ≡ Some i → ⊥
    not_some h = absurd (cc)

pub fits_unknown_settled : (s : Ids) (h : History) (m : ℕ) → get nat_cmp s.known m ≡ None → IdsFit s h → IdsFit s (Settled m ∷ h)
fits_unknown_settled s h m none fit =
    let unknown : known h m ≡ None = sym (fit.knows m) ∙ none in
    record {
      starts = fit.starts;
      goes = fit.goes;
      leaving = fit.leaving;
      knows = λ n. fit.knows n ∙ none_settled h m n when_settled unknown;
      senders = λ i. fit.senders i ∙ sym (unless_same m (claimed h i) (λ e. nothing_open open_in (known h m) i unknown refl (named_in h i m e)));
      receivers = λ o. fit.receivers o ∙ sym (unless_same m (number_out h o) (λ e. nothing_open open_out (known h m) o unknown refl (named_out h o m e)));
    }

pub fits_unknown_held : (s : Ids) (h : History) (m : ℕ) → get nat_cmp s.known m ≡ None → IdsFit s h → IdsFit s (Held m ∷ h)
fits_unknown_held s h m none fit =
    let unknown : known h m ≡ None = sym (fit.knows m) ∙ none in
    record {
      starts = fit.starts;
      goes = fit.goes;
      leaving = fit.leaving;
      knows = λ n. fit.knows n ∙ sym (same n (m == n)) ∙ at_known h m n (λ x. x) (option_map one_more) None unknown refl;
      senders = fit.senders;
      receivers = fit.receivers;
    }
  where
    same : (n : ℕ) (b : Bool) → (if b then known h n else known h n) ≡ known h n
    same n true = refl
    same n false = refl

pub fits_unknown_told : (s : Ids) (h : History) (m : ℕ) → get nat_cmp s.known m ≡ None → IdsFit s h → IdsFit s (Told m ∷ h)
fits_unknown_told s h m none fit = record {
  starts = fit.starts;
  goes = fit.goes;
  leaving = fit.leaving;
  knows = λ n. fit.knows n ∙ none_settled h m n one_less (sym (fit.knows m) ∙ none);
  senders = fit.senders;
  receivers = fit.receivers;
}

-- an id that names a delivery is that delivery's
id_in_is : (h : History) (m i : ℕ) (k : Known) → known h m ≡ Some k → claimed h i ≡ Some m → k.id_in ≡ i
id_in_is h m i k is e =
    let named : open_in (Some k) ≡ Some i = ap open_in (sym is) ∙ named_in h i m e in
    same (ap (λ b. if b then Some k.id_in else None) (sym (is_open k.is_unsettled (Some k.id_in) i named)) ∙ named)
  where
    same : Some k.id_in ≡ Some i → k.id_in ≡ i
    same h = cc

id_out_is : (h : History) (m o : ℕ) (k : Known) → known h m ≡ Some k → number_out h o ≡ Some m → k.id_out ≡ Some o
id_out_is h m o k is e =
    let named : open_out (Some k) ≡ Some o = ap open_out (sym is) ∙ named_out h o m e in
    ap (λ b. if b then k.id_out else None) (sym (is_open k.is_unsettled k.id_out o named)) ∙ named

-- the ids of a delivery that is settled name it no longer
released_in : (id m q : ℕ) (found : Option ℕ) → (found ≡ Some m → id ≡ q) → (if id == q then unless m found else found) ≡ unless m found
released_in id m q found only = by_test (id == q)
    (λ e. rw e refl)
    (λ e. rw e (sym (unless_same m found (λ f. eqb-false id q e (only f)))))

released_out : (id : Option ℕ) (m q : ℕ) (found : Option ℕ) → (found ≡ Some m → id ≡ Some q) → released id m q found ≡ unless m found
released_out None m q found only = sym (unless_same m found (λ f. not_some (only f)))
  where
    not_some : None ≡ Some q → ⊥
    not_some h = absurd (cc)
released_out (Some id) m q found only = released_in id m q found (λ f. same (only f))
  where
    same : Some id ≡ Some q → id ≡ q
    same h = cc

pub fits_settled : (s u : Ids) (h : History) (m : ℕ) (k : Known) → get nat_cmp s.known m ≡ Some k → u.started ≡ s.started → u.gone ≡ s.gone → u.leaves ≡ s.leaves
    → ((q : ℕ) → get nat_cmp u.known q ≡ (if m == q then option_and_then (λ _. when_settled k) (get nat_cmp s.known q) else get nat_cmp s.known q))
    → ((q : ℕ) → get nat_cmp u.by_sender.deliveries q ≡ (if k.id_in == q then unless m (get nat_cmp s.by_sender.deliveries q) else get nat_cmp s.by_sender.deliveries q))
    → ((q : ℕ) → get nat_cmp u.by_receiver.deliveries q ≡ released k.id_out m q (get nat_cmp s.by_receiver.deliveries q))
    → IdsFit s h → IdsFit u (Settled m ∷ h)
fits_settled s u h m k found a b c there i o fit =
    let is : known h m ≡ Some k = sym (fit.knows m) ∙ found in
    record {
      starts = a ∙ fit.starts;
      goes = b ∙ fit.goes;
      leaving = c ∙ fit.leaving;
      knows = λ n. there n ∙ ap (λ x. if m == n then option_and_then (λ _. when_settled k) x else x) (fit.knows n)
          ∙ at_known h m n (option_and_then (λ _. when_settled k)) (option_and_then when_settled) (Some k) is refl;
      senders = λ q. i q ∙ ap (λ x. if k.id_in == q then unless m x else x) (fit.senders q) ∙ released_in k.id_in m q (claimed h q) (id_in_is h m q k is);
      receivers = λ q. o q ∙ ap (released k.id_out m q) (fit.receivers q) ∙ released_out k.id_out m q (number_out h q) (id_out_is h m q k is);
    }

-- a disposition is held, and goes out
pub fits_held : (s u : Ids) (h : History) (m : ℕ) (k : Known) → get nat_cmp s.known m ≡ Some k → u.started ≡ s.started → u.gone ≡ s.gone → u.leaves ≡ s.leaves
    → ((q : ℕ) → get nat_cmp u.known q ≡ (if m == q then option_map (λ _. one_more k) (get nat_cmp s.known q) else get nat_cmp s.known q))
    → ((q : ℕ) → get nat_cmp u.by_sender.deliveries q ≡ get nat_cmp s.by_sender.deliveries q)
    → ((q : ℕ) → get nat_cmp u.by_receiver.deliveries q ≡ get nat_cmp s.by_receiver.deliveries q)
    → IdsFit s h → IdsFit u (Held m ∷ h)
fits_held s u h m k found a b c there i o fit = record {
  starts = a ∙ fit.starts;
  goes = b ∙ fit.goes;
  leaving = c ∙ fit.leaving;
  knows = λ n. there n ∙ ap (λ x. if m == n then option_map (λ _. one_more k) x else x) (fit.knows n)
      ∙ at_known h m n (option_map (λ _. one_more k)) (option_map one_more) (Some k) (sym (fit.knows m) ∙ found) refl;
  senders = λ q. i q ∙ fit.senders q;
  receivers = λ q. o q ∙ fit.receivers q;
}

pub fits_told : (s u : Ids) (h : History) (m : ℕ) (k : Known) → get nat_cmp s.known m ≡ Some k → u.started ≡ s.started → u.gone ≡ s.gone → u.leaves ≡ s.leaves
    → ((q : ℕ) → get nat_cmp u.known q ≡ (if m == q then option_and_then (λ _. one_less k) (get nat_cmp s.known q) else get nat_cmp s.known q))
    → ((q : ℕ) → get nat_cmp u.by_sender.deliveries q ≡ get nat_cmp s.by_sender.deliveries q)
    → ((q : ℕ) → get nat_cmp u.by_receiver.deliveries q ≡ get nat_cmp s.by_receiver.deliveries q)
    → IdsFit s h → IdsFit u (Told m ∷ h)
fits_told s u h m k found a b c there i o fit = record {
  starts = a ∙ fit.starts;
  goes = b ∙ fit.goes;
  leaving = c ∙ fit.leaving;
  knows = λ n. there n ∙ ap (λ x. if m == n then option_and_then (λ _. one_less k) x else x) (fit.knows n)
      ∙ at_known h m n (option_and_then (λ _. one_less k)) (option_and_then one_less) (Some k) (sym (fit.knows m) ∙ found) refl;
  senders = λ q. i q ∙ fit.senders q;
  receivers = λ q. o q ∙ fit.receivers q;
}

-- the deliveries that a disposition names
alike : (f g : ℕ → Option ℕ) (xs : List ℕ) → ((i : ℕ) → f i ≡ g i) → filter_map f xs ≡ filter_map g xs
alike f g [] same = refl
alike f g (x ∷ xs) same = ap (λ found. cons_option found (filter_map f xs)) (same x) ∙ ap (cons_option (g x)) (alike f g xs same)

none_of : (f : ℕ → Option ℕ) (xs : List ℕ) → ((i : ℕ) → f i ≡ None) → filter_map f xs ≡ []
none_of f [] none = refl
none_of f (x ∷ xs) none = ap (λ found. cons_option found (filter_map f xs)) (none x) ∙ none_of f xs none

pub listed_in : (s : Ids) (h : History) (xs found : List ℕ) → s.leaves ≡ false → found ≡ filter_map (get nat_cmp s.by_sender.deliveries) xs → IdsFit s h → found ≡ filter_map (number_in h) xs
listed_in s h xs found stays is fit =
    is ∙ alike (get nat_cmp s.by_sender.deliveries) (number_in h) xs (λ i. fit.senders i ∙ ap (λ b. if b then None else claimed h i) (sym stays ∙ fit.leaving))

pub none_listed : (s : Ids) (h : History) (xs found : List ℕ) → s.leaves ≡ true → found ≡ [] → IdsFit s h → found ≡ filter_map (number_in h) xs
none_listed s h xs found left is fit = is ∙ sym (none_of (number_in h) xs (λ i. ap (λ b. if b then None else claimed h i) (sym fit.leaving ∙ left)))

pub listed_out : (s : Ids) (h : History) (xs found : List ℕ) → found ≡ filter_map (get nat_cmp s.by_receiver.deliveries) xs → IdsFit s h → found ≡ filter_map (number_out h) xs
listed_out s h xs found is fit = is ∙ alike (get nat_cmp s.by_receiver.deliveries) (number_out h) xs fit.receivers

-- of a call that failed
pub on_err : {A E P : Type 0} (r : Result A E) → P → OnErr r P
on_err (Ok x) p = tt
on_err (Err e) p = p
