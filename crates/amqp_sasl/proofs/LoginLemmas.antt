-- Who logs in, by what was read of the message and what was found of its user.
use Rattle.std.proofs.Common.{◌≡◌, ℕ, Bool, true, false, List, [], ◌∷◌, length, refl, sym, ◌∙◌, ap, subst, ◌+◌, Option, Some, None, IfOk, MatchOption, Result, Ok, Err, ◌⊎◌, inl, inr, get_or, find, cond, codes, arith, add-one}
use Rattle.std.specs.Prelude.{◌≢◌, Contains, All}
use Rattle.std.specs.Str.{bytes_eq}
use Rattle.std.proofs.lemmas.List.{get_or_default}
use Rattle.std.proofs.lemmas.List.Elements.{All-nil, All-cons, All-contains}
use Rattle.std.proofs.lemmas.Slice.Eq.{bytes_eq-Decides}
use Rattle.amqp_model.specs.declared.perf.SaslInit.{SaslInit}
use Rattle.amqp_sasl.specs.declared.mechanism.Mechanism.{Mechanism}
use Rattle.amqp_sasl.specs.declared.mechanism.Mechanism.TheVariants.{Anonymous, Plain}
use Rattle.amqp_sasl.specs.declared.user.User.{User}
use Rattle.amqp_sasl.specs.Names.{name_of}
use Rattle.amqp_sasl.specs.Users.{user_of, HasUser}
use Rattle.amqp_sasl.specs.Plain.{IsPlain}
use Rattle.amqp_sasl.specs.Login.{IsPlainLogin, LogsInPlain, LogsIn}
use Rattle.amqp_sasl.specs.Answer.{AnswersInit, outcome_of}
use Rattle.amqp_sasl.proofs.PlainLemmas.{one_reading}

-- a message that was read, where the user is to act as another
pub acts_as_another : (users : List User) (m f g w : List ℕ) → IsPlain m f g w → f ≢ [] → f ≢ g → (name : List ℕ) → IsPlainLogin users m name → ⊥
acts_as_another users m f g w said not_empty not_same name login =
    let same = one_reading m f g w said login.authorization name login.password login.read in
    elim login.as_itself as (λ _. ⊥) [
      | inl e ↦ not_empty (sym same.authorization ∙ e)
      | inr e ↦ not_same (sym same.authorization ∙ e ∙ same.authentication)
    ]

-- where no user has the password
pub of_no_user : (users : List User) (m f g w : List ℕ) → IsPlain m f g w → ((k : ℕ) → ¬ HasUser users g w k) → (name : List ℕ) → IsPlainLogin users m name → ⊥
of_no_user users m f g w said unknown name login =
    let same = one_reading m f g w said login.authorization name login.password login.read in
    let P : List ℕ → Type 0 = λ n. Contains users (user_of n w) in
    let Q : List ℕ → Type 0 = λ p. Contains users (user_of name p) in
    let known = subst P same.authentication (subst Q same.password login.known) in
    unknown known.0 (known.1, known.2)

-- where a user has it
pub of_user : (users : List User) (m f g w : List ℕ) (k : ℕ) (u : User) → IsPlain m f g w → (f ≡ []) ⊎ (f ≡ g) → HasUser users g w k → (name : List ℕ) → name ≡ (get_or users k u).name → IsPlainLogin users m name
of_user users m f g w k u said itself known name e =
    let at : get_or users k u ≡ user_of g w = get_or_default users k u (user_of g w) known.0 ∙ known.1 in
    let named : g ≡ name = sym (e ∙ ap (λ (x : User). x.name) at) in
    let P : List ℕ → Type 0 = λ n. IsPlainLogin users m n in
    subst P named (record { authorization = f; password = w; read = said; as_itself = itself; known = (k, known.0, known.1) })

-- the mechanism that a name chooses
pub record IsChosen (mechanisms : List Mechanism) (name : List ℕ) (m : Mechanism) : Type 0 where
  pub offered : Contains mechanisms m
  pub named : name ≡ name_of m

later_place : (x : Mechanism) (mechanisms : List Mechanism) (m : Mechanism) (k : ℕ) → get_or mechanisms k m ≡ m → get_or (x ∷ mechanisms) (k + 1) m ≡ m
later_place x mechanisms m k e = rw add-one e

pub chosen_later : (mechanisms : List Mechanism) (name : List ℕ) (m x : Mechanism) → IsChosen mechanisms name m → IsChosen (x ∷ mechanisms) name m
chosen_later mechanisms name m x h = record { offered = (h.offered.0 + 1, omega (arith, h.offered.1), later_place x mechanisms m h.offered.0 h.offered.2); named = h.named }

-- the first of the mechanisms that has the name
abbrev pub first_named : List Mechanism → List ℕ → Option Mechanism
first_named mechanisms name = find (λ m. bytes_eq (name_of m) name) mechanisms

named_here : (x : Mechanism) (mechanisms : List Mechanism) (name : List ℕ) (m : Mechanism) (t : Bool) → t ≡ bytes_eq (name_of x) name
    → (first_named mechanisms name ≡ Some m → IsChosen mechanisms name m) → cond t (Some x) (first_named mechanisms name) ≡ Some m → IsChosen (x ∷ mechanisms) name m
named_here x mechanisms name m true t later e =
    let same : x ≡ m = cc in
    let P : Mechanism → Type 0 = λ y. IsChosen (x ∷ mechanisms) name y in
    subst P same (record { offered = (0, omega arith, refl); named = sym ((bytes_eq-Decides (name_of x) name).0 (sym t)) })
named_here x mechanisms name m false t later e = chosen_later mechanisms name m x (later e)

pub is_chosen : (mechanisms : List Mechanism) (name : List ℕ) (m : Mechanism) → first_named mechanisms name ≡ Some m → IsChosen mechanisms name m
is_chosen [] name m e = absurd (cc)
is_chosen (x ∷ mechanisms) name m e = named_here x mechanisms name m (bytes_eq (name_of x) name) refl (is_chosen mechanisms name m) e

other_name : (x : Mechanism) (mechanisms : List Mechanism) (name : List ℕ) (t : Bool) → t ≡ bytes_eq (name_of x) name
    → (first_named mechanisms name ≡ None → All (λ m. name ≢ name_of m) mechanisms) → cond t (Some x) (first_named mechanisms name) ≡ None → All (λ m. name ≢ name_of m) (x ∷ mechanisms)
other_name x mechanisms name true t later e = absurd (cc)
other_name x mechanisms name false t later e =
    All-cons (λ m. name ≢ name_of m) x mechanisms
    (λ same. let yes = (bytes_eq-Decides (name_of x) name).1 (sym same) in cc) (later e)

pub none_named : (mechanisms : List Mechanism) (name : List ℕ) → first_named mechanisms name ≡ None → All (λ m. name ≢ name_of m) mechanisms
none_named [] name e = All-nil (λ m. name ≢ name_of m)
none_named (x ∷ mechanisms) name e = other_name x mechanisms name (bytes_eq (name_of x) name) refl (none_named mechanisms name) e

first_letters : codes "ANONYMOUS" ≡ codes "PLAIN" → ⊥
first_letters e = let lengths : length (codes "ANONYMOUS") ≡ length (codes "PLAIN") = ap (λ (xs : List ℕ). length xs) e in absurd (omega (arith, lengths))

pub names_differ : name_of Anonymous ≡ name_of Plain → ⊥
names_differ e = first_letters e

-- an init that chooses no mechanism, and one that chooses PLAIN, logs in nobody but by PLAIN
pub nobody : (users : List User) (mechanisms : List Mechanism) (init : SaslInit) → first_named mechanisms init.mechanism ≡ None
    → (name : List ℕ) → LogsIn (record { users = users; mechanisms = mechanisms }) init name → ⊥
nobody users mechanisms init e name login =
    let none = none_named mechanisms init.mechanism e in
    elim login as (λ _. ⊥) [
      | inl h ↦ All-contains (λ m. init.mechanism ≢ name_of m) mechanisms Anonymous none h.0.0 h.0.1
      | inr h ↦ All-contains (λ m. init.mechanism ≢ name_of m) mechanisms Plain none h.0.0 h.0.1
    ]

pub by_anonymous : (users : List User) (mechanisms : List Mechanism) (init : SaslInit) → first_named mechanisms init.mechanism ≡ Some Anonymous
    → (name : List ℕ) → name ≡ codes "anonymous" → LogsIn (record { users = users; mechanisms = mechanisms }) init name
by_anonymous users mechanisms init e name same =
    let chosen = is_chosen mechanisms init.mechanism Anonymous e in inl ((chosen.offered, chosen.named), same)

pub by_plain : (users : List User) (mechanisms : List Mechanism) (init : SaslInit) → first_named mechanisms init.mechanism ≡ Some Plain
    → (name : List ℕ) → LogsInPlain users init.initial_response name → LogsIn (record { users = users; mechanisms = mechanisms }) init name
by_plain users mechanisms init e name login =
    let chosen = is_chosen mechanisms init.mechanism Plain e in inr ((chosen.offered, chosen.named), login)

pub not_by_plain : (users : List User) (mechanisms : List Mechanism) (init : SaslInit) → first_named mechanisms init.mechanism ≡ Some Plain
    → ((name : List ℕ) → LogsInPlain users init.initial_response name → ⊥) → (name : List ℕ) → LogsIn (record { users = users; mechanisms = mechanisms }) init name → ⊥
not_by_plain users mechanisms init e none name login =
    let chosen = is_chosen mechanisms init.mechanism Plain e in
    elim login as (λ _. ⊥) [
      | inl h ↦ names_differ (sym h.0.1 ∙ chosen.named)
      | inr h ↦ none name h.1
    ]

-- what a look-up by the name's text gave, at the init's own name
pub chosen_at : (mechanisms : List Mechanism) (r : Option Mechanism) (text name : List ℕ) (x m : Mechanism)
    → r ≡ first_named mechanisms text → text ≡ name → r ≡ Some x → x ≡ m → first_named mechanisms name ≡ Some m
chosen_at mechanisms r text name x m found same is named =
    sym (ap (λ (t : List ℕ). first_named mechanisms t) same) ∙ sym found ∙ is ∙ ap Some named

pub none_at : (mechanisms : List Mechanism) (r : Option Mechanism) (text name : List ℕ)
    → r ≡ first_named mechanisms text → text ≡ name → r ≡ None → first_named mechanisms name ≡ None
none_at mechanisms r text name found same is =
    sym (ap (λ (t : List ℕ). first_named mechanisms t) same) ∙ sym found ∙ is

pub nobody_in_plain : (users : List User) (response : Option (List ℕ)) → response ≡ None → (name : List ℕ) → LogsInPlain users response name → ⊥
nobody_in_plain users response none name login =
    let P : Option (List ℕ) → Type 0 = λ r. LogsInPlain users r name in subst P none login

-- what a message of PLAIN was judged to be is the answer to its init
pub judged_by_plain : (users : List User) (mechanisms : List Mechanism) (init : SaslInit) → first_named mechanisms init.mechanism ≡ Some Plain
    → (message text : List ℕ) → init.initial_response ≡ Some message → text ≡ message → (user : Option (List ℕ))
    → MatchOption user ((name : List ℕ) → ¬ IsPlainLogin users text name) (λ name. IsPlainLogin users text name)
    → AnswersInit (record { users = users; mechanisms = mechanisms }) init (outcome_of user)
judged_by_plain users mechanisms init e message text is same (Some name) login =
    let P : Option (List ℕ) → Type 0 = λ r. LogsInPlain users r name in
    by_plain users mechanisms init e name (subst P (ap Some same ∙ sym is) login)
judged_by_plain users mechanisms init e message text is same None none =
    not_by_plain users mechanisms init e (λ name login.
    let P : Option (List ℕ) → Type 0 = λ r. LogsInPlain users r name in none name (subst P (is ∙ ap Some (sym same)) login))

pub answered_by_plain : {X : Type 0} (users : List User) (mechanisms : List Mechanism) (init : SaslInit) → first_named mechanisms init.mechanism ≡ Some Plain
    → (message text : List ℕ) → init.initial_response ≡ Some message → text ≡ message → (r : Result (Option (List ℕ)) X)
    → IfOk r (λ user. MatchOption user ((name : List ℕ) → ¬ IsPlainLogin users text name) (λ name. IsPlainLogin users text name))
    → IfOk r (λ user. AnswersInit (record { users = users; mechanisms = mechanisms }) init (outcome_of user))
answered_by_plain users mechanisms init e message text is same (Ok user) h = judged_by_plain users mechanisms init e message text is same user h
answered_by_plain users mechanisms init e message text is same (Err f) h = tt
