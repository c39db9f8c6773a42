-- There is one answer by the standard, and it is the one that the function gives.
use Rattle.std.proofs.Common.{◌≡◌, ℕ, Bool, true, false, ◌&&◌, ◌||◌, nat_eq, List, [], ◌∷◌, ◌++◌, refl, sym, ◌∙◌, ap, subst, Option, Some, None, MatchOption, ◌⊎◌, inl, inr, cond, codes, arith, suc}
use Rattle.std.specs.Prelude.{◌≢◌, Contains, All}
use Rattle.std.specs.Str.{bytes_eq}
use Rattle.std.specs.List.{slice_split, onto_first, join_with_byte}
use Rattle.std.proofs.lemmas.Bool.Decides.{eqb_tells}
use Rattle.std.proofs.lemmas.Slice.Eq.{bytes_eq-Decides}
use Rattle.std.proofs.lemmas.List.Elements.{All-nil, All-cons, All-weaker, All-contains}
use Rattle.std.proofs.lemmas.List.Splits.{slice_split_none, slice_split_at, join_with_byte-slice_split}
use Rattle.amqp_model.specs.declared.perf.Perf.{Perf}
use Rattle.amqp_model.specs.declared.perf.Perf.TheVariants as perf
use Rattle.amqp_model.specs.declared.perf.SaslInit.{SaslInit}
use Rattle.amqp_sasl.specs.declared.mechanism.Mechanism.{Mechanism}
use Rattle.amqp_sasl.specs.declared.mechanism.Mechanism.TheVariants.{Anonymous, Plain}
use Rattle.amqp_sasl.specs.declared.user.User.{User}
use Rattle.amqp_sasl.specs.declared.code.SaslCode.TheVariants as code
use Rattle.amqp_sasl.specs.declared.server.SaslAnswer.{SaslAnswer}
use Rattle.amqp_sasl.specs.declared.server.SaslAnswer.TheVariants as answer
use Rattle.amqp_sasl.specs.Users.{user_of}
use Rattle.amqp_sasl.specs.Plain.{NoNul, IsPlain}
use Rattle.amqp_sasl.specs.Login.{Logins, IsPlainLogin, LogsInPlain, LogsIn}
use Rattle.amqp_sasl.specs.Answer.{Answers, AnswersInit, IsRefusal, outcome_of}
use Rattle.amqp_sasl.specs.Judging.{is_user, user_by_parts, user_by_message, user_by_mechanism, user_by_init, answer_to}
use Rattle.amqp_sasl.proofs.PlainLemmas.{one_reading}
use Rattle.amqp_sasl.proofs.LoginLemmas.{first_named, names_differ, nobody, by_anonymous, not_by_plain, nobody_in_plain, judged_by_plain}

-- no login is that of two users
one_plain : (users : List User) (m n k : List ℕ) → IsPlainLogin users m n → IsPlainLogin users m k → n ≡ k
one_plain users m n k h i = (one_reading m i.authorization k i.password i.read h.authorization n h.password h.read).authentication

one_by_response : (users : List User) (r : Option (List ℕ)) (n k : List ℕ) → LogsInPlain users r n → LogsInPlain users r k → n ≡ k
one_by_response users None n k h i = absurd h
one_by_response users (Some m) n k h i = one_plain users m n k h i

one_user : (server : Logins) (init : SaslInit) (n k : List ℕ) → LogsIn server init n → LogsIn server init k → n ≡ k
one_user server init n k (inl h) (inl i) = h.1 ∙ sym i.1
one_user server init n k (inl h) (inr i) = absurd (names_differ (sym h.0.1 ∙ i.0.1))
one_user server init n k (inr h) (inl i) = absurd (names_differ (sym i.0.1 ∙ h.0.1))
one_user server init n k (inr h) (inr i) = one_by_response server.users init.initial_response n k h.1 i.1

-- a message is cut at its NULs into three parts exactly where it is `authzid NUL authcid NUL passwd`
abbrev pub cut : List ℕ → List (List ℕ)
cut m = slice_split (λ b. nat_eq b 0) m

not_nul : (b : ℕ) → b ≢ 0 → nat_eq b 0 ≡ false
not_nul b h = elim (eqb_tells b 0) as (λ _. nat_eq b 0 ≡ false) [ inl e ↦ absurd (h e.1) | inr e ↦ e.0 ]

is_not_nul : (b : ℕ) → nat_eq b 0 ≡ false → b ≢ 0
is_not_nul b e h = elim (eqb_tells b 0) as (λ _. ⊥) [ inl f ↦ absurd (cc) | inr f ↦ f.1 h ]

passes_none : (xs : List ℕ) → NoNul xs → All (λ b. nat_eq b 0 ≡ false) xs
passes_none xs h = All-weaker (λ b. b ≢ 0) (λ b. nat_eq b 0 ≡ false) not_nul xs h

cut_of : (m a n p : List ℕ) → IsPlain m a n p → cut m ≡ a ∷ n ∷ p ∷ []
cut_of m a n p is =
    let first = slice_split_at (λ b. nat_eq b 0) a 0 (n ++ 0 ∷ p) (passes_none a is.authorization_whole) refl in
    let second = slice_split_at (λ b. nat_eq b 0) n 0 p (passes_none n is.authentication_whole) refl in
    let third = slice_split_none (λ b. nat_eq b 0) p (passes_none p is.password_whole) in
    ap cut is.spelt ∙ first ∙ ap (λ (xs : List (List ℕ)). a ∷ xs) (second ∙ ap (λ (xs : List (List ℕ)). n ∷ xs) third)

abbrev pub Whole : List (List ℕ) → Type 0
Whole [] = Unit {0}
Whole (part ∷ parts) = NoNul part × Whole parts

whole_onto : (x : ℕ) (parts : List (List ℕ)) → x ≢ 0 → Whole parts → Whole (onto_first x parts)
whole_onto x [] h w = (All-cons (λ b. b ≢ 0) x [] h (All-nil (λ b. b ≢ 0)), tt)
whole_onto x (part ∷ parts) h w = (All-cons (λ b. b ≢ 0) x part h w.0, w.1)

whole_cut_at : (x : ℕ) (t : Bool) (parts : List (List ℕ)) → nat_eq x 0 ≡ t → Whole parts → Whole (cond t ([] ∷ parts) (onto_first x parts))
whole_cut_at x true parts e w = (All-nil (λ b. b ≢ 0), w)
whole_cut_at x false parts e w = whole_onto x parts (is_not_nul x e) w

whole_cut : (m : List ℕ) → Whole (cut m)
whole_cut [] = (All-nil (λ b. b ≢ 0), tt)
whole_cut (x ∷ m) = whole_cut_at x (nat_eq x 0) (cut m) refl (whole_cut m)

plain_of : (m a n p : List ℕ) → cut m ≡ a ∷ n ∷ p ∷ [] → IsPlain m a n p
plain_of m a n p e =
    let whole = subst Whole e (whole_cut m) in
    let joined : m ≡ join_with_byte 0 (a ∷ n ∷ p ∷ []) = sym (join_with_byte-slice_split 0 m) ∙ ap (λ (xs : List (List ℕ)). join_with_byte 0 xs) e in
    record { spelt = joined; authorization_whole = whole.0; authentication_whole = whole.1.0; password_whole = whole.1.1.0 }

-- a user is found exactly where one is configured
both_true : (a b : Bool) → (a && b) ≡ true → (a ≡ true) × (b ≡ true)
both_true true b e = (refl, e)
both_true false b e = absurd (cc)

abbrev pub is_this : List ℕ → List ℕ → User → Bool
is_this n p u = bytes_eq u.name n && bytes_eq u.password p

this_user : (n p : List ℕ) (u : User) → is_this n p u ≡ true → u ≡ user_of n p
this_user n p u e =
    let both = both_true (bytes_eq u.name n) (bytes_eq u.password p) e in
    let named = (bytes_eq-Decides u.name n).0 both.0 in
    let known = (bytes_eq-Decides u.password p).0 both.1 in
    ap (λ (x : List ℕ). user_of x u.password) named ∙ ap (λ (x : List ℕ). user_of n x) known

is_itself : (n p : List ℕ) → is_this n p (user_of n p) ≡ true
is_itself n p =
    let one = (bytes_eq-Decides n n).1 refl in let other = (bytes_eq-Decides p p).1 refl in rw (one, other) refl

later_user : (u : User) (users : List User) (x : User) → Contains users x → Contains (u ∷ users) x
later_user u users x h = (suc h.0, omega (arith, h.1), h.2)

known_here : (n p : List ℕ) (u : User) (users : List User) (t : Bool) → is_this n p u ≡ t → (is_user users n p ≡ true → Contains users (user_of n p))
    → (t || is_user users n p) ≡ true → Contains (u ∷ users) (user_of n p)
known_here n p u users true test later e = (0, omega arith, this_user n p u test)
known_here n p u users false test later e = later_user u users (user_of n p) (later e)

known : (n p : List ℕ) (users : List User) → is_user users n p ≡ true → Contains users (user_of n p)
known n p [] e = absurd (cc)
known n p (u ∷ users) e = known_here n p u users (is_this n p u) refl (known n p users) e

others_here : (n p : List ℕ) (u : User) (users : List User) (t : Bool) → is_this n p u ≡ t → (is_user users n p ≡ false → All (λ x. x ≢ user_of n p) users)
    → (t || is_user users n p) ≡ false → All (λ x. x ≢ user_of n p) (u ∷ users)
others_here n p u users true test later e = absurd (cc)
others_here n p u users false test later e =
    All-cons (λ x. x ≢ user_of n p) u users
    (λ same. let yes = ap (λ (x : User). is_this n p x) same ∙ is_itself n p in cc) (later e)

others : (n p : List ℕ) (users : List User) → is_user users n p ≡ false → All (λ x. x ≢ user_of n p) users
others n p [] e = All-nil (λ x. x ≢ user_of n p)
others n p (u ∷ users) e = others_here n p u users (is_this n p u) refl (others n p users) e

unknown : (n p : List ℕ) (users : List User) → is_user users n p ≡ false → Contains users (user_of n p) → ⊥
unknown n p users e h = All-contains (λ x. x ≢ user_of n p) users (user_of n p) (others n p users e) h refl

-- who acts as itself
itself : (a n : List ℕ) → (bytes_eq a [] || bytes_eq a n) ≡ true → (a ≡ []) ⊎ (a ≡ n)
itself a n e = either_of (bytes_eq a []) refl e
  where
    either_of : (t : Bool) → bytes_eq a [] ≡ t → (t || bytes_eq a n) ≡ true → (a ≡ []) ⊎ (a ≡ n)
    either_of true is e = inl ((bytes_eq-Decides a []).0 is)
    either_of false is e = inr ((bytes_eq-Decides a n).0 e)

neither : (s t : Bool) → (s || t) ≡ false → (s ≡ false) × (t ≡ false)
neither true t e = absurd (cc)
neither false t e = (refl, e)

another : (a n : List ℕ) → (bytes_eq a [] || bytes_eq a n) ≡ false → (a ≡ []) ⊎ (a ≡ n) → ⊥
another a n e (inl h) = let yes = (bytes_eq-Decides a []).1 h in let no = (neither (bytes_eq a []) (bytes_eq a n) e).0 in cc
another a n e (inr h) = let yes = (bytes_eq-Decides a n).1 h in let no = (neither (bytes_eq a []) (bytes_eq a n) e).1 in cc

-- whom a message logs in
abbrev pub LogsInBy : List User → List ℕ → Option (List ℕ) → Type 0
LogsInBy users m user = MatchOption user ((name : List ℕ) → ¬ IsPlainLogin users m name) (λ name. IsPlainLogin users m name)

by_tests : (users : List User) (m a n p : List ℕ) → IsPlain m a n p → (t s : Bool) → (bytes_eq a [] || bytes_eq a n) ≡ t → is_user users n p ≡ s
    → LogsInBy users m (cond (t && s) (Some n) None)
by_tests users m a n p is true true te se = record { authorization = a; password = p; read = is; as_itself = itself a n te; known = known n p users se }
by_tests users m a n p is true false te se = λ name login.
    let same = one_reading m a n p is login.authorization name login.password login.read in
    let P : List ℕ → Type 0 = λ x. Contains users (user_of x p) in
    let Q : List ℕ → Type 0 = λ x. Contains users (user_of name x) in
    unknown n p users se (subst P same.authentication (subst Q same.password login.known))
by_tests users m a n p is false s te se = λ name login.
    let same = one_reading m a n p is login.authorization name login.password login.read in
    let P : List ℕ → Type 0 = λ x. (x ≡ []) ⊎ (x ≡ name) in
    let Q : List ℕ → Type 0 = λ x. (a ≡ []) ⊎ (a ≡ x) in
    another a n te (subst Q same.authentication (subst P same.authorization login.as_itself))

no_three : (users : List User) (m : List ℕ) (parts : List (List ℕ)) → cut m ≡ parts → ((a n p : List ℕ) → parts ≡ a ∷ n ∷ p ∷ [] → ⊥)
    → (name : List ℕ) → IsPlainLogin users m name → ⊥
no_three users m parts e none name login =
    none login.authorization name login.password (sym e ∙ cut_of m login.authorization name login.password login.read)

by_parts : (users : List User) (m : List ℕ) (parts : List (List ℕ)) → cut m ≡ parts → LogsInBy users m (user_by_parts users parts)
by_parts users m [] e = no_three users m [] e (λ a n p same. cc)
by_parts users m (a ∷ []) e = no_three users m (a ∷ []) e (λ x n p same. cc)
by_parts users m (a ∷ n ∷ []) e = no_three users m (a ∷ n ∷ []) e (λ x y p same. cc)
by_parts users m (a ∷ n ∷ p ∷ []) e =
    by_tests users m a n p (plain_of m a n p e) (bytes_eq a [] || bytes_eq a n) (is_user users n p) refl refl
by_parts users m (a ∷ n ∷ p ∷ q ∷ parts) e = no_three users m (a ∷ n ∷ p ∷ q ∷ parts) e (λ x y z same. cc)

-- the function's answer is the standard's
by_response : (users : List User) (mechanisms : List Mechanism) (init : SaslInit) → first_named mechanisms init.mechanism ≡ Some Plain → (r : Option (List ℕ)) → init.initial_response ≡ r
    → AnswersInit (record { users = users; mechanisms = mechanisms }) init (outcome_of (user_by_message users r))
by_response users mechanisms init e None is = not_by_plain users mechanisms init e (nobody_in_plain users init.initial_response is)
by_response users mechanisms init e (Some m) is =
    judged_by_plain users mechanisms init e m m is refl (user_by_message users (Some m)) (by_parts users m (cut m) refl)

by_mechanism : (users : List User) (mechanisms : List Mechanism) (init : SaslInit) (chosen : Option Mechanism) → first_named mechanisms init.mechanism ≡ chosen
    → AnswersInit (record { users = users; mechanisms = mechanisms }) init (outcome_of (user_by_mechanism users init.initial_response chosen))
by_mechanism users mechanisms init None e = nobody users mechanisms init e
by_mechanism users mechanisms init (Some Anonymous) e = by_anonymous users mechanisms init e (codes "anonymous") refl
by_mechanism users mechanisms init (Some Plain) e = by_response users mechanisms init e init.initial_response refl

pub by_init : (server : Logins) (init : SaslInit) → AnswersInit server init (outcome_of (user_by_init server init))
by_init server init = by_mechanism server.users server.mechanisms init (first_named server.mechanisms init.mechanism) refl

-- and it is the only one
pub record Judges (server : Logins) (init : SaslInit) (a : SaslAnswer) : Type 0 where
  pub user : Option (List ℕ)
  pub is : a ≡ outcome_of user
  pub right : MatchOption user ((name : List ℕ) → ¬ LogsIn server init name) (λ name. LogsIn server init name)

judges : (server : Logins) (init : SaslInit) (a : SaslAnswer) → AnswersInit server init a → Judges server init a
judges server init (answer.Outcome code.Ok (Some name)) h = record { user = Some name; is = refl; right = h }
judges server init (answer.Outcome code.Auth None) h = record { user = None; is = refl; right = h }
judges server init _ h = absurd h

same_user : (server : Logins) (init : SaslInit) (u v : Option (List ℕ)) → MatchOption u ((name : List ℕ) → ¬ LogsIn server init name) (λ name. LogsIn server init name)
    → MatchOption v ((name : List ℕ) → ¬ LogsIn server init name) (λ name. LogsIn server init name) → u ≡ v
same_user server init (Some n) (Some k) h i = ap Some (one_user server init n k h i)
same_user server init (Some n) None h i = absurd (i n h)
same_user server init None (Some k) h i = absurd (h k i)
same_user server init None None h i = refl

one_outcome : (server : Logins) (init : SaslInit) (a : SaslAnswer) → AnswersInit server init a → a ≡ outcome_of (user_by_init server init)
one_outcome server init a h =
    let mine = judges server init a h in
    let its = judges server init (outcome_of (user_by_init server init)) (by_init server init) in
    mine.is ∙ ap outcome_of (same_user server init mine.user its.user mine.right its.right) ∙ sym its.is

only_refusal : (a : SaslAnswer) → IsRefusal a → a ≡ answer.Refuse
only_refusal answer.Refuse h = refl
only_refusal _ h = absurd h

pub one_answer : (server : Logins) (p : Perf) (a : SaslAnswer) → Answers server p a → a ≡ answer_to server p
one_answer server (perf.SaslInit init) a h = one_outcome server init a h
one_answer server _ a h = only_refusal a h
