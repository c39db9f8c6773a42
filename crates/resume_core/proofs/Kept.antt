-- Lists that keep some elements of others.
use Rattle.std.proofs.Common.{◌≡◌, Bool, true, false, cond, List, [], ◌∷◌, Option, Some, None, refl, ap, ◌∙◌}
use Rattle.std.specs.Prelude.{is_some, map, filter, filter_map, find, All}
use Rattle.std.specs.List.{cons_option, IsDistinct, AllByRecursion}
use Rattle.std.proofs.lemmas.List.Elements.{All-nil, All-cons, All-head, All-tail}

-- what is given of some elements, by a figure of what is given and of the element
given_first : {X Y Z : Type 0} (f : Y → Z) (g : X → Z) (x : X) (o : Option Y) (ys : List Y) (xs : List X)
    → ((y : Y) → o ≡ Some y → f y ≡ g x) → map f ys ≡ map g xs → map f (cons_option o ys) ≡ map g (cond (is_some o) (x ∷ xs) xs)
given_first f g x None ys xs same rest = rest
given_first f g x (Some y) ys xs same rest = ap (λ z. z ∷ map f ys) (same y refl) ∙ ap (λ zs. g x ∷ zs) rest

pub given_of : {X Y Z : Type 0} (give : X → Option Y) (f : Y → Z) (g : X → Z) (test : X → Bool)
    → ((x : X) → is_some (give x) ≡ test x) → ((x : X) (y : Y) → give x ≡ Some y → f y ≡ g x)
    → (xs : List X) → map f (filter_map give xs) ≡ map g (filter test xs)
given_of give f g test tests same [] = refl
given_of give f g test tests same (x ∷ xs) =
    given_first f g x (give x) (filter_map give xs) (filter test xs) (same x) (given_of give f g test tests same xs)
    ∙ ap (λ b. map g (cond b (x ∷ filter test xs) (filter test xs))) (tests x)

-- a test that passes with another, and its elements
pub same_tests : {X : Type 0} (p q : X → Bool) → ((x : X) → p x ≡ q x) → (xs : List X) → filter p xs ≡ filter q xs
same_tests p q same [] = refl
same_tests p q same (x ∷ xs) =
    ap (λ b. cond b (x ∷ filter p xs) (filter p xs)) (same x) ∙ ap (λ ys. cond (q x) (x ∷ ys) ys) (same_tests p q same xs)

pub no_tests : {X : Type 0} (p : X → Bool) → ((x : X) → p x ≡ false) → (xs : List X) → filter p xs ≡ []
no_tests p fails [] = refl
no_tests p fails (x ∷ xs) = ap (λ b. cond b (x ∷ filter p xs) (filter p xs)) (fails x) ∙ no_tests p fails xs

-- what is kept of distinct ones is distinct
fewer_first : {X Z : Type 0} (P : Z → Type 0) (g : X → Z) (x : X) (wide narrow : List X) (p q : Bool) → (q ≡ true → p ≡ true)
    → (AllByRecursion P (map g wide) → AllByRecursion P (map g narrow))
    → AllByRecursion P (map g (cond p (x ∷ wide) wide)) → AllByRecursion P (map g (cond q (x ∷ narrow) narrow))
fewer_first P g x wide narrow true true implies rest all = (all.0, rest all.1)
fewer_first P g x wide narrow true false implies rest all = rest all.1
fewer_first P g x wide narrow false true implies rest all = let no : false ≡ true = implies refl in cc
fewer_first P g x wide narrow false false implies rest all = rest all

fewer : {X Z : Type 0} (P : Z → Type 0) (g : X → Z) (p q : X → Bool) → ((x : X) → q x ≡ true → p x ≡ true)
    → (xs : List X) → AllByRecursion P (map g (filter p xs)) → AllByRecursion P (map g (filter q xs))
fewer P g p q implies [] all = all
fewer P g p q implies (x ∷ xs) all = fewer_first P g x (filter p xs) (filter q xs) (p x) (q x) (implies x) (fewer P g p q implies xs) all

apart_first : {X Z : Type 0} (e : Z → Z → Bool) (g : X → Z) (x : X) (wide narrow : List X) (p q : Bool) → (q ≡ true → p ≡ true)
    → (AllByRecursion (λ z. e (g x) z ≡ false) (map g wide) → AllByRecursion (λ z. e (g x) z ≡ false) (map g narrow))
    → (IsDistinct e (map g wide) → IsDistinct e (map g narrow))
    → IsDistinct e (map g (cond p (x ∷ wide) wide)) → IsDistinct e (map g (cond q (x ∷ narrow) narrow))
unfolding IsDistinct
apart_first e g x wide narrow true true implies lacks rest all = (lacks all.0, rest all.1)
apart_first e g x wide narrow true false implies lacks rest all = rest all.1
apart_first e g x wide narrow false true implies lacks rest all = let no : false ≡ true = implies refl in cc
apart_first e g x wide narrow false false implies lacks rest all = rest all

pub fewer_apart : {X Z : Type 0} (e : Z → Z → Bool) (g : X → Z) (p q : X → Bool) → ((x : X) → q x ≡ true → p x ≡ true)
    → (xs : List X) → IsDistinct e (map g (filter p xs)) → IsDistinct e (map g (filter q xs))
fewer_apart e g p q implies [] all = all
fewer_apart e g p q implies (x ∷ xs) all =
    apart_first e g x (filter p xs) (filter q xs) (p x) (q x) (implies x) (fewer (λ z. e (g x) z ≡ false) g p q implies xs) (fewer_apart e g p q implies xs) all

pub all_pass : {X : Type 0} (xs : List X) → filter (λ _. true) xs ≡ xs
all_pass [] = refl
all_pass (x ∷ xs) = ap (λ ys. x ∷ ys) (all_pass xs)

-- what is said of a list that is mapped twice
pub twice : {X Y Z : Type 0} (f : X → Y) (g : Y → Z) (xs : List X) → map g (map f xs) ≡ map (λ x. g (f x)) xs
twice f g [] = refl
twice f g (x ∷ xs) = ap (λ zs. g (f x) ∷ zs) (twice f g xs)

-- what holds of each that is given
all_first : {Y : Type 0} (P : Y → Type 0) (o : Option Y) (ys : List Y) → ((y : Y) → o ≡ Some y → P y) → All P ys → All P (cons_option o ys)
all_first P None ys holds rest = rest
all_first P (Some y) ys holds rest = All-cons P y ys (holds y refl) rest

pub all_given : {X Y : Type 0} (P : Y → Type 0) (give : X → Option Y) → ((x : X) (y : Y) → give x ≡ Some y → P y) → (xs : List X) → All P (filter_map give xs)
all_given P give holds [] = All-nil P
all_given P give holds (x ∷ xs) = all_first P (give x) (filter_map give xs) (holds x) (all_given P give holds xs)

-- a search in the elements that pass a test finds what it finds in all, if what it looks for passes
find_first : {X : Type 0} (x : X) (own looked : Bool) (test : X → Bool) (kept all : List X) → test x ≡ looked → (looked ≡ true → own ≡ true)
    → find test kept ≡ find test all → find test (cond own (x ∷ kept) kept) ≡ cond looked (Some x) (find test all)
find_first x true looked test kept all is implies rest = ap (λ b. cond b (Some x) (find test kept)) is ∙ ap (λ o. cond looked (Some x) o) rest
find_first x false true test kept all is implies rest = let no : false ≡ true = implies refl in cc
find_first x false false test kept all is implies rest = rest

pub find_among : {X : Type 0} (test own : X → Bool) → ((x : X) → test x ≡ true → own x ≡ true) → (xs : List X) → find test (filter own xs) ≡ find test xs
find_among test own implies [] = refl
find_among test own implies (x ∷ xs) = find_first x (own x) (test x) test (filter own xs) xs refl (implies x) (find_among test own implies xs)

-- lists by two tests, or by two ways to give, that agree on the elements
pub same_kept : {X : Type 0} (p q : X → Bool) (xs : List X) → All (λ x. p x ≡ q x) xs → filter p xs ≡ filter q xs
same_kept p q [] same = refl
same_kept p q (x ∷ xs) same =
    ap (λ b. cond b (x ∷ filter p xs) (filter p xs)) (All-head (λ y. p y ≡ q y) x xs same)
    ∙ ap (λ ys. cond (q x) (x ∷ ys) ys) (same_kept p q xs (All-tail (λ y. p y ≡ q y) x xs same))

pub same_given : {X Y : Type 0} (f g : X → Option Y) (xs : List X) → All (λ x. f x ≡ g x) xs → filter_map f xs ≡ filter_map g xs
same_given f g [] same = refl
same_given f g (x ∷ xs) same =
    ap (λ o. cons_option o (filter_map f xs)) (All-head (λ y. f y ≡ g y) x xs same)
    ∙ ap (λ ys. cons_option (g x) ys) (same_given f g xs (All-tail (λ y. f y ≡ g y) x xs same))

-- what holds of each follows from what holds of each
pub each : {X : Type 0} (P Q : X → Type 0) → ((x : X) → P x → Q x) → (xs : List X) → All P xs → All Q xs
each P Q implies [] all = All-nil Q
each P Q implies (x ∷ xs) all = All-cons Q x xs (implies x (All-head P x xs all)) (each P Q implies xs (All-tail P x xs all))
