-- A message of PLAIN is read in one way: its NULs are where they are.
use Rattle.std.proofs.Common.{◌≡◌, ℕ, List, [], ◌∷◌, ◌++◌, refl, Option, Some, None, IfNone, subst, sym, ◌∙◌}
use Rattle.std.specs.Prelude.{◌≢◌}
use Rattle.std.proofs.lemmas.List.Elements.{All-head, All-tail}
use Rattle.amqp_sasl.specs.Plain.{NoNul, IsPlain}

pub if_none : {X : Type 0} (r : Option X) (P : Type 0) → P → IfNone r P
if_none None P h = h
if_none (Some x) P h = tt

-- what has a NUL inside isn't free of it
pub nul_inside : (front behind : List ℕ) → NoNul (front ++ 0 ∷ behind) → ⊥
nul_inside [] behind h = All-head (λ b. b ≢ 0) 0 behind h refl
nul_inside (b ∷ front) behind h = nul_inside front behind (All-tail (λ b. b ≢ 0) b (front ++ 0 ∷ behind) h)

-- two cuts at a first NUL are one
pub record SameCut (a x f y : List ℕ) : Type 0 where
  pub front : a ≡ f
  pub behind : x ≡ y

pub one_cut : (a x f y : List ℕ) → NoNul a → NoNul f → a ++ 0 ∷ x ≡ f ++ 0 ∷ y → SameCut a x f y
one_cut [] x [] y na nf e = record { front = refl; behind = cc }
one_cut [] x (c ∷ f) y na nf e = absurd (All-head (λ b. b ≢ 0) c f nf (cc))
one_cut (b ∷ a) x [] y na nf e = absurd (All-head (λ b. b ≢ 0) b a na (cc))
one_cut (b ∷ a) x (c ∷ f) y na nf e =
    let same = one_cut a x f y (All-tail (λ b. b ≢ 0) b a na) (All-tail (λ b. b ≢ 0) c f nf) (cc) in
    let h : b ≡ c = cc in record { front = cc (same.front); behind = same.behind }

-- where a message has no NUL, or one alone, or a third one, it has no parts
pub no_parts : (m : List ℕ) → NoNul m → (a n p : List ℕ) → IsPlain m a n p → ⊥
no_parts m whole a n p is = nul_inside a (n ++ 0 ∷ p) (subst NoNul is.spelt whole)

pub behind_first : (m f b : List ℕ) → m ≡ f ++ 0 ∷ b → NoNul f → (a n p : List ℕ) → IsPlain m a n p → SameCut a (n ++ 0 ∷ p) f b
behind_first m f b e whole a n p is = one_cut a (n ++ 0 ∷ p) f b is.authorization_whole whole (sym is.spelt ∙ e)

pub no_parts_behind : (m f b : List ℕ) → m ≡ f ++ 0 ∷ b → NoNul f → NoNul b → (a n p : List ℕ) → IsPlain m a n p → ⊥
no_parts_behind m f b e whole end a n p is =
    nul_inside n p (subst NoNul (sym (behind_first m f b e whole a n p is).behind) end)

pub record SameParts (a n p f g w : List ℕ) : Type 0 where
  pub authorization : a ≡ f
  pub authentication : n ≡ g
  pub password : p ≡ w

pub parts_behind : (m f b g w : List ℕ) → m ≡ f ++ 0 ∷ b → NoNul f → b ≡ g ++ 0 ∷ w → NoNul g → (a n p : List ℕ) → IsPlain m a n p → SameParts a n p f g w
parts_behind m f b g w e nf e' ng a n p is =
    let first = behind_first m f b e nf a n p is in
    let second = one_cut n p g w is.authentication_whole ng (first.behind ∙ e') in
    record { authorization = first.front; authentication = second.front; password = second.behind }

pub no_third : (m f b g w : List ℕ) → m ≡ f ++ 0 ∷ b → NoNul f → b ≡ g ++ 0 ∷ w → NoNul g → ¬ NoNul w → (a n p : List ℕ) → IsPlain m a n p → ⊥
no_third m f b g w e nf e' ng third a n p is =
    third (subst NoNul (parts_behind m f b g w e nf e' ng a n p is).password is.password_whole)

pub one_reading : (m f g w : List ℕ) → IsPlain m f g w → (a n p : List ℕ) → IsPlain m a n p → SameParts a n p f g w
one_reading m f g w said a n p is =
    parts_behind m f (g ++ 0 ∷ w) g w said.spelt said.authorization_whole refl said.authentication_whole a n p is
