-- Pieces appended one after another.
use Rattle.std.proofs.Common.{◌≡◌, ℕ, List, ◌++◌, append_assoc}

pub join_7 : (o a b c d e f g : List ℕ) → o ++ a ++ b ++ c ++ d ++ e ++ f ++ g ≡ o ++ (a ++ b ++ c ++ d ++ e ++ f ++ g)
join_7 o a b c d e f g = simp append_assoc

pub join_2 : (o a b : List ℕ) → o ++ a ++ b ≡ o ++ (a ++ b)
join_2 o a b = simp append_assoc

pub join_4 : (o a b c d : List ℕ) → o ++ a ++ b ++ (c ++ d) ≡ o ++ (a ++ b ++ c ++ d)
join_4 o a b c d = simp append_assoc

pub join_9 : (o a b c d e f g h i : List ℕ) → o ++ a ++ b ++ c ++ d ++ e ++ f ++ g ++ h ++ i ≡ o ++ (a ++ b ++ c ++ d ++ e ++ f ++ g ++ h ++ i)
join_9 o a b c d e f g h i = simp append_assoc

-- The same pieces, one by one.
pub split_4 : (a b c d rest : List ℕ) → (a ++ b ++ c ++ d) ++ rest ≡ a ++ (b ++ ((c ++ d) ++ rest))
split_4 a b c d rest = simp append_assoc

pub split_7 : (a b c d e f g rest : List ℕ) → (a ++ b ++ c ++ d ++ e ++ f ++ g) ++ rest ≡ a ++ (b ++ (c ++ (d ++ (e ++ (f ++ (g ++ rest))))))
split_7 a b c d e f g rest = simp append_assoc

pub split_9 : (a b c d e f g h i rest : List ℕ) → (a ++ b ++ c ++ d ++ e ++ f ++ g ++ h ++ i) ++ rest ≡ a ++ (b ++ (c ++ (d ++ (e ++ (f ++ (g ++ (h ++ (i ++ rest))))))))
split_9 a b c d e f g h i rest = simp append_assoc
