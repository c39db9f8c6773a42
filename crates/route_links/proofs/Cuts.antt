-- A cut changes no part.
use Rattle.std.proofs.Common.{◌≡◌, ◌≤◌, ◌∙◌, ℕ, zero, suc, ◌+◌, ◌-◌, Bool, true, false, refl, sym, ap, List, [], ◌∷◌, ◌++◌, append_assoc, append-nil, length, take, drop, arith}
use Rattle.std.specs.Prelude.{map, nat_le}
use Rattle.std.proofs.lemmas.List.{length-take}
use Rattle.amqp_model.specs.declared.perf.Transfer.{Transfer}
use Rattle.route_links.specs.declared.cut.Carried.{Carried}
use Rattle.route_links.specs.declared.middle.Middle.{Middle}
use Rattle.route_links.specs.declared.middle.Middle.TheVariants.{Between, Open, Settled}
use Rattle.route_links.specs.declared.allowed.Allowed.{Allowed}
use Rattle.route_links.specs.Parts.{Part, Byte, saying, ending, transfer_parts, begun, after}
use Rattle.route_links.specs.Cutting.{size, with_more, later, room}
use Rattle.route_links.specs.Turns.{named}
use Rattle.route_links.proofs.Middles.{after_transfer}
use Rattle.route_links.proofs.Rooms.{size_is}

-- names are no parts
pub named_parts : (a : Allowed) (handle : ℕ) (m k : Middle) (c : Carried) → transfer_parts k (named a handle m c).transfer c.payload ≡ transfer_parts k c.transfer c.payload
named_parts a handle m Between c = refl
named_parts a handle m Open c = refl
named_parts a handle m Settled c = refl

says_the_same : (m : Middle) (x : Transfer) → saying m (with_more x) ≡ saying m x
says_the_same Between x = refl
says_the_same Open x = refl
says_the_same Settled x = refl

later_says_nothing : (m : Middle) (x : Transfer) → saying (begun m x.settled) (later x) ≡ []
later_says_nothing m x = by m x.settled
  where
    by : (n : Middle) (settled : Bool) → saying (begun n settled) (record (later x) { settled = settled }) ≡ []
    by Between true = refl
    by Between false = refl
    by Open true = refl
    by Open false = refl
    by Settled settled = refl

bytes_cut : (n : ℕ) (bytes : List ℕ) (ps : List Part) → map Byte (take n bytes) ++ (map Byte (drop n bytes) ++ ps) ≡ map Byte bytes ++ ps
bytes_cut zero [] ps = refl
bytes_cut zero (b ∷ bytes) ps = refl
bytes_cut (suc n) [] ps = refl
bytes_cut (suc n) (b ∷ bytes) ps = ap (λ qs. Byte b ∷ qs) (bytes_cut n bytes ps)

joined : (s b c e : List Part) → (s ++ (b ++ [])) ++ ([] ++ (c ++ e)) ≡ s ++ (b ++ (c ++ e))
joined s b c e = ap (λ x. (s ++ x) ++ (c ++ e)) (append-nil b) ∙ append_assoc s b (c ++ e)

-- the middle behind the first piece
pub behind_piece : (m : Middle) (x : Transfer) (payload : List ℕ) → after m (transfer_parts m (with_more x) payload) ≡ begun m x.settled
behind_piece m x payload = after_transfer m (with_more x) payload

pub cut_parts : (m : Middle) (x : Transfer) (payload : List ℕ) (n : ℕ) →
    (let k = after m (transfer_parts m (with_more x) (take n payload)) in transfer_parts m x payload ≡ transfer_parts m (with_more x) (take n payload) ++ transfer_parts k (later x) (drop n payload))
cut_parts m x payload n =
    let front = map Byte (take n payload) in
    let back = map Byte (drop n payload) in
    sym (
    ap (λ k. (saying m (with_more x) ++ (front ++ [])) ++ (saying k (later x) ++ (back ++ ending x))) (behind_piece m x (take n payload))
    ∙ (ap (λ s. (s ++ (front ++ [])) ++ (saying (begun m x.settled) (later x) ++ (back ++ ending x))) (says_the_same m x)
    ∙ (ap (λ s. (saying m x ++ (front ++ [])) ++ (s ++ (back ++ ending x))) (later_says_nothing m x)
    ∙ (joined (saying m x) front back (ending x)
    ∙ ap (λ ps. saying m x ++ ps) (bytes_cut n payload (ending x))))))

-- a piece fits
within : (s n l most : ℕ) → s ≤ most → n ≡ most - s → l ≤ n → s + l ≤ most
within s n l most le is less = omega arith

le_of : (a b : ℕ) → nat_le a b ≡ true → a ≤ b
le_of a b h = grind (arith, h)

pub piece_fits : (most : ℕ) (x : Transfer) (payload : List ℕ) → nat_le (size (with_more x) []) most ≡ true → size (with_more x) (take (room most x) payload) ≤ most
piece_fits most x payload h =
    let n = room most x in
    let le = le_of (size (with_more x) []) most h in
    let few : length (take n payload) ≤ n = omega (arith, length-take n payload) in
    let whole : size (with_more x) [] + length (take n payload) ≤ most = within (size (with_more x) []) n (length (take n payload)) most le refl few in
    omega (arith, whole, size_is (with_more x) (take n payload))
