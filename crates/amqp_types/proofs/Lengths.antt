-- How many bytes encode a value.
use Rattle.std.proofs.Common.{◌≡◌, ℕ, ◌-◌, ◌≤◌, List, ◌++◌, length, take, Result, Ok, Err, IfOk, refl, sym, ap, subst, ◌∙◌, arith}
use Rattle.std.proofs.lemmas.List.{length-append}
use Rattle.std.proofs.Math.Seq.{take-append_seam}
use Rattle.amqp_model.specs.declared.type_fault.TypeFault.{TypeFault}
use Rattle.amqp_model.specs.Data.{Data}
use Rattle.amqp_model.specs.View.{view}
use Rattle.amqp_model.specs.declared.value.Value.{Value}
use Rattle.amqp_types.specs.Reading.{Gives, Same, after, measured, length_of, value_at}
use Rattle.amqp_types.specs.Spells.{Spells}
use Rattle.amqp_types.proofs.Tools.{done, bind_ok, ok_is}
use Rattle.amqp_types.proofs.Sound.{Spells-value_at}
use Rattle.amqp_types.proofs.Complete.{value_at-Spells}

-- the length given is the length of what was read
text_length : (bytes text rest : List ℕ) → bytes ≡ text ++ rest → length bytes - length rest ≡ length text
text_length bytes text rest e = let l = ap length e ∙ length-append text rest in omega (arith, l)

front_is : (bytes text rest : List ℕ) → bytes ≡ text ++ rest → take (length text) bytes ≡ text
front_is bytes text rest e = ap (λ (t : List ℕ). take (length text) t) e ∙ take-append_seam text rest

-- what is read is encoded by the bytes that were counted
read_found : (depth : ℕ) (bytes : List ℕ) (v : Data) (n : ℕ) (rest : List ℕ) → value_at depth bytes ≡ Ok (v, rest) → length bytes - length rest ≡ n → Spells depth (take n bytes) v × (n ≤ length bytes)
read_found depth bytes v n rest e len =
    let s = Spells-value_at depth bytes v rest e in
    let t = text_length bytes s.0 rest s.1 in
    let same : take n bytes ≡ s.0 = ap (λ k. take k bytes) (sym len ∙ t) ∙ front_is bytes s.0 rest s.1 in
    let l = length-append s.0 rest in
    (subst (λ (x : List ℕ). Spells depth x v) (sym same) s.2, omega (arith, len))

pub measured_found : (depth : ℕ) (bytes : List ℕ) (v : Data) (n : ℕ) → measured bytes (value_at depth bytes) ≡ Ok (v, n) → Spells depth (take n bytes) v × (n ≤ length bytes)
measured_found depth bytes v n e =
    let b = bind_ok (value_at depth bytes) (λ x. done (x.0, length bytes - length x.1)) (v, n) e in
    let p = ok_is (b.0.0, length bytes - length b.0.1) (v, n) b.2 in
    let f = read_found depth bytes b.0.0 n b.0.1 b.1 (ap (λ q. q.1) p) in
    (subst (λ w. Spells depth (take n bytes) w) (ap (λ q. q.0) p) f.0, f.1)

pub length_found : (depth : ℕ) (bytes : List ℕ) (n : ℕ) → length_of bytes (value_at depth bytes) ≡ Ok n → ((v : Data) × Spells depth (take n bytes) v) × (n ≤ length bytes)
length_found depth bytes n e =
    let a = bind_ok (after (value_at depth bytes)) (λ rest. done (length bytes - length rest)) n e in
    let b = bind_ok (value_at depth bytes) (λ x. done x.1) a.0 a.1 in
    let rest_is = ok_is b.0.1 a.0 b.2 in
    let f = read_found depth bytes b.0.0 n b.0.1 b.1 (ap (λ r. length bytes - length r) rest_is ∙ ok_is (length bytes - length a.0) n a.2) in
    ((b.0.0, f.0), f.1)

-- what is encoded is read, with its length
pub measured_only : (depth : ℕ) (bytes text rest : List ℕ) (v : Data) → bytes ≡ text ++ rest → Spells depth text v → measured bytes (value_at depth bytes) ≡ Ok (v, length text)
measured_only depth bytes text rest v e spelled =
    ap (λ r. measured bytes r) (ap (λ (t : List ℕ). value_at depth t) e ∙ value_at-Spells depth text v rest spelled)
    ∙ ap (λ k. done (v, k)) (text_length bytes text rest e)

pub length_only : (depth : ℕ) (bytes text rest : List ℕ) (v : Data) → bytes ≡ text ++ rest → Spells depth text v → length_of bytes (value_at depth bytes) ≡ Ok (length text)
length_only depth bytes text rest v e spelled =
    ap (λ r. length_of bytes r) (ap (λ (t : List ℕ). value_at depth t) e ∙ value_at-Spells depth text v rest spelled)
    ∙ ap (λ k. done k) (text_length bytes text rest e)

-- no encoding is a prefix of another
pub none_begins : (depth : ℕ) (a b x y : List ℕ) (v w : Data) → Spells depth a v → Spells depth b w → a ++ x ≡ b ++ y → (a ≡ b) × (v ≡ w)
none_begins depth a b x y v w first second e =
    let p = ok_is (v, x) (w, y) (sym (value_at-Spells depth a v x first) ∙ ap (λ (t : List ℕ). value_at depth t) e ∙ value_at-Spells depth b w y second) in
    let lengths : length a ≡ length b = sym (text_length (a ++ x) a x refl) ∙ ap (λ (t : List ℕ). length t - length x) e ∙ ap (λ (t : List ℕ). length (b ++ y) - length t) (ap (λ q. q.1) p) ∙ text_length (b ++ y) b y refl in
    (sym (front_is (a ++ x) a x refl) ∙ ap (λ (t : List ℕ). take (length a) t) e ∙ ap (λ k. take k (b ++ y)) lengths ∙ front_is (b ++ y) b y refl, ap (λ q. q.0) p)

-- ---- what callers use

pub decode_found : (bytes : List ℕ) (r : Result (Value × ℕ) TypeFault) → Gives (λ x. (view x.0, x.1)) r (measured bytes (value_at 32 bytes)) → IfOk r (λ x. Spells 32 (take x.1 bytes) (view x.0))
decode_found bytes (Ok x) e = (measured_found 32 bytes (view x.0) x.1 e).0
decode_found bytes (Err f) e = tt

pub decode_bounded : (bytes : List ℕ) (r : Result (Value × ℕ) TypeFault) → Gives (λ x. (view x.0, x.1)) r (measured bytes (value_at 32 bytes)) → IfOk r (λ x. x.1 ≤ length bytes)
decode_bounded bytes (Ok x) e = (measured_found 32 bytes (view x.0) x.1 e).1
decode_bounded bytes (Err f) e = tt

pub skip_found : (bytes : List ℕ) (r : Result ℕ TypeFault) → Same (λ n. n) r (length_of bytes (value_at 32 bytes)) → IfOk r (λ n. (v : Data) × Spells 32 (take n bytes) v)
skip_found bytes (Ok n) e = (length_found 32 bytes n e).0
skip_found bytes (Err f) e = tt

pub skip_bounded : (bytes : List ℕ) (r : Result ℕ TypeFault) → Same (λ n. n) r (length_of bytes (value_at 32 bytes)) → IfOk r (λ n. n ≤ length bytes)
skip_bounded bytes (Ok n) e = (length_found 32 bytes n e).1
skip_bounded bytes (Err f) e = tt

pub skip_only : (bytes : List ℕ) (r : Result ℕ TypeFault) → Same (λ n. n) r (length_of bytes (value_at 32 bytes)) → (v : Data) (text rest : List ℕ) → bytes ≡ text ++ rest → Spells 32 text v → r ≡ Ok (length text)
skip_only bytes (Ok n) e v text rest parts spelled = sym e ∙ length_only 32 bytes text rest v parts spelled
skip_only bytes (Err f) e v text rest parts spelled = sym e ∙ length_only 32 bytes text rest v parts spelled
