-- The outcome of a delivery as the journal keeps it: to keep it once more changes nothing.
use Rattle.std.proofs.Common.{◌≡◌, ◌∙◌, sym, ap, refl, ℕ, ◌+◌, ◌≤◌, ◌<◌, ◌^◌, Bool, true, false, ◌&&◌, List, [], ◌∷◌, ◌++◌, append-nil, length, arith}
use Rattle.std.specs.Prelude.{nat_lt, take, drop, codes, Option, Some, None, option_map, if◌then◌else◌}
use Rattle.std.specs.Option.{unwrap_or}
use Rattle.std.specs.Int.{w32, to_be_bytes, from_be_bytes}
use Rattle.std.proofs.lemmas.Nat.{from_be_bytes-to_be_bytes_4}
use Rattle.std.proofs.lemmas.Bool.Decides.{nat_tests}
use Rattle.amqp_model.specs.declared.code.Kind.TheVariants as kind
use Rattle.amqp_model.specs.Data as d
use Rattle.amqp_model.specs.ValueSpelling.{constructed, piece_by, wide_sizes, spelling as value_spelling}
use Rattle.amqp_model.specs.declared.descriptor.Descriptor.TheVariants as is
use Rattle.amqp_model.specs.declared.state.DeliveryState.{DeliveryState}
use Rattle.amqp_model.specs.declared.state.DeliveryState.TheVariants as state
use Rattle.amqp_model.specs.declared.state.Fault.{Fault}
use Rattle.amqp_model.specs.declared.state.Modified.{Modified}
use Rattle.amqp_model.specs.Texts.{FieldText, given, described_text, spelt, mapped}
use Rattle.amqp_model.specs.PerfSpelling.{state_spelling}
use Rattle.journal_codec.specs.Batches.{IsTerminal}
use Rattle.journal_codec.specs.Outcome.{kept_outcome as written_outcome}
use Rattle.journal_codec.proofs.Kept.{is_kept, keeps_itself}
use Rattle.journal_codec.proofs.Terminal.{is_outcome}
use Rattle.journal_store.specs.Acting.{journal_outcome}
use Rattle.journal_store.specs.Lost.{failed}
use Rattle.journal_store.proofs.Settled.{written_is_outcome, written_is_short}
use Rattle.router_trace.specs.DeliveryFrames.{kept_condition, kept_error, undescribed, without_info, bare, unless_long, kept_outcome}

-- the outcome that the journal keeps of a delivery's
abbrev pub kept_form : DeliveryState → DeliveryState
kept_form s = journal_outcome (kept_outcome s)

-- A list of values whose encoding is that of another has as many, with the same encodings.

abbrev text_by : Bool → ℕ → List ℕ → List ℕ
text_by fits n inside = constructed kind.List (piece_by fits ((length inside + 1) ∷ n ∷ inside) (wide_sizes n (length inside) ++ inside))

record SameList (m n : ℕ) (xs ys : List ℕ) : Type 0 where
  count : m ≡ n
  inside : xs ≡ ys

abbrev first : List ℕ → ℕ
first [] = 0
first (x ∷ xs) = x

same_list : (f g : Bool) (m n : ℕ) (xs ys : List ℕ) → m < 2 ^ 32 → n < 2 ^ 32 → text_by f m xs ≡ text_by g n ys → SameList m n xs ys
same_list true true m n xs ys low few e = record { count = ap (λ l. first (drop 2 l)) e; inside = ap (drop 3) e }
same_list true false m n xs ys low few e = absurd (let h : 0xC0 ≡ 0xD0 = ap first e in omega (arith, h))
same_list false true m n xs ys low few e = absurd (let h : 0xD0 ≡ 0xC0 = ap first e in omega (arith, h))
same_list false false m n xs ys low few e = record {
  count = sym (from_be_bytes-to_be_bytes_4 m low) ∙ ap (λ l. from_be_bytes w32 (take 4 (drop 5 l))) e ∙ from_be_bytes-to_be_bytes_4 n few;
  inside = ap (drop 9) e;
}

-- A symbol of at most 128 bytes before other bytes.

split_at : (xs ys zs ws : List ℕ) → length xs ≡ length ys → xs ++ zs ≡ ys ++ ws → (xs ≡ ys) × (zs ≡ ws)
split_at [] [] zs ws len e = (refl, e)
split_at [] (y ∷ ys) zs ws len e = absurd cc
split_at (x ∷ xs) [] zs ws len e = absurd cc
split_at (x ∷ xs) (y ∷ ys) zs ws len e =
    let rest = split_at xs ys zs ws (let same : length xs ≡ length ys = cc in same) (ap (drop 1) e) in
    (let head : x ≡ y = ap first e in ap (λ (z : ℕ). z ∷ xs) head ∙ ap (λ (zs : List ℕ). y ∷ zs) rest.0, rest.1)

abbrev symbol_by : Bool → List ℕ → List ℕ
symbol_by fits c = constructed kind.Symbol (piece_by fits (length c ∷ c) (to_be_bytes w32 (length c) ++ c))

symbol_with : (f g : Bool) (b c zs ws : List ℕ) → g ≡ true → symbol_by f b ++ zs ≡ symbol_by g c ++ ws → (b ≡ c) × (zs ≡ ws)
symbol_with f false b c zs ws fits e = absurd cc
symbol_with true true b c zs ws fits e = split_at b c zs ws (ap (λ l. first (drop 1 l)) e) (ap (drop 2) e)
symbol_with false true b c zs ws fits e = absurd (let h : 0xB3 ≡ 0xA3 = ap first e in omega (arith, h))

low_test : (n : ℕ) → n ≤ 128 → nat_lt n 256 ≡ true
low_test n l = grind (arith, nat_tests)

same_symbol : (b c zs ws : List ℕ) → length c ≤ 128 → value_spelling (d.symbol b) ++ zs ≡ value_spelling (d.symbol c) ++ ws → (b ≡ c) × (zs ≡ ws)
unfolding value_spelling
same_symbol b c zs ws few e = symbol_with (nat_lt (length b) 256) (nat_lt (length c) 256) b c zs ws (low_test (length c) few) e

-- A description isn't null.

string_not_null : (f : Bool) (t zs ws : List ℕ) → constructed kind.String (piece_by f (length t ∷ t) (to_be_bytes w32 (length t) ++ t)) ++ zs ≡ 0x40 ∷ ws → ⊥
string_not_null true t zs ws e = (let h : 0xA1 ≡ 0x40 = ap first e in omega (arith, h))
string_not_null false t zs ws e = (let h : 0xB1 ≡ 0x40 = ap first e in omega (arith, h))

described_not_null : (t zs ws : List ℕ) → value_spelling (d.string t) ++ zs ≡ 0x40 ∷ ws → ⊥
unfolding value_spelling
described_not_null t zs ws e = string_not_null (nat_lt (length t) 256) t zs ws e

-- An error whose encoding is that of one with no description and a short condition.

abbrev error_of : List ℕ → Option (List ℕ) → FieldText → List ℕ
error_of c description info = described_text is.Error (spelt (d.symbol c) ∷ mapped d.string description ∷ info ∷ [])

abbrev Plain : List ℕ → Option (List ℕ) → Type 0
Plain c description = (description ≡ None) × (length c ≤ 128)

short_too : (b c : List ℕ) → length c ≤ 128 → b ≡ c → length b ≤ 128
short_too b c few same = (let len = ap length same in omega (arith, len, few))

abbrev is_short : (n : ℕ) (inside : List ℕ) → Bool
is_short n inside = nat_lt (length inside) 255 && nat_lt n 256

same_error : (b : List ℕ) (description : Option (List ℕ)) (info : FieldText) (c : List ℕ) (other : FieldText) → length c ≤ 128 → error_of b description info ≡ error_of c None other → Plain b description
unfolding described_text given
same_error b None None c None few e =
    let xs = value_spelling (d.symbol b) ++ [] in
    let ys = value_spelling (d.symbol c) ++ [] in
    let same = same_list (is_short 1 xs) (is_short 1 ys) 1 1 xs ys (omega arith) (omega arith) (ap (drop 3) e) in
    (refl, short_too b c few (same_symbol b c [] [] few same.inside).0)
same_error b (Some t) None c None few e =
    let xs = value_spelling (d.symbol b) ++ (value_spelling (d.string t) ++ []) in
    let ys = value_spelling (d.symbol c) ++ [] in
    let same = same_list (is_short 2 xs) (is_short 1 ys) 2 1 xs ys (omega arith) (omega arith) (ap (drop 3) e) in
    absurd (let h = same.count in omega (arith, h))
same_error b None (Some i) c None few e =
    let xs = value_spelling (d.symbol b) ++ (0x40 ∷ (i ++ [])) in
    let ys = value_spelling (d.symbol c) ++ [] in
    let same = same_list (is_short 3 xs) (is_short 1 ys) 3 1 xs ys (omega arith) (omega arith) (ap (drop 3) e) in
    absurd (let h = same.count in omega (arith, h))
same_error b (Some t) (Some i) c None few e =
    let xs = value_spelling (d.symbol b) ++ (value_spelling (d.string t) ++ (i ++ [])) in
    let ys = value_spelling (d.symbol c) ++ [] in
    let same = same_list (is_short 3 xs) (is_short 1 ys) 3 1 xs ys (omega arith) (omega arith) (ap (drop 3) e) in
    absurd (let h = same.count in omega (arith, h))
same_error b None None c (Some j) few e =
    let xs = value_spelling (d.symbol b) ++ [] in
    let ys = value_spelling (d.symbol c) ++ (0x40 ∷ (j ++ [])) in
    let same = same_list (is_short 1 xs) (is_short 3 ys) 1 3 xs ys (omega arith) (omega arith) (ap (drop 3) e) in
    absurd (let h = same.count in omega (arith, h))
same_error b (Some t) None c (Some j) few e =
    let xs = value_spelling (d.symbol b) ++ (value_spelling (d.string t) ++ []) in
    let ys = value_spelling (d.symbol c) ++ (0x40 ∷ (j ++ [])) in
    let same = same_list (is_short 2 xs) (is_short 3 ys) 2 3 xs ys (omega arith) (omega arith) (ap (drop 3) e) in
    absurd (let h = same.count in omega (arith, h))
same_error b None (Some i) c (Some j) few e =
    let xs = value_spelling (d.symbol b) ++ (0x40 ∷ (i ++ [])) in
    let ys = value_spelling (d.symbol c) ++ (0x40 ∷ (j ++ [])) in
    let same = same_list (is_short 3 xs) (is_short 3 ys) 3 3 xs ys (omega arith) (omega arith) (ap (drop 3) e) in
    (refl, short_too b c few (same_symbol b c (0x40 ∷ (i ++ [])) (0x40 ∷ (j ++ [])) few same.inside).0)
same_error b (Some t) (Some i) c (Some j) few e =
    let xs = value_spelling (d.symbol b) ++ (value_spelling (d.string t) ++ (i ++ [])) in
    let ys = value_spelling (d.symbol c) ++ (0x40 ∷ (j ++ [])) in
    let same = same_list (is_short 3 xs) (is_short 3 ys) 3 3 xs ys (omega arith) (omega arith) (ap (drop 3) e) in
    absurd (described_not_null t (i ++ []) (j ++ []) (same_symbol b c (value_spelling (d.string t) ++ (i ++ [])) (0x40 ∷ (j ++ [])) few same.inside).1)

-- Such an error is kept as it is.

not_above : (len most : ℕ) → nat_lt most len ≡ false → len ≤ most
not_above len most h = grind (arith, h)

not_over : (len most : ℕ) → len ≤ most → nat_lt most len ≡ false
not_over len most l = grind (arith, nat_tests)

condition_short : (text : List ℕ) → length (kept_condition text) ≤ 128
condition_short text = by (nat_lt 128 (length text)) refl
  where
    by : (q : Bool) → nat_lt 128 (length text) ≡ q → length (if q then codes "amqp:internal-error" else text) ≤ 128
    by true e = omega arith
    by false e = not_above (length text) 128 e

plain_kept : (f : Fault) → Plain f.condition f.description → kept_error f ≡ f
plain_kept f plain =
    ap (λ (c : List ℕ). record { condition = c; description = None; info = f.info }) same
    ∙ ap (λ (q : Option (List ℕ)). record { condition = f.condition; description = q; info = f.info }) (sym plain.0)
  where
    same : kept_condition f.condition ≡ f.condition
    same = rw (not_over (length f.condition) 128 plain.1) refl

-- An outcome whose encoding is that of a kept one has no description either.

abbrev rejected : Option Fault → DeliveryState
rejected e = state.Rejected (record { error = e })

rejected_plain : (f : Fault) (c : List ℕ) (info : FieldText) → length c ≤ 128
    → state_spelling (rejected (Some f)) ≡ state_spelling (rejected (Some (record { condition = c; description = None; info = info }))) → kept_error f ≡ f
unfolding state_spelling described_text given
rejected_plain f c info few e =
    let xs = error_of f.condition f.description f.info ++ [] in
    let ys = error_of c None info ++ [] in
    let same = same_list (is_short 1 xs) (is_short 1 ys) 1 1 xs ys (omega arith) (omega arith) (ap (drop 3) e) in
    plain_kept f (same_error f.condition f.description f.info c info few
    (sym (append-nil (error_of f.condition f.description f.info)) ∙ same.inside ∙ append-nil (error_of c None info)))

rejected_some : (f : Fault) → state_spelling (rejected (Some f)) ≡ state_spelling (rejected None) → ⊥
unfolding state_spelling described_text given
rejected_some f e = by (is_short 1 (error_of f.condition f.description f.info ++ [])) (ap (λ l. first (drop 3 l)) e)
  where
    by : (q : Bool) → first (text_by q 1 (error_of f.condition f.description f.info ++ [])) ≡ 0x45 → ⊥
    by true h = omega (arith, h)
    by false h = omega (arith, h)

pick : (P : DeliveryState → Type 0) (q : Bool) (x y : DeliveryState) → P x → P y → P (if q then x else y)
pick P true x y one other = one
pick P false x y one other = other

-- the code of its descriptor
abbrev HasCode : ℕ → DeliveryState → Type 0
HasCode n s = first (drop 2 (state_spelling s)) ≡ n

accepted_code : HasCode 0x24 state.Accepted
unfolding state_spelling described_text
accepted_code = refl

released_code : HasCode 0x26 state.Released
unfolding state_spelling described_text
released_code = refl

modified_code : (m : Modified) → HasCode 0x27 (state.Modified m)
unfolding state_spelling described_text
modified_code m = refl

rejected_code : (e : Option Fault) → HasCode 0x25 (rejected e)
unfolding state_spelling described_text
rejected_code e = refl

other_code : (f : Fault) (s : DeliveryState) (n : ℕ) → HasCode n s → (n ≡ 0x25 → ⊥) → state_spelling (rejected (Some f)) ≡ state_spelling s → kept_error f ≡ f
other_code f s n code differs e = absurd (differs (sym code ∙ ap (λ l. first (drop 2 l)) (sym e) ∙ rejected_code (Some f)))

error_kept : (s : DeliveryState) → IsTerminal s → (f : Fault) → state_spelling (rejected (Some f)) ≡ state_spelling (kept_outcome s) → kept_error f ≡ f
error_kept (state.Received r) terminal f = absurd terminal
error_kept (state.Other v) terminal f = absurd terminal
error_kept state.Accepted terminal f =
    other_code f (kept_outcome state.Accepted) 0x24 (pick (HasCode 0x24) (nat_lt 400 (length (state_spelling state.Accepted))) state.Accepted state.Accepted accepted_code accepted_code)
    (λ h. omega (arith, h))
error_kept state.Released terminal f =
    other_code f (kept_outcome state.Released) 0x26 (pick (HasCode 0x26) (nat_lt 400 (length (state_spelling state.Released))) state.Released state.Released released_code released_code)
    (λ h. omega (arith, h))
error_kept (state.Modified m) terminal f =
    other_code f (kept_outcome (state.Modified m)) 0x27
    (pick (HasCode 0x27) (nat_lt 400 (length (state_spelling (state.Modified m)))) (bare (state.Modified m)) (state.Modified m) (modified_code (record m { message_annotations = None })) (modified_code m))
    (λ h. omega (arith, h))
error_kept (state.Rejected r) terminal f = by r.error
  where
    Is : DeliveryState → Type 0
    Is x = state_spelling (rejected (Some f)) ≡ state_spelling x → kept_error f ≡ f

    by : (e : Option Fault) → Is (unless_long (rejected (option_map kept_error e)))
    by None = pick Is (nat_lt 400 (length (state_spelling (rejected None)))) (rejected None) (rejected None) (λ e. absurd (rejected_some f e)) (λ e. absurd (rejected_some f e))
    by (Some g) =
        pick Is (nat_lt 400 (length (state_spelling (rejected (Some (kept_error g)))))) (bare (rejected (Some (kept_error g)))) (rejected (Some (kept_error g)))
        (rejected_plain f (kept_condition g.condition) None (condition_short g.condition)) (rejected_plain f (kept_condition g.condition) g.info (condition_short g.condition))

described_same : (s o : DeliveryState) → IsTerminal s → state_spelling o ≡ state_spelling (kept_outcome s) → undescribed o ≡ o
described_same s (state.Rejected r) terminal e = ap rejected (by r.error e)
  where
    by : (v : Option Fault) → state_spelling (rejected v) ≡ state_spelling (kept_outcome s) → option_map kept_error v ≡ v
    by None e = refl
    by (Some f) e = ap (λ (g : Fault). Some g) (error_kept s terminal f e)
described_same s _ terminal e = refl

-- what the journal has of an outcome

still_undescribed : (s : DeliveryState) → IsTerminal s → undescribed (kept_form s) ≡ kept_form s
still_undescribed s terminal = by (written_outcome (kept_outcome s)) refl
  where
    by : (v : Option DeliveryState) → written_outcome (kept_outcome s) ≡ v → undescribed (unwrap_or v failed) ≡ unwrap_or v failed
    by None e = refl
    by (Some o) e = described_same s o terminal (is_kept (kept_outcome s) o e).same

pub long_kept : (s : DeliveryState) → length (state_spelling s) ≤ 400 → unless_long s ≡ s
long_kept s few = rw (not_over (length (state_spelling s)) 400 few) refl

pub form_kept : (s : DeliveryState) → IsTerminal s → kept_outcome (kept_form s) ≡ kept_form s
form_kept s terminal = ap unless_long (still_undescribed s terminal) ∙ long_kept (kept_form s) (written_is_short (kept_outcome s))

pub form_itself : (s : DeliveryState) → journal_outcome (journal_outcome s) ≡ journal_outcome s
form_itself s = ap (λ (v : Option DeliveryState). unwrap_or v failed) (keeps_itself (journal_outcome s) (written_is_outcome s) (written_is_short s))

pub kept_twice : (s : DeliveryState) → IsTerminal s → kept_form (kept_form s) ≡ kept_form s
kept_twice s terminal = ap journal_outcome (form_kept s terminal) ∙ form_itself (kept_outcome s)

-- Only accepted is kept as accepted.

two_codes : (s : DeliveryState) (n m : ℕ) → HasCode n s → HasCode m s → (n ≡ m → ⊥) → ⊥
two_codes s n m one other differs = differs (sym one ∙ other)

accepted_spelt : (s : DeliveryState) → IsTerminal s → HasCode 0x24 (kept_outcome s) → s ≡ state.Accepted
accepted_spelt (state.Received r) terminal code = absurd terminal
accepted_spelt (state.Other v) terminal code = absurd terminal
accepted_spelt state.Accepted terminal code = refl
accepted_spelt state.Released terminal code =
    absurd (two_codes (kept_outcome state.Released) 0x26 0x24
    (pick (HasCode 0x26) (nat_lt 400 (length (state_spelling state.Released))) state.Released state.Released released_code released_code) code (λ h. omega (arith, h)))
accepted_spelt (state.Modified m) terminal code =
    absurd (two_codes (kept_outcome (state.Modified m)) 0x27 0x24
    (pick (HasCode 0x27) (nat_lt 400 (length (state_spelling (state.Modified m)))) (bare (state.Modified m)) (state.Modified m) (modified_code (record m { message_annotations = None })) (modified_code m)) code
    (λ h. omega (arith, h)))
accepted_spelt (state.Rejected r) terminal code =
    let e : Option Fault = option_map kept_error r.error in
    absurd (two_codes (kept_outcome (state.Rejected r)) 0x25 0x24
    (pick (HasCode 0x25) (nat_lt 400 (length (state_spelling (rejected e)))) (bare (rejected e)) (rejected e) (rejected_code (option_map without_info e)) (rejected_code e)) code (λ h. omega (arith, h)))

failed_not : failed ≡ state.Accepted → ⊥
failed_not e = cc

pub accepted_back : (s : DeliveryState) → IsTerminal s → kept_form s ≡ state.Accepted → s ≡ state.Accepted
accepted_back s terminal is = by (written_outcome (kept_outcome s)) refl is
  where
    by : (v : Option DeliveryState) → written_outcome (kept_outcome s) ≡ v → unwrap_or v failed ≡ state.Accepted → s ≡ state.Accepted
    by None e is = absurd (failed_not is)
    by (Some o) e is =
        accepted_spelt s terminal
        (ap (λ (l : List ℕ). first (drop 2 l)) (sym (is_kept (kept_outcome s) o e).same ∙ ap state_spelling is) ∙ accepted_code)

accepted_short : length (state_spelling state.Accepted) ≤ 400
unfolding state_spelling described_text given
accepted_short = omega arith

pub accepted_itself : journal_outcome state.Accepted ≡ state.Accepted
accepted_itself = ap (λ (v : Option DeliveryState). unwrap_or v failed) (keeps_itself state.Accepted (is_outcome state.Accepted tt tt) accepted_short)

-- To keep an outcome as the router does once more changes nothing either.

error_again : (f : Fault) → kept_error (kept_error f) ≡ kept_error f
error_again f = plain_kept (kept_error f) (refl, condition_short f.condition)

undescribed_again : (s : DeliveryState) → undescribed (undescribed s) ≡ undescribed s
undescribed_again (state.Rejected r) = ap rejected (by r.error)
  where
    by : (v : Option Fault) → option_map kept_error (option_map kept_error v) ≡ option_map kept_error v
    by None = refl
    by (Some f) = ap (λ (g : Fault). Some g) (error_again f)
undescribed_again _ = refl

bare_undescribed : (s : DeliveryState) → undescribed (bare (undescribed s)) ≡ bare (undescribed s)
bare_undescribed (state.Rejected r) = ap rejected (by r.error)
  where
    by : (v : Option Fault) → option_map kept_error (option_map without_info (option_map kept_error v)) ≡ option_map without_info (option_map kept_error v)
    by None = refl
    by (Some f) = ap (λ (g : Fault). Some g) (plain_kept (without_info (kept_error f)) (refl, condition_short f.condition))
bare_undescribed _ = refl

bare_again : (s : DeliveryState) → bare (bare s) ≡ bare s
bare_again (state.Rejected r) = ap rejected (by r.error)
  where
    by : (v : Option Fault) → option_map without_info (option_map without_info v) ≡ option_map without_info v
    by None = refl
    by (Some f) = refl
bare_again _ = refl

pub kept_again : (s : DeliveryState) → kept_outcome (kept_outcome s) ≡ kept_outcome s
kept_again s = by (nat_lt 400 (length (state_spelling u))) refl
  where
    u : DeliveryState
    u = undescribed s

    twice : (q : Bool) → (if q then bare (bare u) else bare u) ≡ bare u
    twice true = bare_again u
    twice false = refl

    by : (q : Bool) → nat_lt 400 (length (state_spelling u)) ≡ q → unless_long (undescribed (if q then bare u else u)) ≡ (if q then bare u else u)
    by true e = ap unless_long (bare_undescribed s) ∙ twice (nat_lt 400 (length (state_spelling (bare u))))
    by false e = ap unless_long (undescribed_again s) ∙ ap (λ (q : Bool). if q then bare u else u) e
