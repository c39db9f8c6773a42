-- A batch of one act.
use Rattle.std.proofs.Common.{◌≡◌, ◌≢◌, ℕ, ◌≤◌, ◌&&◌, Bool, true, false, List, [], ◌∷◌, ◌++◌, length, None, refl, arith, length-append}
use Rattle.std.specs.Prelude.{nat_lt, nat_le, not, ◌==◌}
use Rattle.std.specs.List.{list_any}
use Rattle.std.proofs.lemmas.Bool.Decides.{nat_tests}
use Rattle.book_model.specs.declared.act.Act.{Act}
use Rattle.book_model.specs.declared.act.Act.TheVariants.{Make, Drop}
use Rattle.book_model.specs.declared.fault.BookFault.TheVariants.{NoTerminus, Limit}
use Rattle.book_model.specs.declared.terminus.Terminus.{Terminus}
use Rattle.book_model.specs.declared.terminus.TerminusNumber.{TerminusNumber}
use Rattle.book_model.specs.Book.{BookView, refusal, make_refusal, first_fault, unless, same_key, is_short, has_short_texts}
use Rattle.journal_codec.specs.Format.{in_2, in_8, role_byte, text_bytes, act_bytes}
use Rattle.gate_journal.specs.Reserve.{is_full}
use Rattle.gate_journal.proofs.Fulls.{not_full_tested}
use Rattle.gate_journal.proofs.Releases.{releases_fit}
use Rattle.journal_codec.proofs.Spelled.{length-in_2, length-in_8}
use Rattle.journal_store.proofs.Conditions.{holds, next_holds}

-- what a batch needs
pub one_some : (act : Act) → act ∷ [] ≢ []
one_some act e = absurd cc

pub one_applies : (b : BookView) (act : Act) → refusal b act ≡ None → first_fault b (act ∷ []) ≡ None
unfolding first_fault
one_applies b act applies = rw applies refl

-- the bytes of a text that isn't long
short : (n : ℕ) → nat_le n 1024 ≡ true → n ≤ 1024
short n t = grind (arith, nat_tests)

text_small : (text : List ℕ) → is_short text ≡ true → length (text_bytes text) ≤ 1026
text_small text t = omega (arith, short (length text) t, length-in_2 (length text), length-append (in_2 (length text)) text)

all_four : (a b c d : Bool) → (a && b && c && d) ≡ true → (a ≡ true) × (b ≡ true) × (c ≡ true) × (d ≡ true)
all_four true true true true e = (refl, refl, refl, refl)
all_four true true true false e = absurd cc
all_four true true false d e = absurd cc
all_four true false c d e = absurd cc
all_four false b c d e = absurd cc

pub make_short : (b : BookView) (t : Terminus) → make_refusal b t ≡ None → length (act_bytes (Make t)) ≤ 4114
unfolding act_bytes
make_short b t applies =
    let short_texts = unless (has_short_texts t) Limit None in
    let few = unless (nat_lt (length b.termini) 1024) Limit short_texts in
    let other = unless (not (list_any (λ (u : Terminus). same_key u.key t.key) b.termini)) NoTerminus few in
    let texts =
    all_four (is_short t.key.user) (is_short t.key.container) (is_short t.key.name) (is_short t.address)
    (holds (has_short_texts t) Limit None
    (next_holds (nat_lt (length b.termini) 1024) Limit short_texts
    (next_holds (not (list_any (λ (u : Terminus). same_key u.key t.key) b.termini)) NoTerminus few
    (next_holds (t.number.0 == b.next_terminus) NoTerminus other applies)))) in
    let start = (1 ∷ []) ++ in_8 t.number.0 ++ (role_byte t.key.role ∷ []) in
    let user = start ++ text_bytes t.key.user in
    let container = user ++ text_bytes t.key.container in
    let name = container ++ text_bytes t.key.name in
    omega (
      arith,
      text_small t.key.user texts.0,
      text_small t.key.container texts.1,
      text_small t.key.name texts.2,
      text_small t.address texts.3,
      length-in_8 t.number.0,
      length-append (1 ∷ []) (in_8 t.number.0),
      length-append ((1 ∷ []) ++ in_8 t.number.0) (role_byte t.key.role ∷ []),
      length-append start (text_bytes t.key.user),
      length-append user (text_bytes t.key.container),
      length-append container (text_bytes t.key.name),
      length-append name (text_bytes t.address),
    )

pub make_small : (b : BookView) (t : Terminus) → make_refusal b t ≡ None → length (act_bytes (Make t)) ≤ 4194304
make_small b t applies = let short = make_short b t applies in omega (arith, short)

pub drop_small : (n : TerminusNumber) → length (act_bytes (Drop n)) ≤ 4194304
unfolding act_bytes
drop_small n = omega (arith, length-in_8 n.0)

-- a journal is never too full to drop a terminus
pub drop_fits : (n : TerminusNumber) (used kept : ℕ) → is_full used kept (Drop n ∷ []) ≡ false
drop_fits n used kept = not_full_tested used kept (Drop n ∷ []) (λ full. releases_fit (Drop n ∷ []) (one_some (Drop n)) (tt, tt) full.0)
