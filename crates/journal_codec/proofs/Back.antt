-- What is encoded is read back.
use Rattle.std.proofs.Common.{◌≡◌, ℕ, ◌<◌, ◌≤◌, ◌^◌, true, false, List, [], ◌∷◌, ◌++◌, length, Option, Some, None, Ok, refl, ap, ◌∙◌, arith, append_assoc}
use Rattle.std.specs.Prelude.{nat_lt, ◌==◌}
use Rattle.std.specs.Int.{w16, w32}
use Rattle.std.specs.Cmp.Lexicographic.{pointwise, bytes_decides}
use Rattle.std.proofs.lemmas.Bool.Decides.{nat_tests}
use Rattle.std.proofs.lemmas.Str.{is_utf8-from_IsUtf8}
use Rattle.amqp_model.specs.declared.state.DeliveryState.{DeliveryState}
use Rattle.amqp_model.specs.declared.state.DeliveryState.TheVariants as states
use Rattle.amqp_model.specs.PerfSpelling.{state_spelling}
use Rattle.book_model.specs.declared.act.Act.{Act}
use Rattle.book_model.specs.declared.act.Act.TheVariants.{Make, Admit, Decide, Forget, Drop}
use Rattle.book_model.specs.declared.act.Admission.{Admission}
use Rattle.book_model.specs.declared.act.Decision.{Decision}
use Rattle.book_model.specs.declared.terminus.LinkRole.{LinkRole}
use Rattle.book_model.specs.declared.terminus.LinkRole.TheVariants.{Producer, Consumer}
use Rattle.book_model.specs.declared.terminus.Terminus.{Terminus}
use Rattle.book_model.specs.declared.terminus.TerminusNumber.{TerminusNumber}
use Rattle.journal_codec.specs.Format.{in_2, in_4, in_8, text_bytes, role_byte, or_zero, act_bytes}
use Rattle.journal_codec.specs.Batches.{IsText, IsTerminal, IsOutcome, IsAboveZero, IsMake, IsAdmission, IsWritable}
use Rattle.journal_codec.specs.Reading.{number_at, chunk_at, sized_at, text_by, text_at, role_at, make_at, tag_at, terminus_or_none, payload_at, admission_at, is_terminal, outcome_of, decision_at, act_behind, act_at}
use Rattle.journal_codec.proofs.Joins.{split_4, split_7, split_9}
use Rattle.journal_codec.proofs.Tools.{done, goes, back_2, back_4, back_8, chunk_back}

sized_back : (t rest : List ℕ) → length t < 2 ^ 16 → sized_at (text_bytes t ++ rest) ≡ Ok (t, rest)
unfolding sized_at
sized_back t rest l =
    rw (append_assoc (in_2 (length t)) t rest)
    (goes (number_at w16 (in_2 (length t) ++ (t ++ rest))) (λ (size : ℕ × List ℕ). chunk_at size.0 size.1) (length t, t ++ rest) (back_2 (length t) (t ++ rest) l) ∙ chunk_back t rest)

text_back : (t rest : List ℕ) → IsText t → text_at (text_bytes t ++ rest) ≡ Ok (t, rest)
unfolding text_at
text_back t rest h =
    goes (sized_at (text_bytes t ++ rest)) text_by (t, rest) (sized_back t rest h.short) ∙ (rw (is_utf8-from_IsUtf8 t h.utf8) refl)

role_back : (role : LinkRole) (rest : List ℕ) → role_at (role_byte role ∷ rest) ≡ Ok (role, rest)
unfolding role_at
role_back Producer rest = refl
role_back Consumer rest = refl

make_back : (t : Terminus) (rest : List ℕ) → IsMake t
    → make_at (in_8 t.number.0 ++ (role_byte t.key.role ∷ (text_bytes t.key.user ++ (text_bytes t.key.container ++ (text_bytes t.key.name ++ (text_bytes t.address ++ rest)))))) ≡ Ok (t, rest)
unfolding make_at
make_back t rest h =
    rw (back_8 t.number.0 (role_byte t.key.role ∷ (text_bytes t.key.user ++ (text_bytes t.key.container ++ (text_bytes t.key.name ++ (text_bytes t.address ++ rest))))) h.number)
    (rw (role_back t.key.role (text_bytes t.key.user ++ (text_bytes t.key.container ++ (text_bytes t.key.name ++ (text_bytes t.address ++ rest)))))
    (rw (text_back t.key.user (text_bytes t.key.container ++ (text_bytes t.key.name ++ (text_bytes t.address ++ rest))) h.user)
    (rw (text_back t.key.container (text_bytes t.key.name ++ (text_bytes t.address ++ rest)) h.container)
    (rw (text_back t.key.name (text_bytes t.address ++ rest) h.name)
    (rw (text_back t.address rest h.address) refl)))))

not_above : (n : ℕ) → n ≤ 32 → nat_lt 32 n ≡ false
not_above n l = grind (arith, nat_tests)

tag_back : (tag rest : List ℕ) → length tag ≤ 32 → tag_at (length tag ∷ (tag ++ rest)) ≡ Ok (tag, rest)
unfolding tag_at
tag_back tag rest l = rw (not_above (length tag) l) (chunk_back tag rest)

consumer_back : (c : Option TerminusNumber) → IsAboveZero c → terminus_or_none (or_zero c) ≡ c
consumer_back None h = refl
consumer_back (Some n) h = rw (let above : (n.0 == 0) ≡ false = grind (arith, nat_tests) in above) refl

payload_back : (payload rest : List ℕ) → length payload < 2 ^ 32 → payload_at (in_4 (length payload) ++ (payload ++ rest)) ≡ Ok (payload, rest)
unfolding payload_at
payload_back payload rest l =
    goes (number_at w32 (in_4 (length payload) ++ (payload ++ rest))) (λ (size : ℕ × List ℕ). chunk_at size.0 size.1) (length payload, payload ++ rest) (back_4 (length payload) (payload ++ rest) l) ∙ chunk_back payload rest

admission_back : (a : Admission) (rest : List ℕ) → IsAdmission a
    → admission_at (in_8 a.row.0 ++ (in_8 a.producer.0 ++ (length a.tag.items ∷ (a.tag.items ++ (in_8 (or_zero a.consumer) ++ (in_4 a.format ++ (in_4 (length a.payload) ++ (a.payload ++ rest)))))))) ≡ Ok (a, rest)
unfolding admission_at
admission_back a rest h =
    rw (back_8 a.row.0 (in_8 a.producer.0 ++ (length a.tag.items ∷ (a.tag.items ++ (in_8 (or_zero a.consumer) ++ (in_4 a.format ++ (in_4 (length a.payload) ++ (a.payload ++ rest))))))) h.row)
    (rw (back_8 a.producer.0 (length a.tag.items ∷ (a.tag.items ++ (in_8 (or_zero a.consumer) ++ (in_4 a.format ++ (in_4 (length a.payload) ++ (a.payload ++ rest)))))) h.producer)
    (rw (tag_back a.tag.items (in_8 (or_zero a.consumer) ++ (in_4 a.format ++ (in_4 (length a.payload) ++ (a.payload ++ rest)))) h.tag)
    (rw (back_8 (or_zero a.consumer) (in_4 a.format ++ (in_4 (length a.payload) ++ (a.payload ++ rest))) h.consumer)
    (rw (back_4 a.format (in_4 (length a.payload) ++ (a.payload ++ rest)) h.format)
    (rw (payload_back a.payload rest h.payload)
    (ap (λ (c : Option TerminusNumber). done (record a { consumer = c }) rest) (consumer_back a.consumer h.above_zero)))))))

terminal_back : (s : DeliveryState) → IsTerminal s → is_terminal s ≡ true
terminal_back (states.Received r) h = absurd h
terminal_back states.Accepted h = refl
terminal_back (states.Rejected r) h = refl
terminal_back states.Released h = refl
terminal_back (states.Modified m) h = refl
terminal_back (states.Other v) h = absurd h

same_bytes : (bytes : List ℕ) → pointwise ◌==◌ bytes bytes ≡ true
same_bytes bytes = (bytes_decides bytes bytes).1 refl

same_length : (n : ℕ) → (n == n) ≡ true
same_length n = grind (arith, nat_tests)

pub outcome_back : (s : DeliveryState) → IsOutcome s → outcome_of (state_spelling s) ≡ Ok s
unfolding outcome_of
outcome_back s h = rw h.reads_back (rw (same_length (length (state_spelling s)), terminal_back s h.terminal, same_bytes (state_spelling s)) refl)

decision_back : (d : Decision) (rest : List ℕ) → d.row.0 < 2 ^ 64 → length (state_spelling d.outcome) < 2 ^ 16 → IsOutcome d.outcome
    → decision_at (in_8 d.row.0 ++ (text_bytes (state_spelling d.outcome) ++ rest)) ≡ Ok (d, rest)
unfolding decision_at
decision_back d rest row short is =
    rw (back_8 d.row.0 (text_bytes (state_spelling d.outcome) ++ rest) row)
    (rw (sized_back (state_spelling d.outcome) rest short)
    (rw (outcome_back d.outcome is) refl))

-- Each act, whatever follows.
pub act_back : (act : Act) (rest : List ℕ) → IsWritable act → act_at (act_bytes act ++ rest) ≡ Ok (act, rest)
unfolding act_at act_behind act_bytes
act_back (Make t) rest h =
    ap act_at (split_7 (1 ∷ []) (in_8 t.number.0) (role_byte t.key.role ∷ []) (text_bytes t.key.user) (text_bytes t.key.container) (text_bytes t.key.name) (text_bytes t.address) rest)
    ∙ (rw (make_back t rest h) refl)
act_back (Admit a) rest h =
    ap act_at (split_9 (2 ∷ []) (in_8 a.row.0) (in_8 a.producer.0) (length a.tag.items ∷ []) a.tag.items (in_8 (or_zero a.consumer)) (in_4 a.format) (in_4 (length a.payload)) a.payload rest)
    ∙ (rw (admission_back a rest h) refl)
act_back (Decide d) rest h =
    ap act_at (split_4 (3 ∷ []) (in_8 d.row.0) (in_2 (length (state_spelling d.outcome))) (state_spelling d.outcome) rest)
    ∙ (rw (decision_back d rest h.0 h.1 h.2) refl)
act_back (Forget n) rest h = rw (back_8 n.0 rest h) refl
act_back (Drop n) rest h = rw (back_8 n.0 rest h) refl
