-- What is read is encoded that way.
use Rattle.std.proofs.Common.{◌≡◌, ℕ, ◌<◌, ◌≤◌, ◌^◌, Bool, true, false, List, [], ◌∷◌, ◌++◌, length, Result, Ok, Err, refl, sym, ap, ◌∙◌, subst, arith, append_assoc}
use Rattle.std.specs.Prelude.{nat_lt, ◌==◌, ◌&&◌}
use Rattle.std.specs.Int.{w16, w32, w64}
use Rattle.std.specs.Str.{is_utf8}
use Rattle.std.specs.Cmp.Lexicographic.{pointwise, bytes_decides}
use Rattle.std.proofs.lemmas.Bool.Decides.{nat_tests}
use Rattle.std.proofs.lemmas.Str.{IsUtf8-from_is_utf8}
use Rattle.amqp_model.specs.declared.state.DeliveryState.{DeliveryState}
use Rattle.amqp_model.specs.declared.state.DeliveryState.TheVariants as states
use Rattle.amqp_model.specs.declared.perf_fault.PerfFault.{PerfFault}
use Rattle.amqp_perf.specs.Performative.{state as state_at}
use Rattle.amqp_model.specs.PerfSpelling.{state_spelling}
use Rattle.book_model.specs.declared.act.Act.{Act}
use Rattle.book_model.specs.declared.act.Act.TheVariants.{Make, Admit, Decide, Forget, Drop}
use Rattle.book_model.specs.declared.act.Admission.{Admission}
use Rattle.book_model.specs.declared.act.Decision.{Decision}
use Rattle.book_model.specs.declared.terminus.LinkRole.{LinkRole}
use Rattle.book_model.specs.declared.terminus.LinkRole.TheVariants.{Producer, Consumer}
use Rattle.book_model.specs.declared.terminus.Terminus.{Terminus}
use Rattle.journal_codec.specs.Format.{in_2, in_4, in_8, text_bytes, role_byte, or_zero, make_bytes, admit_bytes, decide_bytes, act_bytes}
use Rattle.journal_codec.specs.Batches.{IsText, IsTerminal, IsOutcome, IsAboveZero, IsMake, IsAdmission, IsWritable}
use Rattle.journal_codec.specs.Reading.{number_at, chunk_at, sized_at, text_by, text_at, role_of, role_at, make_at, tag_at, terminus_or_none, payload_at, admission_at, is_terminal, outcome_by, outcome_of, decision_at, act_behind, act_at}
use Rattle.journal_codec.proofs.Joins.{split_4, split_7}
use Rattle.journal_codec.proofs.Tools.{done, bind_ok, same_both, same_read, same_rest, AreBytes, bytes_behind, forth_2, forth_4, forth_8, chunk_forth, by_test}

-- some bytes are an encoding first, then others follow
pub record Leads (bytes spelled rest : List ℕ) : Type 0 where
  pub is : bytes ≡ spelled ++ rest
  pub bytes_left : AreBytes rest

left : (spelled rest bytes : List ℕ) → bytes ≡ spelled ++ rest → AreBytes bytes → AreBytes rest
left spelled rest bytes e h = let P : List ℕ → Type 0 = λ l. AreBytes l in bytes_behind spelled rest (subst P e h)

record IsSized (bytes text rest : List ℕ) : Type 0 where
  pub leads : Leads bytes (text_bytes text) rest
  pub short : length text < 2 ^ 16

sized_forth : (bytes text rest : List ℕ) → AreBytes bytes → sized_at bytes ≡ Ok (text, rest) → IsSized bytes text rest
unfolding sized_at
sized_forth bytes text rest h e =
    let b = bind_ok (number_at w16 bytes) (λ (size : ℕ × List ℕ). chunk_at size.0 size.1) (text, rest) e in
    let n = forth_2 bytes b.read.1 b.read.0 h b.is in
    let c = chunk_forth b.read.0 b.read.1 text rest b.gives in
    record {
      leads = record {
        is = n.is ∙ ap (λ (l : List ℕ). in_2 b.read.0 ++ l) c.is ∙ ap (λ (m : ℕ). in_2 m ++ (text ++ rest)) (sym c.size_is) ∙ sym (append_assoc (in_2 (length text)) text rest);
        bytes_left = left text rest b.read.1 c.is n.bytes_left;
      };
      short = omega (arith, n.fits, c.size_is);
    }

record IsTextRead (bytes text rest : List ℕ) : Type 0 where
  pub leads : Leads bytes (text_bytes text) rest
  pub text_is : IsText text

text_forth : (bytes text rest : List ℕ) → AreBytes bytes → text_at bytes ≡ Ok (text, rest) → IsTextRead bytes text rest
unfolding text_at
text_forth bytes text rest h e =
    let b = bind_ok (sized_at bytes) text_by (text, rest) e in
    by_test (is_utf8 b.read.0)
    (λ t.
    let so = rw t at b.gives in
    let same = same_read b.read.0 text b.read.1 rest so in
    let same_behind = same_rest b.read.0 text b.read.1 rest so in
    let P : List ℕ → List ℕ → Type 0 = λ l m. sized_at bytes ≡ Ok (l, m) in
    let read : sized_at bytes ≡ Ok (text, rest) = b.is ∙ so in
    let s = sized_forth bytes text rest h read in
    record { leads = s.leads; text_is = record { utf8 = IsUtf8-from_is_utf8 text (ap is_utf8 (sym same) ∙ t); short = s.short } })
    (λ t. absurd (let no = rw t at b.gives in cc))

equal : (a b : ℕ) → (a == b) ≡ true → a ≡ b
equal a b e = grind (arith, nat_tests)

role_forth : (bytes rest : List ℕ) (role : LinkRole) → AreBytes bytes → role_at bytes ≡ Ok (role, rest) → Leads bytes (role_byte role ∷ []) rest
unfolding role_at
role_forth [] rest role h e = absurd cc
role_forth (byte ∷ behind) rest role h e =
    let b = bind_ok (role_of byte) (λ (r : LinkRole). done r behind) (role, rest) e in
    let same = same_read b.read role behind rest b.gives in
    let same_behind = same_rest b.read role behind rest b.gives in
    let read : role_of byte ≡ Ok role = b.is ∙ ap (λ (r : LinkRole). Ok r) same in
    let is : byte ∷ behind ≡ role_byte role ∷ [] ++ rest = ap (λ (n : ℕ). n ∷ behind) (by_role role read) ∙ ap (λ (l : List ℕ). role_byte role ∷ l) same_behind in
    record { is = is; bytes_left = left (role_byte role ∷ []) rest (byte ∷ behind) is h }
  where
    by_role : (role : LinkRole) → role_of byte ≡ Ok role → byte ≡ role_byte role
    by_role Producer r = by_test (byte == 0) (λ t. equal byte 0 t) (λ t. by_test (byte == 1) (λ u. absurd (let no = rw (t, u) at r in cc)) (λ u. absurd (let no = rw (t, u) at r in cc)))
    by_role Consumer r = by_test (byte == 0) (λ t. absurd (let no = rw t at r in cc)) (λ t. by_test (byte == 1) (λ u. equal byte 1 u) (λ u. absurd (let no = rw (t, u) at r in cc)))

-- A terminus, after its kind.
record IsTerminusRead (bytes : List ℕ) (t : Terminus) (rest : List ℕ) : Type 0 where
  pub is : 1 ∷ bytes ≡ make_bytes t ++ rest
  pub bytes_left : AreBytes rest
  pub make : IsMake t

abbrev read_terminus : ℕ → LinkRole → List ℕ → List ℕ → List ℕ → List ℕ → Terminus
read_terminus n role user container name address = record { number = record { 0 = n }; key = record { role = role; user = user; container = container; name = name }; address = address }

make_forth : (bytes rest : List ℕ) (t : Terminus) → AreBytes bytes → make_at bytes ≡ Ok (t, rest) → IsTerminusRead bytes t rest
unfolding make_at
make_forth bytes rest t h e =
    let b = bind_ok (number_at w64 bytes) _ (t, rest) e in
    let n = forth_8 bytes b.read.1 b.read.0 h b.is in
    let c = bind_ok (role_at b.read.1) _ (t, rest) b.gives in
    let role = role_forth b.read.1 c.read.1 c.read.0 n.bytes_left c.is in
    let d = bind_ok (text_at c.read.1) _ (t, rest) c.gives in
    let user = text_forth c.read.1 d.read.0 d.read.1 role.bytes_left d.is in
    let f = bind_ok (text_at d.read.1) _ (t, rest) d.gives in
    let container = text_forth d.read.1 f.read.0 f.read.1 user.leads.bytes_left f.is in
    let g = bind_ok (text_at f.read.1) _ (t, rest) f.gives in
    let name = text_forth f.read.1 g.read.0 g.read.1 container.leads.bytes_left g.is in
    let k = bind_ok (text_at g.read.1) _ (t, rest) g.gives in
    let address = text_forth g.read.1 k.read.0 k.read.1 name.leads.bytes_left k.is in
    let made = read_terminus b.read.0 c.read.0 d.read.0 f.read.0 g.read.0 k.read.0 in
    let P : Terminus × List ℕ → Type 0 = λ p. IsTerminusRead bytes p.0 p.1 in
    let whole : IsTerminusRead bytes made k.read.1 = record {
      is =
          ap (λ (l : List ℕ). 1 ∷ l)
          (n.is ∙ ap (λ (l : List ℕ). in_8 b.read.0 ++ l)
          (role.is ∙ ap (λ (l : List ℕ). role_byte c.read.0 ∷ [] ++ l)
          (user.leads.is ∙ ap (λ (l : List ℕ). text_bytes d.read.0 ++ l)
          (container.leads.is ∙ ap (λ (l : List ℕ). text_bytes f.read.0 ++ l)
          (name.leads.is ∙ ap (λ (l : List ℕ). text_bytes g.read.0 ++ l) address.leads.is)))))
          ∙ sym (split_7 (1 ∷ []) (in_8 b.read.0) (role_byte c.read.0 ∷ []) (text_bytes d.read.0) (text_bytes f.read.0) (text_bytes g.read.0) (text_bytes k.read.0) k.read.1);
      bytes_left = address.leads.bytes_left;
      make = record { number = n.fits; user = user.text_is; container = container.text_is; name = name.text_is; address = address.text_is };
    } in
    subst P (same_both made t k.read.1 rest k.gives) whole

-- An admission, after its kind.
record IsTagRead (bytes tag rest : List ℕ) : Type 0 where
  pub leads : Leads bytes (length tag ∷ tag) rest
  pub short : length tag ≤ 32

within_32 : (n : ℕ) → nat_lt 32 n ≡ false → n ≤ 32
within_32 n e = grind (arith, nat_tests)

tag_forth : (bytes tag rest : List ℕ) → AreBytes bytes → tag_at bytes ≡ Ok (tag, rest) → IsTagRead bytes tag rest
unfolding tag_at
tag_forth [] tag rest h e = absurd cc
tag_forth (size ∷ behind) tag rest h e =
    by_test (nat_lt 32 size)
    (λ t. absurd (let no = rw t at e in cc))
    (λ t.
    let so = rw t at e in
    let c = chunk_forth size behind tag rest so in
    let is : size ∷ behind ≡ (length tag ∷ tag) ++ rest = ap (λ (l : List ℕ). size ∷ l) c.is ∙ ap (λ (n : ℕ). n ∷ (tag ++ rest)) (sym c.size_is) in
    record { leads = record { is = is; bytes_left = left (length tag ∷ tag) rest (size ∷ behind) is h }; short = (let fits = within_32 size t in omega (arith, fits, c.size_is)) })

record IsPayloadRead (bytes payload rest : List ℕ) : Type 0 where
  pub leads : Leads bytes (in_4 (length payload) ++ payload) rest
  pub short : length payload < 2 ^ 32

payload_forth : (bytes payload rest : List ℕ) → AreBytes bytes → payload_at bytes ≡ Ok (payload, rest) → IsPayloadRead bytes payload rest
unfolding payload_at
payload_forth bytes payload rest h e =
    let b = bind_ok (number_at w32 bytes) (λ (size : ℕ × List ℕ). chunk_at size.0 size.1) (payload, rest) e in
    let n = forth_4 bytes b.read.1 b.read.0 h b.is in
    let c = chunk_forth b.read.0 b.read.1 payload rest b.gives in
    record {
      leads = record {
        is = n.is ∙ ap (λ (l : List ℕ). in_4 b.read.0 ++ l) c.is ∙ ap (λ (m : ℕ). in_4 m ++ (payload ++ rest)) (sym c.size_is) ∙ sym (append_assoc (in_4 (length payload)) payload rest);
        bytes_left = left payload rest b.read.1 c.is n.bytes_left;
      };
      short = omega (arith, n.fits, c.size_is);
    }

zero_or : (n : ℕ) → or_zero (terminus_or_none n) ≡ n
zero_or n = by_test (n == 0) (λ t. rw t (sym (equal n 0 t))) (λ t. rw t refl)

above_zero : (n : ℕ) → IsAboveZero (terminus_or_none n)
above_zero n = by_test (n == 0) (λ t. rw t tt) (λ t. rw t (let above : 0 < n = grind (arith, nat_tests) in above))

record IsAdmissionRead (bytes : List ℕ) (a : Admission) (rest : List ℕ) : Type 0 where
  pub is : 2 ∷ bytes ≡ admit_bytes a ++ rest
  pub bytes_left : AreBytes rest
  pub admission : IsAdmission a

abbrev read_admission : ℕ → ℕ → List ℕ → ℕ → ℕ → List ℕ → Admission
read_admission row producer tag consumer format payload = record { row = record { 0 = row }; producer = record { 0 = producer }; tag = record { items = tag }; consumer = terminus_or_none consumer; format = format; payload = payload }

split_admission : (k row producer size tag consumer format len payload rest : List ℕ) → k ++ (row ++ (producer ++ ((size ++ tag) ++ (consumer ++ (format ++ ((len ++ payload) ++ rest)))))) ≡ (k ++ row ++ producer ++ size ++ tag ++ consumer ++ format ++ len ++ payload) ++ rest
split_admission k row producer size tag consumer format len payload rest = simp append_assoc

admission_forth : (bytes rest : List ℕ) (a : Admission) → AreBytes bytes → admission_at bytes ≡ Ok (a, rest) → IsAdmissionRead bytes a rest
unfolding admission_at
admission_forth bytes rest a h e =
    let b = bind_ok (number_at w64 bytes) _ (a, rest) e in
    let row = forth_8 bytes b.read.1 b.read.0 h b.is in
    let c = bind_ok (number_at w64 b.read.1) _ (a, rest) b.gives in
    let producer = forth_8 b.read.1 c.read.1 c.read.0 row.bytes_left c.is in
    let d = bind_ok (tag_at c.read.1) _ (a, rest) c.gives in
    let tag = tag_forth c.read.1 d.read.0 d.read.1 producer.bytes_left d.is in
    let f = bind_ok (number_at w64 d.read.1) _ (a, rest) d.gives in
    let consumer = forth_8 d.read.1 f.read.1 f.read.0 tag.leads.bytes_left f.is in
    let g = bind_ok (number_at w32 f.read.1) _ (a, rest) f.gives in
    let format = forth_4 f.read.1 g.read.1 g.read.0 consumer.bytes_left g.is in
    let k = bind_ok (payload_at g.read.1) _ (a, rest) g.gives in
    let payload = payload_forth g.read.1 k.read.0 k.read.1 format.bytes_left k.is in
    let made = read_admission b.read.0 c.read.0 d.read.0 f.read.0 g.read.0 k.read.0 in
    let P : Admission × List ℕ → Type 0 = λ p. IsAdmissionRead bytes p.0 p.1 in
    let whole : IsAdmissionRead bytes made k.read.1 = record {
      is =
          ap (λ (l : List ℕ). 2 ∷ l)
          (row.is ∙ ap (λ (l : List ℕ). in_8 b.read.0 ++ l)
          (producer.is ∙ ap (λ (l : List ℕ). in_8 c.read.0 ++ l)
          (tag.leads.is ∙ ap (λ (l : List ℕ). (length d.read.0 ∷ d.read.0) ++ l)
          (consumer.is ∙ ap (λ (n : ℕ). in_8 n ++ f.read.1) (sym (zero_or f.read.0)) ∙ ap (λ (l : List ℕ). in_8 (or_zero (terminus_or_none f.read.0)) ++ l)
          (format.is ∙ ap (λ (l : List ℕ). in_4 g.read.0 ++ l) payload.leads.is)))))
          ∙ split_admission (2 ∷ []) (in_8 b.read.0) (in_8 c.read.0) (length d.read.0 ∷ []) d.read.0 (in_8 (or_zero (terminus_or_none f.read.0))) (in_4 g.read.0) (in_4 (length k.read.0)) k.read.0 k.read.1;
      bytes_left = payload.leads.bytes_left;
      admission = record { row = row.fits; producer = producer.fits; tag = tag.short; consumer = (let same = zero_or f.read.0 in omega (arith, same, consumer.fits)); above_zero = above_zero f.read.0; format = format.fits; payload = payload.short };
    } in
    subst P (same_both made a k.read.1 rest k.gives) whole

-- A decision, after its kind.
terminal_forth : (s : DeliveryState) → is_terminal s ≡ true → IsTerminal s
terminal_forth (states.Received r) h = absurd cc
terminal_forth states.Accepted h = tt
terminal_forth (states.Rejected r) h = tt
terminal_forth states.Released h = tt
terminal_forth (states.Modified m) h = tt
terminal_forth (states.Other v) h = absurd cc

both_true : (a b : Bool) → (a && b) ≡ true → (a ≡ true) × (b ≡ true)
both_true true b e = (refl, e)
both_true false b e = absurd cc

pub record IsOutcomeRead (bytes : List ℕ) (s : DeliveryState) : Type 0 where
  pub is : bytes ≡ state_spelling s
  pub outcome : IsOutcome s

pub outcome_forth : (bytes : List ℕ) (s : DeliveryState) → outcome_of bytes ≡ Ok s → IsOutcomeRead bytes s
unfolding outcome_of
outcome_forth bytes s e = by_read (state_at bytes) refl e
  where
    by_state : (state : DeliveryState) (len : ℕ) → state_at bytes ≡ Ok (state, len) → (len == length bytes && is_terminal state && pointwise ◌==◌ (state_spelling state) bytes) ≡ true → IsOutcomeRead bytes state
    by_state state len read t =
        let last = both_true (len == length bytes && is_terminal state) (pointwise ◌==◌ (state_spelling state) bytes) t in
        let first = both_true (len == length bytes) (is_terminal state) last.0 in
        let same = (bytes_decides (state_spelling state) bytes).0 last.1 in
        let P : List ℕ → ℕ → Type 0 = λ l n. state_at l ≡ Ok (state, n) in
        let here : state_at (state_spelling state) ≡ Ok (state, length bytes) = ap state_at same ∙ read ∙ ap (λ (n : ℕ). Ok (state, n)) (equal len (length bytes) first.0) in
        record { is = sym same; outcome = record { terminal = terminal_forth state first.1; reads_back = here ∙ ap (λ (l : List ℕ). Ok (state, length l)) (sym same) } }

    by_read : (r : Result (DeliveryState × ℕ) PerfFault) → state_at bytes ≡ r → outcome_by bytes r ≡ Ok s → IsOutcomeRead bytes s
    by_read (Err f) read i = absurd cc
    by_read (Ok (state, len)) read i =
        by_test (len == length bytes && is_terminal state && pointwise ◌==◌ (state_spelling state) bytes)
        (λ t. let so = rw t at i in let same : state ≡ s = cc in let P : DeliveryState → Type 0 = λ u. IsOutcomeRead bytes u in subst P same (by_state state len read t))
        (λ t. absurd (let no = rw t at i in cc))

record IsDecisionRead (bytes : List ℕ) (d : Decision) (rest : List ℕ) : Type 0 where
  pub is : 3 ∷ bytes ≡ decide_bytes d.row.0 (state_spelling d.outcome) ++ rest
  pub bytes_left : AreBytes rest
  pub row : d.row.0 < 2 ^ 64
  pub short : length (state_spelling d.outcome) < 2 ^ 16
  pub outcome : IsOutcome d.outcome

abbrev read_decision : ℕ → DeliveryState → Decision
read_decision row outcome = record { row = record { 0 = row }; outcome = outcome }

decision_forth : (bytes rest : List ℕ) (d : Decision) → AreBytes bytes → decision_at bytes ≡ Ok (d, rest) → IsDecisionRead bytes d rest
unfolding decision_at
decision_forth bytes rest d h e =
    let b = bind_ok (number_at w64 bytes) _ (d, rest) e in
    let row = forth_8 bytes b.read.1 b.read.0 h b.is in
    let c = bind_ok (sized_at b.read.1) _ (d, rest) b.gives in
    let spelled = sized_forth b.read.1 c.read.0 c.read.1 row.bytes_left c.is in
    let f = bind_ok (outcome_of c.read.0) _ (d, rest) c.gives in
    let outcome = outcome_forth c.read.0 f.read f.is in
    let made = read_decision b.read.0 f.read in
    let P : Decision × List ℕ → Type 0 = λ p. IsDecisionRead bytes p.0 p.1 in
    let whole : IsDecisionRead bytes made c.read.1 = record {
      is =
          ap (λ (l : List ℕ). 3 ∷ l)
          (row.is ∙ ap (λ (l : List ℕ). in_8 b.read.0 ++ l) (spelled.leads.is ∙ ap (λ (l : List ℕ). text_bytes l ++ c.read.1) outcome.is))
          ∙ sym (split_4 (3 ∷ []) (in_8 b.read.0) (in_2 (length (state_spelling f.read))) (state_spelling f.read) c.read.1);
      bytes_left = spelled.leads.bytes_left;
      row = row.fits;
      short = (let same = ap length outcome.is in omega (arith, same, spelled.short));
      outcome = outcome.outcome;
    } in
    subst P (same_both made d c.read.1 rest f.gives) whole

-- Any act.
pub record IsActRead (bytes : List ℕ) (act : Act) (rest : List ℕ) : Type 0 where
  pub is : bytes ≡ act_bytes act ++ rest
  pub bytes_left : AreBytes rest
  pub writable : IsWritable act

kind_is : (kind n : ℕ) (bytes : List ℕ) → (kind == n) ≡ true → kind ∷ bytes ≡ n ∷ bytes
kind_is kind n bytes t = ap (λ (m : ℕ). m ∷ bytes) (equal kind n t)

behind_forth : (kind : ℕ) (bytes rest : List ℕ) (act : Act) → AreBytes bytes → act_behind kind bytes ≡ Ok (act, rest) → IsActRead (kind ∷ bytes) act rest
unfolding act_behind act_bytes
behind_forth kind bytes rest act h e =
    let P : Act × List ℕ → Type 0 = λ p. IsActRead (kind ∷ bytes) p.0 p.1 in
    by_test (kind == 1)
    (λ t.
    let so = rw t at e in
    let b = bind_ok (make_at bytes) _ (act, rest) so in
    let made = make_forth bytes b.read.1 b.read.0 h b.is in
    let whole : IsActRead (kind ∷ bytes) (Make b.read.0) b.read.1 = record { is = kind_is kind 1 bytes t ∙ made.is; bytes_left = made.bytes_left; writable = made.make } in
    subst P (same_both (Make b.read.0) act b.read.1 rest b.gives) whole)
    (λ t. by_test (kind == 2)
    (λ u.
    let so = rw (t, u) at e in
    let b = bind_ok (admission_at bytes) _ (act, rest) so in
    let made = admission_forth bytes b.read.1 b.read.0 h b.is in
    let whole : IsActRead (kind ∷ bytes) (Admit b.read.0) b.read.1 = record { is = kind_is kind 2 bytes u ∙ made.is; bytes_left = made.bytes_left; writable = made.admission } in
    subst P (same_both (Admit b.read.0) act b.read.1 rest b.gives) whole)
    (λ u. by_test (kind == 3)
    (λ v.
    let so = rw (t, u, v) at e in
    let b = bind_ok (decision_at bytes) _ (act, rest) so in
    let made = decision_forth bytes b.read.1 b.read.0 h b.is in
    let whole : IsActRead (kind ∷ bytes) (Decide b.read.0) b.read.1 = record { is = kind_is kind 3 bytes v ∙ made.is; bytes_left = made.bytes_left; writable = (made.row, made.short, made.outcome) } in
    subst P (same_both (Decide b.read.0) act b.read.1 rest b.gives) whole)
    (λ v. by_test (kind == 4)
    (λ w.
    let so = rw (t, u, v, w) at e in
    let b = bind_ok (number_at w64 bytes) _ (act, rest) so in
    let made = forth_8 bytes b.read.1 b.read.0 h b.is in
    let whole : IsActRead (kind ∷ bytes) (Forget (record { 0 = b.read.0 })) b.read.1 = record { is = kind_is kind 4 bytes w ∙ ap (λ (l : List ℕ). 4 ∷ l) made.is; bytes_left = made.bytes_left; writable = made.fits } in
    subst P (same_both (Forget (record { 0 = b.read.0 })) act b.read.1 rest b.gives) whole)
    (λ w. by_test (kind == 5)
    (λ x.
    let so = rw (t, u, v, w, x) at e in
    let b = bind_ok (number_at w64 bytes) _ (act, rest) so in
    let made = forth_8 bytes b.read.1 b.read.0 h b.is in
    let whole : IsActRead (kind ∷ bytes) (Drop (record { 0 = b.read.0 })) b.read.1 = record { is = kind_is kind 5 bytes x ∙ ap (λ (l : List ℕ). 5 ∷ l) made.is; bytes_left = made.bytes_left; writable = made.fits } in
    subst P (same_both (Drop (record { 0 = b.read.0 })) act b.read.1 rest b.gives) whole)
    (λ x. absurd (let no = rw (t, u, v, w, x) at e in cc))))))

pub act_forth : (bytes rest : List ℕ) (act : Act) → AreBytes bytes → act_at bytes ≡ Ok (act, rest) → IsActRead bytes act rest
unfolding act_at
act_forth [] rest act h e = absurd cc
act_forth (kind ∷ bytes) rest act h e = behind_forth kind bytes rest act (bytes_behind (kind ∷ []) bytes h) e
