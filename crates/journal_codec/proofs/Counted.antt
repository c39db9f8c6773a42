-- How many bytes an act takes.
use Rattle.std.proofs.Common.{◌≡◌, ℕ, ◌+◌, List, [], ◌∷◌, ◌++◌, length, take, get_or, ap, ◌∙◌, ◌<◌, sym, arith, length-append}
use Rattle.std.proofs.lemmas.List.{flat_map_more}
use Rattle.book_model.specs.declared.act.Act.{Act}
use Rattle.book_model.specs.declared.act.Act.TheVariants.{Forget, Drop}
use Rattle.book_model.specs.declared.row.RowNumber.{RowNumber}
use Rattle.book_model.specs.declared.terminus.TerminusNumber.{TerminusNumber}
use Rattle.book_model.specs.declared.act.Admission.{Admission}
use Rattle.book_model.specs.declared.terminus.Terminus.{Terminus}
use Rattle.journal_codec.specs.Format.{in_2, in_4, in_8, text_bytes, role_byte, or_zero, make_bytes, admit_bytes, decide_bytes, act_bytes, acts_bytes}
use Rattle.journal_codec.proofs.Spelled.{length-in_2, length-in_4, length-in_8, one_more}

text_counted : (text : List ℕ) → length (text_bytes text) ≡ 2 + length text
text_counted text = omega (arith, length-append (in_2 (length text)) text, length-in_2 (length text))

-- pieces one after another
counted_4 : (a b c d : List ℕ) → length (a ++ b ++ c ++ d) ≡ length a + length b + length c + length d
counted_4 a b c d = omega (arith, length-append (a ++ b ++ c) d, length-append (a ++ b) c, length-append a b)

counted_7 : (a b c d e f g : List ℕ) → length (a ++ b ++ c ++ d ++ e ++ f ++ g) ≡ length a + length b + length c + length d + length e + length f + length g
counted_7 a b c d e f g =
    omega (arith, length-append (a ++ b ++ c ++ d ++ e ++ f) g, length-append (a ++ b ++ c ++ d ++ e) f, length-append (a ++ b ++ c ++ d) e, counted_4 a b c d)

counted_9 : (a b c d e f g h i : List ℕ)
    → length (a ++ b ++ c ++ d ++ e ++ f ++ g ++ h ++ i) ≡ length a + length b + length c + length d + length e + length f + length g + length h + length i
counted_9 a b c d e f g h i =
    omega (arith, length-append (a ++ b ++ c ++ d ++ e ++ f ++ g ++ h) i, length-append (a ++ b ++ c ++ d ++ e ++ f ++ g) h, counted_7 a b c d e f g)

pub make_counted : (t : Terminus) → length (make_bytes t) ≡ 18 + length t.key.user + length t.key.container + length t.key.name + length t.address
make_counted t =
    omega (
      arith,
      counted_7 (1 ∷ []) (in_8 t.number.0) (role_byte t.key.role ∷ []) (text_bytes t.key.user) (text_bytes t.key.container) (text_bytes t.key.name) (text_bytes t.address),
      length-in_8 t.number.0,
      text_counted t.key.user,
      text_counted t.key.container,
      text_counted t.key.name,
      text_counted t.address,
    )

pub admit_counted : (a : Admission) → length (admit_bytes a) ≡ 34 + length a.tag.items + length a.payload
admit_counted a =
    omega (
      arith,
      counted_9 (2 ∷ []) (in_8 a.row.0) (in_8 a.producer.0) (length a.tag.items ∷ []) a.tag.items (in_8 (or_zero a.consumer)) (in_4 a.format) (in_4 (length a.payload)) a.payload,
      length-in_8 a.row.0,
      length-in_8 a.producer.0,
      length-in_8 (or_zero a.consumer),
      length-in_4 a.format,
      length-in_4 (length a.payload),
    )

pub decide_counted : (row : ℕ) (outcome : List ℕ) → length (decide_bytes row outcome) ≡ 11 + length outcome
decide_counted row outcome =
    omega (arith, counted_4 (3 ∷ []) (in_8 row) (in_2 (length outcome)) outcome, length-in_8 row, length-in_2 (length outcome))

number_counted : (kind number : ℕ) → length ((kind ∷ []) ++ in_8 number) ≡ 9
number_counted kind number = omega (arith, length-append (kind ∷ []) (in_8 number), length-in_8 number)

pub forget_counted : (row : RowNumber) → 9 ≡ length (act_bytes (Forget row))
unfolding act_bytes
forget_counted row = sym (number_counted 4 row.0)

pub drop_counted : (terminus : TerminusNumber) → 9 ≡ length (act_bytes (Drop terminus))
unfolding act_bytes
drop_counted terminus = sym (number_counted 5 terminus.0)

-- one act more of a list
pub counted_more : (acts : List Act) (i n more len : ℕ) (act : Act) → i < length acts → act ≡ get_or acts i act
    → n ≡ length (acts_bytes (take i acts)) → more ≡ length (act_bytes act) → len ≡ n + more → len ≡ length (acts_bytes (take (i + 1) acts))
counted_more acts i n more len act inside is so_far one sum =
    let grown : acts_bytes (take i acts) ++ act_bytes act ≡ acts_bytes (take (i + 1) acts) =
    flat_map_more act_bytes [] (take i acts) act ∙ ap acts_bytes (sym (one_more acts i act inside is)) in
    omega (arith, so_far, one, sum, length-append (acts_bytes (take i acts)) (act_bytes act), ap length grown)
