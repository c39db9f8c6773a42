-- The steps of a scan.
use Rattle.std.proofs.Common.{◌≡◌, ◌≢◌, ℕ, suc, ◌<◌, ◌≤◌, true, false, List, [], ◌∷◌, ◌++◌, length, get_or, Ok, Err, refl, sym, ap, ◌∙◌, subst, arith, append_assoc, length-append}
use Rattle.std.specs.Prelude.{nat_lt, ◌==◌}
use Rattle.std.specs.Int.{w32}
use Rattle.std.proofs.lemmas.Bool.Decides.{nat_tests}
use Rattle.std.proofs.lemmas.List.{get_or_past, flat_map_more}
use Rattle.book_model.specs.declared.act.Act.{Act}
use Rattle.journal_codec.specs.declared.read.ReadFault.{ReadFault}
use Rattle.journal_codec.specs.declared.read.ReadFault.TheVariants.{Misspelt, Memory}
use Rattle.journal_codec.specs.Format.{in_4, act_bytes, acts_bytes, batch}
use Rattle.journal_codec.specs.Batches.{IsWritable, AreWritable, IsBatch}
use Rattle.journal_codec.specs.Reading.{number_at, chunk_at, act_at, inside_at}
use Rattle.journal_codec.specs.Batches.{NoActs, NoneBegins}
use Rattle.journal_codec.proofs.Back.{act_back}
use Rattle.journal_codec.proofs.Forth.{act_forth}
use Rattle.journal_codec.proofs.Tools.{done, bind_ok, same_read, same_rest, AreBytes, bytes_behind, back_4, forth_4, chunk_back, chunk_forth, by_test, is_not_less}
use Rattle.journal_codec.proofs.Unique.{acts_prefix, none_at_all}

pub are_bytes : (bytes : List ℕ) → ((i d : ℕ) → i < length bytes → get_or bytes i d < 256) → AreBytes bytes
are_bytes bytes h = record { each = λ i. by_test (nat_lt i (length bytes)) (λ t. h i 0 (let l : i < length bytes = grind (arith, nat_tests) in l)) (λ t. rw (get_or_past bytes i 0 (is_not_less i (length bytes) t)) (omega arith)) }

left : (spelled rest bytes : List ℕ) → bytes ≡ spelled ++ rest → AreBytes bytes → AreBytes rest
left spelled rest bytes e h = let P : List ℕ → Type 0 = λ l. AreBytes l in bytes_behind spelled rest (subst P e h)

nonempty : (act : Act) → IsWritable act → 0 < length (act_bytes act)
nonempty act h = by_length (act_bytes act) refl
  where
    by_length : (l : List ℕ) → act_bytes act ≡ l → 0 < length l
    by_length [] e = absurd (let no : act_at [] ≡ done act [] = ap (λ (l : List ℕ). act_at (l ++ [])) (sym e) ∙ act_back act [] h in let none = none_at_all in cc)
    by_length (b ∷ l) e = omega arith

-- one more act
pub record Step (bytes : List ℕ) (acts : List Act) (rest : List ℕ) : Type 0 where
  pub spelled : bytes ≡ acts_bytes acts ++ rest
  pub writable : AreWritable acts

writable_behind : (xs : List Act) (x : Act) → AreWritable xs → IsWritable x → AreWritable (xs ++ x ∷ [])
writable_behind [] x h i = (i, tt)
writable_behind (y ∷ ys) x h i = (h.0, writable_behind ys x h.1 i)

pub read_more : (bytes : List ℕ) (acts : List Act) (rest : List ℕ) (act : Act) (behind : List ℕ) → AreBytes bytes → bytes ≡ acts_bytes acts ++ rest → AreWritable acts
    → act_at rest ≡ Ok (act, behind) → Step bytes (acts ++ act ∷ []) behind
read_more bytes acts rest act behind are e h read =
    let step = act_forth rest behind act (left (acts_bytes acts) rest bytes e are) read in
    record {
      spelled = e ∙ ap (λ (l : List ℕ). acts_bytes acts ++ l) step.is ∙ sym (append_assoc (acts_bytes acts) (act_bytes act) behind) ∙ ap (λ (l : List ℕ). l ++ behind) (flat_map_more act_bytes [] acts act);
      writable = writable_behind acts act h step.writable;
    }

pub read_shorter : (bytes : List ℕ) (acts : List Act) (rest : List ℕ) (act : Act) (behind : List ℕ) → AreBytes bytes → bytes ≡ acts_bytes acts ++ rest
    → act_at rest ≡ Ok (act, behind) → length behind < length rest
read_shorter bytes acts rest act behind are e read =
    let step = act_forth rest behind act (left (acts_bytes acts) rest bytes e are) read in
    omega (arith, ap length step.is, length-append (act_bytes act) behind, nonempty act step.writable)

-- the rest is no act
pub no_more : (bytes : List ℕ) (acts : List Act) (rest : List ℕ) (fault : ReadFault) → 0 < length rest → bytes ≡ acts_bytes acts ++ rest → AreWritable acts → act_at rest ≡ Err fault → NoActs bytes
no_more bytes acts rest fault some e h none whole writable f =
    let p = acts_prefix whole acts rest writable h (sym f ∙ e) in
    by_others p.others p.spelled p.writable
  where
    by_others : (others : List Act) → acts_bytes others ≡ rest → AreWritable others → ⊥
    by_others [] g i = absurd (omega (arith, some, ap length g))
    by_others (a ∷ others) g i = let read : act_at rest ≡ done a (acts_bytes others) = ap act_at (sym g) ∙ act_back a (acts_bytes others) i.0 in absurd cc

-- The bytes of a batch.
some_bytes : (acts : List Act) → acts ≢ [] → AreWritable acts → 0 < length (acts_bytes acts)
some_bytes [] some h = absurd (some refl)
some_bytes (a ∷ acts) some h = omega (arith, length-append (act_bytes a) (acts_bytes acts), nonempty a h.0)

pub inside_back : (acts : List Act) (gate : ℕ) (rest : List ℕ) → IsBatch acts → inside_at (batch acts ++ gate ∷ rest) ≡ Ok (acts_bytes acts, gate ∷ rest)
unfolding inside_at batch
inside_back acts gate rest h =
    let some = some_bytes acts h.some h.writable in
    let above : (length (acts_bytes acts) == 0) ≡ false = grind (arith, nat_tests) in
    let within : nat_lt 4194304 (length (acts_bytes acts)) ≡ false = (let small = h.small in grind (arith, nat_tests)) in
    ap inside_at (append_assoc (in_4 (length (acts_bytes acts))) (acts_bytes acts) (gate ∷ rest))
    ∙ (rw (back_4 (length (acts_bytes acts)) (acts_bytes acts ++ gate ∷ rest) (let small = h.small in omega (arith, small)))
    (rw (above, within) (rw (chunk_back (acts_bytes acts) (gate ∷ rest)) (rw (let gates : (suc (length rest) == 0) ≡ false = grind (arith, nat_tests) in gates) refl))))

pub none_fails : (bytes : List ℕ) (fault : ReadFault) → inside_at bytes ≡ Err fault → NoneBegins bytes
none_fails bytes fault read acts gate rest h e =
    let yes : inside_at bytes ≡ Ok (acts_bytes acts, gate ∷ rest) = ap inside_at e ∙ inside_back acts gate rest h in
    absurd cc

pub none_inside : (bytes : List ℕ) (fault : ReadFault) → ((fault ≡ Memory → ⊥) → inside_at bytes ≡ Err fault) → fault ≡ Misspelt → NoneBegins bytes
none_inside bytes fault read is acts gate rest h e =
    let no = read (λ m. absurd cc) in
    let yes : inside_at bytes ≡ Ok (acts_bytes acts, gate ∷ rest) = ap inside_at e ∙ inside_back acts gate rest h in
    absurd cc

pub none_of_acts : (bytes inside behind : List ℕ) → inside_at bytes ≡ Ok (inside, behind) → NoActs inside → NoneBegins bytes
none_of_acts bytes inside behind read none acts gate rest h e =
    let yes : inside_at bytes ≡ Ok (acts_bytes acts, gate ∷ rest) = ap inside_at e ∙ inside_back acts gate rest h in
    let both : done inside behind ≡ done (acts_bytes acts) (gate ∷ rest) = sym read ∙ yes in
    none acts h.writable (same_read inside (acts_bytes acts) behind (gate ∷ rest) both)

pub record IsInside (bytes inside behind : List ℕ) : Type 0 where
  pub is : bytes ≡ in_4 (length inside) ++ (inside ++ behind)
  pub some : 0 < length inside
  pub small : length inside ≤ 4194304
  pub gate : behind ≢ []

pub inside_forth : (bytes inside behind : List ℕ) → AreBytes bytes → inside_at bytes ≡ Ok (inside, behind) → IsInside bytes inside behind
unfolding inside_at
inside_forth bytes inside behind h e =
    let b = bind_ok (number_at w32 bytes) _ (inside, behind) e in
    let n = forth_4 bytes b.read.1 b.read.0 h b.is in
    by_test (b.read.0 == 0)
    (λ t. absurd (let no = rw t at b.gives in cc))
    (λ t. by_test (nat_lt 4194304 b.read.0)
    (λ u. absurd (let no = rw (t, u) at b.gives in cc))
    (λ u.
    let so = rw (t, u) at b.gives in
    let c = bind_ok (chunk_at b.read.0 b.read.1) _ (inside, behind) so in
    by_test (length c.read.1 == 0)
    (λ v. absurd (let no = rw v at c.gives in cc))
    (λ v.
    let last = rw v at c.gives in
    let same = same_read c.read.0 inside c.read.1 behind last in
    let same_behind = same_rest c.read.0 inside c.read.1 behind last in
    let chunk = chunk_forth b.read.0 b.read.1 inside behind (c.is ∙ last) in
    let above : 0 < b.read.0 = grind (arith, nat_tests) in
    let within : b.read.0 ≤ 4194304 = grind (arith, nat_tests) in
    record {
      is = n.is ∙ ap (λ (l : List ℕ). in_4 b.read.0 ++ l) chunk.is ∙ ap (λ (m : ℕ). in_4 m ++ (inside ++ behind)) (sym chunk.size_is);
      some = omega (arith, above, chunk.size_is);
      small = omega (arith, within, chunk.size_is);
      gate = λ none. absurd (let long : (length behind == 0) ≡ false = ap (λ (l : List ℕ). length l == 0) (sym same_behind) ∙ v in let short : (length behind == 0) ≡ true = ap (λ (l : List ℕ). length l == 0) none in cc);
    })))

pub batch_is : (bytes inside behind : List ℕ) (acts : List Act) → IsInside bytes inside behind → inside ≡ acts_bytes acts → bytes ≡ batch acts ++ behind
unfolding batch
batch_is bytes inside behind acts h e =
    h.is ∙ ap (λ (l : List ℕ). in_4 (length l) ++ (l ++ behind)) e ∙ sym (append_assoc (in_4 (length (acts_bytes acts))) (acts_bytes acts) behind)

pub is_batch : (bytes inside behind : List ℕ) (acts : List Act) → IsInside bytes inside behind → inside ≡ acts_bytes acts → AreWritable acts → IsBatch acts
is_batch bytes inside behind acts h e writable = record {
  some = λ none. absurd (omega (arith, h.some, ap length e, ap (λ (l : List Act). length (acts_bytes l)) none));
  small = omega (arith, h.small, ap length e);
  writable = writable;
}

not_empty : (bytes : List ℕ) → (length bytes == 0) ≡ false → 0 < length bytes
not_empty bytes e = grind (arith, nat_tests)

-- the rest is no act, and not empty
pub none_left : (bytes : List ℕ) (acts : List Act) (rest : List ℕ) (fault : ReadFault) → (length rest == 0) ≡ false → bytes ≡ acts_bytes acts ++ rest → AreWritable acts
    → ((fault ≡ Memory → ⊥) → act_at rest ≡ Err fault) → fault ≡ Misspelt → NoActs bytes
none_left bytes acts rest fault some e h read is =
    let none = read (λ m. absurd cc) in
    no_more bytes acts rest fault (not_empty rest some) e h none
