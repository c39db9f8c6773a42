-- A book that is read back is sound.
use Rattle.std.proofs.Common.{◌≡◌, ap, subst, ℕ, ◌+◌, ◌≤◌, ◌<◌, Bool, true, false, not, ◌||◌, List, [], ◌∷◌, length, arith, Option, None}
use Rattle.std.specs.Prelude.{nat_lt, nat_le, is_some, count_by}
use Rattle.std.specs.List.{list_any, list_all}
use Rattle.std.proofs.lemmas.Bool.{eqb-true, not-true, and_parts}
use Rattle.std.proofs.lemmas.List.Elements.{All-from_recursion}
use Rattle.book_model.specs.declared.act.Act.{Act}
use Rattle.book_model.specs.declared.act.Act.TheVariants.{Make, Admit, Decide, Forget, Drop}
use Rattle.book_model.specs.declared.fault.BookFault.{BookFault}
use Rattle.book_model.specs.declared.fault.BookFault.TheVariants.{NoTerminus, NoRow, TagInUse, Limit}
use Rattle.book_model.specs.declared.row.Row.{Row}
use Rattle.book_model.specs.declared.terminus.LinkRole.TheVariants.{Producer, Consumer}
use Rattle.book_model.specs.declared.terminus.Terminus.{Terminus}
use Rattle.book_model.specs.Book.{BookView, empty_book, unless, or_else, make_refusal, decided, forgotten, row_at, terminus_at, has_role, may_bind, has_tag, is_from, is_for, is_undecided, keeps, undecided_for}
use Rattle.book_model.specs.Restoring.{is_between, raised, restore_refusal, restore_effect, first_unread, book_read, is_within, has_termini, closing_fault, restore_fault, restored}
use Rattle.book_model.specs.Sound.{IsSound, IsSoundTerminus}
use Rattle.book_laws.proofs.Conditions.{MayMake, may_make, may_decide, holds, then_holds, below, at_most}
use Rattle.book_laws.proofs.Joining.{first_none, rest_none}
use Rattle.book_laws.proofs.KeptSound.{empty_orderly, fine_drop, waiting_of}
use Rattle.book_laws.proofs.Lists.{each, each_passes, any_or_none}
use Rattle.book_laws.proofs.Sound.{IsOrderly, IsFineRow, Stands, sound, fine_make, fine_admit, fine_change, became_decided, became_forgotten, became_one, change_one}

-- a number that comes between
between_from : (low next n : ℕ) → is_between low next n ≡ true → low ≤ n
between_from low next n h = at_most low n (and_parts (nat_le low n) (nat_lt n next) h).0

between_below : (low next n : ℕ) → is_between low next n ≡ true → n < next
between_below low next n h = below n next (and_parts (nat_le low n) (nat_lt n next) h).1

-- Acts that are read leave what is orderly, below the next numbers.

pub record IsReading (nt nr : ℕ) (b : BookView) : Type 0 where
  pub orderly : IsOrderly b
  pub termini : b.next_terminus ≤ nt
  pub rows : b.next_row ≤ nr

module _ (nt nr : ℕ) where
  act_read : (b : BookView) (act : Act) → restore_refusal nt nr b act ≡ None → IsReading nt nr b
      → IsReading nt nr (restore_effect b act)
  act_read b (Make t) h was =
      let rest : Option BookFault = make_refusal (raised b (Make t)) t in
      let between : is_between b.next_terminus nt t.number.0 ≡ true =
      holds (is_between b.next_terminus nt t.number.0) NoTerminus rest h in
      let may : MayMake (raised b (Make t)) t =
      may_make (raised b (Make t)) t (then_holds (is_between b.next_terminus nt t.number.0) NoTerminus rest h) in
      let low : t.number.0 < nt = between_below b.next_terminus nt t.number.0 between in
      record {
        orderly = fine_make b t (t.number.0 + 1) (between_from b.next_terminus nt t.number.0 between) (omega arith)
            may.new may.few may.short was.orderly;
        termini = omega (arith, low);
        rows = was.rows;
      }
  act_read b (Admit a) h was =
      let short : Option BookFault = unless (nat_le (length a.payload) 65536) Limit None in
      let few : Option BookFault = unless (nat_lt (length b.rows) 4096) Limit short in
      let free : Option BookFault = unless (not (list_any (has_tag a.producer.0 a.tag.items) b.rows)) TagInUse few in
      let between : is_between b.next_row nr a.row.0 ≡ true = holds (is_between b.next_row nr a.row.0) NoRow free h in
      let new : free ≡ None = then_holds (is_between b.next_row nr a.row.0) NoRow free h in
      let fits : few ≡ None =
      then_holds (not (list_any (has_tag a.producer.0 a.tag.items) b.rows)) TagInUse few new in
      let low : a.row.0 < nr = between_below b.next_row nr a.row.0 between in
      record {
        orderly = fine_admit b a (a.row.0 + 1) (between_from b.next_row nr a.row.0 between) (omega arith)
            (not-true (list_any (has_tag a.producer.0 a.tag.items) b.rows)
            (holds (not (list_any (has_tag a.producer.0 a.tag.items) b.rows)) TagInUse few new))
            (below (length b.rows) 4096 (holds (nat_lt (length b.rows) 4096) Limit short fits))
            (at_most (length a.payload) 65536 (holds (nat_le (length a.payload) 65536) Limit None
            (then_holds (nat_lt (length b.rows) 4096) Limit short fits)))
            was.orderly;
        termini = was.termini;
        rows = omega (arith, low);
      }
  act_read b (Decide d) h was =
      let there = may_decide (row_at d.row.0 b.rows) d.outcome h in
      record {
        orderly = fine_change (change_one d.row.0 (decided d.outcome))
            (became_one d.row.0 (decided d.outcome) (λ r t. became_decided d.outcome r t there.3)) b was.orderly;
        termini = was.termini;
        rows = was.rows;
      }
  act_read b (Forget n) h was = record {
    orderly = fine_change (change_one n.0 forgotten) (became_one n.0 forgotten became_forgotten) b was.orderly;
    termini = was.termini;
    rows = was.rows;
  }
  act_read b (Drop n) h was = record {
    orderly = fine_drop b n.0 was.orderly;
    termini = was.termini;
    rows = was.rows;
  }

  acts_read : (b : BookView) (acts : List Act) → first_unread nt nr b acts ≡ None → IsReading nt nr b
      → IsReading nt nr (book_read b acts)
  unfolding first_unread book_read
  acts_read b [] h was = was
  acts_read b (act ∷ acts) h was =
      acts_read (restore_effect b act) acts
      (rest_none (restore_refusal nt nr b act) (first_unread nt nr (restore_effect b act) acts) h)
      (act_read b act (first_none (restore_refusal nt nr b act) (first_unread nt nr (restore_effect b act) acts) h) was)

-- The end: the limits of 64 hold of each terminus, and the termini stand.

module _ (rs : List Row) (within : list_all (is_within rs) rs ≡ true) where
  few_of : (r : Row) → is_within rs r ≡ true
      → (count_by (is_from r.producer.0) rs ≤ 64) × (undecided_for r.consumer rs ≤ 64)
  few_of r h =
      let both = and_parts (nat_le (count_by (is_from r.producer.0) rs) 64)
      (nat_le (undecided_for r.consumer rs) 64) h in
      (at_most (count_by (is_from r.producer.0) rs) 64 both.0, at_most (undecided_for r.consumer rs) 64 both.1)

  none_few : (n : ℕ) → n ≡ 0 → n ≤ 64
  none_few n e = omega (arith, e)

  few_from : (n : ℕ) → count_by (is_from n) rs ≤ 64
  few_from n = any_or_none (is_from n) (count_by (is_from n) rs ≤ 64) rs
      (each (λ (r : Row). is_within rs r ≡ true) (λ (r : Row). is_from n r ≡ true → count_by (is_from n) rs ≤ 64)
      (λ r h e. subst (λ (k : ℕ). count_by (is_from k) rs ≤ 64) (eqb-true r.producer.0 n e) (few_of r h).0) rs
      (each_passes (is_within rs) rs within))
      (none_few (count_by (is_from n) rs))

  few_waiting : (n : ℕ) → count_by (keeps Consumer n) rs ≤ 64
  few_waiting n = any_or_none (keeps Consumer n) (count_by (keeps Consumer n) rs ≤ 64) rs
      (each (λ (r : Row). is_within rs r ≡ true)
      (λ (r : Row). keeps Consumer n r ≡ true → count_by (keeps Consumer n) rs ≤ 64)
      (λ r h e. subst (λ (k : ℕ). k ≤ 64)
      (waiting_of r.consumer n rs (and_parts (is_for n r) (is_undecided r) e).0) (few_of r h).1) rs
      (each_passes (is_within rs) rs within))
      (none_few (count_by (keeps Consumer n) rs))

stands : (ts : List Terminus) (r : Row) → has_termini ts r ≡ true → Stands ts r
stands ts r h =
    let both = and_parts (r.forgotten || has_role Producer (terminus_at r.producer.0 ts))
    (is_some r.outcome || may_bind r.consumer ts) h in
    record {
      producer = λ e. other r.forgotten (has_role Producer (terminus_at r.producer.0 ts)) e both.0;
      consumer = λ e. other (is_some r.outcome) (may_bind r.consumer ts) (ap is_some e) both.1;
    }
  where
    other : (b c : Bool) → b ≡ false → (b || c) ≡ true → c ≡ true
    other true c e k = absurd cc
    other false c e k = k

pub read_back_sound : (nt nr : ℕ) (acts : List Act) → restore_fault nt nr acts ≡ None → IsSound (restored nt nr acts)
read_back_sound nt nr acts h =
    let b : BookView = book_read empty_book acts in
    let end : Option BookFault = or_else (first_unread nt nr empty_book acts) (closing_fault b) in
    let rows : Option BookFault = unless (nat_lt 0 nr) NoRow end in
    let from_terminus : 0 < nt = below 0 nt (holds (nat_lt 0 nt) NoTerminus rows h) in
    let rest : rows ≡ None = then_holds (nat_lt 0 nt) NoTerminus rows h in
    let from_row : 0 < nr = below 0 nr (holds (nat_lt 0 nr) NoRow end rest) in
    let ends : end ≡ None = then_holds (nat_lt 0 nr) NoRow end rest in
    let reads : first_unread nt nr empty_book acts ≡ None =
    first_none (first_unread nt nr empty_book acts) (closing_fault b) ends in
    let closes : closing_fault b ≡ None = rest_none (first_unread nt nr empty_book acts) (closing_fault b) ends in
    let standing : Option BookFault = unless (list_all (has_termini b.termini) b.rows) NoTerminus None in
    let was : IsReading nt nr b =
    acts_read nt nr empty_book acts reads
    (record { orderly = empty_orderly; termini = omega (arith, from_terminus); rows = omega (arith, from_row) }) in
    sound (restored nt nr acts) (raised_orderly b was from_terminus from_row)
    (record {
      rows = All-from_recursion (Stands b.termini) b.rows
          (each (λ (r : Row). has_termini b.termini r ≡ true) (Stands b.termini) (stands b.termini) b.rows
          (each_passes (has_termini b.termini) b.rows
          (holds (list_all (has_termini b.termini) b.rows) NoTerminus None
          (then_holds (list_all (is_within b.rows) b.rows) Limit standing closes))));
      few_from = few_from b.rows (holds (list_all (is_within b.rows) b.rows) Limit standing closes);
      few_waiting = few_waiting b.rows (holds (list_all (is_within b.rows) b.rows) Limit standing closes);
    })
  where
    raised_orderly : (b : BookView) → IsReading nt nr b → 0 < nt → 0 < nr
        → IsOrderly (record b { next_terminus = nt; next_row = nr })
    raised_orderly b was above above' = record {
      next_terminus = above;
      next_row = above';
      termini = λ k d l. higher (was.orderly.termini k d l);
      rows = λ k d l. higher_row (was.orderly.rows k d l);
      termini_rise = was.orderly.termini_rise;
      rows_rise = was.orderly.rows_rise;
      keys = was.orderly.keys;
      tags = was.orderly.tags;
      few_termini = was.orderly.few_termini;
      few_rows = was.orderly.few_rows;
    }
      where
        higher : {t : Terminus} → IsSoundTerminus b.next_terminus t → IsSoundTerminus nt t
        higher s = record { above = s.above; below = omega (arith, s.below, was.termini); short = s.short }

        higher_row : {r : Row} → IsFineRow b.next_row r → IsFineRow nr r
        higher_row s = record {
          above = s.above;
          below = omega (arith, s.below, was.rows);
          payload = s.payload;
          outcome = s.outcome;
          stays = s.stays;
        }
