-- Small lists of acts, and what the words of `Said` give for them.
use Rattle.std.proofs.Common.{◌≡◌, refl, ℕ, true, false, List, [], ◌∷◌, Some, None}
use Rattle.std.specs.Prelude.{option_map}
use Rattle.amqp_model.specs.PerfSpelling.{state_spelling}
use Rattle.amqp_model.specs.Texts.{described_text, given}
use Rattle.amqp_model.specs.declared.state.DeliveryState.TheVariants.{Accepted, Released}
use Rattle.book_model.specs.declared.act.Act.{Act}
use Rattle.book_model.specs.declared.act.Act.TheVariants.{Make, Admit, Decide, Forget, Drop}
use Rattle.book_model.specs.declared.act.Admission.{Admission}
use Rattle.book_model.specs.declared.row.Row.{Row}
use Rattle.book_model.specs.declared.terminus.LinkKey.{LinkKey}
use Rattle.book_model.specs.declared.terminus.LinkRole.{LinkRole}
use Rattle.book_model.specs.declared.terminus.LinkRole.TheVariants.{Producer, Consumer}
use Rattle.book_model.specs.declared.terminus.Terminus.{Terminus}
use Rattle.book_model.specs.Book.{first_fault, effects}
use Rattle.book_laws.specs.Said.{Apply, book_of, decision, is_forgotten, row_said, rows_said, standing_row, times_admitted, times_decided, times_standing, made, terminus_said, termini_said, standing_terminus, termini_standing}

-- the key of a link of this role, whose name is one byte
key : LinkRole → ℕ → LinkKey
key role name = record { role = role; user = []; container = []; name = name ∷ [] }

terminus : ℕ → LinkRole → ℕ → Terminus
terminus n role name = record { number = record { 0 = n }; key = key role name; address = [] }

-- a row from terminus 1 to terminus 2, whose tag is one byte
row : ℕ → ℕ → Admission
row n tag = record {
  row = record { 0 = n };
  producer = record { 0 = 1 };
  tag = record { items = tag ∷ [] };
  consumer = Some (record { 0 = 2 });
  format = 0;
  payload = tag ∷ [];
}

-- Two termini, and two rows under tags 7 and 8. The first is forgotten, then decided; the second is decided alone.
settled : List Act
settled =
    Make (terminus 1 Producer 5) ∷ Make (terminus 2 Consumer 6) ∷ Admit (row 1 7) ∷ Admit (row 2 8)
    ∷ Forget (record { 0 = 1 }) ∷ Decide (record { row = record { 0 = 2 }; outcome = Released })
    ∷ Decide (record { row = record { 0 = 1 }; outcome = Accepted }) ∷ []

settled_apply : Apply settled
unfolding settled first_fault effects terminus key row state_spelling described_text given
settled_apply = refl

-- the first row was decided, and has left
first_decided : decision settled 1 ≡ Some Accepted
unfolding settled
first_decided = refl

first_forgotten : is_forgotten settled 1 ≡ true
unfolding settled
first_forgotten = refl

first_left : row_said settled 1 ≡ None
unfolding settled
first_left = refl

first_tag_free : standing_row settled 1 (7 ∷ []) ≡ None
unfolding settled row
first_tag_free = refl

-- the second is there, decided
second_said : row_said settled 2 ≡ Some (record {
  number = record { 0 = 2 };
  producer = record { 0 = 1 };
  tag = record { items = 8 ∷ [] };
  consumer = Some (record { 0 = 2 });
  format = 0;
  payload = 8 ∷ [];
  outcome = Some Released;
  forgotten = false;
})
unfolding settled row
second_said = refl

second_stands : option_map (λ (r : Row). r.number.0) (standing_row settled 1 (8 ∷ [])) ≡ Some 2
unfolding settled row
second_stands = refl

-- its tag is that of terminus 1 alone
second_elsewhere : standing_row settled 2 (8 ∷ []) ≡ None
unfolding settled row
second_elsewhere = refl

third_unknown : row_said settled 3 ≡ None
unfolding settled row
third_unknown = refl

rows_left : rows_said settled ≡ (book_of settled).rows
unfolding settled effects terminus key row
rows_left = refl

-- A link that is closed and comes again: its terminus is dropped, and a new one is made for its key.
again : List Act
again = Make (terminus 1 Producer 5) ∷ Make (terminus 2 Consumer 6) ∷ Drop (record { 0 = 1 }) ∷ Make
    (terminus 3 Producer 5) ∷ []

again_apply : Apply again
unfolding again first_fault effects terminus key
again_apply = refl

first_dropped : terminus_said again 1 ≡ None
unfolding again
first_dropped = refl

first_was_made : made again 1 ≡ Some (terminus 1 Producer 5)
unfolding again terminus
first_was_made = refl

third_stands : standing_terminus again (key Producer 5) ≡ Some (terminus 3 Producer 5)
unfolding again terminus key
third_stands = refl

one_stands : termini_standing again (key Producer 5) ≡ 1
unfolding again terminus key
one_stands = refl

-- the other role's key is another
none_consumes : standing_terminus again (key Consumer 5) ≡ None
unfolding again terminus key
none_consumes = refl

termini_left : termini_said again ≡ (book_of again).termini
unfolding again effects terminus key
termini_left = refl

-- Acts that don't apply: what the words give shows it.
twice : List Act
twice = Admit (row 1 7) ∷ Admit (row 1 7) ∷ Decide (record { row = record { 0 = 1 }; outcome = Accepted }) ∷ Decide
    (record { row = record { 0 = 1 }; outcome = Released }) ∷ []

twice_admitted : times_admitted twice 1 ≡ 2
unfolding twice row
twice_admitted = refl

twice_decided : times_decided twice 1 ≡ 2
unfolding twice
twice_decided = refl

twice_standing : times_standing twice 1 (7 ∷ []) ≡ 2
unfolding twice row
twice_standing = refl
