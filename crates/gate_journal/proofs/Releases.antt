-- Acts that make the reserve smaller pay for their own bytes.
use Rattle.std.proofs.Common.{◌≡◌, ◌≢◌, ◌+◌, ◌*◌, ◌≤◌, List, [], ◌∷◌, ◌++◌, length, refl, arith, length-append}
use Rattle.std.specs.Prelude.{sum_by}
use Rattle.std.proofs.lemmas.List.Sums.{sum_by-cons}
use Rattle.amqp_model.specs.PerfSpelling.{state_spelling}
use Rattle.book_model.specs.declared.act.Act.{Act}
use Rattle.book_model.specs.declared.act.Act.TheVariants.{Make, Admit, Decide, Forget, Drop}
use Rattle.journal_codec.specs.Format.{in_2, in_8, act_bytes, acts_bytes}
use Rattle.gate_journal.specs.Reserve.{growth, release, Releases, OnlyRelease, Costs}
use Rattle.journal_codec.proofs.Spelled.{length-in_2, length-in_8}

one_pays : (act : Act) → Releases act → length (act_bytes act) + 5 ≤ release act + growth act
unfolding act_bytes
one_pays (Make t) h = absurd h
one_pays (Admit a) h = absurd h
one_pays (Decide d) h =
    omega (
      arith,
      h,
      length-in_8 d.row.0,
      length-in_2 (length (state_spelling d.outcome)),
      length-append (3 ∷ []) (in_8 d.row.0),
      length-append ((3 ∷ []) ++ in_8 d.row.0) (in_2 (length (state_spelling d.outcome))),
      length-append ((3 ∷ []) ++ in_8 d.row.0 ++ in_2 (length (state_spelling d.outcome))) (state_spelling d.outcome),
    )
one_pays (Forget n) h = omega (arith, length-in_8 n.0)
one_pays (Drop n) h = omega (arith, length-in_8 n.0)

none_grows : (act : Act) → Releases act → growth act ≡ 0
none_grows (Make t) h = absurd h
none_grows (Admit a) h = absurd h
none_grows (Decide d) h = refl
none_grows (Forget n) h = refl
none_grows (Drop n) h = refl

all_pay : (acts : List Act) → OnlyRelease acts → length (acts_bytes acts) + 5 * length acts + sum_by growth acts ≤ sum_by release acts
all_pay [] h = omega arith
all_pay (act ∷ acts) h =
    let rest = all_pay acts h.1 in
    let pays = one_pays act h.0 in
    let grows = none_grows act h.0 in
    let releases : sum_by release (act ∷ acts) ≡ release act + sum_by release acts = sum_by-cons release act acts in
    let growths : sum_by growth (act ∷ acts) ≡ growth act + sum_by growth acts = sum_by-cons growth act acts in
    omega (arith, rest, pays, grows, length-append (act_bytes act) (acts_bytes acts))

some_length : (acts : List Act) → acts ≢ [] → 1 ≤ length acts
some_length [] some = absurd (some refl)
some_length (act ∷ acts) some = omega arith

pub releases_fit : (acts : List Act) → acts ≢ [] → OnlyRelease acts → Costs acts → ⊥
releases_fit acts some h costs = omega (arith, costs, all_pay acts h, some_length acts some)
