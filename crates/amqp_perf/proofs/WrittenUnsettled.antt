-- An unsettled map that was written, read again.
use Rattle.std.proofs.Common.{◌≡◌, ℕ, suc, ◌+◌, ◌*◌, ◌/◌, ◌^◌, ◌<◌, Bool, true, false, cond, ◌&&◌, ◌||◌, nat_lt, nat_eq, List, [], ◌∷◌, ◌++◌, length, Option, Some, None, Result, Ok, Err, refl, sym, ap, subst, ◌∙◌, append_assoc, true≢false, arith}
use Rattle.std.specs.Cmp.Lexicographic.{pointwise, pointwise_decides}
use Rattle.std.proofs.lemmas.Bool.Decides.{Decides-eqb}
use Rattle.std.proofs.lemmas.List.{append-nil}
use Rattle.std.proofs.lemmas.List.Folds.{list_any-append}
use Rattle.arrayvec.specs.ArrayVec.{ArrayVec}
use Rattle.amqp_model.specs.declared.code.Size.{Size}
use Rattle.amqp_model.specs.declared.code.Size.TheVariants as size
use Rattle.amqp_model.specs.declared.code.Code.TheVariants as code
use Rattle.amqp_model.specs.declared.code.Kind.TheVariants as kind
use Rattle.amqp_model.specs.Codes.{code_of as constructor_of}
use Rattle.amqp_model.specs.Data as d
use Rattle.amqp_model.specs.Data.{Data, Pairs, no_pairs, pair}
use Rattle.amqp_types.specs.Reading.{after, code_at, size_at, value_at}
use Rattle.amqp_types.specs.Spells.{Fills}
use Rattle.amqp_model.specs.Data.{pair_count}
use Rattle.amqp_model.specs.ValueSpelling.{constructed, compound_piece, wide_sizes, spelling, pair_spellings}
use Rattle.amqp_types.specs.Fitting.{FitsIn, AllPairs}
use Rattle.amqp_types.proofs.Complete.{size_complete, sized_complete, code_complete}
use Rattle.amqp_types.proofs.RoundTrip.{compound_wide, compound_narrow, value_at-spelling}
use Rattle.amqp_model.specs.declared.perf_fault.PerfFault.{PerfFault}
use Rattle.amqp_model.specs.declared.perf_fault.PerfFault.TheVariants as fault
use Rattle.amqp_model.specs.declared.state.UnsettledDelivery.{UnsettledDelivery}
use Rattle.amqp_perf.specs.Faults.{inner, by_fault, ◌>>=◌}
use Rattle.amqp_model.specs.PerfFaults.{outer}
use Rattle.amqp_perf.specs.States.{state_at, some_tag, tag_key, is_among, not_among, deliveries_at, unsettled_by, unsettled_in, unsettled_at}
use Rattle.amqp_model.specs.Texts.{FieldText, given, field_bytes, joined, spelt}
use Rattle.amqp_model.specs.PerfSpelling.{state_text, deliveries_text, unsettled_text}
use Rattle.amqp_perf.specs.Fitting.{Each, IsTag, AllDeliveries, TagsDiffer, FitsUnsettled}
use Rattle.amqp_perf.proofs.WrittenPlaces.{found, place, in_place-some, in_place-none}
use Rattle.amqp_perf.proofs.WrittenFields.{tag_again}
use Rattle.amqp_perf.proofs.WrittenLists.{Counted, number_is}
use Rattle.amqp_perf.proofs.WrittenStates.{state_kept_again}
use Rattle.amqp_perf.proofs.WrittenValues.{Spelt, state_spelt}

-- ---- tags that differ

neither : (a b : Bool) → (a || b) ≡ false → (a ≡ false) × (b ≡ false)
neither true b h = absurd (true≢false h)
neither false b h = (refl, h)

turned : (a b : List ℕ) → pointwise nat_eq a b ≡ false → pointwise nat_eq b a ≡ false
turned a b h = by_test (pointwise nat_eq b a) refl
  where
    by_test : (x : Bool) → pointwise nat_eq b a ≡ x → x ≡ false
    by_test true e = absurd (true≢false (sym ((pointwise_decides Decides-eqb a b).1 (sym ((pointwise_decides Decides-eqb b a).0 e))) ∙ h))
    by_test false e = refl

abbrev AreFresh : List UnsettledDelivery → List UnsettledDelivery → Type 0
AreFresh before [] = Unit {0}
AreFresh before (w ∷ ws) = (is_among before w.tag ≡ false) × AreFresh before ws

fresh_more : (before us : List UnsettledDelivery) (u : UnsettledDelivery) → AreFresh before us → is_among us u.tag ≡ false → AreFresh (before ++ u ∷ []) us
fresh_more before [] u fresh apart = tt
fresh_more before (w ∷ ws) u fresh apart =
    let differ = neither (pointwise nat_eq w.tag.items u.tag.items) (is_among ws u.tag) apart in (
      list_any-append (λ other. pointwise nat_eq other.tag.items w.tag.items) before (u ∷ [])
          ∙ ap (λ b. b || (pointwise nat_eq u.tag.items w.tag.items || false)) fresh.0
          ∙ ap (λ b. b || false) (turned w.tag.items u.tag.items differ.0),
      fresh_more before ws u fresh.1 differ.1,
    )

nothing_fresh : (us : List UnsettledDelivery) → AreFresh [] us
nothing_fresh [] = tt
nothing_fresh (u ∷ us) = (refl, nothing_fresh us)

-- ---- deliveries as fields, of which none is left out

delivery_texts : List UnsettledDelivery → List FieldText
delivery_texts [] = []
delivery_texts (u ∷ us) = spelt (d.binary u.tag.items) ∷ Some (field_bytes (state_text u.state)) ∷ delivery_texts us

all_given : (us : List UnsettledDelivery) → given (delivery_texts us) ≡ delivery_texts us
unfolding given delivery_texts
all_given [] = refl
all_given (u ∷ us) = ap (λ fs. spelt (d.binary u.tag.items) ∷ Some (field_bytes (state_text u.state)) ∷ fs) (all_given us)

all_counted : (us : List UnsettledDelivery) → length (delivery_texts us) ≡ 2 * length us
unfolding delivery_texts
all_counted [] = refl
all_counted (u ∷ us) = let e = all_counted us in omega (arith, e)

all_joined : (us : List UnsettledDelivery) → joined (delivery_texts us) ≡ deliveries_text us
unfolding delivery_texts
all_joined [] = refl
all_joined (u ∷ us) =
    ap (λ (t : List ℕ). spelling (d.binary u.tag.items) ++ (field_bytes (state_text u.state) ++ t)) (all_joined us)
    ∙ sym (append_assoc (spelling (d.binary u.tag.items)) (field_bytes (state_text u.state)) (deliveries_text us))

deliveries_place : (us : List UnsettledDelivery) → record { depth = 29; left = 2 * length us; bytes = deliveries_text us } ≡ place 29 (delivery_texts us)
unfolding place
deliveries_place us =
    ap (λ n. record { depth = 29; left = n; bytes = deliveries_text us }) (sym (all_counted us))
    ∙ ap (λ (t : List ℕ). record { depth = 29; left = length (delivery_texts us); bytes = t }) (sym (all_joined us))
    ∙ ap (λ (fs : List FieldText). record { depth = 29; left = length fs; bytes = joined fs }) (sym (all_given us))

tag_key_again : (t : ArrayVec ℕ) (fs : List FieldText) → IsTag t → tag_key (place 29 (spelt (d.binary t.items) ∷ fs)) ≡ Ok (t, place 29 fs)
unfolding tag_key
tag_key_again t fs h = ap (λ r. r >>= some_tag) (tag_again 28 (Some t) fs h)

deliveries_again : (before us : List UnsettledDelivery) → AllDeliveries us → TagsDiffer us → AreFresh before us → deliveries_at before (length us) (place 29 (delivery_texts us)) ≡ Ok (before ++ us)
unfolding deliveries_at delivery_texts
deliveries_again before [] all differ fresh = ap (λ ds. found ds) (sym (append-nil before))
deliveries_again before (u ∷ us) all differ fresh =
    ap (λ r. r >>= λ tag. not_among before tag.0 >>= λ none. state_at tag.1 >>= λ state. deliveries_at (before ++ record { tag = tag.0; state = state.0 } ∷ []) (length us) state.1) (tag_key_again u.tag (Some (field_bytes (state_text u.state)) ∷ delivery_texts us) all.0)
    ∙ ap (λ b. cond b (Err fault.DuplicateTag) (found tt) >>= λ none. state_at (place 29 (Some (field_bytes (state_text u.state)) ∷ delivery_texts us)) >>= λ state. deliveries_at (before ++ record { tag = u.tag; state = state.0 } ∷ []) (length us) state.1) fresh.0
    ∙ ap (λ r. r >>= λ state. deliveries_at (before ++ record { tag = u.tag; state = state.0 } ∷ []) (length us) state.1) (state_kept_again 24 u.state (delivery_texts us) all.1)
    ∙ deliveries_again (before ++ u ∷ []) us all.2 differ.1 (fresh_more before us u fresh.1 differ.0)
    ∙ ap (λ ds. found ds) (append_assoc before (u ∷ []) us)

-- ---- the map that they encode

record Paired (us : List UnsettledDelivery) : Type 0 where
  pub pairs : Pairs
  pub counted : length us ≡ pair_count pairs
  pub same : deliveries_text us ≡ pair_spellings pairs
  pub fit : AllPairs (FitsIn 29) pairs

deliveries_paired : (us : List UnsettledDelivery) → AllDeliveries us → Paired us
unfolding pair_spellings FitsIn
deliveries_paired [] all = record { pairs = no_pairs; counted = refl; same = refl; fit = tt }
deliveries_paired (u ∷ us) all =
    let more = deliveries_paired us all.2 in
    let tag = d.binary u.tag.items in
    let state = state_spelt 24 u.state all.1 in
    let short = all.0 in
    record {
      pairs = pair tag state.value more.pairs;
      counted = ap suc more.counted;
      same =
          append_assoc (spelling tag) (field_bytes (state_text u.state)) (deliveries_text us)
          ∙ ap (λ (t : List ℕ). spelling tag ++ (t ++ deliveries_text us)) state.same
          ∙ ap (λ (t : List ℕ). spelling tag ++ (spelling state.value ++ t)) more.same;
      fit = (omega (arith, short), state.fits, more.fit);
    }

unsettled_spelt : (us : List UnsettledDelivery) → FitsUnsettled us → Spelt 30 (constructed kind.Map (compound_piece (2 * length us) (deliveries_text us)))
unfolding spelling FitsIn
unsettled_spelt us h =
    let paired = deliveries_paired us h.each in
    record {
      value = d.map paired.pairs;
      same =
          ap (λ n. constructed kind.Map (compound_piece (2 * n) (deliveries_text us))) paired.counted
          ∙ ap (λ (t : List ℕ). constructed kind.Map (compound_piece (2 * pair_count paired.pairs) t)) paired.same;
      fits = (subst (λ n. 2 * n < 2 ^ 32) paired.counted h.few, subst (λ (t : List ℕ). length t + 4 < 2 ^ 32) paired.same h.short, paired.fit);
    }

abbrev kept_before : List ℕ → Option (List UnsettledDelivery) → Result (Option (List UnsettledDelivery) × List ℕ) PerfFault
kept_before rest u = Ok (u, rest)

unsettled_sized : (bytes : List ℕ) (b : ℕ) (s : Size) (n : ℕ) (inside text rest : List ℕ) (v : Data) → constructor_of b ≡ Some (code.Map s) → Fills s text v (Counted s n inside)
    → (by_fault outer (code_at (b ∷ (text ++ rest))) >>= λ opened. unsettled_by 30 bytes opened >>= λ u. kept_before rest u)
    ≡ (deliveries_at [] (n / 2) (record { depth = 29; left = n; bytes = inside }) >>= λ ds. found (Some ds)) >>= λ u. kept_before rest u
unsettled_sized bytes b s n inside text rest v known h =
    ap (λ r. by_fault outer r >>= λ opened. unsettled_by 30 bytes opened >>= λ u. kept_before rest u) (code_complete b (code.Map s) (text ++ rest) known)
    ∙ ap (λ r. (by_fault outer r >>= λ x. by_fault inner (size_at s x.0) >>= λ count. deliveries_at [] (count.0 / 2) (record { depth = 29; left = count.0; bytes = count.1 }) >>= λ ds. found (Some ds)) >>= λ u. kept_before rest u) (sized_complete s text h.inside rest h.sized)
    ∙ ap (λ (t : List ℕ). (by_fault inner (size_at s t) >>= λ count. deliveries_at [] (count.0 / 2) (record { depth = 29; left = count.0; bytes = count.1 }) >>= λ ds. found (Some ds)) >>= λ u. kept_before rest u) h.spelled.1
    ∙ ap (λ r. (by_fault inner r >>= λ count. deliveries_at [] (count.0 / 2) (record { depth = 29; left = count.0; bytes = count.1 }) >>= λ ds. found (Some ds)) >>= λ u. kept_before rest u) (size_complete s h.spelled.0 n inside h.spelled.2)

unsettled_map : (bytes : List ℕ) (n : ℕ) (inside rest : List ℕ) → n < 2 ^ 32 → length inside + 4 < 2 ^ 32
    → (by_fault outer (code_at (constructed kind.Map (compound_piece n inside) ++ rest)) >>= λ opened. unsettled_by 30 bytes opened >>= λ u. kept_before rest u)
    ≡ (deliveries_at [] (n / 2) (record { depth = 29; left = n; bytes = inside }) >>= λ ds. found (Some ds)) >>= λ u. kept_before rest u
unfolding constructor_of
unsettled_map bytes n inside rest few short = by_test (nat_lt (length inside) 255 && nat_lt n 256)
  where
    by_test : (b : Bool)
        → (by_fault outer (code_at (cond b (0xC1 ∷ cond b ((length inside + 1) ∷ n ∷ inside) []) (0xD1 ∷ (wide_sizes n (length inside) ++ inside)) ++ rest)) >>= λ opened. unsettled_by 30 bytes opened >>= λ u. kept_before rest u)
        ≡ (deliveries_at [] (n / 2) (record { depth = 29; left = n; bytes = inside }) >>= λ ds. found (Some ds)) >>= λ u. kept_before rest u
    by_test true = unsettled_sized bytes 0xC1 size.One n inside ((length inside + 1) ∷ n ∷ inside) rest d.null refl (compound_narrow n inside d.null (Counted size.One n inside) (number_is size.One n inside d.null))
    by_test false = unsettled_sized bytes 0xD1 size.Four n inside (wide_sizes n (length inside) ++ inside) rest d.null refl (compound_wide n inside d.null (Counted size.Four n inside) few short (number_is size.Four n inside d.null))

-- ---- the field

half : (n : ℕ) → (2 * n) / 2 ≡ n
half n = omega arith

unsettled_in_again : (us : List UnsettledDelivery) (rest : List ℕ) → FitsUnsettled us → unsettled_in 30 (constructed kind.Map (compound_piece (2 * length us) (deliveries_text us)) ++ rest) ≡ Ok (Some us, rest)
unfolding unsettled_in
unsettled_in_again us rest h =
    let text = constructed kind.Map (compound_piece (2 * length us) (deliveries_text us)) in
    let whole = unsettled_spelt us h in
    let value : value_at 30 (text ++ rest) ≡ Ok (whole.value, rest) = ap (λ (t : List ℕ). value_at 30 (t ++ rest)) whole.same ∙ value_at-spelling 30 whole.value rest whole.fits in
    ap (λ r. by_fault outer (after r) >>= λ behind. by_fault outer (code_at (text ++ rest)) >>= λ opened. unsettled_by 30 (text ++ rest) opened >>= λ u. kept_before behind u) value
    ∙ unsettled_map (text ++ rest) (2 * length us) (deliveries_text us) rest h.few h.short
    ∙ ap (λ n. (deliveries_at [] n (record { depth = 29; left = 2 * length us; bytes = deliveries_text us }) >>= λ ds. found (Some ds)) >>= λ u. kept_before rest u) (half (length us))
    ∙ ap (λ at. (deliveries_at [] (length us) at >>= λ ds. found (Some ds)) >>= λ u. kept_before rest u) (deliveries_place us)
    ∙ ap (λ r. (r >>= λ ds. found (Some ds)) >>= λ u. kept_before rest u) (deliveries_again [] us h.each h.differ (nothing_fresh us))

unsettled_in_null : (rest : List ℕ) → unsettled_in 30 (0x40 ∷ rest) ≡ Ok (None, rest)
unfolding unsettled_in constructor_of spelling FitsIn
unsettled_in_null rest =
    ap (λ r. by_fault outer (after r) >>= λ behind. by_fault outer (code_at (0x40 ∷ rest)) >>= λ opened. unsettled_by 30 (0x40 ∷ rest) opened >>= λ u. kept_before behind u) (value_at-spelling 30 d.null rest tt)

pub unsettled_at_again : (x : Option (List UnsettledDelivery)) (fs : List FieldText) → Each FitsUnsettled x → unsettled_at (place 30 (unsettled_text x ∷ fs)) ≡ Ok (x, place 30 fs)
unfolding unsettled_at
unsettled_at_again None fs h = in_place-none unsettled_in 30 fs unsettled_in_null
unsettled_at_again (Some us) fs h = in_place-some unsettled_in 30 (constructed kind.Map (compound_piece (2 * length us) (deliveries_text us))) us fs (λ rest. unsettled_in_again us rest h)
