-- The length of fields, as they are counted one by one, up to the highest number.
use Rattle.std.proofs.Common.{◌≡◌, ◌∙◌, ℕ, ◌+◌, ◌-◌, ◌<◌, ◌^◌, List, [], ◌++◌, length, length-append, take, get_or, refl, sym, ap, arith}
use Rattle.std.specs.Prelude.{min}
use Rattle.amqp_perf.specs.declared.text.Field.{Field}
use Rattle.amqp_model.specs.Texts.{field_bytes, joined}
use Rattle.amqp_perf.specs.TextViews.{field_view, fields_view}
use Rattle.amqp_perf.proofs.FieldTexts.{joined_more}

capped : (a b t : ℕ) → t ≡ min a (2 ^ 64 - 1) → min (t + b) (2 ^ 64 - 1) ≡ min (a + b) (2 ^ 64 - 1)
capped a b t e = grind arith

pub len_more : (fs : List Field) (i : ℕ) (d : Field) (total behind : ℕ) → i < length fs
    → total ≡ min (length (joined (fields_view (take i fs)))) (2 ^ 64 - 1)
    → behind ≡ min (total + length (field_bytes (field_view (get_or fs i d)))) (2 ^ 64 - 1)
    → behind ≡ min (length (joined (fields_view (take (i + 1) fs)))) (2 ^ 64 - 1)
len_more fs i d total behind lt so_far e =
    let before = joined (fields_view (take i fs)) in
    let last = field_bytes (field_view (get_or fs i d)) in
    let cap : ℕ → ℕ = λ n. min n (2 ^ 64 - 1) in
    e ∙ capped (length before) (length last) total so_far
    ∙ ap cap (sym (length-append before last))
    ∙ ap (λ bytes. cap (length bytes)) (joined_more fs i d [] before (before ++ last) lt refl refl)
