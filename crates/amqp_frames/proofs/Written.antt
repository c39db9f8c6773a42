-- What is written is encoded, and found again.
use Rattle.std.proofs.Common.{◌≡◌, ℕ, ◌+◌, ◌^◌, ◌<◌, ◌≤◌, List, [], ◌∷◌, ◌++◌, length, refl, sym, ap, ◌∙◌, arith, inr, Bool, true, false, if◌then◌else◌, append-nil}
use Rattle.std.proofs.lemmas.Grind.{common_steps}
use Rattle.std.proofs.lemmas.Nat.{from_be_bytes-to_be_bytes_2, from_be_bytes-to_be_bytes_4}
use Rattle.std.proofs.Math.Seq.{drop-append_seam}
use Rattle.std.specs.Int.{w16, w32, from_be_bytes, to_be_bytes}
use Rattle.amqp_model.specs.PerfSpelling.{spelling}
use Rattle.amqp_perf.proofs.WrittenPerformatives.{performative_again}
use Rattle.amqp_model.specs.declared.item.Item.{Item}
use Rattle.amqp_model.specs.declared.item.Item.TheVariants as item
use Rattle.amqp_frames.specs.Cuts.{Leads}
use Rattle.amqp_frames.specs.Frames.{front, found}
use Rattle.amqp_model.specs.ItemSpelling.{head_spelling, frame_spelling, item_spelling}
use Rattle.amqp_frames.specs.SpellsItem.{IsFrame, SpellsItem, IsSpelt}
use Rattle.amqp_frames.specs.Within.{IsWithin}
use Rattle.amqp_frames.proofs.Complete.{limit, limit_within, spells_item, item_front}
use Rattle.amqp_frames.proofs.SomeBytes.{spelling_some}
use Rattle.amqp_frames.proofs.Sound.{found_sound}

written_channel : (sasl : Bool) (channel : ℕ) → channel < 2 ^ 16 → (sasl ≡ true → channel ≡ 0)
    → channel ≡ (if sasl then 0 else from_be_bytes w16 (to_be_bytes w16 (if sasl then 0 else channel)))
written_channel true channel h none = none refl
written_channel false channel h none = sym (from_be_bytes-to_be_bytes_2 channel h)

written_frame : (sasl : Bool) (channel : ℕ) (body : List ℕ) → channel < 2 ^ 16 → (sasl ≡ true → channel ≡ 0) → 8 + length body ≤ limit sasl → IsFrame sasl channel body (frame_spelling sasl channel body)
written_frame sasl channel body h none most =
    let small : 8 + length body ≤ 16384 = limit_within sasl (8 + length body) most in
    let fits : 8 + length body < 2 ^ 32 = omega arith in
    let len : length (frame_spelling sasl channel body) ≡ 8 + length body = grind (arith, common_steps) in
    record {
      size = to_be_bytes w32 (8 + length body);
      offset = 2;
      numbered = to_be_bytes w16 (if sasl then 0 else channel);
      extended = [];
      spelt = ap (λ (l : List ℕ). l ++ body) (sym (append-nil (head_spelling sasl channel (length body))));
      size_field = refl;
      counts = from_be_bytes-to_be_bytes_4 (8 + length body) fits ∙ sym len;
      words = refl;
      channel_field = refl;
      numbers = written_channel sasl channel h none;
      within = rw len most;
    }

-- what is written is encoded
pub written_spelt : (x : Item) → IsWithin x → SpellsItem (item_spelling x) x
unfolding item_spelling
written_spelt (item.Header id major minor revision) is = refl
written_spelt (item.Frame sasl channel p payload) is =
    let some : 0 < length (spelling p ++ payload) = (let first : 0 < length (spelling p) = spelling_some p in grind (arith, common_steps)) in (
      spelling p ++ payload,
      length (spelling p),
      written_frame sasl channel (spelling p ++ payload) is.channel_field is.sasl_channel is.size,
      performative_again p payload is.fits,
      sym (drop-append_seam (spelling p) payload),
      inr some,
      is.carried,
    )
written_spelt (item.Beat channel) is = written_frame false channel [] is (λ h. absurd (let bad : false ≡ true = h in cc)) (omega arith)
written_spelt (item.Bad f) is = absurd is

-- what is encoded is found
pub spelt_found : (text behind : List ℕ) (x : Item) → SpellsItem text x → front (text ++ behind) ≡ found x behind
spelt_found text behind x is = item_front text behind x (spells_item text x is)

-- what is written is found again
pub written_found : (x : Item) (behind : List ℕ) → IsWithin x → front (item_spelling x ++ behind) ≡ found x behind
written_found x behind is = spelt_found (item_spelling x) behind x (written_spelt x is)

-- items that follow one another are those that are encoded
pub leads_spelt : (stream : List ℕ) (items : List Item) (rest : List ℕ) → Leads stream items rest → IsSpelt stream items rest
leads_spelt stream [] rest h = h
leads_spelt stream (x ∷ xs) rest h = let text = found_sound stream x h.0 h.1 in (text.0, h.0, text.1, text.2, leads_spelt h.0 xs rest h.2)

pub spelt_leads : (stream : List ℕ) (items : List Item) (rest : List ℕ) → IsSpelt stream items rest → Leads stream items rest
spelt_leads stream [] rest h = h
spelt_leads stream (x ∷ xs) rest h = (h.1, ap front h.2 ∙ spelt_found h.0 h.1 x h.3, spelt_leads h.1 xs rest h.4)
