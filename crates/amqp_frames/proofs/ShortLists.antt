-- Lists whose size and count have one byte each are the canonical encodings of their fields.
use Rattle.std.proofs.Common.{◌≡◌, ℕ, ◌+◌, ◌<◌, ◌≤◌, Bool, true, false, List, [], ◌∷◌, ◌++◌, length, refl, sym, ap, ◌∙◌, arith, append_assoc, append-nil, Some, None}
use Rattle.std.specs.Prelude.{nat_lt, ◌==◌}
use Rattle.std.proofs.lemmas.Bool.{ne_eqb}
use Rattle.arrayvec.specs.ArrayVec.{ArrayVec}
use Rattle.amqp_model.specs.Data as d
use Rattle.amqp_model.specs.declared.descriptor.Descriptor.{Descriptor}
use Rattle.amqp_model.specs.declared.descriptor.Descriptor.TheVariants as is
use Rattle.amqp_model.specs.declared.state.DeliveryState.TheVariants as state
use Rattle.amqp_model.specs.declared.perf.Transfer.{Transfer}
use Rattle.amqp_model.specs.declared.perf.Disposition.{Disposition}
use Rattle.amqp_model.specs.declared.perf.Flow.{Flow}
use Rattle.amqp_model.specs.Descriptors.{code_of}
use Rattle.amqp_model.specs.ValueSpelling.{spelling, list_text}
use Rattle.amqp_model.specs.Texts.{FieldText, given, given_by, field_bytes, joined, described_text, spelt, mapped, flag_text}
use Rattle.amqp_model.specs.PerfSpelling.{role_text, state_spelling, transfer_texts, disposition_texts, flow_texts}
use Rattle.amqp_model.specs.ItemSpelling.{head_spelling, frame_spelling}
use Rattle.std.proofs.lemmas.Grind.{common_steps}
use Rattle.amqp_frames.specs.ShortLists.{short_list, firsts, BeginsDelivery}

list_is : (count : ℕ) (inside : List ℕ) → 1 ≤ count → count < 256 → length inside < 255 → list_text count inside ≡ 0xc0 ∷ (length inside + 1) ∷ count ∷ inside
list_is count inside some few short =
    let not_empty : (count == 0) ≡ false = ne_eqb count 0 (λ e. absurd (omega arith)) in
    let fits : nat_lt (length inside) 255 ≡ true = grind arith in
    let counts : nat_lt count 256 ≡ true = grind arith in
    rw (not_empty, fits, counts) refl

described_is : (name : Descriptor) (fs gs : List FieldText) (inside : List ℕ) → given fs ≡ gs → inside ≡ joined gs → 1 ≤ length gs → length gs < 256 → length inside < 255
    → described_text name fs ≡ short_list (code_of name) (length gs) inside
unfolding described_text
described_is name fs gs inside is written some few short =
    rw (is, ← written) (ap (λ (l : List ℕ). 0x00 ∷ 0x53 ∷ code_of name ∷ l) (list_is (length gs) inside some few short))

-- a field stays where one that is given is behind it
stays : (f g : FieldText) (gs : List FieldText) → given_by f (g ∷ gs) ≡ f ∷ g ∷ gs
stays None g gs = refl
stays (Some text) g gs = refl

-- ---- fields, written one after another

joined-last : (fs : List FieldText) (f : FieldText) → joined (fs ++ f ∷ []) ≡ joined fs ++ field_bytes f
joined-last [] f = append-nil (field_bytes f)
joined-last (g ∷ fs) f = ap (λ (l : List ℕ). field_bytes g ++ l) (joined-last fs f) ∙ sym (append_assoc (field_bytes g) (joined fs) (field_bytes f))

-- one field more
pub adds : (fs : List FieldText) (f : FieldText) (old new : List ℕ) → old ≡ joined fs → new ≡ old ++ field_bytes f → new ≡ joined (fs ++ f ∷ [])
adds fs f old new before is = is ∙ ap (λ (l : List ℕ). l ++ field_bytes f) before ∙ sym (joined-last fs f)

-- ---- a transfer

given_four : (x : Transfer) (inside : List ℕ) (h : BeginsDelivery x inside) → x.settled ≡ false → x.more ≡ false → given (transfer_texts x) ≡ firsts x h.id h.tag h.format
unfolding given
given_four x inside h settled more =
    rw (h.delivery_id, h.delivery_tag, h.message_format, settled, more, h.mode, h.state, h.resume, h.aborted, h.batchable) refl

given_five : (x : Transfer) (inside : List ℕ) (h : BeginsDelivery x inside) → x.settled ≡ true → x.more ≡ false
    → given (transfer_texts x) ≡ firsts x h.id h.tag h.format ++ flag_text true ∷ []
unfolding given
given_five x inside h settled more =
    rw (h.delivery_id, h.delivery_tag, h.message_format, settled, more, h.mode, h.state, h.resume, h.aborted, h.batchable) refl

given_six : (x : Transfer) (inside : List ℕ) (h : BeginsDelivery x inside) → x.more ≡ true
    → given (transfer_texts x) ≡ firsts x h.id h.tag h.format ++ flag_text x.settled ∷ flag_text true ∷ []
unfolding given
given_six x inside h more =
    rw (h.delivery_id, h.delivery_tag, h.message_format, more, h.mode, h.state, h.resume, h.aborted, h.batchable, stays (flag_text x.settled) (flag_text true) []) refl

-- the first four fields of a transfer
pub four_written : (x : Transfer) (id : ℕ) (t : ArrayVec ℕ) (format : ℕ) (i0 i1 i2 i3 i4 : List ℕ) → i0 ≡ [] → i1 ≡ i0 ++ spelling (d.uint x.handle) → i2 ≡ i1 ++ spelling (d.uint id)
    → i3 ≡ i2 ++ spelling (d.binary t.items) → i4 ≡ i3 ++ spelling (d.uint format) → i4 ≡ joined (firsts x id t format)
four_written x id t format i0 i1 i2 i3 i4 e0 e1 e2 e3 e4 =
    let first = adds [] (spelt (d.uint x.handle)) i0 i1 e0 e1 in
    let second = adds (spelt (d.uint x.handle) ∷ []) (spelt (d.uint id)) i1 i2 first e2 in
    let third = adds (spelt (d.uint x.handle) ∷ spelt (d.uint id) ∷ []) (spelt (d.binary t.items)) i2 i3 second e3 in
    adds (spelt (d.uint x.handle) ∷ spelt (d.uint id) ∷ spelt (d.binary t.items) ∷ []) (spelt (d.uint format)) i3 i4 third e4

pub transfer_of_four : (x : Transfer) (i4 : List ℕ) → BeginsDelivery x i4 → x.settled ≡ false → x.more ≡ false → length i4 < 255
    → described_text is.Transfer (transfer_texts x) ≡ short_list 0x14 4 i4
transfer_of_four x i4 h settled more short = described_is is.Transfer (transfer_texts x) (firsts x h.id h.tag h.format) i4 (given_four x i4 h settled more) h.fields (omega arith) (omega arith) short

pub transfer_of_five : (x : Transfer) (i4 i5 : List ℕ) → BeginsDelivery x i4 → x.settled ≡ true → x.more ≡ false → i5 ≡ i4 ++ field_bytes (flag_text true) → length i5 < 255
    → described_text is.Transfer (transfer_texts x) ≡ short_list 0x14 5 i5
transfer_of_five x i4 i5 h settled more e5 short =
    described_is is.Transfer (transfer_texts x) (firsts x h.id h.tag h.format ++ flag_text true ∷ []) i5 (given_five x i4 h settled more)
    (adds (firsts x h.id h.tag h.format) (flag_text true) i4 i5 h.fields e5) (omega arith) (omega arith) short

pub transfer_of_six : (x : Transfer) (i4 i5 i6 : List ℕ) → BeginsDelivery x i4 → x.more ≡ true → i5 ≡ i4 ++ field_bytes (flag_text x.settled) → i6 ≡ i5 ++ field_bytes (flag_text true)
    → length i6 < 255 → described_text is.Transfer (transfer_texts x) ≡ short_list 0x14 6 i6
transfer_of_six x i4 i5 i6 h more e5 e6 short =
    let five = adds (firsts x h.id h.tag h.format) (flag_text x.settled) i4 i5 h.fields e5 in
    described_is is.Transfer (transfer_texts x) (firsts x h.id h.tag h.format ++ flag_text x.settled ∷ flag_text true ∷ []) i6 (given_six x i4 h more)
    (adds (firsts x h.id h.tag h.format ++ flag_text x.settled ∷ []) (flag_text true) i5 i6 five e6) (omega arith) (omega arith) short

-- ---- a disposition

abbrev accepted_bytes : List ℕ
accepted_bytes = 0x00 ∷ 0x53 ∷ 0x24 ∷ 0x45 ∷ []

accepted_is : state_spelling state.Accepted ≡ accepted_bytes
unfolding state_spelling described_text given
accepted_is = refl

given_disposition : (x : Disposition) → x.settled ≡ true → x.state ≡ Some state.Accepted → x.batchable ≡ false
    → given (disposition_texts x) ≡ role_text x.role ∷ spelt (d.uint x.first) ∷ mapped d.uint x.last ∷ flag_text true ∷ Some accepted_bytes ∷ []
unfolding given
given_disposition x settled accepted batchable =
    rw (
      settled,
      accepted,
      batchable,
      accepted_is,
      stays (mapped d.uint x.last) (flag_text true) (Some accepted_bytes ∷ []),
      stays (role_text x.role) (spelt (d.uint x.first)) (mapped d.uint x.last ∷ flag_text true ∷ Some accepted_bytes ∷ []),
    ) refl

pub disposition_is : (x : Disposition) (i0 i1 i2 i3 i4 i5 : List ℕ) → x.settled ≡ true → x.state ≡ Some state.Accepted → x.batchable ≡ false → i0 ≡ []
    → i1 ≡ i0 ++ field_bytes (role_text x.role) → i2 ≡ i1 ++ spelling (d.uint x.first) → i3 ≡ i2 ++ field_bytes (mapped d.uint x.last) → i4 ≡ i3 ++ field_bytes (flag_text true)
    → i5 ≡ i4 ++ accepted_bytes → length i5 < 255 → described_text is.Disposition (disposition_texts x) ≡ short_list 0x15 5 i5
disposition_is x i0 i1 i2 i3 i4 i5 settled accepted batchable e0 e1 e2 e3 e4 e5 short =
    let role = role_text x.role in
    let first = spelt (d.uint x.first) in
    let last = mapped d.uint x.last in
    let one = adds [] role i0 i1 e0 e1 in
    let two = adds (role ∷ []) first i1 i2 one e2 in
    let three = adds (role ∷ first ∷ []) last i2 i3 two e3 in
    let four = adds (role ∷ first ∷ last ∷ []) (flag_text true) i3 i4 three e4 in
    let five = adds (role ∷ first ∷ last ∷ flag_text true ∷ []) (Some accepted_bytes) i4 i5 four e5 in
    described_is is.Disposition (disposition_texts x) (role ∷ first ∷ last ∷ flag_text true ∷ Some accepted_bytes ∷ []) i5 (given_disposition x settled accepted batchable) five (omega arith) (omega arith) short

-- ---- a flow

pub record EndsWithCredit (x : Flow) (credit : ℕ) : Type 0 where
  pub link_credit : x.link_credit ≡ Some credit
  pub available : x.available ≡ None
  pub drain : x.drain ≡ false
  pub echo : x.echo ≡ false
  pub properties : x.properties ≡ None

abbrev pub credits : Flow → ℕ → List FieldText
credits x credit =
    mapped d.uint x.next_incoming_id ∷ spelt (d.uint x.incoming_window) ∷ spelt (d.uint x.next_outgoing_id) ∷ spelt (d.uint x.outgoing_window) ∷ mapped d.uint x.handle ∷ mapped d.uint x.delivery_count ∷ spelt (d.uint credit) ∷ []

given_flow : (x : Flow) (credit : ℕ) → EndsWithCredit x credit → given (flow_texts x) ≡ credits x credit
unfolding given
given_flow x credit h =
    rw (
      h.link_credit,
      h.available,
      h.drain,
      h.echo,
      h.properties,
      stays (mapped d.uint x.delivery_count) (spelt (d.uint credit)) [],
      stays (mapped d.uint x.handle) (mapped d.uint x.delivery_count) (spelt (d.uint credit) ∷ []),
      stays (mapped d.uint x.next_incoming_id) (spelt (d.uint x.incoming_window))
          (spelt (d.uint x.next_outgoing_id) ∷ spelt (d.uint x.outgoing_window) ∷ mapped d.uint x.handle ∷ mapped d.uint x.delivery_count ∷ spelt (d.uint credit) ∷ []),
    ) refl

pub flow_is : (x : Flow) (credit : ℕ) (i0 i1 i2 i3 i4 i5 i6 i7 : List ℕ) → EndsWithCredit x credit → i0 ≡ [] → i1 ≡ i0 ++ field_bytes (mapped d.uint x.next_incoming_id)
    → i2 ≡ i1 ++ spelling (d.uint x.incoming_window) → i3 ≡ i2 ++ spelling (d.uint x.next_outgoing_id) → i4 ≡ i3 ++ spelling (d.uint x.outgoing_window)
    → i5 ≡ i4 ++ field_bytes (mapped d.uint x.handle) → i6 ≡ i5 ++ field_bytes (mapped d.uint x.delivery_count) → i7 ≡ i6 ++ spelling (d.uint credit) → length i7 < 255
    → described_text is.Flow (flow_texts x) ≡ short_list 0x13 7 i7
flow_is x credit i0 i1 i2 i3 i4 i5 i6 i7 h e0 e1 e2 e3 e4 e5 e6 e7 short =
    let next = mapped d.uint x.next_incoming_id in
    let window = spelt (d.uint x.incoming_window) in
    let outgoing = spelt (d.uint x.next_outgoing_id) in
    let space = spelt (d.uint x.outgoing_window) in
    let handle = mapped d.uint x.handle in
    let count = mapped d.uint x.delivery_count in
    let one = adds [] next i0 i1 e0 e1 in
    let two = adds (next ∷ []) window i1 i2 one e2 in
    let three = adds (next ∷ window ∷ []) outgoing i2 i3 two e3 in
    let four = adds (next ∷ window ∷ outgoing ∷ []) space i3 i4 three e4 in
    let five = adds (next ∷ window ∷ outgoing ∷ space ∷ []) handle i4 i5 four e5 in
    let six = adds (next ∷ window ∷ outgoing ∷ space ∷ handle ∷ []) count i5 i6 five e6 in
    let seven = adds (next ∷ window ∷ outgoing ∷ space ∷ handle ∷ count ∷ []) (spelt (d.uint credit)) i6 i7 six e7 in
    described_is is.Flow (flow_texts x) (credits x credit) i7 (given_flow x credit h) seven (omega arith) (omega arith) short

-- ---- a frame

pub frame_of_list : (old first second third new head list fields payload : List ℕ) (sasl : Bool) (channel code count len : ℕ) → first ≡ old ++ head → second ≡ first ++ list
    → third ≡ second ++ fields → new ≡ third ++ payload → head ≡ head_spelling sasl channel len → list ≡ 0x00 ∷ 0x53 ∷ code ∷ 0xc0 ∷ (length fields + 1) ∷ count ∷ []
    → len ≡ length payload + (6 + length fields) → new ≡ old ++ frame_spelling sasl channel (short_list code count fields ++ payload)
frame_of_list old first second third new head list fields payload sasl channel code count len e1 e2 e3 e4 is listed sized =
    let body : List ℕ = short_list code count fields ++ payload in
    let all : length body ≡ len = grind (arith, common_steps) in
    rw (e4, e3, e2, e1, all) (rw (is, listed) (simp append_assoc refl))
