-- The frame that only settles a delivery is short, and the only one.
use Rattle.std.proofs.Common.{◌≡◌, ◌≤◌, ◌∙◌, ℕ, Bool, true, false, true≢false, List, [], ◌∷◌, ◌++◌, length, length-append, Option, Some, None, refl, sym, subst, arith}
use Rattle.std.specs.Prelude.{◌||◌}
use Rattle.amqp_model.specs.Data as d
use Rattle.amqp_model.specs.ValueSpelling.{spelling as value_spelling}
use Rattle.amqp_model.specs.declared.descriptor.Descriptor.TheVariants as is
use Rattle.amqp_model.specs.declared.perf.Perf.TheVariants as perf
use Rattle.amqp_model.specs.declared.perf.Transfer.{Transfer}
use Rattle.amqp_model.specs.declared.state.DeliveryState.{DeliveryState}
use Rattle.amqp_model.specs.Texts.{field_bytes, flag_text}
use Rattle.amqp_model.specs.PerfSpelling.{spelling, state_spelling}
use Rattle.amqp_model.specs.ItemSpelling.{item_spelling}
use Rattle.amqp_model.specs.Room.{transfer_frame}
use Rattle.router_trace.specs.Deliveries.{Delivery, tag_of}
use Rattle.router_trace.specs.LinkFrames.{fits}
use Rattle.router_trace.specs.DeliveryFrames.{first_transfer, next_frame}
use Rattle.reply_frames.specs.Filling.{has_more}
use Rattle.reply_frames.proofs.Fullness.{pick}
use Rattle.reply_frames.proofs.Longer.{frame_len}
use Rattle.reply_frames.proofs.Short.{described_len}
use Rattle.reply_frames.proofs.Small.{number_len, tag_len, flag_len}

settling_joined : (a b t c f s r : List ℕ) → length a ≤ 5 → length b ≤ 5 → length t ≤ 11 → length c ≤ 5 → length f ≡ 1 → length s ≤ 400 → length r ≡ 1
    → length (a ++ (b ++ (t ++ (c ++ (f ++ (0x40 ∷ 0x40 ∷ (s ++ (r ++ (0x40 ∷ 0x40 ∷ []))))))))) ≤ 432
settling_joined a b t c f s r la lb lt lc lf ls lr =
    let behind = r ++ (0x40 ∷ 0x40 ∷ []) in
    let rest = 0x40 ∷ 0x40 ∷ (s ++ behind) in
    omega (arith, la, lb, lt, lc, lf, ls, lr, length-append a (b ++ (t ++ (c ++ (f ++ rest)))), length-append b (t ++ (c ++ (f ++ rest))), length-append t (c ++ (f ++ rest)), length-append c (f ++ rest), length-append f rest, length-append s behind, length-append r (0x40 ∷ 0x40 ∷ []))

abbrev settling : ℕ → ℕ → Delivery → Bool → Option DeliveryState → Transfer
settling handle id b resumed outcome = first_transfer handle id (record b { resumed = resumed; outcome = outcome })

settling_spelt : (handle id : ℕ) (b : Delivery) (s : DeliveryState) → length (state_spelling s) ≤ 400 → length (spelling (perf.Transfer (settling handle id b true (Some s)))) ≤ 444
unfolding spelling
settling_spelt handle id b s short =
    let one = value_spelling (d.uint handle) in
    let other = value_spelling (d.uint id) in
    let tag = value_spelling (d.binary (tag_of b.name)) in
    let format = value_spelling (d.uint b.format) in
    let flag = flag_text (b.presettled || true) in
    let said = field_bytes (flag_text true) in
    omega (
      arith,
      described_len is.Transfer (Some one ∷ Some other ∷ Some tag ∷ Some format ∷ flag ∷ None ∷ None ∷ Some (state_spelling s) ∷ flag_text true ∷ None ∷ None ∷ []),
      settling_joined one other tag format (field_bytes flag) (state_spelling s) said (number_len handle) (number_len id) (tag_len b.name) (number_len b.format) (flag_len (b.presettled || true)) short (flag_len true),
    )

pub settling_len : (own handle id : ℕ) (b : Delivery) (s : DeliveryState) → b.resumed ≡ true → b.outcome ≡ Some s → length (state_spelling s) ≤ 400
    → length (item_spelling (transfer_frame own (first_transfer handle id b) [])) ≤ 452
settling_len own handle id b s resumed decided short =
    let known = subst (λ (r : Bool). length (spelling (perf.Transfer (settling handle id b r (Some s)))) ≤ 444) (sym resumed) (settling_spelt handle id b s short) in
    let le = subst (λ (o : Option DeliveryState). length (spelling (perf.Transfer (settling handle id b b.resumed o))) ≤ 444) (sym decided) known in
    omega (arith, le, frame_len own (first_transfer handle id b) [])

pub settling_whole : (largest own handle id : ℕ) (b : Delivery) → fits largest (transfer_frame own (first_transfer handle id b) []) ≡ true
    → has_more (next_frame largest own (first_transfer handle id b) []) ≡ false
settling_whole largest own handle id b fitting =
    pick (λ i. has_more i ≡ false) (fits largest (transfer_frame own (first_transfer handle id b) [])) _ _ (λ e. refl) (λ e. absurd (true≢false (sym fitting ∙ e)))
