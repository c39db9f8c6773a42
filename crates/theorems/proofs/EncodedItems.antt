-- The frames of items that are cut of bytes are encoded, and what is left of bytes are bytes.
use Rattle.std.proofs.Common.{◌≡◌, sym, subst, ℕ, zero, suc, ◌^◌, ◌<◌, Bool, true, false, List, [], ◌∷◌, ◌++◌, get_or, arith}
use Rattle.std.specs.Prelude.{take, if◌then◌else◌}
use Rattle.amqp_model.specs.declared.frame_fault.FrameFault.{FrameFault}
use Rattle.amqp_model.specs.declared.item.Item.{Item}
use Rattle.amqp_model.specs.declared.item.Item.TheVariants as item
use Rattle.amqp_model.specs.declared.perf.Perf.{Perf}
use Rattle.amqp_perf.specs.Fitting.{read_as}
use Rattle.amqp_perf.specs.Performative.{performative}
use Rattle.amqp_perf.proofs.TableLaws.{read_perf_spelled}
use Rattle.amqp_frames.specs.Cuts.{Cuts, Leads}
use Rattle.amqp_frames.specs.SpellsItem.{IsFrame, SpellsItem}
use Rattle.amqp_frames.proofs.Sound.{found_sound}
use Rattle.theorems.specs.AsTold.{IsEncoded, ItemIsEncoded}
use Rattle.theorems.proofs.Encoded.{AllBytes, front_bytes, back_bytes, same_bytes}

each_byte : (bytes : List ℕ) → AllBytes bytes → (i : ℕ) → get_or bytes i 0 < 2 ^ 8
each_byte [] all i = omega arith
each_byte (b ∷ bs) all zero = all.0
each_byte (b ∷ bs) all (suc i) = each_byte bs all.1 i

take_bytes : (n : ℕ) (bytes : List ℕ) → AllBytes bytes → AllBytes (take n bytes)
take_bytes zero bytes all = tt
take_bytes (suc n) [] all = tt
take_bytes (suc n) (b ∷ bs) all = (all.0, take_bytes n bs all.1)

pub join_bytes : (xs ys : List ℕ) → AllBytes xs → AllBytes ys → AllBytes (xs ++ ys)
join_bytes [] ys front back = back
join_bytes (x ∷ xs) ys front back = (front.0, join_bytes xs ys front.1 back)

-- what is read of bytes, they encode
read_encoded : (body : List ℕ) (p : Perf) (at : ℕ) → performative body ≡ read_as p at → AllBytes body → IsEncoded p
read_encoded body p at reads all = record {
  bytes = take at body;
  are_bytes = each_byte (take at body) (take_bytes at body all);
  spelled = (read_perf_spelled body p at reads).0;
}

end_bytes : (front body text : List ℕ) → text ≡ front ++ body → AllBytes text → AllBytes body
end_bytes front body text parts all = back_bytes front body (same_bytes text (front ++ body) parts all)

body_bytes : (sasl : Bool) (channel : ℕ) (body text : List ℕ) → IsFrame sasl channel body text → AllBytes text → AllBytes body
body_bytes sasl channel body text frame all =
    let front : List ℕ = frame.size ++ (frame.offset ∷ (if sasl then 1 else 0) ∷ []) ++ frame.numbered ++ frame.extended in
    end_bytes front body text frame.spelt all

item_encoded : (text : List ℕ) (i : Item) → SpellsItem text i → AllBytes text → ItemIsEncoded i
item_encoded text (item.Frame sasl channel p payload) spelt all = read_encoded spelt.0 p spelt.1 spelt.3 (body_bytes sasl channel spelt.0 text spelt.2 all)
item_encoded text (item.Header id major minor revision) spelt all = tt
item_encoded text (item.Beat channel) spelt all = tt
item_encoded text (item.Bad f) spelt all = tt

-- The items of a cut, and what it leaves.

abbrev pub AreEncoded : List Item → Type 0
AreEncoded [] = Unit {0}
AreEncoded (i ∷ is) = ItemIsEncoded i × AreEncoded is

with_fault : (is : List Item) (f : FrameFault) → AreEncoded is → AreEncoded (is ++ item.Bad f ∷ [])
with_fault [] f all = (tt, tt)
with_fault (i ∷ is) f all = (all.0, with_fault is f all.1)

leads_encoded : (stream : List ℕ) (is : List Item) (rest : List ℕ) → Leads stream is rest → AllBytes stream → AreEncoded is × AllBytes rest
leads_encoded stream [] rest leads all = (tt, same_bytes stream rest leads all)
leads_encoded stream (i ∷ is) rest leads all =
    let found = found_sound stream i leads.0 leads.1 in
    let parts : AllBytes (found.0 ++ leads.0) = same_bytes stream (found.0 ++ leads.0) found.1 all in
    let others = leads_encoded leads.0 is rest leads.2 (back_bytes found.0 leads.0 parts) in
    ((item_encoded found.0 i found.2 (front_bytes found.0 leads.0 parts), others.0), others.1)

pub cut_encoded : (ended : Bool) (stream : List ℕ) (is : List Item) (rest : List ℕ) → Cuts ended stream is rest → AllBytes stream → AreEncoded is × AllBytes rest
cut_encoded false stream is rest cut all = leads_encoded stream is rest cut.0 all
cut_encoded true stream is rest cut all =
    let front = leads_encoded stream cut.0 rest cut.3 all in
    (subst AreEncoded (sym cut.2) (with_fault cut.0 cut.1 front.0), front.1)
