-- A stream of bytes, and more of it.
use Rattle.std.proofs.Common.{sym, subst, ℕ, Bool, true, false, List, [], ◌++◌, append-nil}
use Rattle.amqp_model.specs.declared.item.Item.{Item}
use Rattle.amqp_frames.specs.Cuts.{Cuts}
use Rattle.amqp_frames.proofs.Fronts.{wrong_stays}
use Rattle.amqp_frames.proofs.Streams.{HasCut, has_cut, cuts_append, leads_stays}

-- what comes after a wrong item
pub wrong_more : (stream : List ℕ) (items : List Item) (rest bytes : List ℕ) → Cuts true stream items rest → Cuts true (stream ++ bytes) items (rest ++ bytes)
wrong_more stream items rest bytes cut = (cut.0, cut.1, cut.2, leads_stays stream cut.0 rest bytes cut.3, wrong_stays rest bytes cut.1 cut.4)

-- a stream with more bytes has more items, or its last item ended it
pub further : (ended : Bool) (stream : List ℕ) (items : List Item) (rest bytes : List ℕ) → Cuts ended stream items rest
    → (e : Bool) × (more : List Item) × (r : List ℕ) × Cuts e (stream ++ bytes) (items ++ more) r
further false stream items rest bytes cut =
    let k : HasCut (rest ++ bytes) = has_cut (rest ++ bytes)
    in (k.0, k.1, k.2, cuts_append k.0 stream items rest bytes k.1 k.2 cut.0 k.3)
further true stream items rest bytes cut =
    (true, [], rest ++ bytes, subst (λ (xs : List Item). Cuts true (stream ++ bytes) xs (rest ++ bytes)) (sym (append-nil items)) (wrong_more stream items rest bytes cut))
