-- A walk over the outboxes in which items wait, the lowest connection first.
use Rattle.std.proofs.Common.{◌≡◌, ◌∙◌, sym, ap, refl, subst, ◌⊎◌, inl, inr, ⊎_elim, ℕ, ◌<◌, Bool, true, false, List, [], ◌∷◌, ◌++◌, ◌+◌, length, drop, append_assoc, append-nil, arith}
use Rattle.std.specs.Prelude.{◌==◌, ◌&&◌, nat_lt, if◌then◌else◌, flat_map, map, slice_get, Option, Some, None, unwrap_or}
use Rattle.std.proofs.lemmas.Bool.{eqb-true}
use Rattle.std.proofs.lemmas.List.{drop_more}
use Rattle.std.proofs.lemmas.Option.{get_or_from_slice_get, slice_get_within}
use Rattle.std.proofs.lemmas.Bool.Decides.{nat_tests}
use Rattle.amqp_model.specs.ItemSpelling.{item_spelling}
use Rattle.amqp_model.specs.declared.item.Item.{Item}
use Rattle.router_trace.specs.declared.event.ConnectionId.{ConnectionId}
use Rattle.router_trace.specs.Trace.{Trace}
use Rattle.router_trace.specs.Connection.{Connection, conn, is_item, is_ready}
use Rattle.core_machine.specs.Meaning.{IsLeast}
use Rattle.core_machine.specs.Moves.{waiting_of}
use Rattle.core_player.specs.declared.entry.Entry.{Entry}
use Rattle.core_player.specs.declared.entry.Entry.TheVariants as entry
use Rattle.core_player.specs.Entries.{AreAll, PutsBehind, above, out_entry, outs_behind, waits}

-- some first numbers of a walk, of which this is the last
abbrev pub Walk : (ℕ → Bool) → Option ℕ → List ℕ → Option ℕ → Type 0
Walk passes low [] to = low ≡ to
Walk passes low (n ∷ ns) to = IsLeast (above low passes) (Some n) × Walk passes (Some n) ns to

walk_more : (passes : ℕ → Bool) (low : Option ℕ) (ns : List ℕ) (to : Option ℕ) (n : ℕ) → Walk passes low ns to → IsLeast (above to passes) (Some n) → Walk passes low (ns ++ n ∷ []) (Some n)
walk_more passes low [] to n walked least = (subst (λ (o : Option ℕ). IsLeast (above o passes) (Some n)) (sym walked) least, refl)
walk_more passes low (m ∷ ns) to n walked least = (walked.0, walk_more passes (Some m) ns to n walked.1 least)

walk_ends : (passes : ℕ → Bool) (low : Option ℕ) (ns : List ℕ) (to : Option ℕ) → Walk passes low ns to → IsLeast (above to passes) None → AreAll passes low ns
walk_ends passes low [] to walked none = subst (λ (o : Option ℕ). IsLeast (above o passes) None) (sym walked) none
walk_ends passes low (m ∷ ns) to walked none = (walked.0, walk_ends passes (Some m) ns to walked.1 none)

-- one more list of a list of lists
flat_more : (f : ℕ → List Entry) (ns : List ℕ) (n : ℕ) → flat_map f (ns ++ n ∷ []) ≡ flat_map f ns ++ f n
flat_more f [] n = append-nil (f n)
flat_more f (m ∷ ns) n = ap (λ (es : List Entry). f m ++ es) (flat_more f ns n) ∙ sym (append_assoc (f m) (flat_map f ns) (f n))

-- a number that passes from above a lower one on is above the least such one, or is it
still_above : (passes : ℕ → Bool) (low : Option ℕ) (n c : ℕ) → IsLeast (above low passes) (Some n) → (n == c) ≡ false → (passes c ≡ true → above low passes c ≡ true)
    → passes c ≡ true → above (Some n) passes c ≡ true
still_above passes low n c least other coming ready = by (nat_lt n c) refl
  where
    by : (b : Bool) → nat_lt n c ≡ b → (nat_lt n c && passes c) ≡ true
    by true is = rw (is, ready) refl
    by false is = absurd (let below : c < n = grind (arith, nat_tests) in let wrong : true ≡ false = sym (coming ready) ∙ least.1 c below in absurd cc)

-- nothing waits where a connection isn't ready
silent : (o : Option Connection) → is_ready o ≡ false → length (waiting_of o) ≡ 0
silent None none = refl
silent (Some v) none = by v.phase.closed refl none
  where
    empty : (is : List Item) → is_item is ≡ false → length is ≡ 0
    empty [] none = refl
    empty (i ∷ is) none = absurd cc

    by : (b : Bool) → v.phase.closed ≡ b → (if b then true else is_item v.waiting) ≡ false → length v.waiting ≡ 0
    by true over none = absurd cc
    by false over none = empty v.waiting none

-- How many items wait on a connection is noted; or it isn't yet, and if some do the connection is still to come.
abbrev pub Noted : (ℕ → ℕ) → Trace → Option ℕ → ℕ → Type 0
Noted lengths t last c = (lengths c ≡ waits t c) ⊎ ((lengths c ≡ 0) × (is_ready (conn t c) ≡ true → above last (λ d. is_ready (conn t d)) c ≡ true))

-- the walk so far: the connections, what their outboxes added, and what is noted
pub record Walked (before : ℕ → ℕ) (t : Trace) (lengths : ℕ → ℕ) (next : Option ℕ) (old new : List Entry) : Type 0 where
  pub conns : List ℕ
  pub last : Option ℕ
  pub walk : Walk (λ c. is_ready (conn t c)) None conns last
  pub least : IsLeast (above last (λ c. is_ready (conn t c))) next
  pub added : new ≡ old ++ flat_map (outs_behind before t) conns
  pub noted : (c : ℕ) → Noted lengths t last c

pub walk_begins : (before : ℕ → ℕ) (t : Trace) (lengths : ℕ → ℕ) (next : Option ℕ) (old : List Entry) → IsLeast (λ c. is_ready (conn t c)) next → ((c : ℕ) → lengths c ≡ 0) → Walked before t lengths next old old
walk_begins before t lengths next old least none = record {
  conns = [];
  last = None;
  walk = refl;
  least = least;
  added = sym (append-nil old);
  noted = λ c. inr (none c, λ ready. ready);
}

pub walk_goes : (before : ℕ → ℕ) (t : Trace) (lengths more : ℕ → ℕ) (n length_is : ℕ) (next : Option ℕ) (old mid new : List Entry) → Walked before t lengths (Some n) old mid
    → IsLeast (λ c. nat_lt n c && is_ready (conn t c)) next → length_is ≡ waits t n → ((c : ℕ) → more c ≡ (if n == c then length_is else lengths c)) → new ≡ mid ++ outs_behind before t n
    → Walked before t more next old new
walk_goes before t lengths more n length_is next old mid new w least is noted added = record {
  conns = w.conns ++ n ∷ [];
  last = Some n;
  walk = walk_more (λ c. is_ready (conn t c)) None w.conns w.last n w.walk w.least;
  least = least;
  added =
      added ∙ ap (λ (es : List Entry). es ++ outs_behind before t n) w.added ∙ append_assoc old (flat_map (outs_behind before t) w.conns) (outs_behind before t n)
      ∙ ap (λ (es : List Entry). old ++ es) (sym (flat_more (outs_behind before t) w.conns n));
  noted = λ c. by c (n == c) refl (w.noted c);
}
  where
    by : (c : ℕ) (b : Bool) → (n == c) ≡ b → Noted lengths t w.last c → Noted more t (Some n) c
    by c true same before_it = inl (noted c ∙ ap (λ (x : Bool). if x then length_is else lengths c) same ∙ is ∙ ap (waits t) (eqb-true n c same))
    by c false other (inl before_it) = inl (noted c ∙ ap (λ (x : Bool). if x then length_is else lengths c) other ∙ before_it)
    by c false other (inr before_it) =
        inr (noted c ∙ ap (λ (x : Bool). if x then length_is else lengths c) other ∙ before_it.0, still_above (λ d. is_ready (conn t d)) w.last n c w.least other before_it.1)

pub walk_added : (before : ℕ → ℕ) (t : Trace) (lengths : ℕ → ℕ) (old new : List Entry) → Walked before t lengths None old new
    → (outs : List Entry) × PutsBehind before t outs × (new ≡ old ++ outs)
walk_added before t lengths old new w =
    (flat_map (outs_behind before t) w.conns, (w.conns, walk_ends (λ c. is_ready (conn t c)) None w.conns w.last w.walk w.least, refl), w.added)

pub walk_noted : (before : ℕ → ℕ) (t : Trace) (lengths : ℕ → ℕ) (old new : List Entry) → Walked before t lengths None old new → (c : ℕ) → lengths c ≡ waits t c
walk_noted before t lengths old new w c = ⊎_elim (λ is. is) (λ none. by none (is_ready (conn t c)) refl) (w.noted c)
  where
    by : (lengths c ≡ 0) × (is_ready (conn t c) ≡ true → above w.last (λ d. is_ready (conn t d)) c ≡ true) → (b : Bool) → is_ready (conn t c) ≡ b → lengths c ≡ waits t c
    by none true ready = absurd (let wrong : true ≡ false = sym (none.1 ready) ∙ w.least c in cc)
    by none false ready = none.0 ∙ sym (silent (conn t c) ready)

-- a number noted for one key
pub unwrap_if : (b : Bool) (n : ℕ) (o : Option ℕ) → unwrap_or (if b then Some n else o) 0 ≡ (if b then n else unwrap_or o 0)
unwrap_if true n o = refl
unwrap_if false n o = refl

-- the item at a place, and those behind it
next_item : (waiting : List Item) (place : ℕ) (x : Item) → slice_get waiting place ≡ Some x → drop place waiting ≡ x ∷ drop (place + 1) waiting
next_item waiting place x is =
    drop_more waiting place x (slice_get_within waiting place x is) ∙ ap (λ (y : Item). y ∷ drop (place + 1) waiting) (get_or_from_slice_get waiting place x x is)

pub one_item : (conn : ConnectionId) (waiting : List Item) (place : ℕ) (x : Item) (bytes : List ℕ) (old now whole : List Entry) → slice_get waiting place ≡ Some x → bytes ≡ item_spelling x
    → now ≡ old ++ entry.Out conn bytes ∷ [] → old ++ map (out_entry conn.0) (drop place waiting) ≡ whole → now ++ map (out_entry conn.0) (drop (place + 1) waiting) ≡ whole
one_item conn waiting place x bytes old now whole is spelled added before =
    ap (λ (es : List Entry). es ++ map (out_entry conn.0) (drop (place + 1) waiting)) added
    ∙ append_assoc old (entry.Out conn bytes ∷ []) (map (out_entry conn.0) (drop (place + 1) waiting))
    ∙ ap (λ (bs : List ℕ). old ++ entry.Out conn bs ∷ map (out_entry conn.0) (drop (place + 1) waiting)) spelled
    ∙ ap (λ (is : List Item). old ++ map (out_entry conn.0) is) (sym (next_item waiting place x is))
    ∙ before
