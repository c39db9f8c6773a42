-- What is kept of a link's ids, and the deliveries that a disposition names.
use Rattle.std.specs.Prelude.{◌≡◌, ℕ, ◌+◌, ◌%◌, ◌^◌, zero, suc, nat_lt, if◌then◌else◌, List, [], ◌∷◌}
use Rattle.std.specs.Ordering.{nat_cmp}
use Rattle.std.specs.BTreeMap.{get}
use Rattle.amqp_session.specs.Serials.{distance}
use Rattle.route_links.specs.declared.ids.Ids.{Ids}
use Rattle.route_links.specs.Naming.{History, started, gone, known, claimed, leaves, number_out}

-- the tables are those of this history
pub record IdsFit (s : Ids) (h : History) : Type 0 where
  pub starts : s.started ≡ started h
  pub goes : s.gone ≡ gone h
  pub leaving : s.leaves ≡ leaves h
  pub knows : (n : ℕ) → get nat_cmp s.known n ≡ known h n
  pub senders : (i : ℕ) → get nat_cmp s.by_sender.deliveries i ≡ claimed h i
  pub receivers : (o : ℕ) → get nat_cmp s.by_receiver.deliveries o ≡ number_out h o

-- so many ids from this one on, after 2^32 - 1 comes 0 again
abbrev pub serials : ℕ → ℕ → List ℕ
serials first zero = []
serials first (suc n) = first ∷ serials ((first + 1) % 2 ^ 32) n

-- the ids of a disposition, in their order (RFC 1982)
abbrev pub ids_of : ℕ → ℕ → List ℕ
ids_of first last = if nat_lt (distance first last) (2 ^ 31) then serials first (distance first last + 1) else []
