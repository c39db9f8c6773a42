-- Who passes the door.
use Rattle.std.proofs.Common.{◌≡◌, ◌∙◌, sym, ap, refl, subst, ℕ, Bool, true, false, ◌&&◌, List, [], ◌∷◌, inl, inr, codes}
use Rattle.std.specs.Prelude.{◌==◌, if◌then◌else◌, Option, Some, None, unwrap_or}
use Rattle.std.proofs.lemmas.Bool.{eqb-true}
use Rattle.amqp_model.specs.declared.perf.Perf.TheVariants as perf
use Rattle.amqp_model.specs.declared.perf.SaslInit.{SaslInit}
use Rattle.amqp_model.specs.declared.item.Item.{Item}
use Rattle.amqp_model.specs.declared.item.Item.TheVariants as item
use Rattle.amqp_sasl.specs.declared.code.SaslCode.TheVariants as code
use Rattle.amqp_sasl.specs.declared.server.SaslAnswer.{SaslAnswer}
use Rattle.amqp_sasl.specs.declared.server.SaslAnswer.TheVariants as sasl
use Rattle.amqp_sasl.specs.Answer.{AnswersInit, outcome_of}
use Rattle.amqp_sasl.specs.Judging.{user_by_init}
use Rattle.amqp_sasl.specs.Login.{Logins, LogsIn}
use Rattle.amqp_sasl.proofs.OneAnswer.{by_init, one_answer}
use Rattle.route_table.specs.declared.sections.Listener.{Listener}
use Rattle.route_table.specs.Settings.{Settings}
use Rattle.router_trace.specs.Frames.{header_item}
use Rattle.core_door.specs.declared.door.Door.{Door}
use Rattle.core_door.specs.declared.door.Protocol.{Protocol}
use Rattle.core_door.specs.declared.door.Protocol.TheVariants.{Amqp, Sasl, Other}
use Rattle.core_door.specs.declared.door.Stage.TheVariants as stage
use Rattle.core_door.specs.Door.{door_of, logins_of, first, last, told, over, lets_in, protocol_of, sasl_header}
use Rattle.core_door.specs.Logins.{user_by, user_past, ComesPlain, LoggedIn, MayPass}

same_user : (a b : List ℕ) → Some a ≡ Some b → b ≡ a
same_user a b e = sym (ap (λ o. unwrap_or o []) e)

-- the tests of a header

amqp_tests : (v a s : Bool) → (if v then (if a then Amqp else if s then Sasl else Other) else Other) ≡ Amqp → (v ≡ true) × (a ≡ true)
amqp_tests true true s e = (refl, refl)
amqp_tests true false true e = absurd cc
amqp_tests true false false e = absurd cc
amqp_tests false a s e = absurd cc

sasl_tests : (v a s : Bool) → (if v then (if a then Amqp else if s then Sasl else Other) else Other) ≡ Sasl → (v ≡ true) × (s ≡ true)
sasl_tests true true s e = absurd cc
sasl_tests true false true e = (refl, refl)
sasl_tests true false false e = absurd cc
sasl_tests false a s e = absurd cc

three_true : (a b c : Bool) → (a && b && c) ≡ true → (a ≡ true) × (b ≡ true) × (c ≡ true)
three_true true true true e = (refl, refl, refl)
three_true true true false e = absurd cc
three_true true false c e = absurd cc
three_true false b c e = absurd cc

same_header : (id major minor revision n : ℕ) → (id == n) ≡ true → (major == 1 && minor == 0 && revision == 0) ≡ true
    → item.Header id major minor revision ≡ item.Header n 1 0 0
same_header id major minor revision n is version =
    let parts = three_true (major == 1) (minor == 0) (revision == 0) version
    in ap (λ x. item.Header x major minor revision) (eqb-true id n is)
    ∙ ap (λ x. item.Header n x minor revision) (eqb-true major 1 parts.0)
    ∙ ap (λ x. item.Header n 1 x revision) (eqb-true minor 0 parts.1)
    ∙ ap (λ x. item.Header n 1 0 x) (eqb-true revision 0 parts.2)

is_amqp : (id major minor revision : ℕ) → protocol_of id major minor revision ≡ Amqp → item.Header id major minor revision ≡ header_item
is_amqp id major minor revision e =
    let tests = amqp_tests (major == 1 && minor == 0 && revision == 0) (id == 0) (id == 3) e
    in same_header id major minor revision 0 tests.1 tests.0

is_sasl : (id major minor revision : ℕ) → protocol_of id major minor revision ≡ Sasl → item.Header id major minor revision ≡ sasl_header
is_sasl id major minor revision e =
    let tests = sasl_tests (major == 1 && minor == 0 && revision == 0) (id == 0) (id == 3) e
    in same_header id major minor revision 3 tests.1 tests.0

-- after the outcome

abbrev at_header : Settings → Listener → List ℕ → Door
at_header config listener name = record (door_of config listener) { stage = stage.LoggedIn name }

last_by : (p : Protocol) (name user : List ℕ) (later : Option (List ℕ)) → user_by (last name p).verdict later ≡ Some user → (p ≡ Amqp) × (user ≡ name)
last_by Amqp name user later e = (refl, same_user name user e)
last_by Sasl name user later e = absurd cc
last_by Other name user later e = absurd cc

record Last (items : List Item) (name user : List ℕ) : Type 0 where
  rest : List Item
  came : items ≡ header_item ∷ rest
  named : user ≡ name

passes_last : (config : Settings) (listener : Listener) (items : List Item) (name user : List ℕ) → user_past (at_header config listener name) items ≡ Some user → Last items name user
passes_last config listener [] name user e = absurd cc
passes_last config listener (item.Header id major minor revision ∷ is) name user e =
    let by = last_by (protocol_of id major minor revision) name user _ e
    in record { rest = is; came = ap (λ i. i ∷ is) (is_amqp id major minor revision by.0); named = by.1 }
passes_last config listener (item.Frame type channel body payload ∷ is) name user e = absurd cc
passes_last config listener (item.Beat channel ∷ is) name user e = absurd cc
passes_last config listener (item.Bad fault ∷ is) name user e = absurd cc

-- while the init is awaited

abbrev at_init : Settings → Listener → Door
at_init config listener = record (door_of config listener) { stage = stage.Init }

record Proved (server : Logins) (items : List Item) (user : List ℕ) : Type 0 where
  init : SaslInit
  channel : ℕ
  payload : List ℕ
  rest : List Item
  came : items ≡ item.Frame true channel (perf.SaslInit init) payload ∷ header_item ∷ rest
  proved : LogsIn server init user

by_user : (config : Settings) (listener : Listener) (init : SaslInit) (channel : ℕ) (payload : List ℕ) (is : List Item) (user : List ℕ) (found : Option (List ℕ))
    → AnswersInit (logins_of config listener) init (outcome_of found)
    → user_by (told (outcome_of found)).verdict (user_past (record (door_of config listener) { stage = (told (outcome_of found)).stage }) is) ≡ Some user
    → Proved (logins_of config listener) (item.Frame true channel (perf.SaslInit init) payload ∷ is) user
by_user config listener init channel payload is user None answers e = absurd cc
by_user config listener init channel payload is user (Some name) answers e =
    let w : Last is name user = passes_last config listener is name user e
    in record {
      init = init;
      channel = channel;
      payload = payload;
      rest = w.rest;
      came = ap (λ js. item.Frame true channel (perf.SaslInit init) payload ∷ js) w.came;
      proved = subst (λ (u : List ℕ). LogsIn (logins_of config listener) init u) (sym w.named) answers;
    }

passes_init : (config : Settings) (listener : Listener) (items : List Item) (user : List ℕ) → user_past (at_init config listener) items ≡ Some user
    → Proved (logins_of config listener) items user
passes_init config listener [] user e = absurd cc
passes_init config listener (item.Header id major minor revision ∷ is) user e = absurd cc
passes_init config listener (item.Beat channel ∷ is) user e = absurd cc
passes_init config listener (item.Bad fault ∷ is) user e = absurd cc
passes_init config listener (item.Frame false channel body payload ∷ is) user e = absurd cc
passes_init config listener (item.Frame true channel (perf.SaslInit init) payload ∷ is) user e =
    by_user config listener init channel payload is user (user_by_init (logins_of config listener) init) (by_init (logins_of config listener) init) e
passes_init config listener (item.Frame true channel (perf.Open x) payload ∷ is) user e = absurd cc
passes_init config listener (item.Frame true channel (perf.Begin x) payload ∷ is) user e = absurd cc
passes_init config listener (item.Frame true channel (perf.Attach x) payload ∷ is) user e = absurd cc
passes_init config listener (item.Frame true channel (perf.Flow x) payload ∷ is) user e = absurd cc
passes_init config listener (item.Frame true channel (perf.Transfer x) payload ∷ is) user e = absurd cc
passes_init config listener (item.Frame true channel (perf.Disposition x) payload ∷ is) user e = absurd cc
passes_init config listener (item.Frame true channel (perf.Detach x) payload ∷ is) user e = absurd cc
passes_init config listener (item.Frame true channel (perf.End x) payload ∷ is) user e = absurd cc
passes_init config listener (item.Frame true channel (perf.Close x) payload ∷ is) user e = absurd cc
passes_init config listener (item.Frame true channel (perf.SaslMechanisms x) payload ∷ is) user e = absurd cc
passes_init config listener (item.Frame true channel (perf.SaslChallenge x) payload ∷ is) user e = absurd cc
passes_init config listener (item.Frame true channel (perf.SaslResponse x) payload ∷ is) user e = absurd cc
passes_init config listener (item.Frame true channel (perf.SaslOutcome x) payload ∷ is) user e = absurd cc

-- at first

is_free : (b : Bool) (user : List ℕ) (later : Option (List ℕ)) → user_by (if b then over (sasl_header ∷ []) else lets_in (codes "anonymous")).verdict later ≡ Some user
    → (b ≡ false) × (user ≡ codes "anonymous")
is_free true user later e = absurd cc
is_free false user later e = (refl, same_user (codes "anonymous") user e)

by_protocol : (config : Settings) (listener : Listener) (id major minor revision : ℕ) (is : List Item) (user : List ℕ) (p : Protocol) → protocol_of id major minor revision ≡ p
    → user_by (first (door_of config listener) p).verdict (user_past (record (door_of config listener) { stage = (first (door_of config listener) p).stage }) is) ≡ Some user
    → MayPass config listener (item.Header id major minor revision ∷ is) user
by_protocol config listener id major minor revision is user Amqp asked e =
    let by = is_free listener.authenticate_peer user _ e
    in inl (record { rest = is; came = ap (λ i. i ∷ is) (is_amqp id major minor revision asked); free = by.0; named = by.1 })
by_protocol config listener id major minor revision is user Sasl asked e =
    let w : Proved (logins_of config listener) is user = passes_init config listener is user e
    in inr (record {
      init = w.init;
      channel = w.channel;
      payload = w.payload;
      rest = w.rest;
      came = ap (λ i. i ∷ is) (is_sasl id major minor revision asked) ∙ ap (λ js. sasl_header ∷ js) w.came;
      proved = w.proved;
    })
by_protocol config listener id major minor revision is user Other asked e = absurd cc

pub they_alone_pass : (config : Settings) (listener : Listener) (items : List Item) (user : List ℕ) → user_past (door_of config listener) items ≡ Some user → MayPass config listener items user
they_alone_pass config listener [] user e = absurd cc
they_alone_pass config listener (item.Header id major minor revision ∷ is) user e = by_protocol config listener id major minor revision is user (protocol_of id major minor revision) refl e
they_alone_pass config listener (item.Frame type channel body payload ∷ is) user e = absurd cc
they_alone_pass config listener (item.Beat channel ∷ is) user e = absurd cc
they_alone_pass config listener (item.Bad fault ∷ is) user e = absurd cc

-- and they do

plain_passes : (config : Settings) (listener : Listener) (items : List Item) (user : List ℕ) → ComesPlain listener items user → user_past (door_of config listener) items ≡ Some user
plain_passes config listener items user h =
    ap (λ is. user_past (door_of config listener) is) h.came ∙ (let free = h.free in rw free (ap Some (sym h.named)))

logged_in_passes : (config : Settings) (listener : Listener) (items : List Item) (user : List ℕ) → LoggedIn (logins_of config listener) items user
    → user_past (door_of config listener) items ≡ Some user
logged_in_passes config listener items user h =
    let server : Logins = logins_of config listener
    in ap (λ is. user_past (door_of config listener) is) h.came
    ∙ subst (λ (a : SaslAnswer). user_by (told a).verdict (user_past (record (door_of config listener) { stage = (told a).stage }) (header_item ∷ h.rest)) ≡ Some user)
    (one_answer server (perf.SaslInit h.init) (sasl.Outcome code.Ok (Some user)) h.proved) refl

pub they_pass : (config : Settings) (listener : Listener) (items : List Item) (user : List ℕ) → MayPass config listener items user → user_past (door_of config listener) items ≡ Some user
they_pass config listener items user (inl h) = plain_passes config listener items user h
they_pass config listener items user (inr h) = logged_in_passes config listener items user h
