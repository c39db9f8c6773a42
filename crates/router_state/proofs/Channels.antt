-- The session's channel passes the test of the channel that the peer's stands for.
use Rattle.std.proofs.Common.{◌≡◌, ◌∙◌, ap, refl, ℕ, Option, Some, None}
use Rattle.router_trace.specs.declared.channel.PeerChannel.{PeerChannel}
use Rattle.router_trace.specs.declared.channel.PeerChannel.TheVariants.{Mapped, Ending}
use Rattle.router_trace.specs.Sessions.{is_channel, maps, own_of}

of_session : (v : Option PeerChannel) (o : ℕ) → is_channel (own_of v) o ≡ maps v o
of_session None o = refl
of_session (Some Ending) o = refl
of_session (Some (Mapped own)) o = refl

pub on_session : (own : Option ℕ) (v : Option PeerChannel) → own ≡ own_of v → (o : ℕ) → is_channel own o ≡ maps v o
on_session own v is o = ap (λ (r : Option ℕ). is_channel r o) is ∙ of_session v o
