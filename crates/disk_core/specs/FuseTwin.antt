-- A fuse over two files: one count of calls for both.
use Rattle.std.specs.Prelude.{ℕ, Bool, Option}
use Rattle.disk_core.specs.declared.fuse_twin.FuseTwin.{FuseTwin}

-- the calls that it still lets through, on both sides together; no fuse is set at `None`
abbrev pub calls_left : {T : Type 0} → FuseTwin T → Option ℕ
calls_left twin = twin.left

-- a write that failed at the fuse has begun, on either side
abbrev pub has_begun : {T : Type 0} → FuseTwin T → Bool
has_begun twin = twin.begun

-- the calls that failed at the fuse, on both sides together
abbrev pub own_failures : {T : Type 0} → FuseTwin T → ℕ
own_failures twin = twin.failed

-- the twin below
abbrev pub twin_of : {T : Type 0} → FuseTwin T → T
twin_of twin = twin.inner
