use Rattle.std.proofs.Common.{ℕ, ◌+◌, List, length, ap}
use Rattle.std.specs.Prelude.{slice_get}
use Rattle.disk_core.specs.Disk.{between, Agrees}
use Rattle.disk_core.specs.DiskLaws.{started, goes_on}
use Rattle.disk_core.specs.ImageLaws.{opens_whole}
use Rattle.gate_journal.proofs.device.put.Goals as goal

-- what a crash leaves of the write at each moment
pub returns-in_err-write_at-clause-moments : goal.returns-in_err-write_at-clause-moments
returns-in_err-write_at-clause-moments g c file only =
    let disk = c.args.disk.now in
    let places = between c.args.at (c.args.at + length c.args.bytes.now) in
    let at_start = started g.D.Disk.moment g.D.Disk.left_since disk (Agrees places file) (λ f left place l shut. ap (λ (d : List ℕ). slice_get d place) (only f (g.met.D.Disk.only_now disk f left))) in
    goes_on g.D.Disk.moment g.D.Disk.left_since disk disk c.write_at.new.self (Agrees places file) _ at_start c.write_at.ensures.time (opens_whole file places _ _ c.write_at.ensures.crash only)

pub returns-clause-moments : goal.returns-clause-moments
returns-clause-moments g c file only =
    let disk = c.args.disk.now in
    let places = between c.args.at (c.args.at + length c.args.bytes.now) in
    let at_start = started g.D.Disk.moment g.D.Disk.left_since disk (Agrees places file) (λ f left place l shut. ap (λ (d : List ℕ). slice_get d place) (only f (g.met.D.Disk.only_now disk f left))) in
    let leaves = opens_whole file places _ _ c.write_at.ensures.crash only in
    let written = goes_on g.D.Disk.moment g.D.Disk.left_since disk disk c.write_at.new.self (Agrees places file) _ at_start c.write_at.ensures.time leaves in
    goes_on g.D.Disk.moment g.D.Disk.left_since disk c.write_at.new.self c.sync.new.self (Agrees places file) _ written c.sync.ensures.time (λ f now. leaves f (c.sync.ensures.crash f now))
