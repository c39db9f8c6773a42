use Rattle.std.proofs.Common.{ap, option_map}
use Rattle.route_table.specs.Places.{distribution_of}
use Rattle.state_pools.specs.Fits.{is_due, is_touched, place_of, pool_at, table_of}
use Rattle.state_pools.specs.declared.pools.Pools.{Pools}
use Rattle.state_pools.specs.declared.seat.Seat.{Seat}
use Rattle.state_pools.proofs.Fitting.{none_fits}
use Rattle.state_pools.proofs.pools.Pools.new.Goals as goal

pub returns : goal.returns
returns c g finds known none =
    let new : Pools = record { alloc = c.args.alloc; table = c.args.table; pools = c.new.result; seats = c.new-2.result; due = c.new-3.result; touched = c.new-4.result } in
    none_fits (is_touched new) (table_of new) (distribution_of g) (pool_at new) (place_of new) (is_due new) known finds.distribution (c.new.ensures (table_of new))
    (λ n. ap (option_map (λ (seat : Seat). seat.address.items)) (c.new-2.ensures n)) none
