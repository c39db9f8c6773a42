use Rattle.route_table.proofs.Longest.{finds}
use Rattle.route_table.proofs.tables.Table.new.Goals as goal

pub returns : goal.returns
returns c = finds (record { addresses = c.in_ok-addresses_of.field-0; routes_in = c.in_ok-routes_of.field-0; routes_out = c.in_ok-routes_of-2.field-0 }) c.args.config.now c.addresses.result.now c.link_routes.result.now c.link_routes-2.result.now
    c.addresses.ensures c.link_routes.ensures c.link_routes-2.ensures c.in_ok-addresses_of.ensures c.in_ok-routes_of.ensures c.in_ok-routes_of-2.ensures
