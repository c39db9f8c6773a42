use Rattle.router_core.specs.Machine.{opening_of}
use Rattle.amqr.proofs.serving.start.Given as goal

abbrev pub ghosts-counted : goal.ghosts-counted
ghosts-counted g a = record {
  opening = opening_of a.config a.core;
  ups = a.blanks.ups.name;
  items = a.blanks.items.name;
  downs = a.blanks.downs.name;
  ticks = a.blanks.ticks.name;
  starts = a.blanks.starts.name;
  batches = a.blanks.batches.name;
  seats = 4611686018427387904;
}
