-- What a `Pieces` stands for.
use Rattle.amqp_types.specs.declared.pieces.Pieces.{Pieces}
use Rattle.amqp_model.specs.ValueSpelling.{Piece}

abbrev pub pieces_view : Pieces → Piece
pieces_view p = record { fits = p.fits; narrow = p.narrow.items; wide = p.wide.items }
