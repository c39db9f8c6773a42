-- What a writer's field stands for.
use Rattle.std.specs.Prelude.{List, map, Some, None}
use Rattle.amqp_model.specs.View.{plain_view}
use Rattle.amqp_model.specs.ValueSpelling.{spelling}
use Rattle.amqp_perf.specs.declared.text.Field.{Field}
use Rattle.amqp_perf.specs.declared.text.Field.TheVariants as field
use Rattle.amqp_model.specs.Texts.{FieldText}

abbrev pub field_view : Field → FieldText
field_view field.Null = None
field_view (field.Plain p) = Some (spelling (plain_view p))
field_view (field.Spelt bytes) = Some bytes.now

abbrev pub fields_view : List Field → List FieldText
fields_view fs = map field_view fs
