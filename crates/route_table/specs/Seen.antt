-- How contracts see the values of the reader.
use Rattle.route_table.specs.Lines.{Form, nothing, head, given, close, wrong}
use Rattle.route_table.specs.declared.lines.Line.{Line}
use Rattle.route_table.specs.declared.lines.Line.TheVariants as line

-- what a line is
abbrev pub form_seen : Line → Form
form_seen line.Nothing = nothing
form_seen (line.Head name) = head name.now
form_seen (line.Given key value) = given key.now value.now
form_seen line.Close = close
form_seen line.Wrong = wrong
