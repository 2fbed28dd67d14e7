-- The text of the lines of a certificate.
use Rattle.std.specs.Prelude.{ℕ, List, ◌++◌}
use Rattle.certificate_writer.specs.declared.lines.Lines.{Lines}
use Rattle.certificate_writer.specs.Steps.Lines.{first_bytes, past_bytes, view_bytes}

-- The parts behind the first line, and the whole text.
abbrev pub parts_bytes : Lines → List ℕ
parts_bytes l = past_bytes l.criterion l.pasts.pasts.now ++ view_bytes l.views.numbers.now l.views.lengths.now l.views.rows.now

abbrev pub text_bytes : Lines → List ℕ
text_bytes l = first_bytes l.criterion ++ parts_bytes l
