-- `read_text` meets its contract: a text that is too long is refused first. Assumes nothing.
use native.Mathlib.Omega.{arith}
use mathlib.Core.Path.{refl, sym, subst, ap, ◌∙◌}
use mathlib.Core.List.{[]}
use Rattle.history_reader.specs.Place.{Place}
use Rattle.certificate.specs.declared.record.Criterion.TheVariants.{Pram}
use Rattle.certificate_reader.specs.ReadCertificate.{Lines}
use Rattle.certificate_reader.specs.Steps.Lines.{AllRead}
use Rattle.certificate_reader.proofs.ReadLaws.{read_short, read-long}
use Rattle.certificate_reader.proofs.read.read_text.Goals as goal

pub returns-then-text-gt-LONGEST : goal.returns-then-text-gt-LONGEST
returns-then-text-gt-LONGEST c = (
  read-long c.args.events.now c.args.text.now (omega arith)
      ∙ ap {B = Lines} (λ (p : Place). record { fault = 1; place = p; criterion = Pram; pasts = []; views = [] }) (sym c.faulty_place.ensures),
  refl,
)

pub returns : goal.returns
returns c =
    subst (λ (w : Lines). AllRead w c.args.rows.now c.read_lines.new.rows c.read_lines.result) (sym (read_short c.args.events.now c.args.text.now (omega arith)))
    c.read_lines.ensures
