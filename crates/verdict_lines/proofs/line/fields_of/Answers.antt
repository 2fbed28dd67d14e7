-- `fields_of` meets its contract: each field is the verdict's, and short. Assumes nothing.
use Rattle.std.proofs.Common.{ap, ◌∙◌}
use Rattle.history_reader.specs.Place as places
use Rattle.checker.specs.CheckText.{Verdict}
use Rattle.checker.specs.Verdict.{verdict_of}
use Rattle.verdict_lines.specs.declared.line.Field.TheVariants.{Number}
use Rattle.verdict_lines.specs.Steps.{number_field, criterion_field, text_field}
use Rattle.verdict_lines.proofs.PieceLaws.{six_fields}
use Rattle.verdict_lines.proofs.line.fields_of.Goals as goal

pub returns : goal.returns
returns c =
    let v : Verdict = verdict_of c.args.answer in
    six_fields v _ _ _ _ _ _ (c.number_field-number.ensures.0 ∙ ap Number c.number_in.ensures)
    (c.criterion_field-criterion.ensures.0 ∙ ap criterion_field c.criterion_in.ensures)
    (c.text_field.ensures.0 ∙ ap (λ (p : places.Place). text_field p.text) c.place_in-place.ensures)
    (c.line_field.ensures.0 ∙ ap (λ (p : places.Place). number_field (places.line_of p)) c.place_in-place.ensures)
    (c.view_field-view.ensures.0 ∙ ap number_field c.view_in.ensures) (c.event_field-event.ensures.0 ∙ ap number_field c.event_in.ensures)
    c.number_field-number.ensures.1 c.criterion_field-criterion.ensures.1 c.text_field.ensures.1 c.line_field.ensures.1
    c.view_field-view.ensures.1 c.event_field-event.ensures.1
