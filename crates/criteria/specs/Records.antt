-- The lists that the text layer's records stand for: a history as it was read, and a certificate with the rows of its views.
use Rattle.std.specs.Prelude.{ℕ, List, map, length}
use Rattle.history.specs.declared.record.Event as WrittenEvent
use Rattle.history.specs.declared.record.History as WrittenHistory
use Rattle.history.specs.Record.{recorded_in, objects_in, events_in}
use Rattle.certificate.specs.declared.record.Certificate as WrittenCertificate
use Rattle.certificate.specs.Record.{pasts_in, views_in}
use Rattle.certificate.specs.Criteria as text
use Rattle.criteria.specs.History.{Event, History}
use Rattle.criteria.specs.Certificate.{Certificate}

unfoldable pub event_of : WrittenEvent.Event → Event
event_of e =
    record { process = e.process.0; object = e.object; op = e.op; value = e.value; answer = recorded_in e.answer }

unfoldable pub history_of : WrittenHistory.History → History
history_of h = record { objects = objects_in h; events = map event_of (events_in h) }

unfoldable pub certificate_of : WrittenHistory.History → WrittenCertificate.Certificate → List (List ℕ) → Certificate
certificate_of h c rows =
    record {
      criterion = c.criterion;
      pasts = pasts_in (text.past_count c.criterion (events_in h)) c;
      views = views_in (length (text.view_numbers c.criterion (events_in h))) c rows;
    }
