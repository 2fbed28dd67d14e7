-- `push` meets its contract: the event stands in the first place that was not used. Assumes nothing.
use Rattle.std.proofs.Common.{ℕ, List, [], ◌∷◌, ◌++◌, ◌+◌, ◌<◌, ◌≡◌, set, ap}
use Rattle.certificate.specs.declared.record.EventList.{EventList}
use Rattle.certificate.specs.Record.{event_list_of}
use Rattle.certificate.proofs.NumberingLaws.{pad-more}
use Rattle.certificate.proofs.record.EventList.push.Goals as goal

list-pushed : (l : EventList) (xs : List ℕ) (e : ℕ) → l.count < 64 → l ≡ event_list_of xs
    → ◌≡◌ {A = EventList} (record { count = l.count + 1; events = set l.events l.count e }) (event_list_of (xs ++ e ∷ []))
unfolding event_list_of
list-pushed l xs e room is =
    let m = pad-more l.count l.events xs e room (ap (λ (t : EventList). t.count) is) (ap (λ (t : EventList). t.events) is) in rw (m.0, m.1)

pub returns-clause-list : goal.returns-clause-list
returns-clause-list c = λ xs is. list-pushed c.args.self.now xs c.args.e c.requires is
