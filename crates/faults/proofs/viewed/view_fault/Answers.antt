-- `view_fault` meets its contract, by what the three searches find. Assumes nothing.
use Rattle.faults.proofs.ViewedLaws.{fault-set, fault-against, fault-outside, fault-none, once-views}
use Rattle.faults.proofs.viewed.view_fault.Goals as goal

pub returns-in-Some : goal.returns-in-Some
returns-in-Some c =
    let a = c.args in
    fault-set a.criterion a.views.now a.rows.now a.processes.now a.n c.in-Some.k c.in-Some.ensures.found

pub first_against-requires : goal.first_against-requires
first_against-requires c =
    let a = c.args in
    once-views a.criterion a.views.now a.rows.now a.processes.now a.n c.in_default.ensures.found

pub returns-in-Some-first_against : goal.returns-in-Some-first_against
returns-in-Some-first_against c =
    let a = c.args in
    fault-against a.criterion a.views.now a.rows.now a.processes.now a.n c.in_default.ensures.found
    c.in-Some-first_against.k c.in-Some-first_against.ensures.found

pub returns-in-Some-first_of_strict : goal.returns-in-Some-first_of_strict
returns-in-Some-first_of_strict c =
    let a = c.args in
    fault-outside a.criterion a.views.now a.rows.now a.processes.now a.n
    c.in_default.ensures.found c.in_default-first_against.ensures.found c.in-Some-first_of_strict.k c.in-Some-first_of_strict.ensures.found

pub returns : goal.returns
returns c =
    let a = c.args in
    fault-none a.criterion a.views.now a.rows.now a.processes.now a.n
    c.in_default.ensures.found c.in_default-first_against.ensures.found c.in_default-first_of_strict.ensures.found
