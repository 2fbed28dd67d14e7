-- `order_fault` meets its contract, by what the three searches find. Assumes nothing.
use Rattle.faults.proofs.OrderLaws.{is-11, is-12, is-13, is-nothing}
use Rattle.faults.proofs.order.order_fault.Goals as goal

pub returns-in-Some : goal.returns-in-Some
returns-in-Some c =
    is-11 c.args.rows.now c.args.must.now c.args.n c.in-Some.e c.in-Some.ensures.found

pub returns-in-Some-in_own_past : goal.returns-in-Some-in_own_past
returns-in-Some-in_own_past c =
    is-12 c.args.rows.now c.args.must.now c.args.n c.in_default.ensures.found c.in-Some-in_own_past.e c.in-Some-in_own_past.ensures.found

pub returns-in-Some-not_transitive : goal.returns-in-Some-not_transitive
returns-in-Some-not_transitive c =
    is-13 c.args.rows.now c.args.must.now c.args.n c.in_default.ensures.found c.in_default-in_own_past.ensures.found c.in-Some-not_transitive.e
    c.in-Some-not_transitive.ensures.found

pub returns : goal.returns
returns c =
    is-nothing c.args.rows.now c.args.must.now c.args.n c.in_default.ensures.found c.in_default-in_own_past.ensures.found c.in_default-not_transitive.ensures.found
