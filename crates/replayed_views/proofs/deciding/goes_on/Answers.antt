-- The view begins with the one before, and of what is left only e is of the process.
use Rattle.std.proofs.Common.{rules, Some}
use Rattle.std.proofs.lemmas.Slice.Eq.{strip_prefix_is}
use Rattle.std.proofs.lemmas.Bool.Decides.{Decides-eqb}
use Rattle.replayed_views.proofs.deciding.goes_on.Goals as goal

pub returns-then-eq : goal.returns-then-eq
returns-then-eq c t =
    let left = c.in-Some.ensures.cases in record {
      own = search rules;
      begins = rw left.1 at (strip_prefix_is Decides-eqb c.args.b.now c.args.a.now (Some c.in-Some.rest) left);
      alone = rw left.1 at (c.alone.ensures t);
    }
