-- What the parts of a step tell of a state and of an answer. Assumes nothing.
use Rattle.std.specs.Prelude.{ℕ, ◌≡◌, List, take}
use Rattle.history.specs.declared.record.Object.{Object}
use Rattle.criteria.specs.Object.{top}
use Rattle.objects.specs.State.{contents_of, given_of, is_stack}
use Rattle.objects.specs.declared.state.State.{State}
use Rattle.objects.specs.declared.state.Given.{Given}

-- An answer of these numbers.
pub record Names (l : List ℕ) (r : Given) : Type 0 where
  pub numbers : take r.count r.numbers ≡ l

-- An answer of the value that pop takes and peek shows, if there is one.
pub record Shows (s : State) (r : Given) : Type 0 where
  pub values : (vs : List ℕ) (o : Object) → is_stack o.kind ≡ s.newest → given_of vs r ≡ top o.kind (contents_of vs s)
