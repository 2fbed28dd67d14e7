-- `op_behind` meets its contract. Assumes nothing.
use mathlib.Core.Path.{ap, ◌∙◌}
use mathlib.Core.List.{List, [], ◌∷◌, ◌++◌, append_assoc}
use Prim.Native.Nat.{ℕ}
use Rattle.std.specs.Prelude.{Some}
use Rattle.std.proofs.lemmas.Bool.Decides.{Decides-eqb}
use Rattle.std.proofs.lemmas.Slice.Eq.{strip_prefix_is}
use Rattle.history.specs.Kinds.{op_word}
use Rattle.event_reader.proofs.next.op_behind.Goals as goal

pub returns : goal.returns
returns c =
    strip_prefix_is Decides-eqb c.args.text.now c.args.word.now (Some c.in_ok-rest.rest) c.in_ok-rest.ensures.cases
    ∙ ap (λ (w : List ℕ). w ++ c.in_ok-rest.rest.now) c.requires
    ∙ append_assoc (op_word c.args.op) (32 ∷ []) c.in_ok-rest.rest.now
