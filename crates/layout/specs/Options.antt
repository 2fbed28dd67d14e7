-- An option of the code as one of the definitions.
use Rattle.std.specs.Prelude.{Option, Some, None}
use Rattle.std.proofs.Math.Option as math

abbrev pub option_in : {A : Type 0} → Option A → math.Option A
option_in None = math.none
option_in (Some x) = math.some x
