-- `put_places` meets its contract: as many places as there are slots are copied. Assumes nothing.
use Rattle.std.proofs.Common.{◌≡◌, List, ℕ, ◌++◌, drop, take, length, ap, ◌∙◌, rules}
use Rattle.interface.proofs.PlaceLaws.{put-placed}
use Rattle.interface.proofs.check.put_places.Goals as goal

pub returns : goal.returns
returns c =
    let seven : length c.args.all ≡ 7 = search rules in
    let copied : c.copy_from_slice.new.self ≡ take c.min-n.result c.args.all = grind rules in
    ap (λ (l : List ℕ). l ++ drop c.min-n.result c.args.places.now) copied
    ∙ put-placed c.args.all c.args.places.now c.min-n.result seven c.min-n.ensures
