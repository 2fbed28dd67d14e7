-- Replay (document 01: "In a replay every event of the view changes its object; only the answers called visible must equal what the
-- object gives."; source document 004, Definition 2: the view is a sequential history admissible for the objects, in which an
-- operation whose answer is not visible is hidden).
use Rattle.std.specs.Prelude.{◌≡◌, Bool, true, List, [], ◌∷◌, map, ℕ, get_or, set}
use Rattle.std.proofs.Math.Option.{Option, none, some}
use Rattle.criteria.specs.Object.{fresh, after, gives}
use Rattle.criteria.specs.History.{History, event, object}

-- What each object holds, and at first. "Objects don't affect each other."
abbrev pub Contents : Type 0
Contents = List (List ℕ)

abbrev pub start : History → Contents
start h = map fresh h.objects

-- What event e's object gives, and what the objects hold after e.
abbrev pub answered : History → Contents → ℕ → List ℕ
answered h s e =
    gives (object h (event h e).object) (event h e).op (event h e).value (get_or s (event h e).object [])

abbrev pub changed : History → Contents → ℕ → Contents
changed h s e =
    set s (event h e).object
    (after (object h (event h e).object) (event h e).op (event h e).value (get_or s (event h e).object []))

-- What the objects hold after a list of events.
abbrev pub after_all : History → Contents → List ℕ → Contents
after_all h s [] = s
after_all h s (e ∷ v) = after_all h (changed h s e) v

-- A recorded answer is the one given. Of one that was lost nothing is asked: it "is visible in no view, under any criterion" (document
-- 02, T-01).
abbrev pub Fits : Option (List ℕ) → List ℕ → Type 0
Fits none a = Unit {0}
Fits (some r) a = r ≡ a

-- The event's answer fits what the object gives.
unfoldable pub Right : History → Contents → ℕ → Type 0
Right h s e = Fits (event h e).answer (answered h s e)

-- Every event of the view changes its object; a visible one has the right answer, unless it was lost.
abbrev pub Replays : History → (ℕ → Bool) → Contents → List ℕ → Type 0
Replays h visible s [] = Unit {0}
Replays h visible s (e ∷ es) = (visible e ≡ true → Right h s e) × Replays h visible (changed h s e) es
