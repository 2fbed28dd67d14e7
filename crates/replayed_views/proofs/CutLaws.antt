-- Laws of a view that is cut down to a row of one object's events: what its replay takes for granted and finds, and the lowest event
-- that is wrong in its own part. Assumes nothing.
use Prim.Native.Nat.{ℕ, ◌≤◌, ◌<◌}
use native.Mathlib.Omega.{arith}
use mathlib.Core.Path.{◌≡◌, refl, sym, ap, ap₂, ◌∙◌}
use mathlib.Core.Bool.{Bool, true, ◌&&◌}
use mathlib.Core.List.{List, [], ◌∷◌}
use mathlib.Core.Option as math
use Rattle.std.specs.Prelude.{Option, Some, None}
use lib.ListN.{length, get_or, length-map}
use lib.Dec.{eqb}
use borrow.Author.Tests.{eq-eqb}
use Rattle.history.specs.declared.record.EventNo.{EventNo}
use Rattle.criteria.specs.Tests.{lowest, keep_if, keep, mem, place}
use Rattle.criteria.specs.History.{Event, event, only, past_with}
use Rattle.criteria.specs.Check.{first_wrong}
use Rattle.criteria.proofs.Lists.{by-test, true-or-left, true-or-right, none-lowest, mem-keep, mem-get_or, place_in}
use Rattle.criteria.proofs.Loops.{any-default, lowest-found}
use Rattle.objects.specs.declared.state.State.{State}
use Rattle.objects.specs.State.{no_state, contents_of}
use Rattle.orders.specs.Rows.{in_row, in_rows}
use Rattle.replays.specs.declared.light.LightHistory.{LightHistory}
use Rattle.replays.specs.Replay.{no_light, history_in, contents_in, found_event, Ready}
use Rattle.replayed_views.specs.Cut.{wrong_cut}
use Rattle.replayed_views.specs.Steps.{one_wrong, ObjectRows, ReadyKept}
use Rattle.replays.proofs.ReplayLaws.{event-at, object-of, get_or-contents}
use Rattle.replayed_views.proofs.ObjectLaws.{on_object, one-object}

-- what passes two tests, and every entry
keep-both : (f g r : ℕ → Bool) (v : List ℕ) → ((x : ℕ) → mem x v ≡ true → r x ≡ g x && f x) → keep f (keep g v) ≡ keep r v
keep-both f g r [] q = refl
keep-both f g r (x ∷ v) q =
    let rest = keep-both f g r v (λ y t. q y (true-or-right (eqb y x) t)) in
    let here : r x ≡ g x && f x = q x (true-or-left (mem x v) (eq-eqb x x refl)) in
    by-test (g x) (λ t. rw (here, t) (ap (keep_if (f x) x) rest)) (λ t. rw (here, t) rest)

pub keep_all : (v : List ℕ) → keep (λ (x : ℕ). true) v ≡ v
keep_all [] = refl
keep_all (x ∷ v) = ap (λ (l : List ℕ). x ∷ l) (keep_all v)

-- an entry of the part is an entry of the view, so what holds of those holds of it
module _ (view : List ℕ) (size : ℕ) (entries : (i : ℕ) → i < length view → get_or view i 0 < size) where
  pub first_below : (e : ℕ) → mem e view ≡ true → e < size
  first_below e t = let p = place_in e view t in rw p.1 at (entries (place e view) p.0)

  pub kept-below : (f : ℕ → Bool) (e : ℕ) → mem e (keep f view) ≡ true → e < size
  kept-below f e t = first_below e (mem-keep f e view t).1

-- the view that is cut down to a row of events of e's object
module _ {h : LightHistory} {start : State} {view : List ℕ} {e : ℕ} (row : ℕ) (r : ReadyKept h start view (in_row row) e) where
  pub part-ready : {part : List ℕ} → part ≡ keep (in_row row) view → length part ≤ length view → ReadyKept h start part (λ f. mem f part) e
  part-ready {part} q few = record {
    parts = r.parts;
    short = omega (arith, few, r.short);
    event = λ i l. kept-below view h.size r.event (in_row row) (get_or part i 0) (ap (mem (get_or part i 0)) (sym q) ∙ mem-get_or part i l);
    own = r.own;
    same = λ f l t. r.same f l (mem-keep (in_row row) f view (ap (mem f) (sym q) ∙ t)).0;
    start = r.start;
  }

module _ {h : LightHistory} {starts : List State} {view : List ℕ} {e o : ℕ} (row : ℕ) (r : Ready h starts view) (below : e < h.size)
    (on : o ≡ (get_or h.events e no_light).object) (g : ℕ → Bool)
    (is_row : (f : ℕ) → f < h.size → in_row row f ≡ g f && eqb (get_or h.events f no_light).object o) where
  -- the replay of the events that pass is that of those in the row
  row-wrong : length starts ≡ 16
      → first_wrong (history_in h) (only e) (contents_in h.values starts) (keep g view)
      ≡ one_wrong (history_in h) e (get_or h.events e no_light).object (contents_of h.values (get_or starts o no_state)) (keep (in_row row) view)
  row-wrong long =
      let its : (f : ℕ) → f < h.size → (event (history_in h) f).object ≡ (get_or h.events f no_light).object =
      λ f l. ap (λ (x : Event). x.object) (event-at h f l) in
      let small : o < 16 = rw on (r.parts.object e below) in
      rw (← on)
      (one-object (history_in h) e o (its e below ∙ sym on) (contents_in h.values starts) (keep g view) (omega (arith, small, long, length-map starts (contents_of h.values)))
      ∙ ap (λ (c : List ℕ). one_wrong (history_in h) e o c (keep (on_object (history_in h) o) (keep g view))) (get_or-contents h.values starts o)
      ∙ ap (one_wrong (history_in h) e o (contents_of h.values (get_or starts o no_state)))
      (keep-both (on_object (history_in h) o) g (in_row row) view
      (λ x t.
      let l = first_below view h.size r.event x t in
      is_row x l ∙ ap (λ (k : ℕ). g x && eqb k o) (sym (its x l)))))

  -- the code reads the state with any default
  pub row-found : length starts ≡ 16 → (found : Option EventNo) (d : State)
      → found_event found ≡ one_wrong (history_in h) e (get_or h.events e no_light).object (contents_of h.values (get_or starts o d)) (keep (in_row row) view)
      → found_event found ≡ first_wrong (history_in h) (only e) (contents_in h.values starts) (keep g view)
  row-found long found d q =
      let small : o < 16 = rw on (r.parts.object e below) in
      rw (any-default starts o d no_state (omega (arith, small, long))) at q ∙ sym (row-wrong long)

-- the row of the part of an event of the object o: its past and it, and of these the events of the object
module _ {h : LightHistory} {starts : List State} {view : List ℕ} {e o : ℕ} (order : List ℕ) (past row : ℕ) (rows : List ℕ) (r : Ready h starts view) (below : e < h.size)
    (on : o ≡ (get_or h.events e no_light).object) (past-is : (f : ℕ) → in_row past f ≡ past_with (in_rows order) e f)
    (rows-are : ObjectRows h.events rows) (row-is : (f : ℕ) → in_row row f ≡ in_row past f && in_row (get_or rows o 0) f) where
  -- its replay finds what that of the part finds
  pub cut-found : length starts ≡ 16 → (found : Option EventNo) (d : State)
      → found_event found ≡ one_wrong (history_in h) e (get_or h.events e no_light).object (contents_of h.values (get_or starts o d)) (keep (in_row row) view)
      → found_event found ≡ wrong_cut (history_in h) (contents_in h.values starts) order view e
  cut-found =
      let small : o < 16 = object-of h r.parts below on in
      row-found row r below on (past_with (in_rows order) e)
      (λ f l. row-is f ∙ ap₂ ◌&&◌ (past-is f) (rows-are o small f (omega (arith, l, r.parts.small))))

-- ---- the search
pub found-some : {found : Option EventNo} {x : EventNo} {r : math.Option ℕ} → found ≡ Some x → found_event found ≡ r → math.some x.0 ≡ r
found-some is q = ap found_event (sym is) ∙ q

pub found-none : {found : Option EventNo} {r : math.Option ℕ} → found ≡ None → found_event found ≡ r → r ≡ math.none
found-none is q = sym q ∙ ap found_event is

module _ (m : ℕ) (f : ℕ → math.Option ℕ) where
  pub event-found : {k : ℕ} {x : EventNo} → k < m → ((i : ℕ) → i < k → f i ≡ math.none) → math.some x.0 ≡ f k → math.some x.0 ≡ lowest m f
  event-found {k} {x} l g q = sym (lowest-found m f k x.0 l g (sym q))

  pub event-none : {k : ℕ} → m ≤ k → ((i : ℕ) → i < k → f i ≡ math.none) → math.none ≡ lowest m f
  event-none l g = sym (none-lowest m f (λ i h. g i (omega arith)))
