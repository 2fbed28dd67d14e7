-- Laws of the replay: one event's test, and one turn of the loop. Assumes nothing.
use Prim.Native.Nat.{ℕ, zero, suc, ◌+◌, ◌≤◌, ◌<◌}
use native.Mathlib.Omega.{arith}
use native.Mathlib.Decide.{ℕ_discrete}
use mathlib.Core.Path.{◌≡◌, refl, ap, ap₂, sym, subst, ◌∙◌}
use mathlib.Core.Bool.{Bool, true, false, not, ◌&&◌, true≢false, false≢true}
use mathlib.Core.List.{List, [], ◌∷◌, ◌++◌, map}
use mathlib.Core.Option as math
use mathlib.Core.Option.{Option}
use Rattle.std.proofs.lemmas.List.{drop_more, drop_all}
use Rattle.std.proofs.lemmas.Bool.Decides.{same_from_decides}
use Rattle.std.specs.Bool.{Decides}
use borrow.Author.Tests.{eq-eqb, eqb-true}
use lib.ListN.{length, take, drop, get_or, set, length-map, length-set, get_or-map}
use lib.Seq.{get_or-set_same, get_or-set_other, set-get_or}
use lib.Dec.{eqb}
use Rattle.layout.proofs.Cases.{and_left, and_right, and-false}
use Rattle.history.specs.declared.record.Kind.{Kind}
use Rattle.history.specs.declared.record.Kind.TheVariants.{Register, Queue, Stack, Window, Channel}
use Rattle.history.specs.declared.record.Object.{Object}
use Rattle.history.specs.declared.record.Op.{Op}
use Rattle.history.specs.declared.record.Op.TheVariants.{Write, Read, Push, Pop, Peek}
use Rattle.history.specs.Kinds.{is_shelf, is_shelf_op, has_op}
use Rattle.criteria.specs.Object.{keeps, after, gives}
use Rattle.criteria.specs.Tests.{same_list}
use Rattle.criteria.specs.History.{Event, event}
use Rattle.criteria.specs.Replay.{changed}
use Rattle.criteria.specs.Check.{fits, right, first_wrong}
use Rattle.criteria.specs.OneLine.{is_update}
use Rattle.criteria.proofs.Lists.{by-test, clash, get_or-table}
use Rattle.criteria.proofs.Loops.{any-default}
use Rattle.criteria.proofs.Object.{length_last}
use Rattle.objects.specs.declared.state.State.{State}
use Rattle.objects.specs.declared.state.Given.{Given}
use Rattle.objects.specs.State.{value_in, contents_of, given_of, Fresh, Suits, Changed, Answered}
use Rattle.objects.specs.State.{no_state}
use Rattle.history.specs.Record.{no_object, recorded_in}
use Rattle.replays.specs.Replay.{no_light, unused_answer, event_in, history_in, contents_in, is_visible, Stands, SoundParts, Ready}
use Rattle.replays.specs.Steps.{sees_of}
use Rattle.replays.specs.declared.light.LightHistory.{LightHistory}
use Rattle.replays.specs.declared.replay.Light.{Light}
use Rattle.replays.specs.declared.replay.Visible.{Visible}
use Rattle.replays.specs.declared.replay.Visible.TheVariants.{All, Of, Only}

pub same-decides : {b : Bool} {xs ys : List ℕ} → Decides b (xs ≡ ys) → b ≡ same_list xs ys
same-decides {b} {xs} {ys} d = same_from_decides b (same_list xs ys) d (list-decides xs ys)
  where
    list-decides : (xs ys : List ℕ) → Decides (same_list xs ys) (xs ≡ ys)
    list-decides [] [] = (λ _. refl, λ _. refl)
    list-decides [] (y ∷ ys) = (λ t. absurd (false≢true t), λ e. cc)
    list-decides (x ∷ xs) [] = (λ t. absurd (false≢true t), λ e. cc)
    list-decides (x ∷ xs) (y ∷ ys) =
        let d = list-decides xs ys in (
          λ t. ap₂ (λ (z : ℕ) (zs : List ℕ). z ∷ zs) (eqb-true x y (and_left (eqb x y) (same_list xs ys) t)) (d.0 (and_right (eqb x y) (same_list xs ys) t)),
          λ e. let h : x ≡ y = cc in let t : xs ≡ ys = cc in rw (eq-eqb x y h) (d.1 t),
        )

-- an op that changes nothing leaves the state as it is
pub unchanged : (s : State) (op : Op) (e : ℕ) → is_update op ≡ false → s.head ≤ s.tail → Changed s op e s
unchanged s Write e f le = absurd (true≢false f)
unchanged s Read e f le = record { newest = refl; limit = refl; ends = le; room = omega arith; contents = λ vs o _. refl }
unchanged s Push e f le = absurd (true≢false f)
unchanged s Pop e f le = absurd (true≢false f)
unchanged s Peek e f le = record { newest = refl; limit = refl; ends = le; room = omega arith; contents = λ vs o _. refl }

-- ---- a state stands
length-first : (n : ℕ) (l : List ℕ) → length (take n l) ≤ n
length-first zero l = omega arith
length-first (suc n) [] = omega arith
length-first (suc n) (x ∷ xs) = let h = length-first n xs in omega (arith, h)

length-left : (n : ℕ) (l : List ℕ) → length (drop n l) ≤ length l
length-left zero l = omega arith
length-left (suc n) [] = omega arith
length-left (suc n) (x ∷ xs) = let h = length-left n xs in omega (arith, h)

-- a state in which an object starts holds at most one value
few-values : (vs : List ℕ) (s : State) → s.tail ≤ 1 → length (contents_of vs s) ≤ 1
unfolding contents_of
few-values vs s le =
    let a : length (map (value_in vs) (drop s.head (take s.tail s.numbers))) ≡ length (drop s.head (take s.tail s.numbers)) = length-map (drop s.head (take s.tail s.numbers)) (value_in vs) in
    let b = length-left s.head (take s.tail s.numbers) in
    let d = length-first s.tail s.numbers in
    omega (arith, a, b, d, le)

pub fresh-stands : (o : Object) (s : State) → keeps o.kind o.width ≤ 8 → Fresh o s → Stands o 0 s
fresh-stands o s small f = record {
  newest = sym f.newest;
  limit = sym f.limit;
  ends = let h = f.head in omega (arith, h);
  room = let t = f.tail in omega (arith, t);
  small = small;
  few = λ _ vs. let n = few-values vs s f.tail in omega (arith, n);
}

-- only a queue, a stack and a channel have push, pop and peek; only a register and a window have read
no-shelf-op : {P : Type 0} (k : Kind) (op : Op) → has_op k op ≡ true → is_shelf k ≡ false → is_shelf_op op ≡ true → P
no-shelf-op Register op e f t = clash e (ap not t)
no-shelf-op Window op e f t = clash e (ap not t)
no-shelf-op Queue op e f t = clash refl f
no-shelf-op Stack op e f t = clash refl f
no-shelf-op Channel op e f t = clash refl f

read-no-shelf : (k : Kind) → has_op k Read ≡ true → is_shelf k ≡ false
read-no-shelf Register e = refl
read-no-shelf Window e = refl
read-no-shelf Queue e = clash e refl
read-no-shelf Stack e = clash e refl
read-no-shelf Channel e = clash e refl

few-after : (o : Object) (op : Op) (v : ℕ) (l : List ℕ) → keeps o.kind o.width ≤ 8 → has_op o.kind op ≡ true → is_shelf o.kind ≡ false → length l ≤ 8 → length (after o op v l) ≤ 8
few-after o Write v l k e f le = let n = length_last (keeps o.kind o.width) (l ++ (v ∷ [])) in omega (arith, n, k)
few-after o Read v l k e f le = le
few-after o Push v l k e f le = no-shelf-op o.kind Push e f refl
few-after o Pop v l k e f le = no-shelf-op o.kind Pop e f refl
few-after o Peek v l k e f le = no-shelf-op o.kind Peek e f refl

module _ (o : Object) (m : ℕ) (s : State) (st : Stands o m s) (op : Op) (has : has_op o.kind op ≡ true) where
  pub few-read : (vs : List ℕ) → op ≡ Read → length (contents_of vs s) ≤ 8
  few-read vs q = st.few (read-no-shelf o.kind (subst (λ (p : Op). has_op o.kind p ≡ true) q has)) vs

  pub suits : Suits o op s
  suits = record { newest = st.newest; limit = st.limit; has = has }

  pub stands_on : (e : ℕ) (t : State) → Changed s op e t → Stands o (m + 1) t
  stands_on e t c = record {
    newest = st.newest ∙ sym c.newest;
    limit = st.limit ∙ sym c.limit;
    ends = c.ends;
    room = let a = st.room in let b = c.room in omega (arith, a, b);
    small = st.small;
    few = λ f vs. subst (λ (l : List ℕ). length l ≤ 8) (sym (c.contents vs o suits)) (few-after o op (value_in vs e) (contents_of vs s) st.small has f (st.few f vs));
  }

stands-longer : (o : Object) (m : ℕ) (s : State) → Stands o m s → Stands o (m + 1) s
stands-longer o m s st = record { newest = st.newest; limit = st.limit; ends = st.ends; room = let a = st.room in omega (arith, a); small = st.small; few = st.few }

-- every object's state stands
abbrev pub AllStand : List Object → ℕ → List State → Type 0
AllStand os m states = (o : ℕ) → o < 16 → Stands (get_or os o no_object) m (get_or states o no_state)

pub all-on : (os : List Object) (m : ℕ) (states : List State) (o : ℕ) (t : State) → length states ≡ 16 → AllStand os m states → Stands (get_or os o no_object) (m + 1) t
    → AllStand os (m + 1) (set states o t)
all-on os m states o t len all st k lt = by-case (ℕ_discrete k o)
  where
    by-case : Dec (k ≡ o) → Stands (get_or os k no_object) (m + 1) (get_or (set states o t) k no_state)
    by-case (yes q) =
        let lo : o < length states = omega (arith, q, lt, len) in
        rw (q, get_or-set_same states o t no_state lo) st
    by-case (no ne) = rw (get_or-set_other states o k t no_state ne) (stands-longer (get_or os k no_object) m (get_or states k no_state) (all k lt))

-- ---- one turn
map-set : (f : State → List ℕ) (l : List State) (o : ℕ) (t : State) → map f (set l o t) ≡ set (map f l) o (f t)
map-set f [] o t = refl
map-set f (x ∷ xs) zero t = refl
map-set f (x ∷ xs) (suc o) t = ap (λ (l : List (List ℕ)). f x ∷ l) (map-set f xs o t)

no-contents : (vs : List ℕ) → contents_of vs no_state ≡ []
unfolding contents_of
no-contents vs = refl

pub get_or-contents : (vs : List ℕ) (states : List State) (o : ℕ) → get_or (contents_in vs states) o [] ≡ contents_of vs (get_or states o no_state)
get_or-contents vs states o =
    ap (λ (d : List ℕ). get_or (map (contents_of vs) states) o d) (sym (no-contents vs)) ∙ get_or-map (contents_of vs) states o no_state

-- ---- one event of a history that was taken apart
module _ (h : LightHistory) where
  pub event-at : (x : ℕ) → x < h.size → event (history_in h) x ≡ event_in h x
  unfolding history_in
  event-at x lt = get_or-table h.size (event_in h) x _ lt

  visible-at : (who : Visible) (x : ℕ) → x < h.size → is_visible (history_in h) who x ≡ sees_of who (get_or h.events x no_light).process.0 x
  visible-at All x lt = refl
  visible-at (Of p) x lt = ap (λ (e : Event). eqb e.process p.0) (event-at x lt)
  visible-at (Only f) x lt = refl

  -- event x, of the object o
  module _ (parts : SoundParts h) {x o : ℕ} (lt : x < h.size) (on : o ≡ (get_or h.events x no_light).object) where
    pub object-of : o < 16
    object-of = rw on (parts.object x lt)

    pub has-its-op : has_op (get_or h.objects o no_object).kind (get_or h.events x no_light).op ≡ true
    has-its-op = rw on (parts.op x lt)

    -- what its object answers and what it holds after the event, where that object's state stands
    module _ {m : ℕ} {s : State} (stands : Stands (get_or h.objects o no_object) m s) where
      pub given-is : (g : Given) → Answered s (get_or h.events x no_light).op x g
          → given_of h.values g ≡ gives (get_or h.objects o no_object) (get_or h.events x no_light).op (value_in h.values x) (contents_of h.values s)
      given-is g a =
          a.values h.values (get_or h.objects o no_object) (suits (get_or h.objects o no_object) m s stands (get_or h.events x no_light).op has-its-op)
          (few-read (get_or h.objects o no_object) m s stands (get_or h.events x no_light).op has-its-op h.values)

      pub contents-after : (t : State) → Changed s (get_or h.events x no_light).op x t
          → after (get_or h.objects o no_object) (get_or h.events x no_light).op (value_in h.values x) (contents_of h.values s) ≡ contents_of h.values t
      contents-after t c =
          sym (c.contents h.values (get_or h.objects o no_object) (suits (get_or h.objects o no_object) m s stands (get_or h.events x no_light).op has-its-op))

-- ---- the replay's loop
-- the first wrong answer of what is left of a view
unfoldable pub wrong_from : LightHistory → Visible → List State → List ℕ → Option ℕ
wrong_from h who states view = first_wrong (history_in h) (is_visible (history_in h) who) (contents_in h.values states) view

-- Nothing is wrong in the first i entries of the view: each object's state stands, and what is left says what the whole view says.
pub record Passed (h : LightHistory) (starts : List State) (view : List ℕ) (who : Visible) (i : ℕ) (states : List State) : Type 0 where
  pub places : length states ≡ 16
  pub stand : AllStand h.objects i states
  pub same : wrong_from h who starts view ≡ wrong_from h who states (drop i view)

module _ {h : LightHistory} {starts : List State} {view : List ℕ} {who : Visible} (r : Ready h starts view) where
  pub all-passed : {states : List State} {i : ℕ} → i ≡ length view → Passed h starts view who i states
      → math.none ≡ first_wrong (history_in h) (is_visible (history_in h) who) (contents_in h.values starts) view
  unfolding wrong_from
  all-passed {states} {i} e p = sym (p.same ∙ ap (wrong_from h who states) (drop_all i view (omega arith)))

  -- entry i of the view: event x, of the object o
  module _ {i : ℕ} {states : List State} (p : Passed h starts view who i states) (lt : i < length view)
      {x o : ℕ} (is : x ≡ get_or view i 0) (on : o ≡ (get_or h.events x no_light).object) where
    is-event : x < h.size
    is-event = rw is (r.event i lt)

    abbrev light : Light
    light = get_or h.events x no_light

    its-state : Stands (get_or h.objects o no_object) i (get_or states o no_state)
    its-state = p.stand o (object-of h r.parts is-event on)

    left : drop i view ≡ x ∷ drop (i + 1) view
    left = drop_more view i 0 lt ∙ ap (λ (k : ℕ). k ∷ drop (i + 1) view) (sym is)

    -- what the check asks of the event
    abbrev wrong-here : Bool
    wrong-here = is_visible (history_in h) who x && not (right (history_in h) (contents_in h.values states) x)

    right-here : right (history_in h) (contents_in h.values states) x
        ≡ fits (recorded_in (get_or h.answers x unused_answer)) (gives (get_or h.objects o no_object) light.op (value_in h.values x) (contents_of h.values (get_or states o no_state)))
    unfolding right history_in
    right-here =
        rw on (ap (λ (e : Event). fits e.answer (gives (get_or h.objects e.object no_object) e.op e.value (get_or (contents_in h.values states) e.object [])))
        (event-at h x is-event)
        ∙ ap (λ (l : List ℕ). fits (recorded_in (get_or h.answers x unused_answer)) (gives (get_or h.objects light.object no_object) light.op (value_in h.values x) l))
        (get_or-contents h.values states light.object))

    -- an event that was not asked is right, or not visible
    unasked : not light.silent && sees_of who light.process.0 x ≡ false → wrong-here ≡ false
    unasked f =
        by-test light.silent
        (λ t. rw (right-here, silent-right t) (and-false (is_visible (history_in h) who x)))
        (λ t. let z : sees_of who light.process.0 x ≡ false = rw t at f in rw (visible-at h who x is-event, z))
      where
        silent-right : light.silent ≡ true
            → fits (recorded_in (get_or h.answers x unused_answer)) (gives (get_or h.objects o no_object) light.op (value_in h.values x) (contents_of h.values (get_or states o no_state))) ≡ true
        silent-right t = rw on (r.parts.silent x is-event t (value_in h.values x) (contents_of h.values (get_or states light.object no_state)))

    -- one that was asked is wrong where its answer is not the given one
    asked : {b : Bool} (g : Given) → sees_of who light.process.0 x ≡ true → Answered (get_or states o no_state) light.op x g
        → b ≡ fits (recorded_in (get_or h.answers x unused_answer)) (given_of h.values g) → wrong-here ≡ not b
    asked g seen a q = rw (visible-at h who x is-event, seen, right-here, q, given-is h r.parts is-event on its-state g a)

    stops : wrong-here ≡ true → math.some x ≡ first_wrong (history_in h) (is_visible (history_in h) who) (contents_in h.values starts) view
    unfolding wrong_from
    stops q = sym (p.same ∙ ap (wrong_from h who states) left ∙ rw q)

    changed-at : (t : State) → Changed (get_or states o no_state) light.op x t
        → changed (history_in h) (contents_in h.values states) x ≡ contents_in h.values (set states o t)
    unfolding history_in
    changed-at t c =
        rw on at-object
        ∙ ap (set (contents_in h.values states) o) (contents-after h r.parts is-event on its-state t c)
        ∙ sym (map-set (contents_of h.values) states o t)
      where
        at-object : changed (history_in h) (contents_in h.values states) x
            ≡ set (contents_in h.values states) light.object (after (get_or h.objects light.object no_object) light.op (value_in h.values x) (contents_of h.values (get_or states light.object no_state)))
        at-object =
            ap (λ (e : Event). set (contents_in h.values states) e.object (after (get_or h.objects e.object no_object) e.op e.value (get_or (contents_in h.values states) e.object [])))
            (event-at h x is-event)
            ∙ ap (λ (l : List ℕ). set (contents_in h.values states) light.object (after (get_or h.objects light.object no_object) light.op (value_in h.values x) l))
            (get_or-contents h.values states light.object)

    goes-on : wrong-here ≡ false → (t : State) → Changed (get_or states o no_state) light.op x t → Passed h starts view who (i + 1) (set states o t)
    unfolding wrong_from
    goes-on q t c = record {
      places = length-set states o t ∙ p.places;
      stand = all-on h.objects i states o t p.places p.stand
          (stands_on (get_or h.objects o no_object) i (get_or states o no_state) its-state light.op (has-its-op h r.parts is-event on) x t c);
      same = p.same ∙ ap (wrong_from h who states) left ∙ rw (q, changed-at t c);
    }

    -- the way out, and the three ways on; the code names the event by the entry, and its places by x, and reads the state of its object
    -- with any default
    abbrev number : ℕ
    number = get_or view i 0

    state-as : (d : State) → get_or states o d ≡ get_or states o no_state
    state-as d = any-default states o d no_state (omega (arith, object-of h r.parts is-event on, p.places))

    changed-as : (d : State) {t : State} → Changed (get_or states o d) light.op number t → Changed (get_or states o no_state) light.op x t
    changed-as d {t} c = subst (λ (k : ℕ). Changed (get_or states o no_state) light.op k t) (sym is) (rw (state-as d) at c)

    answered-as : (d : State) {g : Given} → Answered (get_or states o d) light.op number g → Answered (get_or states o no_state) light.op x g
    answered-as d {g} a = subst (λ (k : ℕ). Answered (get_or states o no_state) light.op k g) (sym is) (rw (state-as d) at a)

    is-asked : not light.silent && sees_of who light.process.0 number ≡ true → sees_of who light.process.0 x ≡ true
    is-asked q = and_right (not light.silent) (sees_of who light.process.0 x) (rw (sym is) at q)

    pub asked-wrong : (d : State) (g : Given) → not light.silent && sees_of who light.process.0 number ≡ true → Answered (get_or states o d) light.op number g
        → false ≡ fits (recorded_in (get_or h.answers x unused_answer)) (given_of h.values g)
        → math.some number ≡ first_wrong (history_in h) (is_visible (history_in h) who) (contents_in h.values starts) view
    asked-wrong d g q a f =
        ap math.some (sym is) ∙ stops (asked g (is-asked q) (answered-as d a) f)

    pub asked-right : (d : State) (g : Given) (t : State) → not light.silent && sees_of who light.process.0 number ≡ true → Answered (get_or states o d) light.op number g
        → true ≡ fits (recorded_in (get_or h.answers x unused_answer)) (given_of h.values g)
        → Changed (get_or states o d) light.op number t → Passed h starts view who (i + 1) (set states o t)
    asked-right d g t q a f c =
        goes-on (asked g (is-asked q) (answered-as d a) f) t (changed-as d c)

    pub unasked-changes : (d : State) (t : State) → not light.silent && sees_of who light.process.0 number ≡ false
        → Changed (get_or states o d) light.op number t → Passed h starts view who (i + 1) (set states o t)
    unasked-changes d t q c = goes-on (unasked (rw (sym is) at q)) t (changed-as d c)

    pub unasked-still : not light.silent && sees_of who light.process.0 number ≡ false → is_update light.op ≡ false → Passed h starts view who (i + 1) states
    unasked-still q still =
        subst (Passed h starts view who (i + 1)) (set-get_or states o no_state)
        (goes-on (unasked (rw (sym is) at q)) (get_or states o no_state) (unchanged (get_or states o no_state) light.op x still its-state.ends))
