-- Laws of the replay of one object: where one answer is visible, the other objects' events do not count. Assumes nothing.
use Prim.Native.Nat.{ℕ, ◌+◌, ◌≤◌, ◌<◌}
use native.Mathlib.Omega.{arith}
use mathlib.Core.Path.{◌≡◌, refl, ap, sym, subst, ◌∙◌}
use mathlib.Core.Bool.{Bool, true, false, not, ◌&&◌}
use mathlib.Core.List.{List, [], ◌∷◌}
use mathlib.Core.Option.{Option, none, some}
use lib.ListN.{length, get_or, drop, set, length-set}
use lib.Seq.{get_or-set_same, get_or-set_other}
use Rattle.std.proofs.lemmas.List.{drop_more, drop_all}
use lib.Dec.{eqb, ltb}
use borrow.Author.Tests.{eqb-true, eqb-false, eq-eqb, ne_eqb}
use Rattle.layout.proofs.Cases.{and-false}
use Rattle.history.specs.declared.record.Object.{Object}
use Rattle.history.specs.Record.{no_object, recorded_in}
use Rattle.criteria.specs.Tests.{or, found_if, keep_if, keep, mem}
use Rattle.criteria.specs.Object.{after, gives}
use Rattle.criteria.specs.History.{Event, History, event, object, only}
use Rattle.criteria.specs.Replay.{Contents}
use Rattle.criteria.specs.Check.{fits, right, first_wrong}
use Rattle.criteria.proofs.Lists.{by-test, mem-get_or}
use Rattle.objects.specs.declared.state.State.{State}
use Rattle.objects.specs.declared.state.Given.{Given}
use Rattle.objects.specs.State.{value_in, contents_of, given_of, Changed, Answered}
use Rattle.orders.specs.Rows.{in_row}
use Rattle.replays.specs.declared.replay.Light.{Light}
use Rattle.replays.specs.declared.light.LightHistory.{LightHistory}
use Rattle.replays.specs.Replay.{no_light, unused_answer, history_in, Stands}
use Rattle.replayed_views.specs.Steps.{one_wrong, ReadyKept}
use Rattle.replays.proofs.ReplayLaws.{stands_on, event-at, has-its-op, given-is, contents-after}

-- an event of the object o
abbrev pub on_object : History → ℕ → ℕ → Bool
on_object h o f = eqb (event h f).object o

module _ (h : History) (e o : ℕ) (its : (event h e).object ≡ o) where
  unseen : (f : ℕ) → on_object h o f ≡ false → only e f ≡ false
  unseen f t =
      by-test (eqb f e)
      (λ q. absurd (eqb-false (event h f).object o t (ap (λ (k : ℕ). (event h k).object) (eqb-true f e q) ∙ its)))
      (λ q. q)

  pub one-object : (s : Contents) (v : List ℕ) → o < length s
      → first_wrong h (only e) s v ≡ one_wrong h e o (get_or s o []) (keep (on_object h o) v)
  unfolding right
  one-object s [] l = refl
  one-object s (f ∷ fs) l =
      let x = (event h f).object in
      let op = (event h f).op in
      let v = (event h f).value in
      by-test (eqb x o)
      (λ t.
      let c = after (object h o) op v (get_or s o []) in
      let within : o < length (set s o c) = omega (arith, length-set s o c) in
      ap (λ (y : ℕ). or (found_if (only e f && not (fits (event h f).answer (gives (object h y) op v (get_or s y [])))) f) (first_wrong h (only e) (set s y (after (object h y) op v (get_or s y []))) fs)) (eqb-true x o t)
      ∙ ap (or (found_if (only e f && not (fits (event h f).answer (gives (object h o) op v (get_or s o [])))) f))
      (one-object (set s o c) fs within ∙ ap (λ (d : List ℕ). one_wrong h e o d (keep (on_object h o) fs)) (get_or-set_same s o c [] l))
      ∙ ap (λ (b : Bool). one_wrong h e o (get_or s o []) (keep_if b f (keep (on_object h o) fs))) (sym t))
      (λ t.
      let c = after (object h x) op v (get_or s x []) in
      let within : o < length (set s x c) = omega (arith, length-set s x c) in
      ap (λ (b : Bool). or (found_if (b && not (right h s f)) f) (first_wrong h (only e) (set s x c) fs)) (unseen f t)
      ∙ one-object (set s x c) fs within
      ∙ ap (λ (d : List ℕ). one_wrong h e o d (keep (on_object h o) fs)) (get_or-set_other s x o c [] (λ q. eqb-false x o t (sym q)))
      ∙ ap (λ (b : Bool). one_wrong h e o (get_or s o []) (keep_if b f (keep (on_object h o) fs))) (sym t))

-- ---- the replay of one object's events
module _ (h : LightHistory) (e : ℕ) where
  abbrev its-place : ℕ
  its-place = (get_or h.events e no_light).object

  abbrev its-object : Object
  its-object = get_or h.objects its-place no_object

  -- the first wrong answer of what is left of a part
  unfoldable pub one_from : State → List ℕ → Option ℕ
  one_from s part = one_wrong (history_in h) e its-place (contents_of h.values s) part

-- Nothing is wrong in the first i entries of the part: the object's state stands, and what is left says what the whole part says.
pub record PartPassed (h : LightHistory) (start : State) (part : List ℕ) (e i : ℕ) (s : State) : Type 0 where
  pub stand : Stands (get_or h.objects (get_or h.events e no_light).object no_object) i s
  pub same : one_from h e start part ≡ one_from h e s (drop i part)

module _ {h : LightHistory} {start : State} {part : List ℕ} {e : ℕ} (r : ReadyKept h start part (λ f. mem f part) e) where
  pub all-passed : {s : State} {i : ℕ} → length part ≤ i → PartPassed h start part e i s
      → none ≡ one_wrong (history_in h) e (get_or h.events e no_light).object (contents_of h.values start) part
  unfolding one_from
  all-passed {s} {i} l p = sym (p.same ∙ ap (one_from h e s) (drop_all i part l))

  -- entry i of the part: event x
  module _ {i : ℕ} {s : State} (p : PartPassed h start part e i s) (lt : i < length part) {x : ℕ} (is : x ≡ get_or part i 0) where
    is-event : x < h.size
    is-event = rw is (r.event i lt)

    abbrev light : Light
    light = get_or h.events x no_light

    -- it is of e's object
    its : (get_or h.events e no_light).object ≡ light.object
    its = sym (r.same x is-event (rw is (mem-get_or part i lt)))

    left : drop i part ≡ x ∷ drop (i + 1) part
    left = drop_more part i 0 lt ∙ ap (λ (k : ℕ). k ∷ drop (i + 1) part) (sym is)

    -- what the check asks of the event
    abbrev wrong-here : Bool
    wrong-here =
        only e x && not (fits (event (history_in h) x).answer (gives (object (history_in h) (its-place h e)) (event (history_in h) x).op (event (history_in h) x).value (contents_of h.values s)))

    asked : {b : Bool} (g : Given) → Answered s light.op x g → b ≡ fits (recorded_in (get_or h.answers x unused_answer)) (given_of h.values g)
        → wrong-here ≡ only e x && not b
    unfolding history_in
    asked {b} g a q =
        ap (λ (y : Event). only e x && not (fits y.answer (gives (its-object h e) y.op y.value (contents_of h.values s)))) (event-at h x is-event)
        ∙ ap (λ (l : List ℕ). only e x && not (fits (recorded_in (get_or h.answers x unused_answer)) l)) (sym (given-is h r.parts is-event its p.stand g a))
        ∙ ap (λ (t : Bool). only e x && not t) (sym q)

    stops : wrong-here ≡ true → some x ≡ one_wrong (history_in h) e (get_or h.events e no_light).object (contents_of h.values start) part
    unfolding one_from
    stops q = sym (p.same ∙ ap (one_from h e s) left ∙ rw q)

    after-at : (t : State) → Changed s light.op x t
        → after (object (history_in h) (its-place h e)) (event (history_in h) x).op (event (history_in h) x).value (contents_of h.values s) ≡ contents_of h.values t
    unfolding history_in
    after-at t c =
        ap (λ (y : Event). after (its-object h e) y.op y.value (contents_of h.values s)) (event-at h x is-event)
        ∙ contents-after h r.parts is-event its p.stand t c

    goes-on : wrong-here ≡ false → (t : State) → Changed s light.op x t → PartPassed h start part e (i + 1) t
    unfolding one_from
    goes-on q t c = record {
      stand = stands_on (its-object h e) i s p.stand light.op (has-its-op h r.parts is-event its) x t c;
      same = p.same ∙ ap (one_from h e s) left ∙ rw (q, after-at t c);
    }

    -- the way out, and the two ways on; the code names the event by the entry, and its places by x
    abbrev number : ℕ
    number = get_or part i 0

    changed-as : {t : State} → Changed s light.op number t → Changed s light.op x t
    changed-as {t} c = subst (λ (k : ℕ). Changed s light.op k t) (sym is) c

    answered-as : {g : Given} → Answered s light.op number g → Answered s light.op x g
    answered-as {g} a = subst (λ (k : ℕ). Answered s light.op k g) (sym is) a

    pub its-wrong : (g : Given) → number ≡ e → Answered s light.op number g → false ≡ fits (recorded_in (get_or h.answers x unused_answer)) (given_of h.values g)
        → some e ≡ one_wrong (history_in h) e (get_or h.events e no_light).object (contents_of h.values start) part
    its-wrong g here a f =
        ap some (sym (is ∙ here)) ∙ stops (asked g (answered-as a) f ∙ ap (λ (b : Bool). b && true) (eq-eqb x e (is ∙ here)))

    pub its-right : (g : Given) (t : State) → number ≡ e → Answered s light.op number g → true ≡ fits (recorded_in (get_or h.answers x unused_answer)) (given_of h.values g)
        → Changed s light.op number t → PartPassed h start part e (i + 1) t
    its-right g t here a f c = goes-on (asked g (answered-as a) f ∙ and-false (only e x)) t (changed-as c)

    pub passes : (t : State) → (number ≡ e → ⊥) → Changed s light.op number t → PartPassed h start part e (i + 1) t
    passes t other c = goes-on (rw (ne_eqb x e (λ q. other (sym is ∙ q)))) t (changed-as c)

-- a silent event is never wrong
module _ {h : LightHistory} {start : State} {view : List ℕ} {kept : ℕ → Bool} {e : ℕ} (r : ReadyKept h start view kept e) (t : (get_or h.events e no_light).silent ≡ true) where
  its-answer : (c : List ℕ)
      → fits (event (history_in h) e).answer (gives (object (history_in h) (its-place h e)) (event (history_in h) e).op (event (history_in h) e).value c) ≡ true
  unfolding history_in
  its-answer c =
      ap (λ (y : Event). fits y.answer (gives (its-object h e) y.op y.value c)) (event-at h e r.own)
      ∙ r.parts.silent e r.own t (value_in h.values e) c

  pub silent-part : (c part : List ℕ) → none ≡ one_wrong (history_in h) e (get_or h.events e no_light).object c part
  silent-part c [] = refl
  silent-part c (f ∷ fs) =
      let rest = silent-part (after (object (history_in h) (its-place h e)) (event (history_in h) f).op (event (history_in h) f).value c) fs in
      by-test (eqb f e)
      (λ q. rw (q, ap (λ (x : ℕ). fits (event (history_in h) x).answer (gives (object (history_in h) (its-place h e)) (event (history_in h) x).op (event (history_in h) x).value c)) (eqb-true f e q) ∙ its-answer c) rest)
      (λ q. rw q rest)

-- ---- the rows of the objects
-- the rows of the events before e
abbrev pub RowsOf : List Light → List ℕ → ℕ → Type 0
RowsOf ls rows e = (o : ℕ) → o < 16 → (f : ℕ) → in_row (get_or rows o 0) f ≡ ltb f e && eqb (get_or ls f no_light).object o
