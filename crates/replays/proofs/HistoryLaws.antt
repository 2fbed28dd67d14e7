-- A history taken apart is the history: its events, its objects and what they hold at the start. Assumes nothing.
use Prim.Native.Nat.{ℕ, zero, suc, ◌≤◌, ◌<◌}
use native.Mathlib.Nat.{not-suc-le-zero}
use native.Mathlib.Numerals.{add-one}
use native.Mathlib.Omega.{arith}
use mathlib.Core.Path.{◌≡◌, refl, sym, ap, ap₂, ◌∙◌}
use mathlib.Core.Bool.{Bool, true, not, ◌&&◌, false≢true}
use mathlib.Core.List.{List, [], ◌∷◌, ◌++◌, map, map-append}
use mathlib.Core.Option.{Option}
use lib.ListN.{length, get_or, take, drop, length-map, length-set, take-append-drop, get_or-append}
use lib.Seq.{length-take-le, get_or-take, set-append_left, ext_get_or}
use lib.Dec.{eqb}
use borrow.Author.Tests.{eq-eqb, eqb-true, not-true}
use Rattle.layout.proofs.Cases.{and_left, and_right}
use Rattle.history.specs.declared.record.Kind.TheVariants.{Register}
use Rattle.history.specs.declared.record.Object.{Object}
use Rattle.history.specs.declared.record.Op.{Op}
use Rattle.history.specs.declared.record.Op.TheVariants.{Write, Read, Push, Pop, Peek}
use Rattle.history.specs.declared.record.Answer.{Answer}
use Rattle.history.specs.declared.record.History as WrittenHistory
use Rattle.history.specs.Record.{no_object, no_event, objects_in, events_in}
use Rattle.history.specs.Kinds.{is_channel}
use Rattle.history.proofs.PadLaws.{take_more}
use Rattle.history.proofs.Guarantees.{SoundEvent, Sound}
use Rattle.criteria.specs.Tests.{found_if, or, table, mem}
use Rattle.criteria.specs.Object.{fresh, keeps, after, gives}
use Rattle.criteria.specs.History.{Event, History, event, object}
use Rattle.criteria.specs.Replay.{Contents, start, changed}
use Rattle.criteria.specs.Check.{right, first_wrong}
use Rattle.criteria.specs.Records.{event_of, history_of}
use Rattle.criteria.proofs.Lists.{by-test, true-or-left, true-or-right}
use Rattle.objects.specs.declared.state.State.{State}
use Rattle.objects.specs.State.{value_in, contents_of, no_state, Fresh}
use Rattle.replays.specs.declared.light.LightHistory.{LightHistory}
use Rattle.replays.specs.declared.replay.Visible.{Visible}
use Rattle.replays.specs.declared.replay.Visible.TheVariants.{All, Of, Only}
use Rattle.replays.specs.Replay.{event_in, history_in, contents_in, is_visible, Silent, SoundParts, Ready}
use Rattle.replays.specs.Light.{never_answers, is_silent, EventsApart}
use Rattle.replays.proofs.ReplayLaws.{fresh-stands}

-- an element of a list that is mapped
get_or-mapped : {A : Type 0} (f : A → List ℕ) (l : List A) (i : ℕ) (d : A) → i < length l → get_or (map f l) i [] ≡ f (get_or l i d)
get_or-mapped f [] i d h = absurd (not-suc-le-zero h)
get_or-mapped f (x ∷ l) zero d h = refl
get_or-mapped f (x ∷ l) (suc i) d h = get_or-mapped f l i d (omega arith)

-- an op that never answers gives no value
never-gives : (o : Object) (op : Op) (v : ℕ) (c : List ℕ) → never_answers o.kind op ≡ true → gives o op v c ≡ []
never-gives o Write v c t = refl
never-gives o Read v c t = absurd (false≢true t)
never-gives o Push v c t = rw (not-true (is_channel o.kind) t)
never-gives o Pop v c t = absurd (false≢true t)
never-gives o Peek v c t = absurd (false≢true t)

-- an answer that was lost, or that has no value where the op never answers, is what any object gives
silent-right : (o : Object) (op : Op) (a : Answer) → is_silent o.kind op a ≡ true → Silent o op a
silent-right o op a t v c =
    by-test a.lost
    (λ l. rw l)
    (λ l.
    let q : never_answers o.kind op && eqb a.count 0 ≡ true = rw l at t in
    let n = never-gives o op v c (and_left (never_answers o.kind op) (eqb a.count 0) q) in
    rw (l, eqb-true a.count 0 (and_right (never_answers o.kind op) (eqb a.count 0) q), n))

-- ---- the events
table-takes : {A B : Type 0} (f : ℕ → B) (g : A → B) (xs : List A) (d : A) (n : ℕ) → n ≤ length xs → ((e : ℕ) → e < n → f e ≡ g (get_or xs e d))
    → table n f ≡ map g (take n xs)
table-takes f g xs d zero h e = refl
table-takes f g xs d (suc n) h e =
    ap₂ (λ l x. l ++ x ∷ []) (table-takes f g xs d n (omega arith) (λ k l. e k (omega arith))) (e n (omega arith))
    ∙ sym (ap (map g) (rw add-one at (take_more xs n d (omega arith))) ∙ map-append g (take n xs) (get_or xs n d ∷ []))

module _ (h : WrittenHistory.History) (l : LightHistory) (t : EventsApart h l)
    (values : (e : ℕ) → e < h.count → get_or l.values e 0 ≡ (get_or h.events e no_event).value) where
  event-as : (e : ℕ) → e < h.count → event_in l e ≡ event_of (get_or h.events e no_event)
  unfolding event_of
  event-as e b = rw (t.lights e b, values e b, t.answers e b)

  -- the events are those of the history
  events-are : h.count ≤ 64 → length h.events ≡ 64 → table h.count (event_in l) ≡ map event_of (events_in h)
  events-are few long = table-takes (event_in l) event_of h.events no_event h.count (omega arith) event-as

-- ---- the objects: only those that events name count
module _ (os ps : List Object) (es : List Event)
    (agree : (o : ℕ) → get_or os o record { kind = Register; width = 0 } ≡ get_or ps o record { kind = Register; width = 0 }) where
  pub other-objects : (vis : ℕ → Bool) (s : Contents) (v : List ℕ)
      → first_wrong record { objects = os; events = es } vis s v ≡ first_wrong record { objects = ps; events = es } vis s v
  unfolding right
  other-objects vis s [] = refl
  other-objects vis s (e ∷ v) =
      rw (agree (event record { objects = os; events = es } e).object)
      (ap (λ (x : Option ℕ). or (found_if (vis e && not (right record { objects = ps; events = es } s e)) e) x)
      (other-objects vis (changed record { objects = ps; events = es } s e) v))

-- tests that agree on a view
pub wrong-same : (h : History) (vis seen : ℕ → Bool) (s : Contents) (v : List ℕ) → ((f : ℕ) → mem f v ≡ true → vis f ≡ seen f)
    → first_wrong h vis s v ≡ first_wrong h seen s v
wrong-same h vis seen s [] q = refl
wrong-same h vis seen s (x ∷ v) q =
    rw (q x (true-or-left (mem x v) (eq-eqb x x refl)))
    (ap (or (found_if (seen x && not (right h s x)) x)) (wrong-same h vis seen (changed h s x) v (λ f t. q f (true-or-right (eqb f x) t))))

-- ---- what is visible, event by event
pub same-visible : (h : History) (vis seen : ℕ → Bool) → ((e : ℕ) → vis e ≡ seen e) → (s : Contents) (v : List ℕ)
    → first_wrong h vis s v ≡ first_wrong h seen s v
same-visible h vis seen q s v = wrong-same h vis seen s v (λ e _. q e)

pub visible-events : (os ps : List Object) (es : List Event) (who : Visible) (e : ℕ)
    → is_visible record { objects = os; events = es } who e ≡ is_visible record { objects = ps; events = es } who e
visible-events os ps es All e = refl
visible-events os ps es (Of p) e = refl
visible-events os ps es (Only f) e = refl

-- ---- what the objects hold: cells that no event names do not count
module _ (h : History) (vis : ℕ → Bool) (t : Contents) where
  pub longer : (s : Contents) (v : List ℕ) → ((e : ℕ) → mem e v ≡ true → (event h e).object < length s)
      → first_wrong h vis (s ++ t) v ≡ first_wrong h vis s v
  unfolding right
  longer s [] f = refl
  longer s (e ∷ v) f =
      let l : (event h e).object < length s = f e (true-or-left (mem e v) (eq-eqb e e refl)) in
      rw (get_or-append s t [] (event h e).object l, set-append_left s t (event h e).object (after (object h (event h e).object) (event h e).op (event h e).value (get_or s (event h e).object [])) l)
      (ap (λ (x : Option ℕ). or (found_if (vis e && not (right h s e)) e) x)
      (longer (changed h s e) v
      (λ k m. omega (arith, f k (true-or-right (eqb k e) m), length-set s (event h e).object (after (object h (event h e).object) (event h e).op (event h e).value (get_or s (event h e).object []))))))

-- the first cells are those of the declared objects
pub starts-are : (os all : List Object) (states : List State) (vs : List ℕ) → length os ≤ length states → value_in vs 64 ≡ 0
    → ((o : ℕ) → o < length os → get_or all o no_object ≡ get_or os o no_object)
    → ((o : ℕ) → o < length os → Fresh (get_or all o no_object) (get_or states o no_state))
    → take (length os) (contents_in vs states) ≡ map fresh os
starts-are os all states vs few z same fresh-as =
    let n : length (take (length os) (contents_in vs states)) ≡ length os =
    length-take-le (length os) (contents_in vs states) (omega (arith, length-map states (contents_of vs))) in
    ext_get_or [] (take (length os) (contents_in vs states)) (map fresh os) (n ∙ sym (length-map os fresh))
    (λ o h.
    let l : o < length os = omega (arith, n) in
    get_or-take (length os) (contents_in vs states) o [] l
    ∙ get_or-mapped (contents_of vs) states o no_state (omega arith)
    ∙ (fresh-as o l).contents vs z
    ∙ ap fresh (same o l)
    ∙ sym (get_or-mapped fresh os o no_object l))

-- ---- a replay of the history that was taken apart is a replay of the history
module _ (h : WrittenHistory.History) (l : LightHistory) (t : EventsApart h l) (states : List State)
    (values : (e : ℕ) → e < h.count → get_or l.values e 0 ≡ (get_or h.events e no_event).value)
    (zero-value : get_or l.values 64 0 ≡ 0)
    (few : h.count ≤ 64)
    (long : length h.events ≡ 64)
    (places : length (objects_in h) ≤ length states)
    (agree : (o : ℕ) → get_or h.objects o no_object ≡ get_or (objects_in h) o no_object)
    (fresh-as : (o : ℕ) → o < length (objects_in h) → Fresh (get_or h.objects o no_object) (get_or states o no_state))
    (who : Visible) (v : List ℕ)
    (named : (e : ℕ) → mem e v ≡ true → (event (history_of h) e).object < length (objects_in h)) where
  same_start : contents_in l.values states ≡ map fresh (objects_in h) ++ drop (length (objects_in h)) (contents_in l.values states)
  same_start =
      sym (take-append-drop (length (objects_in h)) (contents_in l.values states))
      ∙ ap (λ (c : Contents). c ++ drop (length (objects_in h)) (contents_in l.values states))
      (starts-are (objects_in h) h.objects states l.values places zero-value (λ o b. agree o) fresh-as)

  same_history : history_in l ≡ record { objects = h.objects; events = map event_of (events_in h) }
  unfolding history_in
  same_history = rw (t.objects, t.size, events-are h l t values few long)

  pub replay-is : first_wrong (history_in l) (is_visible (history_in l) who) (contents_in l.values states) v
      ≡ first_wrong (history_of h) (is_visible (history_of h) who) (start (history_of h)) v
  unfolding history_of
  replay-is =
      let es : List Event = map event_of (events_in h) in
      let k : History = record { objects = objects_in h; events = map event_of (events_in h) } in
      ap (λ (x : History). first_wrong x (is_visible x who) (contents_in l.values states) v) same_history
      ∙ other-objects h.objects (objects_in h) es agree (is_visible record { objects = h.objects; events = es } who) (contents_in l.values states) v
      ∙ same-visible k (is_visible record { objects = h.objects; events = es } who) (is_visible k who) (visible-events h.objects (objects_in h) es who) (contents_in l.values states) v
      ∙ ap (λ (s : Contents). first_wrong k (is_visible k who) s v) same_start
      ∙ longer k (is_visible k who) (drop (length (objects_in h)) (contents_in l.values states)) (map fresh (objects_in h)) v
      (λ e m. omega (arith, named e m, length-map (objects_in h) fresh))

-- ---- what a replay takes for granted is what the reader guarantees
module _ (h : WrittenHistory.History) (s : Sound h) (l : LightHistory) (t : EventsApart h l) (values-long : length l.values ≡ 65) (states : List State) (view : List ℕ)
    (agree : (o : ℕ) → get_or h.objects o no_object ≡ get_or (objects_in h) o no_object)
    (fresh-as : (o : ℕ) → o < 16 → Fresh (get_or h.objects o no_object) (get_or states o no_state))
    (narrow : (o : ℕ) → keeps (get_or h.objects o no_object).kind (get_or h.objects o no_object).width ≤ 8)
    (short-view : length view ≤ 64)
    (entries : (i : ℕ) → i < length view → get_or view i 0 < h.count) where
  sound-at : (e : ℕ) → e < h.count → SoundEvent (objects_in h) (get_or h.events e no_event)
  sound-at e b =
      let q : get_or (events_in h) e no_event ≡ get_or h.events e no_event = get_or-take h.count h.events e no_event b in
      rw q at (s.event e b)

  below : (e : ℕ) → e < l.size → e < h.count
  below e b = omega (arith, t.size)

  parts-of : SoundParts l
  parts-of = record {
    values = values-long;
    small = omega (arith, t.size, s.count);
    object = λ e b. let a = sound-at e (below e b) in rw (t.lights e (below e b)) (omega (arith, a.declared, s.objects, s.declared));
    op = λ e b. rw (t.objects, t.lights e (below e b), agree (get_or h.events e no_event).object) (sound-at e (below e b)).op;
    answer = λ e b f. rw (t.answers e (below e b)) (sound-at e (below e b)).few;
    silent = λ e b q.
        let x = get_or h.events e no_event in
        rw (t.objects, t.lights e (below e b), t.answers e (below e b))
        (silent-right (get_or h.objects x.object no_object) x.op x.answer (rw (t.lights e (below e b)) at q));
  }

  pub ready_of : Ready l states view
  ready_of = record {
    parts = parts-of;
    short = short-view;
    event = λ i b. omega (arith, entries i b, t.size);
    start = λ o b. rw t.objects (fresh-stands (get_or h.objects o no_object) (get_or states o no_state) (narrow o) (fresh-as o b));
  }
